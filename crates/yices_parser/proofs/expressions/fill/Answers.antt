use Rattle.yices_parser.proofs.Filling.{fills_extract, fills_forall}
use Rattle.yices_parser.proofs.expressions.fill.Goals as goal

pub returns-in_ok-extract-in-Extract : goal.returns-in_ok-extract-in-Extract
returns-in_ok-extract-in-Extract c =
    fills_extract c.args.form c.in-Extract.high c.in-Extract.low c.args.expr c.in_ok-extract-in-Extract.field-0 c.in-Extract.is c.in_ok-extract-in-Extract.ensures

pub returns-in_ok-quantified-in-Forall : goal.returns-in_ok-quantified-in-Forall
returns-in_ok-quantified-in-Forall c =
    fills_forall c.args.form c.in-Forall.decls c.args.expr c.in_ok-quantified-in-Forall.field-0 c.in-Forall.is c.in_ok-quantified-in-Forall.ensures
