use Rattle.std.proofs.Common.{sym, subst}
use Rattle.yices_parser.specs.Steps.{Takes}
use Rattle.yices_parser.proofs.Beginning.{expr_or_end_word}
use Rattle.yices_parser.proofs.parser.expr_or_end_word.Goals as goal

pub returns : goal.returns
returns c = λ p. subst (λ o. Takes p o c.expr_word.result) (sym (expr_or_end_word p c.args.at c.args.word.now c.args.name c.args.of c.new-frames.result c.new-frames.ensures)) (c.expr_word.ensures p)
