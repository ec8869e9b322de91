use Rattle.std.specs.Map.{lookup}
use Rattle.y_tree.specs.Plain.{plain_value}
use Rattle.model_eval.specs.Known.{same_term}
use Rattle.model_eval.proofs.Zeros.{own_ok, no_own}
use Rattle.model_eval.proofs.shapes.constant.Goals as goal

pub returns-in-Some : goal.returns-in-Some
returns-in-Some c =
    own_ok c.args.table.now c.args.of (lookup (same_term c.args.t) c.args.model.now) (plain_value c.in-Some.value.now) c.copy_value.result c.in-Some.ensures c.copy_value.ensures

pub returns-in-None : goal.returns-in-None
returns-in-None c =
    no_own c.args.table.now c.args.of (lookup (same_term c.args.t) c.args.model.now) c.zero_at.result c.in-None.ensures c.zero_at.ensures
