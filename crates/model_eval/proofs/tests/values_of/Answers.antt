use Rattle.std.proofs.Common.{◌∙◌, true, ap}
use Rattle.y_tree.specs.Order.{is_formed}
use Rattle.y_tree.proofs.Shapes.{plain_bool, plain_real, plain_elem, plain_fun}
use Rattle.model_eval.proofs.tests.values_of.Goals as goal

pub push-requires : goal.push-requires
push-requires g c = ap is_formed (plain_bool true)

pub push-requires-2 : goal.push-requires-2
push-requires-2 g c = ap is_formed (plain_real c.fraction.result)

pub push-requires-3 : goal.push-requires-3
push-requires-3 g c = ap is_formed (plain_real c.fraction-2.result)

pub push-requires-4 : goal.push-requires-4
push-requires-4 g c = ap is_formed (plain_fun c.in_ok-function.field-0) ∙ c.in_ok-function.ensures

pub push-requires-5 : goal.push-requires-5
push-requires-5 g c = ap is_formed (plain_elem 0 3)
