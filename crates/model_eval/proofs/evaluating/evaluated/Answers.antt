use Rattle.std.proofs.Common.{◌∷◌, [], sym, subst}
use Rattle.term_orders.specs.Orders.{IsOrder}
use Rattle.model_eval.specs.Models.{assignment_of}
use Rattle.model_eval.proofs.Passes.{roots_live, root_there, copied_ok}
use Rattle.model_eval.proofs.evaluating.evaluated.Goals as goal

pub subterms-requires : goal.subterms-requires
subterms-requires c = roots_live c.args.table.now c.args.t c.requires.live

pub values_along-requires-clause-order : goal.values_along-requires-clause-order
values_along-requires-clause-order c = (c.args.t ∷ [], subst (IsOrder c.args.table.now (c.args.t ∷ [])) (sym c.as_slice.ensures) c.in-Ok.ensures)

pub returns-in-Ok-values_along-clause-value : goal.returns-in-Ok-values_along-clause-value
returns-in-Ok-values_along-clause-value c =
    let w = c.args.table.now in let t = c.args.t in
    let there = root_there w t c.as_slice.result.now (subst (IsOrder w (t ∷ [])) (sym c.as_slice.ensures) c.in-Ok.ensures) in
    copied_ok w (assignment_of w c.args.model.now) c.in-Ok-values_along.known.entries t c.copied.result (c.in-Ok-values_along.ensures.values t there) c.copied.ensures.value
