use Rattle.std.proofs.Common.{◌<◌, All, length, sym, ap, ◌∙◌, subst}
use Rattle.simplex_logic.specs.Vectors.{summed, zeros}
use Rattle.simplex_table.specs.Inside.{state_of}
use Rattle.simplex_table.specs.View.{State, row_at, form_of}
use Rattle.simplex_table.proofs.Soundness.{row_added}
use Rattle.simplex_table.proofs.Tableau.add_row.Goals as goal

pub invariant_of-self-2 : goal.invariant_of-self-2
invariant_of-self-2 c =
    row_added (state_of c.self.inside) c.args.row.now c.made.result.value c.push.new.self.items c.in_ok-coefficients.coefficients c.self.invariant
    (subst (λ (t : State). All (λ u. u.0 < length t.rows) c.args.row.now) (sym c.self.view_is) c.requires) c.made.ensures c.in_ok-push.ensures.items
    (c.in_ok-coefficients.ensures.ok ∙ ap (λ (t : State). summed (row_at t.table) (zeros (length t.columns)) (form_of c.args.row.now)) (sym c.self.view_is))
