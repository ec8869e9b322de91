use Rattle.std.proofs.Common.{◌≡◌, ◌<◌, length, get_or, ap, ◌∙◌, subst}
use Rattle.std.proofs.lemmas.Result.{err_from_is_err_and}
use Rattle.simplex_table.specs.View.{State, Sound, deltas}
use Rattle.simplex_table.proofs.Pivoting.{read_row}
use Rattle.simplex_table.proofs.Values.{values_more, values_all}
use Rattle.simplex_table.proofs.Widths.{wide_value}
use Rattle.simplex_table.proofs.Tableau.values.Goals as goal

pub loop-row-preserved : goal.loop-row-preserved
loop-row-preserved c =
    values_more (deltas c.args.at_columns.now) c.deref-row-items.result.now c.loop-row.values.items c.push.new.self.items c.loop-row.row-index c.row-item.result c.in_ok-value.field-0 c.loop-row-test.true c.loop-row.invariant c.row-item.is
    c.in_ok-value.ensures.ok c.in_ok-push.ensures.items

pub returns-in_err-value-clause-wide : goal.returns-in_err-value-clause-wide
returns-in_err-value-clause-wide c =
    let p = err_from_is_err_and c.from_residual-in_err-value.result c.from_residual-in_err-value.ensures.1 in
    let s = c.args.self.now in
    let h : Sound s = subst Sound c.self.view_is c.self.invariant in
    let t : c.deref-row-items.result.now ≡ s.table = c.deref-row-items.ensures.value ∙ ap (λ (u : State). u.table) c.self.view_is in
    let i : c.loop-row.row-index < length s.rows = subst (λ n. c.loop-row.row-index < n) (ap length t ∙ h.long) c.loop-row-test.true in
    let e : c.row-item.result ≡ get_or s.table c.loop-row.row-index c.row-item.result = c.row-item.is ∙ ap (λ bs. get_or bs c.loop-row.row-index c.row-item.result) t in
    rw (p.1, p.2) (λ C v. wide_value s h C (deltas c.args.at_columns.now) c.loop-row.row-index c.row-item.result c.in_err-value.field-0.0 v i (read_row s c.loop-row.row-index c.row-item.result h i e) c.in_err-value.ensures.wide)

pub returns-clause-ok : goal.returns-clause-ok
returns-clause-ok c =
    let s = c.args.self.now in
    let t : c.deref-row-items.result.now ≡ s.table = c.deref-row-items.ensures.value ∙ ap (λ (u : State). u.table) c.self.view_is in
    values_all s (deltas c.args.at_columns.now) c.deref-row-items.result.now c.loop-row.values.items c.loop-row.row-index (subst Sound c.self.view_is c.self.invariant) t c.loop-row-test.false c.loop-row.invariant
