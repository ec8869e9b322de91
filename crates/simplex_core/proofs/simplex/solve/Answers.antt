use Rattle.std.proofs.Common.{◌≡◌, ℕ, sym, ap, ◌∙◌, subst, length, false}
use Rattle.std.specs.Prelude.{replicate}
use Rattle.std.proofs.lemmas.Result.{err_from_is_err_and}
use Rattle.simplex_logic.specs.Forms.{row_of}
use Rattle.simplex_table.specs.View.{deltas, AreValues}
use Rattle.simplex_bounds.specs.Ranges.{Ranged, Crosses, IsStraight, range_at}
use Rattle.simplex_core.specs.Wides.{OnStop, IsWide, Known}
use Rattle.simplex_core.specs.Checking.{AreStarts, IsWideAtVertex, IsWideIn, Turning}
use Rattle.simplex_core.proofs.WideLemmas.{on_stop}
use Rattle.simplex_core.proofs.ConflictLemmas.{pair_conflict}
use Rattle.simplex_core.proofs.SolveLemmas.{start_turning, solved_of, start_wide}
use Rattle.simplex_core.proofs.simplex.solve.Goals as goal

pub returns-in-Some-clause-ok : goal.returns-in-Some-clause-ok
returns-in-Some-clause-ok c =
    let p : (x : ℕ) × Crosses (range_at c.deref.result.now x) c.in-Some.low c.in-Some.up = c.in-Some.ensures.some in
    pair_conflict (row_of c.args.tableau.now.rows) c.len-count.result c.args.bounds.now c.in_ok-ranges.ranges.items p.0 c.in-Some.low c.in-Some.up c.in_ok-pair.field-0 c.in_ok-ranges.ensures
    (subst (λ rs. Crosses (range_at rs p.0) c.in-Some.low c.in-Some.up) c.deref.ensures.value p.1) c.in_ok-pair.ensures

pub returns-in_err-anew-clause-wide : goal.returns-in_err-anew-clause-wide
returns-in_err-anew-clause-wide c =
    let p = err_from_is_err_and c.from_residual-in_err-anew.result c.from_residual-in_err-anew.ensures.1 in
    let s = c.args.tableau.now in
    let found = c.in_ok-at_columns.at_columns.items in
    let ranges = c.in_ok-ranges.ranges.items in
    let g : Ranged (length s.rows) c.args.bounds.now ranges = subst (λ n. Ranged n c.args.bounds.now ranges) c.len-count.ensures c.in_ok-ranges.ensures in
    let q : AreStarts s.columns ranges found = subst (λ rs. AreStarts s.columns rs found) c.deref-2.ensures.value (subst (λ cs. AreStarts cs c.deref-2.result.now found) c.columns.ensures.value c.in_ok-at_columns.ensures) in
    let r : OnStop (IsWideAtVertex s (deltas found)) c.in_err-anew.field-0.0 = subst (λ ds. OnStop (IsWideAtVertex s (deltas ds)) c.in_err-anew.field-0.0) c.deref-3.ensures.value c.in_err-anew.ensures.wide in
    rw (p.1, p.2) (on_stop (IsWideAtVertex s (deltas found)) (IsWide s.rows (Known s.rows) c.args.bounds.now) c.in_err-anew.field-0.0 (λ w h. start_wide s c.args.bounds.now ranges found w g q h) r)

pub repair-requires : goal.repair-requires
repair-requires c =
    let s = c.args.tableau.now in
    let found = c.in_ok-at_columns.at_columns.items in
    let ranges = c.in_ok-ranges.ranges.items in
    let values = c.in_ok-anew.field-0.items in
    let g : Ranged (length s.rows) c.args.bounds.now ranges = subst (λ n. Ranged n c.args.bounds.now ranges) c.len-count.ensures c.in_ok-ranges.ensures in
    let q : AreStarts s.columns ranges found = subst (λ rs. AreStarts s.columns rs found) c.deref-2.ensures.value (subst (λ cs. AreStarts cs c.deref-2.result.now found) c.columns.ensures.value c.in_ok-at_columns.ensures) in
    let v : AreValues s (deltas found) values = subst (λ ds. AreValues s (deltas ds) values) c.deref-3.ensures.value c.in_ok-anew.ensures.ok in
    let m : c.made.result.value ≡ replicate (length s.rows) false = c.made.ensures ∙ ap (λ n. replicate n false) c.len-count.ensures in
    let h : Turning s ranges values (replicate (length s.rows) false) = start_turning s c.args.bounds.now ranges found values c.columns.ensures.sound g q v
    (subst (λ rs. (x : ℕ) → IsStraight (range_at rs x)) c.deref.ensures.value c.in_default.ensures.none) in
    subst (λ sp. Turning s c.deref-4.result.now values sp) (sym m) (subst (λ rs. Turning s rs values (replicate (length s.rows) false)) (sym c.deref-4.ensures.value) h)

pub returns-in_err-conflict-clause-wide : goal.returns-in_err-conflict-clause-wide
returns-in_err-conflict-clause-wide c =
    let p = err_from_is_err_and c.from_residual-in_err-conflict.result c.from_residual-in_err-conflict.ensures.1 in
    let s = c.args.tableau.now in
    let ranges = c.in_ok-ranges.ranges.items in
    let g : Ranged (length s.rows) c.args.bounds.now c.deref-4.result.now =
    subst (λ rs. Ranged (length s.rows) c.args.bounds.now rs) (sym c.deref-4.ensures.value) (subst (λ n. Ranged n c.args.bounds.now ranges) c.len-count.ensures c.in_ok-ranges.ensures) in
    rw (p.1, p.2) (on_stop (IsWideIn s.rows c.deref-4.result.now) (IsWide s.rows (Known s.rows) c.args.bounds.now) c.in_err-conflict.field-0.0 (λ w h. h c.args.bounds.now g) c.in_err-conflict.ensures.wide)

pub returns-clause-ok : goal.returns-clause-ok
returns-clause-ok c =
    let s = c.args.tableau.now in
    let s' = c.repair.new.tableau in
    let ranges = c.in_ok-ranges.ranges.items in
    let g : Ranged (length s.rows) c.args.bounds.now c.deref-4.result.now =
    subst (λ rs. Ranged (length s.rows) c.args.bounds.now rs) (sym c.deref-4.ensures.value) (subst (λ n. Ranged n c.args.bounds.now ranges) c.len-count.ensures c.in_ok-ranges.ensures) in
    solved_of s' (length s.rows) c.args.bounds.now c.deref-4.result.now c.repair.new.run.values.items c.repair.new.run.spent.value c.in_ok-conflict.conflict g (ap length c.repair.ensures.rows) c.in_ok-conflict.ensures.ok
