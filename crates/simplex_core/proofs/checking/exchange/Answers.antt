use Rattle.std.proofs.Common.{◌≡◌, ◌<◌, List, Option, length, set, sym, ap, ◌∙◌, subst, arith, get_or}
use Rattle.std.proofs.lemmas.Result.{err_from_is_err_and}
use Rattle.std.specs.Prelude.{not}
use Rattle.simplex_core.proofs.TurnLemmas.{found_is, is_basic, entry_moves, turned_on, turn_falls, points_stand, vertex_of}
use Rattle.simplex_core.proofs.WideLemmas.{on_stop}
use Rattle.simplex_logic.specs.Forms.{Form}
use Rattle.simplex_table.specs.View.{deltas, AreValues}
use Rattle.simplex_core.specs.Wides.{OnStop, IsWide, Known}
use Rattle.simplex_core.specs.Checking.{ArePoints, IsWideAnyway, IsWideIn, IsWideAtVertex, Turning, turns_left, marks_after}
use Rattle.simplex_core.proofs.checking.exchange.Goals as goal

pub pivot-requires-clause-known : goal.pivot-requires-clause-known
pivot-requires-clause-known c =
    let f = found_is c.args.tableau.now c.args.ranges.now c.args.run.now.values.items c.args.run.now.spent.value c.args.bound.now c.args.column c.requires.turning c.requires.violated c.requires.first in
    f.is_variable

pub pivot-requires-clause-basic : goal.pivot-requires-clause-basic
pivot-requires-clause-basic c =
    let f = found_is c.args.tableau.now c.args.ranges.now c.args.run.now.values.items c.args.run.now.spent.value c.args.bound.now c.args.column c.requires.turning c.requires.violated c.requires.first in
    is_basic c.args.tableau.now c.args.ranges.now c.args.run.now.values.items c.args.run.now.spent.value c.args.bound.now.variable (not c.args.bound.now.upper) c.requires.turning f.violates

pub pivot-requires-clause-nonzero : goal.pivot-requires-clause-nonzero
pivot-requires-clause-nonzero c = entry_moves (not c.args.bound.now.upper) _ _ _ _ c.requires.first.moves

pub index_mut-requires : goal.index_mut-requires
index_mut-requires c =
    let f = found_is c.args.tableau.now c.args.ranges.now c.args.run.now.values.items c.args.run.now.spent.value c.args.bound.now c.args.column c.requires.turning c.requires.violated c.requires.first in
    omega (arith, f.is_variable, c.requires.turning.long, c.args.run.now.values.ok.0)

pub returns-in_err-pivot-clause-wide : goal.returns-in_err-pivot-clause-wide
returns-in_err-pivot-clause-wide c =
    let p = err_from_is_err_and c.from_residual.result c.from_residual.ensures.1 in
    rw (p.1, p.2) (on_stop (IsWideAnyway c.args.tableau.now.rows) (IsWideIn c.args.tableau.now.rows c.args.ranges.now) c.in_err-pivot.field-0.0 (λ w h bounds g. h bounds) c.in_err-pivot.ensures.wide)

pub returns-in_err-values-clause-wide : goal.returns-in_err-values-clause-wide
returns-in_err-values-clause-wide c =
    let p = err_from_is_err_and c.from_residual-in_err-values.result c.from_residual-in_err-values.ensures.1 in
    let s = c.args.tableau.now in
    let s' = c.pivot.new.tableau in
    let values = c.args.run.now.values.items in
    let b = c.args.bound.now in
    let found = c.in_ok-at_columns.at_columns.items in
    let q : ArePoints s'.columns (set values b.variable b.value) found =
    subst (λ vs. ArePoints s'.columns vs found) c.deref.ensures.value (subst (λ cs. ArePoints cs c.deref.result.now found) c.columns-2.ensures.value c.in_ok-at_columns.ensures) in
    let r : OnStop (IsWideAtVertex s' (deltas found)) c.in_err-values.field-0.0 = subst (λ ds. OnStop (IsWideAtVertex s' (deltas ds)) c.in_err-values.field-0.0) c.deref-2.ensures.value c.in_err-values.ensures.wide in
    let e = c.in_ok-pivot.ensures.ok in
    rw (p.1, p.2) (on_stop (IsWideAtVertex s' (deltas found)) (IsWideIn s.rows c.args.ranges.now) c.in_err-values.field-0.0
    (λ w h bounds g. subst (λ (rs : List (Option Form)). IsWide rs (Known rs) bounds w) e.rows
    (h bounds (vertex_of (length s.rows) bounds c.args.ranges.now s'.columns found g q.long
    (points_stand s s' c.args.ranges.now values values found c.args.run.now.spent.value b c.args.column c.requires.turning c.requires.violated c.requires.first c.columns-2.ensures.sound e q)))) r)

pub returns-clause-ok : goal.returns-clause-ok
returns-clause-ok c =
    let s = c.args.tableau.now in
    let s' = c.pivot.new.tableau in
    let values = c.args.run.now.values.items in
    let values' = c.in_ok-values.values.items in
    let b = c.args.bound.now in
    let found = c.in_ok-at_columns.at_columns.items in
    let spent = c.args.run.now.spent.value in
    let q : ArePoints s'.columns (set values b.variable b.value) found =
    subst (λ vs. ArePoints s'.columns vs found) c.deref.ensures.value (subst (λ cs. ArePoints cs c.deref.result.now found) c.columns-2.ensures.value c.in_ok-at_columns.ensures) in
    let v : AreValues s' (deltas found) values' = subst (λ ds. AreValues s' (deltas ds) values') c.deref-2.ensures.value c.in_ok-values.ensures.ok in
    let e = c.in_ok-pivot.ensures.ok in
    let m : c.made.result.value ≡ marks_after b.variable (get_or s.columns c.args.column 0) spent = c.made.ensures ∙ ap (λ cs. marks_after b.variable (get_or cs c.args.column 0) spent) c.columns.ensures.value in
    let h : Turning s' c.args.ranges.now values' (marks_after b.variable (get_or s.columns c.args.column 0) spent) × (turns_left s' (marks_after b.variable (get_or s.columns c.args.column 0) spent) < turns_left s spent) = (
      turned_on s s' c.args.ranges.now values values' found spent b c.args.column c.requires.turning c.requires.violated c.requires.first c.columns-2.ensures.sound e q v,
      turn_falls s s' c.args.ranges.now values values' found spent b c.args.column c.requires.turning c.requires.violated c.requires.first c.columns-2.ensures.sound e q v,
    ) in
    subst (λ sp. Turning s' c.args.ranges.now values' sp × (turns_left s' sp < turns_left s spent)) (sym m) h
