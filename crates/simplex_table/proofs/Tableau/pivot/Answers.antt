use Rattle.std.proofs.Common.{◌≡◌, List, length, get_or, set, map, sym, ap, ◌∙◌, subst}
use Rattle.std.proofs.lemmas.Result.{err_from_is_err_and}
use Rattle.rationals.specs.Delta.{Delta}
use Rattle.simplex_logic.specs.Vectors.{replaced}
use Rattle.simplex_table.specs.Causes.{WideAlong, Solving}
use Rattle.simplex_table.specs.Columns.{HaveLength, Reordered, RisesBut, WideInRow}
use Rattle.simplex_table.specs.View.{State, Sound, WideIn, Known}
use Rattle.simplex_table.proofs.Pivoting.{solved_in_row, solved_lengths, table_lengths, wide_row, wide_table, sound_after}
use Rattle.simplex_table.proofs.Settling.{rises_set}
use Rattle.simplex_table.proofs.Widths.{on_wide}
use Rattle.simplex_table.proofs.Tableau.pivot.Goals as goal

pub returns-in_err-solved-clause-wide : goal.returns-in_err-solved-clause-wide
returns-in_err-solved-clause-wide c =
    let p = err_from_is_err_and c.from_residual.result c.from_residual.ensures.1 in
    let s = c.args.self.now in
    let h : Sound s = subst Sound c.self.view_is c.self.invariant in
    let e : c.index.result.now ≡ get_or s.table c.args.variable c.index.result.now = c.index.ensures ∙ ap (λ (t : State). get_or t.table c.args.variable c.index.result.now) c.self.view_is in
    rw (p.1, p.2) (on_wide (WideAlong (length c.index.result.now) (Solving c.index.result.now c.args.column)) (λ w. (C : List Delta) → WideIn s (Known s) C w) c.in_err-solved.field-0.0
    (λ w a C. wide_row s c.args.variable c.args.column c.index.result.now C w h c.requires.known c.requires.in_row c.requires.nonzero e a) c.in_err-solved.ensures.wide)

pub replace_all-requires-clause-in_row : goal.replace_all-requires-clause-in_row
replace_all-requires-clause-in_row c =
    let s = c.args.self.now in
    let e : c.index.result.now ≡ get_or s.table c.args.variable c.index.result.now = c.index.ensures ∙ ap (λ (t : State). get_or t.table c.args.variable c.index.result.now) c.self.view_is in
    solved_in_row s (subst Sound c.self.view_is c.self.invariant) c.args.variable c.args.column c.index.result.now c.in_ok-solved.solved c.requires.known c.requires.in_row c.requires.nonzero e c.in_ok-solved.ensures.ok

pub replace_all-requires-clause-same_length : goal.replace_all-requires-clause-same_length
replace_all-requires-clause-same_length c =
    let s = c.args.self.now in
    let e : c.index.result.now ≡ get_or s.table c.args.variable c.index.result.now = c.index.ensures ∙ ap (λ (t : State). get_or t.table c.args.variable c.index.result.now) c.self.view_is in
    subst (λ bs. HaveLength (length c.in_ok-solved.solved) bs) (sym (c.deref.ensures.value ∙ ap (λ (t : State). t.table) c.self.view_is))
    (solved_lengths s (subst Sound c.self.view_is c.self.invariant) c.args.variable c.args.column c.index.result.now c.in_ok-solved.solved c.requires.known c.requires.in_row c.requires.nonzero e c.in_ok-solved.ensures.ok)

pub returns-in_err-table-clause-wide : goal.returns-in_err-table-clause-wide
returns-in_err-table-clause-wide c =
    let p = err_from_is_err_and c.from_residual-in_err-table.result c.from_residual-in_err-table.ensures.1 in
    let s = c.args.self.now in
    let e : c.index.result.now ≡ get_or s.table c.args.variable c.index.result.now = c.index.ensures ∙ ap (λ (t : State). get_or t.table c.args.variable c.index.result.now) c.self.view_is in
    let d : c.deref.result.now ≡ s.table = c.deref.ensures.value ∙ ap (λ (t : State). t.table) c.self.view_is in
    rw (p.1, p.2) (on_wide (WideInRow c.args.column c.in_ok-solved.solved c.deref.result.now) (λ w. (C : List Delta) → WideIn s (Known s) C w) c.in_err-table.field-0.0
    (λ w a C.
    wide_table s (subst Sound c.self.view_is c.self.invariant) c.args.variable c.args.column c.index.result.now c.in_ok-solved.solved c.requires.known c.requires.in_row c.requires.nonzero e c.in_ok-solved.ensures.ok C w
    (subst (λ bs. WideInRow c.args.column c.in_ok-solved.solved bs w) d a)) c.in_err-table.ensures.wide)

pub settle_up-place-requires-clause-rises : goal.settle_up-place-requires-clause-rises
settle_up-place-requires-clause-rises c =
    let h : Sound c.args.self.now = subst Sound c.self.view_is c.self.invariant in
    subst (λ (t : State). RisesBut c.args.column (set t.columns c.args.column c.args.variable)) (sym c.self.view_is) (rises_set c.args.self.now.columns c.args.column c.args.variable h.sorted c.requires.basic c.requires.in_row)

pub settle_up-place-requires-clause-same_length : goal.settle_up-place-requires-clause-same_length
settle_up-place-requires-clause-same_length c =
    let s = c.args.self.now in
    let e : c.index.result.now ≡ get_or s.table c.args.variable c.index.result.now = c.index.ensures ∙ ap (λ (t : State). get_or t.table c.args.variable c.index.result.now) c.self.view_is in
    let d : c.deref.result.now ≡ s.table = c.deref.ensures.value ∙ ap (λ (t : State). t.table) c.self.view_is in
    let t : c.in_ok-table.table.items ≡ map (replaced c.args.column c.in_ok-solved.solved) s.table = c.in_ok-table.ensures.ok ∙ ap (map (replaced c.args.column c.in_ok-solved.solved)) d in
    subst (λ bs. HaveLength (length (set c.self.inside.columns.items c.args.column c.args.variable)) bs) (sym t)
    (subst (λ (u : State). HaveLength (length (set u.columns c.args.column c.args.variable)) (map (replaced c.args.column c.in_ok-solved.solved) s.table)) (sym c.self.view_is)
    (table_lengths s (subst Sound c.self.view_is c.self.invariant) c.args.variable c.args.column c.index.result.now c.in_ok-solved.solved c.requires.known c.requires.in_row c.requires.nonzero e c.in_ok-solved.ensures.ok))

pub invariant_of-self : goal.invariant_of-self
invariant_of-self c =
    let s = c.args.self.now in
    let e : c.index.result.now ≡ get_or s.table c.args.variable c.index.result.now = c.index.ensures ∙ ap (λ (t : State). get_or t.table c.args.variable c.index.result.now) c.self.view_is in
    let d : c.deref.result.now ≡ s.table = c.deref.ensures.value ∙ ap (λ (t : State). t.table) c.self.view_is in
    let t : c.in_ok-table.table.items ≡ map (replaced c.args.column c.in_ok-solved.solved) s.table = c.in_ok-table.ensures.ok ∙ ap (map (replaced c.args.column c.in_ok-solved.solved)) d in
    let cols = c.settle_up-place.new.columns.items in
    let bs = c.settle_up-place.new.table.items in
    let r : Reordered (set s.columns c.args.column c.args.variable) (map (replaced c.args.column c.in_ok-solved.solved) s.table) cols bs =
    subst (λ (u : State). Reordered (set u.columns c.args.column c.args.variable) (map (replaced c.args.column c.in_ok-solved.solved) s.table) cols bs) c.self.view_is
    (subst (λ x. Reordered (set c.self.inside.columns.items c.args.column c.args.variable) x cols bs) t c.settle_up-place.ensures.same) in
    subst (λ (u : State). Sound (record { rows = u.rows; columns = c.settle_down.new.columns.items; table = c.settle_down.new.table.items })) (sym c.self.view_is)
    (sound_after s (subst Sound c.self.view_is c.self.invariant) c.args.variable c.args.column c.index.result.now c.in_ok-solved.solved c.requires.known c.requires.in_row c.requires.nonzero e c.in_ok-solved.ensures.ok cols
    c.settle_down.new.columns.items bs c.settle_down.new.table.items r c.settle_down.ensures.same c.settle_down.ensures.sorted)
