use Rattle.std.proofs.Common.{◌≡◌, List, length, get_or, ap, ◌∙◌, subst}
use Rattle.std.proofs.lemmas.Result.{err_from_is_err_and}
use Rattle.rationals.specs.Delta.{Delta}
use Rattle.simplex_table.specs.Causes.{WideAlong, Summing}
use Rattle.simplex_table.specs.View.{State, Sound, WideIn, KnownOr, form_of}
use Rattle.simplex_table.proofs.Adding.{same_width, sum_next, wide_sum}
use Rattle.simplex_table.proofs.Widths.{on_wide}
use Rattle.simplex_table.proofs.Tableau.sum.Goals as goal

pub summed-requires : goal.summed-requires
summed-requires c =
    let s = c.args.self.now in let t = c.loop-variable-item.result in let r = c.index.result.now in
    let f : r ≡ get_or s.table t.0 r = c.index.ensures ∙ ap (λ (u : State). get_or u.table t.0 r) c.self.view_is in
    record { same_length = same_width s (subst Sound c.self.view_is c.self.invariant) c.args.row.now c.requires c.loop-variable.variable-index t r c.loop-variable.sum c.loop-variable-test.true c.loop-variable-item.is f c.loop-variable.invariant }

pub returns-in_err-sum-2-clause-wide : goal.returns-in_err-sum-2-clause-wide
returns-in_err-sum-2-clause-wide c =
    let p = err_from_is_err_and c.from_residual-in_err-sum-2.result c.from_residual-in_err-sum-2.ensures.1 in
    let s = c.args.self.now in let t = c.loop-variable-item.result in let r = c.index.result.now in
    let f : r ≡ get_or s.table t.0 r = c.index.ensures ∙ ap (λ (u : State). get_or u.table t.0 r) c.self.view_is in
    rw (p.1, p.2) (on_wide (WideAlong (length c.loop-variable.sum) (Summing c.loop-variable.sum t.1 r)) (λ w. (C : List Delta) → WideIn s (KnownOr s (form_of c.args.row.now)) C w) c.in_err-sum-2.field-0.0
    (λ w a C. wide_sum s (subst Sound c.self.view_is c.self.invariant) c.args.row.now c.requires C c.loop-variable.variable-index t r c.loop-variable.sum w c.loop-variable-test.true c.loop-variable-item.is f c.loop-variable.invariant a) c.in_err-sum-2.ensures.wide)

pub loop-variable-preserved : goal.loop-variable-preserved
loop-variable-preserved c =
    let s = c.args.self.now in let t = c.loop-variable-item.result in let r = c.index.result.now in
    let f : r ≡ get_or s.table t.0 r = c.index.ensures ∙ ap (λ (u : State). get_or u.table t.0 r) c.self.view_is in
    sum_next s (subst Sound c.self.view_is c.self.invariant) c.args.row.now c.requires c.loop-variable.variable-index t r c.loop-variable.sum c.in_ok-sum-2.sum c.loop-variable-test.true c.loop-variable-item.is f c.loop-variable.invariant c.in_ok-sum-2.ensures.ok
