use Rattle.std.proofs.Common.{◌<◌, ◌≤◌, ◌≡◌, ◌∙◌, ap, sym, subst, arith, ⊎_elim, false, get_or}
use Rattle.std.specs.Prelude.{slice_get}
use Rattle.std.proofs.lemmas.Bool.{cases_lt}
use Rattle.std.proofs.lemmas.Option.{same_Some, slice_get_within, slice_get-get_or}
use Rattle.clause_logic.specs.declared.Lit.{Lit}
use Rattle.clause_logic.proofs.Members.{get_from_in}
use Rattle.clause_search.specs.Answers.{IsFalseIn}
use Rattle.clause_search.proofs.tests.all_false.Goals as goal

abbrev none : Lit
none = record { var = 0; positive = false }

pub loop-l-preserved : goal.loop-l-preserved
loop-l-preserved c = λ k m below at.
    ⊎_elim
    (λ (h : k < c.loop-l.l-index). c.loop-l.invariant k m h at)
    (λ (h : c.loop-l.l-index ≤ k).
    let same : k ≡ c.loop-l.l-index = omega arith in
    let it : get_or c.args.lits.now c.loop-l.l-index none ≡ m = same_Some (get_or c.args.lits.now c.loop-l.l-index none) m (sym (slice_get-get_or c.args.lits.now c.loop-l.l-index none c.loop-l-test.true) ∙ ap (slice_get c.args.lits.now) (sym same) ∙ at) in
    subst (IsFalseIn c.args.shown.now) it c.if-not-is_false.ensures)
    (cases_lt k c.loop-l.l-index)

pub returns : goal.returns
returns c = λ m i.
    let g = get_from_in c.args.lits.now m i in c.loop-l.invariant g.0 m (omega (arith, c.loop-l-test.false, slice_get_within c.args.lits.now g.0 m g.1)) g.1
