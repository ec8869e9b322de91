use Rattle.std.proofs.Common.{◌<◌, ◌≤◌, ◌≡◌, ◌∙◌, ap, sym, subst, arith, ⊎_elim, false, get_or}
use Rattle.std.specs.Prelude.{slice_get}
use Rattle.std.proofs.lemmas.Bool.{cases_lt}
use Rattle.std.proofs.lemmas.Option.{same_Some, slice_get_within, slice_get-get_or}
use Rattle.clause_logic.specs.declared.Lit.{Lit}
use Rattle.clause_logic.proofs.Members.{in_at, get_from_in}
use Rattle.clause_search.proofs.search.all_below.Goals as goal

abbrev none : Lit
none = record { var = 0; positive = false }

pub returns-then-lit-vars-clause-no : goal.returns-then-lit-vars-clause-no
returns-then-lit-vars-clause-no c = λ all. omega (arith, c.if-lit-vars.true, all _ (in_at c.args.lits.now c.loop-lit.lit-index none c.loop-lit-test.true))

pub loop-lit-preserved : goal.loop-lit-preserved
loop-lit-preserved c = λ k m below at.
    ⊎_elim
    (λ (h : k < c.loop-lit.lit-index). c.loop-lit.invariant k m h at)
    (λ (h : c.loop-lit.lit-index ≤ k).
    let same : k ≡ c.loop-lit.lit-index = omega arith in
    let it : get_or c.args.lits.now c.loop-lit.lit-index none ≡ m = same_Some (get_or c.args.lits.now c.loop-lit.lit-index none) m (sym (slice_get-get_or c.args.lits.now c.loop-lit.lit-index none c.loop-lit-test.true) ∙ ap (slice_get c.args.lits.now) (sym same) ∙ at) in
    subst (λ (x : Lit). x.var < c.args.vars) it c.if-lit-vars.false)
    (cases_lt k c.loop-lit.lit-index)

pub returns-clause-yes : goal.returns-clause-yes
returns-clause-yes c = λ m i.
    let g = get_from_in c.args.lits.now m i in c.loop-lit.invariant g.0 m (omega (arith, c.loop-lit-test.false, slice_get_within c.args.lits.now g.0 m g.1)) g.1
