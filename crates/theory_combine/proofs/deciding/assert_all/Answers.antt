use Rattle.std.proofs.Common.{⊎_elim, ap, subst, arith}
use Rattle.clause_logic.specs.declared.Lit.{Lit}
use Rattle.clause_logic.specs.Clauses.{In}
use Rattle.clause_search.specs.Content.{Stacked}
use Rattle.node_encoding.proofs.Adding.{no_lit, in_get}
use Rattle.theory_combine.proofs.deciding.assert_all.Goals as goal

pub add_clause-requires : goal.add_clause-requires
add_clause-requires c =
    λ l i. ⊎_elim
    (λ same.
    let small = c.requires.known l (subst (λ (m : Lit). In m c.args.lits.now) same (in_get c.args.lits.now c.loop-lit.lit-index no_lit c.loop-lit-test.true)) in
    omega (arith, small, ap (λ (s : Stacked). s.content.vars) c.loop-lit.invariant))
    (λ z. absurd z)
    i
