use Rattle.std.proofs.Common.{◌≡◌, List, [], ◌∷◌, sym, subst, OnOk}
use Rattle.clause_logic.specs.declared.Lit.{Lit}
use Rattle.clause_search.specs.Content.{AllKnown}
use Rattle.clause_gates.specs.Built.{Adds, with_clauses}
use Rattle.clause_gates.specs.Gates.{majority_clauses}
use Rattle.clause_gates.proofs.defining.add_majority.Goals as goal

pub add_rows-requires : goal.add_rows-requires
add_rows-requires c =
    let e : majority_clauses c.args.g c.args.a c.args.b c.args.c ≡ (c.args.g ∷ c.opposite-not_a.result ∷ c.opposite-not_b.result ∷ []) ∷ (c.args.g ∷ c.opposite-not_a.result ∷ c.opposite-not_c.result ∷ []) ∷ (c.args.g ∷ c.opposite-not_b.result ∷ c.opposite-not_c.result ∷ []) ∷ (c.opposite-not_g.result ∷ c.args.a ∷ c.args.b ∷ []) ∷ (c.opposite-not_g.result ∷ c.args.a ∷ c.args.c ∷ []) ∷ (c.opposite-not_g.result ∷ c.args.b ∷ c.args.c ∷ []) ∷ [] = cc in
    subst (AllKnown c.args.search.now.content.vars) e c.requires

pub returns-clause-some : goal.returns-clause-some
returns-clause-some c =
    let e : majority_clauses c.args.g c.args.a c.args.b c.args.c ≡ (c.args.g ∷ c.opposite-not_a.result ∷ c.opposite-not_b.result ∷ []) ∷ (c.args.g ∷ c.opposite-not_a.result ∷ c.opposite-not_c.result ∷ []) ∷ (c.args.g ∷ c.opposite-not_b.result ∷ c.opposite-not_c.result ∷ []) ∷ (c.opposite-not_g.result ∷ c.args.a ∷ c.args.b ∷ []) ∷ (c.opposite-not_g.result ∷ c.args.a ∷ c.args.c ∷ []) ∷ (c.opposite-not_g.result ∷ c.args.b ∷ c.args.c ∷ []) ∷ [] = cc in
    subst (λ (rows : List (List Lit)). Adds c.args.search.now c.add_rows.new.search rows) (sym e) c.add_rows.ensures.some

pub returns-clause-ok : goal.returns-clause-ok
returns-clause-ok c =
    let e : majority_clauses c.args.g c.args.a c.args.b c.args.c ≡ (c.args.g ∷ c.opposite-not_a.result ∷ c.opposite-not_b.result ∷ []) ∷ (c.args.g ∷ c.opposite-not_a.result ∷ c.opposite-not_c.result ∷ []) ∷ (c.args.g ∷ c.opposite-not_b.result ∷ c.opposite-not_c.result ∷ []) ∷ (c.opposite-not_g.result ∷ c.args.a ∷ c.args.b ∷ []) ∷ (c.opposite-not_g.result ∷ c.args.a ∷ c.args.c ∷ []) ∷ (c.opposite-not_g.result ∷ c.args.b ∷ c.args.c ∷ []) ∷ [] = cc in
    subst (λ (rows : List (List Lit)). OnOk c.add_rows.result (c.add_rows.new.search ≡ with_clauses c.args.search.now rows)) (sym e) c.add_rows.ensures.ok
