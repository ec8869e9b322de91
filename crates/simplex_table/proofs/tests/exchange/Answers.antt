use Rattle.std.proofs.Common.{◌≡◌, ℕ, Bool, true, false, T, eqb, List, refl, sym, ap, ◌∙◌, subst, rules, arith}
use Rattle.std.specs.List.{IsAnyAnswer}
use lib.Dec.{eqb_refl}
use Rattle.simplex_logic.specs.Tables.{is_column}
use Rattle.simplex_logic.proofs.Going.{column_place}
use Rattle.simplex_table.proofs.tests.exchange.Goals as goal

-- a number that no column equals is no column
not_column : (cols : List ℕ) (x : ℕ) (r : Bool) → IsAnyAnswer (λ y b. eqb y x ≡ b) cols r → r ≡ false → is_column cols x ≡ false
not_column cols x true h e = absurd (subst (λ b. T b) e tt)
not_column cols x false h e = never (is_column cols x) (λ c. let p = column_place cols x c in
    subst (λ b. T b) (ap (λ y. eqb y x) (sym p.2) ∙ h p.0 0 (omega arith) p.1) (eqb_refl x))
  where
    never : (b : Bool) → (b ≡ true → ⊥) → b ≡ false
    never true h = absurd (h refl)
    never false h = refl

pub pivot-requires-clause-basic : goal.pivot-requires-clause-basic
pivot-requires-clause-basic g c =
    let e : c.contains.result ≡ false = search rules in
    subst (λ cols. is_column cols c.args.variable ≡ false) c.columns-2.ensures.value (not_column c.columns-2.result.now c.args.variable c.contains.result c.contains.ensures.cases e)
