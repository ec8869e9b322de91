-- What is read off an answer of the search.
use Rattle.std.specs.Prelude.{◌≡◌, ℕ, ◌<◌, Bool, true, false, nat_eq, if◌then◌else◌, List, Option, Some, None, slice_get, unwrap_or}
use Rattle.std.specs.List.{list_any}
use Rattle.clause_logic.specs.declared.Lit.{Lit}
use Rattle.clause_logic.specs.Clauses.{In}
use Rattle.theory_combine.specs.declared.deciding.Marks.{Marks}
use Rattle.node_encoding.specs.declared.Node.{Node}
use Rattle.node_encoding.specs.declared.Node.TheVariants as node_of
use Rattle.node_encoding.specs.Gates.{truth}
use Rattle.node_encoding.specs.Encoding.{lit_at}

-- the value of a variable, and false where it has none
abbrev pub shown_at : List (Option Bool) → ℕ → Bool
shown_at values v = unwrap_or (unwrap_or (slice_get values v) None) false

-- the truth value of a node by its literal
abbrev pub value_at : List Lit → List (Option Bool) → ℕ → Bool
value_at lits values k = truth (shown_at values) (lit_at lits k)

-- the values of the constants among the first nodes, by their literals
pub record Assigns (nodes : List Node) (lits : List Lit) (shown : List (Option Bool)) (done : ℕ) (values : List (ℕ × Bool)) : Type 0 where
  pub every : (k number : ℕ) → k < done → slice_get nodes k ≡ Some (node_of.Const number) → (i : ℕ) × (slice_get values i ≡ Some (k, value_at lits shown k))
  pub only : (i : ℕ) (e : ℕ × Bool) → slice_get values i ≡ Some e → (number : ℕ) × (slice_get nodes e.0 ≡ Some (node_of.Const number)) × (e.1 ≡ value_at lits shown e.0) × (e.0 < done)
  pub rising : (i j : ℕ) (e d : ℕ × Bool) → i < j → slice_get values i ≡ Some e → slice_get values j ≡ Some d → e.0 < d.0

-- the literal is marked
abbrev pub marked : Marks → Lit → Bool
marked m l = list_any (nat_eq l.var) (if l.positive then m.positive.keys else m.negative.keys)

-- just the literals of the core are marked
pub record AreMarks (core : List Lit) (marked : Lit → Bool) : Type 0 where
  pub every : (l : Lit) → In l core → marked l ≡ true
  pub only : (l : Lit) → marked l ≡ true → In l core

-- the places among the first assumptions of those that stand in the core
pub record Names (assumed core : List Lit) (done : ℕ) (places : List ℕ) : Type 0 where
  pub every : (p : ℕ) (l : Lit) → p < done → slice_get assumed p ≡ Some l → In l core → (i : ℕ) × (slice_get places i ≡ Some p)
  pub only : (i p : ℕ) → slice_get places i ≡ Some p → p < done
  pub rising : (i j p q : ℕ) → i < j → slice_get places i ≡ Some p → slice_get places j ≡ Some q → p < q
