-- Terms by their places in a list, and lists with each term once.
use Rattle.std.specs.Prelude.{◌≡◌, ℕ, ◌<◌, List, Some, slice_get, unwrap_or}
use Rattle.term_shapes.specs.declared.handles.Term.{Term}
use Rattle.term_orders.specs.Orders.{IsIn}

-- the term of no place
abbrev pub no_term : Term
no_term = record { slot = 0; stamp = 0 }

-- the term at that place
abbrev pub term_in : List Term → ℕ → Term
term_in ts k = unwrap_or (slice_get ts k) no_term

-- the term stands at that place of the list, and at no earlier one
pub record IsFirstAt (ts : List Term) (place : ℕ) (t : Term) : Type 0 where
  pub at : slice_get ts place ≡ Some t
  pub first : (i : ℕ) → i < place → slice_get ts i ≡ Some t → ⊥

-- of the first terms of the list each one, once, in the order of first places
pub record AreOnce (ts : List Term) (done : ℕ) (once : List Term) : Type 0 where
  pub every : (p : ℕ) (t : Term) → p < done → slice_get ts p ≡ Some t → IsIn once t
  pub only : (i : ℕ) (t : Term) → slice_get once i ≡ Some t → (p : ℕ) × (p < done) × IsFirstAt ts p t
  pub single : (i j : ℕ) (t : Term) → slice_get once i ≡ Some t → slice_get once j ≡ Some t → i ≡ j
  pub rising : (i j p q : ℕ) (t u : Term) → i < j → slice_get once i ≡ Some t → slice_get once j ≡ Some u → IsFirstAt ts p t → IsFirstAt ts q u → p < q
