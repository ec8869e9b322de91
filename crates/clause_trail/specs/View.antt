-- The state of a search as plain lists, and what it keeps.
use Rattle.std.specs.Prelude.{◌≡◌, ◌<◌, ◌≤◌, ◌+◌, ◌⊎◌, ◌++◌, ◌∷◌, [], ℕ, Bool, List, Option, Some, None, length, slice_get, slice_set}
use Rattle.clause_logic.specs.declared.Lit.{Lit}
use Rattle.clause_trail.specs.declared.Pair.{Pair}
use Rattle.clause_trail.specs.declared.State.{State}
use Rattle.clause_logic.specs.Clauses.{opposite}
use Rattle.clause_logic.specs.Trails.{IsPlaced}
use Rattle.clause_trail.specs.Words.{code_of, True, Has, Before, TrueBefore}

pub record Lists : Type 0 where
  pub values : List (Option Bool)
  pub reasons : List (Option ℕ)
  pub places : List ℕ
  pub order : List Lit
  pub starts : List ℕ
  pub done : ℕ
  pub clauses : List (List Lit)
  pub pairs : List Pair
  pub watches : List (List ℕ)

-- a state as plain lists
abbrev pub lists_of : State → Lists
lists_of s = record {
  values = s.values.items;
  reasons = s.reasons.items;
  places = s.places.items;
  order = s.order.items;
  starts = s.starts.items;
  done = s.done;
  clauses = s.clauses.items;
  pairs = s.pairs.items;
  watches = s.watches.items;
}

-- one of the two literals that the clause watches
abbrev pub Watches : Pair → Lit → Type 0
Watches pair w = (w ≡ pair.first) ⊎ (w ≡ pair.second)

-- the clause has its place in the row of the literal
pub record Listed (watches : List (List ℕ)) (w : Lit) (c : ℕ) : Type 0 where
  pub row : List ℕ
  pub is : slice_get watches (code_of w) ≡ Some row
  pub at : ℕ
  pub there : slice_get row at ≡ Some c

-- a watched literal that is false before place n leaves a true one before place m
pub record Held (order : List Lit) (n m : ℕ) (lits : List Lit) (pair : Pair) : Type 0 where
  pub watch : (w : Lit) → Watches pair w → Before order n (opposite w) → TrueBefore order m lits
  pub same : pair.first ≡ pair.second → TrueBefore order m lits

-- why a literal at place i is true
pub record Implied (clauses : List (List Lit)) (order : List Lit) (i : ℕ) (l : Lit) (c : ℕ) : Type 0 where
  pub lits : List Lit
  pub is : slice_get clauses c ≡ Some lits
  pub has : Has lits l
  pub others : (m : Lit) → Has lits m → (m ≡ l → ⊥) → Before order i (opposite m)

-- each clause is held
abbrev pub AllHeld : List Lit → List (List Lit) → List Pair → ℕ → ℕ → Type 0
AllHeld order clauses pairs n m =
    (c : ℕ) (lits : List Lit) (pair : Pair) → slice_get clauses c ≡ Some lits → slice_get pairs c ≡ Some pair → Held order n m lits pair

-- what holds at each moment
pub record Base (t : Lists) : Type 0 where
  pub reasons : length t.values ≤ length t.reasons
  pub rows : length t.values + length t.values ≤ length t.watches
  pub places : length t.values ≤ length t.places
  pub pairs : length t.clauses ≤ length t.pairs
  pub done : t.done ≤ length t.order
  pub true_there : (i : ℕ) (l : Lit) → slice_get t.order i ≡ Some l → True t.values l
  pub placed : (v : ℕ) (b : Bool) → slice_get t.values v ≡ Some (Some b) → (i : ℕ) × (slice_get t.order i ≡ Some (record { var = v; positive = b }))
  pub once : (i j : ℕ) (a b : Lit) → slice_get t.order i ≡ Some a → slice_get t.order j ≡ Some b → a.var ≡ b.var → i ≡ j
  pub found : IsPlaced t.order t.places
  pub starts_done : (n s : ℕ) → slice_get t.starts n ≡ Some s → s ≤ t.done
  pub starts_rise : (m n r s : ℕ) → m ≤ n → slice_get t.starts m ≡ Some r → slice_get t.starts n ≡ Some s → r ≤ s
  pub known : (c : ℕ) (lits : List Lit) (l : Lit) → slice_get t.clauses c ≡ Some lits → Has lits l → l.var < length t.values
  pub member : (c : ℕ) (lits : List Lit) (pair : Pair) (w : Lit) → slice_get t.clauses c ≡ Some lits → slice_get t.pairs c ≡ Some pair → Watches pair w → Has lits w
  pub listed : (c : ℕ) (pair : Pair) (w : Lit) → slice_get t.pairs c ≡ Some pair → (pair.first ≡ pair.second → ⊥) → Watches pair w → Listed t.watches w c
  -- at each level's start, what was false had left a true literal
  pub cuts : (n s : ℕ) → slice_get t.starts n ≡ Some s → AllHeld t.order t.clauses t.pairs s s
  pub implied : (i : ℕ) (l : Lit) (c : ℕ) → slice_get t.order i ≡ Some l → slice_get t.reasons l.var ≡ Some (Some c) → Implied t.clauses t.order i l c
  -- a literal with no reason begins its level
  pub decided : (i : ℕ) (l : Lit) → slice_get t.order i ≡ Some l → slice_get t.reasons l.var ≡ Some None → (n : ℕ) × (slice_get t.starts n ≡ Some i)

-- all literals before place n have been looked at
abbrev pub Now : Lists → ℕ → Type 0
Now t n = AllHeld t.order t.clauses t.pairs n (length t.order)

pub record Sound (t : Lists) : Type 0 where
  pub base : Base t
  pub now : Now t t.done

-- a literal made true
abbrev pub assigned : Lists → Lit → Option ℕ → Lists
assigned t lit reason = record t {
  values = slice_set t.values lit.var (Some lit.positive);
  reasons = slice_set t.reasons lit.var reason;
  places = slice_set t.places lit.var (length t.order);
  order = t.order ++ lit ∷ [];
}

-- each decision on the new trail stood on the old one
abbrev pub NoNewDecision : Lists → Lists → Type 0
NoNewDecision old new =
    (i : ℕ) (l : Lit) → slice_get new.order i ≡ Some l → slice_get new.reasons l.var ≡ Some None → (slice_get old.order i ≡ Some l) × (slice_get old.reasons l.var ≡ Some None)
