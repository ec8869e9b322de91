-- What is done with a clause whose watched literal became false.
use Rattle.std.specs.Prelude.{◌≡◌, ◌≤◌, ◌+◌, ◌⊎◌, ◌++◌, ◌∷◌, [], ℕ, Bool, List, Option, Some, length, slice_get, slice_set, swap_remove, slice_index_or}
use Rattle.clause_logic.specs.declared.Lit.{Lit}
use Rattle.clause_trail.specs.declared.Pair.{Pair}
use Rattle.clause_trail.specs.declared.Step.{Step}
use Rattle.clause_trail.specs.declared.Step.TheVariants as step
use Rattle.clause_trail.specs.declared.Advance.{Advance}
use Rattle.clause_trail.specs.declared.Advance.TheVariants as advance
use Rattle.clause_logic.specs.Clauses.{opposite}
use Rattle.clause_trail.specs.Words.{code_of, False, Open, Has, TrueBefore, AllFalse, AllFalseBut, open_count}
use Rattle.clause_trail.specs.View.{Lists, Watches, Base, Now, Sound, NoNewDecision}

-- where the clause still watches the literal, it is true
abbrev pub Stays : Lists → Lit → ℕ → Type 0
Stays t f c = (lits : List Lit) (pair : Pair) → slice_get t.clauses c ≡ Some lits → slice_get t.pairs c ≡ Some pair → Watches pair f → TrueBefore t.order (length t.order) lits

-- the clause leaves one literal, which has no value
pub record Implies (t : Lists) (c : ℕ) (other : Lit) : Type 0 where
  pub lits : List Lit
  pub is : slice_get t.clauses c ≡ Some lits
  pub has : Has lits other
  pub free : Open t.values other
  pub others : AllFalseBut t.values lits other

-- the pair watches these two
pub record Ways (pair : Pair) (f other : Lit) : Type 0 where
  pub ways : (w : Lit) → Watches pair w → (w ≡ f) ⊎ (w ≡ other)
  pub watched : Watches pair other
  pub falsified : Watches pair f

-- the clause can watch another literal
pub record Moves (t : Lists) (f : Lit) (c : ℕ) (other to : Lit) : Type 0 where
  pub lits : List Lit
  pub is : slice_get t.clauses c ≡ Some lits
  pub pair : Pair
  pub paired : slice_get t.pairs c ≡ Some pair
  pub ways : Ways pair f other
  pub apart : other ≡ f → ⊥
  pub has : Has lits to
  pub new : to ≡ other → ⊥
  pub standing : False t.values to → ⊥

-- all literals of the clause are false
pub record Clashes (values : List (Option Bool)) (clauses : List (List Lit)) (c : ℕ) : Type 0 where
  pub lits : List Lit
  pub is : slice_get clauses c ≡ Some lits
  pub all : AllFalse values lits

-- what a look at a clause finds
abbrev pub Studied : Lists → Lit → ℕ → Step → Type 0
Studied t f c step.Keep = Stays t f c
Studied t f c (step.Imply other) = Implies t c other
Studied t f c (step.Move other to) = Moves t f c other to
Studied t f c step.Clash = Clashes t.values t.clauses c

-- the row of a literal
abbrev pub row_of : List (List ℕ) → Lit → List ℕ
row_of watches l = slice_index_or watches (code_of l) []

-- another literal watched
abbrev pub rows_moved : List (List ℕ) → ℕ → ℕ → Lit → Lit → List (List ℕ)
rows_moved watches c at f to =
    let more = slice_set watches (code_of to) (row_of watches to ++ c ∷ []) in
    slice_set more (code_of f) (swap_remove (row_of more f) at 0)

-- the clause watches another literal in place of a false one
abbrev pub moved : Lists → ℕ → ℕ → Lit → Lit → Lit → Lists
moved t c at f other to = record t {
  pairs = slice_set t.pairs c (record { first = other; second = to });
  watches = rows_moved t.watches c at f to;
}

-- the clause has a place in the row, from place i on
abbrev pub Waiting : Lists → Lit → ℕ → ℕ → Type 0
Waiting t f i c = (k : ℕ) × (i ≤ k) × (slice_get (row_of t.watches f) k ≡ Some c)

-- what watches f is true, or still to be looked at
abbrev pub Pending : Lists → Lit → ℕ → Type 0
Pending t f i =
    (c : ℕ) (lits : List Lit) (pair : Pair) → slice_get t.clauses c ≡ Some lits → slice_get t.pairs c ≡ Some pair → Watches pair f
    → TrueBefore t.order (length t.order) lits ⊎ Waiting t f i c

-- a row half looked at
pub record Turn (t : Lists) (f : Lit) (i : ℕ) : Type 0 where
  pub base : Base t
  pub now : Now t t.done
  pub here : slice_get t.order t.done ≡ Some (opposite f)
  pub pending : Pending t f i

-- propagation only adds to the trail
pub record Grown (old new : Lists) : Type 0 where
  pub clauses : new.clauses ≡ old.clauses
  pub starts : new.starts ≡ old.starts
  pub vars : length new.values ≡ length old.values
  pub order : (i : ℕ) (l : Lit) → slice_get old.order i ≡ Some l → slice_get new.order i ≡ Some l
  pub values : (v : ℕ) (b : Bool) → slice_get old.values v ≡ Some (Some b) → slice_get new.values v ≡ Some (Some b)
  pub reasons : (v : ℕ) (b : Bool) → slice_get old.values v ≡ Some (Some b) → slice_get new.reasons v ≡ slice_get old.reasons v
  pub decisions : NoNewDecision old new
  pub balance : open_count new.values + length new.order ≡ open_count old.values + length old.order

-- where a turn goes on
abbrev pub Goes : Lists → Lists → Lit → ℕ → Advance → Type 0
Goes old new f i advance.Next = Turn new f (i + 1) × (length (row_of new.watches f) ≡ length (row_of old.watches f))
Goes old new f i advance.Same = Turn new f i × (length (row_of new.watches f) + 1 ≡ length (row_of old.watches f))
Goes old new f i (advance.Clash c) = Clashes new.values new.clauses c

-- what each step of propagation keeps
pub record Keeps (old new : Lists) : Type 0 where
  pub base : Base new
  pub now : Now new new.done
  pub done : new.done ≡ old.done
  pub grown : Grown old new

-- the loop along a row
pub record Turned (old new : Lists) (f : Lit) (i : ℕ) : Type 0 where
  pub turn : Turn new f i
  pub keeps : Keeps old new

-- the loop along the trail
pub record Propagates (old new : Lists) : Type 0 where
  pub sound : Sound new
  pub grown : Grown old new
