-- What calls between propagations change.
use Rattle.std.specs.Prelude.{Bool, ◌⊎◌, ◌≡◌, ◌<◌, ◌≤◌, ◌+◌, ◌++◌, ◌∷◌, [], ℕ, List, Option, Some, None, length, slice_get, slice_set, slice_index_or, min}
use Rattle.clause_logic.specs.declared.Lit.{Lit}
use Rattle.clause_trail.specs.declared.Pair.{Pair}
use Rattle.clause_trail.specs.declared.Added.{Added}
use Rattle.clause_trail.specs.declared.Added.TheVariants as added
use Rattle.clause_logic.specs.Clauses.{opposite, In, Both, Models, Listed as ClausesOf}
use Rattle.clause_logic.specs.Trails.{FalseBefore, Prefix, Learned, IsCore, EachOnce, MakesAll}
use Rattle.clause_trail.specs.declared.conflicts.Pending.{Pending}
use Rattle.clause_trail.specs.declared.conflicts.Pending.TheVariants as pending
use Rattle.clause_trail.specs.declared.conflicts.Settled.{Settled}
use Rattle.clause_trail.specs.declared.conflicts.Settled.TheVariants as settled
use Rattle.clause_trail.specs.Words.{code_of, False, Open, Has, Before, AllFalse, AllFalseBut}
use Rattle.clause_trail.specs.View.{Lists, Watches, Listed, AllHeld, Base, Sound, NoNewDecision}

-- a literal with no value any more, and the front of the trail
abbrev pub unassigned : Lists → List Lit → Lit → Lists
unassigned t front l = record t { order = front; values = slice_set t.values l.var None }

-- the last literal of the trail is taken away
abbrev pub Popped : Lists → Lists → Type 0
Popped old new = (l : Lit) × (old.order ≡ new.order ++ l ∷ []) × (new ≡ unassigned old new.order l)

-- the trail is the front of what it was
pub record Shrunk (old new : Lists) : Type 0 where
  pub clauses : new.clauses ≡ old.clauses
  pub vars : length new.values ≡ length old.values
  pub order : (i : ℕ) (l : Lit) → slice_get new.order i ≡ Some l → slice_get old.order i ≡ Some l
  pub decisions : NoNewDecision old new

-- a level half taken away
pub record Lowering (old t : Lists) (s : ℕ) : Type 0 where
  pub base : Base t
  pub held : AllHeld t.order t.clauses t.pairs s s
  pub done : t.done ≡ s
  pub below : s ≤ length t.order
  pub starts : t.starts ≡ old.starts
  pub shrunk : Shrunk old t

-- more room for variables, and rows that list more
pub record Roomier (old new : Lists) : Type 0 where
  pub values : new.values ≡ old.values
  pub order : new.order ≡ old.order
  pub starts : new.starts ≡ old.starts
  pub done : new.done ≡ old.done
  pub clauses : new.clauses ≡ old.clauses
  pub pairs : new.pairs ≡ old.pairs
  pub reasons : length old.reasons ≤ length new.reasons
  pub reason : (v : ℕ) (x : Option ℕ) → v < length old.reasons → slice_get new.reasons v ≡ Some x → slice_get old.reasons v ≡ Some x
  pub places : length old.places ≤ length new.places
  pub place : (v i : ℕ) → slice_get old.places v ≡ Some i → slice_get new.places v ≡ Some i
  pub rows : length old.watches ≤ length new.watches
  pub listed : (w : Lit) (c : ℕ) → Listed old.watches w c → Listed new.watches w c

-- a clause more in a literal's row
abbrev pub row_pushed : List (List ℕ) → Lit → ℕ → List (List ℕ)
row_pushed watches l c = slice_set watches (code_of l) (slice_index_or watches (code_of l) [] ++ c ∷ [])

-- the clause is in the rows of both literals that it watches
abbrev pub AllListed : List (List ℕ) → Pair → ℕ → Type 0
AllListed watches pair c = (w : Lit) → Watches pair w → Listed watches w c

-- the trail and its levels stay
pub record SameTrail (old new : Lists) : Type 0 where
  pub values : new.values ≡ old.values
  pub order : new.order ≡ old.order
  pub starts : new.starts ≡ old.starts
  pub done : new.done ≡ old.done
  pub decisions : NoNewDecision old new

-- and the clauses
pub record SameBut (old new : Lists) : Type 0 where
  pub trail : SameTrail old new
  pub clauses : new.clauses ≡ old.clauses

-- a pair that waits for its clause
pub record Prepared (t : Lists) (c : ℕ) (pair : Pair) : Type 0 where
  pub next : c ≡ length t.clauses
  pub pairs : length t.pairs ≡ c + 1
  pub is : slice_get t.pairs c ≡ Some pair

-- a clause of known variables, with the two that it is to watch
pub record Formed (t : Lists) (lits : List Lit) (pair : Pair) : Type 0 where
  pub known : (l : Lit) → Has lits l → l.var < length t.values
  pub first : Has lits pair.first
  pub second : Has lits pair.second

-- a clause that watches two literals, neither of them false
pub record Wide (t : Lists) (lits : List Lit) (pair : Pair) : Type 0 where
  pub formed : Formed t lits pair
  pub apart : pair.first ≡ pair.second → ⊥
  pub first : False t.values pair.first → ⊥
  pub second : False t.values pair.second → ⊥

pub record Asserts (t : Lists) (lits : List Lit) (pair : Pair) : Type 0 where
  pub formed : Formed t lits pair
  pub free : Open t.values pair.first
  pub others : AllFalseBut t.values lits pair.first
  pub latest : (n s : ℕ) → slice_get t.starts n ≡ Some s → (pair.first ≡ pair.second → ⊥) × (Before t.order s (opposite pair.second) → ⊥)

-- a clause was added that makes its literal true
pub record Asserted (old new : Lists) (lits : List Lit) (l : Lit) : Type 0 where
  pub clauses : new.clauses ≡ old.clauses ++ lits ∷ []
  pub values : new.values ≡ slice_set old.values l.var (Some l.positive)
  pub order : new.order ≡ old.order ++ l ∷ []
  pub starts : new.starts ≡ old.starts
  pub done : new.done ≡ old.done
  pub decisions : NoNewDecision old new

-- what adding a clause comes to
abbrev pub Adds : Lists → Lists → List Lit → Added → Type 0
Adds old new lits added.Kept = new.clauses ≡ old.clauses ++ lits ∷ []
Adds old new lits added.False = AllFalse old.values lits × SameBut old new

-- levels taken away down to some level
pub record Backed (old new : Lists) (level : ℕ) : Type 0 where
  pub sound : Sound new
  pub shrunk : Shrunk old new
  pub starts : (i s : ℕ) → slice_get new.starts i ≡ Some s → slice_get old.starts i ≡ Some s
  pub below : length new.starts ≤ length old.starts
  pub above : min level (length old.starts) ≤ length new.starts
  pub front : (s : ℕ) → slice_get old.starts (length new.starts) ≡ Some s → length new.order ≡ s
  pub done : length new.starts < length old.starts → new.done ≡ length new.order
  pub same : length new.starts ≡ length old.starts → new ≡ old

-- what stands before place s is closed: where all literals of a clause but one are false, that one is true
abbrev pub Closed : Lists → ℕ → Type 0
Closed t s =
    (c : ℕ) (lits : List Lit) (l : Lit) → slice_get t.clauses c ≡ Some lits → Has lits l → ((m : Lit) → Has lits m → (m ≡ l → ⊥) → Before t.order s (opposite m))
    → Before t.order s l

-- each decision is an assumption, or was made where all assumptions were true
abbrev pub Chosen : Lists → List Lit → Type 0
Chosen t assumed =
    (i : ℕ) (l : Lit) → slice_get t.order i ≡ Some l → slice_get t.reasons l.var ≡ Some None → In l assumed ⊎ ((a : Lit) → In a assumed → Prefix t.order i a)

-- a clause that asserts its last literal: the others became false before place start, and that one from there on
abbrev pub Asserting : List Lit → ℕ → List Lit → Type 0
Asserting order start c =
    (lower : List Lit) × (l : Lit) × (c ≡ lower ++ l ∷ []) × ((m : Lit) → In m lower → FalseBefore order start m) × ((p : ℕ) × (start ≤ p) × (slice_get order p ≡ Some (opposite l)))

-- the last level begins at this place
abbrev pub LastStart : Lists → ℕ → Type 0
LastStart t s = (k : ℕ) × (slice_get t.starts k ≡ Some s) × (length t.starts ≡ k + 1)

-- no level begins with all assumptions true
abbrev pub NoneAfter : Lists → List Lit → Type 0
NoneAfter t assumed = (k s : ℕ) → slice_get t.starts k ≡ Some s → ((a : Lit) → In a assumed → Prefix t.order s a) → ⊥

-- a conflict above the assumptions gives a clause, at the last level
pub record Derives (t : Lists) (assumed lits c : List Lit) : Type 0 where
  pub start : ℕ
  pub last : LastStart t start
  pub learned : Learned (Both (ClausesOf t.clauses) (λ d. d ≡ lits)) t.order start c
  pub assumed_there : (a : Lit) → In a assumed → Prefix t.order start a

-- what a conflict comes to
abbrev pub Settles : Lists → List Lit → List Lit → Settled → Type 0
Settles t assumed lits (settled.Core core) = IsCore (ClausesOf t.clauses) t.order assumed lits core
Settles t assumed lits (settled.Derived c) = Derives t assumed lits c

-- how the first assumption stands that isn't true
abbrev pub Pends : Lists → List Lit → Pending → Type 0
Pends t assumed pending.None = (a : Lit) → In a assumed → Prefix t.order (length t.order) a
Pends t assumed (pending.Open l) = In l assumed × Open t.values l
Pends t assumed (pending.False l) = In l assumed × False t.values l

-- assumptions, each once, that can't be true together with the clauses
pub record Refuting (t : Lists) (assumed core : List Lit) : Type 0 where
  pub assumptions : (l : Lit) → In l core → In l assumed
  pub once : EachOnce core
  pub refuted : (s : ℕ → Bool) → Models s (ClausesOf t.clauses) → MakesAll s core → ⊥
