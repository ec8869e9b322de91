-- What the loop of the search keeps.
use Rattle.std.specs.Prelude.{ℕ, ◌-◌, ◌<◌, ◌≤◌, ◌++◌, Bool, true, false, List, [], Option, ◌≡◌, Some, slice_get, length, drop}
use Rattle.clause_logic.specs.declared.Lit.{Lit}
use Rattle.clause_logic.specs.Clauses.{Listed, IsDerived, IsRecord}
use Rattle.clause_logic.specs.Bound.{search_weight}
use Rattle.clause_trail.specs.Words.{open_count}
use Rattle.clause_trail.specs.View.{Lists, lists_of, Sound}
use Rattle.clause_trail.specs.Changes.{Chosen}
use Rattle.clause_search.specs.declared.checker.Look.{Look}
use Rattle.clause_search.specs.declared.Turns.{Turns}
use Rattle.clause_search.specs.declared.Turns.TheVariants as turns
use Rattle.clause_search.specs.declared.loading.Loaded.{Loaded}
use Rattle.clause_search.specs.declared.loading.Loaded.TheVariants as loaded
use Rattle.clause_search.specs.declared.solving.Round.{Round}
use Rattle.clause_search.specs.declared.solving.Round.TheVariants as round
use Rattle.clause_search.specs.Answers.{IsUnsatCore, Justified}
use Rattle.clause_search.specs.Loading.{IsRoot, Impossible}

-- between two rounds: the clauses are the added ones and learned ones that are kept
pub record Going (t : Lists) (added : List (List Lit)) (stands : List Lit → Type 0) (assumed : List Lit) : Type 0 where
  pub sound : Sound t
  pub learned : List (List Lit)
  pub clauses : t.clauses ≡ added ++ learned
  pub derived : IsDerived (Listed added) stands learned
  pub chosen : Chosen t assumed

-- under a limit, what follows the added clauses is a record of all that was learned
abbrev pub Recorded : List (List Lit) → List (List Lit) → (List Lit → Type 0) → List Lit → Turns → Type 0
Recorded clauses added stands assumed limit = (n : ℕ) → limit ≡ turns.Counted n → IsRecord (Listed added) stands assumed (drop (length added) clauses)

-- what is left to do
abbrev pub weight : Lists → List (List Lit) → ℕ
weight t added = search_weight (length t.values) (length t.clauses - length added) (open_count t.values)

-- what a round comes to, from a state with so much left to do
abbrev pub Rounds : {S : Type 0} → ℕ → List (List Lit) → (List Lit → Type 0) → List Lit → Turns → Option (List (Option Bool) × Look S) → ℕ → Lists → Round S → Type 0
Rounds vars added stands assumed limit newest before new round.Next =
    Going new added stands assumed × (length new.values ≡ vars) × (weight new added < before) × Recorded new.clauses added stands assumed limit
Rounds vars added stands assumed limit newest before new (round.Done a) = Justified vars added stands assumed limit newest a

-- what a stretch of rounds comes to; it may stop where learned clauses may be thrown away
abbrev pub Stretches : {S : Type 0} → ℕ → List (List Lit) → (List Lit → Type 0) → List Lit → Turns → Option (List (Option Bool) × Look S) → Bool → Lists → Round S → Type 0
Stretches vars added stands assumed limit newest may new round.Next = Going new added stands assumed × (length new.values ≡ vars) × (may ≡ true)
Stretches vars added stands assumed limit newest may new (round.Done a) = Justified vars added stands assumed limit newest a

-- some of the clauses from place a to place n, in their order
pub record IsPart (a n : ℕ) (clauses part : List (List Lit)) : Type 0 where
  pub from : (j : ℕ) (d : List Lit) → slice_get part j ≡ Some d → (k : ℕ) × (a ≤ k) × (k < n) × (slice_get clauses k ≡ Some d)
  pub apart : (i j : ℕ) (c d : List Lit) → i < j → slice_get part i ≡ Some c → slice_get part j ≡ Some d → (k m : ℕ) × (a ≤ k) × (k < m) × (slice_get clauses k ≡ Some c) × (slice_get clauses m ≡ Some d)

-- a state at the root with the added clauses and some of the learned ones
pub record IsRebuilt (t new : Lists) (added : List (List Lit)) (n : ℕ) : Type 0 where
  pub kept : List (List Lit)
  pub root : IsRoot new (length t.values) (added ++ kept)
  pub part : IsPart (length added) n t.clauses kept

-- what rebuilding comes to
abbrev pub Rebuilds : Lists → List (List Lit) → Loaded → Type 0
Rebuilds t added (loaded.Ready state) = IsRebuilt t (lists_of state) added (length t.clauses)
Rebuilds t added loaded.Refuted = Impossible t.clauses

-- whether the search goes on with fewer clauses, or they can't hold
abbrev pub Reduces : Lists → List (List Lit) → (List Lit → Type 0) → List Lit → Lists → Bool → Type 0
Reduces t added stands assumed new true = Going new added stands assumed × (length new.values ≡ length t.values)
Reduces t added stands assumed new false = (core : List Lit) → core ≡ [] → IsUnsatCore added stands assumed core
