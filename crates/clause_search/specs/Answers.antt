-- What an answer of the search means.
use Rattle.std.specs.Prelude.{ℕ, ◌+◌, ◌<◌, ◌^◌, Bool, not, List, Option, Some, ◌≡◌, slice_get, length}
use Rattle.clause_logic.specs.declared.Lit.{Lit}
use Rattle.clause_logic.specs.Clauses.{In, Models, Follows, Both, Listed, IsRecord}
use Rattle.clause_logic.specs.Trails.{MakesAll, EachOnce}
use Rattle.clause_search.specs.declared.checker.Look.{Look}
use Rattle.clause_search.specs.declared.checker.Look.TheVariants as look
use Rattle.clause_search.specs.declared.Turns.{Turns}
use Rattle.clause_search.specs.declared.Turns.TheVariants as turns
use Rattle.clause_search.specs.declared.Answer.{Answer}
use Rattle.clause_search.specs.declared.Answer.TheVariants as answer

-- the literal is false under the values shown
abbrev pub IsFalseIn : List (Option Bool) → Lit → Type 0
IsFalseIn shown l = slice_get shown l.var ≡ Some (Some (not l.positive))

-- the literal is true under the values
abbrev pub IsTrueIn : List (Option Bool) → Lit → Type 0
IsTrueIn shown l = slice_get shown l.var ≡ Some (Some l.positive)

-- a conflict is false under what was shown, and follows from the clauses that the checker stands for
abbrev pub Lawful : {S : Type 0} → (List Lit → Type 0) → List (Option Bool) → Look S → Type 0
Lawful stands shown look.Fits = Unit {0}
Lawful stands shown (look.Conflict clause) = ((l : Lit) → In l clause → IsFalseIn shown l) × Follows stands clause
Lawful stands shown (look.Stop s) = Unit {0}
Lawful stands shown look.NoMemory = Unit {0}

-- values for all variables, under which each clause and each assumption is true
pub record IsSolution (vars : ℕ) (added : List (List Lit)) (assumed : List Lit) (values : List (Option Bool)) : Type 0 where
  pub count : length values ≡ vars
  pub total : (v : ℕ) → v < vars → (b : Bool) × (slice_get values v ≡ Some (Some b))
  pub clauses : (c : List Lit) → Listed added c → (l : Lit) × In l c × IsTrueIn values l
  pub assumptions : (a : Lit) → In a assumed → IsTrueIn values a

-- assumptions, each once, that can't be true together with the clauses and what the checker stands for
pub record IsUnsatCore (clauses : List (List Lit)) (stands : List Lit → Type 0) (assumed core : List Lit) : Type 0 where
  pub assumptions : (l : Lit) → In l core → In l assumed
  pub once : EachOnce core
  pub refuted : (s : ℕ → Bool) → Models s (Both (Listed clauses) stands) → MakesAll s core → ⊥

-- one learned clause more than the limit allows
pub record IsOverLimit (vars : ℕ) (clauses : List (List Lit)) (stands : List Lit → Type 0) (assumed : List Lit) (limit : Turns) (learned : List (List Lit)) : Type 0 where
  pub number : ℕ
  pub counted : limit ≡ turns.Counted number
  pub count : length learned ≡ number + 1
  pub recorded : IsRecord (Listed clauses) stands assumed learned
  pub known : (i : ℕ) (c : List Lit) (l : Lit) → slice_get learned i ≡ Some c → In l c → l.var < vars
  pub small : number < 3 ^ vars

-- what justifies an answer; the newest assignment that the checker was shown, with its answer
abbrev pub Justified : {S : Type 0} → ℕ → List (List Lit) → (List Lit → Type 0) → List Lit → Turns → Option (List (Option Bool) × Look S) → Answer S → Type 0
Justified vars clauses stands assumed limit newest (answer.Sat values) = IsSolution vars clauses assumed values × (newest ≡ Some (values, look.Fits))
Justified vars clauses stands assumed limit newest (answer.Unsat core) = IsUnsatCore clauses stands assumed core
Justified vars clauses stands assumed limit newest (answer.Unknown learned) = IsOverLimit vars clauses stands assumed limit learned
Justified vars clauses stands assumed limit newest (answer.Stopped s) = (shown : List (Option Bool)) × (newest ≡ Some (shown, look.Stop s))
Justified vars clauses stands assumed limit newest answer.NoMemory = Unit {0}
