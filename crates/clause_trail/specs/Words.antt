-- Literals, clauses and what a partial assignment makes of them.
use Rattle.std.specs.Prelude.{◌≡◌, ◌<◌, ◌+◌, ◌∷◌, [], ℕ, Bool, not, List, Option, Some, None, slice_get, if◌then◌else◌}
use Rattle.clause_logic.specs.declared.Lit.{Lit}
use Rattle.clause_trail.specs.declared.Standing.{Standing}
use Rattle.clause_trail.specs.declared.Standing.TheVariants as standing

-- the number of a literal's row of watching clauses
abbrev pub code_of : Lit → ℕ
code_of l = l.var + l.var + (if l.positive then 1 else 0)

-- the literal is true under the values
abbrev pub True : List (Option Bool) → Lit → Type 0
True values l = slice_get values l.var ≡ Some (Some l.positive)

-- the literal is false under the values
abbrev pub False : List (Option Bool) → Lit → Type 0
False values l = slice_get values l.var ≡ Some (Some (not l.positive))

-- the variable of the literal has no value
abbrev pub Open : List (Option Bool) → Lit → Type 0
Open values l = slice_get values l.var ≡ Some None

-- how a literal stands under the values
abbrev pub Stands : List (Option Bool) → Lit → Standing → Type 0
Stands values l standing.True = True values l
Stands values l standing.False = False values l
Stands values l standing.Open = Open values l

-- the literal stands in the clause
pub record Has (lits : List Lit) (l : Lit) : Type 0 where
  pub at : ℕ
  pub is : slice_get lits at ≡ Some l

-- the literal stands on the trail, before place n
pub record Before (order : List Lit) (n : ℕ) (l : Lit) : Type 0 where
  pub at : ℕ
  pub below : at < n
  pub is : slice_get order at ≡ Some l

-- the clause is made true by what stands before place n
pub record TrueBefore (order : List Lit) (n : ℕ) (lits : List Lit) : Type 0 where
  pub lit : Lit
  pub has : Has lits lit
  pub on : Before order n lit

-- all literals of the clause are false
abbrev pub AllFalse : List (Option Bool) → List Lit → Type 0
AllFalse values lits = (m : Lit) → Has lits m → False values m

-- all but one are false
abbrev pub AllFalseBut : List (Option Bool) → List Lit → Lit → Type 0
AllFalseBut values lits l = (m : Lit) → Has lits m → (m ≡ l → ⊥) → False values m

-- no clause is false or unit
pub record Propagated (values : List (Option Bool)) (clauses : List (List Lit)) : Type 0 where
  pub no_false : (c : ℕ) (lits : List Lit) → slice_get clauses c ≡ Some lits → AllFalse values lits → ⊥
  pub no_unit : (c : ℕ) (lits : List Lit) (l : Lit) → slice_get clauses c ≡ Some lits → Has lits l → Open values l → AllFalseBut values lits l → ⊥

-- how many variables have no value
abbrev pub open_one : Option Bool → ℕ
open_one None = 1
open_one (Some b) = 0

-- how many variables have no value
unfoldable pub open_count : List (Option Bool) → ℕ
open_count [] = 0
open_count (v ∷ vs) = open_one v + open_count vs
