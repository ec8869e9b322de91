-- What building an expression, or one after another, comes to, for whatever trees the names stand for.
use Rattle.std.specs.Prelude.{◌≡◌, ℕ, List, [], ◌∷◌, ◌++◌, map, length}
use Rattle.term_shapes.specs.declared.handles.Term.{Term}
use Rattle.term_table.specs.World.{World}
use Rattle.term_build.specs.Building.{AddsAtMost}
use Rattle.yices_grammar.specs.declared.Place.{Place}
use Rattle.yices_grammar.specs.Commands.{Expr, Exprs, Binds}
use Rattle.yices_api.specs.State.{State}
use Rattle.y_tree.specs.Sorts.{boolean}
use Rattle.y_tree.specs.Misfits.{wrong_type, a_function}
use Rattle.expression_terms.specs.declared.refusal.Refusal.TheVariants as refusal
use Rattle.expression_terms.specs.declared.refusal.Stop.{Stop}
use Rattle.expression_terms.specs.declared.refusal.Stop.TheVariants as stop
use Rattle.expression_terms.specs.Trees.{Scope, told, names_of, tree_of, trees_of, bindings_of}
use Rattle.expression_terms.specs.Growth.{written_trees, all_trees, bound_trees}
use Rattle.expression_terms.specs.Fresh.{GrowsPast}
use Rattle.expression_terms.specs.Parts.{BuildsOne, BuildsAll, BindsAll}
use Rattle.expression_terms.specs.Building.{Named, AreNamed, cause_in, IsUnbuilt}

-- the term was built for the expression
abbrev pub Builds : Named → State → State → Expr → Term → Type 0
Builds ns old new e t = (s : Scope) → AreNamed old.table s ns → BuildsOne s old.table new.table e t

-- so were the terms for the expressions
abbrev pub BuildsEach : Named → State → State → Exprs → List Term → Type 0
BuildsEach ns old new es ts = (s : Scope) → AreNamed old.table s ns → BuildsAll s old.table new.table es ts

-- there are as many terms as names are bound, and those were built for what these are bound to
pub record BindsEach (ns : Named) (old new : State) (bs : Binds) (ts : List Term) : Type 0 where
  pub count : length ts ≡ length (names_of bs)
  pub each : (s : Scope) → AreNamed old.table s ns → (ps : List (List ℕ × Term)) → map (λ (p : List ℕ × Term). p.0) ps ≡ names_of bs → map (λ (p : List ℕ × Term). p.1) ps ≡ ts → BindsAll s old.table new.table bs ps

-- names with terms, side by side
abbrev pub paired : List Term → List (List ℕ) → List (List ℕ × Term)
paired [] ws = []
paired (t ∷ ts) [] = []
paired (t ∷ ts) (w ∷ ws) = (w, t) ∷ paired ts ws

-- building the expression stopped: the first thing that is wrong is told, or no slot or no memory is left
pub record Stops (ns : Named) (old new : State) (e : Expr) (why : Stop) : Type 0 where
  pub cause : (s : Scope) → AreNamed old.table s ns → IsUnbuilt (cause_in (tree_of s e)) new why
  pub past : (s : Scope) → AreNamed old.table s ns → GrowsPast (written_trees s e) old.table new.table

-- so it did with one of the expressions
pub record StopsEach (ns : Named) (old new : State) (es : Exprs) (why : Stop) : Type 0 where
  pub cause : (s : Scope) → AreNamed old.table s ns → IsUnbuilt (cause_in (trees_of s es)) new why
  pub past : (s : Scope) → AreNamed old.table s ns → GrowsPast (all_trees s es) old.table new.table

-- so it did with what one of the names is bound to
pub record BindsStop (ns : Named) (old new : State) (bs : Binds) (why : Stop) : Type 0 where
  pub cause : (s : Scope) → AreNamed old.table s ns → IsUnbuilt (cause_in (bindings_of s bs)) new why
  pub past : (s : Scope) → AreNamed old.table s ns → GrowsPast (bound_trees s bs) old.table new.table

-- terms were added, and nothing else of the table changed
pub record OnlyAdds (old new : World) : Type 0 where
  pub bound : ℕ
  pub adds : AddsAtMost bound old new

-- the list has more at its end
pub record IsMore (old new : List Term) : Type 0 where
  pub added : List Term
  pub is : new ≡ old ++ added

-- a name that is bound twice is told, or memory is refused
abbrev pub IsTwice : Place → List ℕ → Stop → Type 0
IsTwice at name (stop.Refused place why) = (place ≡ at) × (why ≡ refusal.BoundTwice name)
IsTwice at name stop.NoMemory = Unit {0}

-- that a truth value is no function is told, or memory is refused
abbrev pub IsNoFunction : Place → Stop → Type 0
IsNoFunction at (stop.Refused place why) = (place ≡ at) × (why ≡ told (wrong_type 1 a_function boolean))
IsNoFunction at stop.NoMemory = Unit {0}
