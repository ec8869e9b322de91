-- What the parts of the code say.
use Rattle.std.specs.Prelude.{◌≡◌, ℕ, Bool, true, false, List, [], ◌∷◌, ◌++◌, Ok, codes}
use Rattle.stamped_slots.specs.Slots.{taken}
use Rattle.term_shapes.specs.declared.handles.Term.{Term}
use Rattle.term_table.specs.World.{World}
use Rattle.yices_grammar.specs.declared.Place.{Place}
use Rattle.yices_grammar.specs.Commands.{LitExpr}
use Rattle.yices_api.specs.State.{State as Environment}
use Rattle.expression_terms.specs.declared.refusal.Refusal.TheVariants as refusal
use Rattle.expression_terms.specs.declared.refusal.Stop.{Stop}
use Rattle.expression_terms.specs.declared.refusal.Stop.TheVariants as stop
use Rattle.expression_terms.specs.Trees.{Scope}
use Rattle.term_build.specs.Building.{AddsAtMost}
use Rattle.expression_terms.specs.Standing.{StandsFor, IsBuiltFor}
use Rattle.expression_terms.specs.Building.{AreNamed, IsUnbuilt, literal_tree}
use Rattle.expression_terms.specs.Fresh.{GrowsBy}
use Rattle.yices_session.specs.declared.session.Declared.{Declared}
use Rattle.yices_session.specs.State.{Named, Literal}
use Rattle.yices_session.specs.Steps.{Assumed, assumed_trees, assumed_terms, unknown_in}

-- a name that is in use is told, or memory is refused
abbrev pub IsInUse : Place → List ℕ → Stop → Type 0
IsInUse at w (stop.Refused place why) = (place ≡ at) × (why ≡ refusal.NameInUse w)
IsInUse at w stop.NoMemory = Unit {0}

-- that no slot for terms is left is told at the place, or memory is refused
abbrev pub IsFullAt : Place → Environment → Stop → Type 0
IsFullAt at env (stop.Refused place why) = (place ≡ at) × (why ≡ refusal.TableFull) × (taken env.table.terms ≡ 4194304)
IsFullAt at env stop.NoMemory = Unit {0}

-- the list has more at its end
pub record IsMore (old new : List Term) : Type 0 where
  pub added : List Term
  pub is : new ≡ old ++ added

-- a literal as it was written
abbrev pub literal_of : LitExpr → Literal
literal_of l = record { name = l.name; positive = l.positive }

-- a text, behind a space where it isn't the first
abbrev pub spaced : Bool → List ℕ → List ℕ
spaced true text = text
spaced false text = codes " " ++ text

-- an assumption is that literal, with its tree and a term that was built for it
pub record IsBuiltAssumption (s : Scope) (w : World) (l : LitExpr) (a : Assumed) : Type 0 where
  pub literal : a.literal ≡ literal_of l
  pub tree : literal_tree s l ≡ Ok a.tree
  pub built : IsBuiltFor w a.tree a.term

-- so are the assumptions, in order
abbrev pub AreBuiltAssumptions : Scope → World → List LitExpr → List Assumed → Type 0
AreBuiltAssumptions s w [] [] = Unit {0}
AreBuiltAssumptions s w (l ∷ ls) (a ∷ as_) = IsBuiltAssumption s w l a × AreBuiltAssumptions s w ls as_
AreBuiltAssumptions s w [] (a ∷ as_) = ⊥
AreBuiltAssumptions s w (l ∷ ls) [] = ⊥

-- the terms are those of assumptions that are the literals, and the table grew for their trees
pub record Assumes (s : Scope) (old new : World) (ls : List LitExpr) (ts : List Term) : Type 0 where
  pub assumed : List Assumed
  pub are : AreBuiltAssumptions s new ls assumed
  pub terms : assumed_terms assumed ≡ ts
  pub grows : GrowsBy (assumed_trees assumed) old new

-- so it is for whatever trees the table's names stand for
pub record AssumesAll (old new : World) (ls : List LitExpr) (ts : List Term) : Type 0 where
  pub each : (s : Scope) → AreNamed old s (record { bound = []; defined = old.term_names }) → Assumes s old new ls ts

-- some terms were added, and nothing else changed
pub record AddsSome (old new : World) : Type 0 where
  pub count : ℕ
  pub adds : AddsAtMost count old new

-- so it is where the table's names stand for any trees
pub record MayAddSome (old new : World) : Type 0 where
  pub each : (s : Scope) → AreNamed old s (record { bound = []; defined = old.term_names }) → AddsSome old new

-- making assumptions of the literals stopped: the first unknown name is told, or no slot or no memory is left
abbrev pub StopsAssuming : Environment → Environment → List LitExpr → Stop → Type 0
StopsAssuming old new ls why = (s : Scope) → AreNamed old.table s (record { bound = []; defined = old.table.term_names }) → IsUnbuilt (unknown_in s ls) new why

-- the names are those, in order, and each term stands for the tree of its name
abbrev pub AreShown : World → List Declared → List Named → Type 0
AreShown w [] [] = Unit {0}
AreShown w (d ∷ ds) (n ∷ ns) = (d.name ≡ n.name) × (d.has_value ≡ n.has_value) × StandsFor w n.tree d.term × AreShown w ds ns
AreShown w [] (n ∷ ns) = ⊥
AreShown w (d ∷ ds) [] = ⊥
