-- What building the term of an expression answers.
use Rattle.std.specs.Prelude.{◌≡◌, ◌⊎◌, ℕ, Bool, true, false, List, [], ◌∷◌, ◌++◌, Option, Some, None, Result, Ok, Err}
use Rattle.name_stacks.specs.Names.{newest, or_else}
use Rattle.y_tree.specs.Sorts.{Sort}
use Rattle.y_tree.specs.Tree.{negation, Tree, node}
use Rattle.y_tree.specs.Tree as tree
use Rattle.y_tree.specs.Misfits.{Wanted}
use Rattle.stamped_slots.specs.Slots.{taken}
use Rattle.term_shapes.specs.declared.handles.Term.{Term}
use Rattle.term_table.specs.World.{World, KeepsType}
use Rattle.term_table.specs.Checking.{Wants}
use Rattle.term_build.specs.declared.errors.BuildError.{BuildError}
use Rattle.term_build.specs.declared.errors.BuildError.TheVariants as build_error
use Rattle.yices_grammar.specs.declared.Place.{Place}
use Rattle.yices_grammar.specs.Commands.{Expr, LitExpr}
use Rattle.yices_api.specs.State.{State, ContextsStay}
use Rattle.expression_terms.specs.declared.refusal.Refusal.TheVariants as refusal
use Rattle.expression_terms.specs.declared.refusal.Stop.{Stop}
use Rattle.expression_terms.specs.declared.refusal.Stop.TheVariants as stop
use Rattle.expression_terms.specs.Trees.{Scope, Cause, sort_text, wanted_text, tree_named, tree_of, known}
use Rattle.expression_terms.specs.Standing.{IsBuiltFor, IsBoolean}
use Rattle.expression_terms.specs.Growth.{GrowsFor, written_trees, if_there}
use Rattle.expression_terms.specs.Fresh.{GrowsBy}

-- names with their terms, those that `let` binds, as pairs from the oldest to the newest, before those that are defined
pub record Named : Type 0 where
  pub bound : List (List ℕ × Term)
  pub defined : List (List ℕ × Term)

-- the term that a name stands for
abbrev pub term_named : Named → List ℕ → Option Term
term_named ns w = or_else (newest w ns.bound) (newest w ns.defined)

-- the names that a table has, over which these are bound
abbrev pub named_in : World → List (List ℕ × Term) → Named
named_in w bound = record { bound = bound; defined = w.term_names }

-- the names with more that are bound behind them
abbrev pub with_bound : Named → List (List ℕ × Term) → Named
with_bound names ps = record { bound = names.bound ++ ps; defined = names.defined }

-- the tree of each name is a truth value
abbrev pub AreBoolean : Scope → Type 0
AreBoolean s = (name : List ℕ) (d : Tree) → tree_named s name ≡ Some d → IsBoolean d

-- the same names are there, each for a truth value, and each term was built for its name's tree
pub record AreNamed (w : World) (s : Scope) (ns : Named) : Type 0 where
  pub known : (name : List ℕ) (d : Tree) → tree_named s name ≡ Some d → (t : Term) × (term_named ns name ≡ Some t) × IsBuiltFor w d t
  pub truths : AreBoolean s
  pub unknown : (name : List ℕ) → tree_named s name ≡ None → term_named ns name ≡ None

-- the term was built for the tree of the expression
pub record Builds (s : Scope) (e : Expr) (new : State) (t : Term) : Type 0 where
  pub tree : Tree
  pub is : tree_of s e ≡ Ok tree
  pub built : IsBuiltFor new.table tree t

-- what is wrong, if it is
abbrev pub cause_in : {A : Type 0} → Result A Cause → Option Cause
cause_in (Ok t) = None
cause_in (Err c) = Some c

-- why nothing was built: this is wrong first, or no slot for terms is left, or memory is refused
abbrev pub IsUnbuilt : Option Cause → State → Stop → Type 0
IsUnbuilt c new (stop.Refused at refusal.TableFull) = taken new.table.terms ≡ 4194304
IsUnbuilt c new (stop.Refused at why) = c ≡ Some (record { place = at; refusal = why })
IsUnbuilt c new stop.NoMemory = Unit {0}

-- the expression's term is built, for whatever trees its names stand for; or the first thing that is wrong is told
abbrev pub BuildsOr : Named → State → Expr → Result Term Stop → State → Type 0
BuildsOr ns old e (Ok t) new = (s : Scope) → AreNamed old.table s ns → Builds s e new t
BuildsOr ns old e (Err why) new = (s : Scope) → AreNamed old.table s ns → IsUnbuilt (cause_in (tree_of s e)) new why

-- building adds few terms, and changes nothing else
pub record Adds (ns : Named) (old : State) (e : Expr) (new : State) : Type 0 where
  pub grows : (s : Scope) → AreNamed old.table s ns → GrowsFor (written_trees s e) old.table new.table
  pub contexts : ContextsStay old new

-- the name stands for nothing, and that is told; or memory is refused
abbrev pub IsMissing : Named → Place → List ℕ → Stop → Type 0
IsMissing ns at w (stop.Refused place why) = (place ≡ at) × (why ≡ refusal.UnknownName w) × (term_named ns w ≡ None)
IsMissing ns at w stop.NoMemory = Unit {0}

-- how the refusal of a constructor is told of the expression at that place
abbrev pub TellsCause : World → Place → BuildError → Stop → Type 0
TellsCause w at (build_error.BadArity n) why = why ≡ stop.Refused at (refusal.BadArity n)
TellsCause w at (build_error.WrongType place want found) why =
    (why ≡ stop.NoMemory) ⊎ ((v : Wanted) (k : Sort) → Wants w want v → KeepsType w found k → why ≡ stop.Refused at (refusal.WrongType place (wanted_text v) (sort_text k)))
TellsCause w at build_error.TableFull why = why ≡ stop.Refused at refusal.TableFull
TellsCause w at build_error.NoMemory why = why ≡ stop.NoMemory
TellsCause w at _ why = why ≡ stop.Refused at refusal.NotBuilt

-- the tree of a name with a sign, where it is there
abbrev pub signed : Bool → Result Tree Cause → Result Tree Cause
signed positive (Err c) = Err c
signed true (Ok t) = Ok t
signed false (Ok t) = Ok (node negation (tree.more t tree.none))

-- the tree of a literal, or that its name is unknown
abbrev pub literal_tree : Scope → LitExpr → Result Tree Cause
literal_tree s l = signed l.positive (known l.name_place l.name (tree_named s l.name))

-- the term was built for the tree of the literal, and the table grew by what that takes
pub record BuildsLiteral (s : Scope) (l : LitExpr) (old new : State) (t : Term) : Type 0 where
  pub tree : Tree
  pub is : literal_tree s l ≡ Ok tree
  pub built : IsBuiltFor new.table tree t
  pub grows : GrowsBy (tree ∷ []) old.table new.table

-- the literal's term is built, or its name is told as unknown
abbrev pub BuildsLiteralOr : Named → State → LitExpr → Result Term Stop → State → Type 0
BuildsLiteralOr ns old l (Ok t) new = (s : Scope) → AreNamed old.table s ns → BuildsLiteral s l old new t
BuildsLiteralOr ns old l (Err why) new = (s : Scope) → AreNamed old.table s ns → IsUnbuilt (cause_in (literal_tree s l)) new why

-- building a literal adds few terms, and changes nothing else
pub record AddsLiteral (ns : Named) (old : State) (l : LitExpr) (new : State) : Type 0 where
  pub grows : (s : Scope) → AreNamed old.table s ns → GrowsFor (if_there (literal_tree s l)) old.table new.table
  pub contexts : ContextsStay old new
