-- What a command does to a session, what it replies, and when it is refused.
use Rattle.std.specs.Prelude.{◌≡◌, ℕ, ◌<◌, ◌-◌, Bool, true, false, not, List, [], ◌∷◌, ◌++◌, Option, Some, None, Ok, ◌⊎◌, codes, drop, filter, length, map, nat_le, if◌then◌else◌}
use Rattle.std.specs.List.{AllByRecursion, list_any}
use Rattle.y_tree.specs.Sorts.{boolean}
use Rattle.y_tree.specs.Tree.{constant, negation, Tree, node}
use Rattle.y_tree.specs.Tree as tree
use Rattle.y_tree.specs.Meaning.{Assignment, Satisfies}
use Rattle.clause_search.specs.declared.Turns.{Turns}
use Rattle.stamped_slots.specs.Slots.{live}
use Rattle.term_shapes.specs.declared.handles.Term.{Term}
use Rattle.term_shapes.specs.declared.handles.TypeId.{TypeId}
use Rattle.term_shapes.specs.declared.shapes.TypeShape.TheVariants as type
use Rattle.term_table.specs.World.{World, HasTypeShape}
use Rattle.term_table.specs.Changes.{MakesConstant}
use Rattle.term_table.specs.Naming.{term_named}
use Rattle.term_orders.specs.Orders.{IsConstant}
use Rattle.term_build.specs.Building.{IsAmong}
use Rattle.term_collect.specs.Reach.{IsReached, IsKept, Leaves}
use Rattle.term_sketches.specs.Sketches.{same_term}
use Rattle.theory_combine.specs.declared.Learned.{Learned}
use Rattle.term_checks.specs.Problems.{IsLearned}
use Rattle.name_stacks.specs.Names.{or_else}
use Rattle.yices_grammar.specs.Commands.{Expr, LitExpr, Action, declare, define, assert, check, check_assuming, show_unsat_assumptions, push, pop, reset, show_model, eval, echo, exit, Command}
use Rattle.expression_terms.specs.Trees.{Scope, Cause, tree_named, tree_of}
use Rattle.expression_terms.specs.Standing.{StandsFor}
use Rattle.expression_terms.specs.Growth.{GrowsFor, written_trees}
use Rattle.expression_terms.specs.Building.{cause_in, literal_tree}
use Rattle.yices_session.specs.Built.{is_built}
use Rattle.yices_session.specs.State.{Formula, Literal, Kept, model_terms, Core, core_terms, State, scope_of, stacked_terms, Holds}
use Rattle.yices_session.specs.Replies.{model_text, value_reply, core_text}

-- how many levels are open: one less than there are lists
abbrev pub level_of : State → ℕ
level_of s = length s.lists - 1

-- a new name is declared, without a reply; it stands for a new constant
pub record Declares (old : State) (w reply : List ℕ) (new : State) : Type 0 where
  pub unused : tree_named (scope_of old.names) w ≡ None
  pub made : World
  pub of : TypeId
  pub is_bool : HasTypeShape old.table of type.Bool
  pub term : Term
  pub makes : MakesConstant old.table made of term
  pub silent : reply ≡ []
  pub after : new ≡ record old { table = term_named made w term; names = old.names ++ record { name = w; tree = node (constant old.table.constants boolean) tree.none; term = term; has_value = false; is_constant = false } ∷ [] }

-- the table grew for an expression, whose tree the term stands for
pub record BuildsFor (s : State) (e : Expr) (built : World) (d : Tree) (t : Term) : Type 0 where
  pub known : tree_of (scope_of s.names) e ≡ Ok d
  pub stands : StandsFor built d t
  pub grows : GrowsFor (written_trees (scope_of s.names) e) s.table built

-- each of the terms stands for a tree that is written
abbrev pub ArePartsOf : World → List Tree → List Term → Type 0
ArePartsOf w written ts = AllByRecursion (λ t. (part : Tree) × IsAmong part written × StandsFor w part t) ts

-- a new name is defined, without a reply; it stands for the expression, and what was built on the way is kept for it
pub record Defines (old : State) (w : List ℕ) (e : Expr) (reply : List ℕ) (new : State) : Type 0 where
  pub unused : tree_named (scope_of old.names) w ≡ None
  pub built : World
  pub value : Tree
  pub term : Term
  pub builds : BuildsFor old e built value term
  pub parts : List Term
  pub are_parts : ArePartsOf built (written_trees (scope_of old.names) e) parts
  pub silent : reply ≡ []
  pub after : new ≡ record old { table = term_named built w term; names = old.names ++ record { name = w; tree = value; term = term; has_value = true; is_constant = false } ∷ []; parts = old.parts ++ parts }

-- the session with these formulas, where neither a model nor a core is kept
abbrev pub with_lists : State → World → List (List Formula) → State
with_lists s w lists = record s { table = w; lists = lists; model = None; core = None }

-- a formula more at the end of the newest list
abbrev pub added : Formula → List (List Formula) → List (List Formula)
added f [] = (f ∷ []) ∷ []
added f (fs ∷ lists) = (fs ++ f ∷ []) ∷ lists

-- a formula is asserted at the newest level, without a reply
pub record Asserts (old : State) (e : Expr) (reply : List ℕ) (new : State) : Type 0 where
  pub built : World
  pub formula : Formula
  pub builds : BuildsFor old e built formula.tree formula.term
  pub silent : reply ≡ []
  pub after : new ≡ with_lists old built (added formula old.lists)

-- a literal with its tree and the term that was built for it
pub record Assumed : Type 0 where
  pub literal : Literal
  pub tree : Tree
  pub term : Term

-- the first literal whose name is unknown
abbrev pub unknown_in : Scope → List LitExpr → Option Cause
unknown_in s [] = None
unknown_in s (l ∷ ls) = or_else (cause_in (literal_tree s l)) (unknown_in s ls)

-- an assumption is that literal, with its tree and a term for it
pub record IsAssumed (s : Scope) (w : World) (l : LitExpr) (a : Assumed) : Type 0 where
  pub literal : a.literal ≡ record { name = l.name; positive = l.positive }
  pub tree : literal_tree s l ≡ Ok a.tree
  pub stands : StandsFor w a.tree a.term

-- so are the assumptions, in order
abbrev pub AreAssumed : Scope → World → List LitExpr → List Assumed → Type 0
AreAssumed s w [] [] = Unit {0}
AreAssumed s w (l ∷ ls) (a ∷ as_) = IsAssumed s w l a × AreAssumed s w ls as_
AreAssumed s w [] (a ∷ as_) = ⊥
AreAssumed s w (l ∷ ls) [] = ⊥

-- the trees of assumptions
abbrev pub assumed_trees : List Assumed → List Tree
assumed_trees as_ = map (λ a. a.tree) as_

-- the terms of assumptions
abbrev pub assumed_terms : List Assumed → List Term
assumed_terms as_ = map (λ a. a.term) as_

-- a model of all formulas and assumptions is found and kept; it has values of constants that were made, and no others
pub record FindsModel (old : State) (assumed : List Assumed) (reply : List ℕ) (new : State) : Type 0 where
  pub model : Kept
  pub holds : Holds old.lists model.values
  pub assumptions : Satisfies model.values (assumed_trees assumed)
  pub made : AllByRecursion (λ e. e.0 < old.table.constants) model.values.constants
  pub no_variables : model.values.variables ≡ []
  pub constants : AllByRecursion (IsConstant old.table) model.constants
  pub says : reply ≡ codes "sat\n"
  pub after : new ≡ record old { model = Some model; core = None }

-- the assumptions whose terms are blamed, in the order in which they were written, of those with one term the first alone
abbrev pub blamed_among : List Term → List Assumed → List Assumed
blamed_among ts [] = []
blamed_among ts (a ∷ as_) =
    if list_any (same_term a.term) ts then a ∷ blamed_among (filter (λ t. not (same_term a.term t)) ts) as_ else blamed_among ts as_

-- the core that is kept: of a check with assumptions, those that are blamed
abbrev pub core_of : Bool → List Term → List Assumed → Option Core
core_of false ts as_ = None
core_of true ts as_ = Some (record { terms = ts; written = map (λ a. a.literal) (blamed_among ts as_) })

-- no assignment makes all formulas and the blamed assumptions true; they are kept as the core where there were assumptions to be made
pub record FindsNone (old : State) (with_assumptions : Bool) (assumed : List Assumed) (reply : List ℕ) (new : State) : Type 0 where
  pub blamed : List Term
  pub never : (s : Assignment) → Holds old.lists s → Satisfies s (assumed_trees (blamed_among blamed assumed)) → ⊥
  pub says : reply ≡ codes "unsat\n"
  pub after : new ≡ record old { model = None; core = core_of with_assumptions blamed assumed }

-- the limit of turns was passed: so many clauses and one more were learned of the problem of the terms; neither a model nor a core is kept
pub record FindsNoVerdict (turns : Turns) (old : State) (assumed : List Assumed) (reply : List ℕ) (new : State) : Type 0 where
  pub learned : Learned
  pub past : IsLearned old.table (stacked_terms old.lists) (assumed_terms assumed) turns learned
  pub says : reply ≡ codes "unknown\n"
  pub after : new ≡ record old { model = None; core = None }

-- the formulas are checked, with assumptions or without
abbrev pub Checks : Turns → State → Bool → List Assumed → List ℕ → State → Type 0
Checks turns old with_assumptions assumed reply new =
    FindsModel old assumed reply new ⊎ FindsNone old with_assumptions assumed reply new ⊎ FindsNoVerdict turns old assumed reply new

-- the formulas are checked together with literals
pub record ChecksAssuming (turns : Turns) (old : State) (ls : List LitExpr) (reply : List ℕ) (new : State) : Type 0 where
  pub built : World
  pub assumed : List Assumed
  pub are : AreAssumed (scope_of old.names) built ls assumed
  pub grows : GrowsFor (assumed_trees assumed) old.table built
  pub checks : Checks turns (record old { table = built }) true assumed reply new

-- the core that is kept is printed
pub record ShowsCore (old : State) (reply : List ℕ) (new : State) : Type 0 where
  pub says : reply ≡ core_text old.core
  pub after : new ≡ old

-- a level is opened, without a reply, where fewer than 65,536 are open
pub record Pushes (old : State) (reply : List ℕ) (new : State) : Type 0 where
  pub room : level_of old < 65536
  pub silent : reply ≡ []
  pub after : new ≡ with_lists old old.table ([] ∷ old.lists)

-- the newest level is taken away with its formulas, without a reply
pub record Pops (old : State) (reply : List ℕ) (new : State) : Type 0 where
  pub above : 0 < level_of old
  pub silent : reply ≡ []
  pub after : new ≡ with_lists old old.table (drop 1 old.lists)

-- the terms that a collection keeps beside those that names mean: what was built on the way to these, the formulas, the constants of the model, and the core
abbrev pub kept_terms : State → List Term
kept_terms s = s.parts ++ (stacked_terms s.lists ++ (model_terms s.model ++ core_terms s.core))

-- what nothing reaches is freed: neither what a name means, nor a formula, nor a constant of the model, nor the core
pub record Collects (old new : State) : Type 0 where
  pub leaves : Leaves old.table new.table (IsReached old.table (IsKept old.table (kept_terms old) [] true))
  pub after : new ≡ record old { table = new.table }

-- all levels and formulas are taken away, without a reply, and what nothing reaches then is freed; the names stay
pub record Resets (old : State) (reply : List ℕ) (new : State) : Type 0 where
  pub silent : reply ≡ []
  pub collects : Collects (with_lists old old.table ([] ∷ [])) new

-- the kept model is printed
pub record ShowsModel (old : State) (reply : List ℕ) (new : State) : Type 0 where
  pub says : reply ≡ model_text old.model old.names
  pub after : new ≡ old

-- the value of an expression under the kept model is printed; the expression is built first
pub record Evaluates (old : State) (e : Expr) (reply : List ℕ) (new : State) : Type 0 where
  pub built : World
  pub value : Tree
  pub term : Term
  pub builds : BuildsFor old e built value term
  pub says : reply ≡ value_reply old.model value
  pub after : new ≡ record old { table = built }

-- the reply is that, and nothing changes
pub record Says (bytes : List ℕ) (old : State) (reply : List ℕ) (new : State) : Type 0 where
  pub says : reply ≡ bytes
  pub after : new ≡ old

-- an action that is built may be answered so, where the session goes on as the new one
abbrev pub Does : Turns → State → Action → List ℕ → State → Type 0
Does turns old (declare w of) reply new = Declares old w reply new
Does turns old (define w of e) reply new = Defines old w e reply new
Does turns old (assert e) reply new = Asserts old e reply new
Does turns old check reply new = Checks turns old false [] reply new
Does turns old (check_assuming ls) reply new = ChecksAssuming turns old ls reply new
Does turns old show_unsat_assumptions reply new = ShowsCore old reply new
Does turns old push reply new = Pushes old reply new
Does turns old pop reply new = Pops old reply new
Does turns old reset reply new = Resets old reply new
Does turns old show_model reply new = ShowsModel old reply new
Does turns old (eval e) reply new = Evaluates old e reply new
Does turns old (echo bytes) reply new = Says bytes old reply new
Does turns old exit reply new = Says [] old reply new
Does turns old _ reply new = ⊥

-- what nothing reaches is freed where the table is full enough, and else nothing changes
abbrev pub CollectsWhere : Bool → State → State → Type 0
CollectsWhere true old ready = Collects old ready
CollectsWhere false old ready = ready ≡ old

-- before a command what nothing reaches is freed where there are 2^21 live terms or more
abbrev pub Prepares : State → State → Type 0
Prepares old ready = CollectsWhere (nat_le 2097152 (live old.table.terms)) old ready

-- the session may answer the command so, and go on as the new one: the command is built, and is answered where what nothing reaches was freed
pub record Step (turns : Turns) (old : State) (c : Command) (reply : List ℕ) (new : State) : Type 0 where
  pub built : is_built c ≡ true
  pub ready : State
  pub prepares : Prepares old ready
  pub does : Does turns ready c.action reply new

-- the session answers the commands with these replies, one after another; none of them is `exit`
abbrev pub Runs : Turns → State → List Command → List (List ℕ) → State → Type 0
Runs turns old [] [] new = new ≡ old
Runs turns old (c ∷ cs) (reply ∷ replies) new = (c.action ≡ exit → ⊥) × ((mid : State) × Step turns old c reply mid × Runs turns mid cs replies new)
Runs turns old [] (reply ∷ replies) new = ⊥
Runs turns old (c ∷ cs) [] new = ⊥
