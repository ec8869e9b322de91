-- What a session of the code keeps, and which states it stands for.
use Rattle.std.specs.Prelude.{◌≡◌, ℕ, ◌≤◌, Bool, false, List, [], ◌∷◌, ◌++◌, Option, Some, None, length, map, take, drop, slice_get}
use Rattle.y_tree.specs.Sorts.{boolean}
use Rattle.y_tree.specs.Tree.{Tree}
use Rattle.y_tree.specs.Values.{Value}
use Rattle.clause_search.specs.declared.Turns.{Turns}
use Rattle.term_shapes.specs.declared.handles.Term.{Term}
use Rattle.term_table.specs.World.{World}
use Rattle.term_table.specs.Checking.{HasSort, AreLive}
use Rattle.term_table.specs.declared.table.Marked.TheVariants as handle
use Rattle.term_collect.specs.Reach.{IsMeant}
use Rattle.term_orders.specs.Orders.{IsUnder, IsVariable}
use Rattle.model_eval.specs.Models.{IsModel, assignment_of, terms_of}
use Rattle.yices_api.specs.State.{State as Environment}
use Rattle.expression_terms.specs.Building.{AreNamed}
use Rattle.term_build.specs.Building.{IsIn}
use Rattle.expression_terms.specs.Standing.{StandsFor, IsBoolean}
use Rattle.expression_terms.specs.Keeping.{IsBuiltWithin}
use Rattle.yices_session.specs.State.{Named, Formula, Kept, Core, State, scope_of, stacked_terms, core_terms}
use Rattle.yices_session.specs.Replies.{core_text}

-- a name with its term, and whether it was defined with a value
pub record Declared : Type 0 where
  pub name : List ℕ
  pub term : Term
  pub has_value : Bool

-- the terms of a core, and how it is printed
pub record Blamed : Type 0 where
  pub terms : List Term
  pub line : List ℕ

-- the environment; the names in order; the terms that were built on the way to those of names; the formulas, the oldest first; how many there were as each level was opened, the newest level first; values of constants; a core; the limit of turns
pub record Held : Type 0 where
  pub env : Environment
  pub declared : List Declared
  pub parts : List Term
  pub formulas : List Term
  pub marks : List ℕ
  pub model : Option (List (Term × Value))
  pub core : Option Blamed
  pub turns : Turns

-- the names are those, in order
abbrev pub AreDeclared : List Declared → List Named → Type 0
AreDeclared [] [] = Unit {0}
AreDeclared (d ∷ ds) (n ∷ ns) = (d ≡ record { name = n.name; term = n.term; has_value = n.has_value }) × (n.is_constant ≡ false) × AreDeclared ds ns
AreDeclared [] (n ∷ ns) = ⊥
AreDeclared (d ∷ ds) [] = ⊥

-- the formulas level by level, the newest first
abbrev pub levels_in : List ℕ → List Term → List (List Term)
levels_in [] ts = ts ∷ []
levels_in (m ∷ ms) ts = drop m ts ∷ levels_in ms (take m ts)

-- the marks fall, from at most n on
abbrev pub AreMarks : List ℕ → ℕ → Type 0
AreMarks [] n = Unit {0}
AreMarks (m ∷ ms) n = (m ≤ n) × AreMarks ms m

-- the terms of each list
abbrev pub terms_of_lists : List (List Formula) → List (List Term)
terms_of_lists lists = map (λ (fs : List Formula). map (λ (f : Formula). f.term) fs) lists

-- the values make the assignment that is kept
abbrev pub IsKeptModel : World → Option (List (Term × Value)) → Option Kept → Type 0
IsKeptModel w None None = Unit {0}
IsKeptModel w (Some m) (Some k) = IsModel w m × (k.values ≡ assignment_of w m) × (k.constants ≡ terms_of m)
IsKeptModel w None (Some k) = ⊥
IsKeptModel w (Some m) None = ⊥

-- the core is the one that is kept, as it is printed
abbrev pub IsKeptCore : Option Blamed → Option Core → Type 0
IsKeptCore None None = Unit {0}
IsKeptCore (Some b) (Some c) = (b.terms ≡ c.terms) × (b.line ≡ core_text (Some c))
IsKeptCore None (Some c) = ⊥
IsKeptCore (Some b) None = ⊥

-- the terms of names
abbrev pub name_terms : List Named → List Term
name_terms ns = map (λ (n : Named). n.term) ns

-- the term was built for the tree of its name, and it and all that were built on the way are among these
abbrev pub IsNameBuilt : World → List Term → Named → Type 0
IsNameBuilt w kept n = IsBuiltWithin w kept n.tree n.term

-- whatever stands below one of these is a truth value, and no variable
pub record AreTruths (w : World) (ts : List Term) : Type 0 where
  pub sorts : (t : Term) → IsUnder w ts t → HasSort w t boolean
  pub closed : (t : Term) → IsUnder w ts t → IsVariable w t → ⊥

-- the formula's term stands for its tree
abbrev pub IsFormulaBuilt : World → Formula → Type 0
IsFormulaBuilt w f = StandsFor w f.tree f.term

-- what the session of the code keeps is that state
pub record Stands (h : Held) (s : State) : Type 0 where
  pub table : s.table ≡ h.env.table
  -- no context is open, so a collection keeps what the session keeps, and no more
  pub contexts : h.env.contexts ≡ []
  pub declared : AreDeclared h.declared s.names
  pub parts : s.parts ≡ h.parts
  pub lists : terms_of_lists s.lists ≡ levels_in h.marks h.formulas
  pub marks : AreMarks h.marks (length h.formulas)
  pub model : IsKeptModel s.table h.model s.model
  pub core : IsKeptCore h.core s.core
  -- the table's names are those of the session, and each term was built for its name's tree
  pub named : AreNamed s.table (scope_of s.names) (record { bound = []; defined = s.table.term_names })
  -- a name's tree has truth values alone in it
  pub trees : (i : ℕ) (n : Named) → slice_get s.names i ≡ Some n → (a : Tree) → IsIn a n.tree → IsBoolean a
  pub names : (i : ℕ) (n : Named) → slice_get s.names i ≡ Some n → IsNameBuilt s.table (name_terms s.names ++ s.parts) n
  -- a collection keeps all of these: a name of the table means each name's term, and what was built on the way is live
  pub meant : (i : ℕ) (n : Named) → slice_get s.names i ≡ Some n → IsMeant s.table (handle.Term n.term)
  pub live : AreLive s.table s.parts
  pub formulas : (i j : ℕ) (fs : List Formula) (f : Formula) → slice_get s.lists i ≡ Some fs → slice_get fs j ≡ Some f → IsFormulaBuilt s.table f
  pub truths : AreTruths s.table (name_terms s.names ++ (stacked_terms s.lists ++ core_terms s.core))

-- some state is what is kept
abbrev pub IsSession : Held → Type 0
IsSession h = (s : State) × Stands h s
