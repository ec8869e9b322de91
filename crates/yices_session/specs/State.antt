-- What a session of the language knows between two commands.
use Rattle.std.specs.Prelude.{◌≡◌, ℕ, Bool, List, [], ◌∷◌, ◌++◌, Option, Some, None, map}
use Rattle.y_tree.specs.Tree.{Tree}
use Rattle.y_tree.specs.Meaning.{Assignment, Satisfies}
use Rattle.term_shapes.specs.declared.handles.Term.{Term}
use Rattle.term_table.specs.World.{World}
use Rattle.term_table.specs.Start.{IsNew}
use Rattle.expression_terms.specs.Trees.{Scope}

-- a name with the tree that it stands for, the term that was built for it, whether it was defined with a value, and whether as a constant expression
pub record Named : Type 0 where
  pub name : List ℕ
  pub tree : Tree
  pub term : Term
  pub has_value : Bool
  pub is_constant : Bool

-- a formula: its tree as it was written, and the term that was built for it
pub record Formula : Type 0 where
  pub tree : Tree
  pub term : Term

-- a name or its negation, as it was written
pub record Literal : Type 0 where
  pub name : List ℕ
  pub positive : Bool

-- assumptions that can't be true with the formulas: their terms, each once, and how they were written
pub record Core : Type 0 where
  pub terms : List Term
  pub written : List Literal

-- a model that is kept: values of constants, and the terms of these
pub record Kept : Type 0 where
  pub values : Assignment
  pub constants : List Term

-- the constants of a model, where there is one
abbrev pub model_terms : Option Kept → List Term
model_terms None = []
model_terms (Some m) = m.constants

-- the terms of a core, where there is one
abbrev pub core_terms : Option Core → List Term
core_terms None = []
core_terms (Some c) = c.terms

-- the table; the names in order of declaration; the terms that were built on the way to those of names; the lists of formulas, the newest list first and in each the oldest formula; the model and the core that are kept
pub record State : Type 0 where
  pub table : World
  pub names : List Named
  pub parts : List Term
  pub lists : List (List Formula)
  pub model : Option Kept
  pub core : Option Core

-- the table is new, nothing is declared, nothing asserted, and neither a model nor a core is kept
pub record IsStart (s : State) : Type 0 where
  pub table : IsNew s.table
  pub names : s.names ≡ []
  pub parts : s.parts ≡ []
  pub lists : s.lists ≡ [] ∷ []
  pub model : s.model ≡ None
  pub core : s.core ≡ None

-- the trees of the names
abbrev pub scope_of : List Named → Scope
scope_of ns = map (λ n. (n.name, n.tree)) ns

-- the trees of formulas
abbrev pub trees_of : List Formula → List Tree
trees_of fs = map (λ f. f.tree) fs

-- the terms of all formulas, those of the bottom level first
abbrev pub stacked_terms : List (List Formula) → List Term
stacked_terms [] = []
stacked_terms (fs ∷ lists) = stacked_terms lists ++ map (λ f. f.term) fs

-- the assignment makes each formula of each list true
abbrev pub Holds : List (List Formula) → Assignment → Type 0
Holds [] s = Unit {0}
Holds (fs ∷ lists) s = Satisfies s (trees_of fs) × Holds lists s
