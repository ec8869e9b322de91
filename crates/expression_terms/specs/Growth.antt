-- How many terms building an expression may add: few for each distinct subtree of what is written.
use Rattle.std.specs.Prelude.{ℕ, ◌+◌, ◌*◌, List, [], ◌∷◌, ◌++◌, Result, Ok, Err}
use Rattle.y_tree.specs.Tree.{Tree, node, count}
use Rattle.term_table.specs.World.{World}
use Rattle.term_build.specs.Building.{AddsAtMost, IsIn, IsAmong}
use Rattle.yices_grammar.specs.Commands.{Expr, expr_at, Exprs, no_exprs, more_exprs, Binds, no_binds, more_binds, operation, let_in, apply}
use Rattle.yices_grammar.specs.Commands as form
use Rattle.expression_terms.specs.Trees.{Scope, Cause, tree_of, bindings_of}

-- a tree, where it is there
abbrev pub if_there : Result Tree Cause → List Tree
if_there (Ok t) = t ∷ []
if_there (Err e) = []

-- the trees of what is written inside, where the names are bound
abbrev pub where_bound : Result Scope Cause → (Scope → List Tree) → List Tree
where_bound (Ok ns) inside = inside ns
where_bound (Err e) inside = []

-- the trees of an expression and of all expressions in it
unfoldable mutual
  pub written_trees : Scope → Expr → List Tree
  written_trees s (expr_at at f) = if_there (tree_of s (expr_at at f)) ++ inner_trees s f

  pub inner_trees : Scope → form.ExprForm → List Tree
  inner_trees s (operation w es) = all_trees s es
  inner_trees s (let_in bs e) = bound_trees s bs ++ where_bound (bindings_of s bs) (λ ns. written_trees (ns ++ s) e)
  inner_trees s (apply f es) = written_trees s f ++ all_trees s es
  inner_trees s (form.update f es v) = written_trees s f ++ (all_trees s es ++ written_trees s v)
  inner_trees s _ = []

  pub all_trees : Scope → Exprs → List Tree
  all_trees s no_exprs = []
  all_trees s (more_exprs e es) = written_trees s e ++ all_trees s es

  pub bound_trees : Scope → Binds → List Tree
  bound_trees s no_binds = []
  bound_trees s (more_binds w e bs) = written_trees s e ++ bound_trees s bs

-- for each tree 16 times four more than it has arguments
abbrev pub allowed : List Tree → ℕ
allowed [] = 0
allowed (node op ts ∷ ds) = 16 * (4 + count ts) + allowed ds

-- the trees stand there each once
abbrev pub AreDifferent : List Tree → Type 0
AreDifferent [] = Unit {0}
AreDifferent (d ∷ ds) = (IsAmong d ds → ⊥) × AreDifferent ds

-- the distinct subtrees of trees, each once
pub record AreSubtrees (ds ts : List Tree) : Type 0 where
  pub once : AreDifferent ds
  pub every : (a t : Tree) → IsAmong t ts → IsIn a t → IsAmong a ds
  pub only : (a : Tree) → IsAmong a ds → (t : Tree) × IsAmong t ts × IsIn a t

-- the table grew by no more than is allowed for the distinct subtrees of the trees, and nothing else of it changed
abbrev pub GrowsFor : List Tree → World → World → Type 0
GrowsFor ts old new = (ds : List Tree) → AreSubtrees ds ts → AddsAtMost (allowed ds) old new
