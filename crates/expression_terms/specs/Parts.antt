-- Expressions that are built one after another.
use Rattle.std.specs.Prelude.{◌≡◌, ℕ, List, [], ◌∷◌, ◌++◌, Result, Ok}
use Rattle.y_tree.specs.Tree.{Tree, Trees, trees}
use Rattle.term_shapes.specs.declared.handles.Term.{Term}
use Rattle.term_table.specs.World.{World}
use Rattle.yices_grammar.specs.Commands.{Expr, Exprs, Binds}
use Rattle.expression_terms.specs.Trees.{Scope, Cause, join, bind, tree_of, trees_of, bindings_of}
use Rattle.expression_terms.specs.Standing.{IsBuiltFor, AreBuiltFor}
use Rattle.expression_terms.specs.Growth.{written_trees, all_trees, bound_trees}
use Rattle.expression_terms.specs.Fresh.{GrowsBy}
use Rattle.expression_terms.specs.Bound.{AreBound}

-- the term was built for the tree of the expression, and the table grew by what that takes
pub record BuildsOne (s : Scope) (old new : World) (e : Expr) (t : Term) : Type 0 where
  pub tree : Tree
  pub is : tree_of s e ≡ Ok tree
  pub built : IsBuiltFor new tree t
  pub grows : GrowsBy (written_trees s e) old new

-- so were the terms for the trees of the expressions
pub record BuildsAll (s : Scope) (old new : World) (es : Exprs) (ts : List Term) : Type 0 where
  pub trees : Trees
  pub is : trees_of s es ≡ Ok trees
  pub built : AreBuiltFor new trees ts
  pub grows : GrowsBy (all_trees s es) old new

-- these trees, and then those behind them, where they are there
abbrev pub in_front : List Tree → Result Trees Cause → Result Trees Cause
in_front [] rest = rest
in_front (d ∷ ds) rest = join (Ok d) (in_front ds rest)

-- the terms were built for the first of the expressions, and the rest is left
pub record BuildsSome (s : Scope) (old new : World) (es rest : Exprs) (ts : List Term) : Type 0 where
  pub done : List Tree
  pub is : trees_of s es ≡ in_front done (trees_of s rest)
  pub built : AreBuiltFor new (trees done) ts
  pub written : List Tree
  pub all : all_trees s es ≡ written ++ all_trees s rest
  pub grows : GrowsBy written old new

-- these names with their trees, and then those behind them, where they are there
abbrev pub names_in_front : Scope → Result Scope Cause → Result Scope Cause
names_in_front [] rest = rest
names_in_front (n ∷ ns) rest = bind n.0 (Ok n.1) (names_in_front ns rest)

-- the terms were built for what the first names are bound to, and the rest is left
pub record BindsSome (s : Scope) (old new : World) (bs rest : Binds) (ps : List (List ℕ × Term)) : Type 0 where
  pub done : Scope
  pub is : bindings_of s bs ≡ names_in_front done (bindings_of s rest)
  pub bound : AreBound new done ps
  pub written : List Tree
  pub all : bound_trees s bs ≡ written ++ bound_trees s rest
  pub grows : GrowsBy written old new

-- the terms were built for what the names are bound to
pub record BindsAll (s : Scope) (old new : World) (bs : Binds) (ps : List (List ℕ × Term)) : Type 0 where
  pub names : Scope
  pub is : bindings_of s bs ≡ Ok names
  pub bound : AreBound new names ps
  pub grows : GrowsBy (bound_trees s bs) old new
