-- Which trees a table came to be built for while it grew.
use Rattle.std.specs.Prelude.{ℕ, ◌+◌, List, [], ◌∷◌}
use Rattle.y_tree.specs.Tree.{Tree, node, count}
use Rattle.term_shapes.specs.declared.handles.Term.{Term}
use Rattle.term_table.specs.World.{World}
use Rattle.term_build.specs.Building.{AddsAtMost, IsAmong}
use Rattle.expression_terms.specs.Standing.{IsBuiltFor}
use Rattle.expression_terms.specs.Growth.{AreDifferent}

-- a term is there that the constructors made of the tree
abbrev pub IsThere : World → Tree → Type 0
IsThere w d = (t : Term) × IsBuiltFor w d t

-- how many terms a constructor may add for the tree, once its arguments are there
abbrev pub need : Tree → ℕ
need (node op ts) = 4 + count ts

-- how many constructors may add for the trees
abbrev pub needs : List Tree → ℕ
needs [] = 0
needs (d ∷ ds) = need d + needs ds

-- the trees are different, and each is built for in the new table and was not in the old one
pub record IsFresh (old new : World) (ds : List Tree) : Type 0 where
  pub once : AreDifferent ds
  pub built : (d : Tree) → IsAmong d ds → IsThere new d
  pub unbuilt : (d : Tree) → IsAmong d ds → IsThere old d → ⊥

-- each of the trees is one of the others
abbrev pub AreAmong : List Tree → List Tree → Type 0
AreAmong ds ts = (d : Tree) → IsAmong d ds → IsAmong d ts

-- the table grew by what constructors add for fresh trees, which are some of those that are written
pub record GrowsBy (written : List Tree) (old new : World) : Type 0 where
  pub trees : List Tree
  pub adds : AddsAtMost (needs trees) old new
  pub fresh : IsFresh old new trees
  pub listed : AreAmong trees written

-- so it grew, and then by what constructors may have added for some of those before they were refused
pub record GrowsPast (written : List Tree) (old new : World) : Type 0 where
  pub reached : World
  pub grows : GrowsBy written old reached
  pub begun : List Tree
  pub once : AreDifferent begun
  pub listed : AreAmong begun written
  pub adds : AddsAtMost (needs begun) reached new
