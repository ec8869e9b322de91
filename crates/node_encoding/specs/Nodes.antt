-- Terms as numbered nodes, each over earlier ones, and the trees that they stand for.
use Rattle.std.specs.Prelude.{◌≡◌, ℕ, ◌<◌, Bool, List, [], ◌∷◌, ◌++◌, Option, Some, None, length, map, slice_get, take, unwrap_or, All, Contains}
use Rattle.y_tree.specs.Sorts.{boolean}
use Rattle.y_tree.specs.Values as value
use Rattle.y_tree.specs.Tree.{Op, truth, falsity, constant, negation, conjunction, disjunction, parity, choice, equality, distinctness, Tree, Trees, node, none, more, trees}
use Rattle.y_tree.specs.Meaning.{Assignment, truth_of, meaning}
use Rattle.node_encoding.specs.declared.Node.{Node}
use Rattle.node_encoding.specs.declared.Node.TheVariants as node_of
use Rattle.node_encoding.specs.declared.NodeLit.{NodeLit}

-- the operator of a node
abbrev pub op_of : Node → Op
op_of node_of.True = truth
op_of node_of.False = falsity
op_of (node_of.Const number) = constant number boolean
op_of (node_of.Not a) = negation
op_of (node_of.And args) = conjunction
op_of (node_of.Or args) = disjunction
op_of (node_of.Xor args) = parity
op_of (node_of.Ite c a b) = choice
op_of (node_of.Eq a b) = equality
op_of (node_of.Distinct args) = distinctness

-- the numbers of a node's arguments, in order
abbrev pub arguments_of : Node → List ℕ
arguments_of node_of.True = []
arguments_of node_of.False = []
arguments_of (node_of.Const number) = []
arguments_of (node_of.Not a) = a ∷ []
arguments_of (node_of.And args) = args
arguments_of (node_of.Or args) = args
arguments_of (node_of.Xor args) = args
arguments_of (node_of.Ite c a b) = c ∷ a ∷ b ∷ []
arguments_of (node_of.Eq a b) = a ∷ b ∷ []
arguments_of (node_of.Distinct args) = args

-- the number of arguments is one that the operator takes
abbrev pub HasArity : Node → Type 0
HasArity (node_of.And args) = 0 < length args
HasArity (node_of.Or args) = 0 < length args
HasArity (node_of.Xor args) = 0 < length args
HasArity (node_of.Distinct args) = 0 < length args
HasArity _ = Unit {0}

-- the node may come next: its arguments are earlier nodes, as many as its operator takes
pub record Fits (nodes : List Node) (n : Node) : Type 0 where
  pub earlier : All (λ a. a < length nodes) (arguments_of n)
  pub arity : HasArity n

-- each node fits those before it
pub record IsFormed (nodes : List Node) : Type 0 where
  pub fits : (k : ℕ) (n : Node) → slice_get nodes k ≡ Some n → Fits (take k nodes) n

-- the tree with that number, and the tree of `false` where there is none
abbrev pub tree_in : List Tree → ℕ → Tree
tree_in ts k = unwrap_or (slice_get ts k) (node falsity none)

-- the trees with those numbers
abbrev pub trees_in : List Tree → List ℕ → Trees
trees_in ts [] = none
trees_in ts (k ∷ ks) = more (tree_in ts k) (trees_in ts ks)

-- the tree of a node over trees that stand before it
abbrev pub tree_over : List Tree → Node → Tree
tree_over ts n = node (op_of n) (trees_in ts (arguments_of n))

-- these trees, and then the trees of the nodes, each over those before it
unfoldable pub trees_from : List Tree → List Node → List Tree
trees_from ts [] = ts
trees_from ts (n ∷ ns) = trees_from (ts ++ tree_over ts n ∷ []) ns

-- the tree of node number k
unfoldable pub tree_at : List Node → ℕ → Tree
tree_at nodes k = tree_in (trees_from [] nodes) k

-- nodes that are added later change no tree
abbrev pub OlderTreesStay : Type 0
OlderTreesStay = (nodes later : List Node) (k : ℕ) → k < length nodes → tree_at (nodes ++ later) k ≡ tree_at nodes k

-- the tree of a new node is its operator over the trees of its arguments
abbrev pub NewTreeOverArguments : Type 0
NewTreeOverArguments = (nodes : List Node) (n : Node) → tree_at (nodes ++ n ∷ []) (length nodes) ≡ node (op_of n) (trees (map (tree_at nodes) (arguments_of n)))

-- the truth values of the nodes' trees
abbrev pub truths_of : List Node → Assignment → ℕ → Bool
truths_of nodes s k = truth_of (meaning (tree_at nodes k) s)

-- the literal is true under the assignment
abbrev pub Makes : List Node → Assignment → NodeLit → Type 0
Makes nodes s lit = truth_of (meaning (tree_at nodes lit.node) s) ≡ lit.positive

-- each literal is
abbrev pub MakesAll : List Node → Assignment → List NodeLit → Type 0
MakesAll nodes s lits = (i : ℕ) (lit : NodeLit) → slice_get lits i ≡ Some lit → Makes nodes s lit

-- each literal at one of these places is
abbrev pub MakesAt : List Node → Assignment → List NodeLit → List ℕ → Type 0
MakesAt nodes s lits places = (i : ℕ) (lit : NodeLit) → Contains places i → slice_get lits i ≡ Some lit → Makes nodes s lit

-- the constant's number, of a node that is one
abbrev pub number_of : Option Node → Option ℕ
number_of None = None
number_of (Some node_of.True) = None
number_of (Some node_of.False) = None
number_of (Some (node_of.Const number)) = Some number
number_of (Some (node_of.Not a)) = None
number_of (Some (node_of.And args)) = None
number_of (Some (node_of.Or args)) = None
number_of (Some (node_of.Xor args)) = None
number_of (Some (node_of.Ite c a b)) = None
number_of (Some (node_of.Eq a b)) = None
number_of (Some (node_of.Distinct args)) = None

-- the constant's number at a node
abbrev pub number_at : List Node → ℕ → Option ℕ
number_at nodes k = number_of (slice_get nodes k)

-- a truth value of the constant with that number, if there is one
abbrev pub entry_of : Option ℕ → Bool → List (ℕ × Bool)
entry_of None b = []
entry_of (Some number) b = (number, b) ∷ []

-- truth values of nodes, read as those of the constants that stand there
abbrev pub constants_in : List Node → List (ℕ × Bool) → List (ℕ × Bool)
constants_in nodes [] = []
constants_in nodes (e ∷ es) = entry_of (number_at nodes e.0) e.1 ++ constants_in nodes es

-- truth values of constants, by their numbers, as an assignment
abbrev pub booleans : List (ℕ × Bool) → Assignment
booleans es = record { constants = map (λ e. (e.0, value.truth e.1)) es; variables = [] }

-- truth values of nodes, read as an assignment of the constants that stand there
abbrev pub assignment_of : List Node → List (ℕ × Bool) → Assignment
assignment_of nodes values = booleans (constants_in nodes values)
