-- Variables by the nodes that they stand for, in a record.
use Rattle.std.specs.Prelude.{◌≡◌, ℕ, ◌<◌, ◌≤◌, ◌+◌, ◌++◌, List, [], ◌∷◌, Option, Some, length, map, take, slice_get, unwrap_or}
use Rattle.clause_logic.specs.declared.Lit.{Lit}
use Rattle.node_encoding.specs.declared.Node.{Node}
use Rattle.node_encoding.specs.declared.Node.TheVariants as node_of
use Rattle.node_encoding.specs.declared.NodeLit.{NodeLit}
use Rattle.node_encoding.specs.declared.encoding.Origin.{Origin}
use Rattle.node_encoding.specs.declared.encoding.Origin.TheVariants as origin
use Rattle.node_encoding.specs.Encoding.{arguments_at}
use Rattle.theory_combine.specs.Learned.{clauses_of}

-- the literal over the node that the variable has as its name
abbrev pub rename : List ℕ → Lit → Lit
rename names l = record { var = unwrap_or (slice_get names l.var) 0; positive = l.positive }

-- a parity with so many arguments
abbrev pub HasFirst : Option Node → ℕ → Type 0
HasFirst (Some (node_of.Xor args)) count = count ≤ length args
HasFirst _ count = ⊥

-- a variable that stands for first arguments stands for some of a parity of the problem
abbrev pub HaveParities : List Node → List Origin → Type 0
HaveParities problem origins =
    (v node count : ℕ) → slice_get origins v ≡ Some (origin.Prefix node count) → (args : List ℕ) × (slice_get problem node ≡ Some (node_of.Xor args)) × (0 < count) × (count ≤ length args)

-- the parity of the first arguments
abbrev pub first_of : Option Node → ℕ → Node
first_of n count = node_of.Xor (take count (arguments_at n))

-- the node that a variable with that origin adds, if any
abbrev pub added_by : List Node → Origin → List Node
added_by problem (origin.Node k) = []
added_by problem (origin.Prefix k count) = first_of (slice_get problem k) count ∷ []

-- the nodes that are added for variables with these origins
abbrev pub added_for : List Node → List Origin → List Node
added_for problem [] = []
added_for problem (o ∷ os) = added_by problem o ++ added_for problem os

-- the number of the node of a variable with that origin, where so many nodes are there
abbrev pub name_of : ℕ → Origin → ℕ
name_of count (origin.Node k) = k
name_of count (origin.Prefix k first) = count

-- the numbers of the nodes of all variables
abbrev pub names_from : List Node → ℕ → List Origin → List ℕ
names_from problem count [] = []
names_from problem count (o ∷ os) = name_of count o ∷ names_from problem (count + length (added_by problem o)) os

-- the nodes of a record, and its clauses, for the origins of the variables and the learned clauses
pub record IsNamed (problem : List Node) (origins : List Origin) (learned : List (List Lit)) (nodes : List Node) (clauses : List (List NodeLit)) : Type 0 where
  pub listed : nodes ≡ problem ++ added_for problem origins
  pub renamed : clauses_of clauses ≡ map (map (rename (names_from problem (length problem) origins))) learned
