-- Nodes as literals of a search: what its variables stand for, and what its clauses say.
use Rattle.std.specs.Prelude.{◌≡◌, ℕ, ◌<◌, ◌≤◌, ◌+◌, ◌++◌, ◌⊎◌, Bool, true, false, List, [], ◌∷◌, Option, Some, None, length, map, take, slice_get, unwrap_or, nat_eq}
use Rattle.std.specs.List.{sum_by}
use Rattle.std.specs.Map.{lookup}
use Rattle.y_tree.specs.Meaning.{is_odd}
use Rattle.clause_logic.specs.declared.Lit.{Lit}
use Rattle.clause_logic.specs.Clauses.{opposite, Listed, Models}
use Rattle.node_encoding.specs.declared.Node.{Node}
use Rattle.node_encoding.specs.declared.Node.TheVariants as node_of
use Rattle.node_encoding.specs.declared.encoding.Origin.{Origin}
use Rattle.node_encoding.specs.declared.encoding.Origin.TheVariants as origin
use Rattle.node_encoding.specs.declared.encoding.Encoding.{Encoding}
use Rattle.node_encoding.specs.declared.NodeLit.{NodeLit}
use Rattle.node_encoding.specs.Nodes.{arguments_of}
use Rattle.node_encoding.specs.Shapes.{Obeys, true_at}
use Rattle.node_encoding.specs.Gates.{truth, Has, IsGate}

-- the variables' origins, the nodes' literals, and the clauses
pub record Encoded : Type 0 where
  pub origins : List Origin
  pub lits : List Lit
  pub clauses : List (List Lit)

-- the literal of a node
abbrev pub lit_at : List Lit → ℕ → Lit
lit_at lits k = unwrap_or (slice_get lits k) (true_at k)

-- the arguments of the node with that number
abbrev pub arguments_at : Option Node → List ℕ
arguments_at None = []
arguments_at (Some n) = arguments_of n

-- the truth value of what a variable stands for
abbrev pub origin_value : List Node → (ℕ → Bool) → Origin → Bool
origin_value nodes t (origin.Node k) = t k
origin_value nodes t (origin.Prefix k count) = is_odd (map t (take count (arguments_at (slice_get nodes k))))

-- the variables have the truth values of what they stand for
abbrev pub Agrees : List Node → List Origin → (ℕ → Bool) → (ℕ → Bool) → Type 0
Agrees nodes origins t a = (v : ℕ) (o : Origin) → slice_get origins v ≡ Some o → a v ≡ origin_value nodes t o

-- the variable is the literal of its node, or the parity of the first arguments of a parity node
abbrev pub IsOrigin : List Node → Encoded → ℕ → Origin → Type 0
IsOrigin nodes e v (origin.Node k) = slice_get e.lits k ≡ Some (true_at v)
IsOrigin nodes e v (origin.Prefix k count) =
    (args : List ℕ) × (slice_get nodes k ≡ Some (node_of.Xor args)) × (0 < count) × (count ≤ length args)
    × IsGate e.clauses (node_of.Xor (take count args)) (true_at v) (map (lit_at e.lits) (take count args)) × (k < length e.lits)

-- how many variables the nodes have at most
abbrev pub weight : List Node → ℕ
weight nodes = sum_by (λ n. 1 + length (arguments_of n)) nodes

-- the first nodes have literals, by these clauses
pub record Encodes (nodes : List Node) (e : Encoded) : Type 0 where
  -- of the nodes, the first ones are encoded
  pub within : length e.lits ≤ length nodes
  -- the literals' variables are there
  pub known : (k : ℕ) (l : Lit) → slice_get e.lits k ≡ Some l → l.var < length e.origins
  -- each is the gate that its shape says
  pub gates : (k : ℕ) (n : Node) (l : Lit) → slice_get nodes k ≡ Some n → slice_get e.lits k ≡ Some l → IsGate e.clauses n l (map (lit_at e.lits) (arguments_of n))
  -- nodes of one constant have one literal
  pub constants : (j k number : ℕ) (l m : Lit) → slice_get nodes j ≡ Some (node_of.Const number) → slice_get nodes k ≡ Some (node_of.Const number)
      → slice_get e.lits j ≡ Some l → slice_get e.lits k ≡ Some m → l ≡ m
  -- each variable stands for something
  pub origins : (v : ℕ) (o : Origin) → slice_get e.origins v ≡ Some o → IsOrigin nodes e v o
  -- truth values that are as the shapes say make each literal that of its node
  pub means : (t a : ℕ → Bool) → Obeys nodes t → Agrees nodes e.origins t a → (k : ℕ) (l : Lit) → slice_get e.lits k ≡ Some l → truth a l ≡ t k
  -- and all clauses true
  pub sound : (t a : ℕ → Bool) → Obeys nodes t → Agrees nodes e.origins t a → Models a (Listed e.clauses)
  -- there are few variables
  pub few : length e.origins ≤ weight (take (length e.lits) nodes)

-- what contracts see of an encoding
abbrev pub encoded_of : Encoding → Encoded
encoded_of e = record { origins = e.origins.items; lits = e.lits.items; clauses = e.search.content.clauses }

-- the first nodes are encoded, and each variable has an origin
pub record IsEncoding (nodes : List Node) (e : Encoding) : Type 0 where
  pub encodes : Encodes nodes (encoded_of e)
  pub vars : e.search.content.vars ≡ length e.origins.items

-- the literal, or its opposite
abbrev pub turned : Bool → Lit → Lit
turned true l = l
turned false l = opposite l

-- the search's literal of a problem's literal
abbrev pub assumed_at : List Lit → NodeLit → Lit
assumed_at lits l = turned l.positive (lit_at lits l.node)

-- a literal over nodes, whose variables are the nodes' numbers, as one of the search
abbrev pub image : List Lit → Lit → Lit
image lits l = turned l.positive (lit_at lits l.var)

-- the literal of a node of that constant, or there is none
abbrev pub Found : List Node → List Lit → ℕ → Option Lit → Type 0
Found nodes lits number None = (k : ℕ) (l : Lit) → slice_get nodes k ≡ Some (node_of.Const number) → slice_get lits k ≡ Some l → ⊥
Found nodes lits number (Some l) = (k : ℕ) × (slice_get nodes k ≡ Some (node_of.Const number)) × (slice_get lits k ≡ Some l)

-- a map has the literal of each constant that stands among the first nodes
abbrev pub AreConstants : List Node → List Lit → List (ℕ × Lit) → Type 0
AreConstants nodes lits table = (number : ℕ) → Found nodes lits number (lookup (nat_eq number) table)

-- the node is neither a constant nor a negation
abbrev pub HasShape : Option Node → Type 0
HasShape None = ⊥
HasShape (Some (node_of.Const number)) = ⊥
HasShape (Some (node_of.Not a)) = ⊥
HasShape (Some n) = Unit {0}

-- one variable more, with that origin
pub record IsFresh (old new : Encoding) (o : Origin) (l : Lit) : Type 0 where
  pub literal : l ≡ true_at old.search.content.vars
  pub vars : new.search.content.vars ≡ old.search.content.vars + 1
  pub clauses : new.search.content.clauses ≡ old.search.content.clauses
  pub origins : new.origins.items ≡ old.origins.items ++ o ∷ []
  pub lits : new.lits.items ≡ old.lits.items

-- the encoding with one literal more
abbrev pub with_lit : Encoded → Lit → Encoded
with_lit e l = record e { lits = e.lits ++ l ∷ [] }

-- with more variables and clauses the literal is that of the next node
pub record IsNext (nodes : List Node) (k : ℕ) (old new : Encoded) (g : Lit) : Type 0 where
  pub lits : new.lits ≡ old.lits
  pub older : (v : ℕ) (o : Origin) → slice_get old.origins v ≡ Some o → slice_get new.origins v ≡ Some o
  pub kept : Has new.clauses old.clauses
  pub known : g.var < length new.origins
  pub gate : (n : Node) → slice_get nodes k ≡ Some n → IsGate new.clauses n g (map (lit_at old.lits) (arguments_of n))
  pub constants : (j number : ℕ) (l : Lit) → slice_get nodes j ≡ Some (node_of.Const number) → slice_get nodes k ≡ Some (node_of.Const number) → slice_get old.lits j ≡ Some l → l ≡ g
  pub origins : (v : ℕ) (o : Origin) → slice_get new.origins v ≡ Some o → (slice_get old.origins v ≡ Some o) ⊎ IsOrigin nodes (with_lit new g) v o
  pub means : (t a : ℕ → Bool) → Obeys nodes t → Agrees nodes new.origins t a → truth a g ≡ t k
  pub sound : (t a : ℕ → Bool) → Obeys nodes t → Agrees nodes new.origins t a → Models a (Listed old.clauses) → Models a (Listed new.clauses)
  pub few : (n : Node) → slice_get nodes k ≡ Some n → length new.origins ≤ length old.origins + (1 + length (arguments_of n))

-- the same of encodings
pub record Defines (nodes : List Node) (k : ℕ) (old new : Encoding) (g : Lit) : Type 0 where
  pub next : IsNext nodes k (encoded_of old) (encoded_of new) g
  pub vars : new.search.content.vars ≡ length new.origins.items
