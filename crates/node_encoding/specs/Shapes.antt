-- What shapes say of truth values, and the defining clauses of a node.
use Rattle.std.specs.Prelude.{◌≡◌, ◌⊎◌, ℕ, Bool, true, false, not, List, [], ◌∷◌, Some, length, map, slice_get, if◌then◌else◌}
use Rattle.std.specs.List.{list_all, list_any}
use Rattle.y_tree.specs.Meaning.{is_odd}
use Rattle.clause_logic.specs.declared.Lit.{Lit}
use Rattle.clause_logic.specs.Clauses.{opposite}
use Rattle.node_encoding.specs.declared.Node.{Node}
use Rattle.node_encoding.specs.declared.Node.TheVariants as node_of
use Rattle.node_encoding.specs.Nodes.{arguments_of}

-- two truth values are one
abbrev pub agree : List Bool → Bool
agree (a ∷ b ∷ []) = not (is_odd (a ∷ b ∷ []))
agree _ = false

-- no two of the truth values are one
abbrev pub are_different : List Bool → Bool
are_different [] = true
are_different (a ∷ []) = true
are_different (a ∷ b ∷ []) = is_odd (a ∷ b ∷ [])
are_different _ = false

-- the second or the third, by the first
abbrev pub pick : List Bool → Bool
pick (c ∷ a ∷ b ∷ []) = if c then a else b
pick _ = false

-- what a shape makes of the truth values of its arguments; of a constant nothing is said
abbrev pub shape_value : Node → List Bool → Bool
shape_value node_of.True bs = true
shape_value node_of.False bs = false
shape_value (node_of.Const number) bs = false
shape_value (node_of.Not a) bs = not (list_all (λ b. b) bs)
shape_value (node_of.And args) bs = list_all (λ b. b) bs
shape_value (node_of.Or args) bs = list_any (λ b. b) bs
shape_value (node_of.Xor args) bs = is_odd bs
shape_value (node_of.Ite c a b) bs = pick bs
shape_value (node_of.Eq a b) bs = agree bs
shape_value (node_of.Distinct args) bs = are_different bs

-- the node's truth value is what its shape says
abbrev pub IsShaped : (ℕ → Bool) → ℕ → Node → Type 0
IsShaped t k (node_of.Const number) = Unit {0}
IsShaped t k n = t k ≡ shape_value n (map t (arguments_of n))

-- truth values of nodes by their numbers, as their shapes say; nodes of one constant have one
pub record Obeys (nodes : List Node) (t : ℕ → Bool) : Type 0 where
  pub shaped : (k : ℕ) (n : Node) → slice_get nodes k ≡ Some n → IsShaped t k n
  pub constants : (j k number : ℕ) → slice_get nodes j ≡ Some (node_of.Const number) → slice_get nodes k ≡ Some (node_of.Const number) → t j ≡ t k

-- a node as a literal, whose variable is the node's number
abbrev pub true_at : ℕ → Lit
true_at k = record { var = k; positive = true }

-- the negation of a node as a literal
abbrev pub false_at : ℕ → Lit
false_at k = record { var = k; positive = false }

-- the literal that is false just where l has that truth value
abbrev pub unless : Bool → Lit → Lit
unless true l = opposite l
unless false l = l

-- the clause that is false just where the literals have these truth values
abbrev pub false_only_at : List Lit → List Bool → List Lit
false_only_at [] bs = []
false_only_at (l ∷ ls) [] = []
false_only_at (l ∷ ls) (b ∷ bs) = unless b l ∷ false_only_at ls bs

-- the clause is false just at one combination of truth values of the node and its arguments, which the shape rules out
abbrev pub RulesOut : (List Bool → Bool) → ℕ → List ℕ → List Lit → Type 0
RulesOut value g args c = (bs : List Bool) × (length bs ≡ length args) × (c ≡ false_only_at (true_at g ∷ map true_at args) (not (value bs) ∷ bs))

-- the defining clauses of node number g
abbrev pub IsDefining : ℕ → Node → List Lit → Type 0
IsDefining g (node_of.Not a) c = (c ≡ true_at g ∷ true_at a ∷ []) ⊎ (c ≡ false_at g ∷ false_at a ∷ [])
IsDefining g (node_of.And args) c = ((j : ℕ) × (a : ℕ) × (slice_get args j ≡ Some a) × (c ≡ false_at g ∷ true_at a ∷ [])) ⊎ (c ≡ true_at g ∷ map false_at args)
IsDefining g (node_of.Or args) c = ((j : ℕ) × (a : ℕ) × (slice_get args j ≡ Some a) × (c ≡ true_at g ∷ false_at a ∷ [])) ⊎ (c ≡ false_at g ∷ map true_at args)
IsDefining g (node_of.Ite d a b) c =
    ((c ≡ false_at d ∷ false_at g ∷ true_at a ∷ []) ⊎ (c ≡ false_at d ∷ true_at g ∷ false_at a ∷ []))
    ⊎ ((c ≡ true_at d ∷ false_at g ∷ true_at b ∷ []) ⊎ (c ≡ true_at d ∷ true_at g ∷ false_at b ∷ []))
IsDefining g (node_of.Xor args) c = RulesOut is_odd g args c
IsDefining g (node_of.Eq a b) c = RulesOut agree g (a ∷ b ∷ []) c
IsDefining g (node_of.Distinct args) c = RulesOut are_different g args c
IsDefining g _ c = ⊥

-- the defining clauses of all nodes
abbrev pub Defining : List Node → List Lit → Type 0
Defining nodes c = (k : ℕ) × (n : Node) × (slice_get nodes k ≡ Some n) × IsDefining k n c

-- the nodes that are literally true, and the negations of those that are literally false
abbrev pub Literal : List Node → List Lit → Type 0
Literal nodes c = (k : ℕ) × (((slice_get nodes k ≡ Some node_of.True) × (c ≡ true_at k ∷ [])) ⊎ ((slice_get nodes k ≡ Some node_of.False) × (c ≡ false_at k ∷ [])))
