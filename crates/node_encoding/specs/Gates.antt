-- Literals that are gates of other literals, by clauses.
use Rattle.std.specs.Prelude.{◌≡◌, ◌⊎◌, ℕ, Bool, true, false, not, List, [], ◌∷◌, ◌++◌, map}
use Rattle.clause_logic.specs.declared.Lit.{Lit}
use Rattle.clause_logic.specs.Clauses.{opposite, Listed}
use Rattle.clause_logic.specs.Trails.{EachOnce}
use Rattle.clause_search.specs.Content.{Stacked}
use Rattle.node_encoding.specs.declared.Node.{Node}
use Rattle.node_encoding.specs.declared.Node.TheVariants as node_of
use Rattle.node_encoding.specs.Shapes.{true_at}

-- a search with more clauses
abbrev pub adding : Stacked → List (List Lit) → Stacked
adding s clauses = record s { content = record s.content { clauses = s.content.clauses ++ clauses } }

-- each literal as a clause
abbrev pub unit_clauses : List Lit → List (List Lit)
unit_clauses ls = map (λ l. l ∷ []) ls

-- a truth value, or the other one
abbrev pub signed : Bool → Bool → Bool
signed true b = b
signed false b = not b

-- the truth value of a literal
abbrev pub truth : (ℕ → Bool) → Lit → Bool
truth a l = signed l.positive (a l.var)

-- the clauses that begin with some literals and rule out each combination of the others with an odd, or an even, number of true ones
unfoldable pub odd_clauses : List Lit → List Lit → Bool → List (List Lit)
odd_clauses front [] true = front ∷ []
odd_clauses front [] false = []
odd_clauses front (l ∷ ls) odd = odd_clauses (front ++ opposite l ∷ []) ls (not odd) ++ odd_clauses (front ++ l ∷ []) ls odd

-- the clauses by which an even number of literals are true
abbrev pub even_clauses : List Lit → List (List Lit)
even_clauses ls = odd_clauses [] ls false

-- the clauses of a conjunction
abbrev pub and_clauses : Lit → List Lit → List (List Lit)
and_clauses g as_ = map (λ a. opposite g ∷ a ∷ []) as_ ++ (g ∷ map opposite as_) ∷ []

-- the clauses of a disjunction
abbrev pub or_clauses : Lit → List Lit → List (List Lit)
or_clauses g as_ = map (λ a. g ∷ opposite a ∷ []) as_ ++ (opposite g ∷ as_) ∷ []

-- the clauses of a choice
abbrev pub choice_clauses : Lit → List Lit → List (List Lit)
choice_clauses g (d ∷ a ∷ b ∷ []) =
    (opposite d ∷ opposite g ∷ a ∷ []) ∷ (opposite d ∷ g ∷ opposite a ∷ []) ∷ (d ∷ opposite g ∷ b ∷ []) ∷ (d ∷ g ∷ opposite b ∷ []) ∷ []
choice_clauses g _ = []

-- the clauses of distinct literals: of three truth values two are equal
abbrev pub distinct_clauses : Lit → List Lit → List (List Lit)
distinct_clauses g (a ∷ b ∷ []) = even_clauses (g ∷ a ∷ b ∷ [])
distinct_clauses g (a ∷ []) = (g ∷ []) ∷ []
distinct_clauses g [] = (g ∷ []) ∷ []
distinct_clauses g _ = (opposite g ∷ []) ∷ []

-- the clauses by which a literal is the gate that a shape says, of its arguments' literals
abbrev pub shape_clauses : Node → Lit → List Lit → List (List Lit)
shape_clauses node_of.True g as_ = (g ∷ []) ∷ []
shape_clauses node_of.False g as_ = (opposite g ∷ []) ∷ []
shape_clauses (node_of.Const number) g as_ = []
shape_clauses (node_of.Not a) g as_ = []
shape_clauses (node_of.And args) g as_ = and_clauses g as_
shape_clauses (node_of.Or args) g as_ = or_clauses g as_
shape_clauses (node_of.Xor args) g as_ = even_clauses (g ∷ as_)
shape_clauses (node_of.Ite c a b) g as_ = choice_clauses g as_
shape_clauses (node_of.Eq a b) g as_ = even_clauses (opposite g ∷ as_)
shape_clauses (node_of.Distinct args) g as_ = distinct_clauses g as_

-- each of some clauses is there
abbrev pub Has : List (List Lit) → List (List Lit) → Type 0
Has clauses some = (c : List Lit) → Listed some c → Listed clauses c

-- from a literal on, one literal more for each argument: the parity of all so far
abbrev pub IsChain : List (List Lit) → Lit → List Lit → Lit → Type 0
IsChain clauses p [] q = p ≡ q
IsChain clauses p (a ∷ as_) q = (r : Lit) × Has clauses (even_clauses (r ∷ p ∷ a ∷ [])) × IsChain clauses r as_ q

-- a chain from the first argument on
abbrev pub IsParity : List (List Lit) → Lit → List Lit → Type 0
IsParity clauses g [] = ⊥
IsParity clauses g (a ∷ as_) = IsChain clauses a as_ g

-- the negation of the argument
abbrev pub IsNegation : Lit → List Lit → Type 0
IsNegation g (a ∷ []) = g ≡ opposite a
IsNegation g _ = ⊥

-- no number stands in the list twice
abbrev pub Differ : List ℕ → Type 0
Differ args = EachOnce (map true_at args)

-- by the clauses the literal is the gate that the shape says; a parity of different arguments has a chain
abbrev pub IsGate : List (List Lit) → Node → Lit → List Lit → Type 0
IsGate clauses (node_of.Not a) g as_ = IsNegation g as_
IsGate clauses (node_of.Xor args) g as_ = (Differ args × IsParity clauses g as_) ⊎ Has clauses (even_clauses (g ∷ as_))
IsGate clauses n g as_ = Has clauses (shape_clauses n g as_)
