-- What an encoding says of its nodes, as contracts name it.
use Rattle.std.specs.Prelude.{◌≡◌, ℕ, ◌<◌, Bool, List, Some, length, slice_get, take}
use Rattle.y_tree.specs.Meaning.{Assignment}
use Rattle.clause_logic.specs.declared.Lit.{Lit}
use Rattle.clause_logic.specs.Clauses.{Models, Both, Listed}
use Rattle.clause_logic.specs.Strength.{Imitates}
use Rattle.node_encoding.specs.declared.Node.{Node}
use Rattle.node_encoding.specs.declared.Node.TheVariants as node_of
use Rattle.node_encoding.specs.Nodes.{IsFormed, truths_of}
use Rattle.node_encoding.specs.Shapes.{Obeys, Defining, Literal}
use Rattle.node_encoding.specs.Gates.{truth}
use Rattle.node_encoding.specs.Encoding.{Encoded, Encodes, Agrees, lit_at, image}

-- the nodes that have literals
abbrev pub encoded_nodes : List Node → Encoded → List Node
encoded_nodes nodes e = take (length e.lits) nodes

-- under every assignment, where the variables have the truths of what they stand for, all clauses are true and each literal has the truth of its node
abbrev pub EncodingsAreSound : Type 0
EncodingsAreSound =
    (nodes : List Node) (e : Encoded) (s : Assignment) (a : ℕ → Bool) → IsFormed nodes → Encodes nodes e → Agrees nodes e.origins (truths_of nodes s) a
    → Models a (Listed e.clauses) × ((k : ℕ) (l : Lit) → slice_get e.lits k ≡ Some l → truth a l ≡ truths_of nodes s k)

-- wherever all clauses are true, the literals' truths are as the nodes' shapes say
abbrev pub EncodingsAreShaped : Type 0
EncodingsAreShaped =
    (nodes : List Node) (e : Encoded) (a : ℕ → Bool) → IsFormed nodes → Encodes nodes e → Models a (Listed e.clauses) → Obeys (encoded_nodes nodes e) (λ k. truth a (lit_at e.lits k))

-- wherever all clauses are true, each literal has the truth of its node under the assignments that give the constants the truths of their literals
abbrev pub EncodingsAreComplete : Type 0
EncodingsAreComplete =
    (nodes : List Node) (e : Encoded) (a : ℕ → Bool) (s : Assignment) → IsFormed nodes → Encodes nodes e → Models a (Listed e.clauses)
    → ((k number : ℕ) → slice_get (encoded_nodes nodes e) k ≡ Some (node_of.Const number) → truths_of nodes s k ≡ truth a (lit_at e.lits k))
    → (k : ℕ) → k < length e.lits → truths_of nodes s k ≡ truth a (lit_at e.lits k)

-- unit propagation over the clauses finds all that it finds over the nodes' defining clauses and what is literally true
abbrev pub EncodingsAreStrong : Type 0
EncodingsAreStrong =
    (nodes : List Node) (e : Encoded) → IsFormed nodes → Encodes nodes e → Imitates (Both (Defining (encoded_nodes nodes e)) (Literal (encoded_nodes nodes e))) (Listed e.clauses) (image e.lits)
