-- What an answer says: values that make all literals true, or literals that can't be true together.
use Rattle.std.specs.Prelude.{◌≡◌, ℕ, ◌<◌, Bool, List, Some, All, length, slice_get}
use Rattle.y_tree.specs.Values.{truth}
use Rattle.y_tree.specs.Meaning.{Assignment, meaning}
use Rattle.node_encoding.specs.declared.Node.{Node}
use Rattle.node_encoding.specs.declared.Node.TheVariants as node_of
use Rattle.node_encoding.specs.declared.NodeLit.{NodeLit}
use Rattle.theory_combine.specs.declared.Verdict.{Verdict}
use Rattle.theory_combine.specs.declared.Verdict.TheVariants.{Sat, Unsat, Unknown}
use Rattle.theory_combine.specs.declared.Learned.{Learned}
use Rattle.node_encoding.specs.Nodes.{tree_at, assignment_of, MakesAll, MakesAt}

-- a value for each constant node, and under them each literal is true
pub record IsSolution (nodes : List Node) (lits : List NodeLit) (values : List (ℕ × Bool)) : Type 0 where
  -- each constant node has an entry
  pub every : (k number : ℕ) → slice_get nodes k ≡ Some (node_of.Const number) → (i : ℕ) × (b : Bool) × (slice_get values i ≡ Some (k, b))
  -- each entry is of a constant node
  pub only : (i : ℕ) (e : ℕ × Bool) → slice_get values i ≡ Some e → (number : ℕ) × (slice_get nodes e.0 ≡ Some (node_of.Const number))
  -- the nodes' numbers rise, so that each is there once
  pub rising : (i j : ℕ) (e d : ℕ × Bool) → i < j → slice_get values i ≡ Some e → slice_get values j ≡ Some d → e.0 < d.0
  -- the entry of a node is its value
  pub agree : (i : ℕ) (e : ℕ × Bool) → slice_get values i ≡ Some e → meaning (tree_at nodes e.0) (assignment_of nodes values) ≡ truth e.1
  -- each literal is true
  pub makes : MakesAll nodes (assignment_of nodes values) lits

-- places of literals that no assignment makes true together
pub record IsConflict (nodes : List Node) (lits : List NodeLit) (places : List ℕ) : Type 0 where
  pub within : All (λ p. p < length lits) places
  -- each place is there once
  pub rising : (i j p q : ℕ) → i < j → slice_get places i ≡ Some p → slice_get places j ≡ Some q → p < q
  pub never : (s : Assignment) → MakesAt nodes s lits places → ⊥

-- places of assumed literals that no assignment makes true together with all asserted ones
pub record IsConflictUnder (nodes : List Node) (asserted assumed : List NodeLit) (places : List ℕ) : Type 0 where
  pub within : All (λ p. p < length assumed) places
  -- each place is there once
  pub rising : (i j p q : ℕ) → i < j → slice_get places i ≡ Some p → slice_get places j ≡ Some q → p < q
  pub never : (s : Assignment) → MakesAll nodes s asserted → MakesAt nodes s assumed places → ⊥

-- what `Sat` says
abbrev pub IfSat : Verdict → (List (ℕ × Bool) → Type 0) → Type 0
IfSat (Sat values) P = P values
IfSat (Unsat places) P = Unit {0}
IfSat (Unknown learned) P = Unit {0}

-- what `Unsat` says
abbrev pub IfUnsat : Verdict → (List ℕ → Type 0) → Type 0
IfUnsat (Sat values) P = Unit {0}
IfUnsat (Unsat places) P = P places
IfUnsat (Unknown learned) P = Unit {0}

-- what `Unknown` says
abbrev pub IfUnknown : Verdict → (Learned → Type 0) → Type 0
IfUnknown (Sat values) P = Unit {0}
IfUnknown (Unsat places) P = Unit {0}
IfUnknown (Unknown learned) P = P learned
