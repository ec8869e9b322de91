-- The problem of formulas and assumptions: a node for each subterm, and a literal for each formula and assumption.
use Rattle.std.specs.Prelude.{◌≡◌, ℕ, ◌++◌, true, List, Some, length, slice_get}
use Rattle.clause_search.specs.declared.Turns.{Turns}
use Rattle.term_shapes.specs.declared.handles.Term.{Term}
use Rattle.term_table.specs.World.{World, Keeps}
use Rattle.term_orders.specs.Orders.{IsIn, IsOrder}
use Rattle.node_encoding.specs.declared.Node.{Node}
use Rattle.node_encoding.specs.declared.NodeLit.{NodeLit}
use Rattle.node_encoding.specs.Nodes.{IsFormed, tree_at}
use Rattle.theory_combine.specs.declared.Learned.{Learned}
use Rattle.theory_combine.specs.Learned.{IsPastLimit}

-- the literal says that the term is true, whose node has the term's place in the order
pub record IsLiteral (order : List Term) (t : Term) (lit : NodeLit) : Type 0 where
  pub node : slice_get order lit.node ≡ Some t
  pub positive : lit.positive ≡ true

-- the literals say that the terms are true, and nothing else
pub record AreLiterals (order ts : List Term) (lits : List NodeLit) : Type 0 where
  pub every : (t : Term) → IsIn ts t → (i : ℕ) × (lit : NodeLit) × (slice_get lits i ≡ Some lit) × IsLiteral order t lit
  pub only : (i : ℕ) (lit : NodeLit) → slice_get lits i ≡ Some lit → (t : Term) × IsIn ts t × IsLiteral order t lit

-- the nodes and literals of formulas and assumptions
pub record IsProblem (w : World) (formulas assumed : List Term) (nodes : List Node) (asserted tried : List NodeLit) : Type 0 where
  -- the distinct subterms, arguments before the terms that hold them
  pub order : List Term
  pub is_order : IsOrder w (formulas ++ assumed) order
  -- each has a node in its place, which stands for the tree that the subterm stands for
  pub formed : IsFormed nodes
  pub count : length nodes ≡ length order
  pub kept : (k : ℕ) (t : Term) → slice_get order k ≡ Some t → Keeps w t (tree_at nodes k)
  -- the literals are those of the formulas, and those of the assumptions
  pub lits : AreLiterals order formulas asserted
  pub tried_lits : AreLiterals order assumed tried

-- what was learned of the problem, one clause more than the limit of turns allows
pub record IsLearned (w : World) (formulas assumed : List Term) (turns : Turns) (learned : Learned) : Type 0 where
  pub nodes : List Node
  pub asserted : List NodeLit
  pub tried : List NodeLit
  pub problem : IsProblem w formulas assumed nodes asserted tried
  pub past : IsPastLimit nodes (asserted ++ tried) turns learned.nodes learned.clauses
