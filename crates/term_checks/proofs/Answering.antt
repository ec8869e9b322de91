-- What is said of nodes and literals, as what is said of the terms.
use Rattle.std.proofs.Common.{◌++◌, ℕ, Bool, List, length, map, refl}
use Rattle.clause_search.specs.declared.Turns.{Turns}
use Rattle.term_shapes.specs.declared.handles.Term.{Term}
use Rattle.term_table.specs.World.{World}
use Rattle.term_orders.specs.Orders.{IsOrder}
use Rattle.node_encoding.specs.declared.Node.{Node}
use Rattle.node_encoding.specs.declared.NodeLit.{NodeLit}
use Rattle.theory_combine.specs.declared.Learned.{Learned}
use Rattle.theory_combine.specs.Answers.{IsSolution, IsConflictUnder}
use Rattle.theory_combine.specs.Learned.{IsPastLimit}
use Rattle.term_checks.specs.Listing.{term_in, AreOnce}
use Rattle.term_checks.specs.Answers.{IsModel, IsCore}
use Rattle.term_checks.specs.Problems.{AreLiterals, IsLearned}
use Rattle.term_checks.specs.Building.{AreNodes, AreLiteralsOf, valued}
use Rattle.term_checks.proofs.Trees.{kept_at}
use Rattle.term_checks.proofs.Shown.{literals_are, literals_once}
use Rattle.term_checks.proofs.Models.{model_of}
use Rattle.term_checks.proofs.Cores.{core_of}

module _ (w : World) (order : List Term) (ns : List Node) (are : AreNodes w order (length order) ns) (formulas assumed once : List Term) (is_order : IsOrder w (formulas ++ assumed) order) (o : AreOnce assumed (length assumed) once)
    (asserted tried : List NodeLit) (lits : AreLiteralsOf order formulas (length formulas) asserted) (tried_lits : AreLiteralsOf order once (length once) tried) where
  tried_are : AreLiterals order assumed tried
  tried_are = literals_once order assumed once tried o (literals_are order once tried tried_lits)

  pub model_is : (vs : List (ℕ × Bool)) → IsSolution ns (asserted ++ tried) vs → IsModel w formulas assumed (valued order vs)
  model_is vs = model_of w order ns are formulas assumed is_order asserted tried (literals_are order formulas asserted lits) tried_are vs

  pub core_is : (places : List ℕ) → IsConflictUnder ns asserted tried places → IsCore w formulas assumed (map (term_in once) places)
  core_is places conflict = core_of w order ns are formulas assumed once asserted tried lits tried_lits o places conflict (map (term_in once) places) refl

  pub learned_is : (turns : Turns) (learned : Learned) → IsPastLimit ns (asserted ++ tried) turns learned.nodes learned.clauses → IsLearned w formulas assumed turns learned
  learned_is turns learned past = record {
    nodes = ns;
    asserted = asserted;
    tried = tried;
    problem = record {
      order = order;
      is_order = is_order;
      formed = are.formed;
      count = are.count;
      kept = kept_at w order ns are;
      lits = literals_are order formulas asserted lits;
      tried_lits = tried_are;
    };
    past = past;
  }
