use Rattle.std.proofs.Common.{◌≡◌, ◌∙◌, ◌+◌, ◌<◌, ◌++◌, ◌∷◌, length, map, refl, sym, ap, subst, arith}
use Rattle.std.proofs.lemmas.Option.{slice_get_read, same_Some}
use Rattle.clause_search.specs.Content.{Stacked}
use Rattle.clause_logic.specs.Clauses.{In}
use Rattle.node_encoding.specs.declared.encoding.Origin.TheVariants as origin
use Rattle.node_encoding.specs.declared.Node.{Node}
use Rattle.node_encoding.specs.Nodes.{arguments_of}
use Rattle.node_encoding.specs.Shapes.{true_at}
use Rattle.node_encoding.specs.Gates.{shape_clauses}
use Rattle.node_encoding.specs.Encoding.{lit_at, encoded_of, HasShape}
use Rattle.node_encoding.proofs.Gets.{length_pushed}
use Rattle.node_encoding.proofs.Adding.{below_clause}
use Rattle.node_encoding.proofs.Steps.{arguments_below, arguments_known, next_gate}
use Rattle.node_encoding.proofs.encoding.Encoding.gate.Goals as goal

pub arguments-requires : goal.arguments-requires
arguments-requires c =
    let nodes = c.args.nodes.now in
    let here = slice_get_read nodes (length nodes) c.args.k c.index-nodes-k.result refl c.requires.more c.index-nodes-k.is in
    λ i d small. let one = arguments_below nodes c.requires.formed c.args.k c.index-nodes-k.result here i d small in omega (arith, one, c.requires.next)

pub add_shape-requires : goal.add_shape-requires
add_shape-requires c =
    let nodes = c.args.nodes.now in
    let n = c.index-nodes-k.result in
    let e = encoded_of c.args.self.now in
    let here = slice_get_read nodes (length nodes) c.args.k n refl c.requires.more c.index-nodes-k.is in
    let vars = c.args.self.now.search.content.vars in
    record {
      known = below_clause _ (vars + 1) (c.in_ok-gate.gate ∷ c.as_slice.result.now) c.in_ok-gate.gate c.as_slice.result.now c.in_ok-gate.ensures.vars refl
          (subst (λ l. l.var < vars + 1) (sym c.in_ok-gate.ensures.literal) (omega arith))
          (λ l i. let small = arguments_known nodes e c.args.k (arguments_of n) c.requires.encodes.encodes c.requires.next (arguments_below nodes c.requires.formed c.args.k n here) l (subst (In l) (c.as_slice.ensures.value ∙ c.in_ok-args.ensures) i) in
          omega (arith, small, c.requires.encodes.vars));
    }

pub returns : goal.returns
returns c =
    let nodes = c.args.nodes.now in
    let n = c.index-nodes-k-2.result in
    let e = encoded_of c.args.self.now in
    let first = slice_get_read nodes (length nodes) c.args.k c.index-nodes-k.result refl c.requires.more c.index-nodes-k.is in
    let here = slice_get_read nodes (length nodes) c.args.k n refl c.requires.more c.index-nodes-k-2.is in
    let same : c.index-nodes-k.result ≡ n = same_Some c.index-nodes-k.result n (sym first ∙ here) in
    record {
      next = next_gate nodes c.requires.formed e (encoded_of (record { search = c.add_shape.new.search; origins = c.fresh.new.self.origins; lits = c.fresh.new.self.lits; alloc = c.fresh.new.self.alloc }))
          c.args.k n c.requires.encodes.encodes c.requires.next here (subst HasShape here c.requires.shape) c.in_ok-gate.gate c.as_slice.result.now
          (c.in_ok-gate.ensures.literal ∙ ap true_at c.requires.encodes.vars)
          (c.as_slice.ensures.value ∙ c.in_ok-args.ensures ∙ ap (λ (m : Node). map (lit_at e.lits) (arguments_of m)) same)
          c.in_ok-gate.ensures.origins c.in_ok-gate.ensures.lits
          (ap (λ (s : Stacked). s.content.clauses) c.in_ok-add_shape.ensures ∙ ap (λ w. w ++ shape_clauses n c.in_ok-gate.gate c.as_slice.result.now) c.in_ok-gate.ensures.clauses);
      vars = ap (λ (s : Stacked). s.content.vars) c.in_ok-add_shape.ensures ∙ c.in_ok-gate.ensures.vars
          ∙ omega (arith, c.requires.encodes.vars, ap length c.in_ok-gate.ensures.origins, length_pushed c.args.self.now.origins.items (origin.Node c.args.k));
    }
