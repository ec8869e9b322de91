use Rattle.std.proofs.Common.{◌∙◌, Some, length, refl, sym, ap, subst, arith}
use Rattle.std.proofs.lemmas.Option.{slice_get_read}
use Rattle.clause_logic.specs.Clauses.{opposite}
use Rattle.node_encoding.specs.declared.Node.TheVariants as node_of
use Rattle.node_encoding.specs.declared.encoding.Origin.TheVariants as origin
use Rattle.node_encoding.specs.Shapes.{true_at}
use Rattle.node_encoding.specs.Encoding.{encoded_of, HasShape, Found, IsFresh, Defines}
use Rattle.node_encoding.proofs.Gets.{length_pushed}
use Rattle.node_encoding.proofs.Placing.{read_lit}
use Rattle.node_encoding.proofs.Steps.{arguments_below, has_shape, when_ok, next_found, next_constant, next_negation}
use Rattle.node_encoding.proofs.encoding.Encoding.literal_for.Goals as goal

pub index-requires : goal.index-requires
index-requires c =
    let nodes = c.args.nodes.now in
    let here = slice_get_read nodes (length nodes) c.args.k c.index-nodes-k.result refl c.requires.more c.index-nodes-k.is in
    let small = arguments_below nodes c.requires.formed c.args.k (node_of.Not c.in-Not.argument) (here ∙ ap Some c.in-Not.is) 0 0 (omega arith) in
    omega (arith, small, c.requires.next, c.args.self.now.lits.ok.0)

pub parity-requires-clause-here : goal.parity-requires-clause-here
parity-requires-clause-here c =
    let nodes = c.args.nodes.now in
    let here = slice_get_read nodes (length nodes) c.args.k c.index-nodes-k.result refl c.requires.more c.index-nodes-k.is in
    here ∙ ap Some c.in-Xor.is ∙ ap (λ ks. Some (node_of.Xor ks)) (sym c.as_slice-then-branch.ensures)

pub gate-requires-clause-shape : goal.gate-requires-clause-shape
gate-requires-clause-shape c =
    let nodes = c.args.nodes.now in
    let here = slice_get_read nodes (length nodes) c.args.k c.index-nodes-k.result refl c.requires.more c.index-nodes-k.is in
    subst HasShape (sym (here ∙ ap Some c.in-Xor.is)) tt

pub gate-requires-in_default : goal.gate-requires-in_default
gate-requires-in_default c =
    let nodes = c.args.nodes.now in
    let here = slice_get_read nodes (length nodes) c.args.k c.index-nodes-k.result refl c.requires.more c.index-nodes-k.is in
    record {
      formed = c.requires.formed;
      encodes = c.requires.encodes;
      next = c.requires.next;
      more = c.requires.more;
      shape = subst HasShape (sym here) (has_shape c.index-nodes-k.result c.in_default.not-Const c.in_default.not-Not);
    }

pub returns-in-Some : goal.returns-in-Some
returns-in-Some c =
    let nodes = c.args.nodes.now in
    let e = encoded_of c.args.self.now in
    let here = slice_get_read nodes (length nodes) c.args.k c.index-nodes-k.result refl c.requires.more c.index-nodes-k.is in
    record {
      next = next_found nodes c.requires.formed e e c.args.k c.in-Const.number c.requires.encodes.encodes c.requires.next (here ∙ ap Some c.in-Const.is) c.in-Some.lit.now (subst (Found nodes e.lits c.in-Const.number) (sym c.in-Some.ensures.value) (c.requires.constants c.in-Const.number));
      vars = c.requires.encodes.vars;
    }

pub returns-in-None : goal.returns-in-None
returns-in-None c =
    let nodes = c.args.nodes.now in
    let e = encoded_of c.args.self.now in
    let here = slice_get_read nodes (length nodes) c.args.k c.index-nodes-k.result refl c.requires.more c.index-nodes-k.is in
    when_ok {P = IsFresh c.args.self.now c.fresh.new.self (origin.Node c.args.k)} {Q = Defines nodes c.args.k c.args.self.now c.fresh.new.self} c.fresh.result
    (λ l fresh. record {
      next = next_constant nodes c.requires.formed e (encoded_of c.fresh.new.self) c.args.k c.in-Const.number c.requires.encodes.encodes c.requires.next (here ∙ ap Some c.in-Const.is) l (subst (Found nodes e.lits c.in-Const.number) (sym c.in-None.ensures.value) (c.requires.constants c.in-Const.number))
          (fresh.literal ∙ ap true_at c.requires.encodes.vars) fresh.origins fresh.lits fresh.clauses;
      vars = fresh.vars ∙ omega (arith, c.requires.encodes.vars, ap length fresh.origins, length_pushed c.args.self.now.origins.items (origin.Node c.args.k));
    })
    c.fresh.ensures

pub returns-in-Not : goal.returns-in-Not
returns-in-Not c =
    let nodes = c.args.nodes.now in
    let e = encoded_of c.args.self.now in
    let here = slice_get_read nodes (length nodes) c.args.k c.index-nodes-k.result refl c.requires.more c.index-nodes-k.is ∙ ap Some c.in-Not.is in
    let small = arguments_below nodes c.requires.formed c.args.k (node_of.Not c.in-Not.argument) here 0 0 (omega arith) in
    record {
      next = next_negation nodes c.requires.formed e c.args.k c.in-Not.argument c.requires.encodes.encodes c.requires.next here c.opposite.result
          (c.opposite.ensures ∙ ap opposite (c.index.ensures ∙ read_lit e.lits c.in-Not.argument c.index.result.now (omega (arith, small, c.requires.next))));
      vars = c.requires.encodes.vars;
    }
