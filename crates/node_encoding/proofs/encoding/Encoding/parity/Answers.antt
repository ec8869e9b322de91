use Rattle.std.proofs.Common.{◌∙◌, ◌+◌, ◌<◌, ◌++◌, ◌∷◌, [], inl, inr, length, get_or, sym, ap, subst, arith}
use Rattle.clause_search.specs.Content.{Stacked}
use Rattle.node_encoding.specs.declared.Node.TheVariants as node_of
use Rattle.node_encoding.specs.Shapes.{true_at}
use Rattle.node_encoding.specs.Gates.{even_clauses}
use Rattle.node_encoding.specs.Encoding.{lit_at, encoded_of}
use Rattle.node_encoding.proofs.Gets.{length_front, length_pushed}
use Rattle.node_encoding.proofs.Adding.{below_three}
use Rattle.node_encoding.proofs.Growing.{IsGrowing, next_origin, growing_one, growing_step, growing_all, argument_known}
use Rattle.node_encoding.proofs.Placing.{read_lit, slice_get_here}
use Rattle.node_encoding.proofs.encoding.Encoding.parity.Goals as goal
use Rattle.node_encoding.proofs.encoding.Encoding.parity.Goals.{then-i-args, else-i-args}

pub bounds-args-0 : goal.bounds-args-0
bounds-args-0 c = (c.requires.formed.fits c.args.k (node_of.Xor c.args.args.now) c.requires.here).arity

pub index-last-requires : goal.index-last-requires
index-last-requires c =
    let fits = c.requires.formed.fits c.args.k (node_of.Xor c.args.args.now) c.requires.here in
    let small = fits.earlier 0 0 fits.arity in
    omega (arith, small, length_front c.args.nodes.now c.args.k (node_of.Xor c.args.args.now) c.requires.here, c.requires.next, c.args.self.now.lits.ok.0)

pub loop-i-init : goal.loop-i-init
loop-i-init c =
    let nodes = c.args.nodes.now in
    let args = c.args.args.now in
    let e = encoded_of c.args.self.now in
    let fits = c.requires.formed.fits c.args.k (node_of.Xor args) c.requires.here in
    let small = fits.earlier 0 0 fits.arity in
    let here = slice_get_here args 0 0 fits.arity in
    let read = c.index-last.ensures ∙ read_lit e.lits (get_or args 0 0) c.index-last.result.now (omega (arith, small, length_front nodes c.args.k (node_of.Xor args) c.requires.here, c.requires.next)) in (
      subst (IsGrowing nodes c.args.k args e e 1) (sym read) (growing_one nodes c.requires.formed c.args.k args e c.requires.encodes.encodes c.requires.next c.requires.here (get_or args 0 0) here),
      c.requires.encodes.vars,
    )

pub index-arg-requires : goal.index-arg-requires
index-arg-requires c =
    let fits = c.requires.formed.fits c.args.k (node_of.Xor c.args.args.now) c.requires.here in
    let small = fits.earlier c.loop-i.i 0 c.loop-i-test.true in
    omega (arith, small, length_front c.args.nodes.now c.args.k (node_of.Xor c.args.args.now) c.requires.here, c.requires.next, ap length c.in_ok-next.ensures.lits, ap length c.loop-i.invariant.0.lits, c.fresh.new.self.lits.ok.0)

pub add_even-requires : goal.add_even-requires
add_even-requires c =
    let nodes = c.args.nodes.now in
    let args = c.args.args.now in
    let e = encoded_of c.args.self.now in
    let grows = c.loop-i.invariant.0 in
    let x = get_or args c.loop-i.i 0 in
    let fits = c.requires.formed.fits c.args.k (node_of.Xor args) c.requires.here in
    let small = fits.earlier c.loop-i.i 0 c.loop-i-test.true in
    let read = c.index-arg.ensures ∙ read_lit c.fresh.new.self.lits.items x c.index-arg.result.now (omega (arith, small, length_front nodes c.args.k (node_of.Xor args) c.requires.here, c.requires.next, ap length c.in_ok-next.ensures.lits, ap length grows.lits))
    ∙ ap (λ w. lit_at w x) (c.in_ok-next.ensures.lits ∙ grows.lits) in
    let arg = argument_known nodes c.requires.formed c.args.k args e c.requires.encodes.encodes c.requires.next c.requires.here (encoded_of c.loop-i.self) c.loop-i.i c.loop-i.last grows c.loop-i.i x (slice_get_here args c.loop-i.i 0 c.loop-i-test.true) in
    record {
      known = below_three _ (c.loop-i.self.search.content.vars + 1) c.in_ok-next.next c.loop-i.last c.index-arg.result.now c.in_ok-next.ensures.vars
          (subst (λ l. l.var < c.loop-i.self.search.content.vars + 1) (sym c.in_ok-next.ensures.literal) (omega arith))
          (omega (arith, grows.known, c.loop-i.invariant.1))
          (subst (λ l. l.var < c.loop-i.self.search.content.vars + 1) (sym read) (omega (arith, arg, c.loop-i.invariant.1)));
    }

pub loop-i-preserved : goal.loop-i-preserved
loop-i-preserved c =
    let nodes = c.args.nodes.now in
    let args = c.args.args.now in
    let e = encoded_of c.args.self.now in
    let grows = c.loop-i.invariant.0 in
    let x = get_or args c.loop-i.i 0 in
    let fits = c.requires.formed.fits c.args.k (node_of.Xor args) c.requires.here in
    let small = fits.earlier c.loop-i.i 0 c.loop-i-test.true in
    let read = c.index-arg.ensures ∙ read_lit c.fresh.new.self.lits.items x c.index-arg.result.now (omega (arith, small, length_front nodes c.args.k (node_of.Xor args) c.requires.here, c.requires.next, ap length c.in_ok-next.ensures.lits, ap length grows.lits))
    ∙ ap (λ w. lit_at w x) (c.in_ok-next.ensures.lits ∙ grows.lits) in
    let is_next : next_origin c.args.k args c.loop-i.i c.if-i-args.origin = elim c.if-i-args.branch [
      | then-i-args w ↦ inl (w.if-i-args.true, w.origin-is)
      | else-i-args w ↦ inr (w.if-i-args.false, w.origin-is)
    ] in
    let clauses = ap (λ (s : Stacked). s.content.clauses) c.in_ok-add_even.ensures in (
      growing_step nodes c.requires.formed c.args.k args e c.requires.encodes.encodes c.requires.next c.requires.here (encoded_of c.loop-i.self)
          (encoded_of (record { search = c.add_even.new.search; origins = c.fresh.new.self.origins; lits = c.fresh.new.self.lits; alloc = c.fresh.new.self.alloc }))
          c.loop-i.i c.loop-i.last c.in_ok-next.next c.index-arg.result.now x c.if-i-args.origin grows (slice_get_here args c.loop-i.i 0 c.loop-i-test.true) is_next
          (c.in_ok-next.ensures.literal ∙ ap true_at c.loop-i.invariant.1) read c.in_ok-next.ensures.origins c.in_ok-next.ensures.lits
          (clauses ∙ ap (λ w. w ++ even_clauses (c.in_ok-next.next ∷ c.loop-i.last ∷ c.index-arg.result.now ∷ [])) c.in_ok-next.ensures.clauses),
      ap (λ (s : Stacked). s.content.vars) c.in_ok-add_even.ensures ∙ c.in_ok-next.ensures.vars
          ∙ omega (arith, c.loop-i.invariant.1, ap length c.in_ok-next.ensures.origins, length_pushed c.loop-i.self.origins.items c.if-i-args.origin),
    )

pub returns : goal.returns
returns c = record {
  next = growing_all c.args.nodes.now c.requires.formed c.args.k c.args.args.now (encoded_of c.args.self.now) c.requires.encodes.encodes c.requires.next c.requires.here (encoded_of c.loop-i.self) c.loop-i.last c.loop-i.i
      c.loop-i-test.false c.requires.apart c.loop-i.invariant.0;
  vars = c.loop-i.invariant.1;
}
