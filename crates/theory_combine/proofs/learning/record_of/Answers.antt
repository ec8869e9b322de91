use Rattle.std.proofs.Common.{◌∙◌, ◌++◌, ◌∷◌, [], length, refl, sym, ap, arith, append-nil}
use Rattle.std.proofs.lemmas.List.{take_all}
use Rattle.node_encoding.specs.declared.encoding.Origin.TheVariants as origin
use Rattle.theory_combine.proofs.Naming.{named_more, longer_so_far, length_names}
use Rattle.theory_combine.proofs.Readings.{place_is}
use Rattle.theory_combine.proofs.Records.{has_first, first_fits}
use Rattle.theory_combine.proofs.learning.record_of.Goals as goal
use Rattle.theory_combine.proofs.learning.record_of.Goals.{in-Node, in-Prefix+in_ok-parity-in-Prefix+in_ok-name-in-Prefix}

pub first_parity-requires : goal.first_parity-requires
first_parity-requires c =
    let here = place_is c.args.origins.now c.args.origins.now c.loop-origin.origin-index _ (origin.Prefix c.in-Prefix.node c.in-Prefix.count) c.loop-origin-test.true refl c.in-Prefix.is in
    has_first c.args.problem.now c.requires.formed c.args.origins.now c.requires.parities c.loop-origin.origin-index c.in-Prefix.node c.in-Prefix.count here

pub add-requires : goal.add-requires
add-requires c =
    let here = place_is c.args.origins.now c.args.origins.now c.loop-origin.origin-index _ (origin.Prefix c.in-Prefix.node c.in-Prefix.count) c.loop-origin-test.true refl c.in-Prefix.is in
    let far = longer_so_far c.args.problem.now c.args.origins.now c.loop-origin.origin-index c.loop-origin.nodes c.loop-origin.names.items c.loop-origin.invariant (origin.Prefix c.in-Prefix.node c.in-Prefix.count) here in
    first_fits c.args.problem.now c.requires.formed c.args.origins.now c.requires.parities c.loop-origin.origin-index c.in-Prefix.node c.in-Prefix.count here c.loop-origin.nodes far c.in_ok-parity-in-Prefix.parity c.in_ok-parity-in-Prefix.ensures

pub loop-origin-preserved : goal.loop-origin-preserved
loop-origin-preserved c =
    let xs = c.args.origins.now in
    let origins = c.args.origins.now in
    let i = c.loop-origin.origin-index in
    let more = c.in_ok-push.ensures.items in
    elim c.match-origin.branch [
      | in-Node w ↦
          let o = origin.Node w.in-Node.k in
          named_more c.args.problem.now origins i c.loop-origin.nodes c.loop-origin.names.items c.loop-origin.invariant o
          (place_is xs origins i _ o c.loop-origin-test.true refl w.in-Node.is) c.match-origin.nodes c.push.new.self.items
          (w.nodes-is ∙ sym (append-nil c.loop-origin.nodes)) (more ∙ ap (λ n. c.loop-origin.names.items ++ n ∷ []) w.name-is)
      | in-Prefix+in_ok-parity-in-Prefix+in_ok-name-in-Prefix w ↦
          let o = origin.Prefix w.in-Prefix.node w.in-Prefix.count in
          named_more c.args.problem.now origins i c.loop-origin.nodes c.loop-origin.names.items c.loop-origin.invariant o
          (place_is xs origins i _ o c.loop-origin-test.true refl w.in-Prefix.is) c.match-origin.nodes c.push.new.self.items
          (w.nodes-is ∙ w.in_ok-name-in-Prefix.ensures.added ∙ ap (λ n. c.loop-origin.nodes ++ n ∷ []) w.in_ok-parity-in-Prefix.ensures)
          (more ∙ ap (λ n. c.loop-origin.names.items ++ n ∷ []) (w.name-is ∙ w.in_ok-name-in-Prefix.ensures.number))
    ]

pub renamed-requires : goal.renamed-requires
renamed-requires c =
    let origins = c.args.origins.now in
    let whole = take_all c.loop-origin.origin-index origins (omega (arith, c.loop-origin-test.false)) in
    let count = ap length c.as_slice.ensures.value ∙ ap length c.loop-origin.invariant.names_are ∙ length_names c.args.problem.now (length c.args.problem.now) _ ∙ ap length whole in
    λ i d l h k. let small = c.requires.known i d l h k in omega (arith, small, count)
