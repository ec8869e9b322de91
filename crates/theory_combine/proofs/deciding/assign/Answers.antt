use Rattle.std.proofs.Common.{◌∙◌, length, Some, refl, ap, arith}
use Rattle.std.proofs.lemmas.Option.{slice_get_read}
use Rattle.node_encoding.specs.Gates.{truth}
use Rattle.theory_combine.specs.Reading.{shown_at}
use Rattle.node_encoding.proofs.Placing.{read_lit}
use Rattle.theory_combine.proofs.Readings.{assigns_const, assigns_other}
use Rattle.theory_combine.proofs.deciding.assign.Goals as goal
use Rattle.theory_combine.proofs.deciding.assign.Goals.{in-Const+in_ok-push, in_default}

pub loop-k-preserved : goal.loop-k-preserved
loop-k-preserved c =
    let nodes = c.args.nodes.now in
    let k = c.loop-k.k in
    let here = slice_get_read nodes (length nodes) k c.index-nodes-k.result refl c.loop-k-test.true c.index-nodes-k.is in
    elim c.match-node.branch [
      | in-Const+in_ok-push w ↦ let read = w.is_true.ensures ∙ ap (truth (shown_at c.args.values.now)) (read_lit c.args.lits.now k _ (omega (arith, c.requires, c.loop-k-test.true))) in
          rw (w.found-is, w.in_ok-push.ensures.ok, read) (assigns_const nodes c.args.lits.now c.args.values.now k c.loop-k.found c.loop-k.invariant w.in-Const.number (here ∙ ap Some w.in-Const.is))
      | in_default w ↦ rw w.found-is (assigns_other nodes c.args.lits.now c.args.values.now k c.loop-k.found c.loop-k.invariant c.index-nodes-k.result here w.in_default.not-Const)
    ]
