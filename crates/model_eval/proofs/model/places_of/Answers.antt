use Rattle.std.proofs.Common.{arith}
use Rattle.model_eval.proofs.Entries.{again_here, placed_more, none_again}
use Rattle.model_eval.proofs.model.places_of.Goals as goal

pub returns-then-not-new-clause-refused : goal.returns-then-not-new-clause-refused
returns-then-not-new-clause-refused c =
    again_here c.args.values.now c.loop-place.place c.index-values-place.result (omega (arith, c.loop-place-test.true)) c.loop-place.places.keys c.loop-place.invariant (c.in-Ok.ensures.old c.if-not-new.true)

pub loop-place-preserved : goal.loop-place-preserved
loop-place-preserved c =
    let p = c.in-Ok.ensures.new c.if-not-new.false in
    placed_more c.args.values.now c.loop-place.place c.index-values-place.result (omega (arith, c.loop-place-test.true)) c.loop-place.places.keys c.loop-place.invariant c.put.new.places.keys p.0 p.1

pub returns-clause-once : goal.returns-clause-once
returns-clause-once c = none_again c.args.values.now c.loop-place.place c.loop-place.places.keys (omega (arith, c.loop-place-test.false)) c.loop-place.invariant
