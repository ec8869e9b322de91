use Rattle.std.proofs.Common.{◌≡◌, ◌<◌, ◌-◌, length, get_or, ◌∙◌, arith}
use Rattle.std.proofs.lemmas.Grind.{get_or_default_zero}
use Rattle.simplex_table.proofs.Settling.{turn_down}
use Rattle.simplex_table.proofs.columns.settle_down.Goals as goal

pub loop-place-preserved : goal.loop-place-preserved
loop-place-preserved c =
    let i = c.loop-place.invariant in
    let k = c.loop-place.place - 1 in
    let h : c.loop-place.place < length c.loop-place.columns.items = i.rises.but.inside in
    let a : c.index.result.now ≡ get_or c.loop-place.columns.items c.loop-place.place 0 = c.index.ensures ∙ get_or_default_zero c.loop-place.columns.items c.loop-place.place c.index.result.now h in
    let b : c.index-in-loop-place.result.now ≡ get_or c.loop-place.columns.items k 0 = c.index-in-loop-place.ensures ∙ get_or_default_zero c.loop-place.columns.items k c.index-in-loop-place.result.now (omega arith) in
    let t = turn_down c.loop-place.place k c.args.columns.now.items c.loop-place.columns.items c.swap.new.self.items c.args.table.now.items c.loop-place.table.items c.flip_all.new.table.items (omega arith)
    (omega (arith, a, b, c.if-index.true)) c.swap.ensures.items c.flip_all.ensures i.rises i.same i.same_length in
    record { rises = t.0; same = t.1; same_length = t.2 }
