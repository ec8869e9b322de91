use Rattle.std.proofs.Common.{rules}
use Rattle.simplex_table.proofs.Settling.{turn_up}
use Rattle.simplex_table.proofs.columns.settle_up.Goals as goal

pub loop-place-preserved : goal.loop-place-preserved
loop-place-preserved c =
    let i = c.loop-place.invariant in
    let t = turn_up c.loop-place.place c.args.columns.now.items c.loop-place.columns.items c.swap.new.self.items c.args.table.now.items c.loop-place.table.items c.flip_all.new.table.items (search rules) c.swap.ensures.items
    c.flip_all.ensures i.rises i.same i.same_length in
    record { rises = t.0; same = t.1; same_length = t.2 }
