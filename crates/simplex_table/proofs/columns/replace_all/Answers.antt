use Rattle.std.proofs.Common.{◌<◌, length, ◌∙◌, rules}
use Rattle.simplex_logic.specs.Vectors.{replaced}
use Rattle.simplex_table.proofs.Firsts.{mapped_more}
use Rattle.simplex_table.proofs.columns.replace_all.Goals as goal

pub loop-v-preserved : goal.loop-v-preserved
loop-v-preserved c =
    let h : c.loop-v.v < length c.args.table.now = search rules in
    c.in_ok-push.ensures.items ∙ mapped_more (replaced c.args.column c.args.pivot.now) c.args.table.now c.loop-v.rows.items c.loop-v.v c.index-table-v.result c.in_ok-replaced.field-0 h c.loop-v.invariant c.index-table-v.is c.in_ok-replaced.ensures.ok
