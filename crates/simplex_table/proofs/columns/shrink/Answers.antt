use Rattle.std.proofs.Common.{◌-◌, arith, rules}
use Rattle.simplex_table.proofs.Firsts.{one_back}
use Rattle.simplex_table.proofs.columns.shrink.Goals as goal

pub loop-v-preserved : goal.loop-v-preserved
loop-v-preserved c = record {
  rows = λ rows e. one_back rows c.loop-v.table.items c.args.table.now.items c.args.count c.loop-v.v (c.loop-v.v - 1) c.index_mut.result.now c.pop.new.self (omega arith) c.loop-v.invariant.inside c.requires e (c.loop-v.invariant.rows rows e) c.index_mut.ensures.value c.pop.ensures.last;
  len = search rules;
  room = search rules;
  inside = omega arith;
}
