use Rattle.std.proofs.Common.{◌+◌, ◌*◌, ◌-◌, length, arith}
use Rattle.clause_gates.proofs.Growth.{grows_more, truth_on}
use Rattle.bit_blast.proofs.Lists.{below_as, below_take, below_on, below_at_on}
use Rattle.bit_blast.proofs.Rows.{product_more, word_is, row_room, row_room_next}
use Rattle.bit_blast.proofs.multiplying.multiply.Goals as goal

pub add_row-requires-clause-truth : goal.add_row-requires-clause-truth
add_row-requires-clause-truth c = truth_on c.args.truth c.loop-k.invariant.grows c.requires.truth

pub add_row-requires-clause-flag_known : goal.add_row-requires-clause-flag_known
add_row-requires-clause-flag_known c = below_at_on c.args.b.now (length c.args.a.now - 1 - c.loop-k.k) _ c.loop-k.invariant.grows c.requires.b_known (omega arith)

pub add_row-requires-clause-a_known : goal.add_row-requires-clause-a_known
add_row-requires-clause-a_known c = below_take _ (c.loop-k.k + 1) c.args.a.now (below_on c.args.a.now c.loop-k.invariant.grows c.requires.a_known)

pub add_row-requires-clause-high_known : goal.add_row-requires-clause-high_known
add_row-requires-clause-high_known c = below_as _ c.loop-k.product c.as_slice.result.now c.loop-k.invariant.product.known c.as_slice.ensures

pub returns-in_err-longer-clause-grows : goal.returns-in_err-longer-clause-grows
returns-in_err-longer-clause-grows c = grows_more (3 * (length c.args.a.now * length c.args.a.now)) c.loop-k.invariant.grows c.add_row.ensures.grows (row_room c.args.a.now c.loop-k.k (omega arith))

pub loop-k-preserved : goal.loop-k-preserved
loop-k-preserved c = record {
  grows = grows_more (3 * (length c.args.a.now * (c.loop-k.k + 1))) c.loop-k.invariant.grows c.add_row.ensures.grows (row_room_next c.args.a.now c.loop-k.k (omega arith));
  product = product_more c.args.a.now c.args.b.now c.as_slice.result.now c.in_ok-longer.longer c.loop-k.k _ c.add_row.ensures.grows (omega arith) c.requires.same
      (word_is _ _ c.loop-k.product c.as_slice.result.now _ c.loop-k.invariant.product c.as_slice.ensures) c.in_ok-longer.ensures.ok;
}
