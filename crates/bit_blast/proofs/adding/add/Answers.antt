use Rattle.std.proofs.Common.{◌-◌, ◌*◌, ◌<◌, length, arith}
use Rattle.clause_gates.proofs.Growth.{grows_more, truth_on}
use Rattle.bit_blast.proofs.Lists.{below_at_on, below_take}
use Rattle.bit_blast.proofs.Numbers.{not_empty}
use Rattle.bit_blast.proofs.Rows.{sum_last, last_room}
use Rattle.bit_blast.proofs.adding.add.Goals as goal

pub ripple-requires-clause-a_known : goal.ripple-requires-clause-a_known
ripple-requires-clause-a_known c = below_take _ (length c.args.a.now - 1) c.args.a.now c.requires.a_known

pub ripple-requires-clause-b_known : goal.ripple-requires-clause-b_known
ripple-requires-clause-b_known c = below_take _ (length c.args.a.now - 1) c.args.b.now c.requires.b_known

pub sum_of-requires-clause-truth : goal.sum_of-requires-clause-truth
sum_of-requires-clause-truth c = truth_on c.args.truth c.ripple.ensures.grows c.requires.truth

pub sum_of-requires-clause-a_known : goal.sum_of-requires-clause-a_known
sum_of-requires-clause-a_known c =
    let some : 0 < length c.args.a.now = not_empty (length c.args.a.now) c.is_empty.result c.is_empty.ensures c.if-is_empty.false in
    below_at_on c.args.a.now (length c.args.a.now - 1) _ c.ripple.ensures.grows c.requires.a_known (omega arith)

pub sum_of-requires-clause-b_known : goal.sum_of-requires-clause-b_known
sum_of-requires-clause-b_known c =
    let some : 0 < length c.args.a.now = not_empty (length c.args.a.now) c.is_empty.result c.is_empty.ensures c.if-is_empty.false in
    below_at_on c.args.b.now (length c.args.a.now - 1) _ c.ripple.ensures.grows c.requires.b_known (omega arith)

pub returns-in_err-high-clause-grows : goal.returns-in_err-high-clause-grows
returns-in_err-high-clause-grows c =
    let some : 0 < length c.args.a.now = not_empty (length c.args.a.now) c.is_empty.result c.is_empty.ensures c.if-is_empty.false in
    grows_more (2 * length c.args.a.now) c.ripple.ensures.grows c.sum_of.ensures.grows (last_room c.args.a.now some)

pub returns-in_err-push-clause-grows : goal.returns-in_err-push-clause-grows
returns-in_err-push-clause-grows c =
    let some : 0 < length c.args.a.now = not_empty (length c.args.a.now) c.is_empty.result c.is_empty.ensures c.if-is_empty.false in
    grows_more (2 * length c.args.a.now) c.ripple.ensures.grows c.sum_of.ensures.grows (last_room c.args.a.now some)

pub returns-clause-grows : goal.returns-clause-grows
returns-clause-grows c =
    let some : 0 < length c.args.a.now = not_empty (length c.args.a.now) c.is_empty.result c.is_empty.ensures c.if-is_empty.false in
    grows_more (2 * length c.args.a.now) c.ripple.ensures.grows c.sum_of.ensures.grows (last_room c.args.a.now some)

pub returns-clause-ok : goal.returns-clause-ok
returns-clause-ok c =
    let some : 0 < length c.args.a.now = not_empty (length c.args.a.now) c.is_empty.result c.is_empty.ensures c.if-is_empty.false in
    sum_last c.args.a.now c.args.b.now (length c.args.a.now - 1) _ c.args.first _ c.in_ok-high.high _ c.push.new.self c.sum_of.ensures.grows c.in_ok-bits.ensures.ok c.in_ok-high.ensures.ok (omega arith) (omega arith) c.in_ok-push.ensures.ok
