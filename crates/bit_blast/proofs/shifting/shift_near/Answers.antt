use Rattle.std.proofs.Common.{cond, ◌+◌, ◌*◌, ◌^◌, ◌%◌, length, get_or, false, ap, ◌∙◌, sym, arith}
use Rattle.clause_gates.specs.Bits.{value_under}
use Rattle.bit_blast.specs.Shifts.{moved}
use Rattle.clause_gates.proofs.Growth.{grows_same, grows_more, truth_on}
use Rattle.bit_blast.proofs.Lists.{below_as, below_at_on}
use Rattle.bit_blast.proofs.Moves.{stage_none, stage_more, shifted_known, shifted_length, amount_is, stage_room, second_as}
use Rattle.bit_blast.proofs.shifting.shift_near.Goals as goal

pub loop-j-init : goal.loop-j-init
loop-j-init c = record {
  grows = grows_same c.args.circuit.now (0 * length c.args.a.now);
  count = ap length (c.from_vec-word.ensures ∙ c.in_ok-from_slice.ensures.items);
  known = below_as _ c.args.a.now c.from_vec-word.result c.requires.a_known (c.from_vec-word.ensures ∙ c.in_ok-from_slice.ensures.items);
  is = λ s h. stage_none s c.args.way c.args.fill c.args.a.now c.from_vec-word.result c.args.b.now (c.from_vec-word.ensures ∙ c.in_ok-from_slice.ensures.items);
}

pub each-requires-clause-truth : goal.each-requires-clause-truth
each-requires-clause-truth c = truth_on c.args.truth c.loop-j.invariant.grows c.requires.truth

pub each-requires-clause-flag_known : goal.each-requires-clause-flag_known
each-requires-clause-flag_known c = below_at_on c.args.b.now c.loop-j.j _ c.loop-j.invariant.grows c.requires.b_known (omega arith)

pub each-requires-clause-a_known : goal.each-requires-clause-a_known
each-requires-clause-a_known c = shifted_known _ c.args.way c.args.fill (1 * 2 ^ c.loop-j.j % 2 ^ 64) c.loop-j.word c.as_slice-in-loop-j.result.now (omega (arith, c.requires.fill_known, c.loop-j.invariant.grows.vars)) c.loop-j.invariant.known (c.as_slice-in-loop-j.ensures ∙ c.in_ok-shifted.ensures ∙ ap (moved c.args.way c.args.fill (1 * 2 ^ c.loop-j.j % 2 ^ 64)) c.as_slice.ensures)

pub each-requires-clause-b_known : goal.each-requires-clause-b_known
each-requires-clause-b_known c = below_as _ c.loop-j.word c.as_slice-in-loop-j-2.result.now c.loop-j.invariant.known c.as_slice-in-loop-j-2.ensures

pub each-requires-clause-same : goal.each-requires-clause-same
each-requires-clause-same c = shifted_length c.args.way c.args.fill (1 * 2 ^ c.loop-j.j % 2 ^ 64) c.loop-j.word c.as_slice-in-loop-j.result.now (omega (arith, amount_is c.loop-j.j (omega arith), c.loop-j.invariant.count, c.requires.needed c.loop-j.j (omega arith))) (c.as_slice-in-loop-j.ensures ∙ c.in_ok-shifted.ensures ∙ ap (moved c.args.way c.args.fill (1 * 2 ^ c.loop-j.j % 2 ^ 64)) c.as_slice.ensures) ∙ c.loop-j.invariant.count ∙ sym (ap length c.as_slice-in-loop-j-2.ensures ∙ c.loop-j.invariant.count)

pub returns-in_err-next-clause-grows : goal.returns-in_err-next-clause-grows
returns-in_err-next-clause-grows c = grows_more (length c.args.b.now * length c.args.a.now) c.loop-j.invariant.grows c.each.ensures.grows (stage_room c.loop-j.j (length c.args.a.now) (length c.args.b.now) (length c.as_slice-in-loop-j.result.now) (omega arith) (shifted_length c.args.way c.args.fill (1 * 2 ^ c.loop-j.j % 2 ^ 64) c.loop-j.word c.as_slice-in-loop-j.result.now (omega (arith, amount_is c.loop-j.j (omega arith), c.loop-j.invariant.count, c.requires.needed c.loop-j.j (omega arith))) (c.as_slice-in-loop-j.ensures ∙ c.in_ok-shifted.ensures ∙ ap (moved c.args.way c.args.fill (1 * 2 ^ c.loop-j.j % 2 ^ 64)) c.as_slice.ensures) ∙ c.loop-j.invariant.count))

pub loop-j-preserved : goal.loop-j-preserved
loop-j-preserved c = record {
  grows = grows_more ((c.loop-j.j + 1) * length c.args.a.now) c.loop-j.invariant.grows c.each.ensures.grows (stage_room c.loop-j.j (length c.args.a.now) (c.loop-j.j + 1) (length c.as_slice-in-loop-j.result.now) (omega arith) (shifted_length c.args.way c.args.fill (1 * 2 ^ c.loop-j.j % 2 ^ 64) c.loop-j.word c.as_slice-in-loop-j.result.now (omega (arith, amount_is c.loop-j.j (omega arith), c.loop-j.invariant.count, c.requires.needed c.loop-j.j (omega arith))) (c.as_slice-in-loop-j.ensures ∙ c.in_ok-shifted.ensures ∙ ap (moved c.args.way c.args.fill (1 * 2 ^ c.loop-j.j % 2 ^ 64)) c.as_slice.ensures) ∙ c.loop-j.invariant.count));
  count = c.in_ok-next.ensures.ok.count ∙ shifted_length c.args.way c.args.fill (1 * 2 ^ c.loop-j.j % 2 ^ 64) c.loop-j.word c.as_slice-in-loop-j.result.now (omega (arith, amount_is c.loop-j.j (omega arith), c.loop-j.invariant.count, c.requires.needed c.loop-j.j (omega arith))) (c.as_slice-in-loop-j.ensures ∙ c.in_ok-shifted.ensures ∙ ap (moved c.args.way c.args.fill (1 * 2 ^ c.loop-j.j % 2 ^ 64)) c.as_slice.ensures) ∙ c.loop-j.invariant.count;
  known = c.in_ok-next.ensures.ok.known;
  is = stage_more c.args.way c.args.fill c.args.a.now c.args.b.now c.loop-j.word c.as_slice-in-loop-j.result.now c.in_ok-next.next c.loop-j.j (1 * 2 ^ c.loop-j.j % 2 ^ 64) _ c.each.ensures.grows (omega arith)
      (c.requires.needed c.loop-j.j (omega arith)) (amount_is c.loop-j.j (omega arith)) c.loop-j.invariant.count (c.as_slice-in-loop-j.ensures ∙ c.in_ok-shifted.ensures ∙ ap (moved c.args.way c.args.fill (1 * 2 ^ c.loop-j.j % 2 ^ 64)) c.as_slice.ensures) c.loop-j.invariant.is
      (second_as _ _ c.in_ok-next.next (λ s x y. cond (value_under s (get_or c.args.b.now c.loop-j.j (record { var = 0; positive = false }))) x y) c.as_slice-in-loop-j.result.now c.as_slice-in-loop-j-2.result.now c.loop-j.word c.in_ok-next.ensures.ok c.as_slice-in-loop-j-2.ensures);
}
