use Rattle.std.proofs.Common.{◌+◌, ◌*◌, length, take, ap, ◌∙◌, arith}
use Rattle.clause_gates.proofs.Growth.{grows_more, truth_on}
use Rattle.bit_blast.proofs.Lists.{below_as, below_on, below_cons, below_take, below_opposite_is}
use Rattle.bit_blast.proofs.Rows.{sum_as}
use Rattle.bit_blast.proofs.Quotients.{step_bit, step_rest, word_length}
use Rattle.bit_blast.proofs.dividing.divide_step.Goals as goal

pub ripple-requires-clause-a_known : goal.ripple-requires-clause-a_known
ripple-requires-clause-a_known c = below_as _ _ c.as_slice-word.result.now (below_cons _ c.args.next c.args.rest.now c.requires.next_known c.requires.rest_known) (c.as_slice-word.ensures ∙ c.in_ok-longer.ensures)

pub ripple-requires-clause-b_known : goal.ripple-requires-clause-b_known
ripple-requires-clause-b_known c = below_opposite_is _ (take (length c.args.rest.now + 1) c.args.b.now) c.as_slice.result.now (below_take _ (length c.args.rest.now + 1) c.args.b.now c.requires.b_known) (c.as_slice.ensures ∙ c.in_ok-not_b.ensures)

pub and_of-requires-clause-truth : goal.and_of-requires-clause-truth
and_of-requires-clause-truth c = truth_on c.args.truth c.ripple.ensures.grows c.requires.truth

pub returns-in_err-fits-clause-grows : goal.returns-in_err-fits-clause-grows
returns-in_err-fits-clause-grows c = (grows_more (3 * length c.args.rest.now + 4) c.ripple.ensures.grows c.and_of.ensures.grows (omega (arith, word_length (c.as_slice-word.ensures ∙ c.in_ok-longer.ensures))))

pub each-requires-clause-truth : goal.each-requires-clause-truth
each-requires-clause-truth c = truth_on c.args.truth (grows_more (3 * length c.args.rest.now + 4) c.ripple.ensures.grows c.and_of.ensures.grows (omega (arith, word_length (c.as_slice-word.ensures ∙ c.in_ok-longer.ensures)))) c.requires.truth

pub each-requires-clause-a_known : goal.each-requires-clause-a_known
each-requires-clause-a_known c = below_as _ _ _ (below_on _ c.and_of.ensures.grows c.in_ok-bits.ensures.ok.bits_known) c.as_slice-2.ensures

pub each-requires-clause-b_known : goal.each-requires-clause-b_known
each-requires-clause-b_known c = below_on _ (grows_more (3 * length c.args.rest.now + 4) c.ripple.ensures.grows c.and_of.ensures.grows (omega (arith, word_length (c.as_slice-word.ensures ∙ c.in_ok-longer.ensures)))) (below_as _ _ c.as_slice-word.result.now (below_cons _ c.args.next c.args.rest.now c.requires.next_known c.requires.rest_known) (c.as_slice-word.ensures ∙ c.in_ok-longer.ensures))

pub returns-in_err-left-clause-grows : goal.returns-in_err-left-clause-grows
returns-in_err-left-clause-grows c = grows_more (3 * length c.args.rest.now + 4) (grows_more (2 * (length c.args.rest.now + 1) + 1) c.ripple.ensures.grows c.and_of.ensures.grows (omega (arith, word_length (c.as_slice-word.ensures ∙ c.in_ok-longer.ensures)))) c.each.ensures.grows (omega (arith, word_length (c.as_slice-word.ensures ∙ c.in_ok-longer.ensures), ap length c.as_slice-2.ensures, c.in_ok-bits.ensures.ok.count))

pub returns-clause-grows : goal.returns-clause-grows
returns-clause-grows c = grows_more (3 * length c.args.rest.now + 4) (grows_more (2 * (length c.args.rest.now + 1) + 1) c.ripple.ensures.grows c.and_of.ensures.grows (omega (arith, word_length (c.as_slice-word.ensures ∙ c.in_ok-longer.ensures)))) c.each.ensures.grows (omega (arith, word_length (c.as_slice-word.ensures ∙ c.in_ok-longer.ensures), ap length c.as_slice-2.ensures, c.in_ok-bits.ensures.ok.count))

pub returns-clause-bit : goal.returns-clause-bit
returns-clause-bit c =
    step_bit c.args.truth c.args.next c.args.top c.in_ok-fits.fits c.args.rest.now c.args.b.now c.as_slice-word.result.now c.as_slice.result.now c.as_slice-2.result.now _ c.opposite-not_top.result
    c.ripple.ensures.grows c.and_of.ensures.grows c.requires.truth c.requires.narrow c.requires.top (c.as_slice-word.ensures ∙ c.in_ok-longer.ensures) (c.as_slice.ensures ∙ c.in_ok-not_b.ensures) c.opposite-not_top.ensures
    (sum_as _ c.as_slice-word.result.now c.as_slice.result.now c.args.truth _ c.as_slice-2.result.now _ c.in_ok-bits.ensures.ok c.as_slice-2.ensures) c.in_ok-fits.ensures.ok c.each.ensures.grows

pub returns-clause-rest : goal.returns-clause-rest
returns-clause-rest c =
    step_rest c.args.truth c.args.next c.args.top c.in_ok-fits.fits c.args.rest.now c.args.b.now c.as_slice-word.result.now c.as_slice.result.now c.as_slice-2.result.now _ c.opposite-not_top.result
    c.ripple.ensures.grows c.and_of.ensures.grows c.requires.truth c.requires.narrow c.requires.top (c.as_slice-word.ensures ∙ c.in_ok-longer.ensures) (c.as_slice.ensures ∙ c.in_ok-not_b.ensures) c.opposite-not_top.ensures
    (sum_as _ c.as_slice-word.result.now c.as_slice.result.now c.args.truth _ c.as_slice-2.result.now _ c.in_ok-bits.ensures.ok c.as_slice-2.ensures) c.in_ok-fits.ensures.ok c.in_ok-left.left c.each.ensures.grows c.in_ok-left.ensures.ok
