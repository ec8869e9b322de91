use Rattle.std.proofs.Common.{ℕ, false, List, ◌≡◌, ◌+◌, ◌*◌, ◌-◌, not, length, drop, get_or, ap, ◌∙◌, sym, subst, arith}
use Rattle.std.specs.Prelude.{◌==◌}
use Rattle.clause_logic.specs.declared.Lit.{Lit}
use Rattle.bit_blast.specs.Bits.{number_under}
use Rattle.clause_gates.specs.Circuits.{Computes}
use Rattle.clause_gates.proofs.Growth.{grows_same, grows_more, truth_on, computes_on}
use Rattle.bit_blast.proofs.Lists.{below_as, below_on, below_at_on}
use Rattle.bit_blast.proofs.Rows.{word_is}
use Rattle.bit_blast.proofs.Quotients.{quotient_more, remainder_more, quotient_none, rest_none, step_room, steps_room}
use Rattle.bit_blast.proofs.dividing.divide.Goals as goal

pub divide_step-requires-clause-truth : goal.divide_step-requires-clause-truth
divide_step-requires-clause-truth c = truth_on c.args.truth (grows_more (length c.args.a.now + length c.args.a.now * (3 * length c.args.a.now + 1)) c.tops.ensures.grows c.loop-k.invariant.grows (omega (arith, c.requires.same, steps_room (length c.args.a.now) c.loop-k.k (omega arith)))) c.requires.truth

pub divide_step-requires-clause-next_known : goal.divide_step-requires-clause-next_known
divide_step-requires-clause-next_known c = below_at_on c.args.a.now (length c.args.a.now - 1 - c.loop-k.k) _ (grows_more (length c.args.a.now + length c.args.a.now * (3 * length c.args.a.now + 1)) c.tops.ensures.grows c.loop-k.invariant.grows (omega (arith, c.requires.same, steps_room (length c.args.a.now) c.loop-k.k (omega arith)))) c.requires.a_known (omega arith)

pub divide_step-requires-clause-rest_known : goal.divide_step-requires-clause-rest_known
divide_step-requires-clause-rest_known c = below_as _ c.loop-k.rest c.as_slice.result.now c.loop-k.invariant.rest.known c.as_slice.ensures

pub divide_step-requires-clause-b_known : goal.divide_step-requires-clause-b_known
divide_step-requires-clause-b_known c = below_on c.args.b.now (grows_more (length c.args.a.now + length c.args.a.now * (3 * length c.args.a.now + 1)) c.tops.ensures.grows c.loop-k.invariant.grows (omega (arith, c.requires.same, steps_room (length c.args.a.now) c.loop-k.k (omega arith)))) c.requires.b_known

pub divide_step-requires-clause-top : goal.divide_step-requires-clause-top
divide_step-requires-clause-top c =
    let n : length c.args.b.now - (length c.args.a.now - 1 - c.loop-k.k) ≡ length c.as_slice.result.now + 1 = omega (arith, c.requires.same, ap length c.as_slice.ensures, c.loop-k.invariant.rest.count) in
    computes_on _ _ c.loop-k.invariant.grows
    (subst (λ (j : ℕ). Computes c.tops.new.circuit.content (get_or c.as_slice-tops.result.now (length c.args.a.now - 1 - c.loop-k.k) (record { var = 0; positive = false })) (λ s. not (number_under s (drop j c.args.b.now) == 0))) n
    (subst (λ (ls : List Lit). Computes c.tops.new.circuit.content (get_or ls (length c.args.a.now - 1 - c.loop-k.k) (record { var = 0; positive = false })) (λ s. not (number_under s (drop (length c.args.b.now - (length c.args.a.now - 1 - c.loop-k.k)) c.args.b.now) == 0))) (sym c.as_slice-tops.ensures)
    (c.in_ok-tops.ensures.ok (length c.args.a.now - 1 - c.loop-k.k) (record { var = 0; positive = false }) (omega arith))))

pub returns-in_err-step-clause-grows : goal.returns-in_err-step-clause-grows
returns-in_err-step-clause-grows c = grows_more (length c.args.a.now + length c.args.a.now * (3 * length c.args.a.now + 1)) c.tops.ensures.grows (grows_more ((c.loop-k.k + 1) * (3 * length c.args.a.now + 1)) c.loop-k.invariant.grows c.divide_step.ensures.grows (step_room (length c.args.a.now) c.loop-k.k (length c.as_slice.result.now) (omega arith) (ap length c.as_slice.ensures ∙ c.loop-k.invariant.rest.count))) (omega (arith, c.requires.same, steps_room (length c.args.a.now) (c.loop-k.k + 1) (omega arith)))

pub returns-in_err-longer-clause-grows : goal.returns-in_err-longer-clause-grows
returns-in_err-longer-clause-grows c = grows_more (length c.args.a.now + length c.args.a.now * (3 * length c.args.a.now + 1)) c.tops.ensures.grows (grows_more ((c.loop-k.k + 1) * (3 * length c.args.a.now + 1)) c.loop-k.invariant.grows c.divide_step.ensures.grows (step_room (length c.args.a.now) c.loop-k.k (length c.as_slice.result.now) (omega arith) (ap length c.as_slice.ensures ∙ c.loop-k.invariant.rest.count))) (omega (arith, c.requires.same, steps_room (length c.args.a.now) (c.loop-k.k + 1) (omega arith)))

pub returns-clause-grows : goal.returns-clause-grows
returns-clause-grows c = (grows_more (length c.args.a.now + length c.args.a.now * (3 * length c.args.a.now + 1)) c.tops.ensures.grows c.loop-k.invariant.grows (omega (arith, c.requires.same, steps_room (length c.args.a.now) c.loop-k.k (omega arith))))

pub loop-k-preserved : goal.loop-k-preserved
loop-k-preserved c = record {
  grows = grows_more ((c.loop-k.k + 1) * (3 * length c.args.a.now + 1)) c.loop-k.invariant.grows c.divide_step.ensures.grows (step_room (length c.args.a.now) c.loop-k.k (length c.as_slice.result.now) (omega arith) (ap length c.as_slice.ensures ∙ c.loop-k.invariant.rest.count));
  quotient = quotient_more c.args.a.now c.args.b.now c.loop-k.k _ c.divide_step.ensures.grows (omega arith) c.as_slice.result.now (word_is _ _ c.loop-k.rest c.as_slice.result.now _ c.loop-k.invariant.rest c.as_slice.ensures)
      c.as_slice-in-loop-k.result.now c.in_ok-longer.longer _ (word_is _ _ c.loop-k.quotient c.as_slice-in-loop-k.result.now _ c.loop-k.invariant.quotient c.as_slice-in-loop-k.ensures) c.in_ok-step.ensures.bit c.in_ok-longer.ensures;
  rest = remainder_more c.args.a.now c.args.b.now c.loop-k.k _ c.divide_step.ensures.grows (omega arith) c.as_slice.result.now (word_is _ _ c.loop-k.rest c.as_slice.result.now _ c.loop-k.invariant.rest c.as_slice.ensures)
      _ c.in_ok-step.ensures.rest;
}

pub loop-k-init : goal.loop-k-init
loop-k-init c = record {
  grows = grows_same c.tops.new.circuit (0 * (3 * length c.args.a.now + 1));
  quotient = quotient_none c.tops.new.circuit.content c.args.a.now c.args.b.now c.new-quotient.result (length c.args.a.now - 0) (omega arith) c.new-quotient.ensures;
  rest = rest_none c.tops.new.circuit.content c.args.a.now c.args.b.now c.new-rest.result (length c.args.a.now - 0) (omega arith) c.new-rest.ensures;
}
