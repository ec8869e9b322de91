use Rattle.std.proofs.Common.{◌+◌, ◌*◌, ◌-◌, length, ap, ap₂, ◌∙◌, refl, sym, arith}
use Rattle.std.proofs.lemmas.Result.{IfOk-weaker}
use Rattle.y_tree.specs.BitVectors.{differ, divide, magnitude, is_negative}
use Rattle.clause_gates.specs.Bits.{value_under}
use Rattle.bit_blast.specs.Bits.{number_under}
use Rattle.clause_gates.proofs.Growth.{grows_more, truth_on, satisfies_old}
use Rattle.bit_blast.proofs.Lists.{below_as, below_on, below_at_on}
use Rattle.bit_blast.proofs.Signs.{negated_on, word_value, sign_of}
use Rattle.bit_blast.proofs.signed.signed_divide.Goals as goal

pub xor_of-requires-clause-a_known : goal.xor_of-requires-clause-a_known
xor_of-requires-clause-a_known c = below_at_on c.args.a.now (length c.args.a.now - 1) _ c.divide_sizes.ensures.grows c.requires.a_known (omega arith)

pub xor_of-requires-clause-b_known : goal.xor_of-requires-clause-b_known
xor_of-requires-clause-b_known c = below_at_on c.args.b.now (length c.args.a.now - 1) _ c.divide_sizes.ensures.grows c.requires.b_known (omega arith)

pub returns-in_err-sign-clause-grows : goal.returns-in_err-sign-clause-grows
returns-in_err-sign-clause-grows c = grows_more (3 * (length c.args.a.now * length c.args.a.now) + 11 * length c.args.a.now + 1) c.divide_sizes.ensures.grows c.xor_of.ensures.grows (omega arith)

pub negate_if-requires-clause-truth : goal.negate_if-requires-clause-truth
negate_if-requires-clause-truth c = truth_on c.args.truth (grows_more (3 * (length c.args.a.now * length c.args.a.now) + 8 * length c.args.a.now + 1) c.divide_sizes.ensures.grows c.xor_of.ensures.grows (omega arith)) c.requires.truth

pub negate_if-requires-clause-a_known : goal.negate_if-requires-clause-a_known
negate_if-requires-clause-a_known c = below_on _ c.xor_of.ensures.grows (below_as _ _ c.as_slice.result.now c.in_ok-division.ensures.quotient.known c.as_slice.ensures)

pub returns-clause-grows : goal.returns-clause-grows
returns-clause-grows c = grows_more (3 * (length c.args.a.now * length c.args.a.now) + 11 * length c.args.a.now + 1) (grows_more (3 * (length c.args.a.now * length c.args.a.now) + 8 * length c.args.a.now + 1) c.divide_sizes.ensures.grows c.xor_of.ensures.grows (omega arith)) c.negate_if.ensures.grows (omega (arith, (ap length c.as_slice.ensures ∙ c.in_ok-division.ensures.quotient.count)))

pub returns-clause-ok : goal.returns-clause-ok
returns-clause-ok c =
    IfOk-weaker c.negate_if.result _ _
    (λ r w. negated_on c.negate_if.new.circuit.content (length c.as_slice.result.now) (length c.args.a.now) r (λ s. value_under s c.in_ok-sign.sign) (λ s. differ (is_negative (length c.args.a.now) (number_under s c.args.a.now)) (is_negative (length c.args.a.now) (number_under s c.args.b.now))) (λ s. number_under s c.as_slice.result.now)
    (λ s. divide (length c.args.a.now) (magnitude (length c.args.a.now) (number_under s c.args.a.now)) (magnitude (length c.args.a.now) (number_under s c.args.b.now))) (ap length c.as_slice.ensures ∙ c.in_ok-division.ensures.quotient.count)
    (λ s h. c.in_ok-sign.ensures.ok.is s (satisfies_old c.negate_if.ensures.grows s h) ∙ ap₂ differ (sign_of s c.args.a.now (length c.args.a.now) _ refl c.requires.some) (sign_of s c.args.b.now (length c.args.a.now) _ (sym c.requires.same) c.requires.some))
    (λ s h. word_value _ _ c.as_slice.result.now _ c.in_ok-division.ensures.quotient (grows_more (3 * length c.as_slice.result.now + 1) c.xor_of.ensures.grows c.negate_if.ensures.grows (omega arith)) c.as_slice.ensures s h) w)
    c.negate_if.ensures.ok
