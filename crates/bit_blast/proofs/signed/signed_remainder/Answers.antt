use Rattle.std.proofs.Common.{◌+◌, ◌*◌, ◌-◌, length, ap, ◌∙◌, refl, arith}
use Rattle.std.proofs.lemmas.Result.{IfOk-weaker}
use Rattle.y_tree.specs.BitVectors.{remainder, magnitude, is_negative}
use Rattle.bit_blast.specs.Bits.{number_under}
use Rattle.clause_gates.proofs.Growth.{grows_more}
use Rattle.bit_blast.proofs.Lists.{below_as, below_at_on}
use Rattle.bit_blast.proofs.Signs.{negated_on, word_value, sign_of}
use Rattle.bit_blast.proofs.signed.signed_remainder.Goals as goal

pub negate_if-requires-clause-flag_known : goal.negate_if-requires-clause-flag_known
negate_if-requires-clause-flag_known c = below_at_on c.args.a.now (length c.args.a.now - 1) _ c.divide_sizes.ensures.grows c.requires.a_known (omega arith)

pub negate_if-requires-clause-a_known : goal.negate_if-requires-clause-a_known
negate_if-requires-clause-a_known c = below_as _ _ c.as_slice.result.now c.in_ok-division.ensures.remainder.known c.as_slice.ensures

pub returns-clause-grows : goal.returns-clause-grows
returns-clause-grows c = grows_more (3 * (length c.args.a.now * length c.args.a.now) + 11 * length c.args.a.now) c.divide_sizes.ensures.grows c.negate_if.ensures.grows (omega (arith, (ap length c.as_slice.ensures ∙ c.in_ok-division.ensures.remainder.count)))

pub returns-clause-ok : goal.returns-clause-ok
returns-clause-ok c =
    IfOk-weaker c.negate_if.result _ _
    (λ r w. negated_on c.negate_if.new.circuit.content (length c.as_slice.result.now) (length c.args.a.now) r _ (λ s. is_negative (length c.args.a.now) (number_under s c.args.a.now)) (λ s. number_under s c.as_slice.result.now)
    (λ s. remainder (magnitude (length c.args.a.now) (number_under s c.args.a.now)) (magnitude (length c.args.a.now) (number_under s c.args.b.now))) (ap length c.as_slice.ensures ∙ c.in_ok-division.ensures.remainder.count)
    (λ s h. sign_of s c.args.a.now (length c.args.a.now) _ refl c.requires.some)
    (λ s h. word_value _ _ c.as_slice.result.now _ c.in_ok-division.ensures.remainder c.negate_if.ensures.grows c.as_slice.ensures s h) w)
    c.negate_if.ensures.ok
