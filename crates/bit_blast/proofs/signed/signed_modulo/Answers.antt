use Rattle.std.proofs.Common.{ℕ, ◌+◌, ◌*◌, ◌-◌, length, ap, ◌∙◌, refl, sym, subst, arith}
use Rattle.std.proofs.lemmas.Result.{IfOk-weaker}
use Rattle.y_tree.specs.BitVectors.{wrap}
use Rattle.clause_gates.specs.Bits.{value_under}
use Rattle.bit_blast.specs.Bits.{number_under, bit}
use Rattle.bit_blast.specs.Circuits.{IsWord}
use Rattle.clause_gates.proofs.Growth.{grows_more, grows_wide, truth_on, satisfies_old}
use Rattle.clause_gates.proofs.Switches.{is_false}
use Rattle.bit_blast.proofs.Lists.{below_as, below_on, below_at_on}
use Rattle.bit_blast.proofs.Rows.{bits_as, word_is}
use Rattle.bit_blast.proofs.Signs.{negated_on, modulo_is}
use Rattle.bit_blast.proofs.signed.signed_modulo.Goals as goal

pub negate_if-requires-clause-flag_known : goal.negate_if-requires-clause-flag_known
negate_if-requires-clause-flag_known c = below_at_on c.args.a.now (length c.args.a.now - 1) _ c.divide_sizes.ensures.grows c.requires.a_known (omega arith)

pub negate_if-requires-clause-a_known : goal.negate_if-requires-clause-a_known
negate_if-requires-clause-a_known c = (below_as _ _ c.as_slice-rest.result.now c.in_ok-division.ensures.remainder.known c.as_slice-rest.ensures)

pub returns-in_err-signed-clause-grows : goal.returns-in_err-signed-clause-grows
returns-in_err-signed-clause-grows c = grows_wide (3 * (length c.args.a.now * length c.args.a.now) + 15 * length c.args.a.now + 2) (grows_more (3 * (length c.args.a.now * length c.args.a.now) + 11 * length c.args.a.now) c.divide_sizes.ensures.grows c.negate_if.ensures.grows (omega (arith, (ap length c.as_slice-rest.ensures ∙ c.in_ok-division.ensures.remainder.count)))) (omega arith)

pub nonzero-requires-clause-truth : goal.nonzero-requires-clause-truth
nonzero-requires-clause-truth c = truth_on c.args.truth (grows_more (3 * (length c.args.a.now * length c.args.a.now) + 11 * length c.args.a.now) c.divide_sizes.ensures.grows c.negate_if.ensures.grows (omega (arith, (ap length c.as_slice-rest.ensures ∙ c.in_ok-division.ensures.remainder.count)))) c.requires.truth

pub nonzero-requires-clause-a_known : goal.nonzero-requires-clause-a_known
nonzero-requires-clause-a_known c = below_on _ c.negate_if.ensures.grows (below_as _ _ c.as_slice-rest.result.now c.in_ok-division.ensures.remainder.known c.as_slice-rest.ensures)

pub returns-in_err-some-clause-grows : goal.returns-in_err-some-clause-grows
returns-in_err-some-clause-grows c = grows_wide (3 * (length c.args.a.now * length c.args.a.now) + 15 * length c.args.a.now + 2) (grows_more (3 * (length c.args.a.now * length c.args.a.now) + 12 * length c.args.a.now) (grows_more (3 * (length c.args.a.now * length c.args.a.now) + 11 * length c.args.a.now) c.divide_sizes.ensures.grows c.negate_if.ensures.grows (omega (arith, (ap length c.as_slice-rest.ensures ∙ c.in_ok-division.ensures.remainder.count)))) c.nonzero.ensures.grows (omega (arith, (ap length c.as_slice-rest.ensures ∙ c.in_ok-division.ensures.remainder.count)))) (omega arith)

pub xor_of-requires-clause-truth : goal.xor_of-requires-clause-truth
xor_of-requires-clause-truth c = truth_on c.args.truth (grows_more (3 * (length c.args.a.now * length c.args.a.now) + 12 * length c.args.a.now) (grows_more (3 * (length c.args.a.now * length c.args.a.now) + 11 * length c.args.a.now) c.divide_sizes.ensures.grows c.negate_if.ensures.grows (omega (arith, (ap length c.as_slice-rest.ensures ∙ c.in_ok-division.ensures.remainder.count)))) c.nonzero.ensures.grows (omega (arith, (ap length c.as_slice-rest.ensures ∙ c.in_ok-division.ensures.remainder.count)))) c.requires.truth

pub xor_of-requires-clause-a_known : goal.xor_of-requires-clause-a_known
xor_of-requires-clause-a_known c = below_at_on c.args.a.now (length c.args.a.now - 1) _ (grows_more (3 * (length c.args.a.now * length c.args.a.now) + 12 * length c.args.a.now) (grows_more (3 * (length c.args.a.now * length c.args.a.now) + 11 * length c.args.a.now) c.divide_sizes.ensures.grows c.negate_if.ensures.grows (omega (arith, (ap length c.as_slice-rest.ensures ∙ c.in_ok-division.ensures.remainder.count)))) c.nonzero.ensures.grows (omega (arith, (ap length c.as_slice-rest.ensures ∙ c.in_ok-division.ensures.remainder.count)))) c.requires.a_known (omega arith)

pub xor_of-requires-clause-b_known : goal.xor_of-requires-clause-b_known
xor_of-requires-clause-b_known c = below_at_on c.args.b.now (length c.args.a.now - 1) _ (grows_more (3 * (length c.args.a.now * length c.args.a.now) + 12 * length c.args.a.now) (grows_more (3 * (length c.args.a.now * length c.args.a.now) + 11 * length c.args.a.now) c.divide_sizes.ensures.grows c.negate_if.ensures.grows (omega (arith, (ap length c.as_slice-rest.ensures ∙ c.in_ok-division.ensures.remainder.count)))) c.nonzero.ensures.grows (omega (arith, (ap length c.as_slice-rest.ensures ∙ c.in_ok-division.ensures.remainder.count)))) c.requires.b_known (omega arith)

pub returns-in_err-apart-clause-grows : goal.returns-in_err-apart-clause-grows
returns-in_err-apart-clause-grows c = grows_wide (3 * (length c.args.a.now * length c.args.a.now) + 15 * length c.args.a.now + 2) (grows_more (3 * (length c.args.a.now * length c.args.a.now) + 12 * length c.args.a.now + 1) (grows_more (3 * (length c.args.a.now * length c.args.a.now) + 12 * length c.args.a.now) (grows_more (3 * (length c.args.a.now * length c.args.a.now) + 11 * length c.args.a.now) c.divide_sizes.ensures.grows c.negate_if.ensures.grows (omega (arith, (ap length c.as_slice-rest.ensures ∙ c.in_ok-division.ensures.remainder.count)))) c.nonzero.ensures.grows (omega (arith, (ap length c.as_slice-rest.ensures ∙ c.in_ok-division.ensures.remainder.count)))) c.xor_of.ensures.grows (omega arith)) (omega arith)

pub and_of-requires-clause-truth : goal.and_of-requires-clause-truth
and_of-requires-clause-truth c = truth_on c.args.truth (grows_more (3 * (length c.args.a.now * length c.args.a.now) + 12 * length c.args.a.now + 1) (grows_more (3 * (length c.args.a.now * length c.args.a.now) + 12 * length c.args.a.now) (grows_more (3 * (length c.args.a.now * length c.args.a.now) + 11 * length c.args.a.now) c.divide_sizes.ensures.grows c.negate_if.ensures.grows (omega (arith, (ap length c.as_slice-rest.ensures ∙ c.in_ok-division.ensures.remainder.count)))) c.nonzero.ensures.grows (omega (arith, (ap length c.as_slice-rest.ensures ∙ c.in_ok-division.ensures.remainder.count)))) c.xor_of.ensures.grows (omega arith)) c.requires.truth

pub returns-in_err-flag-clause-grows : goal.returns-in_err-flag-clause-grows
returns-in_err-flag-clause-grows c = grows_wide (3 * (length c.args.a.now * length c.args.a.now) + 15 * length c.args.a.now + 2) (grows_more (3 * (length c.args.a.now * length c.args.a.now) + 12 * length c.args.a.now + 2) (grows_more (3 * (length c.args.a.now * length c.args.a.now) + 12 * length c.args.a.now + 1) (grows_more (3 * (length c.args.a.now * length c.args.a.now) + 12 * length c.args.a.now) (grows_more (3 * (length c.args.a.now * length c.args.a.now) + 11 * length c.args.a.now) c.divide_sizes.ensures.grows c.negate_if.ensures.grows (omega (arith, (ap length c.as_slice-rest.ensures ∙ c.in_ok-division.ensures.remainder.count)))) c.nonzero.ensures.grows (omega (arith, (ap length c.as_slice-rest.ensures ∙ c.in_ok-division.ensures.remainder.count)))) c.xor_of.ensures.grows (omega arith)) c.and_of.ensures.grows (omega arith)) (omega arith)

pub each-requires-clause-truth : goal.each-requires-clause-truth
each-requires-clause-truth c = truth_on c.args.truth (grows_more (3 * (length c.args.a.now * length c.args.a.now) + 12 * length c.args.a.now + 2) (grows_more (3 * (length c.args.a.now * length c.args.a.now) + 12 * length c.args.a.now + 1) (grows_more (3 * (length c.args.a.now * length c.args.a.now) + 12 * length c.args.a.now) (grows_more (3 * (length c.args.a.now * length c.args.a.now) + 11 * length c.args.a.now) c.divide_sizes.ensures.grows c.negate_if.ensures.grows (omega (arith, (ap length c.as_slice-rest.ensures ∙ c.in_ok-division.ensures.remainder.count)))) c.nonzero.ensures.grows (omega (arith, (ap length c.as_slice-rest.ensures ∙ c.in_ok-division.ensures.remainder.count)))) c.xor_of.ensures.grows (omega arith)) c.and_of.ensures.grows (omega arith)) c.requires.truth

pub each-requires-clause-a_known : goal.each-requires-clause-a_known
each-requires-clause-a_known c = below_on c.args.b.now (grows_more (3 * (length c.args.a.now * length c.args.a.now) + 12 * length c.args.a.now + 2) (grows_more (3 * (length c.args.a.now * length c.args.a.now) + 12 * length c.args.a.now + 1) (grows_more (3 * (length c.args.a.now * length c.args.a.now) + 12 * length c.args.a.now) (grows_more (3 * (length c.args.a.now * length c.args.a.now) + 11 * length c.args.a.now) c.divide_sizes.ensures.grows c.negate_if.ensures.grows (omega (arith, (ap length c.as_slice-rest.ensures ∙ c.in_ok-division.ensures.remainder.count)))) c.nonzero.ensures.grows (omega (arith, (ap length c.as_slice-rest.ensures ∙ c.in_ok-division.ensures.remainder.count)))) c.xor_of.ensures.grows (omega arith)) c.and_of.ensures.grows (omega arith)) c.requires.b_known

pub each-requires-clause-b_known : goal.each-requires-clause-b_known
each-requires-clause-b_known c = below_on c.args.b.now (grows_more (3 * (length c.args.a.now * length c.args.a.now) + 12 * length c.args.a.now + 2) (grows_more (3 * (length c.args.a.now * length c.args.a.now) + 12 * length c.args.a.now + 1) (grows_more (3 * (length c.args.a.now * length c.args.a.now) + 12 * length c.args.a.now) (grows_more (3 * (length c.args.a.now * length c.args.a.now) + 11 * length c.args.a.now) c.divide_sizes.ensures.grows c.negate_if.ensures.grows (omega (arith, (ap length c.as_slice-rest.ensures ∙ c.in_ok-division.ensures.remainder.count)))) c.nonzero.ensures.grows (omega (arith, (ap length c.as_slice-rest.ensures ∙ c.in_ok-division.ensures.remainder.count)))) c.xor_of.ensures.grows (omega arith)) c.and_of.ensures.grows (omega arith)) c.requires.b_known

pub returns-in_err-addend-clause-grows : goal.returns-in_err-addend-clause-grows
returns-in_err-addend-clause-grows c = grows_wide (3 * (length c.args.a.now * length c.args.a.now) + 15 * length c.args.a.now + 2) (grows_more (3 * (length c.args.a.now * length c.args.a.now) + 13 * length c.args.a.now + 2) (grows_more (3 * (length c.args.a.now * length c.args.a.now) + 12 * length c.args.a.now + 2) (grows_more (3 * (length c.args.a.now * length c.args.a.now) + 12 * length c.args.a.now + 1) (grows_more (3 * (length c.args.a.now * length c.args.a.now) + 12 * length c.args.a.now) (grows_more (3 * (length c.args.a.now * length c.args.a.now) + 11 * length c.args.a.now) c.divide_sizes.ensures.grows c.negate_if.ensures.grows (omega (arith, (ap length c.as_slice-rest.ensures ∙ c.in_ok-division.ensures.remainder.count)))) c.nonzero.ensures.grows (omega (arith, (ap length c.as_slice-rest.ensures ∙ c.in_ok-division.ensures.remainder.count)))) c.xor_of.ensures.grows (omega arith)) c.and_of.ensures.grows (omega arith)) c.each.ensures.grows (omega (arith, c.requires.same))) (omega arith)

pub add-requires-clause-truth : goal.add-requires-clause-truth
add-requires-clause-truth c = truth_on c.args.truth (grows_more (3 * (length c.args.a.now * length c.args.a.now) + 13 * length c.args.a.now + 2) (grows_more (3 * (length c.args.a.now * length c.args.a.now) + 12 * length c.args.a.now + 2) (grows_more (3 * (length c.args.a.now * length c.args.a.now) + 12 * length c.args.a.now + 1) (grows_more (3 * (length c.args.a.now * length c.args.a.now) + 12 * length c.args.a.now) (grows_more (3 * (length c.args.a.now * length c.args.a.now) + 11 * length c.args.a.now) c.divide_sizes.ensures.grows c.negate_if.ensures.grows (omega (arith, (ap length c.as_slice-rest.ensures ∙ c.in_ok-division.ensures.remainder.count)))) c.nonzero.ensures.grows (omega (arith, (ap length c.as_slice-rest.ensures ∙ c.in_ok-division.ensures.remainder.count)))) c.xor_of.ensures.grows (omega arith)) c.and_of.ensures.grows (omega arith)) c.each.ensures.grows (omega (arith, c.requires.same))) c.requires.truth

pub add-requires-clause-a_known : goal.add-requires-clause-a_known
add-requires-clause-a_known c =
    below_on _ (grows_more (length c.args.a.now + (length c.as_slice-rest.result.now) + 2) (grows_more ((length c.as_slice-rest.result.now) + 2) (grows_more ((length c.as_slice-rest.result.now) + 1) c.nonzero.ensures.grows c.xor_of.ensures.grows (omega arith)) c.and_of.ensures.grows (omega arith)) c.each.ensures.grows (omega (arith, c.requires.same)))
    (below_as _ c.in_ok-signed.signed c.as_slice.result.now c.in_ok-signed.ensures.ok.known c.as_slice.ensures)

pub add-requires-clause-b_known : goal.add-requires-clause-b_known
add-requires-clause-b_known c = below_as _ c.in_ok-addend.addend c.as_slice-2.result.now c.in_ok-addend.ensures.ok.known c.as_slice-2.ensures

pub returns-clause-grows : goal.returns-clause-grows
returns-clause-grows c = grows_more (3 * (length c.args.a.now * length c.args.a.now) + 15 * length c.args.a.now + 2) (grows_more (3 * (length c.args.a.now * length c.args.a.now) + 13 * length c.args.a.now + 2) (grows_more (3 * (length c.args.a.now * length c.args.a.now) + 12 * length c.args.a.now + 2) (grows_more (3 * (length c.args.a.now * length c.args.a.now) + 12 * length c.args.a.now + 1) (grows_more (3 * (length c.args.a.now * length c.args.a.now) + 12 * length c.args.a.now) (grows_more (3 * (length c.args.a.now * length c.args.a.now) + 11 * length c.args.a.now) c.divide_sizes.ensures.grows c.negate_if.ensures.grows (omega (arith, (ap length c.as_slice-rest.ensures ∙ c.in_ok-division.ensures.remainder.count)))) c.nonzero.ensures.grows (omega (arith, (ap length c.as_slice-rest.ensures ∙ c.in_ok-division.ensures.remainder.count)))) c.xor_of.ensures.grows (omega arith)) c.and_of.ensures.grows (omega arith)) c.each.ensures.grows (omega (arith, c.requires.same))) c.add.ensures.grows (omega (arith, (ap length c.as_slice.ensures ∙ c.in_ok-signed.ensures.ok.count ∙ (ap length c.as_slice-rest.ensures ∙ c.in_ok-division.ensures.remainder.count))))

pub returns-clause-ok : goal.returns-clause-ok
returns-clause-ok c =
    IfOk-weaker c.add.result _ _
    (λ r w. modulo_is c.args.a.now c.args.b.now c.as_slice-rest.result.now c.as_slice.result.now c.as_slice-2.result.now r c.in_ok-some.some c.in_ok-apart.apart c.in_ok-flag.flag c.opposite.result (length c.args.a.now) _
    refl (sym c.requires.same) c.requires.some
    c.negate_if.ensures.grows (grows_more ((length c.as_slice-rest.result.now) + 2) (grows_more ((length c.as_slice-rest.result.now) + 1) c.nonzero.ensures.grows c.xor_of.ensures.grows (omega arith)) c.and_of.ensures.grows (omega arith)) c.each.ensures.grows c.add.ensures.grows
    (word_is _ _ _ c.as_slice-rest.result.now _ c.in_ok-division.ensures.remainder c.as_slice-rest.ensures)
    (word_is _ _ c.in_ok-signed.signed c.as_slice.result.now _ (negated_on _ (length c.as_slice-rest.result.now) (length c.args.a.now) c.in_ok-signed.signed _ _ (λ s. number_under s c.as_slice-rest.result.now) (λ s. number_under s c.as_slice-rest.result.now) (ap length c.as_slice-rest.ensures ∙ c.in_ok-division.ensures.remainder.count) (λ s h. refl) (λ s h. refl) c.in_ok-signed.ensures.ok) c.as_slice.ensures)
    c.in_ok-flag.ensures.ok
    (λ s h. c.in_ok-some.ensures.ok.is s (satisfies_old c.xor_of.ensures.grows s (satisfies_old c.and_of.ensures.grows s h)))
    (λ s h. c.in_ok-apart.ensures.ok.is s (satisfies_old c.and_of.ensures.grows s h))
    (bits_as _ _ c.in_ok-addend.addend c.as_slice-2.result.now _ c.in_ok-addend.ensures.ok c.as_slice-2.ensures)
    (λ s h. is_false c.args.truth c.opposite.result c.opposite.result (grows_more (3 * (length c.args.a.now * length c.args.a.now) + 15 * length c.args.a.now + 2) (grows_more (3 * (length c.args.a.now * length c.args.a.now) + 13 * length c.args.a.now + 2) (grows_more (3 * (length c.args.a.now * length c.args.a.now) + 12 * length c.args.a.now + 2) (grows_more (3 * (length c.args.a.now * length c.args.a.now) + 12 * length c.args.a.now + 1) (grows_more (3 * (length c.args.a.now * length c.args.a.now) + 12 * length c.args.a.now) (grows_more (3 * (length c.args.a.now * length c.args.a.now) + 11 * length c.args.a.now) c.divide_sizes.ensures.grows c.negate_if.ensures.grows (omega (arith, (ap length c.as_slice-rest.ensures ∙ c.in_ok-division.ensures.remainder.count)))) c.nonzero.ensures.grows (omega (arith, (ap length c.as_slice-rest.ensures ∙ c.in_ok-division.ensures.remainder.count)))) c.xor_of.ensures.grows (omega arith)) c.and_of.ensures.grows (omega arith)) c.each.ensures.grows (omega (arith, c.requires.same))) c.add.ensures.grows (omega (arith, (ap length c.as_slice.ensures ∙ c.in_ok-signed.ensures.ok.count ∙ (ap length c.as_slice-rest.ensures ∙ c.in_ok-division.ensures.remainder.count))))) c.requires.truth c.opposite.ensures refl s h)
    (subst (λ (k : ℕ). IsWord c.add.new.circuit.content k r (λ s. wrap k (number_under s c.as_slice.result.now + number_under s c.as_slice-2.result.now + bit (value_under s c.opposite.result)))) (ap length c.as_slice.ensures ∙ c.in_ok-signed.ensures.ok.count ∙ (ap length c.as_slice-rest.ensures ∙ c.in_ok-division.ensures.remainder.count)) w))
    c.add.ensures.ok
