use Rattle.std.proofs.Common.{◌+◌, ◌*◌, ◌-◌, length, ap, ◌∙◌, refl, sym, arith}
use Rattle.std.proofs.lemmas.Result.{IfOk-weaker}
use Rattle.y_tree.specs.BitVectors.{divide, remainder, magnitude}
use Rattle.bit_blast.specs.Bits.{number_under}
use Rattle.clause_gates.proofs.Growth.{grows_more, truth_on}
use Rattle.bit_blast.proofs.Lists.{below_as, below_on, below_at, below_at_on}
use Rattle.bit_blast.proofs.Signs.{word_on, word_value, magnitude_is, sizes_room}
use Rattle.bit_blast.proofs.signed.divide_sizes.Goals as goal

pub negate_if-requires-clause-flag_known : goal.negate_if-requires-clause-flag_known
negate_if-requires-clause-flag_known c = below_at _ c.args.a.now (length c.args.a.now - 1) _ c.requires.a_known (omega arith)

pub negate_if-requires-2-clause-truth : goal.negate_if-requires-2-clause-truth
negate_if-requires-2-clause-truth c = truth_on c.args.truth c.negate_if.ensures.grows c.requires.truth

pub negate_if-requires-2-clause-flag_known : goal.negate_if-requires-2-clause-flag_known
negate_if-requires-2-clause-flag_known c = below_at_on c.args.b.now (length c.args.a.now - 1) _ c.negate_if.ensures.grows c.requires.b_known (omega arith)

pub returns-in_err-y-clause-grows : goal.returns-in_err-y-clause-grows
returns-in_err-y-clause-grows c = grows_more (3 * (length c.args.a.now * length c.args.a.now) + 8 * length c.args.a.now) c.negate_if.ensures.grows c.negate_if-2.ensures.grows (omega (arith, c.requires.same))

pub divide-requires-clause-truth : goal.divide-requires-clause-truth
divide-requires-clause-truth c = truth_on c.args.truth (grows_more (6 * length c.args.a.now) c.negate_if.ensures.grows c.negate_if-2.ensures.grows (omega (arith, c.requires.same))) c.requires.truth

pub divide-requires-clause-a_known : goal.divide-requires-clause-a_known
divide-requires-clause-a_known c = below_on _ c.negate_if-2.ensures.grows (below_as _ c.in_ok-x.x c.as_slice.result.now c.in_ok-x.ensures.ok.known c.as_slice.ensures)

pub divide-requires-clause-b_known : goal.divide-requires-clause-b_known
divide-requires-clause-b_known c = below_as _ c.in_ok-y.y c.as_slice-2.result.now c.in_ok-y.ensures.ok.known c.as_slice-2.ensures

pub returns-clause-grows : goal.returns-clause-grows
returns-clause-grows c = grows_more (3 * (length c.args.a.now * length c.args.a.now) + 8 * length c.args.a.now) (grows_more (6 * length c.args.a.now) c.negate_if.ensures.grows c.negate_if-2.ensures.grows (omega (arith, c.requires.same))) c.divide.ensures.grows (omega (arith, sizes_room (length c.args.a.now) (length c.as_slice.result.now) (ap length c.as_slice.ensures ∙ c.in_ok-x.ensures.ok.count)))

pub returns-clause-quotient : goal.returns-clause-quotient
returns-clause-quotient c =
    IfOk-weaker c.divide.result _ _
    (λ r w. word_on c.divide.new.circuit.content (length c.as_slice.result.now) (length c.args.a.now) r.quotient divide (λ s. number_under s c.as_slice.result.now) (λ s. number_under s c.as_slice-2.result.now) (λ s. magnitude (length c.args.a.now) (number_under s c.args.a.now)) (λ s. magnitude (length c.args.a.now) (number_under s c.args.b.now)) (ap length c.as_slice.ensures ∙ c.in_ok-x.ensures.ok.count)
    (λ s h. word_value _ _ c.as_slice.result.now _ c.in_ok-x.ensures.ok (grows_more (3 * (length c.args.a.now * length c.args.a.now) + 8 * length c.args.a.now) c.negate_if-2.ensures.grows c.divide.ensures.grows (omega (arith, sizes_room (length c.args.a.now) (length c.as_slice.result.now) (ap length c.as_slice.ensures ∙ c.in_ok-x.ensures.ok.count), c.requires.same))) c.as_slice.ensures s h ∙ magnitude_is s c.args.a.now (length c.args.a.now) _ refl c.requires.some)
    (λ s h. word_value _ _ c.as_slice-2.result.now _ c.in_ok-y.ensures.ok c.divide.ensures.grows c.as_slice-2.ensures s h ∙ magnitude_is s c.args.b.now (length c.args.a.now) _ (sym c.requires.same) c.requires.some) w)
    c.divide.ensures.quotient

pub returns-clause-remainder : goal.returns-clause-remainder
returns-clause-remainder c =
    IfOk-weaker c.divide.result _ _
    (λ r w. word_on c.divide.new.circuit.content (length c.as_slice.result.now) (length c.args.a.now) r.remainder (λ k x y. remainder x y) (λ s. number_under s c.as_slice.result.now) (λ s. number_under s c.as_slice-2.result.now) (λ s. magnitude (length c.args.a.now) (number_under s c.args.a.now)) (λ s. magnitude (length c.args.a.now) (number_under s c.args.b.now)) (ap length c.as_slice.ensures ∙ c.in_ok-x.ensures.ok.count)
    (λ s h. word_value _ _ c.as_slice.result.now _ c.in_ok-x.ensures.ok (grows_more (3 * (length c.args.a.now * length c.args.a.now) + 8 * length c.args.a.now) c.negate_if-2.ensures.grows c.divide.ensures.grows (omega (arith, sizes_room (length c.args.a.now) (length c.as_slice.result.now) (ap length c.as_slice.ensures ∙ c.in_ok-x.ensures.ok.count), c.requires.same))) c.as_slice.ensures s h ∙ magnitude_is s c.args.a.now (length c.args.a.now) _ refl c.requires.some)
    (λ s h. word_value _ _ c.as_slice-2.result.now _ c.in_ok-y.ensures.ok c.divide.ensures.grows c.as_slice-2.ensures s h ∙ magnitude_is s c.args.b.now (length c.args.a.now) _ (sym c.requires.same) c.requires.some) w)
    c.divide.ensures.remainder
