use Rattle.std.proofs.Common.{ℕ, ◌+◌, ◌*◌, length, ◌∙◌, refl, subst, ap, arith, ◌≡◌}
use Rattle.std.specs.Prelude.{IfOk}
use Rattle.y_tree.specs.BitVectors.{wrap, negate_if}
use Rattle.clause_logic.specs.declared.Lit.{Lit}
use Rattle.clause_gates.specs.Bits.{value_under}
use Rattle.bit_blast.specs.Bits.{number_under, bit}
use Rattle.bit_blast.specs.Circuits.{IsWord}
use Rattle.clause_gates.proofs.Growth.{grows_more}
use Rattle.clause_gates.proofs.Switches.{is_false}
use Rattle.bit_blast.proofs.Lists.{below_replicate_is, below_as}
use Rattle.bit_blast.proofs.Rows.{ok_word, bits_as, negation_is}
use Rattle.bit_blast.proofs.adding.negate_if.Goals as goal

pub add-requires-clause-a_known : goal.add-requires-clause-a_known
add-requires-clause-a_known c = below_as _ c.in_ok-flipped.flipped c.as_slice.result.now c.in_ok-flipped.ensures.ok.known c.as_slice.ensures

pub add-requires-clause-b_known : goal.add-requires-clause-b_known
add-requires-clause-b_known c =
    below_replicate_is _ (length c.args.a.now) c.opposite.result c.as_slice-2.result.now (omega (arith, ap (λ (l : Lit). l.var) c.opposite.ensures, c.each.ensures.grows.vars, c.requires.truth.known)) (c.as_slice-2.ensures ∙ c.in_ok-zeros.ensures)

pub returns-clause-grows : goal.returns-clause-grows
returns-clause-grows c = grows_more (3 * length c.args.a.now) c.each.ensures.grows c.add.ensures.grows (omega (arith, ap length c.as_slice.ensures, c.in_ok-flipped.ensures.ok.count))

pub returns-clause-ok : goal.returns-clause-ok
returns-clause-ok c =
    let n : length c.as_slice.result.now ≡ length c.args.a.now = ap length c.as_slice.ensures ∙ c.in_ok-flipped.ensures.ok.count in
    subst (λ (m : ℕ). IfOk c.add.result (λ r. IsWord c.add.new.circuit.content m r (λ s. negate_if (value_under s c.args.flag) (length c.args.a.now) (number_under s c.args.a.now)))) n
    (ok_word c.add.result c.add.new.circuit.content (length c.as_slice.result.now) (λ s. wrap (length c.as_slice.result.now) (number_under s c.as_slice.result.now + number_under s c.as_slice-2.result.now + bit (value_under s c.args.flag)))
    (λ s. negate_if (value_under s c.args.flag) (length c.args.a.now) (number_under s c.args.a.now)) c.add.ensures.ok
    (negation_is c.args.flag c.args.a.now c.as_slice.result.now c.as_slice-2.result.now c.opposite.result c.add.ensures.grows
    (bits_as _ _ c.in_ok-flipped.flipped c.as_slice.result.now _ c.in_ok-flipped.ensures.ok c.as_slice.ensures) (c.as_slice-2.ensures ∙ c.in_ok-zeros.ensures)
    (λ s h. is_false c.args.truth c.opposite.result c.opposite.result (grows_more (3 * length c.args.a.now) c.each.ensures.grows c.add.ensures.grows (omega (arith, n))) c.requires.truth c.opposite.ensures refl s h)))
