use Rattle.std.proofs.Common.{false, ◌+◌, ◌-◌, length, get_or, ap, refl, arith}
use Rattle.std.specs.Int.Bits.{bit_and, bit_or, bit_xor}
use Rattle.y_tree.specs.BitVectors.{wrap, shift_left, shift_right, shift_right_signed}
use Rattle.clause_gates.specs.Bits.{value_under}
use Rattle.bit_blast.specs.Bits.{values_under, number_under, bit}
use Rattle.bit_blast.specs.Shifts.{shift_filled}
use Rattle.bit_blast.specs.declared.shifting.Way.TheVariants as way
use Rattle.clause_gates.proofs.Switches.{is_false}
use Rattle.bit_blast.proofs.Numbers.{number_and, number_or, number_xor}
use Rattle.bit_blast.proofs.Lists.{below_at}
use Rattle.bit_blast.proofs.Rows.{ok_word}
use Rattle.bit_blast.proofs.Signs.{word_of_bits, same_lengths, no_carry, sign_of}
use Rattle.bit_blast.proofs.words.word_beside.Goals as goal

pub shift-requires-in-Ashr-clause-fill_known : goal.shift-requires-in-Ashr-clause-fill_known
shift-requires-in-Ashr-clause-fill_known c = below_at _ c.args.a.now (length c.args.a.now - 1) _ c.requires.a_known (omega arith)

pub returns-in-Add-clause-ok : goal.returns-in-Add-clause-ok
returns-in-Add-clause-ok c =
    rw c.in-Add.is
    (ok_word c.add.result c.add.new.circuit.content (length c.args.a.now) (λ s. wrap (length c.args.a.now) (number_under s c.args.a.now + number_under s c.args.b.now + bit (value_under s c.opposite-falsehood.result))) (λ s. wrap (length c.args.a.now) (number_under s c.args.a.now + number_under s c.args.b.now)) c.add.ensures.ok
    (λ s h. no_carry (length c.args.a.now) (number_under s c.args.a.now) (number_under s c.args.b.now) _ (is_false c.args.truth c.opposite-falsehood.result c.opposite-falsehood.result c.add.ensures.grows c.requires.truth c.opposite-falsehood.ensures refl s h)))

pub returns-in-And-clause-ok : goal.returns-in-And-clause-ok
returns-in-And-clause-ok c =
    rw c.in-And.is
    (word_of_bits c.each.result c.each.new.circuit.content (length c.args.a.now) _ (λ s. bit_and (number_under s c.args.a.now) (number_under s c.args.b.now)) c.each.ensures.ok (λ s. number_and (values_under s c.args.a.now) (values_under s c.args.b.now) (same_lengths s c.args.a.now c.args.b.now c.requires.same)))

pub returns-in-Or-clause-ok : goal.returns-in-Or-clause-ok
returns-in-Or-clause-ok c =
    rw c.in-Or.is
    (word_of_bits c.each-in-Or.result c.each-in-Or.new.circuit.content (length c.args.a.now) _ (λ s. bit_or (number_under s c.args.a.now) (number_under s c.args.b.now)) c.each-in-Or.ensures.ok (λ s. number_or (values_under s c.args.a.now) (values_under s c.args.b.now) (same_lengths s c.args.a.now c.args.b.now c.requires.same)))

pub returns-in-Xor-clause-ok : goal.returns-in-Xor-clause-ok
returns-in-Xor-clause-ok c =
    rw c.in-Xor.is
    (word_of_bits c.each-in-Xor.result c.each-in-Xor.new.circuit.content (length c.args.a.now) _ (λ s. bit_xor (number_under s c.args.a.now) (number_under s c.args.b.now)) c.each-in-Xor.ensures.ok (λ s. number_xor (values_under s c.args.a.now) (values_under s c.args.b.now) (same_lengths s c.args.a.now c.args.b.now c.requires.same)))

pub returns-in-Shl-clause-ok : goal.returns-in-Shl-clause-ok
returns-in-Shl-clause-ok c =
    rw c.in-Shl.is
    (ok_word c.shift.result c.shift.new.circuit.content (length c.args.a.now) (λ s. shift_filled way.Up (value_under s c.opposite-falsehood.result) (length c.args.a.now) (number_under s c.args.a.now) (number_under s c.args.b.now)) (λ s. shift_left (length c.args.a.now) (number_under s c.args.a.now) (number_under s c.args.b.now)) c.shift.ensures.ok
    (λ s h. ap (λ f. shift_filled way.Up f (length c.args.a.now) (number_under s c.args.a.now) (number_under s c.args.b.now)) (is_false c.args.truth c.opposite-falsehood.result c.opposite-falsehood.result c.shift.ensures.grows c.requires.truth c.opposite-falsehood.ensures refl s h)))

pub returns-in-Lshr-clause-ok : goal.returns-in-Lshr-clause-ok
returns-in-Lshr-clause-ok c =
    rw c.in-Lshr.is
    (ok_word c.shift-in-Lshr.result c.shift-in-Lshr.new.circuit.content (length c.args.a.now) (λ s. shift_filled way.Down (value_under s c.opposite-falsehood.result) (length c.args.a.now) (number_under s c.args.a.now) (number_under s c.args.b.now)) (λ s. shift_right (length c.args.a.now) (number_under s c.args.a.now) (number_under s c.args.b.now)) c.shift-in-Lshr.ensures.ok
    (λ s h. ap (λ f. shift_filled way.Down f (length c.args.a.now) (number_under s c.args.a.now) (number_under s c.args.b.now)) (is_false c.args.truth c.opposite-falsehood.result c.opposite-falsehood.result c.shift-in-Lshr.ensures.grows c.requires.truth c.opposite-falsehood.ensures refl s h)))

pub returns-in-Ashr-clause-ok : goal.returns-in-Ashr-clause-ok
returns-in-Ashr-clause-ok c =
    rw c.in-Ashr.is
    (ok_word c.shift-in-Ashr.result c.shift-in-Ashr.new.circuit.content (length c.args.a.now) (λ s. shift_filled way.Down (value_under s (get_or c.args.a.now (length c.args.a.now - 1) (record { var = 0; positive = false }))) (length c.args.a.now) (number_under s c.args.a.now) (number_under s c.args.b.now)) (λ s. shift_right_signed (length c.args.a.now) (number_under s c.args.a.now) (number_under s c.args.b.now)) c.shift-in-Ashr.ensures.ok
    (λ s h. ap (λ f. shift_filled way.Down f (length c.args.a.now) (number_under s c.args.a.now) (number_under s c.args.b.now)) (sign_of s c.args.a.now (length c.args.a.now) _ refl c.requires.some)))
