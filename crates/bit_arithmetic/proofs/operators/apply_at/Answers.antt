use Rattle.std.proofs.Common.{◌∙◌, ◌+◌, ◌-◌, sym, ap, subst}
use Rattle.y_tree.specs.declared.BvAtOp.{BvAtOp}
use Rattle.y_tree.specs.BitVectors.{shift_left, shift_right, extract, sign_extend}
use Rattle.y_tree.specs.Meaning.{on_bits_at}
use Rattle.bit_arithmetic.specs.Plain.{pair}
use Rattle.bit_arithmetic.proofs.Rows.{TakesAt, takes_part, takes_signs, takes_zeros, one_value}
use Rattle.bit_arithmetic.proofs.operators.apply_at.Goals as goal

pub extract-requires-clause-order : goal.extract-requires-clause-order
extract-requires-clause-order c = (takes_part c.args.i c.args.j c.args.word (subst (λ (o : BvAtOp). TakesAt o c.args.i c.args.j c.args.word) c.in-Extract.is c.requires)).0

pub extract-requires-clause-within : goal.extract-requires-clause-within
extract-requires-clause-within c = (takes_part c.args.i c.args.j c.args.word (subst (λ (o : BvAtOp). TakesAt o c.args.i c.args.j c.args.word) c.in-Extract.is c.requires)).1

pub sign_extend-requires : goal.sign_extend-requires
sign_extend-requires c = takes_signs c.args.i c.args.j c.args.word (subst (λ (o : BvAtOp). TakesAt o c.args.i c.args.j c.args.word) c.in-SignExtend.is c.requires)

pub zero_extend-requires : goal.zero_extend-requires
zero_extend-requires c = takes_zeros c.args.i c.args.j c.args.word (subst (λ (o : BvAtOp). TakesAt o c.args.i c.args.j c.args.word) c.in-ZeroExtend.is c.requires)

pub returns-in-ShiftLeft0 : goal.returns-in-ShiftLeft0
returns-in-ShiftLeft0 c =
    let w = c.args.word in
    one_value c.shift_left.result w.width (shift_left w.width w.bits c.args.i) c.shift_left.ensures.width c.shift_left.ensures.bits ∙ sym (ap (λ (o : BvAtOp). on_bits_at o c.args.i c.args.j (pair w)) c.in-ShiftLeft0.is)

pub returns-in-ShiftRight0 : goal.returns-in-ShiftRight0
returns-in-ShiftRight0 c =
    let w = c.args.word in
    one_value c.shift_right.result w.width (shift_right w.width w.bits c.args.i) c.shift_right.ensures.width c.shift_right.ensures.bits ∙ sym (ap (λ (o : BvAtOp). on_bits_at o c.args.i c.args.j (pair w)) c.in-ShiftRight0.is)

pub returns-in-Extract : goal.returns-in-Extract
returns-in-Extract c =
    let w = c.args.word in
    one_value c.extract.result (c.args.i - c.args.j + 1) (extract c.args.i c.args.j w.bits) c.extract.ensures.width c.extract.ensures.bits ∙ sym (ap (λ (o : BvAtOp). on_bits_at o c.args.i c.args.j (pair w)) c.in-Extract.is)

pub returns-in-SignExtend : goal.returns-in-SignExtend
returns-in-SignExtend c =
    let w = c.args.word in
    one_value c.sign_extend.result (w.width + c.args.i) (sign_extend w.width c.args.i w.bits) c.sign_extend.ensures.width c.sign_extend.ensures.bits ∙ sym (ap (λ (o : BvAtOp). on_bits_at o c.args.i c.args.j (pair w)) c.in-SignExtend.is)

pub returns-in-ZeroExtend : goal.returns-in-ZeroExtend
returns-in-ZeroExtend c =
    let w = c.args.word in
    one_value c.zero_extend.result (w.width + c.args.i) w.bits c.zero_extend.ensures.width c.zero_extend.ensures.bits ∙ sym (ap (λ (o : BvAtOp). on_bits_at o c.args.i c.args.j (pair w)) c.in-ZeroExtend.is)
