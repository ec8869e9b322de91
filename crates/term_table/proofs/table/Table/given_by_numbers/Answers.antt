use Rattle.std.proofs.Common.{◌+◌, ◌∙◌, sym, ap, ⊎_elim, arith}
use Rattle.y_tree.specs.Sorts.{bit_vector}
use Rattle.y_tree.specs.Typing.{typed_at}
use Rattle.term_table.proofs.Giving.{extract_given, extension_given}
use Rattle.term_table.proofs.table.Table.given_by_numbers.Goals as goal

pub returns-in-Extract : goal.returns-in-Extract
returns-in-Extract c n k has h =
    extract_given c.args.self.now c.is_table.ensures c.args.of n has c.args.op c.args.first c.args.second (c.from.result + 1) k c.vector.result c.in-Extract.is (ap (λ z. z + 1) c.from.ensures) c.vector.ensures h

pub returns-in-SignExtend : goal.returns-in-SignExtend
returns-in-SignExtend c n k has h =
    let e = c.width_of_term.ensures (bit_vector n) has in
    extension_given c.args.self.now c.is_table.ensures c.args.of n has c.args.first (c.from-in-SignExtend.result + c.from-in-SignExtend-2.result) k c.vector-in-SignExtend.result (omega (arith, c.from-in-SignExtend.ensures, c.from-in-SignExtend-2.ensures, e)) c.vector-in-SignExtend.ensures
    (⊎_elim (λ is. sym (ap (λ z. typed_at z c.args.first c.args.second n) is) ∙ h) (λ is. sym (ap (λ z. typed_at z c.args.first c.args.second n) is) ∙ h) c.in-SignExtend.is)
