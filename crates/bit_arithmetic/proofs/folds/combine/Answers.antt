use Rattle.std.proofs.Common.{◌∙◌, sym, ap}
use Rattle.bit_arithmetic.specs.declared.folds.Fold.{Fold}
use Rattle.bit_arithmetic.specs.Plain.{combined}
use Rattle.bit_arithmetic.proofs.folds.combine.Goals as goal

pub returns-in-Sum-clause-bits : goal.returns-in-Sum-clause-bits
returns-in-Sum-clause-bits c = c.add.ensures.bits ∙ sym (ap (λ (x : Fold). combined x c.args.left.width c.args.left.bits c.args.right.bits) c.in-Sum.is)

pub returns-in-Product-clause-bits : goal.returns-in-Product-clause-bits
returns-in-Product-clause-bits c = c.multiply.ensures.bits ∙ sym (ap (λ (x : Fold). combined x c.args.left.width c.args.left.bits c.args.right.bits) c.in-Product.is)

pub returns-in-Conjunction-clause-bits : goal.returns-in-Conjunction-clause-bits
returns-in-Conjunction-clause-bits c = c.conjoin.ensures.bits ∙ sym (ap (λ (x : Fold). combined x c.args.left.width c.args.left.bits c.args.right.bits) c.in-Conjunction.is)

pub returns-in-Disjunction-clause-bits : goal.returns-in-Disjunction-clause-bits
returns-in-Disjunction-clause-bits c = c.disjoin.ensures.bits ∙ sym (ap (λ (x : Fold). combined x c.args.left.width c.args.left.bits c.args.right.bits) c.in-Disjunction.is)

pub returns-in-Parity-clause-bits : goal.returns-in-Parity-clause-bits
returns-in-Parity-clause-bits c = c.differ_by_bits.ensures.bits ∙ sym (ap (λ (x : Fold). combined x c.args.left.width c.args.left.bits c.args.right.bits) c.in-Parity.is)
