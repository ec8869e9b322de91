use Rattle.std.proofs.Common.{◌∙◌, sym}
use Rattle.std.proofs.lemmas.Bool.{cond-true, cond-false}
use Rattle.y_tree.specs.BitVectors.{negate}
use Rattle.bit_arithmetic.proofs.modular.negate_if.Goals as goal

pub returns-then-flag-clause-bits : goal.returns-then-flag-clause-bits
returns-then-flag-clause-bits c =
    let w = c.args.word in
    c.negate.ensures.bits ∙ sym (cond-true c.args.flag (negate w.width w.bits) w.bits c.if-flag.true)

pub returns-else-flag-clause-bits : goal.returns-else-flag-clause-bits
returns-else-flag-clause-bits c =
    let w = c.args.word in
    sym (cond-false c.args.flag (negate w.width w.bits) w.bits c.if-flag.false)
