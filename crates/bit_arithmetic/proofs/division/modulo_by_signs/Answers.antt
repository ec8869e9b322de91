use Rattle.std.proofs.Common.{ℕ, ◌∙◌, ◌+◌, sym, ap}
use Rattle.y_tree.specs.BitVectors.{wrap, negate_if}
use Rattle.bit_arithmetic.proofs.Cases.{modulo_same, modulo_zero, modulo_some}
use Rattle.bit_arithmetic.proofs.division.modulo_by_signs.Goals as goal

pub returns-then-not-apart-clause-bits : goal.returns-then-not-apart-clause-bits
returns-then-not-apart-clause-bits c =
    let u = c.args.size in
    let b = c.args.divisor in
    c.negate_if-signed.ensures.bits
    ∙ ap (λ (n : ℕ). negate_if c.args.left n u.bits) c.requires
    ∙ modulo_same b.width b.bits u.bits c.args.left c.args.right (sym c.differ-apart.ensures ∙ c.if-not-apart.true)

pub returns-then-size-eq0-clause-bits : goal.returns-then-size-eq0-clause-bits
returns-then-size-eq0-clause-bits c =
    modulo_zero c.args.divisor.width c.args.divisor.bits c.args.size.bits c.args.left c.args.right (sym c.differ-apart.ensures ∙ c.if-not-apart.false) c.if-size-eq0.true

pub returns-clause-bits : goal.returns-clause-bits
returns-clause-bits c =
    let u = c.args.size in
    let b = c.args.divisor in
    c.add.ensures.bits
    ∙ ap (λ (n : ℕ). wrap n (c.negate_if-signed.result.bits + b.bits)) (c.negate_if-signed.ensures.width ∙ c.requires)
    ∙ ap (λ (x : ℕ). wrap b.width (x + b.bits)) (c.negate_if-signed.ensures.bits ∙ ap (λ (n : ℕ). negate_if c.args.left n u.bits) c.requires)
    ∙ modulo_some b.width b.bits u.bits c.args.left c.args.right (sym c.differ-apart.ensures ∙ c.if-not-apart.false) c.if-size-eq0.false
