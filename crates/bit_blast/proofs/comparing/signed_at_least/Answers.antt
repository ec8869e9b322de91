use Rattle.std.proofs.Common.{ℕ, false, ◌+◌, ◌^◌, ◌-◌, length, subst, sym, ap, ap₂, ◌∙◌, arith}
use Rattle.std.specs.Prelude.{nat_le}
use Rattle.clause_logic.specs.declared.Lit.{Lit}
use Rattle.y_tree.specs.BitVectors.{signed_at_least, wrap}
use Rattle.bit_blast.specs.Bits.{number_under}
use Rattle.clause_gates.specs.Circuits.{Grows}
use Rattle.clause_gates.proofs.Switches.{ok_as}
use Rattle.bit_blast.proofs.Orders.{flipped_is, flipped_known, flipped_count}
use Rattle.bit_blast.proofs.comparing.signed_at_least.Goals as goal

-- any literal
zero_lit : Lit
zero_lit = record { var = 0; positive = false }

pub at_least-requires-clause-a_known : goal.at_least-requires-clause-a_known
at_least-requires-clause-a_known c = flipped_known _ c.args.a.now c.as_slice.result.now zero_lit c.requires.some c.requires.a_known (c.as_slice.ensures ∙ c.in_ok-x.ensures zero_lit)

pub at_least-requires-clause-b_known : goal.at_least-requires-clause-b_known
at_least-requires-clause-b_known c = flipped_known _ c.args.b.now c.as_slice-2.result.now zero_lit (omega arith) c.requires.b_known (c.as_slice-2.ensures ∙ c.in_ok-y.ensures zero_lit)

pub at_least-requires-clause-same : goal.at_least-requires-clause-same
at_least-requires-clause-same c =
    flipped_count c.args.a.now c.as_slice.result.now zero_lit c.requires.some (c.as_slice.ensures ∙ c.in_ok-x.ensures zero_lit) ∙ c.requires.same
    ∙ sym (flipped_count c.args.b.now c.as_slice-2.result.now zero_lit (omega arith) (c.as_slice-2.ensures ∙ c.in_ok-y.ensures zero_lit))

pub returns-clause-grows : goal.returns-clause-grows
returns-clause-grows c =
    subst (λ (n : ℕ). Grows c.args.circuit.now c.at_least.new.circuit n) (flipped_count c.args.a.now c.as_slice.result.now zero_lit c.requires.some (c.as_slice.ensures ∙ c.in_ok-x.ensures zero_lit)) c.at_least.ensures.grows

pub returns-clause-ok : goal.returns-clause-ok
returns-clause-ok c =
    ok_as c.at_least.result c.at_least.new.circuit.content (λ s. nat_le (number_under s c.as_slice-2.result.now) (number_under s c.as_slice.result.now)) (λ s. signed_at_least (length c.args.a.now) (number_under s c.args.a.now) (number_under s c.args.b.now)) c.at_least.ensures.ok
    (λ s h. ap₂ nat_le
    (flipped_is s c.args.b.now c.as_slice-2.result.now (length c.args.b.now - 1) zero_lit (omega arith) (c.as_slice-2.ensures ∙ c.in_ok-y.ensures zero_lit) ∙ ap (λ n. wrap n (number_under s c.args.b.now + 2 ^ (n - 1))) (sym c.requires.same))
    (flipped_is s c.args.a.now c.as_slice.result.now (length c.args.a.now - 1) zero_lit (omega arith) (c.as_slice.ensures ∙ c.in_ok-x.ensures zero_lit)))
