use Rattle.std.proofs.Common.{◌+◌, length, ◌∙◌, ◌^◌, sym, refl, ap}
use Rattle.y_tree.specs.BitVectors.{wrap, subtract}
use Rattle.clause_gates.specs.Bits.{value_under}
use Rattle.bit_blast.specs.Bits.{number_under, bit}
use Rattle.clause_gates.proofs.Switches.{is_true}
use Rattle.bit_blast.proofs.Lists.{below_opposite_is}
use Rattle.bit_blast.proofs.Rows.{ok_word, under_inverted, difference_is}
use Rattle.bit_blast.proofs.adding.subtract.Goals as goal

pub add-requires-clause-b_known : goal.add-requires-clause-b_known
add-requires-clause-b_known c = below_opposite_is _ c.args.b.now c.as_slice.result.now c.requires.b_known (c.as_slice.ensures ∙ c.in_ok-not_b.ensures)

pub returns-clause-ok : goal.returns-clause-ok
returns-clause-ok c =
    ok_word c.add.result c.add.new.circuit.content (length c.args.a.now) (λ s. wrap (length c.args.a.now) (number_under s c.args.a.now + number_under s c.as_slice.result.now + bit (value_under s c.args.truth)))
    (λ s. subtract (length c.args.a.now) (number_under s c.args.a.now) (number_under s c.args.b.now)) c.add.ensures.ok
    (λ s h. ap (λ t. wrap (length c.args.a.now) (number_under s c.args.a.now + number_under s c.as_slice.result.now + bit t)) (is_true c.args.truth c.args.truth c.add.ensures.grows c.requires.truth refl s h)
    ∙ difference_is (length c.args.a.now) (number_under s c.args.a.now) (number_under s c.args.b.now) (number_under s c.as_slice.result.now)
    (under_inverted s c.args.b.now c.as_slice.result.now (c.as_slice.ensures ∙ c.in_ok-not_b.ensures) ∙ ap (λ n. 2 ^ n) (sym c.requires.same)))
