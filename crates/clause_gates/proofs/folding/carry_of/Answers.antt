use Rattle.std.proofs.Common.{◌&&◌, ◌||◌, refl}
use Rattle.clause_gates.specs.Bits.{value_under, majority}
use Rattle.clause_gates.proofs.Switches.{ok_as, is_true, is_false, carry_third_true, carry_third_false, carry_second_true, carry_second_false, carry_first_true, carry_first_false}
use Rattle.clause_gates.proofs.folding.carry_of.Goals as goal

pub returns-then-same-clause-ok : goal.returns-then-same-clause-ok
returns-then-same-clause-ok c = ok_as c.or_of.result c.or_of.new.circuit.content (λ s. (value_under s c.args.a) || (value_under s c.args.b)) (λ s. majority (value_under s c.args.a) (value_under s c.args.b) (value_under s c.args.c)) c.or_of.ensures.ok (λ s h. carry_third_true (value_under s c.args.a) (value_under s c.args.b) (value_under s c.args.c) (is_true c.args.truth c.args.c c.or_of.ensures.grows c.requires.truth (c.if-same.ensures.0 refl) s h))

pub returns-then-same-2-clause-ok : goal.returns-then-same-2-clause-ok
returns-then-same-2-clause-ok c = ok_as c.and_of.result c.and_of.new.circuit.content (λ s. (value_under s c.args.a) && (value_under s c.args.b)) (λ s. majority (value_under s c.args.a) (value_under s c.args.b) (value_under s c.args.c)) c.and_of.ensures.ok (λ s h. carry_third_false (value_under s c.args.a) (value_under s c.args.b) (value_under s c.args.c) (is_false c.args.truth c.opposite-falsehood.result c.args.c c.and_of.ensures.grows c.requires.truth c.opposite-falsehood.ensures (c.if-same-2.ensures.0 refl) s h))

pub returns-then-same-3-clause-ok : goal.returns-then-same-3-clause-ok
returns-then-same-3-clause-ok c = ok_as c.or_of-then-same-3.result c.or_of-then-same-3.new.circuit.content (λ s. (value_under s c.args.a) || (value_under s c.args.c)) (λ s. majority (value_under s c.args.a) (value_under s c.args.b) (value_under s c.args.c)) c.or_of-then-same-3.ensures.ok (λ s h. carry_second_true (value_under s c.args.a) (value_under s c.args.b) (value_under s c.args.c) (is_true c.args.truth c.args.b c.or_of-then-same-3.ensures.grows c.requires.truth (c.if-same-3.ensures.0 refl) s h))

pub returns-then-same-4-clause-ok : goal.returns-then-same-4-clause-ok
returns-then-same-4-clause-ok c = ok_as c.and_of-then-same-4.result c.and_of-then-same-4.new.circuit.content (λ s. (value_under s c.args.a) && (value_under s c.args.c)) (λ s. majority (value_under s c.args.a) (value_under s c.args.b) (value_under s c.args.c)) c.and_of-then-same-4.ensures.ok (λ s h. carry_second_false (value_under s c.args.a) (value_under s c.args.b) (value_under s c.args.c) (is_false c.args.truth c.opposite-falsehood.result c.args.b c.and_of-then-same-4.ensures.grows c.requires.truth c.opposite-falsehood.ensures (c.if-same-4.ensures.0 refl) s h))

pub returns-then-same-5-clause-ok : goal.returns-then-same-5-clause-ok
returns-then-same-5-clause-ok c = ok_as c.or_of-then-same-5.result c.or_of-then-same-5.new.circuit.content (λ s. (value_under s c.args.b) || (value_under s c.args.c)) (λ s. majority (value_under s c.args.a) (value_under s c.args.b) (value_under s c.args.c)) c.or_of-then-same-5.ensures.ok (λ s h. carry_first_true (value_under s c.args.a) (value_under s c.args.b) (value_under s c.args.c) (is_true c.args.truth c.args.a c.or_of-then-same-5.ensures.grows c.requires.truth (c.if-same-5.ensures.0 refl) s h))

pub returns-then-same-6-clause-ok : goal.returns-then-same-6-clause-ok
returns-then-same-6-clause-ok c = ok_as c.and_of-then-same-6.result c.and_of-then-same-6.new.circuit.content (λ s. (value_under s c.args.b) && (value_under s c.args.c)) (λ s. majority (value_under s c.args.a) (value_under s c.args.b) (value_under s c.args.c)) c.and_of-then-same-6.ensures.ok (λ s h. carry_first_false (value_under s c.args.a) (value_under s c.args.b) (value_under s c.args.c) (is_false c.args.truth c.opposite-falsehood.result c.args.a c.and_of-then-same-6.ensures.grows c.requires.truth c.opposite-falsehood.ensures (c.if-same-6.ensures.0 refl) s h))
