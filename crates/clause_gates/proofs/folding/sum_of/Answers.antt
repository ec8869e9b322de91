use Rattle.std.proofs.Common.{refl}
use Rattle.y_tree.specs.BitVectors.{differ}
use Rattle.clause_gates.specs.Bits.{value_under}
use Rattle.clause_gates.proofs.Switches.{ok_as, is_true, is_false, is_not, sum_third_true, sum_third_false, sum_second_true, sum_second_false, sum_first_true, sum_first_false}
use Rattle.clause_gates.proofs.folding.sum_of.Goals as goal

pub returns-then-same-clause-ok : goal.returns-then-same-clause-ok
returns-then-same-clause-ok c = ok_as c.xor_of.result c.xor_of.new.circuit.content (λ s. differ (value_under s c.args.a) (value_under s c.opposite-not_b.result)) (λ s. differ (differ (value_under s c.args.a) (value_under s c.args.b)) (value_under s c.args.c)) c.xor_of.ensures.ok (λ s h. sum_third_true (value_under s c.args.a) (value_under s c.args.b) (value_under s c.args.c) (value_under s c.opposite-not_b.result) (is_true c.args.truth c.args.c c.xor_of.ensures.grows c.requires.truth (c.if-same.ensures.0 refl) s h) (is_not c.args.b c.opposite-not_b.result c.opposite-not_b.ensures s))

pub returns-then-same-2-clause-ok : goal.returns-then-same-2-clause-ok
returns-then-same-2-clause-ok c = ok_as c.xor_of-then-same-2.result c.xor_of-then-same-2.new.circuit.content (λ s. differ (value_under s c.args.a) (value_under s c.args.b)) (λ s. differ (differ (value_under s c.args.a) (value_under s c.args.b)) (value_under s c.args.c)) c.xor_of-then-same-2.ensures.ok (λ s h. sum_third_false (value_under s c.args.a) (value_under s c.args.b) (value_under s c.args.c) (is_false c.args.truth c.opposite-falsehood.result c.args.c c.xor_of-then-same-2.ensures.grows c.requires.truth c.opposite-falsehood.ensures (c.if-same-2.ensures.0 refl) s h))

pub returns-then-same-3-clause-ok : goal.returns-then-same-3-clause-ok
returns-then-same-3-clause-ok c = ok_as c.xor_of-then-same-3.result c.xor_of-then-same-3.new.circuit.content (λ s. differ (value_under s c.args.a) (value_under s c.opposite-not_c.result)) (λ s. differ (differ (value_under s c.args.a) (value_under s c.args.b)) (value_under s c.args.c)) c.xor_of-then-same-3.ensures.ok (λ s h. sum_second_true (value_under s c.args.a) (value_under s c.args.b) (value_under s c.args.c) (value_under s c.opposite-not_c.result) (is_true c.args.truth c.args.b c.xor_of-then-same-3.ensures.grows c.requires.truth (c.if-same-3.ensures.0 refl) s h) (is_not c.args.c c.opposite-not_c.result c.opposite-not_c.ensures s))

pub returns-then-same-4-clause-ok : goal.returns-then-same-4-clause-ok
returns-then-same-4-clause-ok c = ok_as c.xor_of-then-same-4.result c.xor_of-then-same-4.new.circuit.content (λ s. differ (value_under s c.args.a) (value_under s c.args.c)) (λ s. differ (differ (value_under s c.args.a) (value_under s c.args.b)) (value_under s c.args.c)) c.xor_of-then-same-4.ensures.ok (λ s h. sum_second_false (value_under s c.args.a) (value_under s c.args.b) (value_under s c.args.c) (is_false c.args.truth c.opposite-falsehood.result c.args.b c.xor_of-then-same-4.ensures.grows c.requires.truth c.opposite-falsehood.ensures (c.if-same-4.ensures.0 refl) s h))

pub returns-then-same-5-clause-ok : goal.returns-then-same-5-clause-ok
returns-then-same-5-clause-ok c = ok_as c.xor_of-then-same-5.result c.xor_of-then-same-5.new.circuit.content (λ s. differ (value_under s c.args.b) (value_under s c.opposite-not_c.result)) (λ s. differ (differ (value_under s c.args.a) (value_under s c.args.b)) (value_under s c.args.c)) c.xor_of-then-same-5.ensures.ok (λ s h. sum_first_true (value_under s c.args.a) (value_under s c.args.b) (value_under s c.args.c) (value_under s c.opposite-not_c.result) (is_true c.args.truth c.args.a c.xor_of-then-same-5.ensures.grows c.requires.truth (c.if-same-5.ensures.0 refl) s h) (is_not c.args.c c.opposite-not_c.result c.opposite-not_c.ensures s))

pub returns-then-same-6-clause-ok : goal.returns-then-same-6-clause-ok
returns-then-same-6-clause-ok c = ok_as c.xor_of-then-same-6.result c.xor_of-then-same-6.new.circuit.content (λ s. differ (value_under s c.args.b) (value_under s c.args.c)) (λ s. differ (differ (value_under s c.args.a) (value_under s c.args.b)) (value_under s c.args.c)) c.xor_of-then-same-6.ensures.ok (λ s h. sum_first_false (value_under s c.args.a) (value_under s c.args.b) (value_under s c.args.c) (is_false c.args.truth c.opposite-falsehood.result c.args.a c.xor_of-then-same-6.ensures.grows c.requires.truth c.opposite-falsehood.ensures (c.if-same-6.ensures.0 refl) s h))
