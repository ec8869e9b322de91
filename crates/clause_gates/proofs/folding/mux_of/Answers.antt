use Rattle.std.proofs.Common.{◌&&◌, ◌||◌, cond, refl}
use Rattle.clause_gates.specs.Bits.{value_under}
use Rattle.clause_gates.proofs.Switches.{ok_as, is_true, is_false, is_not, mux_second_true, mux_second_false, mux_third_true, mux_third_false}
use Rattle.clause_gates.proofs.folding.mux_of.Goals as goal

pub returns-then-same-3-clause-ok : goal.returns-then-same-3-clause-ok
returns-then-same-3-clause-ok c = ok_as c.or_of.result c.or_of.new.circuit.content (λ s. (value_under s c.args.c) || (value_under s c.args.b)) (λ s. cond (value_under s c.args.c) (value_under s c.args.a) (value_under s c.args.b)) c.or_of.ensures.ok (λ s h. mux_second_true (value_under s c.args.c) (value_under s c.args.a) (value_under s c.args.b) (is_true c.args.truth c.args.a c.or_of.ensures.grows c.requires.truth (c.if-same-3.ensures.0 refl) s h))

pub returns-then-same-4-clause-ok : goal.returns-then-same-4-clause-ok
returns-then-same-4-clause-ok c = ok_as c.and_of.result c.and_of.new.circuit.content (λ s. (value_under s c.opposite-not_c.result) && (value_under s c.args.b)) (λ s. cond (value_under s c.args.c) (value_under s c.args.a) (value_under s c.args.b)) c.and_of.ensures.ok (λ s h. mux_second_false (value_under s c.args.c) (value_under s c.args.a) (value_under s c.args.b) (value_under s c.opposite-not_c.result) (is_false c.args.truth c.opposite-falsehood.result c.args.a c.and_of.ensures.grows c.requires.truth c.opposite-falsehood.ensures (c.if-same-4.ensures.0 refl) s h) (is_not c.args.c c.opposite-not_c.result c.opposite-not_c.ensures s))

pub returns-then-same-5-clause-ok : goal.returns-then-same-5-clause-ok
returns-then-same-5-clause-ok c = ok_as c.or_of-then-same-5.result c.or_of-then-same-5.new.circuit.content (λ s. (value_under s c.opposite-not_c.result) || (value_under s c.args.a)) (λ s. cond (value_under s c.args.c) (value_under s c.args.a) (value_under s c.args.b)) c.or_of-then-same-5.ensures.ok (λ s h. mux_third_true (value_under s c.args.c) (value_under s c.args.a) (value_under s c.args.b) (value_under s c.opposite-not_c.result) (is_true c.args.truth c.args.b c.or_of-then-same-5.ensures.grows c.requires.truth (c.if-same-5.ensures.0 refl) s h) (is_not c.args.c c.opposite-not_c.result c.opposite-not_c.ensures s))

pub returns-then-same-6-clause-ok : goal.returns-then-same-6-clause-ok
returns-then-same-6-clause-ok c = ok_as c.and_of-then-same-6.result c.and_of-then-same-6.new.circuit.content (λ s. (value_under s c.args.c) && (value_under s c.args.a)) (λ s. cond (value_under s c.args.c) (value_under s c.args.a) (value_under s c.args.b)) c.and_of-then-same-6.ensures.ok (λ s h. mux_third_false (value_under s c.args.c) (value_under s c.args.a) (value_under s c.args.b) (is_false c.args.truth c.opposite-falsehood.result c.args.b c.and_of-then-same-6.ensures.grows c.requires.truth c.opposite-falsehood.ensures (c.if-same-6.ensures.0 refl) s h))
