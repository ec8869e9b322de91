use Rattle.std.proofs.Common.{◌∙◌, refl, ap}
use Rattle.clause_logic.specs.declared.Lit.{Lit}
use Rattle.y_tree.specs.BitVectors.{differ}
use Rattle.clause_gates.specs.Bits.{value_under}
use Rattle.clause_gates.proofs.Switches.{is_not}
use Rattle.clause_gates.proofs.Folds.{folded, parity_12, parity_12_not, parity_13, parity_13_not, parity_23, parity_23_not}
use Rattle.clause_gates.proofs.gates.parity3.Goals as goal

pub returns-then-same-clause-ok : goal.returns-then-same-clause-ok
returns-then-same-clause-ok c = folded c.args.circuit.now.content c.args.c c.args.c (λ s. differ (differ (value_under s c.args.a) (value_under s c.args.b)) (value_under s c.args.c)) refl c.requires.c_known (λ s. parity_12 (value_under s c.args.a) (value_under s c.args.b) (value_under s c.args.c) (ap (value_under s) (c.if-same.ensures.0 refl)))

pub returns-then-same-2-clause-ok : goal.returns-then-same-2-clause-ok
returns-then-same-2-clause-ok c = folded c.args.circuit.now.content c.opposite-not_c.result c.args.c (λ s. differ (differ (value_under s c.args.a) (value_under s c.args.b)) (value_under s c.args.c)) (ap (λ (l : Lit). l.var) c.opposite-not_c.ensures) c.requires.c_known (λ s. is_not c.args.c c.opposite-not_c.result c.opposite-not_c.ensures s ∙ parity_12_not (value_under s c.args.a) (value_under s c.args.b) (value_under s c.args.c) (ap (value_under s) (c.if-same-2.ensures.0 refl) ∙ is_not c.args.b c.opposite-not_b.result c.opposite-not_b.ensures s))

pub returns-then-same-3-clause-ok : goal.returns-then-same-3-clause-ok
returns-then-same-3-clause-ok c = folded c.args.circuit.now.content c.args.b c.args.b (λ s. differ (differ (value_under s c.args.a) (value_under s c.args.b)) (value_under s c.args.c)) refl c.requires.b_known (λ s. parity_13 (value_under s c.args.a) (value_under s c.args.b) (value_under s c.args.c) (ap (value_under s) (c.if-same-3.ensures.0 refl)))

pub returns-then-same-4-clause-ok : goal.returns-then-same-4-clause-ok
returns-then-same-4-clause-ok c = folded c.args.circuit.now.content c.opposite-not_b.result c.args.b (λ s. differ (differ (value_under s c.args.a) (value_under s c.args.b)) (value_under s c.args.c)) (ap (λ (l : Lit). l.var) c.opposite-not_b.ensures) c.requires.b_known (λ s. is_not c.args.b c.opposite-not_b.result c.opposite-not_b.ensures s ∙ parity_13_not (value_under s c.args.a) (value_under s c.args.b) (value_under s c.args.c) (ap (value_under s) (c.if-same-4.ensures.0 refl) ∙ is_not c.args.c c.opposite-not_c.result c.opposite-not_c.ensures s))

pub returns-then-same-5-clause-ok : goal.returns-then-same-5-clause-ok
returns-then-same-5-clause-ok c = folded c.args.circuit.now.content c.args.a c.args.a (λ s. differ (differ (value_under s c.args.a) (value_under s c.args.b)) (value_under s c.args.c)) refl c.requires.a_known (λ s. parity_23 (value_under s c.args.a) (value_under s c.args.b) (value_under s c.args.c) (ap (value_under s) (c.if-same-5.ensures.0 refl)))

pub returns-then-same-6-clause-ok : goal.returns-then-same-6-clause-ok
returns-then-same-6-clause-ok c = folded c.args.circuit.now.content c.opposite-not_a.result c.args.a (λ s. differ (differ (value_under s c.args.a) (value_under s c.args.b)) (value_under s c.args.c)) (ap (λ (l : Lit). l.var) c.opposite-not_a.ensures) c.requires.a_known (λ s. is_not c.args.a c.opposite-not_a.result c.opposite-not_a.ensures s ∙ parity_23_not (value_under s c.args.a) (value_under s c.args.b) (value_under s c.args.c) (ap (value_under s) (c.if-same-6.ensures.0 refl) ∙ is_not c.args.c c.opposite-not_c.result c.opposite-not_c.ensures s))
