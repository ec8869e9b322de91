use Rattle.std.proofs.Common.{◌≡◌, subst, map}
use Rattle.std.specs.Prelude.{IfOk, IfErr}
use Rattle.y_tree.specs.Values.{number}
use Rattle.y_tree.specs.Plain.{plain_value}
use Rattle.y_tree.specs.Meaning.{linear_value}
use Rattle.term_shapes.specs.declared.lists.Monomial.{Monomial}
use Rattle.model_eval.specs.Sums.{numbers, RefusesSum}
use Rattle.model_eval.specs.Models.{assignment_of}
use Rattle.model_eval.proofs.Shaping.{no_sum, sum_ok, sum_err, memory_err}
use Rattle.model_eval.proofs.shapes.value_of_shape.Goals as goal

pub other_value-requires-clause-other : goal.other_value-requires-clause-other
other_value-requires-clause-other c = no_sum c.args.shape.now c.in_default.not-Sum

pub returns-in-Sum-clause-value : goal.returns-in-Sum-clause-value
returns-in-Sum-clause-value c =
    let w = c.args.table.now in let a = assignment_of w c.args.model.now in let es = c.args.known.now.entries in let s = c.args.shape.now in
    let q = c.in-Sum.number in
    sum_ok w a es s c.in-Sum.monomials q c.sum_value.result c.in-Sum.is
    (subst (λ ms. IfOk c.sum_value.result (λ v. plain_value v ≡ number (linear_value (map (λ (m : Monomial). m.factor) ms) q (numbers es ms)))) c.as_slice.ensures c.sum_value.ensures.value)

pub returns-in-Sum-clause-refused : goal.returns-in-Sum-clause-refused
returns-in-Sum-clause-refused c =
    let es = c.args.known.now.entries in
    sum_err es c.args.shape.now c.in-Sum.monomials c.in-Sum.number c.sum_value.result c.in-Sum.is
    (subst (λ ms. IfErr c.sum_value.result (RefusesSum ms c.in-Sum.number (numbers es ms))) c.as_slice.ensures c.sum_value.ensures.wide)

pub returns-in_default-clause-refused : goal.returns-in_default-clause-refused
returns-in_default-clause-refused c = memory_err c.args.known.now.entries c.args.shape.now c.other_value.result c.other_value.ensures.cause
