use Rattle.std.proofs.Common.{◌≡◌, ◌∙◌, true, sym, ap, subst}
use Rattle.std.proofs.lemmas.Result.{err_from_is_err_and}
use Rattle.y_tree.specs.Sorts.{function, is_sort}
use Rattle.value_texts.specs.Reading.{IsOfWiderForm, Refuses}
use Rattle.y_tree.specs.Plain.{plain_sort, plain_sorts, plain_function}
use Rattle.y_tree.proofs.Shapes.{plain_sort_fun, plain_fun}
use Rattle.value_texts.proofs.KeyTexts.{some_arguments}
use Rattle.value_texts.proofs.FunctionTexts.{read_as}
use Rattle.value_texts.proofs.read.read_value.Goals as goal

pub read_function-requires-clause-some : goal.read_function-requires-clause-some
read_function-requires-clause-some c =
    let sort_is : plain_sort c.args.of.now ≡ function (plain_sorts c.as_slice.result.now) (plain_sort c.get.result.now) =
    ap plain_sort c.in-Fun.is ∙ plain_sort_fun c.in-Fun.domain c.in-Fun.range ∙ (λ i. function (plain_sorts (sym c.as_slice.ensures i)) (plain_sort (sym c.get.ensures i))) in
    some_arguments c.as_slice.result.now (plain_sort c.get.result.now) (subst (λ s. is_sort s ≡ true) sort_is c.requires)

pub returns-in_err-f-in-Fun-clause-value : goal.returns-in_err-f-in-Fun-clause-value
returns-in_err-f-in-Fun-clause-value c =
    let sort_is : plain_sort c.args.of.now ≡ function (plain_sorts c.as_slice.result.now) (plain_sort c.get.result.now) =
    ap plain_sort c.in-Fun.is ∙ plain_sort_fun c.in-Fun.domain c.in-Fun.range ∙ (λ i. function (plain_sorts (sym c.as_slice.ensures i)) (plain_sort (sym c.get.ensures i))) in
    let p = err_from_is_err_and c.from_residual.result c.from_residual.ensures.1 in
    rw (p.1, p.2) (subst (λ s. Refuses s c.args.text.now c.in_err-f-in-Fun.field-0.0) (sym sort_is) c.in_err-f-in-Fun.ensures.value)

pub returns-in_ok-f-in-Fun-clause-value : goal.returns-in_ok-f-in-Fun-clause-value
returns-in_ok-f-in-Fun-clause-value c =
    let sort_is : plain_sort c.args.of.now ≡ function (plain_sorts c.as_slice.result.now) (plain_sort c.get.result.now) =
    ap plain_sort c.in-Fun.is ∙ plain_sort_fun c.in-Fun.domain c.in-Fun.range ∙ (λ i. function (plain_sorts (sym c.as_slice.ensures i)) (plain_sort (sym c.get.ensures i))) in
    read_as (plain_sort c.args.of.now) (function (plain_sorts c.as_slice.result.now) (plain_sort c.get.result.now)) (plain_function c.in_ok-f-in-Fun.f) _ c.args.text.now sort_is (plain_fun c.in_ok-f-in-Fun.f) c.in_ok-f-in-Fun.ensures.value

pub returns-in_ok-f-in-Fun-clause-within : goal.returns-in_ok-f-in-Fun-clause-within
returns-in_ok-f-in-Fun-clause-within c =
    let sort_is : plain_sort c.args.of.now ≡ function (plain_sorts c.as_slice.result.now) (plain_sort c.get.result.now) =
    ap plain_sort c.in-Fun.is ∙ plain_sort_fun c.in-Fun.domain c.in-Fun.range ∙ (λ i. function (plain_sorts (sym c.as_slice.ensures i)) (plain_sort (sym c.get.ensures i))) in
    subst (λ s. IsOfWiderForm s true c.args.text.now → ⊥) (sym sort_is) c.in_ok-f-in-Fun.ensures.within
