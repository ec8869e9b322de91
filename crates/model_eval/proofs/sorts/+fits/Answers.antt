use Rattle.std.proofs.Common.{arith}
use Rattle.model_eval.proofs.Fitting.{fits_stop, fits_skip, function_stops, function_goes_on}
use Rattle.model_eval.proofs.sorts.+fits.Goals as goal

pub has_sort-returns-then-have_sort : goal.has_sort-returns-then-have_sort
has_sort-returns-then-have_sort t c =
    function_goes_on c.args.value.now c.args.of.now c.in-Fun-Fun.f c.in-Fun-Fun.domain c.in-Fun-Fun.codomain c.in-Fun-Fun.is-0 c.in-Fun-Fun.is-1
    c.entries.result.now c.as_slice.result.now c.get.result.now c.have_sort.result c.entries.ensures c.as_slice.ensures c.get.ensures c.have_sort.ensures
    c.default_value.result.now c.get-then-have_sort.result.now c.has_sort.result c.default_value.ensures c.get-then-have_sort.ensures c.has_sort.ensures c.if-have_sort.true

pub has_sort-returns-else-have_sort : goal.has_sort-returns-else-have_sort
has_sort-returns-else-have_sort t c =
    function_stops c.args.value.now c.args.of.now c.in-Fun-Fun.f c.in-Fun-Fun.domain c.in-Fun-Fun.codomain c.in-Fun-Fun.is-0 c.in-Fun-Fun.is-1
    c.entries.result.now c.as_slice.result.now c.get.result.now c.have_sort.result c.entries.ensures c.as_slice.ensures c.get.ensures c.have_sort.ensures c.if-have_sort.false

pub have_sorts-returns-then-not-has_sort : goal.have_sorts-returns-then-not-has_sort
have_sorts-returns-then-not-has_sort t c =
    fits_stop c.args.values.now c.args.sorts.now c.loop-i.i _ _ _ _ c.has_sort.result c.index-values-i.is c.index-sorts-i.is c.has_sort.ensures
    (omega (arith, c.loop-i-test.true)) (omega (arith, c.loop-i-test.true, c.loop-i.invariant.0)) c.loop-i.invariant.1 c.if-not-has_sort.true

pub have_sorts-loop-i-preserved : goal.have_sorts-loop-i-preserved
have_sorts-loop-i-preserved t c = (
  c.loop-i.invariant.0,
  fits_skip c.args.values.now c.args.sorts.now c.loop-i.i _ _ _ _ c.has_sort.result c.index-values-i.is c.index-sorts-i.is c.has_sort.ensures
      (omega (arith, c.loop-i-test.true)) (omega (arith, c.loop-i-test.true, c.loop-i.invariant.0)) c.loop-i.invariant.1 c.if-not-has_sort.false,
)
