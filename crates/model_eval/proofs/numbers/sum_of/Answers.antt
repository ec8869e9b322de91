use Rattle.std.proofs.Common.{inl, inr, arith}
use Rattle.std.proofs.lemmas.Result.{err_from_is_err_and}
use Rattle.model_eval.proofs.Adding.{sum_more, wide_product, wide_sum, answered, refused_by, last_ok, last_err}
use Rattle.model_eval.proofs.numbers.sum_of.Goals as goal

pub returns-in_err-part-clause-wide : goal.returns-in_err-part-clause-wide
returns-in_err-part-clause-wide c =
    let p = err_from_is_err_and c.from_residual.result c.from_residual.ensures.1 in
    let r = refused_by _ _ _ c.in_err-part.field-0.0 c.in_err-part.ensures in
    rw (p.1, p.2) (inl (wide_product c.args.known.now.entries c.args.monomials.now c.args.constant c.loop-monomial.monomial-index _ c.monomial-item.result c.loop-monomial-test.true c.monomial-item.is
    c.loop-monomial.sum c.number_at.result c.loop-monomial.invariant c.number_at.ensures c.in_err-part.field-0.0 r.0 r.1))

pub returns-in_err-sum-clause-wide : goal.returns-in_err-sum-clause-wide
returns-in_err-sum-clause-wide c =
    let p = err_from_is_err_and c.from_residual-in_err-sum.result c.from_residual-in_err-sum.ensures.1 in
    let r = refused_by _ _ _ c.in_err-sum.field-0.0 c.in_err-sum.ensures in
    rw (p.1, p.2) (inr (wide_sum c.args.known.now.entries c.args.monomials.now c.args.constant c.loop-monomial.monomial-index _ c.monomial-item.result c.loop-monomial-test.true c.monomial-item.is
    c.loop-monomial.sum c.number_at.result c.loop-monomial.invariant c.number_at.ensures c.in_ok-part.part c.in_err-sum.field-0.0 (answered _ _ c.in_ok-part.part _ c.in_ok-part.ensures) r.0 r.1))

pub loop-monomial-preserved : goal.loop-monomial-preserved
loop-monomial-preserved c =
    sum_more c.args.known.now.entries c.args.monomials.now c.args.constant c.loop-monomial.monomial-index _ c.monomial-item.result c.loop-monomial-test.true c.monomial-item.is
    c.loop-monomial.sum c.number_at.result c.loop-monomial.invariant c.number_at.ensures c.in_ok-part.part c.in_ok-sum.sum (answered _ _ c.in_ok-part.part _ c.in_ok-part.ensures) (answered _ _ c.in_ok-sum.sum _ c.in_ok-sum.ensures)

pub returns-clause-value : goal.returns-clause-value
returns-clause-value c =
    last_ok c.args.known.now.entries c.args.monomials.now c.args.constant c.loop-monomial.monomial-index (omega (arith, c.loop-monomial-test.false, c.loop-monomial.auto)) c.loop-monomial.sum c.loop-monomial.invariant c.add-2.result c.add-2.ensures

pub returns-clause-wide : goal.returns-clause-wide
returns-clause-wide c =
    last_err c.args.known.now.entries c.args.monomials.now c.args.constant c.loop-monomial.monomial-index (omega (arith, c.loop-monomial-test.false, c.loop-monomial.auto)) c.loop-monomial.sum c.loop-monomial.invariant c.add-2.result c.add-2.ensures
