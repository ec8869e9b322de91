use Rattle.std.proofs.Common.{◌∙◌, sym, arith, refl}
use Rattle.term_checks.specs.Listing.{no_term}
use Rattle.term_checks.proofs.Sorts.{formulas_more, formulas_all, no_formulas}
use Rattle.term_checks.proofs.sorting.are_formulas.Goals as goal

pub returns-then-not-branch : goal.returns-then-not-branch
returns-then-not-branch c = (
  λ h. absurd (cc h),
  λ all. absurd (no_formulas c.args.table.now c.args.terms.now c.loop-term.term-index no_term c.loop-term-test.true (λ f. let e = c.in_ok-is_formula.ensures.1 f in cc (sym e ∙ c.if-not-branch.true)) all),
)

pub loop-term-preserved : goal.loop-term-preserved
loop-term-preserved c =
    formulas_more c.args.table.now c.args.terms.now c.loop-term.term-index no_term c.loop-term-test.true c.loop-term.invariant (c.in_ok-is_formula.ensures.0 c.if-not-branch.false)

pub returns : goal.returns
returns c = (
  λ h. formulas_all c.args.table.now c.args.terms.now c.loop-term.term-index (omega (arith, c.loop-term-test.false)) c.loop-term.invariant,
  λ all. refl,
)
