use Rattle.std.proofs.Common.{◌∙◌, not, sym, ap, arith, map, if◌then◌else◌}
use Rattle.y_tree.specs.Meaning.{truth_of, is_odd}
use Rattle.model_eval.specs.Known.{found}
use Rattle.model_eval.proofs.Lists.{odd_more, taken}
use Rattle.model_eval.proofs.truths.odd_true.Goals as goal
use Rattle.model_eval.proofs.truths.odd_true.Goals.{then-truth_at, else-truth_at}

pub loop-term-preserved : goal.loop-term-preserved
loop-term-preserved c =
    let odd = c.loop-term.odd in
    let more = odd_more (found c.args.known.now.entries) c.args.terms.now c.loop-term.term-index _ c.loop-term-test.true odd c.truth_at.result c.loop-term.invariant c.truth_at.ensures in
    elim c.if-truth_at.branch [
      | then-truth_at w ↦ w.odd-is ∙ ap (λ b. if b then not odd else odd) (sym w.if-truth_at.true) ∙ more
      | else-truth_at w ↦ w.odd-is ∙ ap (λ b. if b then not odd else odd) (sym w.if-truth_at.false) ∙ more
    ]

pub returns : goal.returns
returns c =
    c.loop-term.invariant ∙ taken (λ ts. is_odd (map truth_of (map (found c.args.known.now.entries) ts))) c.args.terms.now c.loop-term.term-index (omega (arith, c.loop-term-test.false))
