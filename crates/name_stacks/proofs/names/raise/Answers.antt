use Rattle.std.proofs.Common.{◌∙◌, sym, subst}
use Rattle.std.specs.Prelude.{Some, IsSome}
use Rattle.std.specs.HashMap.{get_by_text}
use Rattle.name_stacks.specs.Heads.{AreRaised, PutsHead}
use Rattle.name_stacks.proofs.Heading.{raised_has, raised_pass, raised_fail}
use Rattle.name_stacks.proofs.names.raise.Goals as goal
use Rattle.name_stacks.proofs.names.raise.Goals.{then-keeps, else-keeps}

pub loop-pair-preserved : goal.loop-pair-preserved
loop-pair-preserved g c =
    elim c.if-keeps.branch [
      | then-keeps w ↦
          let has : IsSome (get_by_text c.loop-pair.heads w.as_str.result.now) = subst (λ z. IsSome (get_by_text c.loop-pair.heads z)) (sym w.as_str.ensures.value) (raised_has (g.T.Keeps.passes c.args.test.now) c.args.pairs.now c.loop-pair.pair-index c.loop-pair-test.true c.pair-item.result c.pair-item.is c.loop-pair.heads c.loop-pair.heads c.loop-pair.invariant) in
          subst (λ z. AreRaised (g.T.Keeps.passes c.args.test.now) z _ _) (sym w.heads-is) (raised_pass (g.T.Keeps.passes c.args.test.now) c.args.pairs.now c.loop-pair.pair-index c.loop-pair-test.true c.pair-item.result c.pair-item.is c.loop-pair.heads w.set_head.new.heads (sym c.keeps.ensures ∙ w.if-keeps.true) c.loop-pair.invariant (subst (λ z. PutsHead c.loop-pair.heads w.set_head.new.heads z (Some c.pair-item.result.of)) w.as_str.ensures.value (w.set_head.ensures has)))
      | else-keeps w ↦
          raised_fail (g.T.Keeps.passes c.args.test.now) c.args.pairs.now c.loop-pair.pair-index c.loop-pair-test.true c.pair-item.result c.pair-item.is c.loop-pair.heads c.if-keeps.heads (sym c.keeps.ensures ∙ w.if-keeps.false) c.loop-pair.invariant w.heads-is
    ]
