use Rattle.std.proofs.Common.{◌∙◌, ap, sym, subst, true, rules}
use Rattle.std.specs.Prelude.{None}
use Rattle.std.specs.Option.{option_map_or}
use Rattle.std.specs.HashMap.{get_by_text}
use Rattle.name_stacks.specs.Heads.{AreLeft, PutsHead}
use Rattle.name_stacks.proofs.Heading.{left_drop, left_keep}
use Rattle.name_stacks.proofs.names.drop_failing.Goals as goal
use Rattle.name_stacks.proofs.names.drop_failing.Goals.{then-not-is_passing, else-not-is_passing}

pub loop-pair-preserved : goal.loop-pair-preserved
loop-pair-preserved g c =
    let at = ap (λ z. option_map_or (g.T.Keeps.passes c.args.test.now) (get_by_text c.loop-pair.heads z) true) (sym c.as_str.ensures.value) ∙ sym c.is_passing.ensures in
    elim c.if-not-is_passing.branch [
      | then-not-is_passing w ↦
          subst (λ z. AreLeft (g.T.Keeps.passes c.args.test.now) z _ _) (sym w.heads-is) (left_drop (g.T.Keeps.passes c.args.test.now) c.args.pairs.now c.loop-pair.pair-index c.loop-pair-test.true c.pair-item.result c.pair-item.is c.loop-pair.heads w.drop_head.new.heads (at ∙ search rules) c.loop-pair.invariant (subst (λ z. PutsHead c.loop-pair.heads w.drop_head.new.heads z None) w.as_str-then-not-is_passing.ensures.value w.drop_head.ensures))
      | else-not-is_passing w ↦
          left_keep (g.T.Keeps.passes c.args.test.now) c.args.pairs.now c.loop-pair.pair-index c.loop-pair-test.true c.pair-item.result c.pair-item.is c.loop-pair.heads c.if-not-is_passing.heads (at ∙ search rules) c.loop-pair.invariant w.heads-is
    ]
