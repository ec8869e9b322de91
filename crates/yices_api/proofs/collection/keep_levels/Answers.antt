use Rattle.std.proofs.Common.{◌≡◌, ◌∙◌, ◌+◌, ◌++◌, ℕ, suc, ap, refl, subst, take, arith}
use Rattle.std.proofs.lemmas.List.{take_all}
use Rattle.term_collect.specs.Marking.{Keeping}
use Rattle.term_collect.proofs.Listed.{kept_live}
use Rattle.context_stack.specs.Levels.{formulas}
use Rattle.yices_api.proofs.Rooting.{keeping_as, level_live, one_more_level}
use Rattle.yices_api.proofs.collection.keep_levels.Goals as goal

pub keep-requires : goal.keep-requires
keep-requires c =
    kept_live c.requires.0 c.loop-level.collection.table.now _ _ (c.loop-level.invariant.1 c.requires.0 c.requires.1 c.requires.2 c.requires.3) c.roots.result.now
    (level_live c.requires.0 c.args.context.now.levels c.loop-level.level c.roots.result.now c.requires.4 c.roots.ensures)

pub loop-level-preserved : goal.loop-level-preserved
loop-level-preserved c = (
  c.keep.ensures.same_table ∙ c.loop-level.invariant.0,
  λ old ts us kept.
      let more : suc c.loop-level.level ≡ c.loop-level.level + 1 = omega arith in
      subst (λ (k : ℕ). Keeping old c.keep.new.self.table.now (ts ++ formulas (take k c.args.context.now.levels)) us) more
      (one_more_level old c.keep.new.self.table.now ts us c.args.context.now.levels c.loop-level.level c.roots.result.now c.roots.ensures (c.keep.ensures.keeps old _ us (c.loop-level.invariant.1 old ts us kept))),
)

pub keep-requires-2 : goal.keep-requires-2
keep-requires-2 c =
    kept_live c.requires.0 c.loop-level.collection.table.now _ _ (c.loop-level.invariant.1 c.requires.0 c.requires.1 c.requires.2 c.requires.3) c.roots-2.result.now
    (level_live c.requires.0 c.args.context.now.levels c.levels.result c.roots-2.result.now c.requires.4 c.roots-2.ensures)

pub returns-clause-keeps : goal.returns-clause-keeps
returns-clause-keeps c old ts us kept =
    let same : c.loop-level.level ≡ c.levels.result = omega (arith, c.loop-level-test.false, c.loop-level.auto.level-end, c.levels.ensures, c.levels-level-end.ensures) in
    let all : take (suc c.levels.result) c.args.context.now.levels ≡ c.args.context.now.levels = take_all (suc c.levels.result) c.args.context.now.levels (omega (arith, c.levels.ensures)) in
    keeping_as old c.keep-2.new.self.table.now _ _ _ _
    (one_more_level old c.keep-2.new.self.table.now ts us c.args.context.now.levels c.levels.result c.roots-2.result.now c.roots-2.ensures (subst (λ (k : ℕ). Keeping old c.keep-2.new.self.table.now ((ts ++ formulas (take k c.args.context.now.levels)) ++ c.roots-2.result.now) us) same (c.keep-2.ensures.keeps old _ us (c.loop-level.invariant.1 old ts us kept))))
    (ap (λ z. ts ++ formulas z) all) refl
