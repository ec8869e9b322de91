use Rattle.std.proofs.Common.{◌∙◌, ◌++◌, sym}
use Rattle.context_stack.specs.Levels.{formulas}
use Rattle.context_stack.specs.States.{core_terms}
use Rattle.term_collect.proofs.Listed.{kept_live}
use Rattle.yices_api.proofs.Lists.{live_front}
use Rattle.yices_api.proofs.Rooting.{core_kept, core_live, no_core_kept}
use Rattle.yices_api.proofs.collection.keep_context.Goals as goal

pub keep_levels-requires : goal.keep_levels-requires
keep_levels-requires c = (
  c.requires.0,
  c.requires.1,
  c.requires.2,
  c.requires.3,
  live_front c.requires.0 (formulas c.args.context.now.levels) (core_terms c.args.context.now.core) c.requires.4,
)

pub keep-requires : goal.keep-requires
keep-requires c =
    kept_live c.requires.0 c.keep_levels.new.collection.table.now _ _ (c.keep_levels.ensures.keeps c.requires.0 c.requires.1 c.requires.2 c.requires.3) c.in-Some.core.now
    (core_live c.requires.0 c.args.context.now c.in-Some.core.now (sym c.in-Some.ensures) c.requires.4)

pub returns-in-Some-clause-keeps : goal.returns-in-Some-clause-keeps
returns-in-Some-clause-keeps c old ts us kept =
    core_kept old c.keep.new.self.table.now ts us c.args.context.now c.in-Some.core.now (sym c.in-Some.ensures) (c.keep.ensures.keeps old _ us (c.keep_levels.ensures.keeps old ts us kept))

pub returns-in_default-clause-keeps : goal.returns-in_default-clause-keeps
returns-in_default-clause-keeps c old ts us kept =
    no_core_kept old c.keep_levels.new.collection.table.now ts us c.args.context.now (sym c.in_default.ensures) (c.keep_levels.ensures.keeps old ts us kept)
