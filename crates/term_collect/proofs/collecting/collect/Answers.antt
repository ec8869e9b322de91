use Rattle.std.proofs.Common.{[], rules}
use Rattle.term_collect.specs.Reach.{IsReached, IsKept}
use Rattle.term_collect.proofs.Keeping.{counts_there, leaves_there}
use Rattle.term_collect.proofs.Listed.{kept_live, kept_live_types}
use Rattle.term_collect.proofs.collecting.collect.Goals as goal

pub keep-requires : goal.keep-requires
keep-requires c =
    kept_live c.args.table.now c.start-collection.result.table.now [] [] c.start-collection.ensures.keeps c.args.roots.now c.in_default.ensures.none

pub keep_types-requires : goal.keep_types-requires
keep_types-requires c =
    kept_live_types c.args.table.now c.keep.new.self.table.now c.args.roots.now [] (c.keep.ensures.keeps c.args.table.now [] [] c.start-collection.ensures.keeps) c.args.types.now c.in_default-first_dead_type.ensures.none

pub finish-requires : goal.finish-requires
finish-requires c = (
  c.args.table.now,
  c.args.roots.now,
  c.args.types.now,
  c.keep_types.ensures.keeps c.args.table.now c.args.roots.now [] (c.keep.ensures.keeps c.args.table.now [] [] c.start-collection.ensures.keeps),
)

pub returns-clause-leaves : goal.returns-clause-leaves
returns-clause-leaves c =
    leaves_there c.args.table.now c.finish.new.self.0 _ (IsReached c.args.table.now (IsKept c.args.table.now c.args.roots.now c.args.types.now c.args.keep_named)) (c.finish.ensures.leaves c.args.table.now c.args.roots.now c.args.types.now (c.keep_types.ensures.keeps c.args.table.now c.args.roots.now [] (c.keep.ensures.keeps c.args.table.now [] [] c.start-collection.ensures.keeps))) (search rules)

pub returns-clause-counts : goal.returns-clause-counts
returns-clause-counts c =
    counts_there c.args.table.now c.finish.new.self.0 _ c.finish.result.terms c.finish.result.types (c.finish.ensures.counts c.args.table.now c.args.roots.now c.args.types.now (c.keep_types.ensures.keeps c.args.table.now c.args.roots.now [] (c.keep.ensures.keeps c.args.table.now [] [] c.start-collection.ensures.keeps))) (search rules)
