use Rattle.std.proofs.Common.{[], ◌++◌}
use Rattle.term_collect.proofs.Listed.{kept_live}
use Rattle.term_collect.proofs.tests.collect_in_steps.Goals as goal

pub keep-requires : goal.keep-requires
keep-requires c =
    kept_live c.args.table.now c.start-collection.result.table.now [] [] c.start-collection.ensures.keeps c.args.roots.now c.in_default.ensures.none

pub keep-requires-2 : goal.keep-requires-2
keep-requires-2 c =
    kept_live c.args.table.now c.keep.new.self.table.now c.args.roots.now [] (c.keep.ensures.keeps c.args.table.now [] [] c.start-collection.ensures.keeps) c.args.more.now c.in_default-first_dead.ensures.none

pub finish-requires : goal.finish-requires
finish-requires c = (
  c.args.table.now,
  c.args.roots.now ++ c.args.more.now,
  [],
  c.keep_types.ensures.keeps c.args.table.now (c.args.roots.now ++ c.args.more.now) [] (c.keep-2.ensures.keeps c.args.table.now c.args.roots.now [] (c.keep.ensures.keeps c.args.table.now [] [] c.start-collection.ensures.keeps)),
)
