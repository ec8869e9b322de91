use Rattle.std.proofs.Common.{◌++◌, [], rules}
use Rattle.term_collect.specs.Reach.{IsKept, IsReached}
use Rattle.term_collect.proofs.Keeping.{leaves_there}
use Rattle.yices_api.specs.State.{terms_of_contexts}
use Rattle.yices_api.specs.Calls.{listed_terms, listed_types}
use Rattle.yices_api.proofs.collection.collect.Goals as goal

pub keep_contexts-requires : goal.keep_contexts-requires
keep_contexts-requires c = (
  c.args.table.now,
  listed_terms c.args.roots.now,
  listed_types c.args.roots.now,
  c.keep_roots.ensures.keeps c.args.table.now [] [] c.start-collection.ensures.keeps,
  c.requires.formulas,
)

pub finish-requires : goal.finish-requires
finish-requires c = (
  c.args.table.now,
  listed_terms c.args.roots.now ++ terms_of_contexts c.args.contexts.now.slots,
  listed_types c.args.roots.now,
  c.keep_contexts.ensures.keeps c.args.table.now (listed_terms c.args.roots.now) (listed_types c.args.roots.now) (c.keep_roots.ensures.keeps c.args.table.now [] [] c.start-collection.ensures.keeps),
)

pub returns : goal.returns
returns c =
    leaves_there c.args.table.now c.finish.new.self.0 _ (IsReached c.args.table.now (IsKept c.args.table.now (listed_terms c.args.roots.now ++ terms_of_contexts c.args.contexts.now.slots) (listed_types c.args.roots.now) c.args.keep_named)) (c.finish.ensures.leaves c.args.table.now (listed_terms c.args.roots.now ++ terms_of_contexts c.args.contexts.now.slots) (listed_types c.args.roots.now) (c.keep_contexts.ensures.keeps c.args.table.now (listed_terms c.args.roots.now) (listed_types c.args.roots.now) (c.keep_roots.ensures.keeps c.args.table.now [] [] c.start-collection.ensures.keeps))) (search rules)
