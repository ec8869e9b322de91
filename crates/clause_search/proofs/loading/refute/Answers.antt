use Rattle.clause_trail.specs.View.{lists_of}
use Rattle.std.proofs.Common.{[]}
use Rattle.clause_search.proofs.Loads.{root_rooted, all_false_there, impossible_with}
use Rattle.clause_search.proofs.loading.refute.Goals as goal

pub core_of-requires-clause-rooted : goal.core_of-requires-clause-rooted
core_of-requires-clause-rooted c = root_rooted (lists_of c.args.state.now) [] c.requires.sound c.requires.root

pub core_of-requires-clause-false_there : goal.core_of-requires-clause-false_there
core_of-requires-clause-false_there c = all_false_there (lists_of c.args.state.now) c.args.lits.now c.requires.sound c.requires.is_false

pub returns : goal.returns
returns c = impossible_with c.args.state.now.clauses.items c.args.state.now.order.items c.args.lits.now c.in_ok-core_of.field-0.items c.in_ok-core_of.ensures
