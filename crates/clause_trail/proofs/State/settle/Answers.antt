use Rattle.std.proofs.Common.{◌≤◌, length}
use Rattle.clause_trail.specs.View.{lists_of}
use Rattle.clause_trail.proofs.Settling.{left_long, left_false, rooted_of, chosen_shrunk, settled_high}
use Rattle.clause_trail.proofs.State.settle.Goals as goal

pub derive-requires-clause-high : goal.derive-requires-clause-high
derive-requires-clause-high c =
    let so = c.top_of-top.ensures (length c.args.self.now.order.items) c.requires.false_there in
    let long : c.top_of-top.result ≤ length c.backtrack.new.self.order.items =
    left_long (lists_of c.args.self.now) (lists_of c.backtrack.new.self) c.levels_before-level.result c.top_of-top.result c.backtrack.ensures.backed c.backtrack.ensures.level c.levels_before-level.ensures.bound c.levels_before-level.ensures.above so.bound in
    settled_high (lists_of c.args.self.now) (lists_of c.backtrack.new.self) c.args.lits.now c.top_of-top.result c.levels_before-level.result c.in-Some.start c.backtrack.ensures.backed c.backtrack.ensures.level so long c.levels_before-level.ensures.below c.in-Some.ensures.some.0

pub core_of-requires-clause-rooted : goal.core_of-requires-clause-rooted
core_of-requires-clause-rooted c =
    rooted_of (lists_of c.backtrack.new.self) c.args.assumed.now c.backtrack.ensures.backed.sound (chosen_shrunk (lists_of c.args.self.now) (lists_of c.backtrack.new.self) c.args.assumed.now c.backtrack.ensures.backed.shrunk c.requires.chosen) c.in-None.ensures.none

pub returns-in_ok-clause-in-Some-clause-settles : goal.returns-in_ok-clause-in-Some-clause-settles
returns-in_ok-clause-in-Some-clause-settles c = record {
  start = c.in-Some.start;
  last = c.in-Some.ensures.some.0;
  learned = c.in_ok-clause-in-Some.ensures;
  assumed_there = c.in-Some.ensures.some.1;
}

pub derive-requires-clause-false_there : goal.derive-requires-clause-false_there
derive-requires-clause-false_there c =
    let so = c.top_of-top.ensures (length c.args.self.now.order.items) c.requires.false_there in
    let long : c.top_of-top.result ≤ length c.backtrack.new.self.order.items =
    left_long (lists_of c.args.self.now) (lists_of c.backtrack.new.self) c.levels_before-level.result c.top_of-top.result c.backtrack.ensures.backed c.backtrack.ensures.level c.levels_before-level.ensures.bound c.levels_before-level.ensures.above so.bound in
    left_false (lists_of c.args.self.now) (lists_of c.backtrack.new.self) c.args.lits.now c.top_of-top.result c.backtrack.ensures.backed.shrunk so long

pub core_of-requires-clause-false_there : goal.core_of-requires-clause-false_there
core_of-requires-clause-false_there c =
    let so = c.top_of-top.ensures (length c.args.self.now.order.items) c.requires.false_there in
    let long : c.top_of-top.result ≤ length c.backtrack.new.self.order.items =
    left_long (lists_of c.args.self.now) (lists_of c.backtrack.new.self) c.levels_before-level.result c.top_of-top.result c.backtrack.ensures.backed c.backtrack.ensures.level c.levels_before-level.ensures.bound c.levels_before-level.ensures.above so.bound in
    left_false (lists_of c.args.self.now) (lists_of c.backtrack.new.self) c.args.lits.now c.top_of-top.result c.backtrack.ensures.backed.shrunk so long

pub returns-in_err-clause-in-Some-clause-chosen : goal.returns-in_err-clause-in-Some-clause-chosen
returns-in_err-clause-in-Some-clause-chosen c = chosen_shrunk (lists_of c.args.self.now) (lists_of c.backtrack.new.self) c.args.assumed.now c.backtrack.ensures.backed.shrunk c.requires.chosen

pub returns-in_ok-clause-in-Some-clause-chosen : goal.returns-in_ok-clause-in-Some-clause-chosen
returns-in_ok-clause-in-Some-clause-chosen c = chosen_shrunk (lists_of c.args.self.now) (lists_of c.backtrack.new.self) c.args.assumed.now c.backtrack.ensures.backed.shrunk c.requires.chosen

pub returns-in_err-core-in-None-clause-chosen : goal.returns-in_err-core-in-None-clause-chosen
returns-in_err-core-in-None-clause-chosen c = chosen_shrunk (lists_of c.args.self.now) (lists_of c.backtrack.new.self) c.args.assumed.now c.backtrack.ensures.backed.shrunk c.requires.chosen

pub returns-in_ok-core-in-None-clause-chosen : goal.returns-in_ok-core-in-None-clause-chosen
returns-in_ok-core-in-None-clause-chosen c = chosen_shrunk (lists_of c.args.self.now) (lists_of c.backtrack.new.self) c.args.assumed.now c.backtrack.ensures.backed.shrunk c.requires.chosen
