use Rattle.std.proofs.Common.{subst, sym, ◌∙◌}
use Rattle.clause_trail.specs.View.{lists_of}
use Rattle.clause_trail.specs.Changes.{Refuting}
use Rattle.clause_trail.proofs.Settling.{rooted_of, none_false, false_one, refuting_of}
use Rattle.clause_trail.proofs.State.core_of_false.Goals as goal

pub core_of-requires-clause-rooted : goal.core_of-requires-clause-rooted
core_of-requires-clause-rooted c =
    rooted_of (lists_of c.args.self.now) c.args.assumed.now c.requires.sound c.requires.chosen (none_false (lists_of c.args.self.now) c.args.assumed.now c.args.lit c.requires.sound.base c.requires.assumption c.requires.is_false)

pub core_of-requires-clause-false_there : goal.core_of-requires-clause-false_there
core_of-requires-clause-false_there c = false_one (lists_of c.args.self.now) c.args.lit c.requires.sound.base c.requires.is_false

pub returns : goal.returns
returns c =
    subst (Refuting (lists_of c.args.self.now) c.args.assumed.now) (sym (c.from_vec.ensures ∙ c.in_ok-push.ensures.items))
    (refuting_of (lists_of c.args.self.now) c.args.assumed.now c.in_ok-core.core.items c.args.lit c.requires.sound.base c.requires.assumption c.requires.is_false c.in_ok-core.ensures)
