use Rattle.std.proofs.Common.{arith, ◌-◌}
use Rattle.std.proofs.lemmas.Option.{slice_get_within}
use Rattle.clause_trail.specs.View.{lists_of}
use Rattle.clause_trail.proofs.Settling.{none_last}
use Rattle.clause_trail.proofs.State.turn_start.Goals as goal

pub returns-then-levels-eq0-clause-none : goal.returns-then-levels-eq0-clause-none
returns-then-levels-eq0-clause-none c = λ k s at all. omega (arith, c.if-levels-eq0.true, c.len-levels.ensures, c.args.self.now.starts.ok.0, slice_get_within c.args.self.now.starts.items k s at)

pub returns-then-all_before-clause-some : goal.returns-then-all_before-clause-some
returns-then-all_before-clause-some c = (
  (c.len-levels.result - 1, c.start_of-start.ensures, omega (arith, c.if-levels-eq0.false, c.len-levels.ensures, c.args.self.now.starts.ok.0)),
  c.if-all_before.ensures.yes,
)

pub returns-clause-none : goal.returns-clause-none
returns-clause-none c =
    none_last (lists_of c.args.self.now) c.args.assumed.now c.start_of-start.result c.requires.sound.base
    (c.len-levels.result - 1, c.start_of-start.ensures, omega (arith, c.if-levels-eq0.false, c.len-levels.ensures, c.args.self.now.starts.ok.0))
    c.if-all_before.ensures.no
