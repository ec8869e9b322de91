use Rattle.std.proofs.Common.{[], ap, reverse}
use Rattle.yices_session.specs.Held.{Held}
use Rattle.yices_session.specs.View.{held_of}
use Rattle.yices_session.proofs.Levels.{marks_more, popped_at, relisted}
use Rattle.yices_session.proofs.Stopping.{moved_session, moves_seen}
use Rattle.yices_session.proofs.session.Session.pop.Goals as goal

pub invariant_of-self : goal.invariant_of-self
invariant_of-self c =
    let h : Held = held_of c.self.inside in
    moved_session _ h [] _
    (popped_at h _ c.in-Some.mark (reverse c.pop.new.self.items) (marks_more c.pop.new.self.items c.self.inside.marks.items c.in-Some.mark c.in-Some.ensures.items) (ap (λ ts. relisted h ts (reverse c.pop.new.self.items)) c.truncate.ensures.items))
    c.self.invariant

pub returns-in-Some-clause-step : goal.returns-in-Some-clause-step
returns-in-Some-clause-step c =
    let h : Held = held_of c.self.inside in
    moves_seen _ h _ [] _ c.self.view_is
    (popped_at h _ c.in-Some.mark (reverse c.pop.new.self.items) (marks_more c.pop.new.self.items c.self.inside.marks.items c.in-Some.mark c.in-Some.ensures.items) (ap (λ ts. relisted h ts (reverse c.pop.new.self.items)) c.truncate.ensures.items))
