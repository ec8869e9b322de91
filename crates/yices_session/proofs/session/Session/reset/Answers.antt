use Rattle.std.proofs.Common.{[]}
use Rattle.yices_session.specs.Held.{Held}
use Rattle.yices_session.specs.View.{held_of}
use Rattle.yices_session.proofs.Collecting.{emptied_is, parts_listed, resets}
use Rattle.yices_session.proofs.Stopping.{moved_session, moves_seen}
use Rattle.yices_session.proofs.session.Session.reset.Goals as goal

pub invariant_of-self : goal.invariant_of-self
invariant_of-self c =
    let h : Held = held_of c.self.inside in
    moved_session _ h [] _
    (resets h c.free_unreached.new.env c.add_roots.new.roots c.free_unreached.ensures.table c.free_unreached.ensures.frees c.free_unreached.ensures.contexts.contexts
    (parts_listed c.new-roots.result c.add_roots.new.roots c.as_slice.result.now h.parts c.new-roots.ensures c.in_ok-add_roots.ensures.ok c.as_slice.ensures.value) _
    (emptied_is h c.free_unreached.new.env c.clear.new.self.items c.clear-2.new.self.items c.clear.ensures.items c.clear-2.ensures.items)) c.self.invariant

pub returns-clause-step : goal.returns-clause-step
returns-clause-step c =
    let h : Held = held_of c.self.inside in
    moves_seen _ h _ [] _ c.self.view_is
    (resets h c.free_unreached.new.env c.add_roots.new.roots c.free_unreached.ensures.table c.free_unreached.ensures.frees c.free_unreached.ensures.contexts.contexts
    (parts_listed c.new-roots.result c.add_roots.new.roots c.as_slice.result.now h.parts c.new-roots.ensures c.in_ok-add_roots.ensures.ok c.as_slice.ensures.value) _
    (emptied_is h c.free_unreached.new.env c.clear.new.self.items c.clear-2.new.self.items c.clear.ensures.items c.clear-2.ensures.items))
