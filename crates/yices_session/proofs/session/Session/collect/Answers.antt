use Rattle.std.proofs.Common.{[], refl}
use Rattle.yices_session.specs.Held.{Held}
use Rattle.yices_session.specs.View.{held_of}
use Rattle.yices_session.specs.Roots.{core_roots, model_roots}
use Rattle.yices_session.proofs.Collecting.{collects, gathered, roots_kept, same_blame, slice_listed}
use Rattle.yices_session.proofs.Stopping.{moved_session, moves_seen}
use Rattle.yices_session.proofs.session.Session.collect.Goals as goal

pub invariant_of-self : goal.invariant_of-self
invariant_of-self c =
    let h : Held = held_of c.self.inside in
    let roots = gathered c.new-roots.result c.add_roots.new.roots c.add_roots-2.new.roots c.add_model.new.roots c.add_core.new.roots h.parts h.formulas (model_roots c.self.inside.model) (core_roots c.self.inside.core) c.new-roots.ensures
    (slice_listed c.new-roots.result c.add_roots.new.roots c.as_slice.result.now h.parts c.in_ok-add_roots.ensures.ok c.as_slice.ensures.value)
    (slice_listed c.add_roots.new.roots c.add_roots-2.new.roots c.as_slice-2.result.now h.formulas c.in_ok-add_roots-2.ensures.ok c.as_slice-2.ensures.value) c.in_ok-add_model.ensures.ok c.in_ok-add_core.ensures.ok in
    moved_session _ h [] _
    (collects h c.free_unreached.new.env c.add_core.new.roots c.free_unreached.ensures.table c.free_unreached.ensures.frees c.free_unreached.ensures.contexts.contexts
    (roots_kept h c.self.inside.core c.add_core.new.roots (same_blame c.self.inside.core) roots) _ refl) c.self.invariant

pub returns-clause-ok : goal.returns-clause-ok
returns-clause-ok c =
    let h : Held = held_of c.self.inside in
    let roots = gathered c.new-roots.result c.add_roots.new.roots c.add_roots-2.new.roots c.add_model.new.roots c.add_core.new.roots h.parts h.formulas (model_roots c.self.inside.model) (core_roots c.self.inside.core) c.new-roots.ensures
    (slice_listed c.new-roots.result c.add_roots.new.roots c.as_slice.result.now h.parts c.in_ok-add_roots.ensures.ok c.as_slice.ensures.value)
    (slice_listed c.add_roots.new.roots c.add_roots-2.new.roots c.as_slice-2.result.now h.formulas c.in_ok-add_roots-2.ensures.ok c.as_slice-2.ensures.value) c.in_ok-add_model.ensures.ok c.in_ok-add_core.ensures.ok in
    moves_seen _ h _ [] _ c.self.view_is
    (collects h c.free_unreached.new.env c.add_core.new.roots c.free_unreached.ensures.table c.free_unreached.ensures.frees c.free_unreached.ensures.contexts.contexts
    (roots_kept h c.self.inside.core c.add_core.new.roots (same_blame c.self.inside.core) roots) _ refl)
