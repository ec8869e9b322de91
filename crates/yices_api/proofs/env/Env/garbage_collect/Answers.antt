use Rattle.std.proofs.Common.{◌+◌, ap, get_or, inl, inr, map, refl, sym}
use Rattle.term_table.specs.declared.table.Marked.{Marked}
use Rattle.term_table.specs.declared.table.Marked.TheVariants as marked
use Rattle.yices_api.specs.declared.replies.Reply.TheVariants as reply
use Rattle.yices_api.specs.Calls.{listed, listed_terms, listed_types, placed}
use Rattle.yices_api.specs.Told.{dead_at}
use Rattle.yices_api.specs.Steps.{Frees, StepsBy}
use Rattle.yices_api.proofs.Stamps.{state}
use Rattle.yices_api.proofs.Dead.{roots_live, roots_refused}
use Rattle.yices_api.proofs.Calling.{arrive, stay}
use Rattle.yices_api.proofs.Rooting.{all_live_terms, collected_environment, get_to, got}
use Rattle.yices_api.proofs.env.Env.garbage_collect.Goals as goal

pub returns-in-Some : goal.returns-in-Some
returns-in-Some c =
    let d : Marked = marked.Term (record { slot = 0; stamp = 0 }) in
    let first = c.in-Some.ensures.dead in
    let low = (get_to c.args.roots.now c.in-Some.index first.0 first.1).0 in
    arrive (StepsBy (placed 2 (map listed c.args.roots.now)) (Frees c.args.keep_named c.args.roots.now)) (state c.self.inside.table c.self.inside.contexts.slots c.self.inside.made) (state c.self.inside.table c.self.inside.contexts.slots c.self.inside.made) (reply.Refused (dead_at (c.in-Some.index + 2) (listed (get_or c.args.roots.now c.in-Some.index d)))) c.args.self.now c.args.self.now (reply.Refused c.refusal.result)
    (inl (roots_refused (state c.self.inside.table c.self.inside.contexts.slots c.self.inside.made) c.args.roots.now c.in-Some.index (get_or c.args.roots.now c.in-Some.index d) first (got c.args.roots.now c.in-Some.index d low)))
    c.self.view_is (ap reply.Refused (sym c.refusal.ensures)) c.self.view_is

pub collect-requires-clause-formulas : goal.collect-requires-clause-formulas
collect-requires-clause-formulas c = all_live_terms c.self.inside.table c.self.inside.contexts.slots c.self.inside.made c.self.invariant

pub invariant_of-self : goal.invariant_of-self
invariant_of-self c =
    collected_environment c.self.inside.table c.collect.new.table c.self.inside.contexts.slots c.self.inside.made (listed_terms c.args.roots.now) (listed_types c.args.roots.now) c.args.keep_named c.is_table.ensures c.self.invariant c.collect.ensures

pub returns : goal.returns
returns c =
    arrive (StepsBy (placed 2 (map listed c.args.roots.now)) (Frees c.args.keep_named c.args.roots.now)) (state c.self.inside.table c.self.inside.contexts.slots c.self.inside.made) (state c.collect.new.table c.self.inside.contexts.slots c.self.inside.made) reply.Done c.args.self.now (state c.collect.new.table c.self.inside.contexts.slots c.self.inside.made) reply.Done
    (inr (roots_live (state c.self.inside.table c.self.inside.contexts.slots c.self.inside.made) c.args.roots.now c.in_default.ensures.live, (refl, c.collect.ensures, stay c.self.inside.table c.collect.new.table c.self.inside.contexts.slots c.self.inside.made)))
    c.self.view_is refl refl
