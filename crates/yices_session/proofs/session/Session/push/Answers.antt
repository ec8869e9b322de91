use Rattle.std.proofs.Common.{◌∙◌, [], ◌∷◌, ap, arith, length, refl, reverse}
use Rattle.yices_session.specs.Held.{Held}
use Rattle.yices_session.specs.View.{held_of}
use Rattle.yices_session.proofs.Levels.{marks_count, marks_more, pushed_at, relisted, too_deep}
use Rattle.yices_session.proofs.Stopping.{moved_session, moves_seen}
use Rattle.yices_session.proofs.session.Session.push.Goals as goal

pub returns-then-len-ge-MOST_LEVELS-clause-stopped : goal.returns-then-len-ge-MOST_LEVELS-clause-stopped
returns-then-len-ge-MOST_LEVELS-clause-stopped c =
    let count = marks_count c.self.inside.marks.items c.len.result (c.len.ensures ∙ c.self.inside.marks.ok.0) in
    too_deep c.args.self.now c.args.self.now c.args.place refl (omega (arith, c.if-len-ge-MOST_LEVELS.true, count, ap (λ (h : Held). length h.marks) c.self.view_is))

pub invariant_of-self-2 : goal.invariant_of-self-2
invariant_of-self-2 c =
    let h : Held = held_of c.self.inside in
    let count = marks_count c.self.inside.marks.items c.len.result (c.len.ensures ∙ c.self.inside.marks.ok.0) in
    moved_session _ h [] _
    (pushed_at h _ (omega (arith, c.if-len-ge-MOST_LEVELS.false, count)) (ap (λ ms. relisted h h.formulas ms) (marks_more c.self.inside.marks.items c.append.new.list.items c.len-2.result c.in_ok-append.ensures.ok ∙ ap (λ n. n ∷ reverse c.self.inside.marks.items) (c.len-2.ensures ∙ c.self.inside.formulas.ok.0))))
    c.self.invariant

pub returns-clause-step : goal.returns-clause-step
returns-clause-step c =
    let h : Held = held_of c.self.inside in
    let count = marks_count c.self.inside.marks.items c.len.result (c.len.ensures ∙ c.self.inside.marks.ok.0) in
    moves_seen _ h _ [] _ c.self.view_is
    (pushed_at h _ (omega (arith, c.if-len-ge-MOST_LEVELS.false, count)) (ap (λ ms. relisted h h.formulas ms) (marks_more c.self.inside.marks.items c.append.new.list.items c.len-2.result c.in_ok-append.ensures.ok ∙ ap (λ n. n ∷ reverse c.self.inside.marks.items) (c.len-2.ensures ∙ c.self.inside.formulas.ok.0))))
