use Rattle.std.proofs.Common.{rules, arith, ◌<◌, inl, inr, Some, length, ◌∙◌, ap, refl}
use Rattle.clause_trail.specs.Analysis.{trues}
use Rattle.clause_trail.proofs.Counts.{read_there, trues_room}
use Rattle.clause_trail.proofs.analysis.Marks.mark.Goals as goal

pub overflow_add-self : goal.overflow_add-self
overflow_add-self c =
    let room : trues c.args.self.now.waiting.items < length c.args.self.now.waiting.items =
    trues_room _ _ (read_there _ _ _ c.requires.waiting c.index.ensures ∙ ap Some c.if-not-index.true) in
    omega (arith, c.args.self.now.waiting.ok)

pub returns-then-not-index : goal.returns-then-not-index
returns-then-not-index c = inr (inl (c.if-place-start.true, read_there _ _ _ c.requires.waiting c.index.ensures ∙ ap Some c.if-not-index.true, search rules))

pub returns-else-not-index : goal.returns-else-not-index
returns-else-not-index c = inl (c.if-place-start.true, read_there _ _ _ c.requires.waiting c.index.ensures ∙ ap Some c.if-not-index.false, refl)

pub returns-in_ok-push : goal.returns-in_ok-push
returns-in_ok-push c =
    inr (inr (inr (c.if-place-start.false, read_there _ _ _ c.requires.kept c.index-else-place-start.ensures ∙ ap Some c.if-not-index-2.true, search rules)))

pub returns-else-not-index-2 : goal.returns-else-not-index-2
returns-else-not-index-2 c =
    inr (inr (inl (c.if-place-start.false, read_there _ _ _ c.requires.kept c.index-else-place-start.ensures ∙ ap Some c.if-not-index-2.false, refl)))
