use Rattle.std.proofs.Common.{◌≡◌, ◌∙◌, ◌++◌, ◌∷◌, [], ℕ, List, ap, length, arith}
use Rattle.std.proofs.lemmas.Result.{err_from_is_err_and}
use Rattle.term_shapes.specs.declared.handles.Term.{Term}
use Rattle.context_stack.proofs.Stacks.{pushed, pushed_stack, level_count}
use Rattle.context_stack.proofs.stack.Stack.push.Goals as goal

pub returns-then-len-ge-MOST_LEVELS-clause-refused : goal.returns-then-len-ge-MOST_LEVELS-clause-refused
returns-then-len-ge-MOST_LEVELS-clause-refused c =
    omega (arith, c.if-len-ge-MOST_LEVELS.true, c.len.ensures, c.self.inside.marks.ok.0, c.self.invariant.few, level_count c.self.inside.formulas.items c.self.inside.marks.items, ap length c.self.view_is)

pub returns-in_err-append-clause-refused : goal.returns-in_err-append-clause-refused
returns-in_err-append-clause-refused c =
    let p = err_from_is_err_and c.from_residual.result c.from_residual.ensures.1 in
    rw (p.1, p.2, c.in_err-append.ensures.cause) (omega (arith, c.if-len-ge-MOST_LEVELS.false, c.len.ensures, c.self.inside.marks.ok.0, level_count c.self.inside.formulas.items c.self.inside.marks.items, ap length c.self.view_is))

pub invariant_of-self-2 : goal.invariant_of-self-2
invariant_of-self-2 c =
    pushed_stack c.self.inside.marks.items c.append.new.list.items c.self.inside.formulas.items
    (c.in_ok-append.ensures.ok ∙ ap (λ (n : ℕ). c.self.inside.marks.items ++ n ∷ []) (c.len-mark.ensures ∙ c.self.inside.formulas.ok.0))
    (omega (arith, c.if-len-ge-MOST_LEVELS.false, c.len.ensures, c.self.inside.marks.ok.0)) c.self.invariant

pub returns-clause-opened : goal.returns-clause-opened
returns-clause-opened c =
    pushed c.self.inside.formulas.items c.self.inside.marks.items c.append.new.list.items
    (c.in_ok-append.ensures.ok ∙ ap (λ (n : ℕ). c.self.inside.marks.items ++ n ∷ []) (c.len-mark.ensures ∙ c.self.inside.formulas.ok.0))
    ∙ ap (λ (x : List (List Term)). x ++ [] ∷ []) c.self.view_is

pub returns-clause-room : goal.returns-clause-room
returns-clause-room c =
    omega (arith, c.if-len-ge-MOST_LEVELS.false, c.len.ensures, c.self.inside.marks.ok.0, level_count c.self.inside.formulas.items c.self.inside.marks.items, ap length c.self.view_is)
