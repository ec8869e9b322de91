use Rattle.std.proofs.Common.{◌≤◌, ◌++◌, ◌∷◌, ◌+◌, [], length, map, sym, subst, arith}
use Rattle.std.proofs.lemmas.Result.{err_from_is_err_and}
use Rattle.stamped_slots.proofs.Lists.{map_length}
use Rattle.yices_commands.specs.Plain.{plain_literal}
use Rattle.expression_terms.specs.Growth.{if_there}
use Rattle.expression_terms.specs.Building.{IsUnbuilt, cause_in, literal_tree}
use Rattle.expression_terms.proofs.Outcomes.{contexts_same, contexts_on}
use Rattle.yices_session.proofs.Assumptions.{SomeAssumed, some_start, some_next, some_all, some_added, past_added, some_stop, plain_at, plain_below}
use Rattle.yices_session.proofs.session.checking.assumed_terms.Goals as goal

pub loop-literal-init : goal.loop-literal-init
loop-literal-init c = (subst (SomeAssumed c.args.env.now.table c.args.env.now.table (map plain_literal c.args.literals.now) 0) (sym c.new-terms.ensures) (some_start c.args.env.now.table (map plain_literal c.args.literals.now)), contexts_same c.args.env.now)

pub returns-in_err-t-clause-refused : goal.returns-in_err-t-clause-refused
returns-in_err-t-clause-refused c =
    let p = err_from_is_err_and c.from_residual.result c.from_residual.ensures.1 in
    let x = c.literal-item.result in
    rw (p.1, p.2)
    (some_stop c.args.env.now c.loop-literal.env.table c.build_literal.new.env (map plain_literal c.args.literals.now) c.loop-literal.literal-index (plain_literal x) c.loop-literal.terms c.in_err-t.field-0.0
    (plain_below c.args.literals.now c.loop-literal.literal-index c.loop-literal-test.true) c.loop-literal.invariant.0
    (λ s named. subst (λ l. IsUnbuilt (cause_in (literal_tree s l)) c.build_literal.new.env c.in_err-t.field-0.0) (sym (plain_at c.args.literals.now c.loop-literal.literal-index x c.loop-literal-test.true c.literal-item.is)) (c.in_err-t.ensures.built s named)))

pub returns-in_err-t-clause-grows : goal.returns-in_err-t-clause-grows
returns-in_err-t-clause-grows c =
    let p = err_from_is_err_and c.from_residual.result c.from_residual.ensures.1 in
    rw p.1
    (past_added c.args.env.now.table c.loop-literal.env.table c.build_literal.new.env.table (map plain_literal c.args.literals.now) c.loop-literal.literal-index c.loop-literal.terms c.loop-literal.invariant.0
    (λ s named. (if_there (literal_tree s (plain_literal c.literal-item.result)), c.in_err-t.ensures.adds.grows s named)))

pub returns-in_err-push-clause-grows : goal.returns-in_err-push-clause-grows
returns-in_err-push-clause-grows c =
    let p = err_from_is_err_and c.from_residual-in_err-push.result c.from_residual-in_err-push.ensures.1 in
    rw p.1
    (some_added c.args.env.now.table c.build_literal.new.env.table (map plain_literal c.args.literals.now) (c.loop-literal.literal-index + 1) (c.loop-literal.terms ++ c.in_ok-t.t ∷ [])
    (some_next c.args.env.now.table c.loop-literal.env c.build_literal.new.env c.args.literals.now c.loop-literal.literal-index c.literal-item.result c.loop-literal.terms c.in_ok-t.t c.loop-literal-test.true c.literal-item.is c.loop-literal.invariant.0 c.in_ok-t.ensures.built))

pub loop-literal-preserved : goal.loop-literal-preserved
loop-literal-preserved c = (
  subst (SomeAssumed c.args.env.now.table c.build_literal.new.env.table (map plain_literal c.args.literals.now) (c.loop-literal.literal-index + 1)) (sym c.in_ok-push.ensures.ok)
      (some_next c.args.env.now.table c.loop-literal.env c.build_literal.new.env c.args.literals.now c.loop-literal.literal-index c.literal-item.result c.loop-literal.terms c.in_ok-t.t c.loop-literal-test.true c.literal-item.is c.loop-literal.invariant.0 c.in_ok-t.ensures.built),
  contexts_on c.args.env.now c.loop-literal.env c.build_literal.new.env c.loop-literal.invariant.1 c.in_ok-t.ensures.adds.contexts,
)

pub returns-clause-built : goal.returns-clause-built
returns-clause-built c =
    let past : length (map plain_literal c.args.literals.now) ≤ c.loop-literal.literal-index = omega (arith, c.loop-literal-test.false, map_length plain_literal c.args.literals.now) in
    some_all c.args.env.now.table c.loop-literal.env.table (map plain_literal c.args.literals.now) c.loop-literal.literal-index c.loop-literal.terms past c.loop-literal.invariant.0
