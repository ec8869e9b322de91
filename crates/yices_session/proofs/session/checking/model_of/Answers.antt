use Rattle.std.proofs.Common.{◌∙◌, ◌++◌, ◌∷◌, [], ap, subst, get_or, Bool, false}
use Rattle.y_tree.specs.Order.{is_formed}
use Rattle.y_tree.proofs.Shapes.{plain_bool}
use Rattle.term_shapes.specs.declared.handles.Term.{Term}
use Rattle.model_eval.specs.Models.{assignment_of}
use Rattle.model_eval.specs.Refusing.{RefusesModel}
use Rattle.yices_session.proofs.FoundModels.{same_assignment, only_memory, all_valued, one_valued}
use Rattle.yices_session.proofs.session.checking.model_of.Goals as goal

pub push-requires : goal.push-requires
push-requires c = ap is_formed (plain_bool _)

pub loop-entry-preserved : goal.loop-entry-preserved
loop-entry-preserved c =
    let none : Term × Bool = (record { slot = 0; stamp = 0 }, false) in
    let e : Term × Bool = get_or c.as_slice-entry-items.result.now c.loop-entry.entry-index none in
    one_valued c.as_slice-entry-items.result.now c.args.values.now c.loop-entry.entry-index none c.loop-entry.items c.push.new.self c.as_slice-entry-items.ensures c.loop-entry-test.true c.loop-entry.invariant
    (c.in_ok-push.ensures.ok ∙ ap (λ v. c.loop-entry.items ++ (e.0, v) ∷ []) (plain_bool e.1))

pub unreachable-requires : goal.unreachable-requires
unreachable-requires c =
    let all = all_valued c.as_slice-entry-items.result.now c.args.values.now c.loop-entry.entry-index c.loop-entry.items c.as_slice-entry-items.ensures c.loop-entry-test.false c.loop-entry.invariant in
    c.in_default.not-NoMemory
    (only_memory c.args.table.now c.is_table.ensures c.sorts_are_decided.ensures c.requires.0 c.requires.1 c.args.values.now c.requires.2 c.in-Err.error
    (subst (λ items. RefusesModel c.args.table.now items c.in-Err.error) all c.in-Err.ensures.refused))

pub returns-in-Ok-clause-same : goal.returns-in-Ok-clause-same
returns-in-Ok-clause-same c =
    ap (assignment_of c.args.table.now) (c.in-Ok.ensures.same ∙ all_valued c.as_slice-entry-items.result.now c.args.values.now c.loop-entry.entry-index c.loop-entry.items c.as_slice-entry-items.ensures c.loop-entry-test.false c.loop-entry.invariant)
    ∙ same_assignment c.args.table.now c.args.values.now
