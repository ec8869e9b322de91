use Rattle.std.proofs.Common.{List, map, subst}
use Rattle.term_shapes.specs.declared.handles.Term.{Term}
use Rattle.term_table.specs.declared.table.Marked.{Marked}
use Rattle.yices_api.specs.declared.calls.Call.TheVariants as call
use Rattle.yices_api.specs.Calls.{listed, placed}
use Rattle.yices_api.specs.Steps.{Api, Frees, StepsBy}
use Rattle.yices_api.proofs.stepping.answer.Goals as goal

pub returns-in-AssertFormula : goal.returns-in-AssertFormula
returns-in-AssertFormula c = rw c.in-AssertFormula.is c.assert_formula.ensures

pub returns-in-Ite : goal.returns-in-Ite
returns-in-Ite c = rw c.in-Ite.is c.build-in-Ite.ensures

pub returns-in-GarbageCollect : goal.returns-in-GarbageCollect
returns-in-GarbageCollect c =
    rw c.in-GarbageCollect.is
    (subst (λ (z : List Marked). StepsBy (placed 2 (map listed z)) (Frees c.in-GarbageCollect.named z) c.args.env.now c.garbage_collect.result c.garbage_collect.new.self) c.as_slice-in-GarbageCollect.ensures c.garbage_collect.ensures)

pub returns-in-CheckContextWithAssumptions : goal.returns-in-CheckContextWithAssumptions
returns-in-CheckContextWithAssumptions c =
    rw c.in-CheckContextWithAssumptions.is
    (subst (λ (z : List Term). Api c.args.env.now (call.CheckContextWithAssumptions c.in-CheckContextWithAssumptions.id c.in-CheckContextWithAssumptions.turns z) c.check_context_with_assumptions.result c.check_context_with_assumptions.new.self) c.as_slice-in-CheckContextWithAssumptions.ensures c.check_context_with_assumptions.ensures)
