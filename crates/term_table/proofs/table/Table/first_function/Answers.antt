use Rattle.std.proofs.Common.{◌++◌, ◌∷◌, [], arith}
use Rattle.term_table.specs.Functions.{IsFunctionType}
use Rattle.term_table.proofs.Domains.{first_with, none_step, none_all, length_last}
use Rattle.term_table.proofs.table.Table.first_function.Goals as goal

pub returns-then-is_function_part-clause-some : goal.returns-then-is_function_part-clause-some
returns-then-is_function_part-clause-some c =
    first_with (IsFunctionType c.args.self.now) (c.args.arguments.now ++ c.args.value ∷ []) c.loop-place.place c.is_function_part.result c.if-is_function_part.true c.is_function_part.ensures c.loop-place.invariant

pub loop-place-preserved : goal.loop-place-preserved
loop-place-preserved c =
    none_step (IsFunctionType c.args.self.now) (c.args.arguments.now ++ c.args.value ∷ []) c.loop-place.place c.is_function_part.result c.if-is_function_part.false c.is_function_part.ensures c.loop-place.invariant

pub returns-clause-none : goal.returns-clause-none
returns-clause-none c =
    none_all (IsFunctionType c.args.self.now) (c.args.arguments.now ++ c.args.value ∷ []) c.loop-place.place (omega (arith, length_last c.args.arguments.now c.args.value, c.loop-place-test.false)) c.loop-place.invariant
