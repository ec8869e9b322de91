use Rattle.std.proofs.Common.{map}
use Rattle.yices_api.specs.State.{ContextsStay}
use Rattle.yices_commands.specs.Plain.{plain_literal}
use Rattle.yices_session.proofs.Assumptions.{SomeAssumed}
use Rattle.yices_session.proofs.session.checking.assumed_terms.Given as goal

-- the terms so far
abbrev pub invariant-loop-literal : goal.invariant-loop-literal
invariant-loop-literal l = SomeAssumed l.fn.env.table l.env.table (map plain_literal l.literals) l.literal-index l.terms × ContextsStay l.fn.env l.env
