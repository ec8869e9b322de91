use Rattle.std.proofs.Common.{arith}
use Rattle.clause_trail.specs.View.{lists_of}
use Rattle.clause_trail.proofs.Completing.{completed, propagates_more}
use Rattle.clause_trail.proofs.Turning.{grown_then}
use Rattle.clause_trail.proofs.State.propagate.Goals as goal

pub returns-clause-none : goal.returns-clause-none
returns-clause-none c = completed (lists_of c.loop-self.self) c.loop-self.invariant.sound (omega (arith, c.loop-self-test.false, c.len.ensures, c.loop-self.self.order.ok.0))

pub returns-in_err-c-clause-grown : goal.returns-in_err-c-clause-grown
returns-in_err-c-clause-grown c = grown_then (lists_of c.args.self.now) (lists_of c.loop-self.self) (lists_of c.visit.new.self) c.loop-self.invariant.grown c.visit.ensures.keeps.grown

pub returns-in-Some-clause-grown : goal.returns-in-Some-clause-grown
returns-in-Some-clause-grown c = grown_then (lists_of c.args.self.now) (lists_of c.loop-self.self) (lists_of c.visit.new.self) c.loop-self.invariant.grown c.visit.ensures.keeps.grown

pub loop-self-preserved : goal.loop-self-preserved
loop-self-preserved c =
    propagates_more (lists_of c.args.self.now) (lists_of c.loop-self.self) (lists_of c.visit.new.self) c.loop-self.invariant c.visit.ensures.keeps
    (omega (arith, c.loop-self-test.true, c.len.ensures, c.loop-self.self.order.ok.0)) (rw c.in_default.is at c.in_ok-c.ensures.none)
