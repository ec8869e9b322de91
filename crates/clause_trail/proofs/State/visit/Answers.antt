use Rattle.std.proofs.Common.{refl, arith, subst}
use Rattle.clause_trail.specs.declared.Advance.TheVariants as advance
use Rattle.clause_trail.specs.Steps.{Goes}
use Rattle.clause_trail.specs.View.{lists_of}
use Rattle.clause_trail.proofs.Turning.{turn_known, grown_same}
use Rattle.clause_trail.proofs.Completing.{turn_begins, turn_ends, keeps_then}
use Rattle.clause_trail.proofs.State.visit.Goals as goal

pub loop-at-init : goal.loop-at-init
loop-at-init c = record {
  turn = turn_begins (lists_of c.args.self.now) c.args.falsified c.requires.sound c.requires.here;
  keeps = record { base = c.requires.sound.base; now = c.requires.sound.now; done = refl; grown = grown_same (lists_of c.args.self.now) };
}

pub row_len-requires-clause-known : goal.row_len-requires-clause-known
row_len-requires-clause-known c = turn_known (lists_of c.loop-at.self) c.args.falsified c.loop-at.at c.loop-at.invariant.turn

pub returns-clause-none : goal.returns-clause-none
returns-clause-none c = turn_ends (lists_of c.loop-at.self) c.args.falsified c.loop-at.at c.loop-at.invariant.turn (omega (arith, c.loop-at-test.false, c.row_len.ensures))

pub returns-in_err-advance-clause-keeps : goal.returns-in_err-advance-clause-keeps
returns-in_err-advance-clause-keeps c = keeps_then (lists_of c.args.self.now) (lists_of c.loop-at.self) (lists_of c.advance.new.self) c.loop-at.invariant.keeps c.advance.ensures.keeps

pub loop-at-preserved-in-Next : goal.loop-at-preserved-in-Next
loop-at-preserved-in-Next c =
    let goes : Goes (lists_of c.loop-at.self) (lists_of c.advance.new.self) c.args.falsified c.loop-at.at advance.Next =
    subst (λ a. Goes (lists_of c.loop-at.self) (lists_of c.advance.new.self) c.args.falsified c.loop-at.at a) c.in-Next.is c.in_ok-advance.ensures.goes in
    record { turn = goes.0; keeps = keeps_then (lists_of c.args.self.now) (lists_of c.loop-at.self) (lists_of c.advance.new.self) c.loop-at.invariant.keeps c.advance.ensures.keeps }

pub loop-at-preserved : goal.loop-at-preserved
loop-at-preserved c =
    let goes : Goes (lists_of c.loop-at.self) (lists_of c.advance.new.self) c.args.falsified c.loop-at.at advance.Same =
    subst (λ a. Goes (lists_of c.loop-at.self) (lists_of c.advance.new.self) c.args.falsified c.loop-at.at a) c.in-Same.is c.in_ok-advance.ensures.goes in
    record { turn = goes.0; keeps = keeps_then (lists_of c.args.self.now) (lists_of c.loop-at.self) (lists_of c.advance.new.self) c.loop-at.invariant.keeps c.advance.ensures.keeps }

pub returns-in-Clash-clause-keeps : goal.returns-in-Clash-clause-keeps
returns-in-Clash-clause-keeps c = keeps_then (lists_of c.args.self.now) (lists_of c.loop-at.self) (lists_of c.advance.new.self) c.loop-at.invariant.keeps c.advance.ensures.keeps
