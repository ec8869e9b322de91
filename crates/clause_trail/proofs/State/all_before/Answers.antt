use Rattle.std.proofs.Common.{false}
use Rattle.clause_logic.specs.declared.Lit.{Lit}
use Rattle.clause_logic.proofs.Members.{in_at}
use Rattle.clause_trail.proofs.Settling.{prefix_more, prefix_all}
use Rattle.clause_trail.proofs.State.all_before.Goals as goal

abbrev none : Lit
none = record { var = 0; positive = false }

pub is_before-requires-clause-known : goal.is_before-requires-clause-known
is_before-requires-clause-known c = c.requires.known _ (in_at c.args.lits.now c.loop-lit.lit-index none c.loop-lit-test.true)

pub returns-then-not-is_before-clause-no : goal.returns-then-not-is_before-clause-no
returns-then-not-is_before-clause-no c = λ all. c.if-not-is_before.ensures.no (all _ (in_at c.args.lits.now c.loop-lit.lit-index none c.loop-lit-test.true))

pub loop-lit-preserved : goal.loop-lit-preserved
loop-lit-preserved c = prefix_more c.args.lits.now c.args.self.now.order.items c.args.place c.loop-lit.lit-index none c.loop-lit-test.true c.loop-lit.invariant c.if-not-is_before.ensures.yes

pub returns-clause-yes : goal.returns-clause-yes
returns-clause-yes c = prefix_all c.args.lits.now c.args.self.now.order.items c.args.place c.loop-lit.lit-index c.loop-lit-test.false c.loop-lit.invariant
