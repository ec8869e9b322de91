use Rattle.std.proofs.Common.{false, length}
use Rattle.clause_logic.specs.declared.Lit.{Lit}
use Rattle.clause_logic.proofs.Members.{in_at}
use Rattle.clause_trail.specs.View.{lists_of}
use Rattle.clause_trail.proofs.Settling.{prefix_more, prefix_all, true_on_trail}
use Rattle.clause_trail.proofs.State.pending.Goals as goal

abbrev none : Lit
none = record { var = 0; positive = false }

pub standing-requires : goal.standing-requires
standing-requires c = c.requires.known _ (in_at c.args.assumed.now c.loop-lit.lit-index none c.loop-lit-test.true)

pub loop-lit-preserved : goal.loop-lit-preserved
loop-lit-preserved c =
    prefix_more c.args.assumed.now c.args.self.now.order.items (length c.args.self.now.order.items) c.loop-lit.lit-index none c.loop-lit-test.true c.loop-lit.invariant (true_on_trail (lists_of c.args.self.now) c.requires.sound.base _ c.in-True.ensures)

pub returns : goal.returns
returns c = prefix_all c.args.assumed.now c.args.self.now.order.items (length c.args.self.now.order.items) c.loop-lit.lit-index c.loop-lit-test.false c.loop-lit.invariant

pub returns-in-Open : goal.returns-in-Open
returns-in-Open c = (in_at c.args.assumed.now c.loop-lit.lit-index none c.loop-lit-test.true, c.in-Open.ensures)

pub returns-in-False : goal.returns-in-False
returns-in-False c = (in_at c.args.assumed.now c.loop-lit.lit-index none c.loop-lit-test.true, c.in-False.ensures)
