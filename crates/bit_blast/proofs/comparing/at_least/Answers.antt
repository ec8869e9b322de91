use Rattle.std.proofs.Common.{◌+◌, ◌<◌, length, subst, sym, arith}
use Rattle.clause_logic.specs.declared.Lit.{Lit}
use Rattle.clause_gates.proofs.Growth.{grows_more}
use Rattle.bit_blast.proofs.Lists.{below_at_on}
use Rattle.bit_blast.proofs.Orders.{least_more}
use Rattle.bit_blast.proofs.comparing.at_least.Goals as goal

pub carry_of-requires-clause-a_known : goal.carry_of-requires-clause-a_known
carry_of-requires-clause-a_known c = below_at_on c.args.a.now c.loop-i.i _ c.loop-i.invariant.grows c.requires.a_known (omega arith)

pub carry_of-requires-clause-b_known : goal.carry_of-requires-clause-b_known
carry_of-requires-clause-b_known c =
    subst (λ (l : Lit). l.var < c.loop-i.circuit.content.vars) (sym c.opposite-not_y.ensures) (below_at_on c.args.b.now c.loop-i.i _ c.loop-i.invariant.grows c.requires.b_known (omega arith))

pub returns-in_err-next-clause-grows : goal.returns-in_err-next-clause-grows
returns-in_err-next-clause-grows c = grows_more (length c.args.a.now) c.loop-i.invariant.grows c.carry_of.ensures.grows (omega arith)

pub loop-i-preserved : goal.loop-i-preserved
loop-i-preserved c = record {
  grows = grows_more (c.loop-i.i + 1) c.loop-i.invariant.grows c.carry_of.ensures.grows (omega arith);
  carry = least_more c.args.a.now c.args.b.now c.loop-i.i _ c.loop-i.carry c.carry_of.ensures.grows (omega arith) (omega arith) c.opposite-not_y.result c.in_ok-next.next c.loop-i.invariant.carry c.opposite-not_y.ensures c.in_ok-next.ensures.ok;
}
