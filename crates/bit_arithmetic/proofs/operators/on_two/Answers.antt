use Rattle.std.proofs.Common.{ap}
use Rattle.y_tree.specs.declared.BvOp.{BvOp}
use Rattle.y_tree.specs.Meaning.{on_two}
use Rattle.bit_arithmetic.proofs.Rows.{others_test}
use Rattle.bit_arithmetic.proofs.operators.on_two.Goals as goal

pub holds-requires : goal.holds-requires
holds-requires c =
    let n = c.in_default in
    record { order = others_test c.args.op c.requires.two n.not-Sub n.not-Div n.not-Rem n.not-Sdiv n.not-Srem n.not-Smod n.not-Shl n.not-Lshr n.not-Ashr; same = c.requires.same }

pub returns-in-Sub : goal.returns-in-Sub
returns-in-Sub c = cc (ap (λ (o : BvOp). on_two o c.args.left.width c.args.left.bits c.args.right.bits) c.in-Sub.is)

pub returns-in-Div : goal.returns-in-Div
returns-in-Div c = cc (ap (λ (o : BvOp). on_two o c.args.left.width c.args.left.bits c.args.right.bits) c.in-Div.is)

pub returns-in-Rem : goal.returns-in-Rem
returns-in-Rem c = cc (ap (λ (o : BvOp). on_two o c.args.left.width c.args.left.bits c.args.right.bits) c.in-Rem.is)

pub returns-in-Sdiv : goal.returns-in-Sdiv
returns-in-Sdiv c = cc (ap (λ (o : BvOp). on_two o c.args.left.width c.args.left.bits c.args.right.bits) c.in-Sdiv.is)

pub returns-in-Srem : goal.returns-in-Srem
returns-in-Srem c = cc (ap (λ (o : BvOp). on_two o c.args.left.width c.args.left.bits c.args.right.bits) c.in-Srem.is)

pub returns-in-Smod : goal.returns-in-Smod
returns-in-Smod c = cc (ap (λ (o : BvOp). on_two o c.args.left.width c.args.left.bits c.args.right.bits) c.in-Smod.is)

pub returns-in-Shl : goal.returns-in-Shl
returns-in-Shl c = cc (ap (λ (o : BvOp). on_two o c.args.left.width c.args.left.bits c.args.right.bits) c.in-Shl.is)

pub returns-in-Lshr : goal.returns-in-Lshr
returns-in-Lshr c = cc (ap (λ (o : BvOp). on_two o c.args.left.width c.args.left.bits c.args.right.bits) c.in-Lshr.is)

pub returns-in-Ashr : goal.returns-in-Ashr
returns-in-Ashr c = cc (ap (λ (o : BvOp). on_two o c.args.left.width c.args.left.bits c.args.right.bits) c.in-Ashr.is)

pub returns-in_default : goal.returns-in_default
returns-in_default c = c.holds.ensures
