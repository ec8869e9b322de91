use Rattle.std.proofs.Common.{ap}
use Rattle.y_tree.specs.declared.BvOp.{BvOp}
use Rattle.y_tree.specs.Meaning.{on_two}
use Rattle.bit_arithmetic.proofs.Rows.{no_others}
use Rattle.bit_arithmetic.proofs.operators.holds.Goals as goal

pub unreachable-requires : goal.unreachable-requires
unreachable-requires c =
    let n = c.in_default in
    no_others c.args.op c.requires.order n.not-Ge n.not-Gt n.not-Le n.not-Lt n.not-Sge n.not-Sgt n.not-Sle n.not-Slt

pub returns-in-Ge : goal.returns-in-Ge
returns-in-Ge c = cc (ap (λ (o : BvOp). on_two o c.args.left.width c.args.left.bits c.args.right.bits) c.in-Ge.is)

pub returns-in-Gt : goal.returns-in-Gt
returns-in-Gt c = cc (ap (λ (o : BvOp). on_two o c.args.left.width c.args.left.bits c.args.right.bits) c.in-Gt.is)

pub returns-in-Le : goal.returns-in-Le
returns-in-Le c = cc (ap (λ (o : BvOp). on_two o c.args.left.width c.args.left.bits c.args.right.bits) c.in-Le.is)

pub returns-in-Lt : goal.returns-in-Lt
returns-in-Lt c = cc (ap (λ (o : BvOp). on_two o c.args.left.width c.args.left.bits c.args.right.bits) c.in-Lt.is)

pub returns-in-Sge : goal.returns-in-Sge
returns-in-Sge c = cc (ap (λ (o : BvOp). on_two o c.args.left.width c.args.left.bits c.args.right.bits) c.in-Sge.is)

pub returns-in-Sgt : goal.returns-in-Sgt
returns-in-Sgt c = cc (ap (λ (o : BvOp). on_two o c.args.left.width c.args.left.bits c.args.right.bits) c.in-Sgt.is)

pub returns-in-Sle : goal.returns-in-Sle
returns-in-Sle c = cc (ap (λ (o : BvOp). on_two o c.args.left.width c.args.left.bits c.args.right.bits) c.in-Sle.is)

pub returns-in-Slt : goal.returns-in-Slt
returns-in-Slt c = cc (ap (λ (o : BvOp). on_two o c.args.left.width c.args.left.bits c.args.right.bits) c.in-Slt.is)
