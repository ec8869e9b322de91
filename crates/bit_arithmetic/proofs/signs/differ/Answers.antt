use Rattle.std.proofs.Common.{Bool, sym, ap}
use Rattle.y_tree.specs.BitVectors.{differ}
use Rattle.bit_arithmetic.proofs.signs.differ.Goals as goal

pub returns-then-left : goal.returns-then-left
returns-then-left c = sym (ap (λ (b : Bool). differ b c.args.right) c.if-left.true)

pub returns-else-left : goal.returns-else-left
returns-else-left c = sym (ap (λ (b : Bool). differ b c.args.right) c.if-left.false)
