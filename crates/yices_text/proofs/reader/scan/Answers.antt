use Rattle.std.proofs.Common.{◌∙◌, sym}
use Rattle.yices_text.proofs.Holding.{works_some}
use Rattle.yices_text.proofs.reader.scan.Goals as goal

pub returns-then-is_some : goal.returns-then-is_some
returns-then-is_some c = λ fed answered w. works_some fed c.args.piece.now answered c.args.scanner.now c.args.fault (sym c.is_some.ensures ∙ c.if-is_some.true) w
