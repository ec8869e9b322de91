use Rattle.term_build.proofs.Fits.{eq_shape}
use Rattle.term_build.proofs.sketched.equal.Goals as goal

pub flagged-requires : goal.flagged-requires
flagged-requires c = eq_shape c.sorts_are_decided.ensures c.args.table.now c.is_table.ensures c.args.left c.args.right c.requires.0 c.requires.1 c.requires.2
