use Rattle.term_build.proofs.Growing.{not_is_shape}
use Rattle.term_build.proofs.realising.negation.Goals as goal

pub add-requires : goal.add-requires
add-requires c = not_is_shape c.args.table.now c.is_table.ensures c.args.inner c.requires
