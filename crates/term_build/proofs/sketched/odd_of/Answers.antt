use Rattle.std.proofs.Common.{sym, subst}
use Rattle.term_shapes.specs.declared.shapes.Shape.TheVariants as shape
use Rattle.term_build.specs.Building.{no_more}
use Rattle.term_build.proofs.Fits.{IsTruthShape, xor_shape}
use Rattle.term_build.proofs.sketched.odd_of.Goals as goal

pub returns-in_default-clause-grown : goal.returns-in_default-clause-grown
returns-in_default-clause-grown c = no_more 2 c.args.table.now

pub flagged-requires : goal.flagged-requires
flagged-requires c =
    subst (λ us. IsTruthShape c.args.table.now (shape.Xor us)) (sym c.in-Ok.ensures)
    (xor_shape c.args.table.now c.is_table.ensures c.args.atoms.now c.requires.filled c.requires.sorts)
