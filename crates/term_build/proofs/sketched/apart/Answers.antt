use Rattle.std.proofs.Common.{sym, subst}
use Rattle.term_shapes.specs.declared.handles.TypeId.{TypeId}
use Rattle.term_shapes.specs.declared.shapes.Shape.TheVariants as shape
use Rattle.term_table.specs.Checking.{IsShape}
use Rattle.term_build.specs.Building.{no_more}
use Rattle.term_build.proofs.Fits.{distinct_shape}
use Rattle.term_build.proofs.sketched.apart.Goals as goal

pub returns-in_default-clause-grown : goal.returns-in_default-clause-grown
returns-in_default-clause-grown c = no_more 1 c.args.table.now

pub add-requires : goal.add-requires
add-requires c =
    subst (λ us. (of : TypeId) × IsShape c.args.table.now (shape.Distinct us) of) (sym c.in-Ok.ensures)
    (distinct_shape c.sorts_are_decided.ensures c.args.table.now c.is_table.ensures c.args.atoms.now c.requires.sorts.0 c.requires.filled c.requires.sorts.1)
