-- The refusals of the table as those of a call.
use Rattle.shape_rules.specs.declared.errors.ShapeError.{ShapeError}
use Rattle.shape_rules.specs.declared.errors.ShapeError.TheVariants as shape_refusal
use Rattle.shape_rules.specs.declared.errors.TableError.{TableError}
use Rattle.shape_rules.specs.declared.errors.TableError.TheVariants as error
use Rattle.term_build.specs.declared.errors.BuildError.{BuildError}
use Rattle.term_build.specs.declared.errors.BuildError.TheVariants as refusal

-- the refusal of a shape that is no atom
abbrev pub told : ShapeError → BuildError
told shape_refusal.Atom = refusal.NoMemory
told (shape_refusal.DeadTerm place) = refusal.DeadTerm place
told (shape_refusal.BadArity n) = refusal.BadArity n
told (shape_refusal.WrongType place want found) = refusal.WrongType place want found
told (shape_refusal.WidthsDiffer place left right) = refusal.WidthsDiffer place left right
told (shape_refusal.BadWidth n) = refusal.BadWidth n
told shape_refusal.BadRange = refusal.BadRange

-- the refusal of a new term
abbrev pub refused : TableError → BuildError
refused error.TableFull = refusal.TableFull
refused _ = refusal.NoMemory
