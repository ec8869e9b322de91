-- What each verdict says, and when a check is refused.
use Rattle.std.specs.Prelude.{Bool, List}
use Rattle.term_shapes.specs.declared.handles.Term.{Term}
use Rattle.term_table.specs.World.{World}
use Rattle.theory_combine.specs.declared.Learned.{Learned}
use Rattle.term_checks.specs.declared.answers.TermVerdict.{TermVerdict}
use Rattle.term_checks.specs.declared.answers.TermVerdict.TheVariants.{Sat, Unsat, Unknown}
use Rattle.term_checks.specs.declared.answers.CheckError.{CheckError}
use Rattle.term_checks.specs.declared.answers.CheckError.TheVariants as error
use Rattle.term_checks.specs.Formulas.{HasOtherSort}

-- what `Sat` says
abbrev pub IfSat : TermVerdict → (List (Term × Bool) → Type 0) → Type 0
IfSat (Sat values) P = P values
IfSat (Unsat core) P = Unit {0}
IfSat (Unknown learned) P = Unit {0}

-- what `Unsat` says
abbrev pub IfUnsat : TermVerdict → (List Term → Type 0) → Type 0
IfUnsat (Sat values) P = Unit {0}
IfUnsat (Unsat core) P = P core
IfUnsat (Unknown learned) P = Unit {0}

-- what `Unknown` says
abbrev pub IfUnknown : TermVerdict → (Learned → Type 0) → Type 0
IfUnknown (Sat values) P = Unit {0}
IfUnknown (Unsat core) P = Unit {0}
IfUnknown (Unknown learned) P = P learned

-- a term below the roots has another sort, or memory is refused
abbrev pub RefusesCheck : World → List Term → CheckError → Type 0
RefusesCheck w roots error.NotBuilt = HasOtherSort w roots
RefusesCheck w roots error.NoMemory = Unit {0}
