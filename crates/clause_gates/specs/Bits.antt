-- Literals under an assignment.
use Rattle.std.specs.Prelude.{ℕ, Bool, true, false, not, ◌&&◌, ◌||◌, if◌then◌else◌}
use Rattle.clause_logic.specs.declared.Lit.{Lit}

-- the truth value of a literal
abbrev pub value_under : (ℕ → Bool) → Lit → Bool
value_under s l = if l.positive then s l.var else not (s l.var)

-- at least two of three truth values are true
abbrev pub majority : Bool → Bool → Bool → Bool
majority true b c = b || c
majority false b c = b && c
