-- A tableau's fields as a state.
use Rattle.simplex_table.specs.declared.Tableau.TheInside.{Inside}
use Rattle.simplex_table.specs.View.{State, Sound}

-- what contracts see
abbrev pub state_of : Inside → State
state_of t = record { rows = t.rows.value; columns = t.columns.items; table = t.table.items }

-- what a tableau keeps
abbrev pub IsSound : Inside → Type 0
IsSound t = Sound (state_of t)
