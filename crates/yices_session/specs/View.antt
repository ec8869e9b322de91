-- What the session of the code keeps.
use Rattle.std.specs.Prelude.{map, reverse, string_bytes}
use Rattle.std.specs.Option.{option_map}
use Rattle.yices_session.specs.declared.session.Session.TheInside.{Inside}
use Rattle.yices_session.specs.Held.{Held}

-- what the fields of a session hold
abbrev pub held_of : Inside → Held
held_of s = record { env = s.env; declared = map (λ d. record { name = d.name; term = d.term; has_value = d.has_value }) s.declared.items; parts = s.parts.items; formulas = s.formulas.items; marks = reverse s.marks.items; model = s.model; core = option_map (λ c. record { terms = c.terms; line = string_bytes c.line }) s.core; turns = s.turns }
