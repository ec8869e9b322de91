-- How a circuit is kept.
use Rattle.clause_gates.specs.declared.circuit.Circuit.TheInside.{Inside}
use Rattle.clause_gates.specs.Built.{Built, IsCircuit}

-- what contracts see of a circuit
abbrev pub built_of : Inside → Built
built_of c = record { content = c.search.content; gates = c.gates.items; given = c.given.value; whole = c.whole }

-- what a circuit keeps
abbrev pub IsLaidOut : Inside → Type 0
IsLaidOut c = IsCircuit (built_of c)
