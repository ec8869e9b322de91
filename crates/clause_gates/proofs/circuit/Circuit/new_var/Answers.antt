use Rattle.clause_gates.specs.Layout.{built_of}
use Rattle.clause_gates.proofs.Keeping.{var_keeps}
use Rattle.clause_gates.proofs.circuit.Circuit.new_var.Goals as goal

pub invariant_of-self-2 : goal.invariant_of-self-2
invariant_of-self-2 c = rw (c.in_ok-var.ensures.ok, c.in_ok-push.ensures.items, c.reserve.ensures.items) (var_keeps (built_of c.self.inside) c.self.invariant)
