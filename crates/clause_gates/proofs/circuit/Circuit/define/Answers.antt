use Rattle.std.proofs.Common.{◌≡◌, ℕ, Some, false, length, sym, subst}
use Rattle.clause_logic.specs.Clauses.{Listed}
use Rattle.clause_gates.specs.Gates.{gate_clauses, gate_value, IsOlder}
use Rattle.clause_gates.specs.Built.{Built, IsCircuit, of_var}
use Rattle.clause_gates.specs.Circuits.{Grows, Computes}
use Rattle.clause_gates.specs.Layout.{built_of}
use Rattle.clause_gates.proofs.Growth.{grows_same, gate_grows, gate_computes, gate_listed}
use Rattle.clause_gates.proofs.Keeping.{get_end, gate_keeps, defined, whole_rows, all_taken}
use Rattle.clause_gates.proofs.Tables.{gate_is}
use Rattle.clause_gates.proofs.circuit.Circuit.define.Goals as goal

pub returns-in_err-reserve-clause-grows : goal.returns-in_err-reserve-clause-grows
returns-in_err-reserve-clause-grows c = rw (c.reserve.ensures.items, c.self.view_is) (grows_same c.args.self.now 1)

pub returns-in_err-var-clause-grows : goal.returns-in_err-var-clause-grows
returns-in_err-var-clause-grows c = rw (c.in_err-var.ensures.err, c.reserve.ensures.items, c.self.view_is) (grows_same c.args.self.now 1)

pub invariant_of-self-in_err-add_gate : goal.invariant_of-self-in_err-add_gate
invariant_of-self-in_err-add_gate c =
    let older : IsOlder c.self.inside.search.content.vars c.args.gate = subst (λ (b : Built). IsOlder b.content.vars c.args.gate) (sym c.self.view_is) c.requires.older in
    let e = defined c.self.inside.search c.new_var.new.self c.add_gate.new.search c.in_ok-var.var c.add_gate.ensures.some.0 c.args.gate c.self.inside.gates.items c.reserve.new.self.items c.push.new.self.items c.self.inside.given.value c.self.inside.whole false c.in_ok-var.ensures.number c.in_ok-var.ensures.ok c.add_gate.ensures.some.1 c.reserve.ensures.items c.in_ok-push.ensures.items in
    subst IsCircuit (sym e) (gate_keeps (built_of c.self.inside) c.self.invariant c.args.gate c.add_gate.ensures.some.0 false older (λ h. absurd (cc h)))

pub returns-in_err-add_gate-clause-grows : goal.returns-in_err-add_gate-clause-grows
returns-in_err-add_gate-clause-grows c =
    let older : IsOlder c.self.inside.search.content.vars c.args.gate = subst (λ (b : Built). IsOlder b.content.vars c.args.gate) (sym c.self.view_is) c.requires.older in
    let e = defined c.self.inside.search c.new_var.new.self c.add_gate.new.search c.in_ok-var.var c.add_gate.ensures.some.0 c.args.gate c.self.inside.gates.items c.reserve.new.self.items c.push.new.self.items c.self.inside.given.value c.self.inside.whole false c.in_ok-var.ensures.number c.in_ok-var.ensures.ok c.add_gate.ensures.some.1 c.reserve.ensures.items c.in_ok-push.ensures.items in
    subst (λ (b : Built). Grows b (record { content = c.add_gate.new.search.content; gates = c.push.new.self.items; given = c.self.inside.given.value; whole = false }) 1) c.self.view_is (gate_grows (built_of c.self.inside) (record { content = c.add_gate.new.search.content; gates = c.push.new.self.items; given = c.self.inside.given.value; whole = false }) c.args.gate c.self.invariant.known (gate_is c.self.inside.search.content.vars c.args.gate older) c.add_gate.ensures.some.0 false e)

pub invariant_of-self-2 : goal.invariant_of-self-2
invariant_of-self-2 c =
    let older : IsOlder c.self.inside.search.content.vars c.args.gate = subst (λ (b : Built). IsOlder b.content.vars c.args.gate) (sym c.self.view_is) c.requires.older in
    let e = defined c.self.inside.search c.new_var.new.self c.add_gate.new.search c.in_ok-var.var (length (gate_clauses (of_var c.in_ok-var.var) c.args.gate)) c.args.gate c.self.inside.gates.items c.reserve.new.self.items c.push.new.self.items c.self.inside.given.value c.self.inside.whole c.self.inside.whole c.in_ok-var.ensures.number c.in_ok-var.ensures.ok (whole_rows c.new_var.new.self c.add_gate.new.search (gate_clauses (of_var c.in_ok-var.var) c.args.gate) c.in_ok-add_gate.ensures.ok) c.reserve.ensures.items c.in_ok-push.ensures.items in
    subst IsCircuit (sym e) (gate_keeps (built_of c.self.inside) c.self.invariant c.args.gate (length (gate_clauses (of_var c.in_ok-var.var) c.args.gate)) c.self.inside.whole older (λ h. (h, all_taken c.in_ok-var.var c.self.inside.search.content.vars c.args.gate c.in_ok-var.ensures.number)))

pub returns-clause-grows : goal.returns-clause-grows
returns-clause-grows c =
    let older : IsOlder c.self.inside.search.content.vars c.args.gate = subst (λ (b : Built). IsOlder b.content.vars c.args.gate) (sym c.self.view_is) c.requires.older in
    let e = defined c.self.inside.search c.new_var.new.self c.add_gate.new.search c.in_ok-var.var (length (gate_clauses (of_var c.in_ok-var.var) c.args.gate)) c.args.gate c.self.inside.gates.items c.reserve.new.self.items c.push.new.self.items c.self.inside.given.value c.self.inside.whole c.self.inside.whole c.in_ok-var.ensures.number c.in_ok-var.ensures.ok (whole_rows c.new_var.new.self c.add_gate.new.search (gate_clauses (of_var c.in_ok-var.var) c.args.gate) c.in_ok-add_gate.ensures.ok) c.reserve.ensures.items c.in_ok-push.ensures.items in
    subst (λ (b : Built). Grows b (record { content = c.add_gate.new.search.content; gates = c.push.new.self.items; given = c.self.inside.given.value; whole = c.self.inside.whole }) 1) c.self.view_is (gate_grows (built_of c.self.inside) (record { content = c.add_gate.new.search.content; gates = c.push.new.self.items; given = c.self.inside.given.value; whole = c.self.inside.whole }) c.args.gate c.self.invariant.known (gate_is c.self.inside.search.content.vars c.args.gate older) (length (gate_clauses (of_var c.in_ok-var.var) c.args.gate)) c.self.inside.whole e)

pub returns-clause-clauses : goal.returns-clause-clauses
returns-clause-clauses c = λ d i.
    let older : IsOlder c.self.inside.search.content.vars c.args.gate = subst (λ (b : Built). IsOlder b.content.vars c.args.gate) (sym c.self.view_is) c.requires.older in
    let e = defined c.self.inside.search c.new_var.new.self c.add_gate.new.search c.in_ok-var.var (length (gate_clauses (of_var c.in_ok-var.var) c.args.gate)) c.args.gate c.self.inside.gates.items c.reserve.new.self.items c.push.new.self.items c.self.inside.given.value c.self.inside.whole c.self.inside.whole c.in_ok-var.ensures.number c.in_ok-var.ensures.ok (whole_rows c.new_var.new.self c.add_gate.new.search (gate_clauses (of_var c.in_ok-var.var) c.args.gate) c.in_ok-add_gate.ensures.ok) c.reserve.ensures.items c.in_ok-push.ensures.items in
    gate_listed (built_of c.self.inside) (record { content = c.add_gate.new.search.content; gates = c.push.new.self.items; given = c.self.inside.given.value; whole = c.self.inside.whole }) c.args.gate c.self.invariant.known (gate_is c.self.inside.search.content.vars c.args.gate older) (length (gate_clauses (of_var c.in_ok-var.var) c.args.gate)) c.self.inside.whole d e
    (all_taken c.in_ok-var.var c.self.inside.search.content.vars c.args.gate c.in_ok-var.ensures.number)
    (subst (λ (v : ℕ). Listed (gate_clauses (of_var v) c.args.gate) d) c.in_ok-var.ensures.number i)

pub returns-clause-ok : goal.returns-clause-ok
returns-clause-ok c =
    let older : IsOlder c.self.inside.search.content.vars c.args.gate = subst (λ (b : Built). IsOlder b.content.vars c.args.gate) (sym c.self.view_is) c.requires.older in
    let e = defined c.self.inside.search c.new_var.new.self c.add_gate.new.search c.in_ok-var.var (length (gate_clauses (of_var c.in_ok-var.var) c.args.gate)) c.args.gate c.self.inside.gates.items c.reserve.new.self.items c.push.new.self.items c.self.inside.given.value c.self.inside.whole c.self.inside.whole c.in_ok-var.ensures.number c.in_ok-var.ensures.ok (whole_rows c.new_var.new.self c.add_gate.new.search (gate_clauses (of_var c.in_ok-var.var) c.args.gate) c.in_ok-add_gate.ensures.ok) c.reserve.ensures.items c.in_ok-push.ensures.items in
    subst (λ (v : ℕ). Computes c.add_gate.new.search.content (of_var v) (λ s. gate_value s c.args.gate)) (sym c.in_ok-var.ensures.number)
    (gate_computes (built_of c.self.inside) (record { content = c.add_gate.new.search.content; gates = c.push.new.self.items; given = c.self.inside.given.value; whole = c.self.inside.whole }) c.args.gate c.self.invariant.known (gate_is c.self.inside.search.content.vars c.args.gate older) (length (gate_clauses (of_var c.in_ok-var.var) c.args.gate)) c.self.inside.whole e
    (all_taken c.in_ok-var.var c.self.inside.search.content.vars c.args.gate c.in_ok-var.ensures.number))

pub returns-clause-told : goal.returns-clause-told
returns-clause-told c =
    let count : length c.self.inside.gates.items ≡ c.self.inside.search.content.vars = c.self.invariant.count in
    rw (c.in_ok-push.ensures.items, c.reserve.ensures.items, c.in_ok-var.ensures.number, ← count) (get_end c.self.inside.gates.items (Some c.args.gate))
