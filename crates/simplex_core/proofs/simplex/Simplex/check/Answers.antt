use Rattle.std.proofs.Common.{◌<◌, length, sym, subst}
use Rattle.simplex_core.specs.Solving.{IsFound, IsSolved}
use Rattle.simplex_core.proofs.TurnLemmas.{no_false}
use Rattle.simplex_core.proofs.ContentLemmas.{known_rows}
use Rattle.std.specs.Prelude.{Contains}
use Rattle.simplex_bounds.specs.declared.Bound.{Bound}
use Rattle.simplex_core.proofs.simplex.Simplex.check.Goals as goal

pub solve-requires : goal.solve-requires
solve-requires c = subst (λ bs. (b : Bound) → Contains bs b → b.variable < length c.self.inside.tableau.rows) (sym c.deref.ensures.value) c.self.invariant.known

pub invariant_of-self : goal.invariant_of-self
invariant_of-self c =
    let found : IsFound c.solve.new.tableau c.deref.result.now c.solve.new.values.items = subst (λ r. IsSolved c.solve.new.tableau c.deref.result.now c.solve.new.values.items r) c.in-Ok-None.field-0-is c.in-Ok-None.ensures.ok in
    record {
      known = known_rows c.self.inside.bounds.items c.self.inside.tableau.rows c.solve.new.tableau.rows c.solve.ensures.rows c.self.invariant.known;
      marked = c.self.invariant.marked;
      found = λ e. subst (λ bs. IsFound c.solve.new.tableau bs c.solve.new.values.items) c.deref.ensures.value found;
    }

pub invariant_of-self-in-Ok-Some : goal.invariant_of-self-in-Ok-Some
invariant_of-self-in-Ok-Some c = record {
  known = known_rows c.self.inside.bounds.items c.self.inside.tableau.rows c.solve.new.tableau.rows c.solve.ensures.rows c.self.invariant.known;
  marked = c.self.invariant.marked;
  found = λ e. absurd (no_false e);
}

pub invariant_of-self-in-Err-Wide : goal.invariant_of-self-in-Err-Wide
invariant_of-self-in-Err-Wide c = record {
  known = known_rows c.self.inside.bounds.items c.self.inside.tableau.rows c.solve.new.tableau.rows c.solve.ensures.rows c.self.invariant.known;
  marked = c.self.invariant.marked;
  found = λ e. absurd (no_false e);
}

pub invariant_of-self-in-Err-NoMemory : goal.invariant_of-self-in-Err-NoMemory
invariant_of-self-in-Err-NoMemory c = record {
  known = known_rows c.self.inside.bounds.items c.self.inside.tableau.rows c.solve.new.tableau.rows c.solve.ensures.rows c.self.invariant.known;
  marked = c.self.invariant.marked;
  found = λ e. absurd (no_false e);
}
