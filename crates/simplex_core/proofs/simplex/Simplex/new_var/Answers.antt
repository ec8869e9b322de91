use Rattle.simplex_core.proofs.ContentLemmas.{known_more, longer_rows, found_after}
use Rattle.std.proofs.Common.{length}
use Rattle.simplex_core.proofs.simplex.Simplex.new_var.Goals as goal

pub invariant_of-self : goal.invariant_of-self
invariant_of-self c = record {
  known = known_more c.self.inside.bounds.items (length c.self.inside.tableau.rows) (length c.new_var.new.self.rows) (longer_rows c.new_var.result c.self.inside.tableau c.new_var.new.self c.new_var.ensures.ok c.new_var.ensures.err) c.self.invariant.known;
  marked = c.self.invariant.marked;
  found = λ e. found_after c.new_var.result c.self.inside.tableau c.new_var.new.self c.self.inside.bounds.items c.self.inside.values.items c.new_var.ensures.ok c.new_var.ensures.column c.new_var.ensures.err (c.self.invariant.found e);
}
