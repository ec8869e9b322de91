use Rattle.std.proofs.Common.{ap, sym, ◌∙◌, length}
use Rattle.simplex_core.specs.Content.{Content}
use Rattle.simplex_core.proofs.TurnLemmas.{no_false}
use Rattle.simplex_core.proofs.ContentLemmas.{known_taken, rising_back, saved_back}
use Rattle.simplex_core.proofs.simplex.Simplex.back.Goals as goal

pub invariant_of-self : goal.invariant_of-self
invariant_of-self c = record {
  known = known_taken c.self.inside.bounds.items c.truncate.new.self.items c.in-Some.mark (length c.self.inside.tableau.rows) c.truncate.ensures.items c.self.invariant.known;
  marked = rising_back c.self.inside.bounds.items c.truncate.new.self.items c.self.inside.marks.items c.pop.new.self.items c.in-Some.mark c.self.invariant.marked c.in-Some.ensures.items c.truncate.ensures.items;
  found = λ e. absurd (no_false e);
}

pub returns-in-Some-clause-bounds : goal.returns-in-Some-clause-bounds
returns-in-Some-clause-bounds c =
    sym (ap (λ (o : Content). o.saved) c.self.view_is)
    ∙ saved_back c.self.inside.bounds.items c.truncate.new.self.items c.self.inside.marks.items c.pop.new.self.items c.in-Some.mark c.self.invariant.marked c.in-Some.ensures.items c.truncate.ensures.items
