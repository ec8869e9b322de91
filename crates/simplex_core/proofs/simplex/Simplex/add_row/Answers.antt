use Rattle.std.proofs.Common.{◌≤◌, ap, ◌∷◌, [], Some, subst, length, length-append, arith}
use Rattle.simplex_table.specs.View.{form_of}
use Rattle.simplex_core.specs.Content.{Content}
use Rattle.simplex_core.specs.Wides.{OnStop, IsWide, KnownOr}
use Rattle.simplex_core.proofs.TurnLemmas.{no_false}
use Rattle.simplex_core.proofs.ContentLemmas.{known_more}
use Rattle.simplex_core.proofs.WideLemmas.{row_stops}
use Rattle.simplex_core.proofs.simplex.Simplex.add_row.Goals as goal

pub invariant_of-self : goal.invariant_of-self
invariant_of-self c =
    let longer : length c.self.inside.tableau.rows ≤ length c.add_row.new.self.rows = omega (arith, ap length c.in-Ok.ensures.ok, length-append c.self.inside.tableau.rows (Some (form_of c.args.row.now) ∷ [])) in
    record {
      known = known_more c.self.inside.bounds.items (length c.self.inside.tableau.rows) (length c.add_row.new.self.rows) longer c.self.invariant.known;
      marked = c.self.invariant.marked;
      found = λ e. absurd (no_false e);
    }

pub invariant_of-self-in-Err : goal.invariant_of-self-in-Err
invariant_of-self-in-Err c = rw c.in-Err.ensures.err c.self.invariant

pub returns-in-Err-clause-wide : goal.returns-in-Err-clause-wide
returns-in-Err-clause-wide c =
    subst (λ (o : Content). OnStop (IsWide o.rows (KnownOr o.rows (form_of c.args.row.now)) o.bounds) c.stop_at.result) c.self.view_is
    (row_stops c.self.inside.tableau c.add_row.new.self (form_of c.args.row.now) c.self.inside.bounds.items c.in-Err.error c.stop_at.result c.in-Err.ensures.err c.stop_at.ensures c.in-Err.ensures.wide)
