use Rattle.std.proofs.Common.{◌≡◌, ◌<◌, ◌≤◌, ◌++◌, ◌∷◌, [], List, None, ap, sym, subst, length, length-append, arith}
use Rattle.simplex_bounds.specs.declared.Bound.{Bound}
use Rattle.simplex_core.specs.Content.{Content}
use Rattle.simplex_core.specs.Inside.{saved_of, Rising}
use Rattle.std.specs.Prelude.{Contains}
use Rattle.simplex_core.proofs.TurnLemmas.{no_false}
use Rattle.simplex_core.proofs.ContentLemmas.{known_given, rising_more, saved_given, content, given_content}
use Rattle.simplex_core.specs.Solving.{IsFound}
use Rattle.simplex_core.proofs.simplex.Simplex.give.Goals as goal

pub invariant_of-self : goal.invariant_of-self
invariant_of-self c =
    let same : c.push.new.self.items ≡ c.self.inside.bounds.items = c.in_err-push.ensures.items in
    record {
      known = subst (λ bs. (b : Bound) → Contains bs b → b.variable < length c.self.inside.tableau.rows) (sym same) c.self.invariant.known;
      marked = subst (λ (bs : List Bound). Rising c.self.inside.marks.items (length bs)) (sym same) c.self.invariant.marked;
      found = λ e. subst (λ bs. IsFound c.self.inside.tableau bs c.self.inside.values.items) (sym same) (c.self.invariant.found e);
    }

pub invariant_of-self-2 : goal.invariant_of-self-2
invariant_of-self-2 c =
    let known : c.args.bound.variable < length c.self.inside.tableau.rows = subst (λ (o : Content). c.args.bound.variable < length o.rows) (sym c.self.view_is) c.requires in
    let longer : length c.self.inside.bounds.items ≤ length c.push.new.self.items = omega (arith, ap length c.in_ok-push.ensures.items, length-append c.self.inside.bounds.items (c.args.bound ∷ [])) in
    record {
      known = known_given c.self.inside.bounds.items c.push.new.self.items c.args.bound (length c.self.inside.tableau.rows) c.in_ok-push.ensures.items known c.self.invariant.known;
      marked = rising_more c.self.inside.marks.items (length c.self.inside.bounds.items) (length c.push.new.self.items) longer c.self.invariant.marked;
      found = λ e. absurd (no_false e);
    }

pub returns-clause-ok : goal.returns-clause-ok
returns-clause-ok c =
    let s = saved_given c.self.inside.bounds.items c.push.new.self.items c.args.bound c.self.inside.marks.items c.in_ok-push.ensures.items c.self.invariant.marked in
    subst (λ (o : Content). content c.self.inside.tableau.rows c.push.new.self.items (saved_of c.push.new.self.items c.self.inside.marks.items) None ≡ content o.rows (o.bounds ++ c.args.bound ∷ []) o.saved None) c.self.view_is
    (given_content c.self.inside.tableau.rows c.push.new.self.items (c.self.inside.bounds.items ++ c.args.bound ∷ []) (saved_of c.push.new.self.items c.self.inside.marks.items) (saved_of c.self.inside.bounds.items c.self.inside.marks.items)
    c.in_ok-push.ensures.items s)
