use Rattle.std.proofs.Common.{Some, ◌≡◌, ◌∙◌, ap, sym, subst, arith}
use Rattle.std.specs.Prelude.{slice_get}
use Rattle.clause_logic.specs.Clauses.{In}
use Rattle.clause_logic.proofs.Members.{in_from_get}
use Rattle.clause_trail.specs.View.{lists_of}
use Rattle.clause_trail.specs.Changes.{Adds}
use Rattle.clause_trail.specs.declared.Added.TheVariants as added
use Rattle.clause_trail.proofs.Counts.{read_there}
use Rattle.clause_search.proofs.Loads.{impossible_more}
use Rattle.clause_search.proofs.loading.load.Goals as goal

pub add_clause-requires-clause-known : goal.add_clause-requires-clause-known
add_clause-requires-clause-known c = λ l h.
    let at : slice_get c.args.added.now c.loop-clause.clause-index ≡ Some c.clause-item.result = read_there c.args.added.now c.loop-clause.clause-index c.clause-item.result c.loop-clause-test.true c.clause-item.is in
    let e : c.from_vec.result ≡ c.clause-item.result = c.from_vec.ensures ∙ c.in_ok-lits.ensures.items ∙ c.as_slice.ensures in
    omega (arith, c.loop-clause.invariant.vars, c.requires c.loop-clause.clause-index c.clause-item.result l at (subst (In l) e (in_from_get c.from_vec.result h.at l h.is)))

pub returns-in-False : goal.returns-in-False
returns-in-False c =
    let at : slice_get c.args.added.now c.loop-clause.clause-index ≡ Some c.clause-item.result = read_there c.args.added.now c.loop-clause.clause-index c.clause-item.result c.loop-clause-test.true c.clause-item.is in
    let adds : Adds (lists_of c.loop-clause.state) (lists_of c.add_clause.new.self) c.from_vec.result added.False =
    subst (λ a. Adds (lists_of c.loop-clause.state) (lists_of c.add_clause.new.self) c.from_vec.result a) c.in-False.is c.in_ok-add_clause.ensures.added in
    impossible_more c.args.added.now c.add_clause.new.self.clauses.items c.loop-clause.clause-index c.as_slice-in-False.result.now
    (adds.1.clauses ∙ c.loop-clause.invariant.clauses) (at ∙ ap Some (sym c.as_slice-in-False.ensures)) c.in_ok-refute-in-False.ensures
