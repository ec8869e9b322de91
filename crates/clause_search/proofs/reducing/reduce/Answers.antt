use Rattle.std.proofs.Common.{subst, sym, length}
use Rattle.clause_trail.specs.View.{lists_of, Lists}
use Rattle.clause_search.specs.Solving.{Rebuilds, IsRebuilt}
use Rattle.clause_search.proofs.Reductions.{rebuilt_going, refuted_core}
use Rattle.clause_search.proofs.reducing.reduce.Goals as goal

pub rebuild-requires-clause-front : goal.rebuild-requires-clause-front
rebuild-requires-clause-front g c = (c.requires.learned, c.requires.clauses)

pub returns-in-Refuted : goal.returns-in-Refuted
returns-in-Refuted g c =
    refuted_core (lists_of c.args.state.now) c.args.added.now (g.C.Checker.stands c.args.checker.now) c.args.assumed.now c.requires
    (subst (Rebuilds (lists_of c.args.state.now) c.args.added.now) c.in-Refuted.is c.in_ok-rebuild.ensures)

pub returns-in-Ready : goal.returns-in-Ready
returns-in-Ready g c =
    let so : IsRebuilt (lists_of c.args.state.now) (lists_of c.in-Ready.fresh) c.args.added.now (length c.args.state.now.clauses.items) = subst (Rebuilds (lists_of c.args.state.now) c.args.added.now) c.in-Ready.is c.in_ok-rebuild.ensures in
    rebuilt_going (lists_of c.args.state.now) c.args.added.now (g.C.Checker.stands c.args.checker.now) c.args.assumed.now c.requires (lists_of c.hand_over.new.to) (length c.args.state.now.clauses.items)
    (subst (λ (t : Lists). IsRebuilt (lists_of c.args.state.now) t c.args.added.now (length c.args.state.now.clauses.items)) (sym c.hand_over.ensures) so)
