use Rattle.std.proofs.Common.{arith, subst, sym}
use Rattle.clause_trail.specs.View.{lists_of, Lists}
use Rattle.clause_trail.specs.Changes.{Roomier}
use Rattle.clause_trail.proofs.Rows.{code_below}
use Rattle.clause_trail.proofs.Growing.{roomier_then}
use Rattle.clause_trail.proofs.Attaching.{listed_one, both_listed}
use Rattle.clause_trail.proofs.State.list_both.Goals as goal

pub returns-in_err-list-2-clause-roomier : goal.returns-in_err-list-2-clause-roomier
returns-in_err-list-2-clause-roomier c =
    subst (λ (u : Lists). Roomier (lists_of c.args.self.now) u) (sym c.in_err-list-2.ensures.err)
    (listed_one (lists_of c.args.self.now) (lists_of c.list.new.self) c.args.pair.first c.args.c c.in_ok-list.ensures.ok
    (omega (arith, code_below c.args.pair.first _ c.requires.known.0, c.requires.rows))).0

pub returns-clause-roomier : goal.returns-clause-roomier
returns-clause-roomier c =
    let a = listed_one (lists_of c.args.self.now) (lists_of c.list.new.self) c.args.pair.first c.args.c c.in_ok-list.ensures.ok
    (omega (arith, code_below c.args.pair.first _ c.requires.known.0, c.requires.rows)) in
    let b = listed_one (lists_of c.list.new.self) (lists_of c.list-2.new.self) c.args.pair.second c.args.c c.in_ok-list-2.ensures.ok
    (omega (arith, code_below c.args.pair.second _ c.requires.known.1, c.requires.rows, a.0.rows)) in
    roomier_then (lists_of c.args.self.now) (lists_of c.list.new.self) (lists_of c.list-2.new.self) a.0 b.0

pub returns-clause-ok : goal.returns-clause-ok
returns-clause-ok c =
    let a = listed_one (lists_of c.args.self.now) (lists_of c.list.new.self) c.args.pair.first c.args.c c.in_ok-list.ensures.ok
    (omega (arith, code_below c.args.pair.first _ c.requires.known.0, c.requires.rows)) in
    let b = listed_one (lists_of c.list.new.self) (lists_of c.list-2.new.self) c.args.pair.second c.args.c c.in_ok-list-2.ensures.ok
    (omega (arith, code_below c.args.pair.second _ c.requires.known.1, c.requires.rows, a.0.rows)) in
    λ _. both_listed c.list.new.self.watches.items c.list-2.new.self.watches.items c.args.pair c.args.c a.1 b.0.listed b.1
