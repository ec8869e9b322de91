use Rattle.std.proofs.Common.{ℕ, ◌-◌, subst, ◌∙◌, ap, length}
use Rattle.clause_trail.specs.View.{lists_of}
use Rattle.clause_trail.specs.Changes.{Settles, Derives}
use Rattle.clause_search.proofs.Rounding.{core_round, over_round, turn_going, turn_falls, turn_recorded}
use Rattle.clause_search.proofs.solving.learn_from.Goals as goal

pub returns-in-Core : goal.returns-in-Core
returns-in-Core g c =
    core_round (lists_of c.args.state.now) c.args.added.now (g.C.Checker.stands c.args.checker.now) c.args.assumed.now c.requires.going
    (lists_of c.settle.new.self) c.args.lits.now c.in-Core.core c.settle.ensures.clauses c.requires.follows
    (subst (λ s. Settles (lists_of c.settle.new.self) c.args.assumed.now c.args.lits.now s) c.in-Core.is c.in_ok-core.ensures.settles)

pub returns-then-is_limit : goal.returns-then-is_limit
returns-then-is_limit g c =
    let derives : Derives (lists_of c.settle.new.self) c.args.assumed.now c.args.lits.now c.in-Derived.clause =
    subst (λ s. Settles (lists_of c.settle.new.self) c.args.assumed.now c.args.lits.now s) c.in-Derived.is c.in_ok-core.ensures.settles in
    over_round (lists_of c.args.state.now) c.args.added.now (g.C.Checker.stands c.args.checker.now) c.args.assumed.now c.requires.going
    (lists_of c.settle.new.self) c.args.lits.now c.in-Derived.clause c.settle.ensures.sound c.settle.ensures.clauses c.settle.ensures.vars c.requires.follows derives
    c.args.turns _ c.in_ok-record-in-Derived.record c.requires.recorded c.if-is_limit.ensures (ap (λ (n : ℕ). n - length c.args.added.now) (c.len.ensures ∙ c.settle.new.self.clauses.ok.0)) c.in_ok-record-in-Derived.ensures

pub returns-in_ok-keep-in-Derived : goal.returns-in_ok-keep-in-Derived
returns-in_ok-keep-in-Derived g c =
    let derives : Derives (lists_of c.settle.new.self) c.args.assumed.now c.args.lits.now c.in-Derived.clause =
    subst (λ s. Settles (lists_of c.settle.new.self) c.args.assumed.now c.args.lits.now s) c.in-Derived.is c.in_ok-core.ensures.settles in (
      turn_going (lists_of c.args.state.now) c.args.added.now (g.C.Checker.stands c.args.checker.now) c.args.assumed.now c.requires.going
          (lists_of c.settle.new.self) c.args.lits.now c.in-Derived.clause c.settle.ensures.sound c.settle.ensures.clauses c.settle.ensures.vars c.requires.follows derives
          (lists_of c.keep.new.self) c.keep.ensures.sound c.in_ok-keep-in-Derived.ensures.clauses (c.in_ok-keep-in-Derived.ensures.chosen c.args.assumed.now c.settle.ensures.chosen),
      c.keep.ensures.vars ∙ c.settle.ensures.vars,
      turn_falls (lists_of c.args.state.now) c.args.added.now (g.C.Checker.stands c.args.checker.now) c.args.assumed.now c.requires.going
          (lists_of c.settle.new.self) c.args.lits.now c.in-Derived.clause c.settle.ensures.sound c.settle.ensures.clauses c.settle.ensures.vars c.requires.follows derives
          (lists_of c.keep.new.self) c.in_ok-keep-in-Derived.ensures.clauses c.keep.ensures.vars,
      turn_recorded (lists_of c.args.state.now) c.args.added.now (g.C.Checker.stands c.args.checker.now) c.args.assumed.now c.requires.going
          (lists_of c.settle.new.self) c.args.lits.now c.in-Derived.clause c.settle.ensures.sound c.settle.ensures.clauses c.settle.ensures.vars c.requires.follows derives
          c.args.turns (lists_of c.keep.new.self) c.in_ok-keep-in-Derived.ensures.clauses c.requires.recorded,
    )
