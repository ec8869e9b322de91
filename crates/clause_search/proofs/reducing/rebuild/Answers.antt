use Rattle.std.proofs.Common.{ℕ, ◌≡◌, ◌∙◌, ◌≤◌, ◌++◌, ◌∷◌, [], List, ap, subst, length, arith}
use Rattle.clause_logic.specs.declared.Lit.{Lit}
use Rattle.clause_trail.specs.View.{lists_of}
use Rattle.clause_trail.specs.Changes.{Adds}
use Rattle.clause_trail.specs.declared.Added.TheVariants as added
use Rattle.clause_search.specs.Loading.{IsRoot, Impossible, Loads}
use Rattle.clause_search.specs.Solving.{IsRebuilt}
use Rattle.clause_search.proofs.Reductions.{front_known, impossible_front, rebuilt_none, rebuilt_skip, rebuilt_more, rebuilt_impossible}
use Rattle.clause_search.proofs.Rounding.{append_length}
use Rattle.clause_search.proofs.reducing.rebuild.Goals as goal
use Rattle.clause_search.proofs.reducing.rebuild.Goals.{then-keeps+in_ok-copy_clause+in_ok-add_clause+in-Kept, else-keeps}

pub load-requires : goal.load-requires
load-requires c = λ d lits l at i.
    omega (arith, front_known (lists_of c.args.state.now) c.args.added.now c.requires.front.0 c.requires.sound.base c.requires.front.1 d lits l at i, c.len.ensures, c.args.state.now.values.ok)

pub returns-in-Refuted : goal.returns-in-Refuted
returns-in-Refuted c =
    impossible_front (lists_of c.args.state.now) c.args.added.now c.requires.front.0 c.requires.front.1 (subst (Loads c.len.result c.args.added.now) c.in-Refuted.is c.in_ok-fresh.ensures)

pub loop-c-init : goal.loop-c-init
loop-c-init c =
    let root : IsRoot (lists_of c.in-Ready.fresh) c.len.result c.args.added.now = subst (Loads c.len.result c.args.added.now) c.in-Ready.is c.in_ok-fresh.ensures in
    rebuilt_none (lists_of c.args.state.now) c.args.added.now (lists_of c.in-Ready.fresh) (subst (λ (n : ℕ). IsRoot (lists_of c.in-Ready.fresh) n c.args.added.now) (c.len.ensures ∙ c.args.state.now.values.ok.0) root)

pub add_clause-requires-clause-known : goal.add_clause-requires-clause-known
add_clause-requires-clause-known c = λ l h.
    omega (arith, c.requires.sound.base.known c.loop-c.c c.in_ok-copy_clause.field-0 l c.in_ok-copy_clause.ensures h, c.loop-c.invariant.root.vars)

pub returns-in-False : goal.returns-in-False
returns-in-False c =
    let adds : Adds (lists_of c.loop-c.fresh) (lists_of c.add_clause.new.self) c.in_ok-copy_clause.field-0 added.False =
    subst (λ a. Adds (lists_of c.loop-c.fresh) (lists_of c.add_clause.new.self) c.in_ok-copy_clause.field-0 a) c.in-False.is c.in_ok-add_clause.ensures.added in
    rebuilt_impossible (lists_of c.args.state.now) c.args.added.now (lists_of c.loop-c.fresh) c.loop-c.c c.lits_at.result.now c.requires.front.0 c.loop-c.invariant c.requires.front.1 c.lits_at.ensures
    (subst (λ (cs : List (List Lit)). Impossible (cs ++ c.lits_at.result.now ∷ [])) adds.1.clauses c.in_ok-refute-in-False.ensures)

pub loop-c-preserved : goal.loop-c-preserved
loop-c-preserved c =
    elim c.if-keeps.branch [
      | then-keeps+in_ok-copy_clause+in_ok-add_clause+in-Kept w ↦ rw w.fresh-is
          (rebuilt_more (lists_of c.args.state.now) c.args.added.now (lists_of c.loop-c.fresh) (lists_of w.add_clause.new.self) c.loop-c.c w.in_ok-copy_clause.field-0 c.loop-c.invariant (omega (arith, c.loop-c.auto.c)) w.in_ok-copy_clause.ensures
          w.add_clause.ensures.sound w.add_clause.ensures.starts w.add_clause.ensures.vars
          (subst (λ a. Adds (lists_of c.loop-c.fresh) (lists_of w.add_clause.new.self) w.in_ok-copy_clause.field-0 a) w.in-Kept.is w.in_ok-add_clause.ensures.added))
      | else-keeps w ↦ rw w.fresh-is (rebuilt_skip (lists_of c.args.state.now) c.args.added.now (lists_of c.loop-c.fresh) c.loop-c.c c.loop-c.invariant)
    ]

pub returns : goal.returns
returns c =
    let front : length c.args.added.now ≤ length c.args.state.now.clauses.items = omega (arith, ap length c.requires.front.1, append_length c.args.added.now c.requires.front.0) in
    let e : c.loop-c.c ≡ length c.args.state.now.clauses.items = omega (arith, front, c.loop-c-test.false, c.loop-c.auto.c-end, c.len-c-end.ensures, c.args.state.now.clauses.ok) in
    subst (λ (n : ℕ). IsRebuilt (lists_of c.args.state.now) (lists_of c.loop-c.fresh) c.args.added.now n) e c.loop-c.invariant
