use Rattle.std.proofs.Common.{◌∙◌, refl, None, []}
use Rattle.std.proofs.lemmas.Result.{err_from_is_err_and}
use Rattle.yices_commands.specs.Plain.{plain}
use Rattle.expression_terms.specs.Building.{cause_in}
use Rattle.expression_terms.specs.Trees.{tree_of}
use Rattle.expression_terms.specs.declared.refusal.Stop.TheVariants as stop
use Rattle.yices_session.specs.Held.{Held}
use Rattle.yices_session.specs.State.{scope_of}
use Rattle.yices_session.specs.View.{held_of}
use Rattle.yices_session.proofs.Asserting.{asserted_moves}
use Rattle.yices_session.proofs.Defining.{built_halts, unbuilt_halts}
use Rattle.yices_session.proofs.Stopping.{halted_session, moved_session, halts_seen, moves_seen}
use Rattle.yices_session.proofs.Viewing.{held_pushed}
use Rattle.yices_session.proofs.session.Session.assert.Goals as goal

pub invariant_of-self : goal.invariant_of-self
invariant_of-self c =
    let h : Held = held_of c.self.inside in
    halted_session _ h _ (built_halts h c.build.new.env (plain c.args.formula.now) c.is_world.ensures.table c.in_err-term.ensures.adds (λ s. None) _ stop.NoMemory refl refl) c.self.invariant

pub returns-in_err-term-clause-stopped : goal.returns-in_err-term-clause-stopped
returns-in_err-term-clause-stopped c =
    let h : Held = held_of c.self.inside in
    let p = err_from_is_err_and c.from_residual.result c.from_residual.ensures.1 in
    rw (p.1, p.2) (halts_seen _ h _ _ c.self.view_is (unbuilt_halts h c.build.new.env (plain c.args.formula.now) c.is_world.ensures.table c.in_err-term.ensures.adds _ c.in_err-term.ensures.built
    (λ s. cause_in (tree_of (scope_of s.names) (plain c.args.formula.now))) (λ s st. refl) _ refl))

pub invariant_of-self-in_err-append : goal.invariant_of-self-in_err-append
invariant_of-self-in_err-append c =
    let h : Held = held_of c.self.inside in
    let is = held_pushed h c.build.new.env h.formulas c.append.new.list.items c.in_err-append.ensures.err in
    halted_session _ h _ (built_halts h c.build.new.env (plain c.args.formula.now) c.is_world.ensures.table c.in_ok-term.ensures.adds (λ s. None) _ stop.NoMemory is refl) c.self.invariant

pub returns-in_err-append-clause-stopped : goal.returns-in_err-append-clause-stopped
returns-in_err-append-clause-stopped c =
    let h : Held = held_of c.self.inside in
    let is = held_pushed h c.build.new.env h.formulas c.append.new.list.items c.in_err-append.ensures.err in
    let p = err_from_is_err_and c.from_residual-in_err-append.result c.from_residual-in_err-append.ensures.1 in
    rw p.1 (halts_seen _ h _ _ c.self.view_is (built_halts h c.build.new.env (plain c.args.formula.now) c.is_world.ensures.table c.in_ok-term.ensures.adds
    (λ s. cause_in (tree_of (scope_of s.names) (plain c.args.formula.now))) _ p.0 is (p.2 ∙ c.in_err-append.ensures.cause)))

pub invariant_of-self-2 : goal.invariant_of-self-2
invariant_of-self-2 c =
    let h : Held = held_of c.self.inside in
    let is = held_pushed (let k : Held = record h { model = None; core = None } in k) c.build.new.env _ c.append.new.list.items c.in_ok-append.ensures.ok in
    moved_session _ h [] _
    (asserted_moves h c.build.new.env (plain c.args.formula.now) c.in_ok-term.term c.is_world.ensures.table c.in_ok-term.ensures.adds c.known.ensures c.is_world-2.ensures.table c.in_ok-term.ensures.built _ is) c.self.invariant

pub returns-clause-step : goal.returns-clause-step
returns-clause-step c =
    let h : Held = held_of c.self.inside in
    let is = held_pushed (let k : Held = record h { model = None; core = None } in k) c.build.new.env _ c.append.new.list.items c.in_ok-append.ensures.ok in
    moves_seen _ h _ [] _ c.self.view_is
    (asserted_moves h c.build.new.env (plain c.args.formula.now) c.in_ok-term.term c.is_world.ensures.table c.in_ok-term.ensures.adds c.known.ensures c.is_world-2.ensures.table c.in_ok-term.ensures.built _ is)
