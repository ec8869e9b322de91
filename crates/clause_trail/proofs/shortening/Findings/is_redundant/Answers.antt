use Rattle.std.proofs.Common.{◌∙◌, ◌-◌, length, subst, sym}
use Rattle.clause_logic.specs.Clauses.{In}
use Rattle.clause_logic.proofs.Members.{in_from_get}
use Rattle.clause_trail.proofs.Shorter.{waits_more}
use Rattle.clause_trail.proofs.shortening.Findings.is_redundant.Goals as goal
use Rattle.clause_trail.proofs.shortening.Findings.is_redundant.Goals.{in-Some+in_ok-turn-in-Some, in-None+in-After+in_ok-push-in-After}

pub turn-requires-clause-is_false : goal.turn-requires-clause-is_false
turn-requires-clause-is_false c =
    c.loop-made.invariant.1 c.in-Some.top (subst (In c.in-Some.top) c.deref.ensures.value (in_from_get c.deref.result.now (length c.deref.result.now - 1) c.in-Some.top (sym (c.in-Some.ensures ∙ c.last.ensures.value))))

pub loop-made-preserved : goal.loop-made-preserved
loop-made-preserved c =
    elim c.match-copied.branch [
      | in-Some+in_ok-turn-in-Some w ↦ rw w.self-is (w.in_ok-turn-in-Some.ensures.found, w.in_ok-turn-in-Some.ensures.waiting)
      | in-None+in-After+in_ok-push-in-After w ↦ rw w.self-is (
        c.loop-made.invariant.0,
        waits_more c.args.state.now.order.items c.loop-made.self.waiting.items w.push.new.self.items w.in-After.first c.loop-made.invariant.1 w.in-After.ensures w.in_ok-push-in-After.ensures.items,
      )
    ]
