use Rattle.std.proofs.Common.{Bool, false, get_or, subst, take}
use Rattle.std.specs.Bool.{OnTrue}
use Rattle.std.proofs.lemmas.List.{take_more}
use Rattle.clause_logic.specs.declared.Lit.{Lit}
use Rattle.clause_logic.specs.Clauses.{Listed}
use Rattle.clause_logic.proofs.Members.{in_at}
use Rattle.clause_trail.specs.Shortening.{IsRedundant}
use Rattle.clause_trail.proofs.Shorter.{kept_more, kept_among, left_more}
use Rattle.clause_trail.proofs.shortening.shorten.Goals as goal
use Rattle.clause_trail.proofs.shortening.shorten.Goals.{then-not-branch+in_ok-push, else-not-branch}

abbrev none : Lit
none = record { var = 0; positive = false }

pub is_redundant-requires-clause-is_false : goal.is_redundant-requires-clause-is_false
is_redundant-requires-clause-is_false c = c.requires.false_there _ (in_at c.args.lits.now c.loop-lit.lit-index none c.loop-lit-test.true)

pub loop-lit-preserved : goal.loop-lit-preserved
loop-lit-preserved c =
    let x : Lit = get_or c.args.lits.now c.loop-lit.lit-index none in
    let seen = take c.loop-lit.lit-index c.args.lits.now in
    let so = c.loop-lit.invariant in
    elim c.if-not-branch.branch [
      | then-not-branch+in_ok-push w ↦ rw w.kept-is (record {
        found = c.in_ok-is_redundant.ensures.found;
        among = kept_among (Listed c.args.state.now.clauses.items) c.args.state.now.order.items c.args.lits.now seen c.loop-lit.kept.items x so.among so.each w.push.new.self.items w.in_ok-push.ensures.items (in_at c.args.lits.now c.loop-lit.lit-index none c.loop-lit-test.true);
        each = λ m i. kept_more (Listed c.args.state.now.clauses.items) c.args.state.now.order.items c.args.lits.now seen c.loop-lit.kept.items x so.among so.each w.push.new.self.items w.in_ok-push.ensures.items m
            (rw (take_more c.args.lits.now c.loop-lit.lit-index none c.loop-lit-test.true) at i);
      })
      | else-not-branch w ↦ rw w.kept-is (record {
        found = c.in_ok-is_redundant.ensures.found;
        among = so.among;
        each = λ m i. left_more (Listed c.args.state.now.clauses.items) c.args.state.now.order.items c.args.lits.now seen c.loop-lit.kept.items x so.among so.each (subst (λ (b : Bool). OnTrue b (IsRedundant (Listed c.args.state.now.clauses.items) c.args.state.now.order.items c.args.lits.now x)) w.if-not-branch.false c.in_ok-is_redundant.ensures.redundant) m
            (rw (take_more c.args.lits.now c.loop-lit.lit-index none c.loop-lit-test.true) at i);
      })
    ]
