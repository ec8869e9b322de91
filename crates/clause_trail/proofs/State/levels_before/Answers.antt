use Rattle.std.proofs.Common.{arith, sym, ◌∙◌}
use Rattle.std.proofs.lemmas.Option.{same_Some, slice_get_within}
use Rattle.clause_trail.proofs.Backs.{under_more}
use Rattle.clause_trail.proofs.State.levels_before.Goals as goal

pub loop-level-preserved : goal.loop-level-preserved
loop-level-preserved c = under_more c.args.self.now.starts.items _ c.loop-level.level c.loop-level.invariant _ c.start_of.ensures c.if-start_of-place.false

pub returns-then-start_of-place-clause-above : goal.returns-then-start_of-place-clause-above
returns-then-start_of-place-clause-above c = λ s at.
    let e = same_Some _ s (sym c.start_of.ensures ∙ at) in omega (arith, e, c.if-start_of-place.true)

pub returns-clause-above : goal.returns-clause-above
returns-clause-above c = λ s at. absurd (omega (arith, slice_get_within c.args.self.now.starts.items _ s at, c.len.ensures, c.args.self.now.starts.ok.0))
