use Rattle.simplex_table.specs.View.{delta_of}
use Rattle.simplex_bounds.proofs.RangeLemmas.{starts}
use Rattle.simplex_bounds.proofs.Range.start.Goals as goal

pub returns-clause-stands : goal.returns-clause-stands
returns-clause-stands c =
    starts c.args.self.low c.args.self.up (delta_of c.raised-at.result) (delta_of c.lowered.result) c.requires c.raised-at.ensures.stands c.lowered.ensures.stands
