-- the violated bound, and the bounds that stop the columns passed
use Rattle.simplex_core.specs.Conflicts.{CertifiesTo}
use Rattle.simplex_core.proofs.certificate.certificate.Given as goal

abbrev pub invariant-loop-k : goal.invariant-loop-k
invariant-loop-k l = CertifiesTo l.k l.ranges l.bound l.row l.columns l.multipliers.items
