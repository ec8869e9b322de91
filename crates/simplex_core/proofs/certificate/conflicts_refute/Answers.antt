use Rattle.simplex_core.proofs.ConflictLemmas.{conflicts_refute_is}
use Rattle.simplex_core.proofs.certificate.conflicts_refute.Goals as goal

pub returns : goal.returns
returns c = conflicts_refute_is
