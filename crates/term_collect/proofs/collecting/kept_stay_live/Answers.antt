use Rattle.term_collect.proofs.Listed.{kept_live, kept_live_types}
use Rattle.term_collect.proofs.collecting.kept_stay_live.Goals as goal

pub returns-clause-terms : goal.returns-clause-terms
returns-clause-terms c = kept_live

pub returns-clause-types : goal.returns-clause-types
returns-clause-types c = kept_live_types
