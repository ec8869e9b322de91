use Rattle.script_session.proofs.Existing.{something_is_asked}
use Rattle.script_session.proofs.Unique.{not_both, one_call, one_refusal}
use Rattle.script_session.proofs.laws.one_is_asked.Goals as goal

pub returns-clause-some : goal.returns-clause-some
returns-clause-some c = something_is_asked

pub returns-clause-refusals : goal.returns-clause-refusals
returns-clause-refusals c = one_refusal

pub returns-clause-calls : goal.returns-clause-calls
returns-clause-calls c = one_call

pub returns-clause-not_both : goal.returns-clause-not_both
returns-clause-not_both c = not_both
