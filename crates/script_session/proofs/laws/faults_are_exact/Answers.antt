use Rattle.script_session.proofs.Faults.{not_answered, not_too_long, one_fault}
use Rattle.script_session.proofs.laws.faults_are_exact.Goals as goal

pub returns-clause-not_answered : goal.returns-clause-not_answered
returns-clause-not_answered c old new end bytes said d s f h a = not_answered c.a_line_says_one_thing.ensures.one old end bytes new said d s f h a

pub returns-clause-not_too_long : goal.returns-clause-not_too_long
returns-clause-not_too_long c old end bytes s place f h k = not_too_long c.a_line_says_one_thing.ensures.one old end bytes s place f h k

pub returns-clause-one : goal.returns-clause-one
returns-clause-one c old end bytes s t f g h k = one_fault c.a_line_says_one_thing.ensures.one old end bytes s t f g h k
