use Rattle.script_session.proofs.Unique.{reply_has, reply_text}
use Rattle.script_session.proofs.laws.one_text_of_a_reply.Goals as goal

pub returns-clause-has : goal.returns-clause-has
returns-clause-has c s r world live some = reply_has s (λ t h. c.one_text.ensures.has s.table t world.table h) r live some

pub returns-clause-one : goal.returns-clause-one
returns-clause-one c w r x y a b = reply_text w (c.one_text.ensures.one w) r x y a b
