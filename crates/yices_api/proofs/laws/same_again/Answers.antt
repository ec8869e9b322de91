use Rattle.yices_api.proofs.Again.{same_handle}
use Rattle.yices_api.proofs.laws.same_again.Goals as goal

pub returns : goal.returns
returns c first mid last end call cs rs t u world is one runs live two = same_handle c.one_answer.ensures.again first mid last end call cs rs t u world is one runs live two
