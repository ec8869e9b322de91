use Rattle.yices_session.proofs.Collecting.{frees_beside}
use Rattle.yices_session.proofs.session.collecting.free_unreached.Goals as goal

pub returns-clause-frees : goal.returns-clause-frees
returns-clause-frees c = frees_beside c.args.env.now c.step.new.env c.args.roots c.step.result c.step.ensures.step
