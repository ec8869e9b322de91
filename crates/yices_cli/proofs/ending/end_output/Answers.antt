use Rattle.yices_cli.proofs.Growing.{some_part}
use Rattle.yices_cli.proofs.ending.end_output.Goals as goal

pub returns-clause-written : goal.returns-clause-written
returns-clause-written g c = some_part c.write_all.result _ _ _ c.write_all.ensures.ok c.write_all.ensures.err
