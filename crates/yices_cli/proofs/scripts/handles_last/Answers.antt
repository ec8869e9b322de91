use Rattle.yices_cli.proofs.Running.{handles_keep}
use Rattle.yices_cli.proofs.scripts.handles_last.Goals as goal

pub returns : goal.returns
returns c = handles_keep c.script_runs.ensures.runs c.runs_last.ensures.lasts c.runs_last.ensures.contexts
