use Rattle.yices_cli.proofs.Running.{line_goes_on}
use Rattle.yices_cli.proofs.scripts.answer_line.Goals as goal

pub returns-clause-answered : goal.returns-clause-answered
returns-clause-answered g c =
    line_goes_on c.script_runs.ensures.runs c.one_more_line.ensures c.handles_last.ensures _ _ _ _ _ _ c.in_ok-said.ensures.answered c.write_text.result (rw (← c.as_str.ensures.value) c.write_text.ensures.ok)
