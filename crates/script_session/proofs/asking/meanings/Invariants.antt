use Rattle.std.proofs.Common.{◌≡◌, map, take, Some}
use Rattle.call_script.specs.Results.{all_written}
use Rattle.script_session.specs.Asking.{meaning}
use Rattle.script_session.proofs.asking.meanings.Given as goal

abbrev pub invariant-loop-i : goal.invariant-loop-i
invariant-loop-i l = map (meaning l.given) (take l.i (all_written l.arguments)) ≡ map Some l.ms.items
