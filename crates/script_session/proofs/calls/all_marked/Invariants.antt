use Rattle.std.proofs.Common.{◌≡◌, ◌++◌, drop}
use Rattle.std.specs.Option.{option_map}
use Rattle.script_session.specs.CallTable.{all_marked}
use Rattle.script_session.proofs.calls.all_marked.Given as goal

abbrev pub invariant-loop-m : goal.invariant-loop-m
invariant-loop-m l = all_marked l.ms ≡ option_map (λ rest. l.roots ++ rest) (all_marked (drop l.m-index l.ms))
