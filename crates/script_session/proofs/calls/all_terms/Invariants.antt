use Rattle.std.proofs.Common.{◌≡◌, ◌++◌, drop}
use Rattle.std.specs.Option.{option_map}
use Rattle.script_session.specs.CallTable.{all_terms}
use Rattle.script_session.proofs.calls.all_terms.Given as goal

abbrev pub invariant-loop-m : goal.invariant-loop-m
invariant-loop-m l = all_terms l.ms ≡ option_map (λ rest. l.terms ++ rest) (all_terms (drop l.m-index l.ms))
