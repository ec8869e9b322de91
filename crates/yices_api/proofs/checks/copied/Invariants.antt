use Rattle.std.proofs.Common.{◌≡◌, take}
use Rattle.yices_api.proofs.checks.copied.Given as goal

-- the terms before are copied
abbrev pub invariant-loop-t : goal.invariant-loop-t
invariant-loop-t l = l.copy ≡ take l.t-index l.terms
