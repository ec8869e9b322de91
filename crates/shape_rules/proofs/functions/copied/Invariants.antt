use Rattle.std.proofs.Common.{◌≡◌, take}
use Rattle.shape_rules.proofs.functions.copied.Given as goal

-- the types before are copied
abbrev pub invariant-loop-of : goal.invariant-loop-of
invariant-loop-of l = l.copies ≡ take l.of-index l.types
