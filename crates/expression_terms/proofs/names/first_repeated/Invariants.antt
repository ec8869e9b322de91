use Rattle.std.proofs.Common.{◌≡◌, [], drop}
use Rattle.expression_terms.specs.Bound.{binding_names}
use Rattle.expression_terms.specs.Trees.{repeated, repeated_behind}
use Rattle.expression_terms.proofs.Naming.{met}
use Rattle.expression_terms.proofs.names.first_repeated.Given as goal

-- the first name that is repeated is the first behind those that were met
abbrev pub invariant-loop-i : goal.invariant-loop-i
invariant-loop-i l = repeated (binding_names l.binds) ≡ repeated_behind (met l.seen []) (drop l.i (binding_names l.binds))
