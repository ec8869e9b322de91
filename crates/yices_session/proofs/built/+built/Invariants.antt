use Rattle.std.proofs.Common.{◌≡◌, map, drop}
use Rattle.yices_grammar.specs.Commands.{binds, exprs}
use Rattle.yices_commands.specs.Plain.{plain, plain_bind}
use Rattle.yices_session.specs.Built.{are_built, binds_built}
use Rattle.yices_session.proofs.built.+built.Given as goal

-- all are built where those are that are left
abbrev pub invariant-are_built-loop-i : goal.invariant-are_built-loop-i
invariant-are_built-loop-i l = are_built (exprs (map plain l.arguments)) ≡ are_built (exprs (map plain (drop l.i l.arguments)))

abbrev pub invariant-are_binds_built-loop-i : goal.invariant-are_binds_built-loop-i
invariant-are_binds_built-loop-i l = binds_built (binds (map plain_bind l.bindings)) ≡ binds_built (binds (map plain_bind (drop l.i l.bindings)))
