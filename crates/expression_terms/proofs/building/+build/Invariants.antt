use Rattle.std.proofs.Common.{◌≡◌, length, map, drop}
use Rattle.yices_grammar.specs.Commands.{exprs, binds}
use Rattle.yices_commands.specs.Plain.{plain, plain_bind}
use Rattle.yices_api.specs.State.{ContextsStay}
use Rattle.expression_terms.specs.Building.{named_in}
use Rattle.expression_terms.specs.Outcomes.{OnlyAdds, paired}
use Rattle.expression_terms.specs.Trees.{names_of}
use Rattle.expression_terms.specs.Growth.{all_trees, bound_trees}
use Rattle.expression_terms.specs.Keeping.{AddsAmong}
use Rattle.expression_terms.proofs.Keeping.{FirstStayWithin, BoundFirstStayWithin}
use Rattle.expression_terms.proofs.Sizes.{size, sizes, bound_sizes, call_size, let_size, apply_size, update_size}
use Rattle.expression_terms.proofs.Outcomes.{BuildsFirst, BindsFirst}
use Rattle.expression_terms.proofs.building.+build.Given as goal

-- the terms so far are those of the first expressions
abbrev pub invariant-build_all-loop-i : goal.invariant-build_all-loop-i
invariant-build_all-loop-i l = record {
  first : BuildsFirst (named_in l.fn.env.table l.fn.names) l.fn.env l.env (exprs (map plain l.arguments)) (exprs (map plain (drop l.i l.arguments))) l.terms;
  contexts : ContextsStay l.fn.env l.env;
  grown : OnlyAdds l.fn.env.table l.env.table;
  same : l.names ≡ l.fn.names;
  parts : AddsAmong (named_in l.fn.env.table l.fn.names) l.fn.env.table l.env.table (λ s. all_trees s (exprs (map plain l.arguments))) l.fn.parts l.parts;
  kept : FirstStayWithin (named_in l.fn.env.table l.fn.names) l.fn.env.table l.env.table l.parts (exprs (map plain l.arguments)) (exprs (map plain (drop l.i l.arguments))) l.terms;
}

-- the terms so far are those that the first names are bound to
abbrev pub invariant-build_bound-loop-i : goal.invariant-build_bound-loop-i
invariant-build_bound-loop-i l = record {
  first : BindsFirst (named_in l.fn.env.table l.fn.names) l.fn.env l.env (binds (map plain_bind l.bindings)) (binds (map plain_bind (drop l.i l.bindings))) l.terms;
  count : length l.terms ≡ l.i;
  contexts : ContextsStay l.fn.env l.env;
  grown : OnlyAdds l.fn.env.table l.env.table;
  same : l.names ≡ l.fn.names;
  parts : AddsAmong (named_in l.fn.env.table l.fn.names) l.fn.env.table l.env.table (λ s. bound_trees s (binds (map plain_bind l.bindings))) l.fn.parts l.parts;
  kept : BoundFirstStayWithin (named_in l.fn.env.table l.fn.names) l.fn.env.table l.env.table l.parts (binds (map plain_bind l.bindings)) (binds (map plain_bind (drop l.i l.bindings))) (paired l.terms (names_of (binds (map plain_bind l.bindings))));
}

abbrev pub decreases-build_one : goal.decreases-build_one
decreases-build_one l = size (plain l.expr.now)

abbrev pub decreases-build_all : goal.decreases-build_all
decreases-build_all l = sizes (exprs (map plain l.arguments.now))

abbrev pub decreases-build_call : goal.decreases-build_call
decreases-build_call l = call_size l.arguments.now

abbrev pub decreases-build_apply : goal.decreases-build_apply
decreases-build_apply l = apply_size l.function.now l.arguments.now

abbrev pub decreases-build_update : goal.decreases-build_update
decreases-build_update l = update_size l.function.now l.arguments.now l.value.now

abbrev pub decreases-build_bound : goal.decreases-build_bound
decreases-build_bound l = bound_sizes (binds (map plain_bind l.bindings.now))

abbrev pub decreases-build_let : goal.decreases-build_let
decreases-build_let l = let_size l.bindings.now l.body.now
