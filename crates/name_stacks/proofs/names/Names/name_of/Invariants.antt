use Rattle.std.proofs.Common.{◌≡◌, drop, map}
use Rattle.std.specs.Prelude.{string_bytes}
use Rattle.name_stacks.specs.declared.names.Pair.{Pair}
use Rattle.name_stacks.specs.Names.{oldest_name}
use Rattle.name_stacks.proofs.names.Names.name_of.Given as goal

abbrev pub invariant-loop-pair : goal.invariant-loop-pair
invariant-loop-pair g l = record {
  rest : oldest_name g.H.PartialEq.eq l.of l.self ≡ oldest_name g.H.PartialEq.eq l.of (drop l.pair-index (map (λ (p : Pair g.row.H.Denot). (string_bytes p.name, p.of)) l.pair-items));
}
