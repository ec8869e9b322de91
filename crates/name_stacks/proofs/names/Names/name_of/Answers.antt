use Rattle.std.proofs.Common.{◌≡◌, ◌∙◌, ◌+◌, suc, drop, map, sym, ap, arith, Some}
use Rattle.std.specs.Prelude.{string_bytes}
use Rattle.name_stacks.specs.declared.names.Pair.{Pair}
use Rattle.name_stacks.specs.Names.{oldest_name}
use Rattle.name_stacks.proofs.Naming.{name_here, name_step, name_end}
use Rattle.name_stacks.proofs.names.Names.name_of.Goals as goal

pub loop-pair-init : goal.loop-pair-init
loop-pair-init g c = record {
  rest = ap (oldest_name g.H.PartialEq.eq c.args.of) (sym c.self.view_is ∙ ap (map (λ (p : Pair g.row.H.Denot). (string_bytes p.name, p.of))) (sym c.deref-pair-items.ensures.value));
}

pub returns-then-eq : goal.returns-then-eq
returns-then-eq g c =
    sym (c.loop-pair.invariant.rest ∙ name_here g.H.PartialEq.eq c.args.of c.deref-pair-items.result.now c.loop-pair.pair-index c.loop-pair-test.true c.pair-item.result c.pair-item.is (sym c.eq.ensures ∙ c.if-eq.true) ∙ ap Some (sym c.as_str.ensures.value))

pub loop-pair-preserved : goal.loop-pair-preserved
loop-pair-preserved g c = let e : suc c.loop-pair.pair-index ≡ c.loop-pair.pair-index + 1 = omega arith in record {
  rest = c.loop-pair.invariant.rest ∙ name_step g.H.PartialEq.eq c.args.of c.deref-pair-items.result.now c.loop-pair.pair-index c.loop-pair-test.true c.pair-item.result c.pair-item.is (sym c.eq.ensures ∙ c.if-eq.false) ∙ ap (λ n. oldest_name g.H.PartialEq.eq c.args.of (drop n (map (λ (p : Pair g.row.H.Denot). (string_bytes p.name, p.of)) c.deref-pair-items.result.now))) e;
}

pub returns : goal.returns
returns g c =
    sym (c.loop-pair.invariant.rest ∙ name_end g.H.PartialEq.eq c.args.of c.deref-pair-items.result.now c.loop-pair.pair-index (omega (arith, c.loop-pair-test.false)))
