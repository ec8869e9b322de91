use Rattle.std.proofs.Common.{◌∙◌, sym, ap, arith}
use Rattle.std.specs.Prelude.{string_bytes}
use Rattle.std.specs.Str.{bytes_eq}
use Rattle.name_stacks.specs.declared.names.Pair.{Pair}
use Rattle.name_stacks.proofs.Naming.{last_found, last_step}
use Rattle.name_stacks.proofs.names.last.Goals as goal

pub returns-then-eq-clause-found : goal.returns-then-eq-clause-found
returns-then-eq-clause-found g c =
    last_found c.args.name.now c.args.pairs.now c.loop-at.at c.loop-at-test.true c.loop-at.invariant.within c.index-pairs-at.result c.index-pairs-at.is c.loop-at.invariant.none (ap (λ (q : Pair g.row.H.Denot). bytes_eq (string_bytes q.name) c.args.name.now) c.index-pairs-at.is ∙ ap (λ z. bytes_eq z c.args.name.now) (sym c.as_str.ensures.value) ∙ sym c.eq.ensures ∙ c.if-eq.true)

pub loop-at-preserved : goal.loop-at-preserved
loop-at-preserved g c = record {
  within = omega (arith, c.loop-at.invariant.within);
  none = last_step c.args.name.now c.args.pairs.now c.loop-at.at c.loop-at-test.true c.loop-at.invariant.within c.index-pairs-at.result c.index-pairs-at.is c.loop-at.invariant.none (ap (λ (q : Pair g.row.H.Denot). bytes_eq (string_bytes q.name) c.args.name.now) c.index-pairs-at.is ∙ ap (λ z. bytes_eq z c.args.name.now) (sym c.as_str.ensures.value) ∙ sym c.eq.ensures ∙ c.if-eq.false);
}
