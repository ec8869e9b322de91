-- Each turn keeps the divisor, and after the last turn the second number is 0.
use Rattle.std.proofs.Common.{ap, sym, ◌∙◌, ◌≡◌, ◌<◌, ◌≤◌, ◌^◌, arith, subst, refl}
use Rattle.std.proofs.lemmas.Nat.{mod_below}
use Rattle.rationals.specs.Gcd.{gcd, gcd_pos}
use Rattle.fraction128.proofs.Parts.{gcd-zero, gcd-step}
use Rattle.fraction128.proofs.Turns.{keeps, ends}
use Rattle.fraction128.proofs.euclid.gcd.Goals as goal

pub returns-then-y-eq0-clause-value : goal.returns-then-y-eq0-clause-value
returns-then-y-eq0-clause-value c = sym (gcd-zero c.loop-turn.x) ∙ ap (gcd c.loop-turn.x) (sym c.if-y-eq0.true) ∙ c.loop-turn.invariant.same_divisor

pub returns-then-y-eq0-clause-positive : goal.returns-then-y-eq0-clause-positive
returns-then-y-eq0-clause-positive c h = subst (λ n. 0 < n) (sym (returns-then-y-eq0-clause-value c)) (gcd_pos c.args.a c.args.b h)

pub loop-turn-preserved : goal.loop-turn-preserved
loop-turn-preserved c =
    let p : 0 < c.loop-turn.y = omega arith in
    record {
      same_divisor = sym (gcd-step c.loop-turn.x c.loop-turn.y) ∙ c.loop-turn.invariant.same_divisor;
      product_falls = keeps (2 ^ 128) (2 ^ 257) c.loop-turn.x c.loop-turn.y c.loop-turn._turn refl (omega arith) (omega arith) p c.loop-turn.invariant.product_falls c.loop-turn.invariant.in_order;
      in_order = λ _. mod_below c.loop-turn.x c.loop-turn.y p;
    }

pub returns-clause-value : goal.returns-clause-value
returns-clause-value c =
    let t : c.loop-turn._turn ≡ 257 = omega arith in
    let l : 2 ^ 257 ≤ 2 ^ c.loop-turn._turn = subst (λ i. 2 ^ 257 ≤ 2 ^ i) (sym t) (omega arith) in
    let z : c.loop-turn.y ≡ 0 = ends (2 ^ 257) c.loop-turn.x c.loop-turn.y c.loop-turn._turn l (omega arith) c.loop-turn.invariant.product_falls c.loop-turn.invariant.in_order in
    sym (gcd-zero c.loop-turn.x) ∙ ap (gcd c.loop-turn.x) (sym z) ∙ c.loop-turn.invariant.same_divisor
