-- The divisor stays, and the product of the two numbers falls by half with each turn after the first.
use Rattle.std.proofs.Common.{◌≡◌, ◌*◌, ◌^◌, ◌<◌}
use Rattle.rationals.specs.Gcd.{gcd}
use Rattle.fraction128.proofs.euclid.gcd.Given as goal

abbrev pub invariant-loop-turn : goal.invariant-loop-turn
invariant-loop-turn l = record {
  same_divisor : gcd l.x l.y ≡ gcd l.fn.a l.fn.b;
  product_falls : l.x * l.y * 2 ^ l._turn < 2 ^ 257;
  in_order : 0 < l._turn → l.y < l.x;
}
