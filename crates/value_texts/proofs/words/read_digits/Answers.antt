use Rattle.std.proofs.Common.{◌≡◌, ◌+◌, ◌*◌, ◌<◌, ◌^◌, arith, subst, sym, take, ⊎_elim}
use Rattle.value_texts.specs.Texts.{binary}
use Rattle.value_texts.proofs.Digits.{no_binary, no_digits, digit_more, bound_more, room}
use Rattle.value_texts.proofs.words.read_digits.Goals as goal

pub loop-i-init : goal.loop-i-init
loop-i-init c = record { value = no_digits c.args.text.now; bound = omega arith }

pub returns-then-byte-lt48 : goal.returns-then-byte-lt48
returns-then-byte-lt48 c = no_binary c.args.text.now c.loop-i.i c.loop-i-test.true (λ low high. ⊎_elim (λ e. omega (arith, low, e)) (λ e. omega (arith, high, e.1)) c.then-byte-lt48.either)

pub overflow_mul-bits : goal.overflow_mul-bits
overflow_mul-bits c = let r : c.loop-i.bits * 2 + 0 < 2 ^ 128 = room c.loop-i.i _ c.loop-i.bits 0 c.loop-i-test.true c.requires c.loop-i.invariant.bound (omega arith) in record { fits = omega (arith, r) }

pub overflow_add-bits : goal.overflow_add-bits
overflow_add-bits c = let r : c.loop-i.bits * 2 + c.from.result < 2 ^ 128 = room c.loop-i.i _ c.loop-i.bits c.from.result c.loop-i-test.true c.requires c.loop-i.invariant.bound (omega (arith, c.from.ensures, c.if-byte-gt49.false)) in record { fits = omega (arith, r) }

pub loop-i-preserved : goal.loop-i-preserved
loop-i-preserved c = record {
  value =
      subst (λ d. take (c.loop-i.i + 1) c.args.text.now ≡ binary (c.loop-i.i + 1) (c.loop-i.bits * 2 + d)) (sym c.from.ensures)
      (digit_more c.args.text.now c.loop-i.i c.loop-i.bits c.loop-i-test.true c.loop-i.invariant.value c.if-byte-lt48.false c.if-byte-gt49.false);
  bound = bound_more c.loop-i.i c.loop-i.bits c.from.result c.loop-i.invariant.bound (omega (arith, c.from.ensures, c.if-byte-gt49.false));
}
