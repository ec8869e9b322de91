use Rattle.std.proofs.Common.{◌++◌, string_bytes, arith}
use Rattle.value_texts.specs.Texts.{binary}
use Rattle.value_texts.proofs.TextLists.{bit_one, bit_zero, bits_done}
use Rattle.value_texts.proofs.write.push_bits.Goals as goal

pub loop-i-preserved-in-Continue-1 : goal.loop-i-preserved-in-Continue-1
loop-i-preserved-in-Continue-1 c =
    bit_one (string_bytes c.loop-i.out) (string_bytes c.push_str.new.self) c.bit_at.result c.loop-i.i c.args.bits (string_bytes c.args.out.now ++ binary c.args.width c.args.bits) c.loop-i-test.true c.loop-i.invariant
    c.bit_at.ensures c.if-bit_at.true c.in_ok-push_str.ensures.bytes

pub loop-i-preserved : goal.loop-i-preserved
loop-i-preserved c =
    bit_zero (string_bytes c.loop-i.out) (string_bytes c.push_str-else-bit_at.new.self) c.bit_at.result c.loop-i.i c.args.bits (string_bytes c.args.out.now ++ binary c.args.width c.args.bits) c.loop-i-test.true c.loop-i.invariant
    c.bit_at.ensures c.if-bit_at.false c.in_ok-push_str-2.ensures.bytes

pub returns : goal.returns
returns c = bits_done (string_bytes c.loop-i.out) c.loop-i.i c.args.bits (string_bytes c.args.out.now ++ binary c.args.width c.args.bits) (omega arith) c.loop-i.invariant
