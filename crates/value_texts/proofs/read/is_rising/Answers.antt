use Rattle.std.proofs.Common.{◌≡◌, ◌∙◌, ◌+◌, ◌-◌, sym, ap, subst, arith, drop}
use Rattle.std.specs.Ordering.{is_lt}
use Rattle.y_tree.specs.Order.{order_keys, is_rising}
use Rattle.y_tree.specs.Plain.{plain_values, plain_entry, plain_entries}
use Rattle.value_texts.proofs.FunctionTexts.{rising_end, rising_more, rising_less}
use Rattle.value_texts.proofs.read.is_rising.Goals as goal

pub returns : goal.returns
returns c = sym (c.loop-i.invariant ∙ rising_end c.args.entries.now c.loop-i.i (omega (arith, c.loop-i-test.false)))

pub loop-i-preserved : goal.loop-i-preserved
loop-i-preserved c =
    let here : c.loop-i.i ≡ c.loop-i.i + 1 - 1 = omega arith in
    subst (λ n. is_rising (plain_entries c.args.entries.now) ≡ is_rising (plain_entries (drop n c.args.entries.now))) here
    (rising_more c.args.entries.now c.loop-i.i c.index-entries-i.result c.index-entries-i-in-loop-i.result (is_rising (plain_entries c.args.entries.now)) c.is_lt.result (omega (arith, c.loop-i.auto.i)) c.loop-i-test.true c.loop-i.invariant
    (c.is_lt.ensures ∙ ap is_lt (c.cmp_keys.ensures ∙ (λ k. order_keys (plain_values (c.as_slice.ensures k)) (plain_values (c.as_slice-in-loop-i.ensures k))) ∙ (λ k. order_keys (plain_entry (c.index-entries-i.is k)).0 (plain_entry (c.index-entries-i-in-loop-i.is k)).0)))
    c.if-not-is_lt.false)

pub returns-then-not-is_lt : goal.returns-then-not-is_lt
returns-then-not-is_lt c =
    rising_less c.args.entries.now c.loop-i.i c.index-entries-i.result c.index-entries-i-in-loop-i.result (is_rising (plain_entries c.args.entries.now)) c.is_lt.result (omega (arith, c.loop-i.auto.i)) c.loop-i-test.true c.loop-i.invariant
    (c.is_lt.ensures ∙ ap is_lt (c.cmp_keys.ensures ∙ (λ k. order_keys (plain_values (c.as_slice.ensures k)) (plain_values (c.as_slice-in-loop-i.ensures k))) ∙ (λ k. order_keys (plain_entry (c.index-entries-i.is k)).0 (plain_entry (c.index-entries-i-in-loop-i.is k)).0)))
    c.if-not-is_lt.true
