use Rattle.std.proofs.Common.{◌∙◌, ◌++◌, ap, string_bytes}
use Rattle.y_tree.specs.declared.values.Entry.{Entry}
use Rattle.value_texts.specs.Texts.{value_text, keys_text, entries_text}
use Rattle.y_tree.specs.Plain.{plain_value, plain_values, plain_entry, plain_entries}
use Rattle.value_texts.proofs.TextLists.{entries_more, entries_done, keys_more, keys_done, no_keys}
use Rattle.value_texts.proofs.write.+write.Goals as goal

pub push_entries-loop-i-preserved : goal.push_entries-loop-i-preserved
push_entries-loop-i-preserved t c =
    entries_more (string_bytes c.loop-i.out) (string_bytes c.push_str.new.self) (string_bytes c.push_keys.new.out) (string_bytes c.push_str-in-loop-i.new.self) (string_bytes c.push_value.new.out)
    (string_bytes c.args.out.now ++ entries_text (plain_entries c.args.entries.now)) c.args.entries.now c.loop-i.i c.index-entries-i.result c.loop-i-test.true c.loop-i.invariant
    c.in_ok-push_str.ensures.bytes
    (c.in_ok-push_keys.ensures ∙ ap (λ ks. string_bytes c.push_str.new.self ++ keys_text (plain_values ks)) c.as_slice.ensures ∙ ap (λ (x : Entry). string_bytes c.push_str.new.self ++ keys_text (plain_entry x).0) c.index-entries-i.is)
    c.in_ok-push_str-2.ensures.bytes
    (c.in_ok-push_value.ensures ∙ ap (λ (x : Entry). string_bytes c.push_str-in-loop-i.new.self ++ value_text (plain_entry x).1) c.index-entries-i.is)

pub push_entries-returns : goal.push_entries-returns
push_entries-returns t c = entries_done (string_bytes c.loop-i.out) (string_bytes c.args.out.now ++ entries_text (plain_entries c.args.entries.now)) c.args.entries.now c.loop-i.i c.loop-i-test.false c.loop-i.invariant

pub push_keys-returns-then-keys-eq0 : goal.push_keys-returns-then-keys-eq0
push_keys-returns-then-keys-eq0 t c = no_keys (string_bytes c.args.out.now) c.args.keys.now c.if-keys-eq0.true

pub push_keys-loop-i-preserved : goal.push_keys-loop-i-preserved
push_keys-loop-i-preserved t c =
    keys_more (string_bytes c.loop-i.out) (string_bytes c.push_str.new.self) (string_bytes c.push_value-in-loop-i.new.out) (string_bytes c.args.out.now ++ keys_text (plain_values c.args.keys.now))
    c.args.keys.now c.loop-i.i c.index-keys-i.result c.loop-i-test.true c.loop-i.invariant c.in_ok-push_str.ensures.bytes
    (c.in_ok-push_value-2.ensures ∙ ap (λ v. string_bytes c.push_str.new.self ++ value_text (plain_value v)) c.index-keys-i.is)

pub push_keys-returns : goal.push_keys-returns
push_keys-returns t c = keys_done (string_bytes c.loop-i.out) (string_bytes c.args.out.now ++ keys_text (plain_values c.args.keys.now)) c.args.keys.now c.loop-i.i c.loop-i-test.false c.loop-i.invariant
