use Rattle.std.proofs.Common.{◌≡◌, ◌++◌, string_bytes, drop}
use Rattle.value_texts.specs.Texts.{keys_text, spaced_text, entries_text}
use Rattle.y_tree.specs.Plain.{plain_values, plain_entries}
use Rattle.value_texts.proofs.write.+write.Given as goal

abbrev pub invariant-push_entries-loop-i : goal.invariant-push_entries-loop-i
invariant-push_entries-loop-i l = string_bytes l.out ++ entries_text (plain_entries (drop l.i l.entries)) ≡ string_bytes l.fn.out ++ entries_text (plain_entries l.entries)

abbrev pub invariant-push_keys-loop-i : goal.invariant-push_keys-loop-i
invariant-push_keys-loop-i l = string_bytes l.out ++ spaced_text (plain_values (drop l.i l.keys)) ≡ string_bytes l.fn.out ++ keys_text (plain_values l.keys)
