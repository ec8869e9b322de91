use Rattle.std.proofs.Common.{string_bytes, Some}
use Rattle.std.proofs.lemmas.Map.Text.{hash_map_updates_text}
use Rattle.name_stacks.proofs.heads.add_head.Goals as goal

pub returns-clause-ok : goal.returns-clause-ok
returns-clause-ok g c = record {
  each = hash_map_updates_text (string_bytes c.args.name) c.args.heads.now c.insert.new.self (Some c.args.of) c.in_ok-insert.ensures.updates;
}
