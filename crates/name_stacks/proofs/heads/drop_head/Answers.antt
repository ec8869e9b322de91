use Rattle.std.proofs.Common.{None}
use Rattle.std.proofs.lemmas.Map.Text.{hash_map_updates_text}
use Rattle.name_stacks.proofs.heads.drop_head.Goals as goal

pub returns : goal.returns
returns g c = record {
  each = hash_map_updates_text c.args.name.now c.args.heads.now c.remove.new.self None c.remove.ensures.updates;
}
