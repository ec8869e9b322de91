use Rattle.std.proofs.Common.{Some}
use Rattle.std.proofs.lemmas.Map.Text.{hash_map_updates_text}
use Rattle.name_stacks.proofs.heads.set_head.Goals as goal

pub returns-in-Some : goal.returns-in-Some
returns-in-Some g c = λ there. record {
  each = hash_map_updates_text c.args.name.now c.args.heads.now (c.get_mut.follows.lender c.args.of) (Some c.args.of) ((c.get_mut.follows.holds c.args.of).3 there);
}
