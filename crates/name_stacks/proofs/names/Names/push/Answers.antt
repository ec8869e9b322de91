use Rattle.std.proofs.Common.{rules, ◌∙◌, ap, string_bytes, ◌++◌, ◌∷◌, []}
use Rattle.name_stacks.proofs.Heading.{pushed}
use Rattle.name_stacks.proofs.names.Names.push.Goals as goal

pub invariant_of-self-inside-2 : goal.invariant_of-self-inside-2
invariant_of-self-inside-2 g c = (
  pushed c.self.inside.heads c.add_head.new.heads c.self.inside.pairs.items c.push_reserved.new.self.items (record { name = c.in_ok-name.name; of = c.args.of }) (string_bytes c.in_ok-head.head) c.self.inside.newest_at_head c.in_ok-add_head.ensures.ok (search rules) (c.push_reserved.ensures.items ∙ ap (λ z. z ++ record { name = c.in_ok-name.name; of = c.args.of } ∷ []) c.reserve.ensures.items),
  tt,
)
