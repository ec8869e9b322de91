use Rattle.std.proofs.Common.{rules, ◌≡◌, ◌∙◌, sym, subst, is_some, false}
use Rattle.name_stacks.specs.Names.{newest}
use Rattle.name_stacks.specs.Heads.{shown, PutsHead}
use Rattle.name_stacks.proofs.Naming.{unnamed}
use Rattle.name_stacks.proofs.Heading.{is_none, removed, unchanged}
use Rattle.name_stacks.proofs.names.Names.remove.Goals as goal

pub invariant_of-self-inside : goal.invariant_of-self-inside
invariant_of-self-inside g c = let absent : is_some (newest c.args.name.now (shown c.self.inside.pairs.items)) ≡ false = search rules in (
  unchanged c.self.inside.heads (shown c.self.inside.pairs.items) (shown c.take_newest.new.pairs.items) c.self.inside.newest_at_head (c.take_newest.ensures.pairs ∙ sym (unnamed c.args.name.now (shown c.self.inside.pairs.items) (is_none _ absent))),
  tt,
)

pub invariant_of-self-inside-2 : goal.invariant_of-self-inside-2
invariant_of-self-inside-2 g c = (
  removed c.self.inside.heads c.lower_head.new.heads (shown c.self.inside.pairs.items) (shown c.take_newest.new.pairs.items) c.args.name.now c.self.inside.newest_at_head (subst (λ z. PutsHead c.self.inside.heads c.lower_head.new.heads c.args.name.now (newest c.args.name.now (shown z))) c.deref.ensures.value c.lower_head.ensures) c.take_newest.ensures.pairs,
  tt,
)
