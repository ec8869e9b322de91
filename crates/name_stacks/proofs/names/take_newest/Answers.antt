use Rattle.std.proofs.Common.{◌∙◌, sym, ap}
use Rattle.std.specs.Prelude.{string_bytes, remove}
use Rattle.name_stacks.specs.declared.names.Pair.{Pair}
use Rattle.name_stacks.specs.Names.{newest, without_newest}
use Rattle.name_stacks.specs.Heads.{shown}
use Rattle.name_stacks.proofs.Naming.{unnamed, map_remove}
use Rattle.name_stacks.proofs.names.take_newest.Goals as goal

pub returns-in-Some-clause-pairs : goal.returns-in-Some-clause-pairs
returns-in-Some-clause-pairs g c =
    ap shown c.remove.ensures.items ∙ map_remove (λ (p : Pair g.row.H.Denot). (string_bytes p.name, p.of)) c.args.pairs.now.items c.in-Some.at ∙ ap (λ z. remove (shown z) c.in-Some.at) (sym c.deref.ensures.value) ∙ sym c.in-Some.ensures.found.without ∙ ap (λ z. without_newest c.args.name.now (shown z)) c.deref.ensures.value

pub returns-in-None-clause-pairs : goal.returns-in-None-clause-pairs
returns-in-None-clause-pairs g c =
    unnamed c.args.name.now (shown c.args.pairs.now.items) (ap (λ z. newest c.args.name.now (shown z)) (sym c.deref.ensures.value) ∙ c.in-None.ensures.none)
