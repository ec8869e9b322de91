use Rattle.std.proofs.Common.{◌∙◌, sym, ap, is_some}
use Rattle.term_checks.proofs.Places.{found_place, has_place}
use Rattle.term_checks.proofs.lists.place_of.Goals as goal

pub unreachable-requires : goal.unreachable-requires
unreachable-requires c =
    has_place c.args.order.now.keys c.args.t (sym c.get_index_of.ensures.found ∙ ap is_some c.in-None.is) c.requires

pub returns : goal.returns
returns c =
    found_place c.args.order.now.keys c.args.t c.in-Some.place (sym c.get_index_of.ensures.index ∙ c.in-Some.is)
