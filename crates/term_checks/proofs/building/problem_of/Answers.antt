use Rattle.std.proofs.Common.{◌≡◌, ◌∙◌, Some, get_or, sym, ap}
use Rattle.std.specs.Prelude.{slice_get}
use Rattle.std.proofs.lemmas.Option.{slice_get-get_or}
use Rattle.term_checks.specs.Listing.{no_term}
use Rattle.term_checks.proofs.Trees.{fits_next, nodes_more}
use Rattle.term_checks.proofs.building.problem_of.Goals as goal

pub add-requires : goal.add-requires
add-requires c =
    let order = c.args.order.now.keys in
    let items = c.as_slice-term-items.result.now in
    let i = c.loop-term.term-index in
    let t = get_or items i no_term in
    let at : slice_get order i ≡ Some t = ap (λ z. slice_get z i) (sym c.as_slice-term-items.ensures.keys) ∙ slice_get-get_or items i no_term c.loop-term-test.true in
    fits_next c.args.table.now order c.requires i t c.in_ok-node.node c.loop-term.problem at c.loop-term.invariant c.in_ok-node.ensures

pub loop-term-preserved : goal.loop-term-preserved
loop-term-preserved c =
    let order = c.args.order.now.keys in
    let items = c.as_slice-term-items.result.now in
    let i = c.loop-term.term-index in
    let t = get_or items i no_term in
    let at : slice_get order i ≡ Some t = ap (λ z. slice_get z i) (sym c.as_slice-term-items.ensures.keys) ∙ slice_get-get_or items i no_term c.loop-term-test.true in
    nodes_more c.args.table.now order c.requires i t c.in_ok-node.node c.loop-term.problem at c.loop-term.invariant c.in_ok-node.ensures c.add.new.self c.in_ok-add.ensures.added
