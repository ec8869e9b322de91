use Rattle.std.proofs.Common.{◌∙◌, ◌<◌, ◌+◌, length, take, get_or, refl, sym, subst, arith}
use Rattle.std.proofs.lemmas.List.{take_more}
use Rattle.update_axioms.proofs.Shows.{read_at, read_item}
use Rattle.update_axioms.proofs.NodeValues.{value_there, shown_more}
use Rattle.update_axioms.proofs.building.update_values.Goals as goal

pub loop-update-preserved : goal.loop-update-preserved
loop-update-preserved c =
    let i = c.loop-update.update-index in
    let items = c.as_slice-update-items.result.now in
    let vals = c.as_slice-values.result.now in
    let within : i < length items = omega arith in
    let u = get_or items i (0, 0, 0, 0) in
    let there = read_at items c.args.view.now.updates i (0, 0, 0, 0) c.as_slice-update-items.ensures (subst (λ xs. i < length xs) c.as_slice-update-items.ensures within) in
    let bound = c.requires.1.updated_to i u there in
    let value = read_item vals vals u.3 _ refl (subst (λ xs. u.3 < length xs) (sym c.as_slice-values.ensures) bound) c.index-values-update.is in
    shown_more vals (take i items) (take (i + 1) items) c.loop-update.shown c.push.new.self u c.in_ok-copy_value.field-0 c.loop-update.invariant (c.in_ok-copy_value.ensures ∙ sym (value_there vals _ _ value))
    (take_more items i (0, 0, 0, 0) within) c.in_ok-push.ensures.ok
