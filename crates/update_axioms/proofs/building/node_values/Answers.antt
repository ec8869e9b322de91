use Rattle.std.proofs.Common.{◌∙◌, ◌<◌, ◌+◌, length, take, get_or, refl, sym, arith}
use Rattle.std.specs.Prelude.{slice_get}
use Rattle.std.proofs.lemmas.List.{take_more}
use Rattle.std.proofs.lemmas.Option.{slice_get-get_or}
use Rattle.y_tree.specs.Plain.{plain_value}
use Rattle.update_axioms.specs.Shown.{value_or_none}
use Rattle.update_axioms.proofs.Shows.{read_item}
use Rattle.update_axioms.proofs.NodeValues.{image_more, value_there}
use Rattle.update_axioms.proofs.building.node_values.Goals as goal

pub loop-node-preserved : goal.loop-node-preserved
loop-node-preserved c =
    let nodes = c.args.nodes.now in
    let all = c.args.all.now in
    let i = c.loop-node.node-index in
    let within : i < length nodes = omega arith in
    let node = slice_get-get_or nodes i 0 within in
    let there = read_item all all (get_or nodes i 0) _ refl (c.requires.there i _ node) c.index-all-node.is in
    image_more plain_value (λ n. value_or_none (slice_get all n)) c.loop-node.copies c.push.new.self (take i nodes) (take (i + 1) nodes) c.in_ok-copy_value.field-0 (get_or nodes i 0) c.loop-node.invariant c.in_ok-push.ensures.ok (take_more nodes i 0 within)
    (c.in_ok-copy_value.ensures ∙ sym (value_there all _ _ there))
