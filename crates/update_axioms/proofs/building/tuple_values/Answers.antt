use Rattle.std.proofs.Common.{◌≡◌, ◌∙◌, ◌<◌, ◌+◌, ◌++◌, ◌∷◌, [], map, length, take, take_all, sym, ap, arith}
use Rattle.std.specs.Prelude.{slice_get}
use Rattle.std.proofs.lemmas.List.{take_more}
use Rattle.y_tree.specs.Plain.{plain_value}
use Rattle.update_axioms.specs.Shown.{value_or_none}
use Rattle.update_axioms.proofs.NodeValues.{image_more, one_image, one_length}
use Rattle.update_axioms.proofs.building.tuple_values.Goals as goal

pub loop-nodes-preserved : goal.loop-nodes-preserved
loop-nodes-preserved c =
    let t = c.loop-nodes.nodes-index in
    let items = c.as_slice-nodes-items.result.now in
    let vals = c.as_slice-values.result.now in
    let within : t < length items = omega arith in
    let more : take (t + 1) items ≡ take t items ++ c.nodes-item.result ∷ [] = take_more items t c.nodes-item.result within ∙ ap (λ x. take t items ++ x ∷ []) (sym c.nodes-item.is) in
    image_more (map plain_value) (map (λ n. value_or_none (slice_get vals n))) c.loop-nodes.tuples c.push.new.self (take t items) (take (t + 1) items) c.in_ok-node_values.field-0 c.nodes-item.result
    c.loop-nodes.invariant c.in_ok-push.ensures.ok more (c.in_ok-node_values.ensures ∙ ap (map (λ n. value_or_none (slice_get vals n))) c.as_slice.ensures)

pub returns : goal.returns
returns c =
    let items = c.as_slice-nodes-items in
    let whole = take_all c.loop-nodes.nodes-index items.result.now (omega arith) ∙ items.ensures in
    let image = c.loop-nodes.invariant ∙ ap (map (map (λ n. value_or_none (slice_get c.as_slice-values.result.now n)))) whole ∙ ap (λ vs. map (map (λ n. value_or_none (slice_get vs n))) c.args.view.now.tuples) c.as_slice-values.ensures in
    record {
      long = one_length (λ n. value_or_none (slice_get c.args.candidate.now.values n)) c.loop-nodes.tuples c.args.view.now.tuples image;
      each = λ t. one_image (λ n. value_or_none (slice_get c.args.candidate.now.values n)) c.loop-nodes.tuples c.args.view.now.tuples t image;
    }
