use Rattle.std.proofs.Common.{take_all, ◌≡◌, ◌∙◌, ◌+◌, map, take, sym, ap, subst, refl, arith, ◌++◌, ◌∷◌, []}
use Rattle.std.proofs.lemmas.Option.{slice_get-get_or}
use Rattle.y_tree.specs.Plain.{plain_value, plain_values, plain_entry}
use Rattle.update_axioms.specs.Tabling.{points_made}
use Rattle.update_axioms.specs.declared.tabling.Step.TheVariants.{Behind, Again, Differs}
use Rattle.update_axioms.proofs.Shows.{read_item}
use Rattle.update_axioms.proofs.Ordered.{Tabling, nothing_tabled, all_tabled}
use Rattle.update_axioms.proofs.SoFar.{tabled_behind, tabled_again, tabled_clash, restep}
use Rattle.update_axioms.proofs.tabling.tabulate.Goals as goal
use Rattle.update_axioms.proofs.tabling.tabulate.Goals.{in-Behind+in_ok-push_entry-in-Behind, in-Again}

pub loop-i-init : goal.loop-i-init
loop-i-init c = subst (λ ks. Tabling [] (map plain_entry ks)) (sym c.new-kept.ensures.items) nothing_tabled

pub bounds-tuples-made : goal.bounds-tuples-made
bounds-tuples-made c = c.requires.tuples c.loop-i.i _ (slice_get-get_or c.args.made.now c.loop-i.i (0, 0, 0) (omega arith))

pub bounds-values-made : goal.bounds-values-made
bounds-values-made c = c.requires.nodes c.loop-i.i _ (slice_get-get_or c.args.made.now c.loop-i.i (0, 0, 0) (omega arith))

pub returns-in-Differs : goal.returns-in-Differs
returns-in-Differs c =
    let there = slice_get-get_or c.args.made.now c.loop-i.i (0, 0, 0) (omega arith) in
    let tuple = read_item c.args.tuples.now c.args.tuples.now _ _ refl (c.requires.tuples c.loop-i.i _ there) c.index-tuples-made.is in
    let node = read_item c.args.values.now c.args.values.now _ _ refl (c.requires.nodes c.loop-i.i _ there) c.index-values-made.is in
    let step = restep _ Differs _ _ _ _ _ c.step_of.ensures c.in-Differs.is c.as_slice.ensures.value c.as_slice-key.ensures in
    tabled_clash c.args.tuples.now c.args.values.now c.args.made.now c.loop-i.i _ _ _ there tuple node _ c.loop-i.invariant step

pub loop-i-preserved : goal.loop-i-preserved
loop-i-preserved c =
    let there = slice_get-get_or c.args.made.now c.loop-i.i (0, 0, 0) (omega arith) in
    let tuple = read_item c.args.tuples.now c.args.tuples.now _ _ refl (c.requires.tuples c.loop-i.i _ there) c.index-tuples-made.is in
    let node = read_item c.args.values.now c.args.values.now _ _ refl (c.requires.nodes c.loop-i.i _ there) c.index-values-made.is in
    elim c.match-step_of.branch [
      | in-Behind+in_ok-push_entry-in-Behind w ↦
          let step = restep _ Behind _ _ _ _ _ c.step_of.ensures w.in-Behind.is c.as_slice.ensures.value c.as_slice-key.ensures in
          let more = w.in_ok-push_entry-in-Behind.ensures ∙ ap (λ k. map plain_entry c.loop-i.kept.items ++ (plain_values k, plain_value c.index-values-made.result) ∷ []) c.as_slice-key.ensures in
          tabled_behind c.args.tuples.now c.args.values.now c.args.made.now c.loop-i.i _ _ _ there tuple node _ _ c.requires.order c.loop-i.invariant step (ap (λ v. map plain_entry v.items) w.kept-is ∙ more)
      | in-Again w ↦
          let step = restep _ Again _ _ _ _ _ c.step_of.ensures w.in-Again.is c.as_slice.ensures.value c.as_slice-key.ensures in
          subst (λ ks. Tabling (points_made c.args.tuples.now c.args.values.now (take (c.loop-i.i + 1) c.args.made.now)) (map plain_entry ks.items)) (sym w.kept-is)
          (tabled_again c.args.tuples.now c.args.values.now c.args.made.now c.loop-i.i _ _ _ there tuple node _ c.loop-i.invariant step)
    ]

pub returns : goal.returns
returns c =
    let whole : take c.loop-i.i c.args.made.now ≡ c.args.made.now = take_all c.loop-i.i c.args.made.now (omega arith) in
    let t = subst (λ ms. Tabling (points_made c.args.tuples.now c.args.values.now ms) (map plain_entry c.loop-i.kept.items)) whole c.loop-i.invariant in
    let all = all_tabled _ _ t c.requires.flat in
    record { functional = all.0; tabulate = all.1; rising = all.2 }
