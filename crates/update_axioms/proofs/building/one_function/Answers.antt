use Rattle.std.proofs.Common.{◌-◌, length, sym, ap, subst, refl}
use Rattle.std.proofs.lemmas.Option.{slice_get-get_or}
use Rattle.update_axioms.specs.Tabling.{points_made, AreFlat}
use Rattle.update_axioms.specs.Grouping.{AreByKey}
use Rattle.update_axioms.proofs.Judging.{group_flat, group_clash, points_in_order, clash_within, clash_of, regroup, below_before}
use Rattle.update_axioms.proofs.building.one_function.Goals as goal

pub tabulate-requires-clause-order : goal.tabulate-requires-clause-order
tabulate-requires-clause-order c =
    points_in_order c.args.tuples.now c.as_slice-2.result.now c.as_slice-group.result.now
    (subst (λ g. AreByKey c.args.tuples.now g) (sym c.as_slice-group.ensures.value) c.in_ok-made.ensures.order)

pub tabulate-requires-clause-flat : goal.tabulate-requires-clause-flat
tabulate-requires-clause-flat c =
    let grouped = regroup _ c.args.candidate.now.applications c.args.function _ c.as_slice-group.result.now c.in_ok-made.ensures.group c.as_slice.ensures (sym c.as_slice-group.ensures.value) in
    subst (λ vs. AreFlat (points_made c.args.tuples.now vs c.as_slice-group.result.now)) (sym c.as_slice-2.ensures)
    (group_flat c.args.view.now c.args.candidate.now c.requires.judged.0 c.requires.judged.1 c.args.tuples.now c.requires.tuples c.args.function c.as_slice-group.result.now grouped)

pub bounds-group-place : goal.bounds-group-place
bounds-group-place c =
    let clash = clash_of _ _ _ c.in-Clash.place c.in_ok-entries.ensures refl c.in-Clash.is in
    below_before c.in-Clash.place (length c.as_slice-group.result.now) (clash_within c.args.tuples.now c.as_slice-2.result.now c.as_slice-group.result.now c.in-Clash.place clash)

pub bounds-group-place-in-Clash : goal.bounds-group-place-in-Clash
bounds-group-place-in-Clash c =
    let clash = clash_of _ _ _ c.in-Clash.place c.in_ok-entries.ensures refl c.in-Clash.is in
    clash_within c.args.tuples.now c.as_slice-2.result.now c.as_slice-group.result.now c.in-Clash.place clash

pub returns : goal.returns
returns c =
    let clash = clash_of _ (points_made c.args.tuples.now c.args.candidate.now.values c.as_slice-group.result.now) _ c.in-Clash.place c.in_ok-entries.ensures
    (ap (λ vs. points_made c.args.tuples.now vs c.as_slice-group.result.now) c.as_slice-2.ensures) c.in-Clash.is in
    let within = clash_within c.args.tuples.now c.args.candidate.now.values c.as_slice-group.result.now c.in-Clash.place clash in
    let grouped = regroup _ c.args.candidate.now.applications c.args.function _ c.as_slice-group.result.now c.in_ok-made.ensures.group c.as_slice.ensures (sym c.as_slice-group.ensures.value) in
    group_clash c.args.view.now c.args.candidate.now c.requires.judged.0 c.requires.judged.1 c.args.tuples.now c.requires.tuples c.args.function c.as_slice-group.result.now grouped c.in-Clash.place _ _ clash
    (slice_get-get_or c.as_slice-group.result.now (c.in-Clash.place - 1) (0, 0, 0) (below_before c.in-Clash.place (length c.as_slice-group.result.now) within))
    (slice_get-get_or c.as_slice-group.result.now c.in-Clash.place (0, 0, 0) within)
