use Rattle.std.proofs.Common.{◌≡◌, ◌∙◌, ◌∷◌, Some, ap, sym, subst, length, get_or, arith}
use Rattle.std.specs.Prelude.{slice_get, slice_range}
use Rattle.context_stack.proofs.Stacks.{level_count, level_by_marks, IsLevel}
use Rattle.context_stack.proofs.stack.Stack.roots.Goals as goal

pub begin_of-from-requires : goal.begin_of-from-requires
begin_of-from-requires c =
    omega (arith, c.requires, ap length c.as_slice-marks.ensures.value, level_count c.self.inside.formulas.items c.self.inside.marks.items, ap length c.self.view_is)

pub part_of-requires : goal.part_of-requires
part_of-requires c =
    let ms = c.self.inside.marks.items in
    let ts = c.self.inside.formulas.items in
    let low = c.begin_of-from.ensures ∙ ap (λ x. get_or (0 ∷ x) c.args.level 0) c.as_slice-marks.ensures.value in
    let high = c.end_of-to.ensures ∙ ap (λ x. get_or x c.args.level (length c.as_slice-formulas.result.now)) c.as_slice-marks.ensures.value ∙ ap (get_or ms c.args.level) (ap length c.as_slice-formulas.ensures.value) in
    let r = level_by_marks ms ts c.args.level c.begin_of-from.result c.end_of-to.result c.self.invariant (omega (arith, c.requires, level_count ts ms, ap length c.self.view_is)) low high in
    record { order = r.order; within = omega (arith, r.within, ap length c.as_slice-formulas.ensures.value) }

pub returns : goal.returns
returns c =
    let ms = c.self.inside.marks.items in
    let ts = c.self.inside.formulas.items in
    let low = c.begin_of-from.ensures ∙ ap (λ x. get_or (0 ∷ x) c.args.level 0) c.as_slice-marks.ensures.value in
    let high = c.end_of-to.ensures ∙ ap (λ x. get_or x c.args.level (length c.as_slice-formulas.result.now)) c.as_slice-marks.ensures.value ∙ ap (get_or ms c.args.level) (ap length c.as_slice-formulas.ensures.value) in
    let r = level_by_marks ms ts c.args.level c.begin_of-from.result c.end_of-to.result c.self.invariant (omega (arith, c.requires, level_count ts ms, ap length c.self.view_is)) low high in
    ap (λ x. slice_get x c.args.level) (sym c.self.view_is) ∙ r.at ∙ ap Some (ap (λ x. slice_range x c.begin_of-from.result c.end_of-to.result) (sym c.as_slice-formulas.ensures.value) ∙ sym c.part_of.ensures)
