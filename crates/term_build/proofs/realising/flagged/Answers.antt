use Rattle.std.proofs.Common.{[], ◌∷◌, lit≤, sym, subst}
use Rattle.y_tree.specs.Sorts.{boolean}
use Rattle.term_shapes.specs.declared.shapes.Shape.TheVariants as shape
use Rattle.term_build.specs.Building.{IsFlagged}
use Rattle.term_build.proofs.Growing.{wider, at_most_more, then_more, shape_stays, type_stays, is_shape_stays, added_shape}
use Rattle.term_build.proofs.Below.{args_below, one_under, then_below}
use Rattle.term_build.proofs.Kept.{shape_sort}
use Rattle.term_build.proofs.realising.flagged.Goals as goal

pub add-requires : goal.add-requires
add-requires c = (c.requires.0, c.requires.1)

pub returns-in_err-inner-clause-grown : goal.returns-in_err-inner-clause-grown
returns-in_err-inner-clause-grown c = at_most_more 1 2 c.args.table.now c.add.new.table (lit≤ tt) c.add.ensures.grown

pub returns-then-not-negated-clause-grown : goal.returns-then-not-negated-clause-grown
returns-then-not-negated-clause-grown c = at_most_more 1 2 c.args.table.now c.add.new.table (lit≤ tt) c.add.ensures.grown

pub negation-requires : goal.negation-requires
negation-requires c =
    let m = wider 1 c.args.table.now c.add.new.table c.add.ensures.grown in
    shape_sort c.add.new.table c.is_table.ensures c.in_ok-inner.inner c.args.shape c.requires.0 boolean (added_shape c.args.table.now c.add.new.table c.in_ok-inner.inner c.args.shape c.in_ok-inner.ensures.added)
    (is_shape_stays c.args.table.now c.add.new.table m c.args.shape c.requires.0 c.requires.1) (type_stays c.args.table.now c.add.new.table m boolean c.requires.0 c.requires.2)

pub returns-in_err-outer-clause-grown : goal.returns-in_err-outer-clause-grown
returns-in_err-outer-clause-grown c = then_more 1 1 2 c.args.table.now c.add.new.table c.negation.new.table c.add.ensures.grown c.negation.ensures.grown (lit≤ tt)

pub returns-clause-made : goal.returns-clause-made
returns-clause-made c =
    subst (λ b. IsFlagged c.negation.new.table c.in_ok-outer.outer b c.args.shape) (sym c.if-not-negated.false) (
      c.in_ok-inner.inner,
      shape_stays c.add.new.table c.negation.new.table (wider 1 c.add.new.table c.negation.new.table c.negation.ensures.grown) c.in_ok-inner.inner c.args.shape
          (added_shape c.args.table.now c.add.new.table c.in_ok-inner.inner c.args.shape c.in_ok-inner.ensures.added),
      c.in_ok-outer.ensures.made,
    )

pub returns-clause-grown : goal.returns-clause-grown
returns-clause-grown c = then_more 1 1 2 c.args.table.now c.add.new.table c.negation.new.table c.add.ensures.grown c.negation.ensures.grown (lit≤ tt)

pub returns-clause-below : goal.returns-clause-below
returns-clause-below c =
    then_below c.args.table.now c.add.new.table c.negation.new.table (wider 1 c.add.new.table c.negation.new.table c.negation.ensures.grown) (c.in_ok-inner.inner ∷ []) c.in_ok-outer.outer
    (one_under c.args.table.now c.add.new.table c.in_ok-inner.inner c.in_ok-inner.ensures.below) c.in_ok-outer.ensures.below
    (args_below c.negation.new.table c.in_ok-outer.outer (shape.Not c.in_ok-inner.inner) c.in_ok-outer.ensures.made)
