use Rattle.std.proofs.Common.{suc, [], ◌∷◌, lit≤}
use Rattle.y_tree.specs.Sorts.{boolean}
use Rattle.term_shapes.specs.declared.shapes.Shape.TheVariants as shape
use Rattle.term_build.proofs.Growing.{wider, at_most_more, then_more, sort_stays, literal_stays, added_shape}
use Rattle.term_build.proofs.Below.{args_below, then_below}
use Rattle.term_build.proofs.Fits.{ite_shape, literal_sort, ready_of, literal_of_stays}
use Rattle.term_build.proofs.sketched.one_of.Goals as goal

pub two_literals-requires : goal.two_literals-requires
two_literals-requires c = record {
  yes = ready_of c.args.table.now c.requires.branches.0 c.args.yes c.requires.branches.1;
  no = ready_of c.args.table.now c.requires.branches.0 c.args.no c.requires.branches.2;
}

pub returns-in_err-both-clause-grown : goal.returns-in_err-both-clause-grown
returns-in_err-both-clause-grown c = at_most_more 2 3 c.args.table.now c.two_literals.new.table (lit≤ tt) c.two_literals.ensures.grown

pub add-requires : goal.add-requires
add-requires c =
    let w = c.two_literals.new.table in
    let m = wider 2 c.args.table.now w c.two_literals.ensures.grown in
    let s = c.requires.branches.0 in
    ite_shape c.sorts_are_decided.ensures w c.args.test c.in_ok-both.both.0 c.in_ok-both.both.1 s (sort_stays c.args.table.now w m c.args.test boolean c.requires.test)
    (literal_sort w c.is_table.ensures c.in_ok-both.both.0 c.args.yes s c.in_ok-both.ensures.made.0 (literal_of_stays c.args.table.now w m s c.args.yes c.requires.branches.1))
    (literal_sort w c.is_table.ensures c.in_ok-both.both.1 c.args.no s c.in_ok-both.ensures.made.1 (literal_of_stays c.args.table.now w m s c.args.no c.requires.branches.2))

pub returns-in_err-t-clause-grown : goal.returns-in_err-t-clause-grown
returns-in_err-t-clause-grown c = then_more 2 1 3 c.args.table.now c.two_literals.new.table c.add.new.table c.two_literals.ensures.grown c.add.ensures.grown (lit≤ tt)

pub returns-clause-made : goal.returns-clause-made
returns-clause-made c =
    let w = c.two_literals.new.table in
    let m = wider 1 w c.add.new.table c.add.ensures.grown in (
      c.in_ok-both.both.0,
      c.in_ok-both.both.1,
      added_shape w c.add.new.table c.in_ok-t.t (shape.Ite c.args.test c.in_ok-both.both.0 c.in_ok-both.both.1) c.in_ok-t.ensures.added,
      literal_stays w c.add.new.table m c.in_ok-both.both.0 c.args.yes c.in_ok-both.ensures.made.0,
      literal_stays w c.add.new.table m c.in_ok-both.both.1 c.args.no c.in_ok-both.ensures.made.1,
    )

pub returns-clause-grown : goal.returns-clause-grown
returns-clause-grown c = then_more 2 1 3 c.args.table.now c.two_literals.new.table c.add.new.table c.two_literals.ensures.grown c.add.ensures.grown (lit≤ tt)

pub returns-clause-below : goal.returns-clause-below
returns-clause-below c =
    let w = c.two_literals.new.table in
    let s = shape.Ite c.args.test c.in_ok-both.both.0 c.in_ok-both.both.1 in
    then_below c.args.table.now w c.add.new.table (wider 1 w c.add.new.table c.add.ensures.grown) (c.in_ok-both.both.0 ∷ c.in_ok-both.both.1 ∷ []) c.in_ok-t.t c.in_ok-both.ensures.below c.in_ok-t.ensures.below
    (λ u is. args_below c.add.new.table c.in_ok-t.t s (added_shape w c.add.new.table c.in_ok-t.t s c.in_ok-t.ensures.added) u (record { place = suc is.place; at = is.at }))
