use Rattle.std.proofs.Common.{◌+◌, length, arith}
use Rattle.term_shapes.specs.declared.shapes.Shape.TheVariants as shape
use Rattle.term_build.proofs.Growing.{wider, at_most_more, then_more, ready_all, literals_stay, added_shape}
use Rattle.term_build.proofs.Below.{args_below, then_below}
use Rattle.term_build.proofs.Fits.{and_shape, literal_sorts, literals_filled}
use Rattle.term_build.proofs.sketched.all_of.Goals as goal

pub literal_terms-requires : goal.literal_terms-requires
literal_terms-requires c = ready_all c.args.table.now c.args.all.now c.requires.sorts

pub returns-in_err-args-clause-grown : goal.returns-in_err-args-clause-grown
returns-in_err-args-clause-grown c = at_most_more (length c.args.all.now) (length c.args.all.now + 2) c.args.table.now c.literal_terms.new.table (omega arith) c.literal_terms.ensures.grown

pub add-requires : goal.add-requires
add-requires c =
    let m = wider (length c.args.all.now) c.args.table.now c.literal_terms.new.table c.literal_terms.ensures.grown in
    let s = and_shape c.literal_terms.new.table c.is_table.ensures c.in_ok-args.args (literals_filled c.literal_terms.new.table c.in_ok-args.args c.args.all.now c.in_ok-args.ensures.made c.requires.filled)
    (literal_sorts c.args.table.now c.literal_terms.new.table m c.is_table.ensures c.in_ok-args.args c.args.all.now c.in_ok-args.ensures.made c.requires.sorts) in
    (s.0, s.1)

pub returns-in_err-t-clause-grown : goal.returns-in_err-t-clause-grown
returns-in_err-t-clause-grown c =
    then_more (length c.args.all.now) 1 (length c.args.all.now + 2) c.args.table.now c.literal_terms.new.table c.add.new.table c.literal_terms.ensures.grown c.add.ensures.grown (omega arith)

pub returns-clause-made : goal.returns-clause-made
returns-clause-made c = (
  c.in_ok-args.args,
  added_shape c.literal_terms.new.table c.add.new.table c.in_ok-t.t (shape.And c.in_ok-args.args) c.in_ok-t.ensures.added,
  literals_stay c.literal_terms.new.table c.add.new.table (wider 1 c.literal_terms.new.table c.add.new.table c.add.ensures.grown) c.in_ok-args.args c.args.all.now c.in_ok-args.ensures.made,
)

pub returns-clause-grown : goal.returns-clause-grown
returns-clause-grown c =
    then_more (length c.args.all.now) 1 (length c.args.all.now + 2) c.args.table.now c.literal_terms.new.table c.add.new.table c.literal_terms.ensures.grown c.add.ensures.grown (omega arith)

pub returns-clause-below : goal.returns-clause-below
returns-clause-below c =
    then_below c.args.table.now c.literal_terms.new.table c.add.new.table (wider 1 c.literal_terms.new.table c.add.new.table c.add.ensures.grown) c.in_ok-args.args c.in_ok-t.t c.in_ok-args.ensures.below c.in_ok-t.ensures.below
    (args_below c.add.new.table c.in_ok-t.t (shape.And c.in_ok-args.args) (added_shape c.literal_terms.new.table c.add.new.table c.in_ok-t.t (shape.And c.in_ok-args.args) c.in_ok-t.ensures.added))
