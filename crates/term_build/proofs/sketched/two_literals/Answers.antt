use Rattle.std.proofs.Common.{[], ◌∷◌, refl, lit≤}
use Rattle.term_build.proofs.Growing.{wider, at_most_more, then_more, ready_stays, literal_stays}
use Rattle.term_build.proofs.Below.{one_under, then_under}
use Rattle.term_build.proofs.sketched.two_literals.Goals as goal

pub returns-in_err-left-clause-grown : goal.returns-in_err-left-clause-grown
returns-in_err-left-clause-grown c = at_most_more 1 2 c.args.table.now c.literal_term.new.table (lit≤ tt) c.literal_term.ensures.grown

pub other_literal-requires : goal.other_literal-requires
other_literal-requires c =
    ready_stays c.args.table.now c.literal_term.new.table (wider 1 c.args.table.now c.literal_term.new.table c.literal_term.ensures.grown) c.args.no c.requires.no

pub returns-in_err-right-clause-grown : goal.returns-in_err-right-clause-grown
returns-in_err-right-clause-grown c =
    then_more 1 1 2 c.args.table.now c.literal_term.new.table c.other_literal.new.table c.literal_term.ensures.grown c.other_literal.ensures.grown (lit≤ tt)

pub returns-clause-made : goal.returns-clause-made
returns-clause-made c = (
  literal_stays c.literal_term.new.table c.other_literal.new.table (wider 1 c.literal_term.new.table c.other_literal.new.table c.other_literal.ensures.grown) c.in_ok-left.left c.args.yes c.in_ok-left.ensures.made,
  c.in_ok-right.ensures.made,
)

pub returns-clause-grown : goal.returns-clause-grown
returns-clause-grown c =
    then_more 1 1 2 c.args.table.now c.literal_term.new.table c.other_literal.new.table c.literal_term.ensures.grown c.other_literal.ensures.grown (lit≤ tt)

pub returns-clause-below : goal.returns-clause-below
returns-clause-below c =
    then_under c.args.table.now c.literal_term.new.table c.other_literal.new.table (wider 1 c.literal_term.new.table c.other_literal.new.table c.other_literal.ensures.grown)
    (c.in_ok-left.left ∷ []) (c.in_ok-left.left ∷ c.in_ok-right.right ∷ []) c.in_ok-right.right
    (one_under c.args.table.now c.literal_term.new.table c.in_ok-left.left c.in_ok-left.ensures.below) c.in_ok-right.ensures.below refl
