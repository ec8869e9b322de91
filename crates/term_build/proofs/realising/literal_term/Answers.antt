use Rattle.std.proofs.Common.{◌∙◌, refl, sym}
use Rattle.term_build.specs.Building.{no_more}
use Rattle.term_build.proofs.Growing.{not_is_shape, literal_false, not_false}
use Rattle.term_build.proofs.Below.{nothing_below}
use Rattle.term_build.proofs.realising.literal_term.Goals as goal

pub returns-then-not-literal-clause-grown : goal.returns-then-not-literal-clause-grown
returns-then-not-literal-clause-grown c = no_more 1 c.args.table.now

pub returns-then-is_constant-clause-made : goal.returns-then-is_constant-clause-made
returns-then-is_constant-clause-made c =
    literal_false c.args.table.now c.is_table.ensures c.args.literal c.false_term.result (not_false c.args.literal.negated c.if-not-literal.false) (sym c.is_constant.ensures ∙ c.if-is_constant.true) c.false_term.ensures

pub returns-then-is_constant-clause-grown : goal.returns-then-is_constant-clause-grown
returns-then-is_constant-clause-grown c = no_more 1 c.args.table.now

pub add-requires : goal.add-requires
add-requires c = not_is_shape c.args.table.now c.is_table.ensures c.args.literal.atom (c.requires.1 (not_false c.args.literal.negated c.if-not-literal.false))

pub returns-then-not-literal-clause-below : goal.returns-then-not-literal-clause-below
returns-then-not-literal-clause-below c = nothing_below c.args.table.now c.args.table.now c.args.literal.atom refl

pub returns-then-is_constant-clause-below : goal.returns-then-is_constant-clause-below
returns-then-is_constant-clause-below c = nothing_below c.args.table.now c.args.table.now c.false_term.result refl
