use Rattle.std.proofs.Common.{◌+◌, length, arith, get_or, false}
use Rattle.std.proofs.lemmas.Result.{err_from_is_err_and}
use Rattle.term_sketches.specs.declared.items.Literal.{Literal}
use Rattle.term_build.specs.Building.{no_more}
use Rattle.term_build.proofs.Growing.{wider, literals_start, literals_stay, literals_step, then_more, ready_stays, ready_at}
use Rattle.term_build.proofs.Below.{nothing_under, then_under}
use Rattle.term_build.proofs.realising.literal_terms.Goals as goal

-- the literal of an empty place
none_there : Literal
none_there = record { atom = record { slot = 0; stamp = 0 }; negated = false }

pub loop-literal-init : goal.loop-literal-init
loop-literal-init c = record { grown = no_more 0 c.args.table.now; made = literals_start c.args.table.now c.new-args.result c.args.literals.now c.new-args.ensures; under = nothing_under c.args.table.now c.new-args.result }

pub literal_term-requires : goal.literal_term-requires
unfolding none_there
literal_term-requires c =
    ready_stays c.args.table.now c.loop-literal.table (wider c.loop-literal.literal-index c.args.table.now c.loop-literal.table c.loop-literal.invariant.grown)
    (get_or c.args.literals.now c.loop-literal.literal-index none_there) (ready_at c.args.table.now c.args.literals.now c.loop-literal.literal-index none_there c.loop-literal-test.true c.requires)

pub returns-in_err-t-clause-grown : goal.returns-in_err-t-clause-grown
returns-in_err-t-clause-grown c =
    then_more c.loop-literal.literal-index 1 (length c.args.literals.now) c.args.table.now c.loop-literal.table c.literal_term.new.table c.loop-literal.invariant.grown c.literal_term.ensures.grown
    (omega (arith, c.loop-literal-test.true))

pub returns-in_err-push-clause-grown : goal.returns-in_err-push-clause-grown
returns-in_err-push-clause-grown c =
    then_more c.loop-literal.literal-index 1 (length c.args.literals.now) c.args.table.now c.loop-literal.table c.literal_term.new.table c.loop-literal.invariant.grown c.literal_term.ensures.grown
    (omega (arith, c.loop-literal-test.true))

pub returns-in_err-push-clause-refused : goal.returns-in_err-push-clause-refused
returns-in_err-push-clause-refused c =
    let p = err_from_is_err_and c.from_residual-in_err-push.result c.from_residual-in_err-push.ensures.1 in rw (p.1, p.2) (c.in_err-push.ensures.err c.literal_term.new.table)

pub loop-literal-preserved : goal.loop-literal-preserved
unfolding none_there
loop-literal-preserved c = record {
  grown = then_more c.loop-literal.literal-index 1 (c.loop-literal.literal-index + 1) c.args.table.now c.loop-literal.table c.literal_term.new.table c.loop-literal.invariant.grown c.literal_term.ensures.grown (omega arith);
  made = literals_step c.literal_term.new.table c.loop-literal.args c.push.new.args c.args.literals.now c.loop-literal.literal-index none_there c.in_ok-t.t c.loop-literal-test.true
      (literals_stay c.loop-literal.table c.literal_term.new.table (wider 1 c.loop-literal.table c.literal_term.new.table c.literal_term.ensures.grown) c.loop-literal.args _ c.loop-literal.invariant.made)
      c.in_ok-t.ensures.made c.in_ok-push.ensures.ok;
  under = then_under c.args.table.now c.loop-literal.table c.literal_term.new.table (wider 1 c.loop-literal.table c.literal_term.new.table c.literal_term.ensures.grown) c.loop-literal.args c.push.new.args c.in_ok-t.t
      c.loop-literal.invariant.under c.in_ok-t.ensures.below c.in_ok-push.ensures.ok;
}
