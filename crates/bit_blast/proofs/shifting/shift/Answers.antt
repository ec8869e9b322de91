use Rattle.std.proofs.Common.{List, cond, not, eqb, ◌*◌, length, drop, ap, ◌∙◌, subst, arith}
use Rattle.std.proofs.lemmas.Result.{IfOk-weaker}
use Rattle.std.proofs.lemmas.List.{take_rest, length-replicate}
use Rattle.clause_logic.specs.declared.Lit.{Lit}
use Rattle.clause_gates.specs.Bits.{value_under}
use Rattle.bit_blast.specs.Bits.{number_under}
use Rattle.clause_gates.specs.Circuits.{Computes}
use Rattle.clause_gates.proofs.Growth.{grows_more, truth_on}
use Rattle.bit_blast.proofs.Lists.{below_as, below_on, below_take, below_drop, below_replicate_is}
use Rattle.bit_blast.proofs.Moves.{shift_is, second_as, near_room, rest_length}
use Rattle.bit_blast.proofs.shifting.shift.Goals as goal

pub shift_near-requires-clause-b_known : goal.shift_near-requires-clause-b_known
shift_near-requires-clause-b_known c = below_take _ c.stage_count-low.result c.args.b.now c.requires.b_known

pub nonzero-requires-clause-truth : goal.nonzero-requires-clause-truth
nonzero-requires-clause-truth c = truth_on c.args.truth c.shift_near.ensures.grows c.requires.truth

pub nonzero-requires-clause-a_known : goal.nonzero-requires-clause-a_known
nonzero-requires-clause-a_known c =
    below_as _ (drop c.stage_count-low.result c.args.b.now) _ (below_drop _ c.stage_count-low.result c.args.b.now (below_on c.args.b.now c.shift_near.ensures.grows c.requires.b_known)) (take_rest c.args.b.now c.stage_count-low.result)

pub returns-in_err-far-clause-grows : goal.returns-in_err-far-clause-grows
returns-in_err-far-clause-grows c = (grows_more (9 * length c.args.a.now) c.shift_near.ensures.grows c.nonzero.ensures.grows (omega (arith, near_room c.args.a.now c.args.b.now c.stage_count-low.result c.stage_count-low.ensures.few c.stage_count-low.ensures.within, rest_length c.args.b.now c.stage_count-low.result, c.requires.same)))

pub returns-in_err-gone-clause-grows : goal.returns-in_err-gone-clause-grows
returns-in_err-gone-clause-grows c = (grows_more (9 * length c.args.a.now) c.shift_near.ensures.grows c.nonzero.ensures.grows (omega (arith, near_room c.args.a.now c.args.b.now c.stage_count-low.result c.stage_count-low.ensures.few c.stage_count-low.ensures.within, rest_length c.args.b.now c.stage_count-low.result, c.requires.same)))

pub each-requires-clause-truth : goal.each-requires-clause-truth
each-requires-clause-truth c = truth_on c.args.truth (grows_more (8 * length c.args.a.now) c.shift_near.ensures.grows c.nonzero.ensures.grows (omega (arith, near_room c.args.a.now c.args.b.now c.stage_count-low.result c.stage_count-low.ensures.few c.stage_count-low.ensures.within, rest_length c.args.b.now c.stage_count-low.result, c.requires.same))) c.requires.truth

pub each-requires-clause-a_known : goal.each-requires-clause-a_known
each-requires-clause-a_known c = below_replicate_is _ (length c.args.a.now) c.args.fill c.as_slice.result.now (omega (arith, c.requires.fill_known, c.shift_near.ensures.grows.vars, c.nonzero.ensures.grows.vars)) (c.as_slice.ensures ∙ c.in_ok-gone.ensures)

pub each-requires-clause-b_known : goal.each-requires-clause-b_known
each-requires-clause-b_known c = below_on _ c.nonzero.ensures.grows (below_as _ c.in_ok-near.near c.as_slice-2.result.now c.in_ok-near.ensures.known c.as_slice-2.ensures)

pub returns-clause-grows : goal.returns-clause-grows
returns-clause-grows c = grows_more (9 * length c.args.a.now) (grows_more (8 * length c.args.a.now) c.shift_near.ensures.grows c.nonzero.ensures.grows (omega (arith, near_room c.args.a.now c.args.b.now c.stage_count-low.result c.stage_count-low.ensures.few c.stage_count-low.ensures.within, rest_length c.args.b.now c.stage_count-low.result, c.requires.same))) c.each.ensures.grows (omega (arith, ap length (c.as_slice.ensures ∙ c.in_ok-gone.ensures), length-replicate (length c.args.a.now) c.args.fill))

pub returns-clause-ok : goal.returns-clause-ok
returns-clause-ok c =
    IfOk-weaker c.each.result _ _
    (λ r bits. shift_is c.args.way c.args.fill c.in_ok-far.far c.args.a.now c.args.b.now c.in_ok-near.near c.as_slice.result.now r c.stage_count-low.result c.nonzero.ensures.grows c.each.ensures.grows c.stage_count-low.ensures.within
    (omega (arith, c.requires.same, c.stage_count-low.ensures.enough)) c.in_ok-near.ensures.count (c.as_slice.ensures ∙ c.in_ok-gone.ensures) c.in_ok-near.ensures.ok
    (subst (λ (ls : List Lit). Computes c.nonzero.new.circuit.content c.in_ok-far.far (λ s. not (eqb (number_under s ls) 0))) (take_rest c.args.b.now c.stage_count-low.result) c.in_ok-far.ensures.ok)
    (second_as _ _ r (λ s x y. cond (value_under s c.in_ok-far.far) x y) c.as_slice.result.now c.as_slice-2.result.now c.in_ok-near.near bits c.as_slice-2.ensures))
    c.each.ensures.ok
