use Rattle.std.proofs.Common.{false, get_or, List, ◌≡◌, ◌*◌, ◌-◌, ◌∷◌, length, take, drop, ◌∙◌, refl, ap, arith}
use Rattle.std.proofs.lemmas.List.{length-drop, take_rest}
use Rattle.std.proofs.lemmas.Result.{IfOk-weaker}
use Rattle.clause_logic.specs.declared.Lit.{Lit}
use Rattle.clause_gates.proofs.Growth.{grows_more}
use Rattle.clause_gates.proofs.Switches.{is_false}
use Rattle.bit_blast.proofs.Lists.{below_as, below_drop}
use Rattle.bit_blast.proofs.Rows.{bits_as, row_from}
use Rattle.bit_blast.proofs.multiplying.add_row.Goals as goal

abbrev nothing : Lit
nothing = record { var = 0; positive = false }

tail_length : (row : List Lit) → length (take (length row - 1) (drop 1 row)) ≡ length row - 1
tail_length row = ap length (take_rest row 1) ∙ length-drop 1 row

pub add-requires-clause-a_known : goal.add-requires-clause-a_known
add-requires-clause-a_known c = below_as _ (drop 1 c.as_slice-row.result.now) _ (below_drop _ 1 c.as_slice-row.result.now (below_as _ c.in_ok-row.row c.as_slice-row.result.now c.in_ok-row.ensures.ok.known c.as_slice-row.ensures)) (take_rest c.as_slice-row.result.now 1)

pub returns-in_err-rest-clause-grows : goal.returns-in_err-rest-clause-grows
returns-in_err-rest-clause-grows c = grows_more (3 * length c.args.a.now) c.each.ensures.grows c.add.ensures.grows (omega (arith, tail_length c.as_slice-row.result.now, ap length c.as_slice-row.ensures, c.in_ok-row.ensures.ok.count))

pub returns-clause-grows : goal.returns-clause-grows
returns-clause-grows c = grows_more (3 * length c.args.a.now) c.each.ensures.grows c.add.ensures.grows (omega (arith, tail_length c.as_slice-row.result.now, ap length c.as_slice-row.ensures, c.in_ok-row.ensures.ok.count))

pub returns-clause-ok : goal.returns-clause-ok
returns-clause-ok c =
    IfOk-weaker c.joined.result (λ r. r ≡ get_or c.as_slice-row.result.now 0 nothing ∷ c.as_slice.result.now) _
    (λ r e. row_from c.args.flag c.opposite.result c.args.a.now c.as_slice-row.result.now _ c.args.high.now c.in_ok-rest.rest r nothing c.add.ensures.grows (omega arith) (take_rest c.as_slice-row.result.now 1)
    (bits_as _ _ c.in_ok-row.row c.as_slice-row.result.now _ c.in_ok-row.ensures.ok c.as_slice-row.ensures)
    c.in_ok-rest.ensures.ok
    (λ s h. is_false c.args.truth c.opposite.result c.opposite.result (grows_more (3 * length c.args.a.now) c.each.ensures.grows c.add.ensures.grows (omega (arith, tail_length c.as_slice-row.result.now, ap length c.as_slice-row.ensures, c.in_ok-row.ensures.ok.count))) c.requires.truth c.opposite.ensures refl s h)
    (e ∙ ap (λ (xs : List Lit). get_or c.as_slice-row.result.now 0 nothing ∷ xs) c.as_slice.ensures))
    c.joined.ensures
