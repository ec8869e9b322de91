use Rattle.std.proofs.Common.{◌+◌, sym, subst, take, get_or, arith}
use Rattle.std.proofs.lemmas.List.{take_all}
use Rattle.theory_combine.specs.Reading.{marked, AreMarks}
use Rattle.node_encoding.proofs.Adding.{no_lit}
use Rattle.node_encoding.proofs.Placing.{slice_get_here}
use Rattle.theory_combine.proofs.Marking.{marks_more, by_sign, positive_kept, negative_kept, positive_grown, negative_grown, signs_none, marks_none}
use Rattle.theory_combine.proofs.deciding.marks_of.Goals as goal
use Rattle.theory_combine.proofs.deciding.marks_of.Goals.{then-lit+in_ok-insert, else-lit+in_ok-insert-2}

pub loop-lit-init : goal.loop-lit-init
loop-lit-init c =
    marks_none c.args.core.now (by_sign c.new.result.keys c.new-2.result.keys) (signs_none c.new.result.keys c.new-2.result.keys c.new.ensures.empty c.new-2.ensures.empty)

pub loop-lit-preserved : goal.loop-lit-preserved
loop-lit-preserved c =
    let core = c.args.core.now in
    let i = c.loop-lit.lit-index in
    let x = get_or core i no_lit in
    let here = slice_get_here core i no_lit c.loop-lit-test.true in
    let ps = c.loop-lit.marks.positive.keys in
    let ns = c.loop-lit.marks.negative.keys in
    elim c.if-lit.branch [
      | then-lit+in_ok-insert w ↦
          let qs = w.insert.new.self.keys in
          subst (λ m. AreMarks (take (i + 1) core) (marked m)) (sym w.marks-is)
          (marks_more core i x here (by_sign ps ns) (by_sign qs ns) (positive_grown x.var ps qs ns x.positive w.if-lit.true w.in_ok-insert.ensures.updates.0) (positive_kept ps qs ns x.positive w.if-lit.true) c.loop-lit.invariant)
      | else-lit+in_ok-insert-2 w ↦
          let qs = w.insert-else-lit.new.self.keys in
          subst (λ m. AreMarks (take (i + 1) core) (marked m)) (sym w.marks-is)
          (marks_more core i x here (by_sign ps ns) (by_sign ps qs) (negative_grown x.var ps ns qs x.positive w.if-lit.false w.in_ok-insert-2.ensures.updates.0) (negative_kept ps ns qs x.positive w.if-lit.false) c.loop-lit.invariant)
    ]

pub returns : goal.returns
returns c = subst (λ w. AreMarks w (marked c.loop-lit.marks)) (take_all c.loop-lit.lit-index c.args.core.now (omega (arith, c.loop-lit-test.false))) c.loop-lit.invariant
