use Rattle.std.proofs.Common.{◌≡◌, [], ◌∷◌, ◌++◌, arith, get_or, ap, sym, subst, ◌∙◌}
use Rattle.std.proofs.lemmas.List.{get_or_read, append-nil}
use Rattle.std.specs.Prelude.{not}
use Rattle.rationals.specs.Rational.{zero_ℚ}
use Rattle.simplex_logic.specs.Limits.{turned}
use Rattle.simplex_logic.specs.Vectors.{at}
use Rattle.simplex_bounds.specs.Ranges.{range_at}
use Rattle.simplex_core.specs.Conflicts.{IsStop, Certifies}
use Rattle.simplex_core.proofs.ChoiceLemmas.{range_read}
use Rattle.simplex_core.proofs.ConflictLemmas.{certifies_none, certifies_next, certifies_all, listed}
use Rattle.simplex_core.proofs.certificate.certificate.Goals as goal
use Rattle.simplex_core.proofs.certificate.certificate.Goals.{in-Some+in_ok-push-2, in_default}

pub loop-k-init : goal.loop-k-init
loop-k-init c = certifies_none c.args.ranges.now c.args.bound.now c.args.row.now c.args.columns.now c.push.new.self.items (c.in_ok-push.ensures.items ∙ ap (λ xs. xs ++ (c.args.bound.now.tag, c.one.result) ∷ []) c.new-multipliers.ensures.items ∙ ap (λ q. (c.args.bound.now.tag, q) ∷ []) c.one.ensures)

pub loop-k-preserved : goal.loop-k-preserved
loop-k-preserved c =
    let i = c.requires.named c.loop-k.k (omega arith) in
    let e : c.oriented-by.result ≡ turned (not c.args.bound.now.upper) (at c.args.row.now c.loop-k.k) = c.oriented-by.ensures ∙ ap (turned (not c.args.bound.now.upper)) (get_or_read c.args.row.now c.loop-k.k c.index-row-k.result (omega (arith, c.requires.width)) c.index-row-k.is zero_ℚ) in
    let s : IsStop (range_at c.args.ranges.now (get_or c.args.columns.now c.loop-k.k 0)) (turned (not c.args.bound.now.upper) (at c.args.row.now c.loop-k.k)) c.stop_of.result =
    subst (λ q. IsStop (range_at c.args.ranges.now (get_or c.args.columns.now c.loop-k.k 0)) q c.stop_of.result) e
    (subst (λ r. IsStop r c.oriented-by.result c.stop_of.result) (range_read c.args.ranges.now (get_or c.args.columns.now c.loop-k.k 0) c.index-ranges-columns.result i c.index-ranges-columns.is) c.stop_of.ensures) in
    let grown : c.match-stop_of.multipliers.items ≡ c.loop-k.multipliers.items ++ listed c.stop_of.result = elim c.match-stop_of.branch [
      | in-Some+in_ok-push-2 w ↦ let e : c.match-stop_of.multipliers.items ≡ c.loop-k.multipliers.items ++ w.in-Some.stop ∷ [] = cc (w.in_ok-push-2.ensures.items) in e ∙ ap (λ o. c.loop-k.multipliers.items ++ listed o) (sym w.in-Some.is)
      | in_default w ↦ let e : c.match-stop_of.multipliers.items ≡ c.loop-k.multipliers.items = cc in e ∙ sym (append-nil c.loop-k.multipliers.items) ∙ ap (λ o. c.loop-k.multipliers.items ++ listed o) (sym w.in_default.is)
    ] in
    certifies_next c.loop-k.k c.args.ranges.now c.args.bound.now c.args.row.now c.args.columns.now c.loop-k.multipliers.items c.match-stop_of.multipliers.items c.stop_of.result (omega arith) c.requires.width s grown c.loop-k.invariant

pub returns : goal.returns
returns c =
    subst (Certifies c.args.ranges.now c.args.bound.now c.args.row.now c.args.columns.now) (sym c.from_vec.ensures)
    (certifies_all c.loop-k.k c.args.ranges.now c.args.bound.now c.args.row.now c.args.columns.now c.loop-k.multipliers.items (omega arith) c.requires.width c.loop-k.invariant)
