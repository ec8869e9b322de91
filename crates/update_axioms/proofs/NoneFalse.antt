-- Where no axiom is false, functions are as the view says.
use Rattle.std.proofs.Common.{◌≡◌, ◌∙◌, Bool, true, false, not, ◌&&◌, List, [], ◌∷◌, Some, None, length, refl, sym, arith}
use Rattle.std.specs.Prelude.{slice_get, if◌then◌else◌}
use Rattle.std.specs.List.{range_with_len, list_all}
use Rattle.std.proofs.lemmas.Option.{slice_get_within}
use Rattle.y_tree.specs.Values.{same_function}
use Rattle.y_tree.specs.Plain.{plain_sorts}
use Rattle.update_axioms.specs.declared.Instance.{Instance}
use Rattle.update_axioms.specs.declared.Instance.TheVariants.{AtPoint, Elsewhere}
use Rattle.update_axioms.specs.declared.FunctionView.{FunctionView}
use Rattle.update_axioms.specs.declared.shown.FunctionValues.{FunctionValues}
use Rattle.update_axioms.specs.Views.{HasTuples, apart, instances_of}
use Rattle.update_axioms.specs.Says.{has_value, is_kept}
use Rattle.update_axioms.specs.Enough.{shown}
use Rattle.update_axioms.specs.Shown.{nodes_of, is_so_of, first_failing, AreAsSaid}
use Rattle.update_axioms.proofs.Ranges.{range_all}
use Rattle.update_axioms.proofs.Holding.{held, each_item, parts}
use Rattle.update_axioms.proofs.Laws.{enough_update}
use Rattle.update_axioms.proofs.Truths.{both}

pub none_failing : (p : Instance → Bool) (xs : List Instance) → first_failing p xs ≡ None → list_all p xs ≡ true
none_failing p [] h = refl
none_failing p (x ∷ xs) h =
    elim (p x) as (λ b. (if b then first_failing p xs else Some x) ≡ None → (b && list_all p xs) ≡ true)
    [ true ↦ λ g. none_failing p xs g | false ↦ λ g. absurd (cc g) ] h

not_true : (b : Bool) → not b ≡ true → b ≡ false
not_true true h = absurd cc
not_true false h = refl

pub none_false : (v : FunctionView) (s : FunctionValues) → HasTuples v → first_failing (is_so_of v s) (instances_of v) ≡ None → AreAsSaid v s
none_false v s within none_is result other typed over =
    let test = is_so_of v s in
    let p = both _ _ (sym (parts v test) ∙ none_failing test (instances_of v) none_is) in
    let q = both _ _ p.0 in (
      λ k u g.
          let w = slice_get_within v.updates k u g in
          enough_update v (plain_sorts s.arguments) result (nodes_of s) within typed other k u g (over.updates k u g) (over.functions k u g)
          (held (has_value (shown (nodes_of s))) (slice_get v.updates k) u g (range_all (λ j. test (AtPoint j)) 0 (length v.updates) k q.0 (omega arith) (omega arith)))
          (λ t lt. held (is_kept (shown (nodes_of s)) t) (slice_get v.updates k) u g
          (range_all (λ r. test (Elsewhere k r)) 0 (length v.tuples) t
          (range_all (λ j. list_all (λ r. test (Elsewhere j r)) (range_with_len 0 (length v.tuples))) 0 (length v.updates) k q.1 (omega arith) (omega arith)) (omega arith) (omega arith))),
      λ k pair g. not_true (same_function (plain_sorts s.arguments) ((nodes_of s).function pair.0) ((nodes_of s).function pair.1)) (each_item (λ r. test (apart r)) v.unequal k pair p.1 g),
    )
