use Rattle.std.proofs.Common.{◌≡◌, ◌∙◌, ◌<◌, ℕ, List, Some, length, refl, sym, subst}
use Rattle.std.specs.Prelude.{slice_get, IsSome}
use Rattle.std.proofs.lemmas.Bool.{eqb-true}
use Rattle.y_tree.specs.declared.values.FunValue.{FunValue}
use Rattle.update_axioms.specs.Views.{Update, Pair}
use Rattle.update_axioms.specs.Shown.{found}
use Rattle.update_axioms.proofs.tests.is_shown.Goals as goal

pub returns : goal.returns
returns c = λ e.
    let s = c.args.shown.now in
    let updates = subst (λ us. (k : ℕ) (u : Update) → slice_get us k ≡ Some u → IsSome (found s.functions u.0) × IsSome (found s.functions u.1) × (u.2 < length s.tuples) × IsSome (found s.values u.3)) c.as_slice.ensures (c.if-not-updates_shown.ensures refl) in
    let pairs = subst (λ ps. (k : ℕ) (p : Pair) → slice_get ps k ≡ Some p → IsSome (found s.functions p.0) × IsSome (found s.functions p.1)) c.as_slice-2.ensures
    (subst (λ (fs : List (ℕ × FunValue)). (k : ℕ) (p : Pair) → slice_get c.as_slice-2.result.now k ≡ Some p → IsSome (found fs p.0) × IsSome (found fs p.1)) c.as_slice-3.ensures (c.if-not-pairs_shown.ensures refl)) in
    record {
      shown = c.requires;
      updates = λ k u h. (updates k u h).0;
      functions = λ k u h. (updates k u h).1;
      within = λ k u h. (updates k u h).2;
      updated_to = λ k u h. (updates k u h).3;
      lefts = λ k p h. (pairs k p h).0;
      rights = λ k p h. (pairs k p h).1;
      tuples = sym c.len-2.ensures ∙ sym (eqb-true _ _ e) ∙ c.len.ensures;
    }
