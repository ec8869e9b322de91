-- The value at the place of a term.
use Rattle.std.proofs.Common.{◌≡◌, ◌∙◌, ◌<◌, ◌||◌, ◌++◌, ℕ, zero, suc, Bool, true, false, List, [], ◌∷◌, Option, Some, None, length, get_or, refl, sym, ap, subst, arith, cond}
use Rattle.std.specs.Prelude.{slice_get}
use Rattle.std.specs.List.{position, list_any}
use Rattle.std.specs.Map.{lookup}
use Rattle.std.specs.Option.{option_map}
use Rattle.std.proofs.lemmas.Option.{same_Some}
use Rattle.std.proofs.lemmas.List.Quantifiers.{position-Some}
use Rattle.std.proofs.lemmas.Bool.{false≢true}
use Rattle.y_tree.specs.Values.{Value}
use Rattle.y_tree.specs.Plain.{plain_value}
use Rattle.y_tree.specs.declared.values.Value as code
use Rattle.term_shapes.specs.declared.handles.Term.{Term}
use Rattle.model_eval.specs.Known.{same_term}
use Rattle.y_tree.specs.Order.{is_formed}
use Rattle.model_eval.specs.Models.{plain_item, plain_items, terms_of, AreFormed}

no_term : Term
no_term = record { slot = 0; stamp = 0 }

found_at : (t : Term) (es : List (Term × code.Value)) (i : ℕ) (e : Term × code.Value) → slice_get es i ≡ Some e → same_term t e.0 ≡ true
    → ((k : ℕ) → k < i → same_term t (get_or (terms_of (plain_items es)) k no_term) ≡ false) → lookup (same_term t) (plain_items es) ≡ Some (plain_value e.1)
found_at t [] i e at same before = absurd (cc at)
found_at t (x ∷ es) zero e at same before =
    let one : x ≡ e = same_Some x e at in
    ap (λ b. cond b (Some (plain_value x.1)) (lookup (same_term t) (plain_items es))) (ap (λ (z : Term × code.Value). same_term t z.0) one ∙ same) ∙ ap (λ (z : Term × code.Value). Some (plain_value z.1)) one
found_at t (x ∷ es) (suc i) e at same before =
    ap (λ b. cond b (Some (plain_value x.1)) (lookup (same_term t) (plain_items es))) (before 0 (omega arith))
    ∙ found_at t es i e at same (λ k h. before (suc k) (omega (arith, h)))

term_at : (es : List (Term × code.Value)) (i : ℕ) (e : Term × code.Value) (d : Term) → slice_get es i ≡ Some e → get_or (terms_of (plain_items es)) i d ≡ e.0
term_at [] i e d at = absurd (cc at)
term_at (x ∷ es) zero e d at = ap (λ (z : Term × code.Value). z.0) (same_Some x e at)
term_at (x ∷ es) (suc i) e d at = term_at es i e d at

value_found : (t : Term) (keys : List Term) (es : List (Term × code.Value)) (i : ℕ) (e : Term × code.Value) → keys ≡ terms_of (plain_items es) → position (same_term t) keys ≡ Some i → slice_get es i ≡ Some e
    → Some (plain_value e.1) ≡ lookup (same_term t) (plain_items es)
value_found t keys es i e is at there =
    let p = position-Some (same_term t) (terms_of (plain_items es)) i no_term (ap (position (same_term t)) (sym is) ∙ at) in
    sym (found_at t es i e there (sym (ap (same_term t) (term_at es i e no_term there)) ∙ p.1) p.2)

none_there : (t : Term) (es : List (Term × code.Value)) → list_any (same_term t) (terms_of (plain_items es)) ≡ false → lookup (same_term t) (plain_items es) ≡ None
none_there t [] h = refl
none_there t (x ∷ es) h = by (same_term t x.0) refl (none_there t es)
  where
    by : (b : Bool) → same_term t x.0 ≡ b → (list_any (same_term t) (terms_of (plain_items es)) ≡ false → lookup (same_term t) (plain_items es) ≡ None) → cond b (Some (plain_value x.1)) (lookup (same_term t) (plain_items es)) ≡ None
    by true e rest = absurd (false≢true (sym h ∙ ap (λ z. z || list_any (same_term t) (terms_of (plain_items es))) e))
    by false e rest = rest (ap (λ z. z || list_any (same_term t) (terms_of (plain_items es))) (sym e) ∙ h)

pub value_missing : (t : Term) (keys : List Term) (es : List (Term × code.Value)) → keys ≡ terms_of (plain_items es) → list_any (same_term t) keys ≡ false → None ≡ lookup (same_term t) (plain_items es)
value_missing t keys es is h = sym (none_there t es (ap (list_any (same_term t)) (sym is) ∙ h))

-- a place of the terms is one of the entries
entry_there : (es : List (Term × code.Value)) (i : ℕ) → i < length (terms_of (plain_items es)) → (e : Term × code.Value) × (slice_get es i ≡ Some e)
entry_there [] i h = absurd (omega (arith, h))
entry_there (x ∷ es) zero h = (x, refl)
entry_there (x ∷ es) (suc i) h = entry_there es i (omega (arith, h))

plain_there : (es : List (Term × code.Value)) (i : ℕ) (e : Term × code.Value) → slice_get es i ≡ Some e → option_map (λ (x : Term × Value). x.1) (slice_get (plain_items es) i) ≡ Some (plain_value e.1)
plain_there [] i e at = absurd (cc at)
plain_there (x ∷ es) zero e at = ap (λ (z : Term × code.Value). Some (plain_value z.1)) (same_Some x e at)
plain_there (x ∷ es) (suc i) e at = plain_there es i e at

pub value_there : (t : Term) (keys : List Term) (es : List (Term × code.Value)) (i : ℕ) (o : Option Value) → keys ≡ terms_of (plain_items es) → i < length keys → Some i ≡ position (same_term t) keys
    → o ≡ option_map (λ (x : Term × Value). x.1) (slice_get (plain_items es) i) → o ≡ lookup (same_term t) (plain_items es)
value_there t keys es i o is small at there =
    let p = entry_there es i (subst (λ z. i < length z) is small) in
    there ∙ plain_there es i p.0 p.1 ∙ value_found t keys es i p.0 is (sym at) p.1

-- a formed value more
pub formed_more : (es new : List (Term × code.Value)) (e : Term × code.Value) → AreFormed (plain_items es) → is_formed (plain_value e.1) ≡ true → new ≡ es ++ e ∷ [] → AreFormed (plain_items new)
formed_more es new e each here is i x at = by es each i (subst (λ z. slice_get (plain_items z) i ≡ Some x) is at)
  where
    by : (xs : List (Term × code.Value)) → AreFormed (plain_items xs) → (j : ℕ) → slice_get (plain_items (xs ++ e ∷ [])) j ≡ Some x → is_formed x.1 ≡ true
    by [] f zero g = subst (λ (z : Term × Value). is_formed z.1 ≡ true) (same_Some (plain_item e) x g) here
    by [] f (suc j) g = absurd (cc g)
    by (y ∷ xs) f zero g = f 0 x g
    by (y ∷ xs) f (suc j) g = by xs (λ k. f (suc k)) j g
