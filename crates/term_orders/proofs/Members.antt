-- What the set of placed terms answers, and what a new term does to it.
use Rattle.std.proofs.Common.{◌≡◌, ◌∙◌, ◌++◌, Bool, true, false, ◌||◌, ℕ, List, [], ◌∷◌, Some, zero, suc, refl, sym, ap, inl, inr, ◌⊎◌, if◌then◌else◌}
use Rattle.std.specs.Prelude.{slice_get}
use Rattle.std.specs.List.{list_any}
use Rattle.std.proofs.lemmas.Option.{same_Some}
use Rattle.std.proofs.lemmas.Bool.{false≢true}
use Rattle.indexmap.specs.IndexSet.{insert_key}
use Rattle.term_shapes.specs.declared.handles.Term.{Term}
use Rattle.term_shapes.specs.contracts.handles.TermPartialEq.TheImpl as term
use Rattle.term_shapes.proofs.Same.{term_decides}
use Rattle.term_orders.specs.Orders.{IsIn}
use Rattle.term_table.specs.World.{World}
use Rattle.term_orders.specs.declared.walk.Frame.{Frame}
use Rattle.term_orders.specs.Walk.{Inserts, IsNext, behind, fresh, Skips, Enters, Advances}

pub found : (ks : List Term) (k : Term) → list_any (term.eq-value.it k) ks ≡ true → IsIn ks k
found [] k h = absurd (false≢true h)
found (x ∷ xs) k h = by (term.eq-value.it k x) refl h (λ g. found xs k g)
  where
    by : (b : Bool) → term.eq-value.it k x ≡ b → (b || list_any (term.eq-value.it k) xs) ≡ true → (list_any (term.eq-value.it k) xs ≡ true → IsIn xs k) → IsIn (x ∷ xs) k
    by true e g rest = record { place = zero; at = ap Some (sym ((term_decides k x).0 e)) }
    by false e g rest = let r = rest g in record { place = suc r.place; at = r.at }

pub listed : (ks : List Term) (k : Term) (i : ℕ) → slice_get ks i ≡ Some k → list_any (term.eq-value.it k) ks ≡ true
listed [] k i at = absurd (cc at)
listed (x ∷ xs) k zero at =
    ap (λ b. b || list_any (term.eq-value.it k) xs) ((term_decides k x).1 (sym (same_Some x k at)))
listed (x ∷ xs) k (suc i) at = by (term.eq-value.it k x) (listed xs k i at)
  where
    by : (b : Bool) → list_any (term.eq-value.it k) xs ≡ true → (b || list_any (term.eq-value.it k) xs) ≡ true
    by true rest = refl
    by false rest = rest

pub put_is : (ks us : List Term) (k : Term) → us ≡ insert_key term.eq-value.it ks k → Inserts ks k us
put_is ks us k is = by (list_any (term.eq-value.it k) ks) refl
  where
    by : (b : Bool) → list_any (term.eq-value.it k) ks ≡ b → Inserts ks k us
    by true e = inl (found ks k e, is ∙ ap (λ b. if b then ks else ks ++ k ∷ []) e)
    by false e =
        inr (λ h. false≢true (sym e ∙ listed ks k h.place h.at), is ∙ ap (λ b. if b then ks else ks ++ k ∷ []) e)

-- the next argument was looked at
pub looked : (w : World) (f : Frame) (stack mid new : List Frame) (ts : List Term) (u : Term) → IsNext w f u → mid ≡ stack ++ behind f ∷ []
    → (IsIn ts u × (new ≡ mid)) ⊎ (new ≡ mid ++ fresh u ∷ []) → Advances w f stack new ts ts
looked w f stack mid new ts u next e (inl h) =
    inr (inl (record { of = u; next = next; there = h.0; stack_behind = h.1 ∙ e; order_stays = refl }))
looked w f stack mid new ts u next e (inr h) =
    inr (inr (record { of = u; next = next; stack_above = h ∙ ap (λ (s : List Frame). s ++ fresh u ∷ []) e; order_stays = refl }))
