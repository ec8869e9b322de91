-- Orders of more and more roots, and a look along an order.
use Rattle.std.proofs.Common.{◌≡◌, ◌∙◌, ◌+◌, ◌<◌, ◌++◌, ℕ, List, [], ◌∷◌, Some, zero, suc, refl, sym, ap, subst, take, length, get_or, arith}
use Rattle.std.specs.Prelude.{slice_get, IsSome, IfSome, IfNone, Option, None}
use Rattle.std.proofs.lemmas.List.{take_more, take_all}
use Rattle.std.proofs.lemmas.Option.{same_Some}
use Rattle.term_shapes.specs.declared.handles.Term.{Term}
use Rattle.term_table.specs.World.{World, node_at}
use Rattle.term_table.specs.Checking.{AreLive}
use Rattle.term_orders.specs.Orders.{IsIn, IsBelow, IsUnder, IsOrder, IsVariable}
use Rattle.term_orders.proofs.Standing.{under_stands}

pub order_none : (w : World) (ts : List Term) → ts ≡ [] → IsOrder w [] ts
order_none w ts e = rw e (record { once = λ i j t a b. absurd (cc a); holds = λ r h. h; arguments = λ i t u at a. absurd (cc at); reached = λ t h. absurd (cc h.at); live = λ t h. absurd (cc h.at) })

pub order_more : (w : World) (roots ts : List Term) (i : ℕ) (d : Term) → i < length roots → IsOrder w (take i roots ++ get_or roots i d ∷ []) ts → IsOrder w (take (i + 1) roots) ts
order_more w roots ts i d l o = subst (λ x. IsOrder w x ts) (sym (take_more roots i d l)) o

pub order_all : (w : World) (roots ts : List Term) (i : ℕ) → length roots ≡ i → IsOrder w (take i roots) ts → IsOrder w roots ts
order_all w roots ts i e o =
    subst (λ x. IsOrder w x ts) (ap (λ n. take n roots) (sym e) ∙ take_all (length roots) roots (omega arith)) o

-- no variable stands in the whole order
pub none_below : (w : World) (ts : List Term) (t : Term) → IsOrder w (t ∷ []) ts
    → ((i : ℕ) (u : Term) → slice_get ts i ≡ Some u → IsVariable w u → ⊥)
    → (v : Term) → IsBelow w v t → IsVariable w v → ⊥
none_below w ts t o unmet v b is =
    let s = under_stands w (t ∷ []) ts o v (record { root = t; listed = record { place = zero; at = refl }; below = b }) in
    unmet s.place v s.at is

one_item : (t x : Term) (i : ℕ) → slice_get (t ∷ []) i ≡ Some x → t ≡ x
one_item t x zero at = same_Some t x at
one_item t x (suc i) at = absurd (cc at)

-- what stands in an order of one root is below it
pub one_root : (w : World) (ts : List Term) (t v : Term) → IsOrder w (t ∷ []) ts → IsIn ts v → IsBelow w v t
one_root w ts t v o h =
    let r = o.reached v h in
    subst (IsBelow w v) (sym (one_item t r.root r.listed.place r.listed.at)) r.below

pub one_live : (w : World) (t : Term) → IsSome (node_at w t) → AreLive w (t ∷ [])
one_live w t h i u at = subst (λ x. IsSome (node_at w x)) (one_item t u i at) h

pub if_some : {X : Type 0} (P Q : X → Type 0) (o : Option X) → ((x : X) → P x → Q x) → IfSome o P → IfSome o Q
if_some P Q None f h = h
if_some P Q (Some x) f h = f x h

pub if_none : {X : Type 0} (A B : Type 0) (o : Option X) → (A → B) → IfNone o A → IfNone o B
if_none A B None f h = f h
if_none A B (Some x) f h = h

pub if_both : {X : Type 0} (P Q : X → Type 0) (o : Option X) → IfSome o P → IfSome o Q → IfSome o (λ x. P x × Q x)
if_both P Q None a b = a
if_both P Q (Some x) a b = (a, b)
