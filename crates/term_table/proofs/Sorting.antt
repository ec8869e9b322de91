-- The sorts that types stand for, and the sorts of arguments.
use Rattle.std.proofs.Common.{◌≡◌, ◌∙◌, ℕ, zero, suc, true, List, [], ◌∷◌, Option, Some, None, length, refl, sym, ap, subst}
use Rattle.std.specs.Prelude.{slice_get, IsSome}
use Rattle.std.specs.Option.{option_map}
use Rattle.std.proofs.lemmas.Option.{same_Some}
use Rattle.y_tree.specs.Sorts.{Sort, Sorts, boolean, real, bit_vector, uninterpreted, function, is_sort, is_width}
use Rattle.y_tree.specs.Sorts as sort
use Rattle.y_tree.specs.Misfits.{of_sort, anything, alike}
use Rattle.term_shapes.specs.declared.handles.Term.{Term}
use Rattle.term_shapes.specs.declared.handles.TypeId.{TypeId}
use Rattle.term_shapes.specs.declared.shapes.TypeShape.TheVariants as type
use Rattle.term_shapes.specs.declared.shapes.Node.{Node}
use Rattle.shape_rules.specs.declared.errors.Wanted.{Wanted}
use Rattle.term_table.specs.World.{World, node_at, type_at, HasType, KeepsType, KeepsTypes, IsTable}
use Rattle.term_table.specs.Checking.{HasSort, HaveSorts, AreLive, IsKept, WantsHere}

-- a type stands for one sort
module _ (w : World) where
  mutual
    unfolding KeepsType

    pub one_kept : (k l : Sort) (t : TypeId) → KeepsType w t k → KeepsType w t l → k ≡ l
    one_kept boolean boolean t h g = refl
    one_kept boolean real t h g = absurd (cc (sym h ∙ g))
    one_kept boolean (bit_vector n) t h g = absurd (cc (sym h ∙ g))
    one_kept boolean (uninterpreted n) t h g = absurd (cc (sym h ∙ g))
    one_kept boolean (function d r) t h (us, p, has, us', p') = absurd (cc (sym h ∙ has))
    one_kept real boolean t h g = absurd (cc (sym h ∙ g))
    one_kept real real t h g = refl
    one_kept real (bit_vector n) t h g = absurd (cc (sym h ∙ g))
    one_kept real (uninterpreted n) t h g = absurd (cc (sym h ∙ g))
    one_kept real (function d r) t h (us, p, has, us', p') = absurd (cc (sym h ∙ has))
    one_kept (bit_vector m) boolean t h g = absurd (cc (sym h ∙ g))
    one_kept (bit_vector m) real t h g = absurd (cc (sym h ∙ g))
    one_kept (bit_vector m) (bit_vector n) t h g = let e : m ≡ n = cc (sym h ∙ g) in ap bit_vector e
    one_kept (bit_vector m) (uninterpreted n) t h g = absurd (cc (sym h ∙ g))
    one_kept (bit_vector m) (function d r) t h (us, p, has, us', p') = absurd (cc (sym h ∙ has))
    one_kept (uninterpreted m) boolean t h g = absurd (cc (sym h ∙ g))
    one_kept (uninterpreted m) real t h g = absurd (cc (sym h ∙ g))
    one_kept (uninterpreted m) (bit_vector n) t h g = absurd (cc (sym h ∙ g))
    one_kept (uninterpreted m) (uninterpreted n) t h g = let e : m ≡ n = cc (sym h ∙ g) in ap uninterpreted e
    one_kept (uninterpreted m) (function d r) t h (us, p, has, us', p') = absurd (cc (sym h ∙ has))
    one_kept (function c q) boolean t (ts, s, had, ts', s') g = absurd (cc (sym had ∙ g))
    one_kept (function c q) real t (ts, s, had, ts', s') g = absurd (cc (sym had ∙ g))
    one_kept (function c q) (bit_vector n) t (ts, s, had, ts', s') g = absurd (cc (sym had ∙ g))
    one_kept (function c q) (uninterpreted n) t (ts, s, had, ts', s') g = absurd (cc (sym had ∙ g))
    one_kept (function c q) (function d r) t (ts, s, had, ts', s') (us, p, has, us', p') =
        let e : ts ≡ us = cc (sym had ∙ has) in
        let f : s ≡ p = cc (sym had ∙ has) in
        ap (λ z. function z q) (all_kept c d us (subst (λ z. KeepsTypes w z c) e ts') us') ∙ ap (function d) (one_kept q r p (subst (λ z. KeepsType w z q) f s') p')

    pub all_kept : (ks ls : Sorts) (ts : List TypeId) → KeepsTypes w ts ks → KeepsTypes w ts ls → ks ≡ ls
    all_kept sort.none sort.none ts h g = refl
    all_kept sort.none (sort.more l ls) [] h g = absurd g
    all_kept sort.none (sort.more l ls) (t ∷ ts) h g = absurd h
    all_kept (sort.more k ks) sort.none [] h g = absurd h
    all_kept (sort.more k ks) sort.none (t ∷ ts) h g = absurd g
    all_kept (sort.more k ks) (sort.more l ls) [] h g = absurd h
    all_kept (sort.more k ks) (sort.more l ls) (t ∷ ts) h g =
        ap (λ z. sort.more z ks) (one_kept k l t h.0 g.0) ∙ ap (sort.more l) (all_kept ks ls ts h.1 g.1)

  -- the sorts of arguments, place by place
  pub have_length : (ts : List Term) (ks : List Sort) → HaveSorts w ts ks → length ks ≡ length ts
  have_length [] [] h = refl
  have_length [] (k ∷ ks) h = absurd h
  have_length (t ∷ ts) [] h = absurd h
  have_length (t ∷ ts) (k ∷ ks) h = ap suc (have_length ts ks h.1)

  pub sort_there : (ts : List Term) (ks : List Sort) (i : ℕ) (k : Sort) → HaveSorts w ts ks → slice_get ks i ≡ Some k → (t : Term) × (slice_get ts i ≡ Some t) × HasSort w t k
  sort_there [] [] i k h g = absurd (cc g)
  sort_there [] (l ∷ ks) i k h g = absurd h
  sort_there (t ∷ ts) [] i k h g = absurd h
  sort_there (t ∷ ts) (l ∷ ks) zero k h g = (t, refl, subst (HasSort w t) (same_Some l k g) h.0)
  sort_there (t ∷ ts) (l ∷ ks) (suc i) k h g = sort_there ts ks i k h.1 g

  -- the sort of an argument, by its type
  pub has_kept : (t : Term) (of : TypeId) (k : Sort) → HasType w t of → HasSort w t k → KeepsType w of k
  has_kept t of k h (u, g, keeps) = subst (λ z. KeepsType w z k) (same_Some u of (sym g ∙ h)) keeps

  module _ (table : IsTable w) where
    node_type : (t : Term) (o : Option Node) → node_at w t ≡ o → IsSome o → (k : Sort) × HasSort w t k
    node_type t None e h = absurd (cc h)
    node_type t (Some n) e h = let r = table.grounded t n e in (r.1, (n.of, ap (option_map (λ (z : Node). z.of)) e, r.3))

    pub have_all : (ts : List Term) → AreLive w ts → (ks : List Sort) × HaveSorts w ts ks
    have_all [] h = ([], tt)
    have_all (t ∷ ts) h =
        let k = node_type t (node_at w t) refl (h 0 t refl) in
        let rest = have_all ts (λ i. h (suc i)) in
        (k.0 ∷ rest.0, (k.1, rest.1))

    -- widths are from 1 to 128
    pub width_within : (t : TypeId) (n : ℕ) → KeepsType w t (bit_vector n) → is_width n ≡ true
    unfolding KeepsType
    width_within t n h = let r = table.sorted t (type.Bv n) h in subst (λ k. is_sort k ≡ true) (one_kept r.0 (bit_vector n) t r.1 h) r.2

-- the type of an argument stands for its sort
pub kept_some : (w : World) (ts : List Term) (ks : List Sort) (i : ℕ) (k : Sort) (t : Term) (r : Option TypeId) → slice_get ts i ≡ Some t → r ≡ type_at w t → HaveSorts w ts ks → slice_get ks i ≡ Some k → IsKept w r k
kept_some w ts ks i k t r at is have found =
    let s = sort_there w ts ks i k have found in
    subst (λ o. IsKept w o k) (sym (is ∙ ap (type_at w) (same_Some t s.0 (sym at ∙ s.1)) ∙ s.2.1)) s.2.2

pub kept_none : (w : World) (ts : List Term) (ks : List Sort) (i : ℕ) (k : Sort) → slice_get ts i ≡ None → HaveSorts w ts ks → slice_get ks i ≡ Some k → IsKept w None k
kept_none w ts ks i k at have found =
    let s = sort_there w ts ks i k have found in absurd (cc (sym at ∙ s.1))

pub alike_some : (w : World) (ts : List Term) (ks : List Sort) (t : Term) (r : Option Wanted) → slice_get ts 0 ≡ Some t → ((k : Sort) → HasSort w t k → WantsHere w r (of_sort k)) → HaveSorts w ts ks → WantsHere w r (alike ks)
alike_some w [] ks t r at same have = absurd (cc at)
alike_some w (u ∷ ts) [] t r at same have = absurd have
alike_some w (u ∷ ts) (k ∷ ks) t r at same have = same k (subst (λ z. HasSort w z k) (same_Some u t at) have.0)

pub alike_none : (w : World) (ts : List Term) (ks : List Sort) → slice_get ts 0 ≡ None → HaveSorts w ts ks → alike ks ≡ anything
alike_none w [] [] at have = refl
alike_none w [] (k ∷ ks) at have = absurd have
alike_none w (t ∷ ts) ks at have = absurd (cc at)
