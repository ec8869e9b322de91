-- Types as plain data.
use Rattle.std.proofs.Common.{◌≡◌, ◌∙◌, ◌&&◌, ⊎_elim, ◌++◌, ℕ, suc, Bool, true, false, List, [], ◌∷◌, Some, None, length, refl, sym, ap, subst, arith}
use Rattle.std.specs.Prelude.{slice_get, nat_le}
use Rattle.std.proofs.lemmas.Option.{same_Some}
use Rattle.std.proofs.lemmas.Bool.{false≢true}
use Rattle.stamped_slots.proofs.Lists.{push_cases}
use Rattle.y_tree.specs.Sorts.{Sorts, boolean, real, bit_vector, uninterpreted, function, is_simple, are_simple, is_sort, count}
use Rattle.y_tree.specs.Sorts as sort
use Rattle.y_tree.specs.declared.sorts.Sort.{Sort}
use Rattle.y_tree.specs.Plain.{plain_sort, plain_sorts}
use Rattle.term_shapes.specs.declared.handles.TypeId.{TypeId}
use Rattle.term_shapes.specs.declared.shapes.TypeShape.{TypeShape}
use Rattle.term_shapes.specs.declared.shapes.TypeShape.TheVariants as type
use Rattle.term_table.specs.World.{World, type_shape_at, HasTypeShape, KeepsType, KeepsTypes, IsTable}
use Rattle.shape_rules.specs.Rules.{simple_of}

-- a simple sort is that of its type's shape
pub simple_kept : (w : World) (t : TypeId) (s : TypeShape) (k : sort.Sort) → HasTypeShape w t s → KeepsType w t k → is_simple k ≡ true → simple_of s ≡ k
unfolding KeepsType
simple_kept w t s boolean h g e = ap simple_of (same_Some s type.Bool (sym h ∙ g))
simple_kept w t s real h g e = ap simple_of (same_Some s type.Real (sym h ∙ g))
simple_kept w t s (bit_vector n) h g e = ap simple_of (same_Some s (type.Bv n) (sym h ∙ g))
simple_kept w t s (uninterpreted n) h g e = ap simple_of (same_Some s (type.Free n) (sym h ∙ g))
simple_kept w t s (function d r) h g e = absurd (false≢true e)

pub dead_kept : (w : World) (t : TypeId) (k : sort.Sort) → type_shape_at w t ≡ None → KeepsType w t k → ⊥
unfolding KeepsType
dead_kept w t boolean h g = cc (sym h ∙ g)
dead_kept w t real h g = cc (sym h ∙ g)
dead_kept w t (bit_vector n) h g = cc (sym h ∙ g)
dead_kept w t (uninterpreted n) h g = cc (sym h ∙ g)
dead_kept w t (function d r) h (ts, q, has, rest, last) = cc (sym h ∙ has)

-- the copies stand for what the types do
abbrev pub AreCopies : World → List Sort → List TypeId → Type 0
AreCopies w ss ts = (i : ℕ) (s : Sort) (t : TypeId) → slice_get ss i ≡ Some s → slice_get ts i ≡ Some t → (k : sort.Sort) → KeepsType w t k → is_simple k ≡ true → plain_sort s ≡ k

pub copies_step : (w : World) (ss : List Sort) (ts : List TypeId) (s : Sort) (t : TypeId) → AreCopies w ss ts → slice_get ts (length ss) ≡ Some t → ((k : sort.Sort) → KeepsType w t k → is_simple k ≡ true → plain_sort s ≡ k) → AreCopies w (ss ++ s ∷ []) ts
copies_step w ss ts s t copies at is i r u h g k keeps simple = ⊎_elim
    (λ e. ap plain_sort (sym e.1) ∙ is k (subst (λ z. KeepsType w z k) (same_Some u t (sym g ∙ ap (slice_get ts) e.0 ∙ at)) keeps) simple)
    (λ old. copies i r u old g k keeps simple)
    (push_cases ss s r i h)

both : (c d : Bool) → (c && d) ≡ true → (c ≡ true) × (d ≡ true)
both true d h = (refl, h)
both false d h = absurd (false≢true h)

pub copies_all : (w : World) (ss : List Sort) (ts : List TypeId) (d : Sorts) → length ss ≡ length ts → AreCopies w ss ts → KeepsTypes w ts d → are_simple d ≡ true → plain_sorts ss ≡ d
unfolding KeepsTypes are_simple
copies_all w [] [] sort.none e copies keeps simple = refl
copies_all w [] [] (sort.more k ks) e copies keeps simple = absurd keeps
copies_all w [] (t ∷ ts) d e copies keeps simple = absurd (omega (arith, e))
copies_all w (s ∷ ss) [] d e copies keeps simple = absurd (omega (arith, e))
copies_all w (s ∷ ss) (t ∷ ts) sort.none e copies keeps simple = absurd keeps
copies_all w (s ∷ ss) (t ∷ ts) (sort.more k ks) e copies keeps simple =
    let b = both (is_simple k) (are_simple ks) simple in
    ap (λ z. sort.more z (plain_sorts ss)) (copies 0 s t refl refl k keeps.0 b.0) ∙ ap (sort.more k) (copies_all w ss ts ks (omega (arith, e)) (λ i. copies (suc i)) keeps.1 b.1)

module _ (w : World) (table : IsTable w) (t : TypeId) where
  -- the sort of a function type
  pub sort_function : (ts : List TypeId) (q : TypeId) (s : Sort) → HasTypeShape w t (type.Fun ts q) → ((d : Sorts) (k : sort.Sort) → KeepsTypes w ts d → KeepsType w q k → are_simple d ≡ true → is_simple k ≡ true → plain_sort s ≡ function d k) → KeepsType w t (plain_sort s)
  unfolding KeepsType
  sort_function ts q s has plain = let r = table.sorted t (type.Fun ts q) has in by r.0 r.1 r.2
    where
      by : (k : sort.Sort) → KeepsType w t k → is_sort k ≡ true → KeepsType w t (plain_sort s)
      by boolean h e = absurd (cc (sym has ∙ h))
      by real h e = absurd (cc (sym has ∙ h))
      by (bit_vector n) h e = absurd (cc (sym has ∙ h))
      by (uninterpreted n) h e = absurd (cc (sym has ∙ h))
      by (function d k) (us, p, had, rest, last) e =
          let same : us ≡ ts = cc (sym had ∙ has) in
          let value : p ≡ q = cc (sym had ∙ has) in
          let limits = both (nat_le 1 (count d) && nat_le (count d) 16 && are_simple d) (is_simple k) e in
          let simple = both (nat_le 1 (count d) && nat_le (count d) 16) (are_simple d) limits.0 in
          let kept : KeepsType w t (function d k) = (us, p, had, rest, last) in
          let is : plain_sort s ≡ function d k = plain d k (subst (λ z. KeepsTypes w z d) same rest) (subst (λ z. KeepsType w z k) value last) simple.1 limits.1 in
          subst (KeepsType w t) (sym is) kept

  -- the sort of another type
  pub sort_simple : (x : TypeShape) (s : Sort) → HasTypeShape w t x → ((ts : List TypeId) (q : TypeId) → x ≡ type.Fun ts q → ⊥) → plain_sort s ≡ simple_of x → KeepsType w t (plain_sort s)
  unfolding KeepsType
  sort_simple x s has other is = let r = table.sorted t x has in subst (KeepsType w t) (sym is) (by r.0 r.1)
    where
      by : (k : sort.Sort) → KeepsType w t k → KeepsType w t (simple_of x)
      by boolean h = subst (λ z. KeepsType w t (simple_of z)) (sym (same_Some x type.Bool (sym has ∙ h))) h
      by real h = subst (λ z. KeepsType w t (simple_of z)) (sym (same_Some x type.Real (sym has ∙ h))) h
      by (bit_vector n) h = subst (λ z. KeepsType w t (simple_of z)) (sym (same_Some x (type.Bv n) (sym has ∙ h))) h
      by (uninterpreted n) h = subst (λ z. KeepsType w t (simple_of z)) (sym (same_Some x (type.Free n) (sym has ∙ h))) h
      by (function d k) (us, p, had, rest, last) = absurd (other us p (same_Some x (type.Fun us p) (sym has ∙ had)))
