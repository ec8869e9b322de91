-- Sets of keys as ascending lists of what the keys stand for: a list is mapped key by key, and the orders are one.
use Rattle.std.proofs.Common.{◌≡◌, ◌∙◌, Bool, true, false, List, [], ◌∷◌, ◌++◌, map, refl, sym, ap, cond, append_assoc}
use Rattle.std.specs.declared.cmp.Ordering.{Ordering}
use Rattle.std.specs.declared.cmp.Ordering.TheVariants.{Less, Equal, Greater}
use Rattle.std.specs.Ordering.{match_ordering, is_eq}
use Rattle.std.specs.List.{list_any}
use Rattle.std.specs.BTreeSet.{insert_key}
use Rattle.std.specs.Set.{remove_key}
use Rattle.std.specs.BTreeMap.{is_at}

pub insert_mapped : {K L : Type 0} (f : K → L) (c : K → K → Ordering) (d : L → L → Ordering) → ((x y : K) → d (f x) (f y) ≡ c x y) → (ks : List K) (k : K)
    → map f (insert_key c ks k) ≡ insert_key d (map f ks) (f k)
insert_mapped f c d e [] k = refl
insert_mapped f c d e (x ∷ ks) k =
    rw (e k x)
    (elim (c k x) as (λ o. map f (match_ordering o (k ∷ x ∷ ks) (x ∷ ks) (x ∷ insert_key c ks k)) ≡ match_ordering o (f k ∷ f x ∷ map f ks) (f x ∷ map f ks) (f x ∷ insert_key d (map f ks) (f k)))
    [ Less ↦ refl | Equal ↦ refl | Greater ↦ ap (λ ls. f x ∷ ls) (insert_mapped f c d e ks k) ])

pub any_mapped : {K L : Type 0} (f : K → L) (p : K → Bool) (q : L → Bool) → ((x : K) → q (f x) ≡ p x) → (ks : List K) → list_any q (map f ks) ≡ list_any p ks
any_mapped f p q e [] = refl
any_mapped f p q e (x ∷ ks) = rw (e x, any_mapped f p q e ks) refl

pub remove_mapped : {K L : Type 0} (f : K → L) (p : K → Bool) (q : L → Bool) → ((x : K) → q (f x) ≡ p x) → (ks : List K) → map f (remove_key p ks) ≡ remove_key q (map f ks)
remove_mapped f p q e [] = refl
remove_mapped f p q e (x ∷ ks) =
    rw (e x)
    (elim (p x) as (λ b. map f (cond b ks (x ∷ remove_key p ks)) ≡ cond b (map f ks) (f x ∷ remove_key q (map f ks)))
    [ true ↦ refl | false ↦ ap (λ ls. f x ∷ ls) (remove_mapped f p q e ks) ])

module _ {K L : Type 0} (f : K → L) (c : K → K → Ordering) (d : L → L → Ordering) (e : (x y : K) → d (f x) (f y) ≡ c x y) where
  pub inserted_as : (ks new : List K) (k : K) (old : List L) (l : L) → map f ks ≡ old → f k ≡ l → new ≡ insert_key c ks k → map f new ≡ insert_key d old l
  inserted_as ks new k old l was is made = ap (map f) made ∙ insert_mapped f c d e ks k ∙ ap (insert_key d (map f ks)) is ∙ ap (λ xs. insert_key d xs l) was

  pub found_as : (ks : List K) (k : K) (old : List L) (l : L) (b : Bool) → map f ks ≡ old → f k ≡ l → b ≡ list_any (is_at (c k)) ks → b ≡ list_any (λ x. is_eq (d l x)) old
  found_as ks k old l b was is test =
      test ∙ sym (any_mapped f (is_at (c k)) (λ x. is_eq (d (f k) x)) (λ x. ap is_eq (e k x)) ks)
      ∙ ap (λ m. list_any (λ x. is_eq (d m x)) (map f ks)) is ∙ ap (λ xs. list_any (λ x. is_eq (d l x)) xs) was

  pub removed_as : (ks new : List K) (k : K) (old : List L) (l : L) → map f ks ≡ old → f k ≡ l → new ≡ remove_key (is_at (c k)) ks → map f new ≡ remove_key (λ x. is_eq (d l x)) old
  removed_as ks new k old l was is made =
      ap (map f) made ∙ remove_mapped f (is_at (c k)) (λ x. is_eq (d (f k) x)) (λ x. ap is_eq (e k x)) ks
      ∙ ap (λ m. remove_key (λ x. is_eq (d m x)) (map f ks)) is ∙ ap (λ xs. remove_key (λ x. is_eq (d l x)) xs) was

pub moved : {K L : Type 0} (f : K → L) (list new all : List L) (it rest : List K) (x : K) (l : L) → it ≡ x ∷ rest → l ≡ f x → new ≡ list ++ l ∷ [] → list ++ map f it ≡ all → new ++ map f rest ≡ all
moved f list new all it rest x l next is push held =
    ap (λ n. n ++ map f rest) push ∙ ap (λ m. (list ++ m ∷ []) ++ map f rest) is ∙ append_assoc list (f x ∷ []) (map f rest) ∙ ap (λ i. list ++ map f i) (sym next) ∙ held
