-- What the row of a shape's operator wants in each place.
use Rattle.std.proofs.Common.{◌≡◌, ◌∙◌, ◌+◌, ◌-◌, ◌<◌, ◌≤◌, ◌==◌, ◌&&◌, ◌++◌, ℕ, zero, suc, Bool, true, false, if◌then◌else◌, List, [], ◌∷◌, Option, Some, None, length, map, refl, sym, ap, subst, arith}
use Rattle.std.specs.Prelude.{slice_get, nat_le}
use Rattle.std.specs.Bool.{Decides}
use Rattle.std.proofs.lemmas.Option.{same_Some, slice_get_within}
use Rattle.std.proofs.lemmas.Bool.{false≢true, eq-eqb, eqb-true, le-leb}
use Rattle.y_tree.specs.Sorts.{Sort, Sorts, boolean, real, bit_vector, uninterpreted, function, count, same_sort}
use Rattle.y_tree.specs.Sorts as sort
use Rattle.y_tree.specs.Tree.{choice, equality}
use Rattle.y_tree.specs.Misfits.{Wanted, a_function, of_sort, fits, width, wanted_sorts, function_row, row_of, count_fits}
use Rattle.y_tree.specs.Laws.{wanted_behind}
use Rattle.y_tree.proofs.Sorted.{sort_same, sort_alike}
use Rattle.term_shapes.specs.declared.handles.Term.{Term}
use Rattle.term_shapes.specs.declared.handles.TypeId.{TypeId}
use Rattle.term_shapes.specs.declared.shapes.TypeShape.{TypeShape}
use Rattle.term_shapes.specs.declared.shapes.TypeShape.TheVariants as type
use Rattle.shape_rules.specs.declared.errors.Wanted.{Wanted as Want}
use Rattle.shape_rules.specs.declared.errors.Wanted.TheVariants as wanted
use Rattle.term_table.specs.World.{World, HasType, HasTypeShape, type_shape_at, KeepsType, KeepsTypes, IsTable}
use Rattle.shape_rules.specs.Rules.{is_kind, shape_width, shape_takes, shape_result, wanted_by, type_or}
use Rattle.term_table.specs.Checking.{HasSort, HaveSorts, Wants, WantsHere, IsKind, takes_number}
use Rattle.shape_rules.proofs.Vectors.{only_one}
use Rattle.term_table.proofs.Sorting.{one_kept, have_length}
use Rattle.term_table.proofs.Keeping.{one_sort}

-- items of short lists
pub one_of_many : {X Y : Type 0} (x y : X) (items : List Y) (i : ℕ) → slice_get (map (λ z. x) items) i ≡ Some y → y ≡ x
one_of_many x y [] i h = absurd (cc h)
one_of_many x y (z ∷ items) zero h = sym (same_Some x y h)
one_of_many x y (z ∷ items) (suc i) h = one_of_many x y items i h

pub item_behind : {X : Type 0} (x y : X) (xs : List X) (i : ℕ) → (i ≡ 0 → ⊥) → slice_get (x ∷ xs) i ≡ Some y → slice_get xs (i - 1) ≡ Some y
item_behind x y xs zero d h = absurd (d refl)
item_behind x y xs (suc i) d h = let e : suc i - 1 ≡ i = omega arith in ap (slice_get xs) e ∙ h

pub item_first : {X : Type 0} (x y : X) (xs : List X) (i : ℕ) → i ≡ 0 → slice_get (x ∷ xs) i ≡ Some y → y ≡ x
item_first x y xs i e h = sym (same_Some x y (sym (ap (slice_get (x ∷ xs)) e) ∙ h))

slice_get_none : {X : Type 0} (xs : List X) (i : ℕ) → slice_get xs i ≡ None → length xs ≤ i
slice_get_none [] i h = omega arith
slice_get_none (x ∷ xs) zero h = absurd (cc h)
slice_get_none (x ∷ xs) (suc i) h = omega (arith, slice_get_none xs i h)

-- the shape of a type, by its sort
FitsShape : World → TypeShape → Sort → Type 0
FitsShape w s boolean = s ≡ type.Bool
FitsShape w s real = s ≡ type.Real
FitsShape w s (bit_vector n) = s ≡ type.Bv n
FitsShape w s (uninterpreted n) = s ≡ type.Free n
FitsShape w s (function d r) = (ts : List TypeId) × (q : TypeId) × (s ≡ type.Fun ts q) × KeepsTypes w ts d × KeepsType w q r

shape_kept : (w : World) (t : TypeId) (k : Sort) (s : TypeShape) → HasTypeShape w t s → KeepsType w t k → FitsShape w s k
unfolding FitsShape KeepsType
shape_kept w t boolean s h g = same_Some s type.Bool (sym h ∙ g)
shape_kept w t real s h g = same_Some s type.Real (sym h ∙ g)
shape_kept w t (bit_vector n) s h g = same_Some s (type.Bv n) (sym h ∙ g)
shape_kept w t (uninterpreted n) s h g = same_Some s (type.Free n) (sym h ∙ g)
shape_kept w t (function d r) s h (ts, q, has, rest, last) = (ts, q, same_Some s (type.Fun ts q) (sym h ∙ has), rest, last)

kept_there : (w : World) (t : TypeId) (k : Sort) → type_shape_at w t ≡ None → KeepsType w t k → ⊥
unfolding KeepsType
kept_there w t boolean h g = absurd (cc (sym h ∙ g))
kept_there w t real h g = absurd (cc (sym h ∙ g))
kept_there w t (bit_vector n) h g = absurd (cc (sym h ∙ g))
kept_there w t (uninterpreted n) h g = absurd (cc (sym h ∙ g))
kept_there w t (function d r) h (ts, q, has, rest, last) = absurd (cc (sym h ∙ has))

-- the width of a type is that of its sort
width_fits : (w : World) (s : TypeShape) (k : Sort) → FitsShape w s k → shape_width s ≡ width k
unfolding FitsShape
width_fits w s boolean e = ap shape_width e
width_fits w s real e = ap shape_width e
width_fits w s (bit_vector n) e = ap shape_width e
width_fits w s (uninterpreted n) e = ap shape_width e
width_fits w s (function d r) (ts, q, e, rest, last) = ap shape_width e

-- a type is of the kind that is wanted
kind_of_sort : (w : World) (want : Want) (v : Wanted) (k : Sort) (s : TypeShape) → IsKind want → Wants w want v → FitsShape w s k → is_kind want s ≡ fits v k
unfolding FitsShape same_sort
kind_of_sort w wanted.Bool v boolean s d e f = ap (is_kind wanted.Bool) f ∙ sym (ap (λ z. fits z boolean) e)
kind_of_sort w wanted.Bool v real s d e f = ap (is_kind wanted.Bool) f ∙ sym (ap (λ z. fits z real) e)
kind_of_sort w wanted.Bool v (bit_vector n) s d e f = ap (is_kind wanted.Bool) f ∙ sym (ap (λ z. fits z (bit_vector n)) e)
kind_of_sort w wanted.Bool v (uninterpreted n) s d e f = ap (is_kind wanted.Bool) f ∙ sym (ap (λ z. fits z (uninterpreted n)) e)
kind_of_sort w wanted.Bool v (function a r) s d e (ts, q, f, rest, last) = ap (is_kind wanted.Bool) f ∙ sym (ap (λ z. fits z (function a r)) e)
kind_of_sort w wanted.Real v boolean s d e f = ap (is_kind wanted.Real) f ∙ sym (ap (λ z. fits z boolean) e)
kind_of_sort w wanted.Real v real s d e f = ap (is_kind wanted.Real) f ∙ sym (ap (λ z. fits z real) e)
kind_of_sort w wanted.Real v (bit_vector n) s d e f = ap (is_kind wanted.Real) f ∙ sym (ap (λ z. fits z (bit_vector n)) e)
kind_of_sort w wanted.Real v (uninterpreted n) s d e f = ap (is_kind wanted.Real) f ∙ sym (ap (λ z. fits z (uninterpreted n)) e)
kind_of_sort w wanted.Real v (function a r) s d e (ts, q, f, rest, last) = ap (is_kind wanted.Real) f ∙ sym (ap (λ z. fits z (function a r)) e)
kind_of_sort w wanted.AnyBv v boolean s d e f = ap (is_kind wanted.AnyBv) f ∙ sym (ap (λ z. fits z boolean) e)
kind_of_sort w wanted.AnyBv v real s d e f = ap (is_kind wanted.AnyBv) f ∙ sym (ap (λ z. fits z real) e)
kind_of_sort w wanted.AnyBv v (bit_vector n) s d e f = ap (is_kind wanted.AnyBv) f ∙ sym (ap (λ z. fits z (bit_vector n)) e)
kind_of_sort w wanted.AnyBv v (uninterpreted n) s d e f = ap (is_kind wanted.AnyBv) f ∙ sym (ap (λ z. fits z (uninterpreted n)) e)
kind_of_sort w wanted.AnyBv v (function a r) s d e (ts, q, f, rest, last) = ap (is_kind wanted.AnyBv) f ∙ sym (ap (λ z. fits z (function a r)) e)
kind_of_sort w wanted.AnyFun v boolean s d e f = ap (is_kind wanted.AnyFun) f ∙ sym (ap (λ z. fits z boolean) e)
kind_of_sort w wanted.AnyFun v real s d e f = ap (is_kind wanted.AnyFun) f ∙ sym (ap (λ z. fits z real) e)
kind_of_sort w wanted.AnyFun v (bit_vector n) s d e f = ap (is_kind wanted.AnyFun) f ∙ sym (ap (λ z. fits z (bit_vector n)) e)
kind_of_sort w wanted.AnyFun v (uninterpreted n) s d e f = ap (is_kind wanted.AnyFun) f ∙ sym (ap (λ z. fits z (uninterpreted n)) e)
kind_of_sort w wanted.AnyFun v (function a r) s d e (ts, q, f, rest, last) = ap (is_kind wanted.AnyFun) f ∙ sym (ap (λ z. fits z (function a r)) e)
kind_of_sort w (wanted.Same t) v k s d e f = absurd d

pub kind_fits : (w : World) (t : TypeId) (s : TypeShape) (want : Want) (v : Wanted) (k : Sort) (b : Bool) → HasTypeShape w t s → IsKind want → Wants w want v → KeepsType w t k → b ≡ is_kind want s → b ≡ fits v k
kind_fits w t s want v k b h d wants keeps e = e ∙ kind_of_sort w want v k s d wants (shape_kept w t k s h keeps)

pub no_kind : (w : World) (t : TypeId) (v : Wanted) (k : Sort) → type_shape_at w t ≡ None → KeepsType w t k → false ≡ fits v k
no_kind w t v k h keeps = absurd (kept_there w t k h keeps)

pub width_some : (w : World) (t : TypeId) (s : TypeShape) (k : Sort) (n : ℕ) → HasTypeShape w t s → KeepsType w t k → n ≡ shape_width s → n ≡ width k
width_some w t s k n h keeps e = e ∙ width_fits w s k (shape_kept w t k s h keeps)

pub width_none : (w : World) (t : TypeId) (k : Sort) → type_shape_at w t ≡ None → KeepsType w t k → 0 ≡ width k
width_none w t k h keeps = absurd (kept_there w t k h keeps)

-- a type is the one that is wanted exactly where its sort is
pub same_fits : (w : World) → IsTable w → (of found : TypeId) (b : Bool) → Decides b (of ≡ found) → (v : Wanted) (k : Sort) → Wants w (wanted.Same of) v → KeepsType w found k → b ≡ fits v k
same_fits w table of found b decides v k (l, keeps, e) kept = by b (fits v k) refl refl
  where
    by : (a c : Bool) → b ≡ a → fits v k ≡ c → b ≡ fits v k
    by true true f g = f ∙ sym g
    by false false f g = f ∙ sym g
    by true false f g =
        let same : l ≡ k = one_kept w l k found (subst (λ z. KeepsType w z l) (decides.0 f) keeps) kept in
        absurd (false≢true (sym g ∙ ap (λ z. fits z k) e ∙ ap (same_sort l) (sym same) ∙ sort_alike l))
    by false true f g =
        let same : l ≡ k = sort_same l k (sym (ap (λ z. fits z k) e) ∙ g) in
        absurd (false≢true (sym f ∙ decides.1 (one_sort w table.one_type l of found keeps (subst (KeepsType w found) (sym same) kept))))

module _ (w : World) where
  -- the sorts of arguments one by one
  pub first_sort : (t : Term) (ts : List Term) (ks : List Sort) → HaveSorts w (t ∷ ts) ks → (k : Sort) × (rest : List Sort) × (ks ≡ k ∷ rest) × HasSort w t k × HaveSorts w ts rest
  first_sort t ts [] h = absurd h
  first_sort t ts (k ∷ rest) h = (k, rest, refl, h.0, h.1)

  pub no_sorts : (ks : List Sort) → HaveSorts w [] ks → ks ≡ []
  no_sorts [] h = refl
  no_sorts (k ∷ ks) h = absurd h

  -- what is wanted is that of the sort in front
  pub same_here : (r : Option Want) (v u : Wanted) → v ≡ u → WantsHere w r u → WantsHere w r v
  same_here r v u e h = subst (WantsHere w r) (sym e) h

  -- the arguments of a function
  domain_kept : (d : Sorts) (ts : List TypeId) (i : ℕ) (v : Wanted) (tail : List Wanted) → KeepsTypes w ts d → i < length ts → slice_get (wanted_sorts d ++ tail) i ≡ Some v → (u : TypeId) → slice_get ts i ≡ Some u → Wants w (wanted.Same u) v
  unfolding KeepsTypes wanted_sorts
  domain_kept sort.none [] i v tail kept low h u g = absurd (cc g)
  domain_kept sort.none (t ∷ ts) i v tail kept low h u g = absurd kept
  domain_kept (sort.more k ks) [] i v tail kept low h u g = absurd kept
  domain_kept (sort.more k ks) (t ∷ ts) zero v tail kept low h u g = (k, subst (λ z. KeepsType w z k) (same_Some t u g) kept.0, sym (same_Some (of_sort k) v h))
  domain_kept (sort.more k ks) (t ∷ ts) (suc i) v tail kept low h u g = domain_kept ks ts i v tail kept.1 (omega (arith, low)) h u g

  result_kept : (d : Sorts) (ts : List TypeId) (i : ℕ) (v : Wanted) (tail : List Wanted) → KeepsTypes w ts d → length ts ≤ i → slice_get (wanted_sorts d ++ tail) i ≡ Some v → slice_get tail (i - length ts) ≡ Some v
  unfolding KeepsTypes wanted_sorts
  result_kept sort.none [] i v tail kept high h = let e : i - 0 ≡ i = omega arith in ap (slice_get tail) e ∙ h
  result_kept sort.none (t ∷ ts) i v tail kept high h = absurd kept
  result_kept (sort.more k ks) [] i v tail kept high h = absurd kept
  result_kept (sort.more k ks) (t ∷ ts) zero v tail kept high h = absurd (omega (arith, high))
  result_kept (sort.more k ks) (t ∷ ts) (suc i) v tail kept high h =
      let e : suc i - length (t ∷ ts) ≡ i - length ts = omega arith in
      ap (slice_get tail) e ∙ result_kept ks ts i v tail kept.1 (omega (arith, high)) h

  pub domain_length : (d : Sorts) (ts : List TypeId) → KeepsTypes w ts d → count d ≡ length ts
  unfolding KeepsTypes count
  domain_length sort.none [] kept = refl
  domain_length sort.none (t ∷ ts) kept = absurd kept
  domain_length (sort.more k ks) [] kept = absurd kept
  domain_length (sort.more k ks) (t ∷ ts) kept = omega (arith, domain_length ks ts kept.1)

  -- what a function wants in front, of its arguments, and behind them
  pub function_first : (b : Bool) (k : Sort) (ks : List Sort) (v : Wanted) (i : ℕ) → i ≡ 0 → wanted_behind (function_row b (k ∷ ks)) i ≡ Some v → v ≡ a_function
  function_first b boolean ks v i e h = sym (same_Some a_function v h)
  function_first b real ks v i e h = sym (same_Some a_function v h)
  function_first b (bit_vector n) ks v i e h = sym (same_Some a_function v h)
  function_first b (uninterpreted n) ks v i e h = sym (same_Some a_function v h)
  function_first b (function d r) ks v i e h = item_first a_function v (wanted_sorts d ++ (if b then of_sort r ∷ [] else [])) i e h

  wanted_item : (ts : List TypeId) (q : TypeId) (d : Sorts) (r : Sort) (b : Bool) (i : ℕ) (v : Wanted) → KeepsTypes w ts d → KeepsType w q r → slice_get (wanted_sorts d ++ (if b then of_sort r ∷ [] else [])) i ≡ Some v → (o : Option TypeId) → slice_get ts i ≡ o → Wants w (wanted.Same (type_or q o)) v
  wanted_item ts q d r b i v kept last h (Some u) g = domain_kept d ts i v (if b then of_sort r ∷ [] else []) kept (slice_get_within ts i u g) h u g
  wanted_item ts q d r b i v kept last h None g = behind b (result_kept d ts i v (if b then of_sort r ∷ [] else []) kept (slice_get_none ts i g) h)
    where
      behind : (b : Bool) → slice_get (if b then of_sort r ∷ [] else []) (i - length ts) ≡ Some v → Wants w (wanted.Same q) v
      behind true f = (r, last, only_one (of_sort r) v (i - length ts) f)
      behind false f = absurd (cc f)

  function_item : (b : Bool) (k : Sort) (ks : List Sort) (v : Wanted) (i : ℕ) (s : TypeShape) → (i ≡ 0 → ⊥) → FitsShape w s k → wanted_behind (function_row b (k ∷ ks)) i ≡ Some v → Wants w (wanted_by s (i - 1)) v
  unfolding FitsShape
  function_item b boolean ks v i s d e h = subst (λ z. Wants w (wanted_by z (i - 1)) v) (sym e) (sym (same_Some a_function v h))
  function_item b real ks v i s d e h = subst (λ z. Wants w (wanted_by z (i - 1)) v) (sym e) (sym (same_Some a_function v h))
  function_item b (bit_vector n) ks v i s d e h = subst (λ z. Wants w (wanted_by z (i - 1)) v) (sym e) (sym (same_Some a_function v h))
  function_item b (uninterpreted n) ks v i s d e h = subst (λ z. Wants w (wanted_by z (i - 1)) v) (sym e) (sym (same_Some a_function v h))
  function_item b (function c r) ks v i s d (ts, q, e, kept, last) h =
      subst (λ z. Wants w (wanted_by z (i - 1)) v) (sym e)
      (wanted_item ts q c r b (i - 1) v kept last (item_behind a_function v (wanted_sorts c ++ (if b then of_sort r ∷ [] else [])) i d h) (slice_get ts (i - 1)) refl)

  pub function_wants : (t : Term) (s : TypeShape) → ((of : TypeId) → HasType w t of → Some s ≡ type_shape_at w of) → (b : Bool) (k : Sort) (ks : List Sort) (v : Wanted) (i : ℕ) → (i ≡ 0 → ⊥) → HasSort w t k → wanted_behind (function_row b (k ∷ ks)) i ≡ Some v → Wants w (wanted_by s (i - 1)) v
  function_wants t s is b k ks v i d (of, has, keeps) h = function_item b k ks v i s d (shape_kept w of k s (sym (is of has)) keeps) h

  pub no_shape_of : (t : Term) (k : Sort) → ((of : TypeId) → HasType w t of → None ≡ type_shape_at w of) → HasSort w t k → ⊥
  no_shape_of t k is (of, has, keeps) = kept_there w of k (sym (is of has)) keeps

  -- how many arguments are wanted
  takes_fits : (k : Sort) (s : TypeShape) (n : ℕ) → FitsShape w s k → shape_takes s n ≡ takes_number k n
  unfolding FitsShape
  takes_fits boolean s n e = ap (λ z. shape_takes z n) e
  takes_fits real s n e = ap (λ z. shape_takes z n) e
  takes_fits (bit_vector m) s n e = ap (λ z. shape_takes z n) e
  takes_fits (uninterpreted m) s n e = ap (λ z. shape_takes z n) e
  takes_fits (function c r) s n (ts, q, e, kept, last) = ap (λ z. shape_takes z n) e ∙ ap (λ z. z == n) (sym (domain_length c ts kept))

  pub takes_some : (t : Term) (s : TypeShape) (n : ℕ) (b : Bool) → ((of : TypeId) → HasType w t of → Some s ≡ type_shape_at w of) → b ≡ shape_takes s n → (k : Sort) → HasSort w t k → b ≡ takes_number k n
  takes_some t s n b is e k (of, has, keeps) = e ∙ takes_fits k s n (shape_kept w of k s (sym (is of has)) keeps)

  -- the result of a function
  result_fits : (d : Sorts) (k : Sort) (s : TypeShape) → FitsShape w s (function d k) → (o : TypeId) → o ≡ shape_result s → KeepsType w o k
  unfolding FitsShape
  result_fits d k s (ts, q, e, kept, last) o f = subst (λ z. KeepsType w z k) (sym (f ∙ ap shape_result e)) last

  pub result_some : (t : Term) (s : TypeShape) (o : TypeId) → ((of : TypeId) → HasType w t of → Some s ≡ type_shape_at w of) → o ≡ shape_result s → (d : Sorts) (k : Sort) → HasSort w t (function d k) → KeepsType w o k
  result_some t s o is e d k (of, has, keeps) = result_fits d k s (shape_kept w of (function d k) s (sym (is of has)) keeps) o e

  -- the sort of a choice's branch and of an equality's left side
  pub choice_wants : (c y n : Term) (r : Option Want) (i : ℕ) → ((a k : Sort) (ks : List Sort) (v : Wanted) → HasSort w y k → wanted_behind (row_of choice (a ∷ k ∷ ks)) i ≡ Some v → WantsHere w r v) → (ks : List Sort) (v : Wanted) → HaveSorts w (c ∷ y ∷ n ∷ []) ks → wanted_behind (row_of choice ks) i ≡ Some v → WantsHere w r v
  choice_wants c y n r i f [] v have h = absurd have
  choice_wants c y n r i f (a ∷ []) v have h = absurd have.1
  choice_wants c y n r i f (a ∷ k ∷ ks) v have h = f a k ks v have.1.0 h

  pub equality_wants : (a b : Term) (r : Option Want) (i : ℕ) → ((k : Sort) (ks : List Sort) (v : Wanted) → HasSort w a k → wanted_behind (row_of equality (k ∷ ks)) i ≡ Some v → WantsHere w r v) → (ks : List Sort) (v : Wanted) → HaveSorts w (a ∷ b ∷ []) ks → wanted_behind (row_of equality ks) i ≡ Some v → WantsHere w r v
  equality_wants a b r i f [] v have h = absurd have
  equality_wants a b r i f (k ∷ ks) v have h = f k ks v have.0 h

  pub function_row_wants : (flag : Bool) (a : Term) (ts : List Term) (r : Option Want) (i : ℕ) → ((b : Bool) (k : Sort) (ks : List Sort) (v : Wanted) → HasSort w a k → wanted_behind (function_row b (k ∷ ks)) i ≡ Some v → WantsHere w r v) → (ks : List Sort) (v : Wanted) → HaveSorts w (a ∷ ts) ks → wanted_behind (function_row flag ks) i ≡ Some v → WantsHere w r v
  function_row_wants flag a ts r i f [] v have h = absurd have
  function_row_wants flag a ts r i f (k ∷ ks) v have h = f flag k ks v have.0 h

  -- an operator that takes some arguments
  pub some_count : (ts : List Term) (ks : List Sort) (b : Bool) (n : ℕ) → HaveSorts w ts ks → n ≡ length ts → b ≡ nat_le 1 n → b ≡ nat_le 1 (length ks)
  some_count ts ks b n have e f = f ∙ ap (nat_le 1) (e ∙ sym (have_length w ts ks have))

suc_eq : (a b : ℕ) → (suc a == suc b) ≡ (a == b)
suc_eq a b = by (a == b) refl
  where
    by : (c : Bool) → (a == b) ≡ c → (suc a == suc b) ≡ (a == b)
    by true e = eq-eqb (suc a) (suc b) (ap suc (eqb-true a b e)) ∙ sym e
    by false e = no (suc a == suc b) refl ∙ sym e
      where
        no : (c : Bool) → (suc a == suc b) ≡ c → (suc a == suc b) ≡ false
        no true f = absurd (false≢true (sym e ∙ eq-eqb a b (omega (arith, eqb-true (suc a) (suc b) f))))
        no false f = f

wanted_length : (d : Sorts) (tail : List Wanted) → length (wanted_sorts d ++ tail) ≡ count d + length tail
unfolding wanted_sorts count
wanted_length sort.none tail = omega arith
wanted_length (sort.more k ks) tail = omega (arith, wanted_length ks tail)

-- a call has as many arguments as the function takes
pub call_count : (k : Sort) (ks : List Sort) (n : ℕ) → length ks ≡ n → takes_number k n ≡ count_fits (function_row false (k ∷ ks)) (length (k ∷ ks))
call_count boolean ks n e = sym (le-leb 1 (suc (length ks)) (omega arith))
call_count real ks n e = sym (le-leb 1 (suc (length ks)) (omega arith))
call_count (bit_vector m) ks n e = sym (le-leb 1 (suc (length ks)) (omega arith))
call_count (uninterpreted m) ks n e = sym (le-leb 1 (suc (length ks)) (omega arith))
call_count (function d r) ks n e =
    ap (λ z. count d == z) (sym e) ∙ sym (suc_eq (length (wanted_sorts d ++ [])) (length ks) ∙ ap (λ z. z == length ks) (wanted_length d [] ∙ omega arith))

pub update_count : (k : Sort) (ks : List Sort) (n : ℕ) → length ks ≡ n + 1 → takes_number k n ≡ count_fits (function_row true (k ∷ ks)) (length (k ∷ ks))
update_count boolean ks n e = sym (le-leb 1 (suc (length ks)) (omega arith))
update_count real ks n e = sym (le-leb 1 (suc (length ks)) (omega arith))
update_count (bit_vector m) ks n e = sym (le-leb 1 (suc (length ks)) (omega arith))
update_count (uninterpreted m) ks n e = sym (le-leb 1 (suc (length ks)) (omega arith))
update_count (function d r) ks n e =
    sym (suc_eq (length (wanted_sorts d ++ of_sort r ∷ [])) (length ks) ∙ ap (λ z. z == length ks) (wanted_length d (of_sort r ∷ []) ∙ omega arith) ∙ ap (λ z. suc (count d) == z) (e ∙ omega arith) ∙ suc_eq (count d) n)

-- handles of types are compared by both parts
pub same_type : (t u : TypeId) (b : Bool) → b ≡ ((t.slot == u.slot) && (t.stamp == u.stamp)) → Decides b (t ≡ u)
same_type t u b e = (
  (λ h. let p = both (t.slot == u.slot) (t.stamp == u.stamp) (sym e ∙ h) in
      ap (λ n. let z : TypeId = record { slot = n; stamp = t.stamp } in z) (eqb-true t.slot u.slot p.0) ∙ ap (λ n. let z : TypeId = record { slot = u.slot; stamp = n } in z) (eqb-true t.stamp u.stamp p.1)),
  (λ h. e ∙ ap (λ c. c && (t.stamp == u.stamp)) (eq-eqb t.slot u.slot (ap (λ (z : TypeId). z.slot) h)) ∙ eq-eqb t.stamp u.stamp (ap (λ (z : TypeId). z.stamp) h)),
)
  where
    both : (c d : Bool) → (c && d) ≡ true → (c ≡ true) × (d ≡ true)
    both true d h = (refl, h)
    both false d h = absurd (false≢true h)

pub keeps_vector : (w : World) (t : TypeId) (n : ℕ) → HasTypeShape w t (type.Bv n) → KeepsType w t (bit_vector n)
unfolding KeepsType
keeps_vector w t n h = h
