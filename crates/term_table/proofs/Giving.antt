-- The type that a shape gives stands for the sort that its operator has.
use Rattle.std.proofs.Common.{◌≡◌, ◌∙◌, ◌+◌, ◌-◌, ◌<◌, ◌≤◌, ◌==◌, ◌&&◌, ℕ, Bool, true, false, List, [], ◌∷◌, Option, Some, None, sum, refl, sym, ap, subst, arith}
use Rattle.std.specs.Prelude.{slice_get, nat_le, nat_lt}
use Rattle.std.specs.List.{list_all}
use Rattle.std.proofs.lemmas.List.Sums.{sum_by-cons}
use Rattle.std.proofs.lemmas.Option.{same_Some}
use Rattle.std.proofs.lemmas.Bool.{false≢true, le-leb, leb-true, ltb-true}
use Rattle.y_tree.specs.Sorts.{Sort, Sorts, boolean, real, bit_vector, uninterpreted, function, is_width, same_sort}
use Rattle.y_tree.specs.declared.BvAtOp.{BvAtOp}
use Rattle.y_tree.specs.declared.BvAtOp.TheVariants as bv_at
use Rattle.y_tree.specs.Typing.{BvForm, are, are_some, result_at, one, two, test, some, joined, typed_bits, typed_at, only_if, widths, with_width, typed}
use Rattle.y_tree.specs.Tree.{equality, distinctness, application}
use Rattle.y_tree.specs.declared.BvOp.{BvOp}
use Rattle.y_tree.specs.Misfits.{width, all_widths}
use Rattle.term_shapes.specs.declared.handles.Term.{Term}
use Rattle.term_shapes.specs.declared.handles.TypeId.{TypeId}
use Rattle.term_shapes.specs.declared.lists.Monomial.{Monomial}
use Rattle.term_shapes.specs.declared.shapes.Shape.{Shape}
use Rattle.term_shapes.specs.declared.shapes.Shape.TheVariants as shape
use Rattle.term_shapes.specs.declared.shapes.TypeShape.TheVariants as type
use Rattle.term_shapes.specs.Shapes.{args_of}
use Rattle.fraction128.specs.declared.number.Frac.{Frac}
use Rattle.term_table.specs.World.{World, HasTypeShape, KeepsType, IsTable}
use Rattle.shape_rules.specs.Rules.{IsOperator, operator}
use Rattle.term_table.specs.Checking.{HasSort, HaveSorts}
use Rattle.term_table.proofs.Sorting.{width_within}

-- a sort that is there only if the test holds
pub only_if_some : (b : Bool) (s k : Sort) → only_if b s ≡ Some k → (b ≡ true) × (s ≡ k)
only_if_some true s k h = (refl, same_Some s k h)
only_if_some false s k h = absurd (cc h)

both : (c d : Bool) → (c && d) ≡ true → (c ≡ true) × (d ≡ true)
both true d h = (refl, h)
both false d h = absurd (false≢true h)

width_true : (m : ℕ) → 1 ≤ m → m ≤ 128 → is_width m ≡ true
width_true m low high = ap (λ b. b && nat_le m 128) (le-leb 1 m low) ∙ le-leb m 128 high

width_low : (m : ℕ) → is_width m ≡ true → 1 ≤ m
width_low m h = leb-true 1 m (both (nat_le 1 m) (nat_le m 128) h).0

width_high : (m : ℕ) → is_width m ≡ true → m ≤ 128
width_high m h = leb-true m 128 (both (nat_le 1 m) (nat_le m 128) h).1

module _ (w : World) (table : IsTable w) (t : Term) (n : ℕ) (has : HasSort w t (bit_vector n)) where
  vector_width : is_width n ≡ true
  vector_width = width_within w table has.0 n has.2

  pub extract_given : (op : BvAtOp) (i j m : ℕ) (k : Sort) (r : TypeId) → op ≡ bv_at.Extract → m ≡ i - j + 1 → (is_width m ≡ true → KeepsType w r (bit_vector m)) → typed_at op i j n ≡ Some k → KeepsType w r k
  extract_given op i j m k r is e keeps h =
      let p = only_if_some (nat_le j i && nat_lt i n) (bit_vector (i - j + 1)) k (sym (ap (λ z. typed_at z i j n) is) ∙ h) in
      let q = both (nat_le j i) (nat_lt i n) p.0 in
      let below : i < n = ltb-true i n q.1 in
      let high : n ≤ 128 = width_high n vector_width in
      subst (KeepsType w r) (ap bit_vector e ∙ p.1) (keeps (width_true m (omega (arith, e)) (omega (arith, e, below, high))))

  pub extension_given : (i m : ℕ) (k : Sort) (r : TypeId) → m ≡ n + i → (is_width m ≡ true → KeepsType w r (bit_vector m)) → only_if (nat_le (n + i) 128) (bit_vector (n + i)) ≡ Some k → KeepsType w r k
  extension_given i m k r e keeps h =
      let p = only_if_some (nat_le (n + i) 128) (bit_vector (n + i)) k h in
      let low : 1 ≤ n = width_low n vector_width in
      subst (KeepsType w r) (ap bit_vector e ∙ p.1) (keeps (width_true m (omega (arith, e, low)) (omega (arith, e, leb-true (n + i) 128 p.0))))

  pub shift_given : (i : ℕ) (k : Sort) (r : TypeId) → KeepsType w r (bit_vector n) → only_if (nat_le i n) (bit_vector n) ≡ Some k → KeepsType w r k
  shift_given i k r keeps h = subst (KeepsType w r) (only_if_some (nat_le i n) (bit_vector n) k h).1 keeps

-- the widths of bit-vectors together
pub sum_is : (ks : List Sort) (ns : List ℕ) → widths ks ≡ Some ns → all_widths ks ≡ sum ns
sum_is [] [] h = refl
sum_is [] (n ∷ ns) h = absurd (cc h)
sum_is (k ∷ ks) ns h = by k (widths ks) (sum_is ks) refl h
  where
    by : (l : Sort) (o : Option (List ℕ)) → ((ms : List ℕ) → widths ks ≡ Some ms → all_widths ks ≡ sum ms) → widths ks ≡ o → with_width l o ≡ Some ns → width l + all_widths ks ≡ sum ns
    by (bit_vector n) (Some ms) deeper e g = omega (arith, deeper ms e, sum_by-cons (λ (x : ℕ). x) n ms, ap sum (same_Some (n ∷ ms) ns g))
    by (bit_vector n) None deeper e g = absurd (cc g)
    by boolean o deeper e g = absurd (cc g)
    by real o deeper e g = absurd (cc g)
    by (uninterpreted l) o deeper e g = absurd (cc g)
    by (function d r) o deeper e g = absurd (cc g)

first_vector : (ks : List Sort) (n : ℕ) (ns : List ℕ) → widths ks ≡ Some (n ∷ ns) → slice_get ks 0 ≡ Some (bit_vector n)
first_vector [] n ns h = absurd (cc h)
first_vector (k ∷ ks) n ns h = by k (widths ks) h
  where
    by : (l : Sort) (o : Option (List ℕ)) → with_width l o ≡ Some (n ∷ ns) → Some l ≡ Some (bit_vector n)
    by (bit_vector m) (Some ms) g = let e : m ≡ n = cc g in ap (λ z. Some (bit_vector z)) e
    by (bit_vector m) None g = absurd (cc g)
    by boolean o g = absurd (cc g)
    by real o g = absurd (cc g)
    by (uninterpreted l) o g = absurd (cc g)
    by (function d r) o g = absurd (cc g)

module _ (w : World) (ks : List Sort) (r : TypeId) (k : Sort) where
  -- by the form of the operator
  pub test_given : KeepsType w r boolean → typed_bits test (widths ks) ≡ Some k → KeepsType w r k
  test_given keeps h = by (widths ks) h
    where
      by : (o : Option (List ℕ)) → typed_bits test o ≡ Some k → KeepsType w r k
      by (Some (m ∷ n ∷ [])) g = subst (KeepsType w r) (only_if_some (m == n) boolean k g).1 keeps
      by (Some []) g = absurd (cc g)
      by (Some (m ∷ [])) g = absurd (cc g)
      by (Some (m ∷ n ∷ o ∷ ns)) g = absurd (cc g)
      by None g = absurd (cc g)

  pub joined_given : (s : ℕ) → s ≡ all_widths ks → (is_width s ≡ true → KeepsType w r (bit_vector s)) → typed_bits joined (widths ks) ≡ Some k → KeepsType w r k
  joined_given s is keeps h = by (widths ks) refl h
    where
      by : (o : Option (List ℕ)) → widths ks ≡ o → typed_bits joined o ≡ Some k → KeepsType w r k
      by None e g = absurd (cc g)
      by (Some []) e g = absurd (cc g)
      by (Some (n ∷ ns)) e g =
          let p = only_if_some (is_width (sum (n ∷ ns))) (bit_vector (sum (n ∷ ns))) k g in
          let same : s ≡ sum (n ∷ ns) = is ∙ sum_is ks (n ∷ ns) e in
          subst (KeepsType w r) (ap bit_vector same ∙ p.1) (keeps (ap is_width same ∙ p.0))

  pub first_given : (f : BvForm) → ((l : Sort) → slice_get ks 0 ≡ Some l → KeepsType w r l) → (f ≡ test → ⊥) → (f ≡ joined → ⊥) → typed_bits f (widths ks) ≡ Some k → KeepsType w r k
  first_given f keeps d e h = by f (widths ks) refl d e h
    where
      by : (f : BvForm) (o : Option (List ℕ)) → widths ks ≡ o → (f ≡ test → ⊥) → (f ≡ joined → ⊥) → typed_bits f o ≡ Some k → KeepsType w r k
      by f None e d j g = absurd (cc g)
      by test (Some ns) e d j g = absurd (d refl)
      by joined (Some ns) e d j g = absurd (j refl)
      by one (Some []) e d j g = absurd (cc g)
      by one (Some (n ∷ [])) e d j g = subst (KeepsType w r) (same_Some (bit_vector n) k g) (keeps (bit_vector n) (first_vector ks n [] e))
      by one (Some (m ∷ n ∷ ns)) e d j g = absurd (cc g)
      by two (Some []) e d j g = absurd (cc g)
      by two (Some (n ∷ [])) e d j g = absurd (cc g)
      by two (Some (m ∷ n ∷ [])) e d j g = subst (KeepsType w r) (only_if_some (m == n) (bit_vector m) k g).1 (keeps (bit_vector m) (first_vector ks m (n ∷ []) e))
      by two (Some (m ∷ n ∷ o ∷ ns)) e d j g = absurd (cc g)
      by some (Some []) e d j g = absurd (cc g)
      by some (Some (n ∷ ns)) e d j g = subst (KeepsType w r) (only_if_some (list_all (λ m. m == n) ns) (bit_vector n) k g).1 (keeps (bit_vector n) (first_vector ks n ns e))

pub keeps_bool : (w : World) (t : TypeId) → HasTypeShape w t type.Bool → KeepsType w t boolean
unfolding KeepsType
keeps_bool w t h = h

pub keeps_real : (w : World) (t : TypeId) → HasTypeShape w t type.Real → KeepsType w t real
unfolding KeepsType
keeps_real w t h = h

-- what a function gives
pub call_given : (w : World) (s : Shape) (f : Term) (ts : List Term) (ks : List Sort) (k : Sort) (r : TypeId) → s ≡ shape.App f ts → ((d : Sorts) (l : Sort) → HasSort w f (function d l) → KeepsType w r l) → HaveSorts w (args_of s) ks → typed (operator s) ks ≡ Some k → KeepsType w r k
call_given w s f ts ks k r e keeps have h = by ks (subst (λ z. HaveSorts w (args_of z) ks) e have) (subst (λ z. typed (operator z) ks ≡ Some k) e h)
  where
    at : (l : Sort) (ls : List Sort) → HasSort w f l → result_at l ls ≡ Some k → KeepsType w r k
    at (function d l) ls has g = subst (KeepsType w r) (only_if_some _ l k g).1 (keeps d l has)
    at boolean ls has g = absurd (cc g)
    at real ls has g = absurd (cc g)
    at (bit_vector n) ls has g = absurd (cc g)
    at (uninterpreted n) ls has g = absurd (cc g)

    by : (ls : List Sort) → HaveSorts w (f ∷ ts) ls → typed application ls ≡ Some k → KeepsType w r k
    by [] h g = absurd h
    by (l ∷ ls) h g = at l ls h.0 g

equality_bool : (ks : List Sort) (k : Sort) → typed equality ks ≡ Some k → boolean ≡ k
equality_bool [] k h = absurd (cc h)
equality_bool (a ∷ []) k h = absurd (cc h)
equality_bool (a ∷ b ∷ []) k h = (only_if_some (same_sort a b) boolean k h).1
equality_bool (a ∷ b ∷ c ∷ ks) k h = absurd (cc h)

distinct_bool : (ks : List Sort) (k : Sort) → typed distinctness ks ≡ Some k → boolean ≡ k
distinct_bool [] k h = absurd (cc h)
distinct_bool (a ∷ ks) k h = (only_if_some (list_all (same_sort a) ks) boolean k h).1

-- a truth value
pub bool_given : (w : World) (s : Shape) (ks : List Sort) (k : Sort) (r : TypeId)
    → ((q : Frac) → s ≡ shape.Number q → ⊥) → ((n a : ℕ) → s ≡ shape.Bits n a → ⊥) → ((c t u : Term) → s ≡ shape.Ite c t u → ⊥) → ((f : Term) (ts : List Term) → s ≡ shape.App f ts → ⊥)
    → ((f : Term) (ts : List Term) (v : Term) → s ≡ shape.Update f ts v → ⊥) → ((ms : List Monomial) (q : Frac) → s ≡ shape.Sum ms q → ⊥) → ((op : BvOp) (ts : List Term) → s ≡ shape.Bv op ts → ⊥)
    → ((op : BvAtOp) (i j : ℕ) (t : Term) → s ≡ shape.BvAt op i j t → ⊥)
    → IsOperator s → HasTypeShape w r type.Bool → typed (operator s) ks ≡ Some k → KeepsType w r k
bool_given w shape.True ks k r n b c f u m v a o keeps h = subst (KeepsType w r) (only_if_some (are ks []) boolean k h).1 (keeps_bool w r keeps)
bool_given w shape.False ks k r n b c f u m v a o keeps h = subst (KeepsType w r) (only_if_some (are ks []) boolean k h).1 (keeps_bool w r keeps)
bool_given w (shape.Const i of) ks k r n b c f u m v a o keeps h = absurd o
bool_given w (shape.Var i of) ks k r n b c f u m v a o keeps h = absurd o
bool_given w (shape.Number q) ks k r n b c f u m v a o keeps h = absurd (n q refl)
bool_given w (shape.Bits i x) ks k r n b c f u m v a o keeps h = absurd (b i x refl)
bool_given w (shape.Not t) ks k r n b c f u m v a o keeps h = subst (KeepsType w r) (only_if_some (are ks (boolean ∷ [])) boolean k h).1 (keeps_bool w r keeps)
bool_given w (shape.And ts) ks k r n b c f u m v a o keeps h = subst (KeepsType w r) (only_if_some (are_some boolean ks) boolean k h).1 (keeps_bool w r keeps)
bool_given w (shape.Or ts) ks k r n b c f u m v a o keeps h = subst (KeepsType w r) (only_if_some (are_some boolean ks) boolean k h).1 (keeps_bool w r keeps)
bool_given w (shape.Xor ts) ks k r n b c f u m v a o keeps h = subst (KeepsType w r) (only_if_some (are_some boolean ks) boolean k h).1 (keeps_bool w r keeps)
bool_given w (shape.Ite x t e) ks k r n b c f u m v a o keeps h = absurd (c x t e refl)
bool_given w (shape.Eq t e) ks k r n b c f u m v a o keeps h = subst (KeepsType w r) (equality_bool ks k h) (keeps_bool w r keeps)
bool_given w (shape.Distinct ts) ks k r n b c f u m v a o keeps h = subst (KeepsType w r) (distinct_bool ks k h) (keeps_bool w r keeps)
bool_given w (shape.App t ts) ks k r n b c f u m v a o keeps h = absurd (f t ts refl)
bool_given w (shape.Update t ts y) ks k r n b c f u m v a o keeps h = absurd (u t ts y refl)
bool_given w (shape.Sum ms q) ks k r n b c f u m v a o keeps h = absurd (m ms q refl)
bool_given w (shape.NonNeg t) ks k r n b c f u m v a o keeps h = subst (KeepsType w r) (only_if_some (are ks (real ∷ [])) boolean k h).1 (keeps_bool w r keeps)
bool_given w (shape.Bv op ts) ks k r n b c f u m v a o keeps h = absurd (v op ts refl)
bool_given w (shape.BvAt op i j t) ks k r n b c f u m v a o keeps h = absurd (a op i j t refl)

-- a real
pub real_given : (w : World) (s : Shape) (ks : List Sort) (k : Sort) (r : TypeId) → HasTypeShape w r type.Real → (b : Bool) → typed (operator s) ks ≡ only_if b real → typed (operator s) ks ≡ Some k → KeepsType w r k
real_given w s ks k r keeps b e h = subst (KeepsType w r) (only_if_some b real k (sym e ∙ h)).1 (keeps_real w r keeps)
