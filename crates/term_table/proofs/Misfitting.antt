-- Going through the arguments of a shape: the first that is dead, of another type, or of another width.
use Rattle.std.proofs.Common.{◌≡◌, ◌∙◌, ◌+◌, ◌^◌, ◌&&◌, ◌<◌, ⊎_elim, ℕ, zero, suc, Bool, true, false, List, [], ◌∷◌, Option, Some, None, length, take, refl, sym, ap, subst, arith}
use Rattle.std.specs.Prelude.{slice_get, IsSome, nat_le, nat_lt}
use Rattle.std.proofs.lemmas.Option.{same_Some, slice_get_within}
use Rattle.std.proofs.lemmas.Bool.{false≢true, cases_eq, eqb-true}
use Rattle.stamped_slots.proofs.Lists.{get_in}
use Rattle.y_tree.specs.Sorts.{Sort, boolean, real, bit_vector, uninterpreted, function, is_width}
use Rattle.y_tree.specs.Tree.{Op}
use Rattle.y_tree.specs.Tree as tree
use Rattle.y_tree.specs.declared.BvAtOp.{BvAtOp}
use Rattle.y_tree.specs.declared.BvAtOp.TheVariants as bv_at
use Rattle.y_tree.specs.Typing.{typed, BvForm, one, two, test, some, joined, form_of}
use Rattle.y_tree.specs.Misfits.{Wanted, Row, these, some_of, even, fits, unless, or_else, too_wide, out_of_range, told_width, a_bit_vector, is_bit_vector, row_of, count_fits, width, first_width, all_widths, Misfit, bad_arity, wrong_type, widths_differ, bad_width, bad_range, out_in, misfit_of}
use Rattle.y_tree.specs.Laws.{wanted_behind, is_even, IsMisfit, IsFirstOther, AreWanted, IsOwn, FitsAreTyped, ToldIsMisfit, names_a_sort}
use Rattle.term_shapes.specs.declared.handles.Term.{Term}
use Rattle.term_shapes.specs.declared.handles.TypeId.{TypeId}
use Rattle.term_shapes.specs.declared.shapes.Shape.{Shape}
use Rattle.term_shapes.specs.declared.shapes.Shape.TheVariants as shape
use Rattle.term_shapes.specs.Shapes.{args_of}
use Rattle.shape_rules.specs.declared.errors.ShapeError.{ShapeError}
use Rattle.shape_rules.specs.declared.errors.ShapeError.TheVariants as refusal
use Rattle.term_table.specs.World.{World, node_at, KeepsType}
use Rattle.shape_rules.specs.Rules.{IsOperator, operator, TellsNumber, NumberToldBy}
use Rattle.term_table.specs.Checking.{HaveSorts, AreLive, IsFirstDead, IsDeadAt, Tells, ToldAt, ToldBy, IsTold, IsShape, IsMisfitting, RefusesShape, AllFit, AllWide, AllVectors}
use Rattle.term_table.proofs.Sorting.{have_length}

module _ (w : World) (ts : List Term) where
  -- the first dead one
  pub first_dead_is : (i : ℕ) (b : Bool) → b ≡ true → IsDeadAt w ts i b → ((j : ℕ) (t : Term) → j < i → slice_get ts j ≡ Some t → IsSome (node_at w t)) → IsFirstDead w ts (i + 1)
  first_dead_is i true e (t, at, dead) earlier = record { others = i; behind = refl; term = t; there = at; dead = dead; earlier = earlier }
  first_dead_is i false e h earlier = absurd (false≢true e)

  pub live_step : (i : ℕ) (b : Bool) → b ≡ false → IsDeadAt w ts i b → ((j : ℕ) (t : Term) → j < i → slice_get ts j ≡ Some t → IsSome (node_at w t)) → (j : ℕ) (t : Term) → j < i + 1 → slice_get ts j ≡ Some t → IsSome (node_at w t)
  live_step i true e h earlier j t low at = absurd (false≢true (sym e))
  live_step i false e h earlier j t low at =
      ⊎_elim (λ (k : j ≡ i). h t (sym (ap (slice_get ts) k) ∙ at)) (λ d. earlier j t (omega (arith, low, d)) at) (cases_eq j i)

  pub live_all : (n : ℕ) → n ≡ length ts → ((j : ℕ) (t : Term) → j < n → slice_get ts j ≡ Some t → IsSome (node_at w t)) → AreLive w ts
  live_all n e earlier i t at = earlier i t (omega (arith, slice_get_within ts i t at, e)) at

-- what a row wants is there for each argument, where their number fits
pub wanted_there : (r : Row) (n i : ℕ) → count_fits r n ≡ true → i < n → (v : Wanted) × (wanted_behind r i ≡ Some v)
wanted_there (these ws) n i h low = get_in ws i (omega (arith, low, eqb-true (length ws) n h))
wanted_there (some_of v) n i h low = (v, refl)
wanted_there (even (these ws)) n i h low = get_in ws i (omega (arith, low, eqb-true (length ws) n h))
wanted_there (even (some_of v)) n i h low = (v, refl)
wanted_there (even (even r)) n i h low = absurd (false≢true h)

pub sort_in : (w : World) (ts : List Term) (ks : List Sort) (i : ℕ) → HaveSorts w ts ks → i < length ts → (k : Sort) × (slice_get ks i ≡ Some k)
sort_in w ts ks i have low = get_in ks i (omega (arith, low, have_length w ts ks have))

-- the first of another type
pub told_wrong : (w : World) (s : Shape) (ks : List Sort) (i : ℕ) (e : ShapeError) → HaveSorts w (args_of s) ks → i < length (args_of s) → count_fits (row_of (operator s) ks) (length ks) ≡ true → ToldAt w (row_of (operator s) ks) ks i (Some e) → ((j : ℕ) (v : Wanted) (k : Sort) → j < i → wanted_behind (row_of (operator s) ks) j ≡ Some v → slice_get ks j ≡ Some k → fits v k ≡ true) → IsTold w s ks e
told_wrong w s ks i e have low count told earlier =
    let v = wanted_there (row_of (operator s) ks) (length ks) i count (omega (arith, low, have_length w (args_of s) ks have)) in
    let k = sort_in w (args_of s) ks i have low in
    let t = told v.0 k.0 v.1 k.1 in
    record {
      misfit = wrong_type (i + 1) v.0 k.0;
      is = (i, refl, count, record { there = v.1; found = k.1; wrong = t.0; earlier = earlier });
      tells = t.1;
    }

pub fit_step : (w : World) (r : Row) (ks : List Sort) (i : ℕ) (o : Option ShapeError) → o ≡ None → ToldAt w r ks i o → ((j : ℕ) (v : Wanted) (k : Sort) → j < i → wanted_behind r j ≡ Some v → slice_get ks j ≡ Some k → fits v k ≡ true) → (j : ℕ) (v : Wanted) (k : Sort) → j < i + 1 → wanted_behind r j ≡ Some v → slice_get ks j ≡ Some k → fits v k ≡ true
fit_step w r ks i (Some e) f told earlier j v k low there found = absurd (cc f)
fit_step w r ks i None f told earlier j v k low there found =
    ⊎_elim (λ (e : j ≡ i). told v k (sym (ap (wanted_behind r) e) ∙ there) (sym (ap (slice_get ks) e) ∙ found)) (λ d. earlier j v k (omega (arith, low, d)) there found) (cases_eq j i)

pub fit_all : (w : World) (r : Row) (ts : List Term) (ks : List Sort) (n : ℕ) → n ≡ length ts → HaveSorts w ts ks → ((j : ℕ) (v : Wanted) (k : Sort) → j < n → wanted_behind r j ≡ Some v → slice_get ks j ≡ Some k → fits v k ≡ true) → AllFit r ks
fit_all w r ts ks n e have earlier i v k there found = earlier i v k (omega (arith, slice_get_within ks i k found, have_length w ts ks have, e)) there found

-- bit-vectors where these are wanted
vector_is : (k : Sort) → is_bit_vector k ≡ true → k ≡ bit_vector (width k)
vector_is boolean h = absurd (false≢true h)
vector_is real h = absurd (false≢true h)
vector_is (bit_vector n) h = refl
vector_is (uninterpreted n) h = absurd (false≢true h)
vector_is (function d r) h = absurd (false≢true h)

pub all_vectors : (r : Row) (ks : List Sort) → ((v : Wanted) (i : ℕ) → wanted_behind r i ≡ Some v → v ≡ a_bit_vector) → AreWanted r ks → AllVectors ks
all_vectors r ks vectors wanted i k at =
    let v = wanted_there r (length ks) i wanted.number (slice_get_within ks i k at) in
    sym (ap (λ z. fits z k) (vectors v.0 i v.1)) ∙ wanted.types i v.0 k v.1 at

first_is : (ks : List Sort) (k : Sort) → slice_get ks 0 ≡ Some k → first_width ks ≡ width k
first_is [] k h = absurd (cc h)
first_is (l ∷ ks) k h = ap width (same_Some l k h)

pub first_other_is : (ks : List Sort) (i left right : ℕ) (k : Sort) → AllVectors ks → slice_get ks i ≡ Some k → right ≡ width k → (right ≡ left → ⊥) → ((j m : ℕ) → j < i → slice_get ks j ≡ Some (bit_vector m) → left ≡ m) → IsFirstOther ks i left right
first_other_is ks i left right k vectors at is differs earlier = record {
  found = at ∙ ap Some (vector_is k (vectors i k at) ∙ ap bit_vector (sym is));
  unlike = λ e. differs (sym e);
  earlier = earlier;
}

pub wide_step : (ks : List Sort) (i left right : ℕ) (k : Sort) → slice_get ks i ≡ Some k → right ≡ width k → right ≡ left → ((j m : ℕ) → j < i → slice_get ks j ≡ Some (bit_vector m) → left ≡ m) → (j m : ℕ) → j < i + 1 → slice_get ks j ≡ Some (bit_vector m) → left ≡ m
wide_step ks i left right k at is same earlier j m low found =
    ⊎_elim (λ (e : j ≡ i). sym same ∙ is ∙ ap width (same_Some k (bit_vector m) (sym at ∙ sym (ap (slice_get ks) e) ∙ found))) (λ d. earlier j m (omega (arith, low, d)) found) (cases_eq j i)

pub left_is : (w : World) (ts : List Term) (ks : List Sort) (left : ℕ) → HaveSorts w ts ks → ((k : Sort) → slice_get ks 0 ≡ Some k → left ≡ width k) → 0 < length ts → left ≡ first_width ks
left_is w ts ks left have is low = let k = sort_in w ts ks 0 have low in is k.0 k.1 ∙ sym (first_is ks k.0 k.1)

-- widths summed
all_widths_more : (ks : List Sort) (i : ℕ) (k : Sort) → slice_get ks i ≡ Some k → all_widths (take (i + 1) ks) ≡ all_widths (take i ks) + width k
all_widths_more [] i k h = absurd (cc h)
all_widths_more (l ∷ ks) zero k h = omega (arith, ap width (same_Some l k h))
all_widths_more (l ∷ ks) (suc i) k h =
    let e : suc i + 1 ≡ suc (i + 1) = omega arith in
    ap (λ n. all_widths (take n (l ∷ ks))) e ∙ omega (arith, all_widths_more ks i k h)

all_taken : (ks : List Sort) (n : ℕ) → n ≡ length ks → take n ks ≡ ks
all_taken [] zero e = refl
all_taken [] (suc n) e = refl
all_taken (k ∷ ks) zero e = absurd (omega (arith, e))
all_taken (k ∷ ks) (suc n) e = ap (λ z. k ∷ z) (all_taken ks n (omega (arith, e)))

pub widths_step : (w : World) (ts : List Term) (ks : List Sort) (i sum right : ℕ) → HaveSorts w ts ks → i < length ts → ((k : Sort) → slice_get ks i ≡ Some k → right ≡ width k) → sum ≡ all_widths (take i ks) → sum + right ≡ all_widths (take (i + 1) ks)
widths_step w ts ks i sum right have low is e =
    let k = sort_in w ts ks i have low in omega (arith, e, is k.0 k.1, all_widths_more ks i k.0 k.1)

pub widths_all : (w : World) (ts : List Term) (ks : List Sort) (n sum : ℕ) → n ≡ length ts → HaveSorts w ts ks → sum ≡ all_widths (take n ks) → sum ≡ all_widths ks
widths_all w ts ks n sum e have is = is ∙ ap all_widths (all_taken ks n (e ∙ sym (have_length w ts ks have)))

-- nothing is told where nothing is wrong
pub nothing_told : (op : Op) (ks : List Sort) → ToldIsMisfit → count_fits (row_of op ks) (length ks) ≡ true → AllFit (row_of op ks) ks → (is_even (row_of op ks) ≡ true → AllWide (first_width ks) ks) → out_in op ks ≡ None → misfit_of op ks ≡ None
nothing_told op ks law count fit wide own = by (misfit_of op ks) refl
  where
    wrong : (m : Misfit) → IsMisfit op ks m → ⊥
    wrong (bad_arity n) (e, f) = absurd (false≢true (sym f ∙ ap (count_fits (row_of op ks)) e ∙ count))
    wrong (wrong_type place v k) (i, e, f, first) = absurd (false≢true (sym first.wrong ∙ fit i v k first.there first.found))
    wrong (widths_differ place n m) (i, e, wanted, one_width, is, first) = first.unlike (is ∙ wide one_width i m first.found)
    wrong (bad_width n) own_is = absurd (cc (sym own ∙ own_is.own))
    wrong bad_range own_is = absurd (cc (sym own ∙ own_is.own))

    by : (o : Option Misfit) → misfit_of op ks ≡ o → misfit_of op ks ≡ None
    by None e = e
    by (Some m) e = absurd (wrong m ((law op ks m).0 e))

names_none : (s : Shape) → IsOperator s → names_a_sort (operator s) ≡ true
names_none shape.True h = refl
names_none shape.False h = refl
names_none (shape.Const n of) h = absurd h
names_none (shape.Var n of) h = absurd h
names_none (shape.Number q) h = refl
names_none (shape.Bits n a) h = refl
names_none (shape.Not t) h = refl
names_none (shape.And ts) h = refl
names_none (shape.Or ts) h = refl
names_none (shape.Xor ts) h = refl
names_none (shape.Ite c t u) h = refl
names_none (shape.Eq t u) h = refl
names_none (shape.Distinct ts) h = refl
names_none (shape.App f ts) h = refl
names_none (shape.Update f ts v) h = refl
names_none (shape.Sum ms q) h = refl
names_none (shape.NonNeg t) h = refl
names_none (shape.Bv op ts) h = refl
names_none (shape.BvAt op i j t) h = refl

-- a shape without a misfit is one of a term
pub shape_of_term : (w : World) (s : Shape) (ks : List Sort) (of : TypeId) → FitsAreTyped → ToldIsMisfit → IsOperator s → HaveSorts w (args_of s) ks → count_fits (row_of (operator s) ks) (length ks) ≡ true → AllFit (row_of (operator s) ks) ks → (is_even (row_of (operator s) ks) ≡ true → AllWide (first_width ks) ks) → out_in (operator s) ks ≡ None → ((k : Sort) → typed (operator s) ks ≡ Some k → KeepsType w of k) → IsShape w s of
shape_of_term w s ks of fits told operates have count fit wide own given =
    let r = (fits (operator s) ks (names_none s operates)).0 (nothing_told (operator s) ks told count fit wide own) in
    record { operates = operates; sorts = ks; have = have; result = r.0; takes = r.1; gives = given r.0 r.1 }

-- a misfit that is told
pub misfitting : (w : World) (s : Shape) (ks : List Sort) (e : ShapeError) → ToldIsMisfit → IsOperator s → HaveSorts w (args_of s) ks → IsTold w s ks e → IsMisfitting w s e
misfitting w s ks e law operates have told =
    record { operates = operates; sorts = ks; have = have; misfit = told.misfit; is = (law (operator s) ks told.misfit).1 told.is; tells = told.tells }

pub wanted_all : (r : Row) (ks : List Sort) → count_fits r (length ks) ≡ true → AllFit r ks → AreWanted r ks
wanted_all r ks count fit = record { number = count; types = fit }

-- a misfit of a width or a range
own_kind : Misfit → Bool
own_kind (bad_width n) = true
own_kind bad_range = true
own_kind _ = false

IsOwnKind : Option Misfit → Type 0
IsOwnKind None = Unit {0}
IsOwnKind (Some m) = own_kind m ≡ true

own_unless : (b : Bool) (m : Misfit) → own_kind m ≡ true → IsOwnKind (unless b m)
unfolding IsOwnKind
own_unless true m h = tt
own_unless false m h = h

own_either : (a b : Option Misfit) → IsOwnKind a → IsOwnKind b → IsOwnKind (or_else a b)
unfolding IsOwnKind
own_either None b h k = k
own_either (Some m) b h k = h

own_form : (f : BvForm) (n : ℕ) → IsOwnKind (too_wide f n)
unfolding IsOwnKind own_kind
own_form one n = tt
own_form two n = tt
own_form test n = tt
own_form some n = tt
own_form joined n = own_unless (is_width n) (bad_width n) refl

own_range : (op : BvAtOp) (i j n : ℕ) → IsOwnKind (out_of_range op i j n)
unfolding IsOwnKind own_kind
own_range bv_at.ShiftLeft0 i j n = own_unless (nat_le i n) bad_range refl
own_range bv_at.ShiftRight0 i j n = own_unless (nat_le i n) bad_range refl
own_range bv_at.Extract i j n = own_unless (nat_le j i && nat_lt i n) bad_range refl
own_range bv_at.SignExtend i j n = own_unless (nat_le (n + i) 128) (bad_width (told_width (n + i))) refl
own_range bv_at.ZeroExtend i j n = own_unless (nat_le (n + i) 128) (bad_width (told_width (n + i))) refl

own_out : (op : Op) (ks : List Sort) → IsOwnKind (out_in op ks)
unfolding IsOwnKind own_kind
own_out (tree.bits n a) ks = own_either (unless (is_width n) (bad_width n)) (unless (nat_lt a (2 ^ n)) bad_range) (own_unless (is_width n) (bad_width n) refl) (own_unless (nat_lt a (2 ^ n)) bad_range refl)
own_out (tree.bit_vector op) ks = own_form (form_of op) (all_widths ks)
own_out (tree.bit_vector_at op i j) ks = own_range op i j (first_width ks)
own_out _ ks = tt

own_is : (op : Op) (ks : List Sort) (m : Misfit) → own_kind m ≡ true → IsOwn op ks m → IsMisfit op ks m
unfolding own_kind
own_is op ks (bad_width n) h o = o
own_is op ks bad_range h o = o
own_is op ks (bad_arity n) h o = absurd (false≢true h)
own_is op ks (wrong_type place v k) h o = absurd (false≢true h)
own_is op ks (widths_differ place n m) h o = absurd (false≢true h)

kind : (m : Misfit) (o : Option Misfit) → o ≡ Some m → IsOwnKind o → own_kind m ≡ true
unfolding IsOwnKind
kind m None f h = absurd (cc f)
kind m (Some n) f h = subst (λ z. own_kind z ≡ true) (same_Some n m f) h

pub own_misfit : (w : World) (s : Shape) (ks : List Sort) (e : ShapeError) → AreWanted (row_of (operator s) ks) ks → (is_even (row_of (operator s) ks) ≡ true → AllWide (first_width ks) ks) → ToldBy w (out_in (operator s) ks) (Some e) → IsTold w s ks e
own_misfit w s ks e wanted wide told = by (out_in (operator s) ks) refl told
  where
    by : (o : Option Misfit) → out_in (operator s) ks ≡ o → ToldBy w o (Some e) → IsTold w s ks e
    by None f h = absurd h
    by (Some m) f h = record {
      misfit = m;
      is = own_is (operator s) ks m (kind m (out_in (operator s) ks) f (own_out (operator s) ks)) (record { wanted = wanted; widths = wide; own = f });
      tells = h;
    }

-- a misfit comes after atoms and dead arguments
pub refuses : (w : World) (s : Shape) (e : ShapeError) → IsMisfitting w s e → RefusesShape w s e
refuses w s refusal.Atom m = absurd m.tells
refuses w s (refusal.DeadTerm place) m = absurd m.tells
refuses w s (refusal.BadArity n) m = m
refuses w s (refusal.WrongType place want found) m = m
refuses w s (refusal.WidthsDiffer place left right) m = m
refuses w s (refusal.BadWidth n) m = m
refuses w s refusal.BadRange m = m

pub none_own : (w : World) (o : Option Misfit) → ToldBy w o None → o ≡ None
none_own w None h = refl
none_own w (Some m) h = absurd h

-- a misfit of a number, told by itself, is told in the table
tells_number : (w : World) (m : Misfit) (e : ShapeError) → TellsNumber m e → Tells w m e
tells_number w m (refusal.BadWidth n) h = h
tells_number w m refusal.BadRange h = h
tells_number w m refusal.Atom h = h
tells_number w m (refusal.DeadTerm place) h = h
tells_number w m (refusal.BadArity n) h = absurd h
tells_number w m (refusal.WrongType place want found) h = absurd h
tells_number w m (refusal.WidthsDiffer place left right) h = absurd h

pub number_told : (w : World) (m : Option Misfit) (e : Option ShapeError) → NumberToldBy m e → ToldBy w m e
number_told w None None h = tt
number_told w (Some m) (Some e) h = tells_number w m e h
number_told w None (Some e) h = absurd h
number_told w (Some m) None h = absurd h
