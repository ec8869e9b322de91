-- What an operator takes, and what it makes of words.
use Rattle.std.proofs.Common.{◌≡◌, ◌∙◌, ℕ, ◌+◌, ◌-◌, ◌*◌, ◌/◌, ◌%◌, ◌^◌, ◌<◌, ◌≤◌, Bool, true, false, ◌&&◌, List, [], ◌∷◌, Option, Some, None, length, map, get_or, take, drop, refl, sym, ap, subst, arith}
use Rattle.std.specs.Prelude.{◌==◌, nat_le, nat_lt, sum}
use Rattle.std.specs.List.{list_all}
use Rattle.std.specs.Cmp.{unsigned_Decides}
use Rattle.std.specs.Int.Bits.{bit_and, bit_or, bit_xor}
use Rattle.std.proofs.Math.Nat.{mod-eq_of_lt, add-mul-mod_self_left}
use Rattle.std.proofs.lemmas.Bool.{and_parts, leb-true, ltb-true, false≢true}
use Rattle.std.proofs.lemmas.List.{take_rest}
use Rattle.std.proofs.lemmas.List.Sums.{sum_by-cons}
use Rattle.std.proofs.lemmas.Nat.{mul-mod_first, div-add-mod'}
use Rattle.y_tree.specs.declared.BvOp.{BvOp}
use Rattle.y_tree.specs.declared.BvOp.TheVariants as bv
use Rattle.y_tree.specs.declared.BvAtOp.{BvAtOp}
use Rattle.y_tree.specs.declared.BvAtOp.TheVariants as bv_at
use Rattle.y_tree.specs.Sorts.{Sort, boolean, bit_vector, is_width}
use Rattle.y_tree.specs.Values.{bits}
use Rattle.y_tree.specs.Tree as tree
use Rattle.y_tree.specs.BitVectors.{wrap, complement, negate}
use Rattle.y_tree.specs.Typing.{BvForm, form_of, only_if, typed_bits, typed_form, widths, with_width}
use Rattle.y_tree.specs.Typing as form
use Rattle.y_tree.specs.Misfits.{Misfit, bad_range, bad_width, misfit_of, told_width, unless}
use Rattle.y_tree.specs.Meaning.{bits_pair, fold_all, join_all, on_bits, on_some, on_two}
use Rattle.y_tree.proofs.Fits.{fits_are_typed}
use Rattle.y_tree.proofs.Sorted.{only_if_parts}
use Rattle.y_tree.proofs.Widths.{wrap_below}
use Rattle.bit_arithmetic.specs.declared.words.Word.{Word}
use Rattle.bit_arithmetic.specs.declared.folds.Fold.{Fold}
use Rattle.bit_arithmetic.specs.declared.folds.Fold.TheVariants as fold
use Rattle.bit_arithmetic.specs.Plain.{AreOfWidth, all_widths, combined, pair, takes_two, type_of}

-- the width of a word
abbrev width_of : Word → ℕ
width_of w = w.width

-- the operator's row takes these words
abbrev pub Takes : BvOp → List Word → Type 0
Takes op ws = misfit_of (tree.bit_vector op) (map type_of ws) ≡ None

widths_are : (ws : List Word) → widths (map type_of ws) ≡ Some (map width_of ws)
widths_are [] = refl
widths_are (w ∷ ws) = ap (with_width (bit_vector w.width)) (widths_are ws)

typed_words : (op : BvOp) (ws : List Word) → Takes op ws → (s : Sort) × (typed_form (form_of op) (map width_of ws) ≡ Some s)
typed_words op ws h =
    let r = (fits_are_typed (tree.bit_vector op) (map type_of ws) refl).0 h in
    (r.0, ap (typed_bits (form_of op)) (sym (widths_are ws)) ∙ r.1)

there_is_one : (f : BvForm) (ws : List Word) (s : Sort) → typed_form f (map width_of ws) ≡ Some s → 0 < length ws
there_is_one f (w ∷ ws) s h = omega arith
there_is_one form.one [] s h = absurd (cc h)
there_is_one form.two [] s h = absurd (cc h)
there_is_one form.test [] s h = absurd (cc h)
there_is_one form.some [] s h = absurd (cc h)
there_is_one form.joined [] s h = absurd (cc h)

pub takes_some : (op : BvOp) (ws : List Word) → Takes op ws → 0 < length ws
takes_some op ws h = let r = typed_words op ws h in there_is_one (form_of op) ws r.0 r.1

-- two words, of one width
abbrev ArePair : List Word → Type 0
ArePair ws = (d e : Word) → (1 < length ws) × ((get_or ws 0 d).width ≡ (get_or ws 1 e).width)

are_pair : (f : BvForm) (ws : List Word) (s : Sort) → takes_two f ≡ true → typed_form f (map width_of ws) ≡ Some s → ArePair ws
are_pair form.one ws s k h d e = absurd (false≢true k)
are_pair form.some ws s k h d e = absurd (false≢true k)
are_pair form.joined ws s k h d e = absurd (false≢true k)
are_pair form.two [] s k h d e = absurd (cc h)
are_pair form.two (v ∷ []) s k h d e = absurd (cc h)
are_pair form.two (v ∷ w ∷ []) s k h d e = (omega arith, (unsigned_Decides v.width w.width).0 (only_if_parts (v.width == w.width) (bit_vector v.width) s h).0)
are_pair form.two (v ∷ w ∷ x ∷ ws) s k h d e = absurd (cc h)
are_pair form.test [] s k h d e = absurd (cc h)
are_pair form.test (v ∷ []) s k h d e = absurd (cc h)
are_pair form.test (v ∷ w ∷ []) s k h d e = (omega arith, (unsigned_Decides v.width w.width).0 (only_if_parts (v.width == w.width) boolean s h).0)
are_pair form.test (v ∷ w ∷ x ∷ ws) s k h d e = absurd (cc h)

pub takes_pair : (op : BvOp) (ws : List Word) → takes_two (form_of op) ≡ true → Takes op ws → (d e : Word) → (1 < length ws) × ((get_or ws 0 d).width ≡ (get_or ws 1 e).width)
takes_pair op ws k h = let r = typed_words op ws h in are_pair (form_of op) ws r.0 k r.1

-- some words, of one width
of_width : (n : ℕ) (ws : List Word) → list_all (λ m. m == n) (map width_of ws) ≡ true → AreOfWidth n ws
of_width n [] h = tt
of_width n (w ∷ ws) h =
    let p = and_parts (w.width == n) (list_all (λ m. m == n) (map width_of ws)) h in
    (sym ((unsigned_Decides w.width n).0 p.0), of_width n ws p.1)

are_even : (ws : List Word) (s : Sort) → typed_form form.some (map width_of ws) ≡ Some s → (d : Word) → AreOfWidth (get_or ws 0 d).width (drop 1 ws)
are_even [] s h d = absurd (cc h)
are_even (w ∷ ws) s h d = of_width w.width ws (only_if_parts (list_all (λ m. m == w.width) (map width_of ws)) (bit_vector w.width) s h).0

pub takes_even : (op : BvOp) (ws : List Word) → form_of op ≡ form.some → Takes op ws → (d : Word) → AreOfWidth (get_or ws 0 d).width (drop 1 ws)
takes_even op ws e h =
    let r = typed_words op ws h in
    are_even ws r.0 (subst (λ f. typed_form f (map width_of ws) ≡ Some r.0) e r.1)

-- words that fit side by side
total : (ws : List Word) → sum (map width_of ws) ≡ all_widths ws
total [] = refl
total (w ∷ ws) = sum_by-cons (λ (x : ℕ). x) w.width (map width_of ws) ∙ ap (λ x. w.width + x) (total ws)

are_narrow : (ws : List Word) (s : Sort) → typed_form form.joined (map width_of ws) ≡ Some s → (d : Word) → 0 < length ws → (get_or ws 0 d).width + all_widths (drop 1 ws) ≤ 128
are_narrow [] s h d k = absurd (omega arith)
are_narrow (w ∷ ws) s h d k =
    let fit = (only_if_parts (is_width (sum (map width_of (w ∷ ws)))) (bit_vector (sum (map width_of (w ∷ ws)))) s h).0 in
    let narrow = leb-true (sum (map width_of (w ∷ ws))) 128 (and_parts (nat_le 1 (sum (map width_of (w ∷ ws)))) (nat_le (sum (map width_of (w ∷ ws))) 128) fit).1 in
    subst (λ x. x ≤ 128) (total (w ∷ ws)) narrow

pub takes_narrow : (op : BvOp) (ws : List Word) → form_of op ≡ form.joined → Takes op ws → (d : Word) → (get_or ws 0 d).width + all_widths (drop 1 ws) ≤ 128
takes_narrow op ws e h d =
    let r = typed_words op ws h in
    are_narrow ws r.0 (subst (λ f. typed_form f (map width_of ws) ≡ Some r.0) e r.1) d (takes_some op ws h)

-- the same of the first word and of those behind it, a part of a slice
pub rest_even : (op : BvOp) (ws : List Word) (v : Word) → v ≡ get_or ws 0 v → form_of op ≡ form.some → Takes op ws → AreOfWidth v.width (take (length ws - 1) (drop 1 ws))
rest_even op ws v i e h =
    subst (λ (u : Word). AreOfWidth u.width (take (length ws - 1) (drop 1 ws))) (sym i)
    (subst (AreOfWidth (get_or ws 0 v).width) (sym (take_rest ws 1)) (takes_even op ws e h v))

pub rest_narrow : (op : BvOp) (ws : List Word) (v : Word) → v ≡ get_or ws 0 v → form_of op ≡ form.joined → Takes op ws → v.width + all_widths (take (length ws - 1) (drop 1 ws)) ≤ 128
rest_narrow op ws v i e h =
    subst (λ (u : Word). u.width + all_widths (take (length ws - 1) (drop 1 ws)) ≤ 128) (sym i)
    (subst (λ (xs : List Word). (get_or ws 0 v).width + all_widths xs ≤ 128) (sym (take_rest ws 1)) (takes_narrow op ws e h v))

pub same_widths : (op : BvOp) (ws : List Word) (v w : Word) → v ≡ get_or ws 0 v → w ≡ get_or ws 1 w → takes_two (form_of op) ≡ true → Takes op ws → v.width ≡ w.width
same_widths op ws v w i j k h = ap width_of i ∙ (takes_pair op ws k h v w).1 ∙ sym (ap width_of j)

pub has_two : (op : BvOp) (ws : List Word) → takes_two (form_of op) ≡ true → Takes op ws → 1 < length ws
has_two op [] k h = absurd (none_below (takes_some op [] h))
  where
    none_below : 0 < length {A = Word} [] → ⊥
    none_below l = omega arith
has_two op (w ∷ ws) k h = (takes_pair op (w ∷ ws) k h w w).0

-- an operator on two, at the first two of some
on_first_two : (op : BvOp) → takes_two (form_of op) ≡ true → (v w : ℕ × ℕ) (ws : List (ℕ × ℕ)) → on_two op v.0 v.1 w.1 ≡ on_some op v (w ∷ ws)
on_first_two bv.Add h v w ws = absurd (false≢true h)
on_first_two bv.Mul h v w ws = absurd (false≢true h)
on_first_two bv.And h v w ws = absurd (false≢true h)
on_first_two bv.Or h v w ws = absurd (false≢true h)
on_first_two bv.Xor h v w ws = absurd (false≢true h)
on_first_two bv.Concat h v w ws = absurd (false≢true h)
on_first_two op h v w ws = refl

pub means_two : (op : BvOp) (ws : List Word) (v w : Word) → v ≡ get_or ws 0 v → w ≡ get_or ws 1 w → takes_two (form_of op) ≡ true → 1 < length ws
    → on_two op v.width v.bits w.bits ≡ on_bits op (map pair ws)
means_two op [] v w i j k h = absurd (omega arith)
means_two op (x ∷ []) v w i j k h = absurd (omega arith)
means_two op (x ∷ y ∷ ws) v w i j k h =
    ap (λ (u : Word). on_two op u.width u.bits w.bits) i ∙ ap (λ (u : Word). on_two op x.width x.bits u.bits) j ∙ on_first_two op k (pair x) (pair y) (map pair ws)

-- on one
pub means_negation : (ws : List Word) (v r : Word) → v ≡ get_or ws 0 v → 0 < length ws → r.width ≡ v.width → r.bits ≡ negate v.width v.bits → bits r.width r.bits ≡ on_bits bv.Neg (map pair ws)
means_negation [] v r i h e f = absurd (omega arith)
means_negation (w ∷ []) v r i h e f = ap (λ n. bits n r.bits) e ∙ ap (bits v.width) f ∙ ap (λ (u : Word). bits u.width (negate u.width u.bits)) i
means_negation (w ∷ x ∷ ws) v r i h e f = ap (λ n. bits n r.bits) e ∙ ap (bits v.width) f ∙ ap (λ (u : Word). bits u.width (negate u.width u.bits)) i

pub means_complement : (ws : List Word) (v r : Word) → v ≡ get_or ws 0 v → 0 < length ws → r.width ≡ v.width → r.bits ≡ complement v.width v.bits → bits r.width r.bits ≡ on_bits bv.Not (map pair ws)
means_complement [] v r i h e f = absurd (omega arith)
means_complement (w ∷ []) v r i h e f = ap (λ n. bits n r.bits) e ∙ ap (bits v.width) f ∙ ap (λ (u : Word). bits u.width (complement u.width u.bits)) i
means_complement (w ∷ x ∷ ws) v r i h e f = ap (λ n. bits n r.bits) e ∙ ap (bits v.width) f ∙ ap (λ (u : Word). bits u.width (complement u.width u.bits)) i

-- on all, side by side
pub means_join : (ws : List Word) (v r : Word) → v ≡ get_or ws 0 v → 0 < length ws → pair r ≡ join_all (pair v) (map pair (take (length ws - 1) (drop 1 ws))) → bits r.width r.bits ≡ on_bits bv.Concat (map pair ws)
means_join [] v r i h e = absurd (omega arith)
means_join (w ∷ ws) v r i h e =
    ap bits_pair
    (e ∙ ap (λ (xs : List Word). join_all (pair v) (map pair xs)) (take_rest (w ∷ ws) 1) ∙ ap (λ (u : Word). join_all (pair u) (map pair ws)) i)

-- the low digits of a sum or product need the low digits alone
sum_first : (n a b : ℕ) → wrap n (wrap n a + b) ≡ wrap n (a + b)
sum_first n a b =
    let e : wrap n a + b + 2 ^ n * (a / 2 ^ n) ≡ a + b = omega (arith, div-add-mod' a (2 ^ n)) in
    sym (add-mul-mod_self_left (wrap n a + b) (2 ^ n) (a / 2 ^ n)) ∙ ap (λ x. x % 2 ^ n) e

sum_low : (n a : ℕ) (ws : List (ℕ × ℕ)) → wrap n (fold_all (λ x y. x + y) (wrap n a) ws) ≡ wrap n (fold_all (λ x y. x + y) a ws)
sum_low n a [] = mod-eq_of_lt (wrap_below n a)
sum_low n a (w ∷ ws) =
    sym (sum_low n (wrap n a + w.1) ws) ∙ ap (λ x. wrap n (fold_all (λ x y. x + y) x ws)) (sum_first n a w.1) ∙ sum_low n (a + w.1) ws

product_low : (n a : ℕ) (ws : List (ℕ × ℕ)) → wrap n (fold_all (λ x y. x * y) (wrap n a) ws) ≡ wrap n (fold_all (λ x y. x * y) a ws)
product_low n a [] = mod-eq_of_lt (wrap_below n a)
product_low n a (w ∷ ws) =
    sym (product_low n (wrap n a * w.1) ws) ∙ ap (λ x. wrap n (fold_all (λ x y. x * y) x ws)) (mul-mod_first a w.1 (2 ^ n)) ∙ product_low n (a * w.1) ws

-- each step's low digits, or those of the whole
sum_steps : (n a : ℕ) (ws : List (ℕ × ℕ)) → a < 2 ^ n → fold_all (combined fold.Sum n) a ws ≡ wrap n (fold_all (λ x y. x + y) a ws)
sum_steps n a [] h = sym (mod-eq_of_lt h)
sum_steps n a (w ∷ ws) h = sum_steps n (wrap n (a + w.1)) ws (wrap_below n (a + w.1)) ∙ sum_low n (a + w.1) ws

product_steps : (n a : ℕ) (ws : List (ℕ × ℕ)) → a < 2 ^ n → fold_all (combined fold.Product n) a ws ≡ wrap n (fold_all (λ x y. x * y) a ws)
product_steps n a [] h = sym (mod-eq_of_lt h)
product_steps n a (w ∷ ws) h = product_steps n (wrap n (a * w.1)) ws (wrap_below n (a * w.1)) ∙ product_low n (a * w.1) ws

-- the operator that a fold is
abbrev pub folded : Fold → BvOp
folded fold.Sum = bv.Add
folded fold.Product = bv.Mul
folded fold.Conjunction = bv.And
folded fold.Disjunction = bv.Or
folded fold.Parity = bv.Xor

fold_is : (by : Fold) (w : Word) (vs : List (ℕ × ℕ)) → bits w.width (fold_all (combined by w.width) w.bits vs) ≡ on_some (folded by) (pair w) vs
fold_is fold.Sum w vs = ap (bits w.width) (sum_steps w.width w.bits vs w.below)
fold_is fold.Product w vs = ap (bits w.width) (product_steps w.width w.bits vs w.below)
fold_is fold.Conjunction w vs = refl
fold_is fold.Disjunction w vs = refl
fold_is fold.Parity w vs = refl

pub means_fold : (by : Fold) (ws : List Word) (v r : Word) → v ≡ get_or ws 0 v → 0 < length ws → r.width ≡ v.width
    → r.bits ≡ fold_all (combined by v.width) v.bits (map pair (take (length ws - 1) (drop 1 ws))) → bits r.width r.bits ≡ on_bits (folded by) (map pair ws)
means_fold by [] v r i h e f = absurd (omega arith)
means_fold by (w ∷ ws) v r i h e f =
    ap (λ n. bits n r.bits) e
    ∙ ap (bits v.width) (f ∙ ap (λ (xs : List Word). fold_all (combined by v.width) v.bits (map pair xs)) (take_rest (w ∷ ws) 1))
    ∙ ap (λ (u : Word). bits u.width (fold_all (combined by u.width) u.bits (map pair ws))) i
    ∙ fold_is by w (map pair ws)

-- the operators that are left where those with functions of their own are taken out
pub others_take_two : (op : BvOp) → (op ≡ bv.Add → ⊥) → (op ≡ bv.Mul → ⊥) → (op ≡ bv.And → ⊥) → (op ≡ bv.Or → ⊥) → (op ≡ bv.Xor → ⊥) → (op ≡ bv.Concat → ⊥) → (op ≡ bv.Neg → ⊥) → (op ≡ bv.Not → ⊥)
    → takes_two (form_of op) ≡ true
others_take_two bv.Add a m c o x j n i = absurd (a refl)
others_take_two bv.Mul a m c o x j n i = absurd (m refl)
others_take_two bv.And a m c o x j n i = absurd (c refl)
others_take_two bv.Or a m c o x j n i = absurd (o refl)
others_take_two bv.Xor a m c o x j n i = absurd (x refl)
others_take_two bv.Concat a m c o x j n i = absurd (j refl)
others_take_two bv.Neg a m c o x j n i = absurd (n refl)
others_take_two bv.Not a m c o x j n i = absurd (i refl)
others_take_two op a m c o x j n i = refl

pub others_test : (op : BvOp) → takes_two (form_of op) ≡ true → (op ≡ bv.Sub → ⊥) → (op ≡ bv.Div → ⊥) → (op ≡ bv.Rem → ⊥) → (op ≡ bv.Sdiv → ⊥) → (op ≡ bv.Srem → ⊥) → (op ≡ bv.Smod → ⊥) → (op ≡ bv.Shl → ⊥) → (op ≡ bv.Lshr → ⊥) → (op ≡ bv.Ashr → ⊥)
    → form_of op ≡ form.test
others_test bv.Sub h a b c d e f g i j = absurd (a refl)
others_test bv.Div h a b c d e f g i j = absurd (b refl)
others_test bv.Rem h a b c d e f g i j = absurd (c refl)
others_test bv.Sdiv h a b c d e f g i j = absurd (d refl)
others_test bv.Srem h a b c d e f g i j = absurd (e refl)
others_test bv.Smod h a b c d e f g i j = absurd (f refl)
others_test bv.Shl h a b c d e f g i j = absurd (g refl)
others_test bv.Lshr h a b c d e f g i j = absurd (i refl)
others_test bv.Ashr h a b c d e f g i j = absurd (j refl)
others_test bv.Add h a b c d e f g i j = absurd (false≢true h)
others_test bv.Mul h a b c d e f g i j = absurd (false≢true h)
others_test bv.And h a b c d e f g i j = absurd (false≢true h)
others_test bv.Or h a b c d e f g i j = absurd (false≢true h)
others_test bv.Xor h a b c d e f g i j = absurd (false≢true h)
others_test bv.Concat h a b c d e f g i j = absurd (false≢true h)
others_test bv.Neg h a b c d e f g i j = absurd (false≢true h)
others_test bv.Not h a b c d e f g i j = absurd (false≢true h)
others_test op h a b c d e f g i j = refl

pub no_others : (op : BvOp) → form_of op ≡ form.test → (op ≡ bv.Ge → ⊥) → (op ≡ bv.Gt → ⊥) → (op ≡ bv.Le → ⊥) → (op ≡ bv.Lt → ⊥) → (op ≡ bv.Sge → ⊥) → (op ≡ bv.Sgt → ⊥) → (op ≡ bv.Sle → ⊥) → (op ≡ bv.Slt → ⊥) → ⊥
no_others bv.Ge h a b c d e f g i = a refl
no_others bv.Gt h a b c d e f g i = b refl
no_others bv.Le h a b c d e f g i = c refl
no_others bv.Lt h a b c d e f g i = d refl
no_others bv.Sge h a b c d e f g i = e refl
no_others bv.Sgt h a b c d e f g i = f refl
no_others bv.Sle h a b c d e f g i = g refl
no_others bv.Slt h a b c d e f g i = i refl
no_others op h a b c d e f g i = cc h

-- the operator with numbers takes them with the word
abbrev pub TakesAt : BvAtOp → ℕ → ℕ → Word → Type 0
TakesAt op i j w = misfit_of (tree.bit_vector_at op i j) (bit_vector w.width ∷ []) ≡ None

unless_none : (b : Bool) (m : Misfit) → unless b m ≡ None → b ≡ true
unless_none true m h = refl
unless_none false m h = absurd (cc h)

pub takes_part : (i j : ℕ) (w : Word) → TakesAt bv_at.Extract i j w → (j ≤ i) × (i < w.width)
takes_part i j w h =
    let p = and_parts (nat_le j i) (nat_lt i w.width) (unless_none (nat_le j i && nat_lt i w.width) bad_range h) in
    (leb-true j i p.0, ltb-true i w.width p.1)

pub takes_signs : (i j : ℕ) (w : Word) → TakesAt bv_at.SignExtend i j w → w.width + i ≤ 128
takes_signs i j w h = leb-true (w.width + i) 128 (unless_none (nat_le (w.width + i) 128) (bad_width (told_width (w.width + i))) h)

pub takes_zeros : (i j : ℕ) (w : Word) → TakesAt bv_at.ZeroExtend i j w → w.width + i ≤ 128
takes_zeros i j w h = leb-true (w.width + i) 128 (unless_none (nat_le (w.width + i) 128) (bad_width (told_width (w.width + i))) h)

-- one value, by its width and its number
pub one_value : (r : Word) (n a : ℕ) → r.width ≡ n → r.bits ≡ a → bits_pair (pair r) ≡ bits n a
one_value r n a e f = ap (λ k. bits k r.bits) e ∙ ap (bits n) f
