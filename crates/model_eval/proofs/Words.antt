-- Bit-vectors as values of terms, and operators on them.
use Rattle.std.proofs.Common.{◌≡◌, ◌∙◌, ◌++◌, ◌+◌, ◌^◌, ◌<◌, ◌≤◌, ℕ, zero, suc, true, false, List, [], ◌∷◌, Option, Some, None, length, map, take, get_or, refl, sym, ap, subst}
use Rattle.std.specs.Prelude.{nat_le, nat_lt, ◌==◌}
use Rattle.std.specs.List.{list_all}
use Rattle.std.specs.Map.{lookup}
use Rattle.std.proofs.lemmas.Option.{same_Some}
use Rattle.std.proofs.lemmas.List.{map_more, map-append, take_all}
use Rattle.std.proofs.lemmas.Bool.{and_parts, eqb-true, leb-true}
use Rattle.std.proofs.lemmas.Bool.Decides.{Decides-ltb}
use Rattle.y_tree.specs.declared.BvOp.{BvOp}
use Rattle.y_tree.specs.declared.BvAtOp.{BvAtOp}
use Rattle.y_tree.specs.Sorts.{Sort, Sorts, boolean, real, bit_vector, uninterpreted, is_width, is_sort}
use Rattle.y_tree.specs.Sorts as sort
use Rattle.y_tree.specs.Values.{Value, truth, number, bits, element, function, has_sort}
use Rattle.y_tree.specs.Order.{is_formed}
use Rattle.y_tree.specs.Tree as tree
use Rattle.y_tree.specs.Typing.{BvForm, typed, typed_bits, form_of, widths, with_width}
use Rattle.y_tree.specs.Meaning.{bits_of}
use Rattle.y_tree.specs.Misfits.{misfit_of}
use Rattle.y_tree.specs.Plain.{plain_value, plain_function}
use Rattle.y_tree.specs.declared.values.Value as code
use Rattle.y_tree.specs.declared.values.Value.{out-Value, roll-Value, roll-out-Value}
use Rattle.y_tree.specs.declared.values.Value.TheOpen.{Value-F}
use Rattle.y_tree.specs.declared.values.Value.TheVariants as code_of
use Rattle.y_tree.specs.declared.values.Entry.{Entry}
use Rattle.y_tree.specs.declared.values.FunValue.{FunValue}
use Rattle.y_tree.proofs.Shapes.{plain_bool, plain_real, plain_bv, plain_elem, plain_fun}
use Rattle.y_tree.proofs.Fits.{fits_are_typed}
use Rattle.bit_arithmetic.specs.declared.words.Word.{Word}
use Rattle.bit_arithmetic.specs.declared.words.Outcome.{Outcome}
use Rattle.bit_arithmetic.specs.declared.words.Outcome.TheVariants as outcome
use Rattle.bit_arithmetic.specs.Plain.{pair, plain, type_of}
use Rattle.term_shapes.specs.declared.handles.Term.{Term}
use Rattle.model_eval.specs.Known.{same_term, or_false, found, IsKnown, AreKnown}
use Rattle.model_eval.specs.Words.{IsWordOf, IsWord, AreWords, TakesWords}

-- a bit-vector as its width and number
pub word_value : (n a : ℕ) → IsWord (bits n a) → IsWordOf n a
unfolding has_sort
word_value n a w =
    let p = and_parts (n == w.width) (nat_lt a (2 ^ w.width)) w.has in
    let same : n ≡ w.width = eqb-true n w.width p.0 in
    record { limits = subst (λ z. is_width z ≡ true) (sym same) w.limits; below = subst (λ z. a < 2 ^ z) (sym same) ((Decides-ltb a (2 ^ w.width)).0 p.1) }

pub width_within : (n a : ℕ) → IsWordOf n a → (1 ≤ n) × (n ≤ 128) × (a < 2 ^ n)
width_within n a w =
    let p = and_parts (nat_le 1 n) (nat_le n 128) w.limits in
    (leb-true 1 n p.0, leb-true n 128 p.1, w.below)

-- the value of the code is the bit-vector of that width and number
pub bits_word : (v : code.Value) (n a : ℕ) → v ≡ code_of.Bv n a → IsWord (plain_value v) → IsWordOf n a
bits_word v n a e w = word_value n a (subst IsWord (ap plain_value e ∙ plain_bv n a) w)

-- other values are no bit-vectors
no_word : (v : Value) → ((n a : ℕ) → v ≡ bits n a → ⊥) → IsWord v → ⊥
unfolding has_sort
no_word (truth b) h w = cc w.has
no_word (number q) h w = cc w.has
no_word (bits n a) h w = h n a refl
no_word (element k a) h w = cc w.has
no_word (function es v) h w = cc w.has

pub no_bits : (v : code.Value) → ((n a : ℕ) → v ≡ code_of.Bv n a → ⊥) → IsWord (plain_value v) → ⊥
no_bits v h w = by (out-Value v) (roll-out-Value v)
  where
    as_plain : (u : code.Value) (p : Value) → u ≡ v → plain_value u ≡ p → ((n a : ℕ) → p ≡ bits n a → ⊥) → ⊥
    as_plain u p e q other = no_word p other (subst IsWord (ap plain_value (sym e) ∙ q) w)

    by : (l : Value-F code.Value Entry FunValue) → roll-Value l ≡ v → ⊥
    by (Value-F.Bool b) e = as_plain (code_of.Bool b) (truth b) (sym (code_of.rolls-Bool b) ∙ e) (plain_bool b) (λ n a q. cc q)
    by (Value-F.Real r) e = as_plain (code_of.Real r) (number r) (sym (code_of.rolls-Real r) ∙ e) (plain_real r) (λ n a q. cc q)
    by (Value-F.Bv n a) e = h n a (sym e ∙ code_of.rolls-Bv n a)
    by (Value-F.Elem k a) e = as_plain (code_of.Elem k a) (element k a) (sym (code_of.rolls-Elem k a) ∙ e) (plain_elem k a) (λ n b q. cc q)
    by (Value-F.Fun f) e = as_plain (code_of.Fun f) (plain_function f) (sym (code_of.rolls-Fun f) ∙ e) (plain_fun f) (λ n a q. cc q)

-- what has no value is none
pub none_word : (es : List (Term × code.Value)) (t : Term) → None ≡ lookup (same_term t) es → IsWord (found es t) → ⊥
unfolding found
none_word es t e w = no_word (truth false) (λ n a q. cc q) (subst IsWord (ap or_false (sym e)) w)

-- a bit-vector type in front of others
with_parts : (s : Sort) (o : Option (List ℕ)) (ns : List ℕ) → with_width s o ≡ Some ns → (n : ℕ) × (s ≡ bit_vector n) × ((ms : List ℕ) × (o ≡ Some ms))
with_parts (bit_vector n) (Some ms) ns e = (n, refl, (ms, refl))
with_parts (bit_vector n) None ns e = absurd (cc e)
with_parts boolean o ns e = absurd (cc e)
with_parts real o ns e = absurd (cc e)
with_parts (uninterpreted k) o ns e = absurd (cc e)
with_parts (sort.function domain result) o ns e = absurd (cc e)

some_widths : (form : BvForm) (o : Option (List ℕ)) (k : Sort) → typed_bits form o ≡ Some k → (ns : List ℕ) × (o ≡ Some ns)
some_widths form None k e = absurd (cc e)
some_widths form (Some ns) k e = (ns, refl)

known_word : (es : List (Term × code.Value)) (t : Term) (s : Sort) (n : ℕ) → s ≡ bit_vector n → is_sort s ≡ true → IsKnown es t s → IsWord (found es t)
known_word es t s n e lim known = record {
  width = n;
  limits = subst (λ z. is_sort z ≡ true) e lim;
  has = subst (λ z. has_sort (found es t) z ≡ true) e known.has;
}

words_by : (es : List (Term × code.Value)) (ts : List Term) (ss : List Sort) (ns : List ℕ) → widths ss ≡ Some ns → AreKnown es ts ss → list_all is_sort ss ≡ true → AreWords es ts
words_by es [] ss ns e known lim i t at = absurd (cc at)
words_by es (u ∷ ts) [] ns e known lim i t at = absurd known
words_by es (u ∷ ts) (s ∷ ss) ns e known lim zero t at =
    let p = with_parts s (widths ss) ns e in
    subst (λ z. IsWord (found es z)) (same_Some u t at) (known_word es u s p.0 p.1 (and_parts (is_sort s) (list_all is_sort ss) lim).0 known.0)
words_by es (u ∷ ts) (s ∷ ss) ns e known lim (suc i) t at =
    let p = with_parts s (widths ss) ns e in
    words_by es ts ss p.2.0 p.2.1 known.1 (and_parts (is_sort s) (list_all is_sort ss) lim).1 i t at

-- an operator's arguments are bit-vectors
pub are_words : (es : List (Term × code.Value)) (op : BvOp) (ts : List Term) → TakesWords es (tree.bit_vector op) ts → AreWords es ts
are_words es op ts r = let p = some_widths (form_of op) (widths r.sorts) r.result r.takes in words_by es ts r.sorts p.0 p.1 r.known r.limits

-- the width of a bit-vector of a type
width_is : (v : Value) (n : ℕ) → has_sort v (bit_vector n) ≡ true → (bits_of v).0 ≡ n
unfolding has_sort
width_is (bits m a) n h = eqb-true m n (and_parts (m == n) (nat_lt a (2 ^ n)) h).0
width_is (truth b) n h = absurd (cc h)
width_is (number q) n h = absurd (cc h)
width_is (element k a) n h = absurd (cc h)
width_is (function es v) n h = absurd (cc h)

type_is : (es : List (Term × code.Value)) (w : Word) (t : Term) (s : Sort) (n : ℕ) → s ≡ bit_vector n → IsKnown es t s → pair w ≡ bits_of (found es t) → type_of w ≡ s
type_is es w t s n e known is =
    ap bit_vector (ap (λ (p : ℕ × ℕ). p.0) is ∙ width_is (found es t) n (subst (λ z. has_sort (found es t) z ≡ true) e known.has)) ∙ sym e

types_are : (es : List (Term × code.Value)) (ws : List Word) (ts : List Term) (ss : List Sort) (ns : List ℕ) → map pair ws ≡ map bits_of (map (found es) ts) → AreKnown es ts ss → widths ss ≡ Some ns → map type_of ws ≡ ss
types_are es [] [] [] ns is known e = refl
types_are es [] [] (s ∷ ss) ns is known e = absurd known
types_are es [] (t ∷ ts) ss ns is known e = absurd (cc is)
types_are es (w ∷ ws) [] ss ns is known e = absurd (cc is)
types_are es (w ∷ ws) (t ∷ ts) [] ns is known e = absurd known
types_are es (w ∷ ws) (t ∷ ts) (s ∷ ss) ns is known e =
    let p = with_parts s (widths ss) ns e in
    let none : ℕ × ℕ = (0, 0) in
    let first : pair w ≡ bits_of (found es t) = ap (λ (l : List (ℕ × ℕ)). get_or l 0 none) is in
    ap (λ z. z ∷ map type_of ws) (type_is es w t s p.0 p.1 known.0 first)
    ∙ ap (λ z. s ∷ z) (types_are es ws ts ss p.2.0 (ap behind is) known.1 p.2.1)
  where
    behind : List (ℕ × ℕ) → List (ℕ × ℕ)
    behind [] = []
    behind (x ∷ xs) = xs

-- nothing is wrong with the words of an operator's arguments
pub words_fit : (es : List (Term × code.Value)) (op : BvOp) (ts : List Term) (ws : List Word) → TakesWords es (tree.bit_vector op) ts → map pair ws ≡ map bits_of (map (found es) ts) → misfit_of (tree.bit_vector op) (map type_of ws) ≡ None
words_fit es op ts ws r is =
    let p = some_widths (form_of op) (widths r.sorts) r.result r.takes in
    subst (λ z. misfit_of (tree.bit_vector op) z ≡ None) (sym (types_are es ws ts r.sorts p.0 is r.known p.1))
    ((fits_are_typed (tree.bit_vector op) r.sorts refl).1 (r.result, r.takes))

-- the same of an operator with numbers
record IsOne (es : List (Term × code.Value)) (op : BvAtOp) (i j : ℕ) (t : Term) : Type 0 where
  width : ℕ
  known : IsKnown es t (bit_vector width)
  limits : is_width width ≡ true
  result : Sort
  takes : typed (tree.bit_vector_at op i j) (bit_vector width ∷ []) ≡ Some result

one_by : (es : List (Term × code.Value)) (op : BvAtOp) (i j : ℕ) (t : Term) (ss : List Sort) (k : Sort) → AreKnown es (t ∷ []) ss → list_all is_sort ss ≡ true → typed (tree.bit_vector_at op i j) ss ≡ Some k → IsOne es op i j t
one_by es op i j t [] k known lim e = absurd known
one_by es op i j t (bit_vector n ∷ []) k known lim e = record { width = n; known = known.0; limits = (and_parts (is_width n) true lim).0; result = k; takes = e }
one_by es op i j t (boolean ∷ []) k known lim e = absurd (cc e)
one_by es op i j t (real ∷ []) k known lim e = absurd (cc e)
one_by es op i j t (uninterpreted n ∷ []) k known lim e = absurd (cc e)
one_by es op i j t (sort.function domain result ∷ []) k known lim e = absurd (cc e)
one_by es op i j t (s ∷ l ∷ ss) k known lim e = absurd known.1

one : (es : List (Term × code.Value)) (op : BvAtOp) (i j : ℕ) (t : Term) → TakesWords es (tree.bit_vector_at op i j) (t ∷ []) → IsOne es op i j t
one es op i j t r = one_by es op i j t r.sorts r.result r.known r.limits r.takes

pub is_word_at : (es : List (Term × code.Value)) (op : BvAtOp) (i j : ℕ) (t : Term) → TakesWords es (tree.bit_vector_at op i j) (t ∷ []) → IsWord (found es t)
is_word_at es op i j t r = let o = one es op i j t r in record { width = o.width; limits = o.limits; has = o.known.has }

pub word_fits : (es : List (Term × code.Value)) (op : BvAtOp) (i j : ℕ) (t : Term) (w : Word) → TakesWords es (tree.bit_vector_at op i j) (t ∷ []) → pair w ≡ bits_of (found es t) → misfit_of (tree.bit_vector_at op i j) (bit_vector w.width ∷ []) ≡ None
word_fits es op i j t w r is =
    let o = one es op i j t r in
    subst (λ z. misfit_of (tree.bit_vector_at op i j) (z ∷ []) ≡ None) (sym (type_is es w t (bit_vector o.width) o.width refl o.known is))
    ((fits_are_typed (tree.bit_vector_at op i j) (bit_vector o.width ∷ []) refl).1 (o.result, o.takes))

-- outcomes have no keys
pub outcome_formed : (v : Value) (o : Outcome) → v ≡ plain o → is_formed v ≡ true
outcome_formed v (outcome.Bits w) e = ap is_formed e
outcome_formed v (outcome.Truth b) e = ap is_formed e

-- the words of one term more
module _ (f : Term → Value) (ts : List Term) (i : ℕ) (d : Term) (ws : List Word) (known : map pair ws ≡ map bits_of (map f (take i ts))) where
  pub words_more : (t : Term) (new : List Word) (w : Word) → i < length ts → t ≡ get_or ts i d → pair w ≡ bits_of (f t) → new ≡ ws ++ w ∷ [] → map pair new ≡ map bits_of (map f (take (i + 1) ts))
  words_more t new w small at is e =
      ap (map pair) e ∙ map-append pair ws (w ∷ []) ∙ ap (λ ys. ys ++ pair w ∷ []) known
      ∙ ap (λ y. map bits_of (map f (take i ts)) ++ y ∷ []) (is ∙ ap (λ z. bits_of (f z)) at)
      ∙ sym (ap (map bits_of) (map_more f ts i d small) ∙ map-append bits_of (map f (take i ts)) (f (get_or ts i d) ∷ []))

  pub words_done : length ts ≤ i → map pair ws ≡ map bits_of (map f ts)
  words_done done = known ∙ ap (λ z. map bits_of (map f z)) (take_all i ts done)
