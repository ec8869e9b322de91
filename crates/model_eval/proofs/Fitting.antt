-- Which values are those of sorts, entry by entry.
use Rattle.std.proofs.Common.{◌≡◌, ◌≢◌, ◌∙◌, ◌+◌, ◌*◌, ◌%◌, ◌^◌, ◌<◌, ◌≤◌, ◌&&◌, ℕ, suc, Bool, true, false, List, [], ◌∷◌, Some, None, length, drop, get_or, refl, sym, ap, arith}
use Rattle.std.specs.Prelude.{nat_lt}
use Rattle.std.specs.Option.{SomeIff}
use Rattle.std.proofs.lemmas.Bool.{lt-ltb}
use Rattle.y_tree.proofs.Sizes.{power_counted}
use Rattle.std.proofs.lemmas.List.{at_drop_more, at_drop_all}
use Rattle.y_tree.specs.declared.sorts.Sort.{Sort}
use Rattle.y_tree.specs.declared.values.Value.{Value}
use Rattle.y_tree.specs.declared.values.Entry.{Entry}
use Rattle.y_tree.specs.declared.values.FunValue.{FunValue, out-FunValue}
use Rattle.y_tree.specs.declared.sorts.Sort.TheVariants as code_sort
use Rattle.y_tree.specs.declared.values.Value.TheVariants as code
use Rattle.y_tree.proofs.Shapes.{plain_fun, plain_sort_fun}
use Rattle.y_tree.specs.Sorts as sort
use Rattle.y_tree.specs.Values.{has_sort, have_sorts, have_sort}
use Rattle.y_tree.specs.Plain.{plain_sort, plain_sorts, plain_value, plain_values, plain_entry, plain_entries, plain_function}

module _ (es : List Entry) (i : ℕ) (d : Entry) (domain : sort.Sorts) (result : sort.Sort) (within : i < length es) where
  abbrev from : List Entry → Bool
  from r = have_sort (plain_entries r) domain result

  abbrev here : Bool
  here = have_sorts (plain_entry (get_or es i d)).0 domain && has_sort (plain_entry (get_or es i d)).1 result

  step : from (drop i es) ≡ (here && from (drop (i + 1) es))
  unfolding has_sort
  step = at_drop_more from es i d within

  pub entries_skip : (b : Bool) → b ≡ here → b ≡ true → from (drop i es) ≡ from es → from (drop (i + 1) es) ≡ from es
  entries_skip b is e known = sym (ap (λ x. x && from (drop (i + 1) es)) (sym is ∙ e)) ∙ sym step ∙ known

  pub entries_stop : (b : Bool) → b ≡ here → b ≡ false → from (drop i es) ≡ from es → false ≡ from es
  entries_stop b is e known = sym (ap (λ x. x && from (drop (i + 1) es)) (sym is ∙ e)) ∙ sym step ∙ known

pub entries_ended : (es : List Entry) (i : ℕ) (domain : sort.Sorts) (result : sort.Sort) → length es ≤ i → have_sort (plain_entries (drop i es)) domain result ≡ have_sort (plain_entries es) domain result → true ≡ have_sort (plain_entries es) domain result
unfolding has_sort
entries_ended es i domain result h known = sym (at_drop_all (λ r. have_sort (plain_entries r) domain result) es i h) ∙ known

abbrev fit : List Value → List Sort → Bool
fit vs ss = have_sorts (plain_values vs) (plain_sorts ss)

pub unequal_lengths : (vs : List Value) (ss : List Sort) → length vs ≢ length ss → fit vs ss ≡ false
unfolding has_sort
unequal_lengths [] [] h = absurd (h refl)
unequal_lengths [] (s ∷ ss) h = refl
unequal_lengths (v ∷ vs) [] h = refl
unequal_lengths (v ∷ vs) (s ∷ ss) h =
    elim (has_sort (plain_value v) (plain_sort s)) as (λ b. (b && fit vs ss) ≡ false) [ true ↦ unequal_lengths vs ss (λ e. h (ap suc e)) | false ↦ refl ]

pub sorts_step : (vs : List Value) (ss : List Sort) (i : ℕ) (d : Value) (e : Sort) → i < length vs → i < length ss
    → fit (drop i vs) (drop i ss) ≡ (has_sort (plain_value (get_or vs i d)) (plain_sort (get_or ss i e)) && fit (drop (i + 1) vs) (drop (i + 1) ss))
unfolding has_sort
sorts_step vs ss i d e h k = at_drop_more (λ r. fit r (drop i ss)) vs i d h ∙ at_drop_more (λ r. fit (get_or vs i d ∷ drop (i + 1) vs) r) ss i e k

pub sorts_end : (vs : List Value) (ss : List Sort) (i : ℕ) → length vs ≤ i → length ss ≤ i → fit (drop i vs) (drop i ss) ≡ true
unfolding has_sort
sorts_end vs ss i h k = at_drop_all (λ r. fit r (drop i ss)) vs i h ∙ at_drop_all (λ r. fit [] r) ss i k

-- a power of at most 128 bits, and any other
pub below_some : (bits n limit : ℕ) → SomeIff (Some limit) (n < 128) ((1 * 2 ^ n) % 2 ^ 128) → nat_lt bits limit ≡ nat_lt bits (2 ^ n)
below_some bits n limit h = ap (nat_lt bits) (power_counted n (Some limit) h)

pub below_all : (bits n : ℕ) → bits < 2 ^ 128 → SomeIff None (n < 128) ((1 * 2 ^ n) % 2 ^ 128) → true ≡ nat_lt bits (2 ^ n)
below_all bits n small h =
    let large : 2 ^ 128 ≤ 2 ^ n = power_counted n None h in
    let below : bits < 2 ^ n = omega (arith, small, large) in
    sym (lt-ltb bits (2 ^ n) below)

-- a pair of a value and a sort that was passed, or that doesn't fit
module _ (vs : List Value) (ss : List Sort) (i : ℕ) (d x : Value) (e y : Sort) (b : Bool) (x_is : x ≡ get_or vs i d) (y_is : y ≡ get_or ss i e) (is : b ≡ has_sort (plain_value x) (plain_sort y)) (h : i < length vs) (k : i < length ss) (known : fit vs ss ≡ fit (drop i vs) (drop i ss)) where
  here_is : b ≡ has_sort (plain_value (get_or vs i d)) (plain_sort (get_or ss i e))
  here_is = is ∙ ap (λ z. has_sort (plain_value z) (plain_sort y)) x_is ∙ ap (λ z. has_sort (plain_value (get_or vs i d)) (plain_sort z)) y_is

  pub fits_stop : b ≡ false → false ≡ fit vs ss
  fits_stop no_fit = sym (known ∙ sorts_step vs ss i d e h k ∙ ap (λ z. z && fit (drop (i + 1) vs) (drop (i + 1) ss)) (sym here_is ∙ no_fit))

  pub fits_skip : b ≡ true → fit vs ss ≡ fit (drop (i + 1) vs) (drop (i + 1) ss)
  fits_skip fits_here = known ∙ sorts_step vs ss i d e h k ∙ ap (λ z. z && fit (drop (i + 1) vs) (drop (i + 1) ss)) (sym here_is ∙ fits_here)

-- a function is one of a function type where its entries and its value elsewhere are
module _ (v : Value) (s : Sort) (f : FunValue) (domain : List Sort) (codomain : Sort) (is : v ≡ code.Fun f) (of : s ≡ code_sort.Fun domain codomain) where
  parts : has_sort (plain_value v) (plain_sort s) ≡ (have_sort (plain_entries (out-FunValue f).entries.items) (plain_sorts domain) (plain_sort codomain) && has_sort (plain_value (out-FunValue f).default_value) (plain_sort codomain))
  unfolding has_sort
  parts =
      ap (λ x. has_sort (plain_value x) (plain_sort s)) is ∙ ap (λ x. has_sort x (plain_sort s)) (plain_fun f)
      ∙ ap (λ x. has_sort (plain_function f) (plain_sort x)) of ∙ ap (has_sort (plain_function f)) (plain_sort_fun domain codomain)

  module _ (es : List Entry) (ds : List Sort) (r : Sort) (a : Bool) (entries_are : es ≡ (out-FunValue f).entries.items) (domain_is : ds ≡ domain) (result_is : r ≡ codomain) (fit_entries : a ≡ have_sort (plain_entries es) (plain_sorts ds) (plain_sort r)) where
    entries_fit : a ≡ have_sort (plain_entries (out-FunValue f).entries.items) (plain_sorts domain) (plain_sort codomain)
    entries_fit =
        fit_entries ∙ ap (λ z. have_sort (plain_entries z) (plain_sorts ds) (plain_sort r)) entries_are
        ∙ ap (λ z. have_sort (plain_entries (out-FunValue f).entries.items) (plain_sorts z) (plain_sort r)) domain_is
        ∙ ap (λ z. have_sort (plain_entries (out-FunValue f).entries.items) (plain_sorts domain) (plain_sort z)) result_is

    pub function_stops : a ≡ false → a ≡ has_sort (plain_value v) (plain_sort s)
    function_stops e = e ∙ ap (λ z. z && has_sort (plain_value (out-FunValue f).default_value) (plain_sort codomain)) (sym e ∙ entries_fit) ∙ sym parts

    pub function_goes_on : (d : Value) (q : Sort) (b : Bool) → d ≡ (out-FunValue f).default_value → q ≡ codomain → b ≡ has_sort (plain_value d) (plain_sort q) → a ≡ true → b ≡ has_sort (plain_value v) (plain_sort s)
    function_goes_on d q b default_is last_is fits all =
        fits ∙ ap (λ z. has_sort (plain_value z) (plain_sort q)) default_is
        ∙ ap (λ z. has_sort (plain_value (out-FunValue f).default_value) (plain_sort z)) last_is
        ∙ ap (λ z. z && has_sort (plain_value (out-FunValue f).default_value) (plain_sort codomain)) (sym all ∙ entries_fit) ∙ sym parts
