-- A value that is told apart from those of other types.
use Rattle.std.proofs.Common.{◌≡◌, ◌∙◌, ◌&&◌, ◌==◌, ◌^◌, Bool, true, false, cond, refl, sym, ap}
use Rattle.std.specs.Prelude.{nat_lt}
use Rattle.std.proofs.lemmas.Bool.{and_parts, and_from, eqb-true}
use Rattle.y_tree.specs.Sorts.{Sort, Sorts, boolean, real, bit_vector, uninterpreted, is_sort, is_simple, are_simple}
use Rattle.y_tree.specs.Sorts as sort
use Rattle.y_tree.specs.Values.{Value, Values, Entries, truth, number, bits, element, function, none, more, empty, entry, has_sort, have_sorts, have_sort, same_value, zero_of, value_at, call, equal_all, is_flat}
use Rattle.y_tree.proofs.Sorted.{zero_sorted}
use Rattle.y_tree.proofs.Equivalence.{equivalence, alike, domain_simple, result_simple}
use Rattle.model_eval.specs.Models.{zeros, marked, shown}

pub zeros_sorted : (ss : Sorts) → have_sorts (zeros ss) ss ≡ true
unfolding has_sort zeros
zeros_sorted sort.none = refl
zeros_sorted (sort.more s ss) = and_from (has_sort (zero_of s) s) (have_sorts (zeros ss) ss) (zero_sorted s) (zeros_sorted ss)

marked_has : (domain : Sorts) (result : Sort) (v : Value) → has_sort v (sort.function domain result) ≡ true → has_sort (marked domain v) (sort.function domain result) ≡ true
unfolding has_sort
marked_has domain result (function empty v) h =
    let p = and_parts true (has_sort v result) h in
    and_from (have_sorts (zeros domain) domain && has_sort v result && true) (has_sort v result)
    (and_from (have_sorts (zeros domain) domain && has_sort v result) true (and_from (have_sorts (zeros domain) domain) (has_sort v result) (zeros_sorted domain) p.1) refl) p.1
marked_has domain result (function (entry k x es) v) h = h
marked_has domain result (truth b) h = h
marked_has domain result (number q) h = h
marked_has domain result (bits n a) h = h
marked_has domain result (element k a) h = h

pub shown_has : (k : Sort) (v : Value) → has_sort v k ≡ true → has_sort (shown k v) k ≡ true
shown_has (sort.function domain result) v h = marked_has domain result v h
shown_has boolean v h = h
shown_has real v h = h
shown_has (bit_vector n) v h = h
shown_has (uninterpreted n) v h = h

-- an entry with the value elsewhere changes nothing
one_value : (key k : Values) (v : Value) → value_at (entry key v empty) v k ≡ v
unfolding value_at
one_value key k v = by (equal_all key k)
  where
    by : (b : Bool) → cond b v v ≡ v
    by true = refl
    by false = refl

marked_call : (domain : Sorts) (v : Value) (key : Values) → call v key ≡ call (marked domain v) key
unfolding value_at
marked_call domain (function empty v) key = sym (one_value (zeros domain) key v)
marked_call domain (function (entry k x es) v) key = refl
marked_call domain (truth b) key = refl
marked_call domain (number q) key = refl
marked_call domain (bits n a) key = refl
marked_call domain (element k a) key = refl

pub shown_same : (k : Sort) (v : Value) → is_sort k ≡ true → has_sort v k ≡ true → same_value k v (shown k v) ≡ true
shown_same (sort.function domain result) v lim h =
    alike domain result v (marked domain v) (record { limits = lim; left = h; right = marked_has domain result v h }) (λ key k. marked_call domain v key)
shown_same boolean v lim h = (equivalence boolean lim).itself v h
shown_same real v lim h = (equivalence real lim).itself v h
shown_same (bit_vector n) v lim h = (equivalence (bit_vector n) lim).itself v h
shown_same (uninterpreted n) v lim h = (equivalence (uninterpreted n) lim).itself v h

-- a value that is no function has one sort
flat_only : (v : Value) (k l : Sort) → is_simple k ≡ true → is_simple l ≡ true → has_sort v k ≡ true → has_sort v l ≡ true → k ≡ l
unfolding has_sort
flat_only (truth b) boolean boolean d e h g = refl
flat_only (number q) real real d e h g = refl
flat_only (bits m a) (bit_vector n) (bit_vector l) d e h g =
    let p = and_parts (m == n) (nat_lt a (2 ^ n)) h in
    let q = and_parts (m == l) (nat_lt a (2 ^ l)) g in
    ap bit_vector (sym (eqb-true m n p.0) ∙ eqb-true m l q.0)
flat_only (element m a) (uninterpreted n) (uninterpreted l) d e h g = ap uninterpreted (sym (eqb-true m n h) ∙ eqb-true m l g)
flat_only (function es v) boolean l d e h g = absurd (cc h)
flat_only (function es v) real l d e h g = absurd (cc h)
flat_only (function es v) (bit_vector n) l d e h g = absurd (cc h)
flat_only (function es v) (uninterpreted n) l d e h g = absurd (cc h)
flat_only v (sort.function domain result) l d e h g = absurd (cc d)
flat_only v k (sort.function domain result) d e h g = absurd (cc e)
flat_only (truth b) real l d e h g = absurd (cc h)
flat_only (truth b) (bit_vector n) l d e h g = absurd (cc h)
flat_only (truth b) (uninterpreted n) l d e h g = absurd (cc h)
flat_only (truth b) boolean real d e h g = absurd (cc g)
flat_only (truth b) boolean (bit_vector n) d e h g = absurd (cc g)
flat_only (truth b) boolean (uninterpreted n) d e h g = absurd (cc g)
flat_only (number q) boolean l d e h g = absurd (cc h)
flat_only (number q) (bit_vector n) l d e h g = absurd (cc h)
flat_only (number q) (uninterpreted n) l d e h g = absurd (cc h)
flat_only (number q) real boolean d e h g = absurd (cc g)
flat_only (number q) real (bit_vector n) d e h g = absurd (cc g)
flat_only (number q) real (uninterpreted n) d e h g = absurd (cc g)
flat_only (bits m a) boolean l d e h g = absurd (cc h)
flat_only (bits m a) real l d e h g = absurd (cc h)
flat_only (bits m a) (uninterpreted n) l d e h g = absurd (cc h)
flat_only (bits m a) (bit_vector n) boolean d e h g = absurd (cc g)
flat_only (bits m a) (bit_vector n) real d e h g = absurd (cc g)
flat_only (bits m a) (bit_vector n) (uninterpreted l) d e h g = absurd (cc g)
flat_only (element m a) boolean l d e h g = absurd (cc h)
flat_only (element m a) real l d e h g = absurd (cc h)
flat_only (element m a) (bit_vector n) l d e h g = absurd (cc h)
flat_only (element m a) (uninterpreted n) boolean d e h g = absurd (cc g)
flat_only (element m a) (uninterpreted n) real d e h g = absurd (cc g)
flat_only (element m a) (uninterpreted n) (bit_vector l) d e h g = absurd (cc g)

keys_only : (vs : Values) (ks ls : Sorts) → are_simple ks ≡ true → are_simple ls ≡ true → have_sorts vs ks ≡ true → have_sorts vs ls ≡ true → ks ≡ ls
unfolding has_sort are_simple
keys_only none sort.none sort.none d e h g = refl
keys_only none sort.none (sort.more l ls) d e h g = absurd (cc g)
keys_only none (sort.more k ks) ls d e h g = absurd (cc h)
keys_only (more v vs) sort.none ls d e h g = absurd (cc h)
keys_only (more v vs) (sort.more k ks) sort.none d e h g = absurd (cc g)
keys_only (more v vs) (sort.more k ks) (sort.more l ls) d e h g =
    let hp = and_parts (has_sort v k) (have_sorts vs ks) h in
    let gp = and_parts (has_sort v l) (have_sorts vs ls) g in
    let dp = and_parts (is_simple k) (are_simple ks) d in
    let ep = and_parts (is_simple l) (are_simple ls) e in
    ap (λ z. sort.more z ks) (flat_only v k l dp.0 ep.0 hp.0 gp.0) ∙ ap (sort.more l) (keys_only vs ks ls dp.1 ep.1 hp.1 gp.1)

-- a function with an entry has one sort
entries_only : (k : Values) (x : Value) (es : Entries) (v : Value) (d e : Sorts) (p q : Sort) → is_sort (sort.function d p) ≡ true → is_sort (sort.function e q) ≡ true
    → has_sort (function (entry k x es) v) (sort.function d p) ≡ true → has_sort (function (entry k x es) v) (sort.function e q) ≡ true → sort.function d p ≡ sort.function e q
unfolding has_sort
entries_only k x es v d e p q dl el h g =
    let h0 = and_parts (have_sorts k d && has_sort x p && have_sort es d p) (has_sort v p) h in
    let g0 = and_parts (have_sorts k e && has_sort x q && have_sort es e q) (has_sort v q) g in
    let h1 = and_parts (have_sorts k d && has_sort x p) (have_sort es d p) h0.0 in
    let g1 = and_parts (have_sorts k e && has_sort x q) (have_sort es e q) g0.0 in
    let h2 = and_parts (have_sorts k d) (has_sort x p) h1.0 in
    let g2 = and_parts (have_sorts k e) (has_sort x q) g1.0 in
    ap (λ z. sort.function z p) (keys_only k d e (domain_simple d p dl) (domain_simple e q el) h2.0 g2.0)
    ∙ ap (sort.function e) (flat_only v p q (result_simple d p dl) (result_simple e q el) h0.1 g0.1)

no_flat : (v : Value) (d : Sorts) (p : Sort) → is_flat v ≡ true → has_sort v (sort.function d p) ≡ true → ⊥
unfolding has_sort
no_flat (truth b) d p e h = cc h
no_flat (number q) d p e h = cc h
no_flat (bits n a) d p e h = cc h
no_flat (element n a) d p e h = cc h
no_flat (function es v) d p e h = cc e

marked_only : (v : Value) (d e : Sorts) (p q : Sort) → is_sort (sort.function d p) ≡ true → is_sort (sort.function e q) ≡ true
    → has_sort v (sort.function d p) ≡ true → has_sort (marked d v) (sort.function e q) ≡ true → sort.function d p ≡ sort.function e q
marked_only (function empty v) d e p q dl el h g = entries_only (zeros d) v empty v d e p q dl el (marked_has d p (function empty v) h) g
marked_only (function (entry k x es) v) d e p q dl el h g = entries_only k x es v d e p q dl el h g
marked_only (truth b) d e p q dl el h g = absurd (no_flat (truth b) d p refl h)
marked_only (number r) d e p q dl el h g = absurd (no_flat (number r) d p refl h)
marked_only (bits n a) d e p q dl el h g = absurd (no_flat (bits n a) d p refl h)
marked_only (element n a) d e p q dl el h g = absurd (no_flat (element n a) d p refl h)

-- a value of a simple sort is one of no function type
no_both : (v : Value) (k : Sort) (d : Sorts) (p : Sort) → is_simple k ≡ true → has_sort v k ≡ true → has_sort v (sort.function d p) ≡ true → ⊥
unfolding has_sort
no_both (truth b) k d p e h g = cc g
no_both (number q) k d p e h g = cc g
no_both (bits n a) k d p e h g = cc g
no_both (element n a) k d p e h g = cc g
no_both (function es v) boolean d p e h g = cc h
no_both (function es v) real d p e h g = cc h
no_both (function es v) (bit_vector n) d p e h g = cc h
no_both (function es v) (uninterpreted n) d p e h g = cc h
no_both (function es v) (sort.function c r) d p e h g = cc e

marked_simple : (v : Value) (d : Sorts) (p l : Sort) → is_simple l ≡ true → has_sort v (sort.function d p) ≡ true → has_sort (marked d v) l ≡ true → ⊥
marked_simple v d p l e h g = no_both (marked d v) l d p e g (marked_has d p v h)

-- the value is shown as one of its own sort alone
pub shown_only : (k l : Sort) (v : Value) → is_sort k ≡ true → is_sort l ≡ true → has_sort v k ≡ true → has_sort (shown k v) l ≡ true → k ≡ l
shown_only (sort.function d p) (sort.function e q) v kl ll h g = marked_only v d e p q kl ll h g
shown_only (sort.function d p) boolean v kl ll h g = absurd (marked_simple v d p boolean refl h g)
shown_only (sort.function d p) real v kl ll h g = absurd (marked_simple v d p real refl h g)
shown_only (sort.function d p) (bit_vector n) v kl ll h g = absurd (marked_simple v d p (bit_vector n) ll h g)
shown_only (sort.function d p) (uninterpreted n) v kl ll h g = absurd (marked_simple v d p (uninterpreted n) refl h g)
shown_only boolean (sort.function e q) v kl ll h g = absurd (no_both v boolean e q refl h g)
shown_only real (sort.function e q) v kl ll h g = absurd (no_both v real e q refl h g)
shown_only (bit_vector n) (sort.function e q) v kl ll h g = absurd (no_both v (bit_vector n) e q kl h g)
shown_only (uninterpreted n) (sort.function e q) v kl ll h g = absurd (no_both v (uninterpreted n) e q refl h g)
shown_only boolean boolean v kl ll h g = refl
shown_only boolean real v kl ll h g = flat_only v boolean real refl refl h g
shown_only boolean (bit_vector n) v kl ll h g = flat_only v boolean (bit_vector n) refl ll h g
shown_only boolean (uninterpreted n) v kl ll h g = flat_only v boolean (uninterpreted n) refl refl h g
shown_only real boolean v kl ll h g = flat_only v real boolean refl refl h g
shown_only real real v kl ll h g = refl
shown_only real (bit_vector n) v kl ll h g = flat_only v real (bit_vector n) refl ll h g
shown_only real (uninterpreted n) v kl ll h g = flat_only v real (uninterpreted n) refl refl h g
shown_only (bit_vector m) boolean v kl ll h g = flat_only v (bit_vector m) boolean kl refl h g
shown_only (bit_vector m) real v kl ll h g = flat_only v (bit_vector m) real kl refl h g
shown_only (bit_vector m) (bit_vector n) v kl ll h g = flat_only v (bit_vector m) (bit_vector n) kl ll h g
shown_only (bit_vector m) (uninterpreted n) v kl ll h g = flat_only v (bit_vector m) (uninterpreted n) kl refl h g
shown_only (uninterpreted m) boolean v kl ll h g = flat_only v (uninterpreted m) boolean refl refl h g
shown_only (uninterpreted m) real v kl ll h g = flat_only v (uninterpreted m) real refl refl h g
shown_only (uninterpreted m) (bit_vector n) v kl ll h g = flat_only v (uninterpreted m) (bit_vector n) refl ll h g
shown_only (uninterpreted m) (uninterpreted n) v kl ll h g = flat_only v (uninterpreted m) (uninterpreted n) refl refl h g
