-- Texts that grow entry by entry and key by key.
use Rattle.std.proofs.Common.{◌≡◌, ◌∙◌, ℕ, zero, suc, ◌+◌, ◌/◌, ◌%◌, ◌^◌, ◌<◌, ◌≤◌, List, [], ◌∷◌, ◌++◌, codes, length, drop, get_or, refl, sym, ap, subst, arith, append_assoc, append-nil, add-one}
use Rattle.std.specs.Prelude.{◌-◌, ◌==◌, Bool, true, false, cond}
use Rattle.std.proofs.lemmas.Nat.{mod_below}
use Rattle.std.proofs.Math.Nat.{pow-le-pow_right, div-eq_of_lt}
use Rattle.std.proofs.lemmas.List.{at_drop_more, at_drop_all}
use Rattle.y_tree.specs.declared.values.Value.{Value}
use Rattle.y_tree.specs.declared.values.Entry.{Entry}
use Rattle.y_tree.specs.Plain.{plain_value, plain_values, plain_entry, plain_entries}
use Rattle.value_texts.specs.Texts.{binary, value_text, keys_text, spaced_text, entries_text}

bit_is : (b : Bool) (m : ℕ) → m < 2 → b ≡ (m == 1) → cond b 49 48 ≡ 48 + m
bit_is b zero h e = rw e refl
bit_is b (suc zero) h e = rw e refl
bit_is b (suc (suc m)) h e = absurd (omega (arith, h))

-- a bit more
bit_more : (old new : List ℕ) (b : Bool) (i a : ℕ) (whole : List ℕ) → old ++ binary (i + 1) a ≡ whole → b ≡ (a / 2 ^ i % 2 == 1) → new ≡ old ++ cond b 49 48 ∷ [] → new ++ binary i a ≡ whole
unfolding binary
bit_more old new b i a whole e t n =
    ap (λ x. x ++ binary i a) n ∙ append_assoc old (cond b 49 48 ∷ []) (binary i a) ∙ ap (λ x. old ++ x ∷ binary i a) (bit_is b (a / 2 ^ i % 2) (mod_below (a / 2 ^ i) 2 (omega arith)) t)
    ∙ ap (λ x. old ++ x) (rw add-one refl) ∙ e

pub bit_one : (old new : List ℕ) (b : Bool) (i a : ℕ) (whole : List ℕ) → 0 < i → old ++ binary i a ≡ whole → b ≡ (a / 2 ^ (i - 1) % 2 == 1) → b ≡ true → new ≡ old ++ codes "1" → new ++ binary (i - 1) a ≡ whole
bit_one old new b zero a whole h e t k n = absurd (omega (arith, h))
bit_one old new b (suc i) a whole h e t k n = ap (λ j. new ++ binary j a) (omega arith) ∙ bit_more old new b i a whole (subst (λ j. old ++ binary j a ≡ whole) (omega arith) e) (t ∙ ap (λ j. a / 2 ^ j % 2 == 1) (omega arith)) (n ∙ ap (λ x. old ++ cond x 49 48 ∷ []) (sym k))

pub bit_zero : (old new : List ℕ) (b : Bool) (i a : ℕ) (whole : List ℕ) → 0 < i → old ++ binary i a ≡ whole → b ≡ (a / 2 ^ (i - 1) % 2 == 1) → b ≡ false → new ≡ old ++ codes "0" → new ++ binary (i - 1) a ≡ whole
bit_zero old new b zero a whole h e t k n = absurd (omega (arith, h))
bit_zero old new b (suc i) a whole h e t k n = ap (λ j. new ++ binary j a) (omega arith) ∙ bit_more old new b i a whole (subst (λ j. old ++ binary j a ≡ whole) (omega arith) e) (t ∙ ap (λ j. a / 2 ^ j % 2 == 1) (omega arith)) (n ∙ ap (λ x. old ++ cond x 49 48 ∷ []) (sym k))

pub bits_done : (old : List ℕ) (i a : ℕ) (whole : List ℕ) → i ≡ 0 → old ++ binary i a ≡ whole → old ≡ whole
unfolding binary
bits_done old i a whole h e = sym (append-nil old) ∙ sym (ap (λ j. old ++ binary j a) h) ∙ e

regroup : (old a k b v r : List ℕ) → ((((old ++ a) ++ k) ++ b) ++ v) ++ r ≡ old ++ ((((a ++ k) ++ b) ++ v) ++ r)
regroup old a k b v r = simp append_assoc

pub entries_more : (old one two three new whole : List ℕ) (es : List Entry) (i : ℕ) (d : Entry) → i < length es → old ++ entries_text (plain_entries (drop i es)) ≡ whole → one ≡ old ++ codes " ("
    → two ≡ one ++ keys_text (plain_entry (get_or es i d)).0 → three ≡ two ++ codes ") " → new ≡ three ++ value_text (plain_entry (get_or es i d)).1 → new ++ entries_text (plain_entries (drop (i + 1) es)) ≡ whole
unfolding value_text
entries_more old one two three new whole es i d l e a b c n =
    let k = keys_text (plain_entry (get_or es i d)).0 in let v = value_text (plain_entry (get_or es i d)).1 in let r = entries_text (plain_entries (drop (i + 1) es)) in
    ap (λ x. x ++ r) (n ∙ ap (λ x. x ++ v) (c ∙ ap (λ x. x ++ codes ") ") (b ∙ ap (λ x. x ++ k) a)))
    ∙ regroup old (codes " (") k (codes ") ") v r
    ∙ ap (λ x. old ++ x) (sym (at_drop_more (λ x. entries_text (plain_entries x)) es i d l)) ∙ e

pub entries_done : (old whole : List ℕ) (es : List Entry) (i : ℕ) → length es ≤ i → old ++ entries_text (plain_entries (drop i es)) ≡ whole → old ≡ whole
unfolding value_text
entries_done old whole es i l e = sym (append-nil old) ∙ ap (λ x. old ++ x) (sym (at_drop_all (λ x. entries_text (plain_entries x)) es i l)) ∙ e

pub keys_more : (old one new whole : List ℕ) (ks : List Value) (i : ℕ) (d : Value) → i < length ks → old ++ spaced_text (plain_values (drop i ks)) ≡ whole → one ≡ old ++ codes " "
    → new ≡ one ++ value_text (plain_value (get_or ks i d)) → new ++ spaced_text (plain_values (drop (i + 1) ks)) ≡ whole
unfolding value_text
keys_more old one new whole ks i d l e a n =
    let v = value_text (plain_value (get_or ks i d)) in let r = spaced_text (plain_values (drop (i + 1) ks)) in
    ap (λ x. x ++ r) (n ∙ ap (λ x. x ++ v) a) ∙ append_assoc (old ++ codes " ") v r ∙ append_assoc old (codes " ") (v ++ r) ∙ ap (λ x. old ++ x) (sym (append_assoc (codes " ") v r))
    ∙ ap (λ x. old ++ x) (sym (at_drop_more (λ x. spaced_text (plain_values x)) ks i d l)) ∙ e

pub keys_start : (old new : List ℕ) (ks : List Value) (d : Value) → 0 < length ks → new ≡ old ++ value_text (plain_value (get_or ks 0 d)) → new ++ spaced_text (plain_values (drop 1 ks)) ≡ old ++ keys_text (plain_values ks)
unfolding value_text
keys_start old new [] d l n = absurd (omega (arith, l))
keys_start old new (k ∷ ks) d l n = ap (λ x. x ++ spaced_text (plain_values ks)) n ∙ append_assoc old (value_text (plain_value k)) (spaced_text (plain_values ks))

pub keys_done : (old whole : List ℕ) (ks : List Value) (i : ℕ) → length ks ≤ i → old ++ spaced_text (plain_values (drop i ks)) ≡ whole → old ≡ whole
unfolding value_text
keys_done old whole ks i l e = sym (append-nil old) ∙ ap (λ x. old ++ x) (sym (at_drop_all (λ x. spaced_text (plain_values x)) ks i l)) ∙ e

pub no_keys : (old : List ℕ) (ks : List Value) → length ks ≡ 0 → old ≡ old ++ keys_text (plain_values ks)
unfolding value_text
no_keys old [] e = sym (append-nil old)
no_keys old (k ∷ ks) e = absurd (omega (arith, e))

pub high_bit : (a i : ℕ) → a < 2 ^ 128 → (i < 128 → ⊥) → false ≡ (a / 2 ^ i % 2 == 1)
high_bit a i h n =
    let l : 128 ≤ i = omega (arith, n) in
    let p : 2 ^ 128 ≤ 2 ^ i = pow-le-pow_right (omega arith) l in
    rw (div-eq_of_lt {n = a} {m = 2 ^ i} (omega (arith, h, p))) refl
