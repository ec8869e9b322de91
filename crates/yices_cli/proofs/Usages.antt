-- Which word is at fault.
use Rattle.std.proofs.Common.{ℕ, zero, suc, ◌≡◌, ◌<◌, inl, inr, List, [], ◌∷◌, ◌++◌, length, take, drop, map, codes, string_bytes, slice_index_or, get_or, refl, sym, ap, subst, arith, rules, ◌∙◌}
use Rattle.std.specs.Prelude.{String}
use Rattle.clause_search.specs.declared.Turns.TheVariants as turns
use Rattle.yices_cli.specs.declared.words.Mode.{Mode}
use Rattle.yices_cli.specs.declared.words.Mode.TheVariants as mode
use Rattle.yices_cli.specs.Words.{IsLimit, HasMode, BeginsValid, IsUsage}

-- the parts of equal lists of words
same_first : (x y : List ℕ) (xs ys : List (List ℕ)) → x ∷ xs ≡ y ∷ ys → x ≡ y
same_first x y xs ys is = cc is

same_others : (x y : List ℕ) (xs ys : List (List ℕ)) → x ∷ xs ≡ y ∷ ys → xs ≡ ys
same_others x y xs ys is = cc is

-- `--turns` differs from `--calls`, and from `--turns=` with digits
turns_calls : codes "--turns" ≡ codes "--calls" → ⊥
turns_calls is = let e : 116 ≡ 99 = ap (λ x. get_or x 2 0) is in omega (arith, e)

turns_joined : (digits : List ℕ) → codes "--turns" ≡ codes "--turns=" ++ digits → ⊥
turns_joined digits is = cc is

-- valid words of which the first is `--turns` are this and a limit
behind_turns : (vs : List (List ℕ)) (m : Mode) → HasMode (codes "--turns" ∷ vs) m → (digits : List ℕ) × (n : ℕ) × IsLimit digits n × (vs ≡ digits ∷ [])
behind_turns vs (mode.Language turns.Whole) is = absurd (cc is)
behind_turns vs (mode.Language (turns.Counted n)) (digits, limit, inl is) =
    absurd (turns_joined digits (same_first (codes "--turns") (codes "--turns=" ++ digits) vs [] is))
behind_turns vs (mode.Language (turns.Counted n)) (digits, limit, inr is) = (digits, n, limit, same_others (codes "--turns") (codes "--turns") vs (digits ∷ []) is)
behind_turns vs mode.Calls is = absurd (turns_calls (same_first (codes "--turns") (codes "--calls") vs [] is))

-- valid words of which the first is another are this word alone
behind_other : (w : List ℕ) (vs : List (List ℕ)) (m : Mode) → (w ≡ codes "--turns" → ⊥) → HasMode (w ∷ vs) m → HasMode (w ∷ []) m × (vs ≡ [])
behind_other w vs (mode.Language turns.Whole) other is = absurd (cc is)
behind_other w vs (mode.Language (turns.Counted n)) other (digits, limit, inl is) =
    ((digits, limit, inl (ap (λ x. x ∷ []) (same_first w (codes "--turns=" ++ digits) vs [] is))), same_others w (codes "--turns=" ++ digits) vs [] is)
behind_other w vs (mode.Language (turns.Counted n)) other (digits, limit, inr is) = absurd (other (same_first w (codes "--turns") vs (digits ∷ []) is))
behind_other w vs mode.Calls other is = (ap (λ x. x ∷ []) (same_first w (codes "--calls") vs [] is), same_others w (codes "--calls") vs [] is)

-- what begins valid words
begins_none : BeginsValid []
begins_none = ([], mode.Language turns.Whole, refl)

begins_whole : (ws : List (List ℕ)) (m : Mode) → HasMode (ws ++ []) m → BeginsValid ws
begins_whole ws m is = ([], m, is)

begins_turns : BeginsValid (codes "--turns" ∷ [])
begins_turns = (codes "0" ∷ [], mode.Language (turns.Counted 0), (codes "0", search rules, inr refl))

-- the first word is at fault
pub first_faulty : (w : List ℕ) (vs : List (List ℕ)) → (w ≡ codes "--turns" → ⊥) → ((m : Mode) → HasMode (w ∷ []) m → ⊥) → IsUsage (w ∷ vs) 1
first_faulty w vs other none_alone = record { faulty = inl (omega arith, never); least = below }
  where
    never : BeginsValid (w ∷ []) → ⊥
    never (others, m, is) = none_alone m (behind_other w others m other is).0

    below : (i : ℕ) → i < 1 → BeginsValid (take i (w ∷ vs))
    below zero h = begins_none
    below (suc i) h = absurd (omega (arith, h))

-- the second word is at fault, behind one that is valid alone
pub second_faulty : (w : List ℕ) (vs : List (List ℕ)) (m : Mode) → (w ≡ codes "--turns" → ⊥) → HasMode (w ∷ []) m → 0 < length vs → IsUsage (w ∷ vs) 2
second_faulty w [] m other alone some = absurd (omega (arith, some))
second_faulty w (v ∷ vs) m other alone some = record { faulty = inl (omega arith, never); least = below }
  where
    never : BeginsValid (w ∷ v ∷ []) → ⊥
    never (others, n, is) = cc (behind_other w (v ∷ others) n other is).1

    below : (i : ℕ) → i < 2 → BeginsValid (take i (w ∷ v ∷ vs))
    below zero h = begins_none
    below (suc zero) h = begins_whole (w ∷ []) m alone
    below (suc (suc i)) h = absurd (omega (arith, h))

-- no word, and `--turns`, begin valid words
below_two : (vs : List (List ℕ)) (i : ℕ) → i < 2 → BeginsValid (take i (codes "--turns" ∷ vs))
below_two vs zero h = begins_none
below_two vs (suc zero) h = begins_turns
below_two vs (suc (suc i)) h = absurd (omega (arith, h))

-- the limit is missing
pub limit_missing : {Z : Type 0} (ws : List (String Z)) → length ws < 1 → IsUsage (codes "--turns" ∷ map string_bytes ws) 2
limit_missing [] few = record { faulty = inr (refl, never); least = below_two [] }
  where
    never : (m : Mode) → HasMode (codes "--turns" ∷ []) m → ⊥
    never m is = cc (behind_turns [] m is).3
limit_missing (w ∷ ws) few = absurd (omega (arith, few))

-- the second word is no limit
pub no_limit : (v : List ℕ) (vs : List (List ℕ)) → ((n : ℕ) → IsLimit v n → ⊥) → IsUsage (codes "--turns" ∷ v ∷ vs) 2
no_limit v vs none_read = record { faulty = inl (omega arith, never); least = below_two (v ∷ vs) }
  where
    never : BeginsValid (codes "--turns" ∷ v ∷ []) → ⊥
    never (others, m, is) =
        let p = behind_turns (v ∷ others) m is in
        none_read p.1 (subst (λ x. IsLimit x p.1) (sym (same_first v p.0 others [] p.3)) p.2)

-- a third word stands behind the limit
pub third_faulty : (v : List ℕ) (vs : List (List ℕ)) (n : ℕ) → IsLimit v n → 0 < length vs → IsUsage (codes "--turns" ∷ v ∷ vs) 3
third_faulty v [] n limit some = absurd (omega (arith, some))
third_faulty v (u ∷ vs) n limit some = record { faulty = inl (omega arith, never); least = below }
  where
    never : BeginsValid (codes "--turns" ∷ v ∷ u ∷ []) → ⊥
    never (others, m, is) =
        let p = behind_turns (v ∷ u ∷ others) m is in
        cc (same_others v p.0 (u ∷ others) [] p.3)

    below : (i : ℕ) → i < 3 → BeginsValid (take i (codes "--turns" ∷ v ∷ u ∷ vs))
    below zero h = begins_none
    below (suc zero) h = begins_turns
    below (suc (suc zero)) h = begins_whole (codes "--turns" ∷ v ∷ []) (mode.Language (turns.Counted n)) (v, limit, inr refl)
    below (suc (suc (suc i))) h = absurd (omega (arith, h))

-- the words as texts, where the first one is known
pub first_word : {Z : Type 0} (ws : List (String Z)) (s : String Z) (w : List ℕ) → 0 < length ws → s ≡ slice_index_or ws 0 s → w ≡ string_bytes s → map string_bytes ws ≡ w ∷ map string_bytes (drop 1 ws)
first_word [] s w some is text = absurd (omega (arith, some))
first_word (v ∷ ws) s w some is text = ap (λ x. x ∷ map string_bytes ws) (sym (text ∙ ap string_bytes is))
