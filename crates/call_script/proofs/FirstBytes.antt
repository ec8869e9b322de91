-- What stands first in a line, by its first byte.
use Rattle.std.proofs.Common.{◌≡◌, ◌∙◌, ℕ, suc, zero, ◌+◌, ◌<◌, ◌≤◌, Bool, true, false, not, ◌&&◌, ltb, cond, List, [], ◌∷◌, length, get_or, take, drop, refl, ap, arith, ◌-◌, length-drop}
use Rattle.std.proofs.lemmas.List.{take_all}
use Rattle.std.specs.Prelude.{◌==◌}
use Rattle.std.specs.List.{list_all, prefix_len}
use Rattle.std.specs.Str.{IsUtf8}
use Rattle.std.proofs.lemmas.Bool.{ne_eqb, lt-ltb, and_parts, ltb-true}
use Rattle.std.proofs.lemmas.Str.{IsUtf8-from_ascii}
use Rattle.call_script.specs.declared.lines.LineEnd.{LineEnd}
use Rattle.call_script.specs.Tokens.{over, bad, stray, is_bracket, is_mark, is_word_byte, is_name_byte}
use Rattle.call_script.specs.Judging.{no_token, piece_at, word_piece, name_piece}
use Rattle.call_script.specs.Scanned.{is_printable}

-- printable bytes are text

all_ascii : (bs : List ℕ) → list_all is_printable bs ≡ true → (i : ℕ) → get_or bs i 0 < 128
all_ascii [] h i = omega arith
all_ascii (b ∷ bs) h zero =
    let parts = and_parts (is_printable b) (list_all is_printable bs) h in
    let below = ltb-true b 127 (and_parts (ltb 31 b) (ltb b 127) parts.0).1 in
    omega arith
all_ascii (b ∷ bs) h (suc i) = all_ascii bs (and_parts (is_printable b) (list_all is_printable bs) h).1 i

pub printable_utf8 : (bs : List ℕ) → list_all is_printable bs ≡ true → IsUtf8 bs
printable_utf8 bs h = IsUtf8-from_ascii bs (all_ascii bs h)

both : (x y : Bool) → x ≡ true → y ≡ true → (x && y) ≡ true
both x y h k = rw (h, k) refl

-- a run of bytes that pass a test
run_printable : (test : ℕ → Bool) → ((b : ℕ) → test b ≡ true → is_printable b ≡ true) → (bs : List ℕ) → list_all is_printable (take (prefix_len test bs) bs) ≡ true
run_printable test h [] = refl
run_printable test h (b ∷ bs) =
    elim (test b) as (λ v. test b ≡ v → list_all is_printable (take (cond v (1 + prefix_len test bs) 0) (b ∷ bs)) ≡ true) [
      | true ↦ λ e. let more : 1 + prefix_len test bs ≡ suc (prefix_len test bs) = omega arith in ap (λ k. list_all is_printable (take k (b ∷ bs))) more ∙ both (is_printable b) (list_all is_printable (take (prefix_len test bs) bs)) (h b e) (run_printable test h bs)
      | false ↦ λ e. refl
    ] refl

word_byte_printable : (b : ℕ) → is_word_byte b ≡ true → is_printable b ≡ true
word_byte_printable b h =
    let outer = and_parts (ltb 32 b && ltb b 127) (not (is_mark b)) h in
    let inner = and_parts (ltb 32 b) (ltb b 127) outer.0 in
    let low = ltb-true 32 b inner.0 in
    both (ltb 31 b) (ltb b 127) (lt-ltb 31 b (omega arith)) inner.1

name_byte_printable : (b : ℕ) → is_name_byte b ≡ true → is_printable b ≡ true
name_byte_printable b h = (and_parts (ltb 31 b && ltb b 127) _ h).0

pub word_printable : (n : ℕ) (bs : List ℕ) → n ≡ prefix_len is_word_byte bs → list_all is_printable (take n bs) ≡ true
word_printable n bs e = rw e (run_printable is_word_byte word_byte_printable bs)

pub name_printable : (n : ℕ) (bs : List ℕ) → n ≡ prefix_len is_name_byte bs → list_all is_printable (take n bs) ≡ true
name_printable n bs e = rw e (run_printable is_name_byte name_byte_printable bs)

-- a chain of tests
module _ {X : Type 0} (x₁ x₂ x₃ x₄ x₅ x₆ : X) (c k q w f : Bool) (hc : c ≡ false) (hk : k ≡ false) (hq : q ≡ false) where
  fourth : w ≡ true → f ≡ true → cond c x₁ (cond k x₂ (cond q x₃ (cond w (cond f x₄ x₅) x₆))) ≡ x₄
  fourth hw hf = rw (hc, hk, hq, hw, hf) refl

  fifth : w ≡ true → f ≡ false → cond c x₁ (cond k x₂ (cond q x₃ (cond w (cond f x₄ x₅) x₆))) ≡ x₅
  fifth hw hf = rw (hc, hk, hq, hw, hf) refl

  sixth : w ≡ false → cond c x₁ (cond k x₂ (cond q x₃ (cond w (cond f x₄ x₅) x₆))) ≡ x₆
  sixth hw = rw (hc, hk, hq, hw) refl

-- the first byte
module _ (end : LineEnd) (free : Bool) (here : ℕ) where
  pub none_first : (bytes : List ℕ) → length bytes < 1 → piece_at end free here bytes ≡ no_token over
  unfolding piece_at
  none_first [] h = refl
  none_first (b ∷ bs) h = absurd (omega arith)

  pub comment_first : (bytes : List ℕ) → 1 ≤ length bytes → get_or bytes 0 0 ≡ 59 → piece_at end free here bytes ≡ no_token over
  unfolding piece_at
  comment_first [] h e = absurd (omega arith)
  comment_first (b ∷ bs) h e = rw e refl

  pub bracket_first : (bytes : List ℕ) → 1 ≤ length bytes → (get_or bytes 0 0 ≡ 59 → ⊥) → is_bracket (get_or bytes 0 0) ≡ true → piece_at end free here bytes ≡ no_token (stray here)
  unfolding piece_at
  bracket_first [] h s k = absurd (omega arith)
  bracket_first (b ∷ bs) h s k = rw (ne_eqb b 59 s, k) refl

  pub quote_stray : (bytes : List ℕ) → 1 ≤ length bytes → get_or bytes 0 0 ≡ 34 → free ≡ false → piece_at end free here bytes ≡ no_token (stray here)
  unfolding piece_at
  quote_stray [] h e f = absurd (omega arith)
  quote_stray (b ∷ bs) h e f = rw (e, f) refl

  pub name_first : (bytes : List ℕ) → 1 ≤ length bytes → get_or bytes 0 0 ≡ 34 → free ≡ true
      → piece_at end free here bytes ≡ name_piece here (drop 1 bytes) (prefix_len is_name_byte (drop 1 bytes))
  unfolding piece_at
  name_first [] h e f = absurd (omega arith)
  name_first (b ∷ bs) h e f = rw (e, f) refl

  pub word_stray : (bytes : List ℕ) → 1 ≤ length bytes → (get_or bytes 0 0 ≡ 59 → ⊥) → is_bracket (get_or bytes 0 0) ≡ false → (get_or bytes 0 0 ≡ 34 → ⊥)
      → is_word_byte (get_or bytes 0 0) ≡ true → free ≡ false → piece_at end free here bytes ≡ no_token (stray here)
  unfolding piece_at
  word_stray [] h s k q w f = absurd (omega arith)
  word_stray (b ∷ bs) h s k q w f = fifth _ _ _ _ _ _ (b == 59) (is_bracket b) (b == 34) (is_word_byte b) free (ne_eqb b 59 s) k (ne_eqb b 34 q) w f

  pub word_first : (bytes : List ℕ) → 1 ≤ length bytes → (get_or bytes 0 0 ≡ 59 → ⊥) → is_bracket (get_or bytes 0 0) ≡ false → (get_or bytes 0 0 ≡ 34 → ⊥)
      → is_word_byte (get_or bytes 0 0) ≡ true → free ≡ true → piece_at end free here bytes ≡ word_piece end here bytes (prefix_len is_word_byte bytes)
  unfolding piece_at
  word_first [] h s k q w f = absurd (omega arith)
  word_first (b ∷ bs) h s k q w f = fourth _ _ _ _ _ _ (b == 59) (is_bracket b) (b == 34) (is_word_byte b) free (ne_eqb b 59 s) k (ne_eqb b 34 q) w f

  pub bad_first : (bytes : List ℕ) → 1 ≤ length bytes → (get_or bytes 0 0 ≡ 59 → ⊥) → is_bracket (get_or bytes 0 0) ≡ false → (get_or bytes 0 0 ≡ 34 → ⊥)
      → is_word_byte (get_or bytes 0 0) ≡ false → piece_at end free here bytes ≡ no_token (bad here)
  unfolding piece_at
  bad_first [] h s k q w = absurd (omega arith)
  bad_first (b ∷ bs) h s k q w = sixth _ _ _ _ _ _ (b == 59) (is_bracket b) (b == 34) (is_word_byte b) free (ne_eqb b 59 s) k (ne_eqb b 34 q) w

pub all_behind : (bytes : List ℕ) → take (length bytes - 1) (drop 1 bytes) ≡ drop 1 bytes
all_behind bytes = take_all (length bytes - 1) (drop 1 bytes) (omega (arith, length-drop 1 bytes))
