-- What a piece takes of the bytes.
use Rattle.std.proofs.Common.{◌≡◌, ◌∙◌, ℕ, ◌+◌, ◌-◌, ◌<◌, ◌≤◌, Bool, true, false, ◌&&◌, ◌||◌, ltb, cond, List, [], ◌∷◌, length, take, drop, refl, sym, ap, subst, arith, length-drop, length-append, length-take-le}
use Rattle.std.specs.Prelude.{◌==◌}
use Rattle.std.specs.List.{prefix_len}
use Rattle.std.proofs.lemmas.List.{take_all}
use Rattle.std.proofs.lemmas.List.Folds.{length-prefix_len}
use Rattle.call_script.specs.declared.lines.LineEnd.{LineEnd}
use Rattle.call_script.specs.Tokens.{stray, bad, is_separator, is_bracket, is_word_byte, is_name_byte}
use Rattle.call_script.specs.Judging.{Piece, a_token, no_token, is_nil, is_open, piece_at, word_piece, name_end, next_piece}
use Rattle.call_script.specs.Scanned.{IsWithin}

if_within : (here : ℕ) (bytes : List ℕ) (b : Bool) (x y : Piece) → IsWithin here bytes x → IsWithin here bytes y → IsWithin here bytes (cond b x y)
if_within here bytes true x y h k = h
if_within here bytes false x y h k = k

name_within : (here : ℕ) (s rest bytes : List ℕ) → length bytes ≡ 1 + length s + length rest → IsWithin here bytes (name_end here s rest)
name_within here s [] bytes h = tt
name_within here s (b ∷ behind) bytes h =
    if_within here bytes (b == 34) _ _ (omega (arith, length-append s (34 ∷ [])), omega arith) tt

first_counted : (b : ℕ) (bs : List ℕ) → is_word_byte b ≡ true → prefix_len is_word_byte (b ∷ bs) ≡ 1 + prefix_len is_word_byte bs
first_counted b bs h = ap (λ v. cond v (1 + prefix_len is_word_byte bs) 0) h

pub prefix_le : (test : ℕ → Bool) (bs : List ℕ) → prefix_len test bs ≤ length bs
prefix_le test [] = omega arith
prefix_le test (b ∷ bs) = elim (test b) as (λ v. cond v (1 + prefix_len test bs) 0 ≤ length (b ∷ bs)) [ true ↦ omega (arith, prefix_le test bs) | false ↦ omega arith ]

word_within : (end : LineEnd) (here n : ℕ) (bytes : List ℕ) → 0 < n → n ≤ length bytes → IsWithin here bytes (word_piece end here bytes n)
word_within end here n bytes some most =
    if_within here bytes (is_nil (drop n bytes) && is_open end) _ _ tt
    (omega (arith, length-drop n bytes, length-take-le n bytes most), omega (arith, length-drop n bytes))

at_within : (end : LineEnd) (free : Bool) (here : ℕ) (bytes : List ℕ) → IsWithin here bytes (piece_at end free here bytes)
unfolding piece_at
at_within end free here [] = tt
at_within end free here (b ∷ bs) =
    if_within here (b ∷ bs) (b == 59) _ _ tt
    (if_within here (b ∷ bs) (is_bracket b) _ _ tt
    (if_within here (b ∷ bs) (b == 34) _ _
    (if_within here (b ∷ bs) free _ _ (name_within here (take (name_count bs) bs) (drop (name_count bs) bs) (b ∷ bs) counted) tt)
    (elim (is_word_byte b) as (λ v. is_word_byte b ≡ v → IsWithin here (b ∷ bs) (cond v (cond free (word_piece end here (b ∷ bs) (prefix_len is_word_byte (b ∷ bs))) (no_token (stray here))) (no_token (bad here)))) [
      | true ↦ λ e. if_within here (b ∷ bs) free _ _ (word_within end here (prefix_len is_word_byte (b ∷ bs)) (b ∷ bs) (omega (arith, first_counted b bs e)) (prefix_le is_word_byte (b ∷ bs))) tt
      | false ↦ λ e. tt
    ] refl)))
  where
    name_count : List ℕ → ℕ
    name_count cs = prefix_len is_name_byte cs

    counted : length (b ∷ bs) ≡ 1 + length (take (prefix_len is_name_byte bs) bs) + length (drop (prefix_len is_name_byte bs) bs)
    counted = omega (arith, length-prefix_len is_name_byte bs, length-drop (prefix_len is_name_byte bs) bs, prefix_le is_name_byte bs)

behind_within : (here n : ℕ) (bytes : List ℕ) (p : Piece) → n ≤ length bytes → IsWithin (here + n) (drop n bytes) p → IsWithin here bytes p
behind_within here n bytes (a_token t behind) most h = (omega (arith, length-drop n bytes, h.0), omega (arith, length-drop n bytes, h.1))
behind_within here n bytes (no_token t) most h = tt

pub piece_within : (end : LineEnd) (free : Bool) (here n : ℕ) (bytes rest : List ℕ) (p : Piece) → n ≤ length bytes → rest ≡ drop n bytes → p ≡ piece_at end free (here + n) rest → IsWithin here bytes p
piece_within end free here n bytes rest p most is e =
    behind_within here n bytes p most (subst (IsWithin (here + n) (drop n bytes)) (sym (e ∙ ap (piece_at end free (here + n)) is)) (at_within end free (here + n) (drop n bytes)))

pub next_within : (end : LineEnd) (free : Bool) (here : ℕ) (bytes : List ℕ) → IsWithin here bytes (next_piece end free here bytes)
next_within end free here bytes =
    piece_within end (free || ltb 0 (prefix_len is_separator bytes)) here (prefix_len is_separator bytes) bytes (drop (prefix_len is_separator bytes) bytes) (next_piece end free here bytes)
    (prefix_le is_separator bytes) refl refl

pub all_left : (n : ℕ) (bytes : List ℕ) → take (length bytes - n) (drop n bytes) ≡ drop n bytes
all_left n bytes = take_all (length bytes - n) (drop n bytes) (omega (arith, length-drop n bytes))
