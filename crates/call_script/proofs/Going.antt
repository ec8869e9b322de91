-- What a line says, piece by piece.
use Rattle.std.proofs.Common.{◌≡◌, ◌∙◌, ℕ, suc, zero, ◌<◌, Bool, false, Some, None, Option, List, length, sym, ap, subst, refl, arith}
use Rattle.call_script.specs.declared.lines.LineEnd.{LineEnd}
use Rattle.call_script.specs.Tokens.{Token, Tail}
use Rattle.call_script.specs.Lines.{Front, Reading}
use Rattle.call_script.specs.Judging.{Piece, a_token, no_token, next_piece, Parts, with_token, parts_of, column_behind, cut_in, cut, go_on, refusal, at_tail, said, said_from}
use Rattle.call_script.specs.Scanned.{IsWithin}
use Rattle.call_script.proofs.Pieces.{next_within}

-- more steps find the same
pub enough : (j k : ℕ) (end : LineEnd) (free : Bool) (here : ℕ) (bytes : List ℕ) → length bytes < j → length bytes < k → cut_in j end free here bytes ≡ cut_in k end free here bytes
unfolding cut_in
enough zero k end free here bytes hj hk = absurd (omega arith)
enough (suc j) zero end free here bytes hj hk = absurd (omega arith)
enough (suc j) (suc k) end free here bytes hj hk =
    elim (next_piece end free here bytes) as (λ p. IsWithin here bytes p
    → parts_of (λ t behind. cut_in j end false (column_behind t) behind) p ≡ parts_of (λ t behind. cut_in k end false (column_behind t) behind) p) [
      | a_token t behind ↦ λ w. ap (with_token t) (enough j k end false (column_behind t) behind (omega (arith, w.1)) (omega (arith, w.1)))
      | no_token tail ↦ λ w. refl
    ] (next_within end free here bytes)

module _ (end : LineEnd) (free : Bool) (here : ℕ) (bytes : List ℕ) where
  pub cut_is : (p : Piece) → p ≡ next_piece end free here bytes → cut end free here bytes ≡ parts_of (λ t behind. cut_in (length bytes) end false (column_behind t) behind) p
  unfolding cut_in
  cut_is p e = ap (parts_of (λ t behind. cut_in (length bytes) end false (column_behind t) behind)) (sym e)

  pub cut_token : (t : Token) (behind : List ℕ) → a_token t behind ≡ next_piece end free here bytes → cut end free here bytes ≡ with_token t (cut end false (column_behind t) behind)
  cut_token t behind e =
      let w : IsWithin here bytes (a_token t behind) = subst (IsWithin here bytes) (sym e) (next_within end free here bytes) in
      cut_is (a_token t behind) e ∙ ap (with_token t) (enough (length bytes) (suc (length behind)) end false (column_behind t) behind (omega (arith, w.1)) (omega arith))

  abbrev said_on : Option Front → ℕ → Front → Token → Parts → Reading
  said_on o last f t ps = elim o as (λ _. Reading) [ Some g ↦ said end last g ps.tokens ps.tail | None ↦ refusal f t ]

  pub said_tail : (last : ℕ) (f : Front) (tail : Tail) → no_token tail ≡ next_piece end free here bytes → said_from end last f free here bytes ≡ at_tail end last f tail
  unfolding said
  said_tail last f tail e = ap (λ ps. said end last f ps.tokens ps.tail) (cut_is (no_token tail) e)

  pub said_more : (last : ℕ) (f g : Front) (t : Token) (behind : List ℕ) → a_token t behind ≡ next_piece end free here bytes → go_on f t ≡ Some g
      → said_from end last f free here bytes ≡ said_from end last g false (column_behind t) behind
  unfolding said
  said_more last f g t behind e h = ap (λ ps. said end last f ps.tokens ps.tail) (cut_token t behind e) ∙ ap (λ o. said_on o last f t (cut end false (column_behind t) behind)) h

  pub said_refused : (last : ℕ) (f : Front) (t : Token) (behind : List ℕ) → a_token t behind ≡ next_piece end free here bytes → go_on f t ≡ None
      → said_from end last f free here bytes ≡ refusal f t
  unfolding said
  said_refused last f t behind e h = ap (λ ps. said end last f ps.tokens ps.tail) (cut_token t behind e) ∙ ap (λ o. said_on o last f t (cut end false (column_behind t) behind)) h
