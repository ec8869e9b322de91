-- A line is cut into tokens in one way, which is computed.
use Rattle.std.proofs.Common.{◌≡◌, ◌≢◌, ◌∙◌, ℕ, suc, zero, ◌+◌, ◌<◌, ◌≤◌, Bool, true, false, not, ◌&&◌, ◌||◌, cond, ltb, List, [], ◌∷◌, ◌++◌, length, take, drop, refl, sym, ap, subst, arith, ◌⊎◌, inl, inr, ⊎_elim, append_assoc, append-nil, length-append, length-take-le, take-append-drop, take_at, drop_at}
use Rattle.std.specs.Prelude.{◌==◌}
use Rattle.std.specs.List.{list_all, prefix_len}
use Rattle.std.proofs.lemmas.Bool.{and_parts, ne_eqb, eqb-true, lt-ltb}
use Rattle.yices_grammar.specs.Tokens.{begins_with}
use Rattle.call_script.specs.declared.lines.LineEnd.{LineEnd}
use Rattle.call_script.specs.declared.lines.LineEnd.TheVariants as line_end
use Rattle.call_script.specs.Tokens.{is_separator, is_bracket, is_mark, is_word_byte, is_name_byte, begins_nothing, Lexeme, word, name, lexeme_bytes, Token, IsWhole, Tail, over, inside_word, inside_name, bad, bad_in_name, stray, IsTail, is_free, Cuts}
use Rattle.call_script.specs.Judging.{is_open, is_nil, Piece, a_token, no_token, word_piece, name_end, name_piece, piece_at, piece_behind, next_piece, Parts, with_token, parts_of, column_behind, cut_in, cut}
use Rattle.call_script.specs.Scanned.{IsWithin}
use Rattle.call_script.proofs.Runs.{both, or_false, or_from, not_false, prefix_run, run_all, run_stops, word_byte_is, no_separator, no_marks, differs, or_cases, bracket_is}
use Rattle.call_script.proofs.FirstBytes.{none_first, comment_first, bracket_first, quote_stray, name_first, word_stray, word_first, bad_first}
use Rattle.call_script.proofs.Pieces.{next_within, prefix_le}
use Rattle.call_script.proofs.Going.{cut_is, cut_token}

-- the piece stands right there
abbrev IsThere : LineEnd → Bool → ℕ → List ℕ → Piece → Type 0
IsThere end free here bytes (a_token t behind) = (bytes ≡ lexeme_bytes t.lexeme ++ behind) × (free ≡ true) × (t.column ≡ here) × IsWhole end t.lexeme behind
IsThere end free here bytes (no_token tail) = IsTail end free here bytes tail

branch : (P : Piece → Type 0) (b : Bool) (x y : Piece) → (b ≡ true → P x) → (b ≡ false → P y) → P (cond b x y)
branch P b x y h k = elim b as (λ v. b ≡ v → P (cond v x y)) [ true ↦ λ e. h e | false ↦ λ e. k e ] refl

open_is : (end : LineEnd) → is_open end ≡ true → end ≡ line_end.Open
open_is line_end.Newline h = absurd (cc h)
open_is line_end.TextEnd h = absurd (cc h)
open_is line_end.Open h = refl

nil_is : (bs : List ℕ) → is_nil bs ≡ true → bs ≡ []
nil_is [] h = refl
nil_is (b ∷ bs) h = absurd (cc h)

-- what is computed stands there

quoted_is : (bs s behind : List ℕ) (c : ℕ) → bs ≡ s ++ c ∷ behind → c ≡ 34 → 34 ∷ bs ≡ lexeme_bytes (name s) ++ behind
quoted_is bs s behind c is q = ap (λ x. 34 ∷ x) (is ∙ ap (λ x. s ++ x ∷ behind) q ∙ sym (append_assoc s (34 ∷ []) behind))

name_there : (end : LineEnd) (here : ℕ) (bs s rest : List ℕ) → bs ≡ s ++ rest → list_all is_name_byte s ≡ true → begins_with is_name_byte rest ≡ false
    → IsThere end true here (34 ∷ bs) (name_end here s rest)
name_there end here bs s [] is all stops = (refl, refl, s, ap (λ x. 34 ∷ x) (is ∙ append-nil s), all)
name_there end here bs s (c ∷ behind) is all stops =
    branch (IsThere end true here (34 ∷ bs)) (c == 34) (a_token (record { column = here; lexeme = name s }) behind) (no_token (bad_in_name here (here + 1 + length s)))
    (λ e. (quoted_is bs s behind c is (eqb-true c 34 e), refl, refl, all))
    (λ e. (refl, refl, s, c, behind, ap (λ x. 34 ∷ x) is, all, stops, differs c 34 e, refl))

word_there : (end : LineEnd) (here n : ℕ) (bytes : List ℕ) → n ≡ prefix_len is_word_byte bytes → 0 < n → IsThere end true here bytes (word_piece end here bytes n)
word_there end here n bytes is some =
    let whole : take n bytes ++ drop n bytes ≡ bytes = take-append-drop n bytes in
    let all : list_all is_word_byte (take n bytes) ≡ true = rw is (run_all is_word_byte bytes) in
    let most : n ≤ length bytes = omega (arith, is, prefix_le is_word_byte bytes) in
    branch (IsThere end true here bytes) (is_nil (drop n bytes) && is_open end) (no_token inside_word) (a_token (record { column = here; lexeme = word (take n bytes) }) (drop n bytes))
    (λ e. let parts = and_parts (is_nil (drop n bytes)) (is_open end) e in
    let taken : take n bytes ≡ bytes = sym (append-nil (take n bytes)) ∙ ap (λ r. take n bytes ++ r) (sym (nil_is (drop n bytes) parts.0)) ∙ whole in
    (open_is end parts.1, refl, omega arith, ap (list_all is_word_byte) (sym taken) ∙ all))
    (λ e. (
      sym whole,
      refl,
      refl,
      (
        omega (arith, length-take-le n bytes most),
        all,
        ap (λ k. begins_with is_word_byte (drop k bytes)) is ∙ run_stops is_word_byte bytes,
        λ h o. absurd (cc (e, both (is_nil (drop n bytes)) (is_open end) (ap is_nil h) (ap is_open o))),
      ),
    ))

word_begins : (b : ℕ) (bs : List ℕ) → is_word_byte b ≡ true → 0 < prefix_len is_word_byte (b ∷ bs)
word_begins b bs h = let e : prefix_len is_word_byte (b ∷ bs) ≡ 1 + prefix_len is_word_byte bs = ap (λ v. cond v (1 + prefix_len is_word_byte bs) 0) h in omega (arith, e)

at_sound : (end : LineEnd) (free : Bool) (here : ℕ) (bytes : List ℕ) → begins_with is_separator bytes ≡ false → IsThere end free here bytes (piece_at end free here bytes)
unfolding piece_at
at_sound end free here [] sep = inl refl
at_sound end free here (b ∷ bs) sep =
    let P : Piece → Type 0 = IsThere end free here (b ∷ bs) in
    branch P (b == 59) (no_token over) _ (λ e. inr (bs, ap (λ x. x ∷ bs) (eqb-true b 59 e)))
    (λ s. branch P (is_bracket b) (no_token (stray here)) _ (λ e. (refl, inl e))
    (λ k. branch P (b == 34) _ _
    (λ q. branch P free (name_piece here bs (prefix_len is_name_byte bs)) (no_token (stray here))
    (λ f. subst (λ x. IsThere end x here (b ∷ bs) (name_piece here bs (prefix_len is_name_byte bs))) (sym f)
    (subst (λ x. IsThere end true here (x ∷ bs) (name_piece here bs (prefix_len is_name_byte bs))) (sym (eqb-true b 34 q))
    (name_there end here bs (take (prefix_len is_name_byte bs) bs) (drop (prefix_len is_name_byte bs) bs) (sym (take-append-drop (prefix_len is_name_byte bs) bs)) (run_all is_name_byte bs) (run_stops is_name_byte bs))))
    (λ f. (refl, inr (f, rw q refl))))
    (λ q. branch P (is_word_byte b) _ (no_token (bad here))
    (λ w. branch P free (word_piece end here (b ∷ bs) (prefix_len is_word_byte (b ∷ bs))) (no_token (stray here))
    (λ f. subst (λ x. IsThere end x here (b ∷ bs) (word_piece end here (b ∷ bs) (prefix_len is_word_byte (b ∷ bs)))) (sym f)
    (word_there end here (prefix_len is_word_byte (b ∷ bs)) (b ∷ bs) refl (word_begins b bs w)))
    (λ f. (refl, inr (f, or_right (b == 34) (is_word_byte b) w))))
    (λ w. (refl, ap not (or_from (is_separator b || is_mark b) (is_word_byte b) (or_from (is_separator b) (is_mark b) sep (or_from (is_bracket b || b == 34) (b == 59) (or_from (is_bracket b) (b == 34) k q) s)) w))))))
  where
    or_right : (x y : Bool) → y ≡ true → (x || y) ≡ true
    or_right true y h = refl
    or_right false y h = h

-- what stands there is computed

first_of_word : (w behind bytes : List ℕ) → bytes ≡ w ++ behind → 0 < length w → list_all is_word_byte w ≡ true → begins_with is_word_byte bytes ≡ true
first_of_word [] behind bytes is some all = absurd (omega arith)
first_of_word (b ∷ w) behind bytes is some all = ap (begins_with is_word_byte) is ∙ (and_parts (is_word_byte b) (list_all is_word_byte w) all).0

word_first_is : (bytes : List ℕ) → begins_with is_word_byte bytes ≡ true → begins_with is_separator bytes ≡ false
word_first_is [] h = refl
word_first_is (b ∷ bs) h = no_separator b (word_byte_is b h).0

first_is : (test : ℕ → Bool) (b : ℕ) (bs bytes : List ℕ) → bytes ≡ b ∷ bs → test b ≡ false → begins_with test bytes ≡ false
first_is test b bs bytes is h = ap (begins_with test) is ∙ h

tail_first : (end : LineEnd) (free : Bool) (here : ℕ) (bytes : List ℕ) (t : Tail) → IsTail end free here bytes t → begins_with is_separator bytes ≡ false
tail_first end free here bytes over h = ⊎_elim (λ e. ap (begins_with is_separator) e) (λ c. first_is is_separator 59 c.0 bytes c.1 refl) h
tail_first end free here bytes inside_word h = word_first_is bytes (first_of_word bytes [] bytes (sym (append-nil bytes)) h.2 h.3)
tail_first end free here bytes (inside_name at) h = first_is is_separator 34 h.2 bytes h.3 refl
tail_first end free here [] (bad at) h = refl
tail_first end free here (b ∷ bs) (bad at) h = (or_false (is_separator b) (is_mark b) (or_false (is_separator b || is_mark b) (is_word_byte b) (not_false (is_separator b || is_mark b || is_word_byte b) h.1)).0).0
tail_first end free here bytes (bad_in_name at k) h = first_is is_separator 34 (h.2 ++ h.3 ∷ h.4) bytes h.5 refl
tail_first end free here [] (stray at) h = refl
tail_first end free here (b ∷ bs) (stray at) h =
    ⊎_elim (λ k. no_separator b (bracket_is b k).0)
    (λ q. ⊎_elim (λ e. let is : b ≡ 34 = eqb-true b 34 e in no_separator b (omega arith)) (λ w. no_separator b (word_byte_is b w).0) (or_cases (b == 34) (is_word_byte b) q.1)) h.1

lexeme_first : (end : LineEnd) (l : Lexeme) (behind bytes : List ℕ) → bytes ≡ lexeme_bytes l ++ behind → IsWhole end l behind → begins_with is_separator bytes ≡ false
lexeme_first end (word w) behind bytes is h = word_first_is bytes (first_of_word w behind bytes is h.0 h.1)
lexeme_first end (name s) behind bytes is h = first_is is_separator 34 (s ++ 34 ∷ [] ++ behind) bytes is refl

there_first : (end : LineEnd) (free : Bool) (here : ℕ) (bytes : List ℕ) (p : Piece) → IsThere end free here bytes p → begins_with is_separator bytes ≡ false
there_first end free here bytes (no_token t) h = tail_first end free here bytes t h
there_first end free here bytes (a_token t behind) h = lexeme_first end t.lexeme behind bytes h.0 h.3

word_is : (end : LineEnd) (free : Bool) (here : ℕ) (bytes : List ℕ) → begins_with is_word_byte bytes ≡ true → free ≡ true → piece_at end free here bytes ≡ word_piece end here bytes (prefix_len is_word_byte bytes)
word_is end free here [] h f = absurd (cc h)
word_is end free here (b ∷ bs) h f =
    let m = no_marks b (word_byte_is b h).1 in
    word_first end free here (b ∷ bs) (omega arith) (differs b 59 m.2) m.0 (differs b 34 m.1) h f

name_is : (end : LineEnd) (free : Bool) (here : ℕ) (bytes bs : List ℕ) → bytes ≡ 34 ∷ bs → free ≡ true → piece_at end free here bytes ≡ name_piece here bs (prefix_len is_name_byte bs)
name_is end free here bytes bs is f = ap (piece_at end free here) is ∙ name_first end free here (34 ∷ bs) (omega arith) refl f

name_found : (here : ℕ) (bs s rest : List ℕ) → bs ≡ s ++ rest → list_all is_name_byte s ≡ true → begins_with is_name_byte rest ≡ false → name_piece here bs (prefix_len is_name_byte bs) ≡ name_end here s rest
name_found here bs s rest is all stops =
    let n : prefix_len is_name_byte (s ++ rest) ≡ length s = prefix_run is_name_byte s rest all stops in
    ap (λ x. name_piece here x (prefix_len is_name_byte x)) is ∙ ap (name_piece here (s ++ rest)) n
    ∙ ap (λ x. name_end here x (drop (length s) (s ++ rest))) (take_at s rest (length s) refl) ∙ ap (name_end here s) (drop_at s rest (length s) refl)

abbrev made : LineEnd → ℕ → List ℕ → List ℕ → Piece
made end here front behind = cond (is_nil behind && is_open end) (no_token inside_word) (a_token (record { column = here; lexeme = word front }) behind)

word_found : (end : LineEnd) (here : ℕ) (w rest : List ℕ) → (rest ≡ [] → end ≢ line_end.Open) → word_piece end here (w ++ rest) (length w) ≡ a_token (record { column = here; lexeme = word w }) rest
word_found end here w rest h =
    ap (λ x. made end here (take (length w) (w ++ rest)) x) (drop_at w rest (length w) refl) ∙ ap (λ x. made end here x rest) (take_at w rest (length w) refl)
    ∙ ap (λ b. cond b (no_token inside_word) (a_token (record { column = here; lexeme = word w }) rest)) (closed rest end h)
  where
    closed : (bs : List ℕ) (e : LineEnd) → (bs ≡ [] → e ≢ line_end.Open) → (is_nil bs && is_open e) ≡ false
    closed (b ∷ bs) e k = refl
    closed [] line_end.Newline k = refl
    closed [] line_end.TextEnd k = refl
    closed [] line_end.Open k = absurd (k refl refl)

lexeme_one : (end : LineEnd) (free : Bool) (here : ℕ) (l : Lexeme) (behind bytes : List ℕ) → bytes ≡ lexeme_bytes l ++ behind → free ≡ true → IsWhole end l behind
    → a_token (record { column = here; lexeme = l }) behind ≡ piece_at end free here bytes
lexeme_one end free here (word w) behind bytes is f h =
    sym (word_is end free here bytes (first_of_word w behind bytes is h.0 h.1) f
    ∙ ap (λ x. word_piece end here x (prefix_len is_word_byte x)) is ∙ ap (word_piece end here (w ++ behind)) (prefix_run is_word_byte w behind h.1 h.2) ∙ word_found end here w behind h.3)
lexeme_one end free here (name s) behind bytes is f h =
    let inner : (s ++ 34 ∷ []) ++ behind ≡ s ++ 34 ∷ behind = append_assoc s (34 ∷ []) behind in
    sym (name_is end free here bytes ((s ++ 34 ∷ []) ++ behind) is f ∙ name_found here ((s ++ 34 ∷ []) ++ behind) s (34 ∷ behind) inner h refl)

all_one : (end : LineEnd) (here : ℕ) (bytes : List ℕ) → end ≡ line_end.Open → list_all is_word_byte bytes ≡ true → word_piece end here bytes (prefix_len is_word_byte bytes) ≡ no_token inside_word
all_one end here bytes o all =
    let n : prefix_len is_word_byte bytes ≡ length bytes = ap (prefix_len is_word_byte) (sym (append-nil bytes)) ∙ prefix_run is_word_byte bytes [] all refl in
    let none : drop (length bytes) bytes ≡ [] = ap (drop (length bytes)) (sym (append-nil bytes)) ∙ drop_at bytes [] (length bytes) refl in
    ap (word_piece end here bytes) n
    ∙ ap (λ x. cond (is_nil x && is_open end) (no_token inside_word) (a_token (record { column = here; lexeme = word (take (length bytes) bytes) }) (drop (length bytes) bytes))) none
    ∙ ap (λ e. cond (is_open e) (no_token inside_word) (a_token (record { column = here; lexeme = word (take (length bytes) bytes) }) (drop (length bytes) bytes))) o

-- a byte that begins nothing is of no other kind
nothing_is : (b : ℕ) → begins_nothing b ≡ true → (is_bracket b ≡ false) × ((b == 34) ≡ false) × ((b == 59) ≡ false) × (is_word_byte b ≡ false)
nothing_is b h =
    let outer = or_false (is_separator b || is_mark b) (is_word_byte b) (not_false (is_separator b || is_mark b || is_word_byte b) h) in
    let m = no_marks b (or_false (is_separator b) (is_mark b) outer.0).1 in
    (m.0, m.1, m.2, outer.1)

stray_one : (end : LineEnd) (free : Bool) (here : ℕ) (b : ℕ) (bs : List ℕ) → (is_bracket b ≡ true) ⊎ ((free ≡ false) × ((b == 34 || is_word_byte b) ≡ true)) → piece_at end free here (b ∷ bs) ≡ no_token (stray here)
stray_one end free here b bs (inl k) = bracket_first end free here (b ∷ bs) (omega arith) (λ e. let below = (bracket_is b k).1 in omega arith) k
stray_one end free here b bs (inr q) =
    ⊎_elim (λ e. quote_stray end free here (b ∷ bs) (omega arith) (eqb-true b 34 e) q.0)
    (λ w. let m = no_marks b (word_byte_is b w).1 in word_stray end free here (b ∷ bs) (omega arith) (differs b 59 m.2) m.0 (differs b 34 m.1) w q.0)
    (or_cases (b == 34) (is_word_byte b) q.1)

tail_one : (end : LineEnd) (free : Bool) (here : ℕ) (bytes : List ℕ) (t : Tail) → IsTail end free here bytes t → no_token t ≡ piece_at end free here bytes
tail_one end free here bytes over h =
    sym (⊎_elim (λ e. ap (piece_at end free here) e ∙ none_first end free here [] (omega arith)) (λ c. ap (piece_at end free here) c.1 ∙ comment_first end free here (59 ∷ c.0) (omega arith) refl) h)
tail_one end free here bytes inside_word h = sym (word_is end free here bytes (first_of_word bytes [] bytes (sym (append-nil bytes)) h.2 h.3) h.1 ∙ all_one end here bytes h.0 h.3)
tail_one end free here bytes (inside_name at) h =
    ap (λ k. no_token (inside_name k)) h.0 ∙ sym (name_is end free here bytes h.2 h.3 h.1 ∙ name_found here h.2 h.2 [] (sym (append-nil h.2)) h.4 refl)
tail_one end free here [] (bad at) h = absurd (cc h.1)
tail_one end free here (b ∷ bs) (bad at) h =
    let n = nothing_is b h.1 in
    ap (λ k. no_token (bad k)) h.0 ∙ sym (bad_first end free here (b ∷ bs) (omega arith) (differs b 59 n.2) n.0 (differs b 34 n.1) n.3)
tail_one end free here bytes (bad_in_name at k) h =
    ap (λ x. no_token (bad_in_name x k)) h.0 ∙ ap (λ x. no_token (bad_in_name here x)) h.9
    ∙ sym (name_is end free here bytes (h.2 ++ h.3 ∷ h.4) h.5 h.1 ∙ name_found here (h.2 ++ h.3 ∷ h.4) h.2 (h.3 ∷ h.4) refl h.6 h.7
    ∙ ap (λ v. cond v (a_token (record { column = here; lexeme = name h.2 }) h.4) (no_token (bad_in_name here (here + 1 + length h.2)))) (ne_eqb h.3 34 h.8))
tail_one end free here [] (stray at) h = absurd (⊎_elim (λ k. cc k) (λ q. cc q.1) h.1)
tail_one end free here (b ∷ bs) (stray at) h = ap (λ k. no_token (stray k)) h.0 ∙ sym (stray_one end free here b bs h.1)

there_one : (end : LineEnd) (free : Bool) (here : ℕ) (bytes : List ℕ) (p : Piece) → IsThere end free here bytes p → p ≡ piece_at end free here bytes
there_one end free here bytes (no_token t) h = tail_one end free here bytes t h
there_one end free here bytes (a_token t behind) h =
    ap (λ k. a_token (record { column = k; lexeme = t.lexeme }) behind) h.2 ∙ lexeme_one end free here t.lexeme behind bytes h.0 h.1 h.3

-- separators in front

free_is : (free : Bool) (bytes : List ℕ) (n : ℕ) → n ≤ length bytes → is_free free (take n bytes) ≡ (free || ltb 0 n)
free_is true bytes zero h = refl
free_is false bytes zero h = refl
free_is free [] (suc n) h = absurd (omega arith)
free_is true (b ∷ bs) (suc n) h = refl
free_is false (b ∷ bs) (suc n) h = sym (lt-ltb 0 (suc n) (omega arith))

next_is : (end : LineEnd) (free : Bool) (here : ℕ) (bytes blanks rest : List ℕ) (p : Piece) → bytes ≡ blanks ++ rest → list_all is_separator blanks ≡ true
    → IsThere end (is_free free blanks) (here + length blanks) rest p → p ≡ next_piece end free here bytes
next_is end free here bytes blanks rest p is all there =
    let n : prefix_len is_separator (blanks ++ rest) ≡ length blanks = prefix_run is_separator blanks rest all (there_first end (is_free free blanks) (here + length blanks) rest p there) in
    let front : take (length blanks) (blanks ++ rest) ≡ blanks = take_at blanks rest (length blanks) refl in
    let f : is_free free blanks ≡ (free || ltb 0 (length blanks)) = ap (is_free free) (sym front) ∙ free_is free (blanks ++ rest) (length blanks) (omega (arith, length-append blanks rest)) in
    there_one end (is_free free blanks) (here + length blanks) rest p there
    ∙ ap (λ x. piece_at end x (here + length blanks) rest) f
    ∙ ap (piece_at end (free || ltb 0 (length blanks)) (here + length blanks)) (sym (drop_at blanks rest (length blanks) refl))
    ∙ ap (piece_behind end free here (blanks ++ rest)) (sym n)
    ∙ ap (next_piece end free here) (sym is)

pub cuts_one : (ts : List Token) (end : LineEnd) (free : Bool) (here : ℕ) (bytes : List ℕ) (t : Tail) → Cuts end free here bytes ts t → cut end free here bytes ≡ record { tokens = ts; tail = t }
cuts_one [] end free here bytes t (blanks, rest, is, all, there) = cut_is end free here bytes (no_token t) (next_is end free here bytes blanks rest (no_token t) is all there)
cuts_one (first ∷ ts) end free here bytes t (blanks, behind, is, all, f, column, whole, rest) =
    cut_token end free here bytes first behind (next_is end free here bytes blanks (lexeme_bytes first.lexeme ++ behind) (a_token first behind) is all (refl, f, column, whole))
    ∙ ap (with_token first) (cuts_one ts end false (column_behind first) behind t rest)

-- what is computed is a cut

next_there : (end : LineEnd) (free : Bool) (here : ℕ) (bytes : List ℕ)
    → IsThere end (free || ltb 0 (prefix_len is_separator bytes)) (here + prefix_len is_separator bytes) (drop (prefix_len is_separator bytes) bytes) (next_piece end free here bytes)
next_there end free here bytes =
    at_sound end (free || ltb 0 (prefix_len is_separator bytes)) (here + prefix_len is_separator bytes) (drop (prefix_len is_separator bytes) bytes) (run_stops is_separator bytes)

parts_sound : (end : LineEnd) (free : Bool) (here n : ℕ) (bytes : List ℕ) (rest : Token → List ℕ → Parts) (p : Piece) → n ≡ prefix_len is_separator bytes
    → ((t : Token) (behind : List ℕ) → length behind < length bytes → Cuts end false (column_behind t) behind (rest t behind).tokens (rest t behind).tail)
    → IsWithin here bytes p → IsThere end (free || ltb 0 n) (here + n) (drop n bytes) p → Cuts end free here bytes (parts_of rest p).tokens (parts_of rest p).tail
parts_sound end free here n bytes rest p is cuts within there =
    let most : n ≤ length bytes = omega (arith, is, prefix_le is_separator bytes) in
    let whole : bytes ≡ take n bytes ++ drop n bytes = sym (take-append-drop n bytes) in
    let all : list_all is_separator (take n bytes) ≡ true = ap (λ k. list_all is_separator (take k bytes)) is ∙ run_all is_separator bytes in
    let counted : length (take n bytes) ≡ n = length-take-le n bytes most in
    go p whole all counted (free_is free bytes n most) within there
  where
    go : (q : Piece) → bytes ≡ take n bytes ++ drop n bytes → list_all is_separator (take n bytes) ≡ true → length (take n bytes) ≡ n → is_free free (take n bytes) ≡ (free || ltb 0 n)
        → IsWithin here bytes q → IsThere end (free || ltb 0 n) (here + n) (drop n bytes) q → Cuts end free here bytes (parts_of rest q).tokens (parts_of rest q).tail
    go (no_token t) whole all counted f w h =
        (take n bytes, drop n bytes, whole, all, subst (λ k. IsTail end (is_free free (take n bytes)) (here + k) (drop n bytes) t) (sym counted) (subst (λ x. IsTail end x (here + n) (drop n bytes) t) (sym f) h))
    go (a_token t behind) whole all counted f w h =
        (take n bytes, behind, whole ∙ ap (λ r. take n bytes ++ r) h.0, all, f ∙ h.1, h.2 ∙ ap (λ k. here + k) (sym counted), h.3, cuts t behind w.1)

pub cuts_in : (steps : ℕ) (end : LineEnd) (free : Bool) (here : ℕ) (bytes : List ℕ) → length bytes < steps
    → Cuts end free here bytes (cut_in steps end free here bytes).tokens (cut_in steps end free here bytes).tail
unfolding cut_in
cuts_in zero end free here bytes h = absurd (omega arith)
cuts_in (suc steps) end free here bytes h =
    parts_sound end free here (prefix_len is_separator bytes) bytes (λ t behind. cut_in steps end false (column_behind t) behind) (next_piece end free here bytes) refl
    (λ t behind less. cuts_in steps end false (column_behind t) behind (omega arith))
    (next_within end free here bytes) (next_there end free here bytes)

pub cuts_sound : (end : LineEnd) (free : Bool) (here : ℕ) (bytes : List ℕ) → Cuts end free here bytes (cut end free here bytes).tokens (cut end free here bytes).tail
cuts_sound end free here bytes = cuts_in (suc (length bytes)) end free here bytes (omega arith)
