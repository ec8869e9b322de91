-- What each byte makes of what was read, and what is known where the bytes end.
use Rattle.std.proofs.Common.{◌≡◌, ◌∙◌, ℕ, suc, zero, ◌<◌, Bool, true, false, not, ◌&&◌, ◌||◌, Some, None, List, [], ◌∷◌, ◌++◌, length, get_or, ltb, refl, sym, ap, subst, inl, inr, arith, append-nil, append_assoc, length-append}
use Rattle.std.specs.Prelude.{◌==◌}
use Rattle.std.specs.List.{list_all}
use Rattle.std.specs.Str.{IsUtf8}
use Rattle.std.proofs.lemmas.Bool.{ne_eqb, eqb-true, not-true, and_parts, ltb-true}
use Rattle.std.proofs.lemmas.Str.{IsUtf8-from_ascii}
use Rattle.yices_grammar.specs.Tokens.{word, white, comment, token, Firm, lexeme_bytes, is_white, is_mark, is_word_byte, is_in_line, is_content, is_content_from, begins_with}
use Rattle.yices_grammar.specs.Faults.{begins_nothing}
use Rattle.yices_lexer.specs.Pieces.{unclosed, later, content_step, scan, passes, first_cut, string_cut, string_break, bad, ends, break_of}
use Rattle.yices_lexer.specs.Found.{IsOpen}
use Rattle.yices_lexer.specs.Bytes.{IsLexing, IsLexed, IsHeldLexed, plain_ended, IsGoodEnded}
use Rattle.yices_lexer.specs.declared.lexing.Lexing.{Lexing}
use Rattle.yices_lexer.specs.declared.lexing.Lexing.TheVariants as lexing
use Rattle.yices_lexer.specs.declared.lexing.Ended.{Ended}
use Rattle.yices_lexer.specs.declared.lexing.Ended.TheVariants as ended
use Rattle.yices_lexer.specs.declared.lexing.Lexed.TheVariants as lexed
use Rattle.yices_lexer.proofs.Cutting.{cond_yes, cond_no, or_from, first_is}
use Rattle.yices_lexer.proofs.Strings.{content_ascii}
use Rattle.yices_lexer.proofs.Breaking.{passes_content, scan_behind, passes_append, stuck_scan, ending}

no_marks : (b : ℕ) → (b ≡ 40 → ⊥) → (b ≡ 41 → ⊥) → (b ≡ 34 → ⊥) → (b ≡ 59 → ⊥) → (b ≡ 58 → ⊥) → is_mark b ≡ false
no_marks b h k q c d = rw (ne_eqb b 40 h, ne_eqb b 41 k, ne_eqb b 34 q, ne_eqb b 59 c, ne_eqb b 58 d) refl

nothing : (b : ℕ) → is_white b ≡ false → is_mark b ≡ false → is_word_byte b ≡ false → begins_nothing b ≡ true
nothing b h k w = ap not (or_from (is_white b || is_mark b) (is_word_byte b) (or_from (is_white b) (is_mark b) h k) w)

all_ascii : (bs : List ℕ) → list_all is_word_byte bs ≡ true → (i : ℕ) → get_or bs i 0 < 128
all_ascii [] h i = omega arith
all_ascii (b ∷ bs) h zero =
    let parts = and_parts (is_word_byte b) (list_all is_word_byte bs) h in
    let below = ltb-true b 127 (and_parts (ltb 32 b) (ltb b 127) (and_parts (ltb 32 b && ltb b 127) (not (is_mark b)) parts.0).0).1 in
    omega arith
all_ascii (b ∷ bs) h (suc i) = all_ascii bs (and_parts (is_word_byte b) (list_all is_word_byte bs) h).1 i

all_more : (test : ℕ → Bool) (bs : List ℕ) (b : ℕ) → list_all test bs ≡ true → test b ≡ true → list_all test (bs ++ b ∷ []) ≡ true
all_more test [] b h k = rw k refl
all_more test (c ∷ bs) b h k = let parts = and_parts (test c) (list_all test bs) h in rw (parts.0, all_more test bs b parts.1 k) refl

-- the first byte
module _ (b : ℕ) (rest : List ℕ) (none : rest ≡ []) where
  alone : rest ++ b ∷ [] ≡ b ∷ []
  alone = ap (λ r. r ++ b ∷ []) none

  pub white_first : is_white b ≡ true → IsLexed rest b lexed.White
  white_first h = (none, h)

  pub comment_first : b ≡ 59 → IsLexed rest b (lexed.Goes lexing.Comment)
  comment_first h = ([], alone ∙ ap (λ x. x ∷ []) h, refl)

  pub open_first : b ≡ 40 → IsLexed rest b (lexed.Token ended.Open)
  open_first h = alone ∙ ap (λ x. x ∷ []) h

  pub close_first : b ≡ 41 → IsLexed rest b (lexed.Token ended.Close)
  close_first h = alone ∙ ap (λ x. x ∷ []) h

  pub quote_first : (bytes : List ℕ) → b ≡ 34 → bytes ≡ [] → IsLexed rest b (lexed.Goes (lexing.Quoted bytes false))
  quote_first bytes h e = (alone ∙ ap (λ x. x ∷ []) h ∙ ap (λ x. 34 ∷ x) (sym e), ap (passes false) e)

  pub colon_first : b ≡ 58 → IsLexed rest b (lexed.Goes lexing.Colon)
  colon_first h = alone ∙ ap (λ x. x ∷ []) h

  pub word_first : (w v : List ℕ) → is_word_byte b ≡ true → v ≡ [] → w ≡ v ++ b ∷ [] → IsLexed rest b (lexed.Goes (lexing.Word w))
  word_first w v h e k =
      let is : w ≡ b ∷ [] = k ∙ ap (λ x. x ++ b ∷ []) e in
      (alone ∙ sym is, subst (λ x. 0 < length x) (sym is) (omega arith), subst (λ x. list_all is_word_byte x ≡ true) (sym is) (rw h refl))

  pub bad_first : is_white b ≡ false → (b ≡ 59 → ⊥) → (b ≡ 40 → ⊥) → (b ≡ 41 → ⊥) → (b ≡ 34 → ⊥) → (b ≡ 58 → ⊥) → is_word_byte b ≡ false → IsLexed rest b lexed.BadByte
  unfolding break_of
  bad_first w s o c q m n =
      ap (break_of false) alone ∙ cond_no (b == 34) _ _ (ne_eqb b 34 q) ∙ cond_no (b == 58) _ _ (ne_eqb b 58 m) ∙ cond_yes (begins_nothing b) _ _ (nothing b w (no_marks b o c q s m) n)
      ∙ ap (λ r. Some (bad (length r))) (sym none)

-- behind a colon
module _ (b : ℕ) (rest : List ℕ) (colon : rest ≡ 58 ∷ []) where
  pub mark_second : b ≡ 58 → IsLexed rest b (lexed.Token ended.Mark)
  mark_second h = ap (λ r. r ++ b ∷ []) colon ∙ ap (λ x. 58 ∷ x ∷ []) h

  pub mark_alone : (b ≡ 58 → ⊥) → IsLexed rest b lexed.LoneColon
  unfolding break_of
  mark_alone h = ap (λ r. break_of false (r ++ b ∷ [])) colon ∙ cond_no (b == 58) _ _ (ne_eqb b 58 h)

-- in a word, and in a comment
pub word_more : (b : ℕ) (rest w v : List ℕ) → is_word_byte b ≡ true → v ≡ w ++ b ∷ [] → IsLexing (lexing.Word w) rest → IsLexed rest b (lexed.Goes (lexing.Word v))
word_more b rest w v h e (is, some, all) =
    (ap (λ r. r ++ b ∷ []) is ∙ sym e, subst (λ x. 0 < length x) (sym e) (omega (arith, length-append w (b ∷ []))), subst (λ x. list_all is_word_byte x ≡ true) (sym e) (all_more is_word_byte w b all h))

pub comment_more : (b : ℕ) (rest : List ℕ) → (b == 10) ≡ false → IsLexing lexing.Comment rest → IsLexed rest b (lexed.Goes lexing.Comment)
comment_more b rest h (bs, is, all) = (bs ++ b ∷ [], ap (λ r. r ++ b ∷ []) is, all_more is_in_line bs b all (ap not h))

pub word_first_held : (b : ℕ) (w v : List ℕ) → is_word_byte b ≡ true → v ≡ [] → w ≡ v ++ b ∷ [] → IsHeldLexed (lexed.Goes (lexing.Word w))
word_first_held b w v h e k = subst (λ x. list_all is_word_byte x ≡ true) (sym (k ∙ ap (λ x. x ++ b ∷ []) e)) (rw h refl)

pub quote_first_held : (bytes : List ℕ) → bytes ≡ [] → IsHeldLexed (lexed.Goes (lexing.Quoted bytes false))
quote_first_held bytes e = ap (passes false) e

pub word_more_held : (b : ℕ) (w v : List ℕ) → list_all is_word_byte w ≡ true → is_word_byte b ≡ true → v ≡ w ++ b ∷ [] → IsHeldLexed (lexed.Goes (lexing.Word v))
word_more_held b w v all h e = subst (λ x. list_all is_word_byte x ≡ true) (sym e) (all_more is_word_byte w b all h)

-- in a string
content_closed : (bytes : List ℕ) → passes false bytes ≡ Some false → is_content bytes ≡ true
unfolding ending
content_closed bytes h = subst (λ x. is_content_from false x ≡ true) (append-nil bytes) (passes_content false false bytes h)

module _ (b : ℕ) (rest bytes : List ℕ) (escaped : Bool) where
  pub string_closes : (not escaped && b == 34) ≡ true → IsLexing (lexing.Quoted bytes escaped) rest → IsLexed rest b (lexed.Token (ended.Quoted bytes))
  string_closes h (is, passed) = ap (λ r. r ++ b ∷ []) is ∙ ap (λ x. 34 ∷ bytes ++ x ∷ []) (eqb-true b 34 (and_parts (not escaped) (b == 34) h).1)

  pub string_closed_held : (not escaped && b == 34) ≡ true → passes false bytes ≡ Some escaped → IsHeldLexed (lexed.Token (ended.Quoted bytes))
  string_closed_held h passed = content_closed bytes (passed ∙ ap Some (not-true escaped (and_parts (not escaped) (b == 34) h).0))

  pub string_more_held : (next : Bool) (more : List ℕ) → content_step escaped b ≡ Some next → more ≡ bytes ++ b ∷ [] → passes false bytes ≡ Some escaped → IsHeldLexed (lexed.Goes (lexing.Quoted more next))
  string_more_held next more h e passed = ap (passes false) e ∙ passes_append false escaped bytes b passed ∙ h

  pub string_more : (next : Bool) (more : List ℕ) → content_step escaped b ≡ Some next → more ≡ bytes ++ b ∷ [] → IsLexing (lexing.Quoted bytes escaped) rest → IsLexed rest b (lexed.Goes (lexing.Quoted more next))
  string_more next more h e (is, passed) = (ap (λ r. r ++ b ∷ []) is ∙ ap (λ x. 34 ∷ x) (sym e), ap (passes false) e ∙ passes_append false escaped bytes b passed ∙ h)

  pub string_breaks : (not escaped && b == 34) ≡ false → content_step escaped b ≡ None → IsLexing (lexing.Quoted bytes escaped) rest → IsLexed rest b lexed.BadByte
  unfolding break_of
  string_breaks h e (is, passed) =
      ap (λ r. break_of false (r ++ b ∷ [])) is
      ∙ ap (string_break false) (scan_behind false escaped bytes (b ∷ []) passed ∙ ap (later (length bytes)) (stuck_scan escaped b [] h e))
      ∙ ap (λ n. Some (bad n)) (omega (arith, size)) ∙ ap (λ r. Some (bad (length r))) (sym is)
    where
      size : length (34 ∷ bytes) ≡ suc (length bytes)
      size = omega arith

-- what ends before a byte
pub word_ends : (b : ℕ) (w : List ℕ) → 0 < length w → list_all is_word_byte w ≡ true → is_word_byte b ≡ false → Firm false (token (word w) ∷ []) (w ++ b ∷ []) (b ∷ [])
word_ends b w some all h = λ more g. (b ∷ more, append_assoc w (b ∷ []) more, (some, record { each = all; longest = h }), refl)

pub comment_ends : (b : ℕ) (bs : List ℕ) → list_all is_in_line bs ≡ true → (b == 10) ≡ true → Firm false (comment bs ∷ []) (59 ∷ bs ++ b ∷ []) (b ∷ [])
comment_ends b bs all h = λ more g. (b ∷ more, ap (λ x. 59 ∷ x) (append_assoc bs (b ∷ []) more), record { each = all; longest = ap not h }, refl)

-- what ends with its last byte
pub white_ends : (finished : Bool) (b : ℕ) → is_white b ≡ true → Firm finished (white b ∷ []) (b ∷ []) []
white_ends finished b h = λ more g. (more, refl, h, refl)

pub token_ends : (finished : Bool) (t : Ended) (bytes : List ℕ) → bytes ≡ lexeme_bytes (plain_ended t) → IsGoodEnded t → Firm finished (token (plain_ended t) ∷ []) bytes []
token_ends finished ended.Open bytes e g = λ more k. (more, ap (λ x. x ++ more) e, tt, refl)
token_ends finished ended.Close bytes e g = λ more k. (more, ap (λ x. x ++ more) e, tt, refl)
token_ends finished ended.Mark bytes e g = λ more k. (more, ap (λ x. x ++ more) e, tt, refl)
token_ends finished (ended.Quoted s) bytes e g = λ more k. (more, ap (λ x. x ++ more) e, g, refl)

-- the start of a content is no whole string
unclosed_scan : (escaped : Bool) (bytes : List ℕ) → passes false bytes ≡ Some escaped → scan false bytes ≡ unclosed
unfolding scan
unclosed_scan escaped bytes h = ap (scan false) (sym (append-nil bytes)) ∙ scan_behind false escaped bytes [] h

-- what the end of the text ends
no_more : (test : ℕ → Bool) (more : List ℕ) → more ≡ [] → begins_with test more ≡ false
no_more test more e = ap (begins_with test) e

pub word_at_end : (w : List ℕ) → 0 < length w → list_all is_word_byte w ≡ true → Firm true (token (word w) ∷ []) w []
word_at_end w some all = λ more g. (more, refl, (some, record { each = all; longest = no_more is_word_byte more (g refl) }), refl)

pub comment_at_end : (bs : List ℕ) → list_all is_in_line bs ≡ true → Firm true (comment bs ∷ []) (59 ∷ bs) []
comment_at_end bs all = λ more g. (more, refl, record { each = all; longest = no_more is_in_line more (g refl) }, refl)

pub colon_at_end : break_of true (58 ∷ []) ≡ Some (bad 0)
unfolding break_of
colon_at_end = refl

pub string_at_end : (bytes : List ℕ) (escaped : Bool) → passes false bytes ≡ Some escaped → break_of true (34 ∷ bytes) ≡ Some ends
unfolding break_of
string_at_end bytes escaped h = ap (string_break true) (unclosed_scan escaped bytes h)

-- what was read has to go on before it is known
pub is_open : (l : Lexing) (rest : List ℕ) → IsLexing l rest → IsOpen rest
unfolding first_cut break_of
is_open lexing.Blank rest e = inl (ap first_cut e, ap (break_of false) e)
is_open lexing.Comment rest (bs, e, all) =
    inr (comment bs, tt, ap first_cut (e ∙ ap (λ x. 59 ∷ x) (sym (append-nil bs))) ∙ first_is (comment bs) [] (record { each = all; longest = refl }))
is_open lexing.Colon rest e = inl (ap first_cut e, ap (break_of false) e)
is_open (lexing.Word w) rest (e, some, all) = inr (token (word w), tt, ap first_cut (e ∙ sym (append-nil w)) ∙ first_is (token (word w)) [] (some, record { each = all; longest = refl }))
is_open (lexing.Quoted bytes escaped) rest (e, passed) =
    let open_ = unclosed_scan escaped bytes passed in
    inl (ap first_cut e ∙ ap (λ x. string_cut x bytes) open_, ap (break_of false) e ∙ ap (string_break false) open_)

-- texts of words and strings
pub word_utf8 : (w : List ℕ) → list_all is_word_byte w ≡ true → IsUtf8 w
word_utf8 w h = IsUtf8-from_ascii w (all_ascii w h)

pub string_utf8 : (s : List ℕ) → is_content s ≡ true → IsUtf8 s
string_utf8 s h = IsUtf8-from_ascii s (content_ascii false s h)
