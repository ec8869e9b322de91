-- What the tokens and the bytes make of what was read.
use Rattle.std.proofs.Common.{◌≡◌, ◌∙◌, ℕ, suc, ◌+◌, ◌<◌, get_or, drop, Bool, true, false, not, Option, Some, None, Result, Ok, Err, List, [], ◌∷◌, ◌++◌, length, take, refl, sym, ap, subst, append_assoc, append-nil, length-append}
use Rattle.std.specs.Prelude.{⊤}
use Rattle.std.proofs.lemmas.List.{map-append, take-append-drop}
use Rattle.std.proofs.Math.Seq.{take-append_seam, drop-cons}
use Rattle.std.proofs.lemmas.Option.{none-some, same_Some}
use Rattle.yices_grammar.specs.declared.Place.{Place}
use Rattle.yices_grammar.specs.Tokens.{Lexeme, word, white, comment, token, Firm, place_behind, behind_byte, is_word_byte}
use Rattle.yices_grammar.specs.Words.{is_bad_token}
use Rattle.yices_grammar.specs.Commands as grammar
use Rattle.yices_grammar.specs.Texts.{BeginsWith}
use Rattle.yices_grammar.specs.Faults.{FaultKind, bad_byte, bad_literal, unexpected, end_of_input, nesting, Fault, HasFault}
use Rattle.yices_grammar.specs.Machine as machine
use Rattle.yices_grammar.specs.Machine.{take_token}
use Rattle.yices_lexer.specs.Pieces.{break_of}
use Rattle.yices_lexer.specs.Bytes.{IsLexing, IsLexed, IsGoodEnded, is_ended, plain_ended}
use Rattle.yices_lexer.specs.declared.lexing.Lexing.{Lexing}
use Rattle.yices_lexer.specs.declared.lexing.Lexing.TheVariants as lexing
use Rattle.yices_lexer.specs.declared.lexing.Lexed.{Lexed}
use Rattle.yices_lexer.specs.declared.lexing.Lexed.TheVariants as lexed
use Rattle.yices_lexer.specs.declared.lexing.Ended.{Ended}
use Rattle.yices_lexer.specs.declared.cursor.Cursor.{Cursor}
use Rattle.yices_lexer.proofs.Cutting.{cond_yes, cond_no}
use Rattle.yices_lexer.proofs.Bytewise.{word_ends, comment_ends, white_ends, token_ends, word_at_end, comment_at_end, colon_at_end, string_at_end}
use Rattle.yices_commands.specs.Plain.{plain_command}
use Rattle.yices_parser.specs.Taking.{is_too_deep, state_of, depth_of, plain_commands, moved_of, IsBetween, IsTaken}
use Rattle.yices_commands.specs.declared.command.Command.{Command}
use Rattle.yices_parser.specs.declared.parser.Parser.{Parser}
use Rattle.yices_parser.specs.declared.parser.Taken.{Taken}
use Rattle.yices_parser.specs.declared.parser.TokenError.{TokenError}
use Rattle.yices_parser.specs.declared.parser.TokenError.TheVariants as token_error
use Rattle.yices_text.specs.declared.error.ReadError.{ReadError}
use Rattle.yices_text.specs.declared.error.ReadError.TheVariants.{NoMemory}
use Rattle.yices_text.specs.declared.scanner.Scanner.{Scanner}
use Rattle.yices_text.specs.Reached.{IsReached}
use Rattle.yices_text.specs.View.{says, listed, fault_of}
use Rattle.yices_text.specs.Waiting.{IsFaultOf}
use Rattle.yices_text.specs.Progress.{all_of, IsRead, IsAt, IsBefore, Stops, Advances, FirstIs, TakesToken, Makes, Feeds, Readies, Closes, Ends, token_fault_of}
use Rattle.yices_text.proofs.Verdict.{fault_at, no_step, token_fault}
use Rattle.yices_text.proofs.Faulting.{fault_token, fault_bytes, fault_string, fault_end}
use Rattle.yices_text.proofs.Reaching.{reached_start, reached_fed, reached_finished, reached_blank, reached_token, reached_begins, reached_whole, fault_fed}
use Rattle.yices_text.proofs.Piecing.{begins_on}

-- a fault of that kind there, by an error that stands for it
by_fault : (finished : Bool) (fed : List ℕ) (cs : List grammar.Command) (e : ReadError) (f : Fault) → fault_of e ≡ Some f → HasFault finished fed cs f → IsFaultOf finished fed cs e
by_fault finished fed cs e f h k = λ g i. subst (HasFault finished fed cs) (same_Some f g (sym h ∙ i)) k

no_fault : (finished : Bool) (fed : List ℕ) (cs : List grammar.Command) (e : ReadError) → fault_of e ≡ None → IsFaultOf finished fed cs e
no_fault finished fed cs e h = λ g i. absurd (none-some g (sym h ∙ i))

module _ (finished : Bool) (fed rest behind : List ℕ) (answered : List grammar.Command) (old : Scanner) (l : Lexeme) (r : IsRead finished fed rest answered old) where
  begins_here : BeginsWith fed (all_of answered old)
  begins_here = reached_begins finished fed rest old.first (all_of answered old) (state_of old.parser) (depth_of old.parser) r

  -- a token that isn't taken
  wrong_token : (k : FaultKind) → Firm finished (token l ∷ []) rest behind → token_fault (depth_of old.parser) (state_of old.parser) old.first l ≡ Some k → HasFault finished fed (all_of answered old) (fault_at old.first k)
  wrong_token k firm e = fault_token finished fed rest old.first (all_of answered old) (state_of old.parser) (depth_of old.parser) r l behind k firm e

  refused : (te : TokenError) (e : ReadError) → Firm finished (token l ∷ []) rest behind → IsTaken (depth_of old.parser) (state_of old.parser) old.first l (Err te) → fault_of e ≡ token_fault_of old.first te → IsFaultOf finished fed (all_of answered old) e
  unfolding token_fault
  refused token_error.BadLiteral e firm t h =
      by_fault finished fed (all_of answered old) e (fault_at old.first bad_literal) h (wrong_token bad_literal firm (cond_yes (is_bad_token l) _ _ t))
  refused token_error.Nesting e firm t h =
      by_fault finished fed (all_of answered old) e (fault_at old.first nesting) h (wrong_token nesting firm (cond_no (is_bad_token l) _ _ t.0 ∙ cond_yes (is_too_deep (depth_of old.parser) l) _ _ t.1))
  refused token_error.Unexpected e firm t h =
      by_fault finished fed (all_of answered old) e (fault_at old.first unexpected) h
      (wrong_token unexpected firm (cond_no (is_bad_token l) _ _ t.0.good ∙ cond_no (is_too_deep (depth_of old.parser) l) _ _ t.0.shallow ∙ ap no_step t.1))
  refused token_error.NoMemory e firm t h = no_fault finished fed (all_of answered old) e h

  stops_memory : IsFaultOf finished fed (all_of answered old) NoMemory
  stops_memory = no_fault finished fed (all_of answered old) NoMemory refl

-- the commands behind a token
says_more : (answered : List grammar.Command) (ws vs : List Command) (o : Option Command) → vs ≡ ws ++ listed o → (answered ++ says ws) ++ plain_commands o ≡ answered ++ says vs
says_more answered ws vs o h = append_assoc answered (says ws) (plain_commands o) ∙ ap (λ x. answered ++ x) (one o ∙ ap says (sym h))
  where
    one : (x : Option Command) → says ws ++ plain_commands x ≡ says (ws ++ listed x)
    one None = append-nil (says ws) ∙ ap says (sym (append-nil ws))
    one (Some c) = sym (map-append plain_command ws (c ∷ []))

pub takes_token : (old : Scanner) (l : Lexeme) (next : Place) (t : Taken) (vs : List Command) → IsTaken (depth_of old.parser) (state_of old.parser) old.first l (Ok t) → vs ≡ old.waiting ++ listed t.command
    → TakesToken old (record old { parser = t.parser; first = next; waiting = vs }) l next (Ok tt)
takes_token old l next t vs g h = record {
  lexing = refl;
  at = refl;
  first = refl;
  advances = λ finished fed rest behind answered r firm e.
      subst (λ cs. IsReached finished fed behind next cs (state_of t.parser) (depth_of t.parser)) (says_more answered old.waiting vs t.command h)
      (subst (λ d. IsReached finished fed behind next (all_of answered old ++ plain_commands t.command) (state_of t.parser) d) (sym g.depth)
      (reached_token finished fed rest old.first (all_of answered old) (state_of old.parser) (depth_of old.parser) r l behind next (moved_of t) firm e g.moved g.good.shallow));
}

pub refuses_token : (old : Scanner) (l : Lexeme) (next : Place) (p : Parser) (te : TokenError) (e : ReadError) → IsTaken (depth_of old.parser) (state_of old.parser) old.first l (Err te) → fault_of e ≡ token_fault_of old.first te
    → TakesToken old (record old { parser = p }) l next (Err e)
refuses_token old l next p te e g h = record {
  lexing = refl;
  at = refl;
  first = tt;
  advances = λ finished fed rest behind answered r firm k. record { fault = refused finished fed rest behind answered old l r te e firm g h; begins = begins_here finished fed rest behind answered old l r };
}

pub forgets_token : (old : Scanner) (l : Lexeme) (next : Place) (p : Parser) (vs : List Command) (e : ReadError) → vs ≡ old.waiting → e ≡ NoMemory → TakesToken old (record old { parser = p; waiting = vs }) l next (Err e)
forgets_token old l next p vs e h k = subst (λ x. TakesToken old (record old { parser = p; waiting = vs }) l next (Err x)) (sym k) (subst (λ x. TakesToken old (record old { parser = p; waiting = x }) l next (Err NoMemory)) (sym h) (record {
  lexing = refl;
  at = refl;
  first = tt;
  advances = λ finished fed rest behind answered r firm i. record { fault = stops_memory finished fed rest behind answered old l r; begins = begins_here finished fed rest behind answered old l r };
}))

-- a byte more
fed_on : (fed : List ℕ) (byte : ℕ) (answered : List grammar.Command) (c : Scanner) (r : IsAt false fed answered c) → IsRead false (fed ++ byte ∷ []) (r.rest ++ byte ∷ []) answered c
fed_on fed byte answered c r = reached_fed fed r.rest (byte ∷ []) c.first (all_of answered c) (state_of c.parser) (depth_of c.parser) r.read

pub ready_same : (fed : List ℕ) (byte : ℕ) (answered : List grammar.Command) (c : Scanner) → is_ended c.lexing byte ≡ false → IsAt false fed answered c → IsBefore fed byte answered c
ready_same fed byte answered c h r = record { rest = r.rest; read = fed_on fed byte answered c r; lexing = r.lexing; here = r.here; index = r.index; open_ = h }

pub ready_comment : (fed : List ℕ) (byte : ℕ) (answered : List grammar.Command) (c : Scanner) → is_ended c.lexing byte ≡ true → ((w : List ℕ) → c.lexing ≡ lexing.Word w → ⊥) → IsAt false fed answered c
    → IsBefore fed byte answered (record c { lexing = lexing.Blank; first = c.at.place })
ready_comment fed byte answered c h n r = go c.lexing refl h r.lexing
  where
    go : (l : Lexing) → c.lexing ≡ l → is_ended l byte ≡ true → IsLexing l r.rest → IsBefore fed byte answered (record c { lexing = lexing.Blank; first = c.at.place })
    go lexing.Blank e k i = absurd (cc k)
    go lexing.Colon e k i = absurd (cc k)
    go (lexing.Word w) e k i = absurd (n w e)
    go (lexing.Quoted bytes escaped) e k i = absurd (cc k)
    go lexing.Comment e k (bs, is, all) = record {
      rest = [];
      read = reached_blank false (fed ++ byte ∷ []) (r.rest ++ byte ∷ []) c.first (all_of answered c) (state_of c.parser) (depth_of c.parser) (fed_on fed byte answered c r) (comment bs) (byte ∷ []) c.at.place tt
          (subst (λ x. Firm false (comment bs ∷ []) (x ++ byte ∷ []) (byte ∷ [])) (sym is) (comment_ends byte bs all k)) (r.here ∙ ap (place_behind c.first) is);
      lexing = refl;
      here = refl;
      index = r.index;
      open_ = refl;
    }

pub ready_word : (fed : List ℕ) (byte : ℕ) (answered : List grammar.Command) (c new : Scanner) (w v : List ℕ) (x : Result ⊤ ReadError) → c.lexing ≡ lexing.Word w → v ≡ w → is_ended c.lexing byte ≡ true
    → TakesToken (record c { lexing = lexing.Blank }) new (word v) c.at.place x → IsAt false fed answered c → Readies fed byte answered new x
ready_word fed byte answered c new w v x e g h t r = go x t.first advanced
  where
    as_word : IsLexing (lexing.Word w) r.rest
    as_word = subst (λ l. IsLexing l r.rest) e r.lexing

    no_byte : is_word_byte byte ≡ false
    no_byte = not_word (is_word_byte byte) (subst (λ l. is_ended l byte ≡ true) e h)
      where
        not_word : (b : Bool) → not b ≡ true → b ≡ false
        not_word true k = absurd (cc k)
        not_word false k = refl

    advanced : Advances false (fed ++ byte ∷ []) (byte ∷ []) answered new x
    advanced = t.advances false (fed ++ byte ∷ []) (r.rest ++ byte ∷ []) (byte ∷ []) answered (fed_on fed byte answered c r)
        (subst (λ u. Firm false (token (word u) ∷ []) (r.rest ++ byte ∷ []) (byte ∷ [])) (sym g) (subst (λ u. Firm false (token (word w) ∷ []) (u ++ byte ∷ []) (byte ∷ [])) (sym as_word.0) (word_ends byte w as_word.1 as_word.2 no_byte)))
        (r.here ∙ ap (place_behind c.first) (as_word.0 ∙ sym g))

    go : (y : Result ⊤ ReadError) → FirstIs y new.first c.at.place → Advances false (fed ++ byte ∷ []) (byte ∷ []) answered new y → Readies fed byte answered new y
    go (Ok u) first read = record {
      rest = [];
      read = read;
      lexing = subst (λ l. IsLexing l []) (sym t.lexing) refl;
      here = ap (λ (a : Cursor). a.place) t.at ∙ sym first;
      index = ap (λ (a : Cursor). a.index) t.at ∙ r.index;
      open_ = ap (λ l. is_ended l byte) t.lexing;
    }
    go (Err k) first stops = stops

-- what a byte makes
module _ (fed : List ℕ) (byte : ℕ) (answered : List grammar.Command) (c : Scanner) (place : Place) where
  pub makes_more : (l : Lexing) → Makes fed byte answered c (lexed.Goes l) place → IsAt false (fed ++ byte ∷ []) answered (record c { lexing = l })
  makes_more l m = record { rest = m.rest ++ byte ∷ []; read = m.read; lexing = m.made; here = m.behind; index = m.index }

  pub makes_white : c.lexing ≡ lexing.Blank → Makes fed byte answered c lexed.White place → IsAt false (fed ++ byte ∷ []) answered (record c { first = c.at.place })
  makes_white b m = record {
    rest = [];
    read = reached_blank false (fed ++ byte ∷ []) (m.rest ++ byte ∷ []) c.first (all_of answered c) (state_of c.parser) (depth_of c.parser) m.read (white byte) [] c.at.place tt
        (subst (λ x. Firm false (white byte ∷ []) (x ++ byte ∷ []) []) (sym m.made.0) (white_ends false byte m.made.1)) (m.behind ∙ ap (λ x. place_behind c.first (x ++ byte ∷ [])) m.made.0);
    lexing = subst (λ l. IsLexing l []) (sym b) refl;
    here = refl;
    index = m.index;
  }

  pub makes_token : (new : Scanner) (t : Ended) (x : Result ⊤ ReadError) → c.lexing ≡ lexing.Blank → IsGoodEnded t → TakesToken c new (plain_ended t) c.at.place x → Makes fed byte answered c (lexed.Token t) place → Feeds (fed ++ byte ∷ []) answered new x
  makes_token new t x b good k m = go x k.first
      (k.advances false (fed ++ byte ∷ []) (m.rest ++ byte ∷ []) [] answered m.read (token_ends false t (m.rest ++ byte ∷ []) m.made good) (m.behind ∙ ap (place_behind c.first) m.made))
    where
      go : (y : Result ⊤ ReadError) → FirstIs y new.first c.at.place → Advances false (fed ++ byte ∷ []) [] answered new y → Feeds (fed ++ byte ∷ []) answered new y
      go (Ok u) first read = record {
        rest = [];
        read = read;
        lexing = subst (λ l. IsLexing l []) (sym (k.lexing ∙ b)) refl;
        here = ap (λ (a : Cursor). a.place) k.at ∙ sym first;
        index = ap (λ (a : Cursor). a.index) k.at ∙ m.index;
      }
      go (Err e) first stops = stops

  pub makes_bad : (e : ReadError) → fault_of e ≡ Some (record { kind = bad_byte; place = place }) → Makes fed byte answered c lexed.BadByte place → Stops false (fed ++ byte ∷ []) answered c e
  makes_bad e h m = record {
    fault = by_fault false (fed ++ byte ∷ []) (all_of answered c) e (fault_at place bad_byte) h
        (subst (λ p. HasFault false (fed ++ byte ∷ []) (all_of answered c) (fault_at p bad_byte)) (ap (place_behind c.first) (take-append_seam m.rest (byte ∷ [])) ∙ sym m.here)
        (fault_bytes false (fed ++ byte ∷ []) (m.rest ++ byte ∷ []) c.first (all_of answered c) (state_of c.parser) (depth_of c.parser) m.read (length m.rest) m.made));
    begins = reached_begins false (fed ++ byte ∷ []) (m.rest ++ byte ∷ []) c.first (all_of answered c) (state_of c.parser) (depth_of c.parser) m.read;
  }

  pub makes_alone : (e : ReadError) → fault_of e ≡ Some (record { kind = bad_byte; place = c.first }) → Makes fed byte answered c lexed.LoneColon place → Stops false (fed ++ byte ∷ []) answered c e
  makes_alone e h m = record {
    fault = by_fault false (fed ++ byte ∷ []) (all_of answered c) e (fault_at c.first bad_byte) h
        (fault_bytes false (fed ++ byte ∷ []) (m.rest ++ byte ∷ []) c.first (all_of answered c) (state_of c.parser) (depth_of c.parser) m.read 0 m.made);
    begins = reached_begins false (fed ++ byte ∷ []) (m.rest ++ byte ∷ []) c.first (all_of answered c) (state_of c.parser) (depth_of c.parser) m.read;
  }

behind_append : (xs ys : List ℕ) (from : Place) → place_behind from (xs ++ ys) ≡ place_behind (place_behind from xs) ys
behind_append [] ys from = refl
behind_append (x ∷ xs) ys from = behind_append xs ys (behind_byte from x)

-- from the state before a byte to what it makes
pub before_makes : (fed : List ℕ) (byte : ℕ) (answered : List grammar.Command) (c : Scanner) (at : Cursor) (l : Lexed) → at.index ≡ c.at.index + length (byte ∷ []) → at.place ≡ place_behind c.at.place (byte ∷ [])
    → ((rest : List ℕ) → IsLexing c.lexing rest → IsLexed rest byte l) → IsBefore fed byte answered c → Makes fed byte answered (record c { lexing = lexing.Blank; at = at }) l c.at.place
before_makes fed byte answered c at l i p makes r = record {
  rest = r.rest;
  read = r.read;
  made = makes r.rest r.lexing;
  here = r.here;
  behind = p ∙ ap (λ x. place_behind x (byte ∷ [])) r.here ∙ sym (behind_append r.rest (byte ∷ []) c.first);
  index = i ∙ ap (λ n. n + length (byte ∷ [])) r.index ∙ sym (length-append fed (byte ∷ []));
}

pub stops_before : (fed : List ℕ) (byte : ℕ) (answered : List grammar.Command) (c new : Scanner) (e : ReadError) → e ≡ NoMemory → new.waiting ≡ c.waiting → IsBefore fed byte answered c → Stops false (fed ++ byte ∷ []) answered new e
stops_before fed byte answered c new e h w r = record {
  fault = no_fault false (fed ++ byte ∷ []) (all_of answered new) e (ap fault_of h);
  begins = subst (λ ws. BeginsWith (fed ++ byte ∷ []) (answered ++ says ws)) (sym w) (reached_begins false (fed ++ byte ∷ []) (r.rest ++ byte ∷ []) c.first (all_of answered c) (state_of c.parser) (depth_of c.parser) r.read);
}

-- a fault stays where the text goes on
pub stops_on : (fed more : List ℕ) (answered : List grammar.Command) (c : Scanner) (e : ReadError) → Stops false fed answered c e → Stops false (fed ++ more) answered c e
stops_on fed more answered c e s = record { fault = λ f h. fault_fed fed more (all_of answered c) f (s.fault f h); begins = begins_on fed more (all_of answered c) s.begins }

-- and behind a byte of a piece, at the end of the piece
bytes_split : (fed piece : List ℕ) (i : ℕ) → i < length piece → ((fed ++ take i piece) ++ get_or piece i 0 ∷ []) ++ drop (suc i) piece ≡ fed ++ piece
bytes_split fed piece i h =
    append_assoc (fed ++ take i piece) (get_or piece i 0 ∷ []) (drop (suc i) piece) ∙ append_assoc fed (take i piece) (get_or piece i 0 ∷ drop (suc i) piece)
    ∙ ap (λ t. fed ++ (take i piece ++ t)) (sym (drop-cons piece i 0 h)) ∙ ap (λ t. fed ++ t) (take-append-drop i piece)

pub stops_within : (fed piece : List ℕ) (i : ℕ) (answered : List grammar.Command) (c : Scanner) (e : ReadError) → i < length piece → Stops false ((fed ++ take i piece) ++ get_or piece i 0 ∷ []) answered c e → Stops false (fed ++ piece) answered c e
stops_within fed piece i answered c e h s = subst (λ t. Stops false t answered c e) (bytes_split fed piece i h) (stops_on ((fed ++ take i piece) ++ get_or piece i 0 ∷ []) (drop (suc i) piece) answered c e s)

-- the end of the text
module _ (fed : List ℕ) (answered : List grammar.Command) (c : Scanner) (r : IsAt true fed answered c) where
  begins_at : BeginsWith fed (all_of answered c)
  begins_at = reached_begins true fed r.rest c.first (all_of answered c) (state_of c.parser) (depth_of c.parser) r.read

  pub closes_blank : c.lexing ≡ lexing.Blank → Closes fed answered (record c { lexing = lexing.Blank; first = c.at.place }) (Ok tt)
  closes_blank e =
      let none : r.rest ≡ [] = subst (λ l. IsLexing l r.rest) e r.lexing in
      let same : c.at.place ≡ c.first = r.here ∙ ap (place_behind c.first) none in (
        subst (λ p. IsReached true fed [] p (all_of answered c) (state_of c.parser) (depth_of c.parser)) (sym same)
            (subst (λ t. IsReached true fed t c.first (all_of answered c) (state_of c.parser) (depth_of c.parser)) none r.read),
        refl,
        r.index,
        refl,
      )

  pub closes_comment : c.lexing ≡ lexing.Comment → Closes fed answered (record c { lexing = lexing.Blank; first = c.at.place }) (Ok tt)
  closes_comment e =
      let (bs, is, all) : IsLexing lexing.Comment r.rest = subst (λ l. IsLexing l r.rest) e r.lexing in (
        reached_blank true fed r.rest c.first (all_of answered c) (state_of c.parser) (depth_of c.parser) r.read (comment bs) [] c.at.place tt
            (subst (λ t. Firm true (comment bs ∷ []) t []) (sym is) (comment_at_end bs all)) (r.here ∙ ap (place_behind c.first) is),
        refl,
        r.index,
        refl,
      )

  pub closes_colon : (e : ReadError) → c.lexing ≡ lexing.Colon → fault_of e ≡ Some (record { kind = bad_byte; place = c.first }) → Stops true fed answered (record c { lexing = lexing.Blank }) e
  closes_colon e h k = record {
    fault = by_fault true fed (all_of answered c) e (fault_at c.first bad_byte) k
        (fault_bytes true fed r.rest c.first (all_of answered c) (state_of c.parser) (depth_of c.parser) r.read 0 (ap (break_of true) (subst (λ l. IsLexing l r.rest) h r.lexing) ∙ colon_at_end));
    begins = begins_at;
  }

  pub closes_string : (bytes : List ℕ) (escaped : Bool) (e : ReadError) → c.lexing ≡ lexing.Quoted bytes escaped → fault_of e ≡ Some (record { kind = end_of_input; place = c.at.place }) → Stops true fed answered (record c { lexing = lexing.Blank }) e
  closes_string bytes escaped e h k =
      let l : IsLexing (lexing.Quoted bytes escaped) r.rest = subst (λ x. IsLexing x r.rest) h r.lexing in
      record {
        fault = by_fault true fed (all_of answered c) e (fault_at c.at.place end_of_input) k
            (subst (λ p. HasFault true fed (all_of answered c) (fault_at p end_of_input)) (sym r.here)
            (fault_string true fed r.rest c.first (all_of answered c) (state_of c.parser) (depth_of c.parser) r.read (ap (break_of true) l.0 ∙ string_at_end bytes escaped l.1)));
        begins = begins_at;
      }

  pub closes_word : (new : Scanner) (w v : List ℕ) (x : Result ⊤ ReadError) → c.lexing ≡ lexing.Word w → v ≡ w → TakesToken (record c { lexing = lexing.Blank }) new (word v) c.at.place x → Closes fed answered new x
  closes_word new w v x h g t =
      let l : IsLexing (lexing.Word w) r.rest = subst (λ y. IsLexing y r.rest) h r.lexing in
      go x t.first
      (t.advances true fed r.rest [] answered r.read
      (subst (λ u. Firm true (token (word u) ∷ []) r.rest []) (sym g) (subst (λ u. Firm true (token (word w) ∷ []) u []) (sym l.0) (word_at_end w l.1 l.2)))
      (r.here ∙ ap (place_behind c.first) (l.0 ∙ sym g)))
    where
      go : (y : Result ⊤ ReadError) → FirstIs y new.first c.at.place → Advances true fed [] answered new y → Closes fed answered new y
      go (Ok u) first read = (read, ap (λ (a : Cursor). a.place) t.at ∙ sym first, ap (λ (a : Cursor). a.index) t.at ∙ r.index, t.lexing)
      go (Err e) first stops = stops

between_is : (s : machine.State) → IsBetween s → s ≡ machine.between
between_is machine.between h = refl
between_is (machine.inside m) h = absurd h

not_between : (s : machine.State) → (IsBetween s → ⊥) → s ≡ machine.between → ⊥
not_between machine.between h e = h tt
not_between (machine.inside m) h e = cc e

pub ends_between : (fed : List ℕ) (answered : List grammar.Command) (c : Scanner) → IsBetween (state_of c.parser) → Closes fed answered c (Ok tt) → Ends fed answered c (Ok tt)
ends_between fed answered c h (read, here, index, blank) = (
  record { rest = []; read = read; lexing = subst (λ l. IsLexing l []) (sym blank) refl; here = here; index = index },
  reached_whole true fed [] c.first (all_of answered c) (depth_of c.parser) (subst (λ s. IsReached true fed [] c.first (all_of answered c) s (depth_of c.parser)) (between_is (state_of c.parser) h) read) refl,
)

pub ends_inside : (fed : List ℕ) (answered : List grammar.Command) (c : Scanner) (e : ReadError) → (IsBetween (state_of c.parser) → ⊥) → fault_of e ≡ Some (record { kind = end_of_input; place = c.at.place }) → Closes fed answered c (Ok tt)
    → Stops true fed answered c e
ends_inside fed answered c e h k (read, here, index, blank) = record {
  fault = by_fault true fed (all_of answered c) e (fault_at c.at.place end_of_input) k
      (subst (λ p. HasFault true fed (all_of answered c) (fault_at p end_of_input)) (sym here)
      (fault_end true fed [] c.first (all_of answered c) (state_of c.parser) (depth_of c.parser) read refl refl (not_between (state_of c.parser) h)));
  begins = reached_begins true fed [] c.first (all_of answered c) (state_of c.parser) (depth_of c.parser) read;
}

-- at the start, and where the text is known to end
pub at_start : (c : Scanner) → c.lexing ≡ lexing.Blank → c.at.index ≡ 0 → c.at.place ≡ record { line = 1; column = 1 } → c.first ≡ c.at.place → depth_of c.parser ≡ 0 → state_of c.parser ≡ machine.between → c.waiting ≡ [] → IsAt false [] [] c
at_start c l i p f d s w = record {
  rest = [];
  read = subst (λ x. IsReached false [] [] c.first (says x) (state_of c.parser) (depth_of c.parser)) (sym w)
      (subst (λ x. IsReached false [] [] x [] (state_of c.parser) (depth_of c.parser)) (sym (f ∙ p))
      (subst (λ x. IsReached false [] [] (record { line = 1; column = 1 }) [] x (depth_of c.parser)) (sym s)
      (subst (λ x. IsReached false [] [] (record { line = 1; column = 1 }) [] machine.between x) (sym d) reached_start)));
  lexing = subst (λ x. IsLexing x []) (sym l) refl;
  here = sym f;
  index = i;
}

pub at_end : (finished : Bool) (fed : List ℕ) (answered : List grammar.Command) (c : Scanner) → IsAt finished fed answered c → IsAt true fed answered c
at_end finished fed answered c r = record {
  rest = r.rest;
  read = reached_finished finished fed r.rest c.first (all_of answered c) (state_of c.parser) (depth_of c.parser) r.read;
  lexing = r.lexing;
  here = r.here;
  index = r.index;
}
