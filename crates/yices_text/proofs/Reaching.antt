-- What a text holds, as far as it was read.
use Rattle.std.proofs.Common.{◌≡◌, ◌∙◌, ℕ, ◌≤◌, Bool, true, false, Some, List, [], ◌∷◌, ◌++◌, ◌⊎◌, length, refl, sym, ap, subst, inl, inr, ⊎_elim, arith, append_assoc, append-nil, length-append}
use Rattle.std.proofs.lemmas.Option.{same_Some, none-some}
use Rattle.std.proofs.lemmas.List.{map-append}
use Rattle.yices_grammar.specs.declared.Place.{Place}
use Rattle.yices_grammar.specs.Tokens.{Lexeme, open_bracket, close_bracket, typing_mark, word, string, Token, Piece, white, comment, token, Cuts, GoesOn, Firm, begins_with, is_word_byte, is_in_line, piece_bytes, lexeme_bytes, place_behind, tokens_from, start, end_place}
use Rattle.yices_grammar.specs.Commands.{Command}
use Rattle.yices_grammar.specs.Reading.{SpellsCommands}
use Rattle.yices_grammar.specs.Texts.{IsShallow, AreCommands, Reads, BeginsWith, lexemes}
use Rattle.yices_grammar.specs.Faults.{FaultKind, bad_byte, bad_literal, unexpected, end_of_input, nesting, Fault, IsLoneColon, IsBadByte, IsNext, IsNextToken, Fails, HasFault}
use Rattle.yices_grammar.specs.Laws.{closed_at}
use Rattle.yices_grammar.specs.Parts.{Item, Maker}
use Rattle.yices_grammar.specs.Machine.{State, between, Moved, left_of, step, settled, take_token, after, run}
use Rattle.yices_grammar.proofs.Running.{after_some, run_append, commands_run, commands_sound, run_parts}
use Rattle.yices_grammar.proofs.Ends.{commands_end}
use Rattle.yices_lexer.specs.Pieces.{first_cut}
use Rattle.yices_lexer.specs.Found.{IsBlank, MayGrow, IsOpen}
use Rattle.yices_lexer.proofs.Cutting.{cut_first, same_cut, compare_cuts, cuts_append, tokens_append, end_append}
use Rattle.yices_lexer.proofs.Breaking.{break_cut, bad_byte_break}
use Rattle.yices_parser.specs.Taking.{depth_behind, is_too_deep}
use Rattle.yices_text.specs.Reached.{depths, IsReached}
use Rattle.yices_text.specs.View.{HoldsNoMore}
use Rattle.yices_text.specs.Waiting.{Waits}
use Rattle.yices_text.proofs.Verdict.{verdict, piece_verdict, break_verdict}
use Rattle.yices_text.proofs.Faulting.{shallow_append, shallow_front, within_shallow, depths_append}
use Rattle.yices_text.proofs.Unique.{depth_at, Behind, fault_state, fault_behind, fault_verdict, not_before, cuts_behind, nothing_behind, run_grows}

pub reached_start : IsReached false [] [] start [] between 0
unfolding run depths
reached_start = record { pieces = []; firm = λ more h. refl; here = refl; ran = refl; shallow = tt; brackets = refl }

-- the text goes on
pub reached_fed : (fed rest piece : List ℕ) (place : Place) (answered : List Command) (s : State) (d : ℕ) → IsReached false fed rest place answered s d → IsReached false (fed ++ piece) (rest ++ piece) place answered s d
reached_fed fed rest piece place answered s d r = record {
  pieces = r.pieces;
  firm = λ more h. subst (λ t. Cuts r.pieces t ((rest ++ piece) ++ more)) (sym (append_assoc fed piece more))
      (subst (Cuts r.pieces (fed ++ (piece ++ more))) (sym (append_assoc rest piece more)) (r.firm (piece ++ more) (λ e. absurd (cc e))));
  here = r.here;
  ran = r.ran;
  shallow = r.shallow;
  brackets = r.brackets;
}

-- the text is at its end
pub reached_finished : (finished : Bool) (fed rest : List ℕ) (place : Place) (answered : List Command) (s : State) (d : ℕ) → IsReached finished fed rest place answered s d → IsReached true fed rest place answered s d
reached_finished finished fed rest place answered s d r = record { pieces = r.pieces; firm = λ more h. r.firm more (λ _. h refl); here = r.here; ran = r.ran; shallow = r.shallow; brackets = r.brackets }

module _ (finished : Bool) (fed rest : List ℕ) (place : Place) (answered : List Command) (s : State) (d : ℕ) (r : IsReached finished fed rest place answered s d) where
  tokens : List Token
  tokens = tokens_from start r.pieces

  firm_on : (p : Piece) (behind : List ℕ) → Firm finished (p ∷ []) rest behind → Firm finished (r.pieces ++ p ∷ []) fed behind
  firm_on p behind q = λ more h. cuts_append r.pieces (p ∷ []) (fed ++ more) (rest ++ more) (behind ++ more) (r.firm more h) (q more h)

  here_on : (p : Piece) → end_place start (r.pieces ++ p ∷ []) ≡ place_behind place (piece_bytes p)
  here_on p = end_append start r.pieces (p ∷ []) ∙ ap (λ (x : Place). place_behind x (piece_bytes p)) r.here

  tokens_on : (p : Piece) → tokens_from start (r.pieces ++ p ∷ []) ≡ tokens_from start r.pieces ++ tokens_from place (p ∷ [])
  tokens_on p = tokens_append start r.pieces (p ∷ []) ∙ ap (λ (x : Place). tokens_from start r.pieces ++ tokens_from x (p ∷ [])) r.here

  run_on : (ts : List Token) → run [] between (tokens_from start r.pieces ++ ts) ≡ run answered s ts
  run_on ts = run_append [] between (tokens_from start r.pieces) ts ∙ ap (λ o. after o (λ m. run m.commands m.state ts)) r.ran

  blank_tokens : (p : Piece) → IsBlank p → tokens_from place (p ∷ []) ≡ []
  blank_tokens (white b) h = refl
  blank_tokens (comment bs) h = refl
  blank_tokens (token l) h = absurd h

  -- a blank more
  pub reached_blank : (p : Piece) (behind : List ℕ) (next : Place) → IsBlank p → Firm finished (p ∷ []) rest behind → next ≡ place_behind place (piece_bytes p) → IsReached finished fed behind next answered s d
  reached_blank p behind next b q e =
      let same : tokens_from start (r.pieces ++ p ∷ []) ≡ tokens_from start r.pieces = tokens_on p ∙ ap (λ ts. tokens_from start r.pieces ++ ts) (blank_tokens p b) ∙ append-nil _ in
      record {
        pieces = r.pieces ++ p ∷ [];
        firm = firm_on p behind q;
        here = here_on p ∙ sym e;
        ran = ap (run [] between) same ∙ r.ran;
        shallow = subst (λ ts. IsShallow 0 (lexemes ts)) (sym same) r.shallow;
        brackets = ap (λ ts. depths 0 (lexemes ts)) same ∙ r.brackets;
      }

  run_one : (t : Token) (m : Moved) → take_token s t ≡ Some m → run answered s (t ∷ []) ≡ Some (record { state = m.state; commands = answered ++ m.commands })
  unfolding run
  run_one t m h = ap (λ o. after o (λ x. run (answered ++ x.commands) x.state [])) h

  lexemes_on : (l : Lexeme) → lexemes (tokens_from start (r.pieces ++ token l ∷ [])) ≡ lexemes (tokens_from start r.pieces) ++ l ∷ []
  lexemes_on l = ap lexemes (tokens_on (token l)) ∙ map-append (λ (x : Token). x.lexeme) (tokens_from start r.pieces) (record { place = place; lexeme = l } ∷ [])

  one_deeper : (x : ℕ) (l : Lexeme) → depths x (l ∷ []) ≡ depth_behind x l
  unfolding depths
  one_deeper x l = refl

  -- a token more
  pub reached_token : (l : Lexeme) (behind : List ℕ) (next : Place) (m : Moved) → Firm finished (token l ∷ []) rest behind → next ≡ place_behind place (lexeme_bytes l)
      → take_token s (record { place = place; lexeme = l }) ≡ Some m → is_too_deep d l ≡ false → IsReached finished fed behind next (answered ++ m.commands) m.state (depth_behind d l)
  reached_token l behind next m q e h w =
      let t : Token = record { place = place; lexeme = l } in
      record {
        pieces = r.pieces ++ token l ∷ [];
        firm = firm_on (token l) behind q;
        here = here_on (token l) ∙ sym e;
        ran = ap (run [] between) (tokens_on (token l)) ∙ run_on (t ∷ []) ∙ run_one t m h;
        shallow = subst (IsShallow 0) (sym (lexemes_on l))
            (shallow_append 0 (lexemes (tokens_from start r.pieces)) (l ∷ []) r.shallow (subst (λ x. IsShallow x (l ∷ [])) (sym r.brackets) (within_shallow d l w)));
        brackets = ap (depths 0) (lexemes_on l) ∙ depths_append 0 (lexemes (tokens_from start r.pieces)) (l ∷ []) ∙ ap (λ x. depths x (l ∷ [])) r.brackets ∙ one_deeper d l;
      }

  -- the text that was read, cut
  pub reached_cut : Cuts r.pieces fed rest
  reached_cut = subst (λ t. Cuts r.pieces t rest) (append-nil fed) (subst (Cuts r.pieces (fed ++ [])) (append-nil rest) (r.firm [] (λ _. refl)))

-- the machine answers the commands of a text
read_run : (ts : List Token) (cs : List Command) → AreCommands ts cs → run [] between ts ≡ Some (record { state = between; commands = cs })
read_run ts cs a = commands_run cs ts a.spelled []

-- some pieces up to some of their tokens
pub record Front (at : Place) (ps : List Piece) (a : List Token) : Type 0 where
  pub front : List Piece
  pub back : List Piece
  pub pieces_are : ps ≡ front ++ back
  pub tokens_are : tokens_from at front ≡ a

front_of : (at : Place) (ps : List Piece) (a b : List Token) → tokens_from at ps ≡ a ++ b → Front at ps a
front_of at ps [] b h = record { front = []; back = ps; pieces_are = refl; tokens_are = refl }
front_of at [] (t ∷ a) b h = let n : 0 ≡ length (t ∷ a ++ b) = ap length h in absurd (omega arith)
front_of at (white x ∷ ps) (t ∷ a) b h = let f = front_of (place_behind at (x ∷ [])) ps (t ∷ a) b h in record { front = white x ∷ f.front; back = f.back; pieces_are = ap (λ qs. white x ∷ qs) f.pieces_are; tokens_are = f.tokens_are }
front_of at (comment x ∷ ps) (t ∷ a) b h = let f = front_of (place_behind at (59 ∷ x)) ps (t ∷ a) b h in record { front = comment x ∷ f.front; back = f.back; pieces_are = ap (λ qs. comment x ∷ qs) f.pieces_are; tokens_are = f.tokens_are }
front_of at (token l ∷ ps) (t ∷ a) b h =
    let parts = cons_parts _ _ _ _ h in
    let f = front_of (place_behind at (lexeme_bytes l)) ps a b parts.1 in
    record { front = token l ∷ f.front; back = f.back; pieces_are = ap (λ qs. token l ∷ qs) f.pieces_are; tokens_are = ap (λ ts. record { place = at; lexeme = l } ∷ ts) f.tokens_are ∙ ap (λ x. x ∷ a) parts.0 }
  where
    cons_parts : (u v : Token) (us vs : List Token) → u ∷ us ≡ v ∷ vs → (u ≡ v) × (us ≡ vs)
    cons_parts u v us vs e = (cc, cc)

cuts_front : (ps qs : List Piece) (text rest : List ℕ) → Cuts (ps ++ qs) text rest → (mid : List ℕ) × Cuts ps text mid
cuts_front [] qs text rest h = (text, refl)
cuts_front (p ∷ ps) qs text rest (behind, is, of, cut) = let f = cuts_front ps qs behind rest cut in (f.0, (behind, is, of, f.1))

-- the text begins with the commands that were read
begins_by : (fed rest : List ℕ) (ps : List Piece) (a b : List Token) (cs : List Command) → Cuts ps fed rest → tokens_from start ps ≡ a ++ b → SpellsCommands cs a → IsShallow 0 (lexemes (tokens_from start ps)) → BeginsWith fed cs
begins_by fed rest ps a b cs cut is spells sh =
    let f = front_of start ps a b is in
    let c = cuts_front f.front f.back fed rest (subst (λ qs. Cuts qs fed rest) f.pieces_are cut) in (
      c.0,
      f.front,
      c.1,
      record {
        spelled = subst (SpellsCommands cs) (sym f.tokens_are) spells;
        shallow = subst (λ ts. IsShallow 0 (lexemes ts)) (sym f.tokens_are) (shallow_front 0 (lexemes a) (lexemes b) (subst (IsShallow 0) (ap lexemes is ∙ map-append (λ (x : Token). x.lexeme) a b) sh));
      },
    )

pub reached_begins : (finished : Bool) (fed rest : List ℕ) (place : Place) (answered : List Command) (s : State) (d : ℕ) → IsReached finished fed rest place answered s d → BeginsWith fed answered
reached_begins finished fed rest place answered s d r =
    let p = run_parts (tokens_from start r.pieces) (record { state = s; commands = answered }) r.ran in
    begins_by fed rest r.pieces p.whole p.part answered (reached_cut finished fed rest place answered s d r) p.tokens p.spelled r.shallow

-- and with those before them
spelled_front : (cs ds : List Command) (ts : List Token) → SpellsCommands (cs ++ ds) ts → (a : List Token) × (b : List Token) × (ts ≡ a ++ b) × SpellsCommands cs a
spelled_front [] ds ts h = ([], ts, refl, refl)
spelled_front (c ∷ cs) ds ts (first, rest, one, all, is) =
    let f = spelled_front cs ds rest all in (first ++ f.0, f.1, is ∙ ap (λ x. first ++ x) f.2 ∙ sym (append_assoc first f.0 f.1), (first, f.0, one, f.3, refl))

pub begins_front : (fed : List ℕ) (cs ds : List Command) → BeginsWith fed (cs ++ ds) → BeginsWith fed cs
begins_front fed cs ds (rest, ps, cut, are) = let f = spelled_front cs ds (tokens_from start ps) are.spelled in begins_by fed rest ps f.0 f.1 cs cut f.2 f.3 are.shallow

pub reached_whole : (finished : Bool) (fed rest : List ℕ) (place : Place) (answered : List Command) (d : ℕ) → IsReached finished fed rest place answered between d → rest ≡ [] → Reads fed answered
reached_whole finished fed rest place answered d r h =
    (r.pieces, subst (Cuts r.pieces fed) h (reached_cut finished fed rest place answered between d r), record { spelled = commands_sound answered _ r.ran; shallow = r.shallow })

-- the last token of commands that end with it is a bracket
last_is : (front ts : List Token) (at : Place) (t : Token) → front ++ closed_at at ∷ [] ≡ ts ++ t ∷ [] → t.lexeme ≡ close_bracket
last_is [] [] at t h = sym (ap (λ (x : Token). x.lexeme) (head h))
  where
    head : (closed_at at ∷ []) ≡ (t ∷ []) → closed_at at ≡ t
    head e = cc
last_is [] (u ∷ ts) at t h = let n : length (closed_at at ∷ []) ≡ length (u ∷ ts ++ t ∷ []) = ap length h in absurd (omega (arith, length-append ts (t ∷ [])))
last_is (u ∷ front) [] at t h = let n : length (u ∷ front ++ closed_at at ∷ []) ≡ length (t ∷ []) = ap length h in absurd (omega (arith, length-append front (closed_at at ∷ [])))
last_is (u ∷ front) (v ∷ ts) at t h = last_is front ts at t (tail h)
  where
    tail : (u ∷ front ++ closed_at at ∷ []) ≡ (v ∷ ts ++ t ∷ []) → front ++ closed_at at ∷ [] ≡ ts ++ t ∷ []
    tail e = cc

-- a token completes a command only where it leads between two
settled_cases : (items : List Item) (make : Maker items Command) → ((settled items make).commands ≡ []) ⊎ ((settled items make).state ≡ between)
settled_cases [] c = inr refl
settled_cases (i ∷ items) make = inl refl

taken_cases : (s : State) (t : Token) (m : Moved) → take_token s t ≡ Some m → (m.commands ≡ []) ⊎ (m.state ≡ between)
unfolding take_token
taken_cases s t m h =
    let n = after_some (step Command (left_of s).items (left_of s).make t) (λ x. Some (settled x.items x.make)) m h in
    subst (λ (x : Moved). (x.commands ≡ []) ⊎ (x.state ≡ between)) (same_Some _ m n.2) (settled_cases n.0.items n.0.make)

-- what grows may not stand before a letter
grows : (p : Piece) (text : List ℕ) → MayGrow p → Cuts (p ∷ []) text (97 ∷ []) → ⊥
grows (white b) text g c = g
grows (comment bs) text g (behind, is, of, e) = let l : begins_with is_in_line (97 ∷ []) ≡ false = subst (λ t. begins_with is_in_line t ≡ false) e of.longest in cc l
grows (token open_bracket) text g c = g
grows (token close_bracket) text g c = g
grows (token typing_mark) text g c = g
grows (token (string s)) text g c = g
grows (token (word w)) text g (behind, is, of, e) = let l : begins_with is_word_byte (97 ∷ []) ≡ false = subst (λ t. begins_with is_word_byte t ≡ false) e of.1.longest in cc l

may_go : (more : List ℕ) → GoesOn false more
may_go more e = absurd (cc e)

next_grows : (l : Lexeme) (p : Piece) (rest : List ℕ) → IsNext false l rest → first_cut rest ≡ Some (p, []) → MayGrow p → ⊥
next_grows l p rest (behind, firm) first g =
    let cut = cut_first (token l) [] (rest ++ []) (behind ++ []) (firm [] (may_go [])) in
    let same = same_cut (token l) p cut.0 [] (sym cut.1 ∙ ap first_cut (append-nil rest) ∙ first) in
    let none : behind ≡ [] = sym (append-nil behind) ∙ sym cut.2 ∙ same.1 in
    grows p (rest ++ 97 ∷ []) g (subst (λ q. Cuts (q ∷ []) (rest ++ 97 ∷ []) (97 ∷ [])) same.0 (subst (λ b. Cuts (token l ∷ []) (rest ++ 97 ∷ []) (b ++ 97 ∷ [])) none (firm (97 ∷ []) (may_go (97 ∷ [])))))

module _ (finished : Bool) (fed rest : List ℕ) (place : Place) (answered : List Command) (s : State) (d : ℕ) (r : IsReached finished fed rest place answered s d) where
  too_many : (c : Command) (m : Moved) → Some m ≡ Some (record { state = between; commands = answered ++ c ∷ [] }) → length m.commands ≤ length answered → ⊥
  too_many c m e h =
      let same : length m.commands ≡ length (answered ++ c ∷ []) = ap (λ (x : Moved). length x.commands) (same_Some _ _ e) in
      omega (arith, length-append answered (c ∷ []))

  -- a word completes no command
  ends_word : (w : List ℕ) (cs : List Command) → (cs ≡ [] → ⊥) → SpellsCommands cs (tokens_from start r.pieces ++ record { place = place; lexeme = word w } ∷ []) → ⊥
  ends_word w [] n h = n refl
  ends_word w (c ∷ cs) n h =
      let e = commands_end c cs (tokens_from start r.pieces ++ record { place = place; lexeme = word w } ∷ []) h in
      let l : word w ≡ close_bracket = last_is e.0 (tokens_from start r.pieces) e.1 (record { place = place; lexeme = word w }) (sym e.2) in
      cc l

  some_more : (cs ds : List Command) → (ds ≡ [] → ⊥) → cs ++ ds ≡ [] → ⊥
  some_more cs [] n h = n refl
  some_more cs (e ∷ ds) n h = let k : length (cs ++ e ∷ ds) ≡ 0 = ap length h in omega (arith, length-append cs (e ∷ ds))

  word_goes : (w : List ℕ) (m : Moved) → take_token s (record { place = place; lexeme = word w }) ≡ Some m → m.commands ≡ []
  word_goes w m h = ⊎_elim (λ e. e) (λ e. ended m.commands refl e) (taken_cases s (record { place = place; lexeme = word w }) m h)
    where
      t : Token
      t = record { place = place; lexeme = word w }

      ran : run [] between (tokens_from start r.pieces ++ record { place = place; lexeme = word w } ∷ []) ≡ Some (record { state = m.state; commands = answered ++ m.commands })
      ran = run_on finished fed rest place answered s d r (record { place = place; lexeme = word w } ∷ []) ∙ run_one finished fed rest place answered s d r (record { place = place; lexeme = word w }) m h

      ended : (cs : List Command) → m.commands ≡ cs → m.state ≡ between → m.commands ≡ []
      ended [] e b = e
      ended (c ∷ cs) e b = absurd (ends_word w (answered ++ m.commands) (some_more answered m.commands (λ k. full c cs (sym e ∙ k)))
          (commands_sound (answered ++ m.commands) (tokens_from start r.pieces ++ record { place = place; lexeme = word w } ∷ []) (ran ∙ ap (λ x. Some (record { state = x; commands = answered ++ m.commands })) b)))
        where
          full : (x : Command) (xs : List Command) → x ∷ xs ≡ [] → ⊥
          full x xs k = cc k

  -- an open piece behind what was read is none that completes a command
  open_piece : (p : Piece) → MayGrow p → (m : Moved) → run answered s (tokens_from place (p ∷ [])) ≡ Some m → length m.commands ≤ length answered
  unfolding run
  open_piece (white b) g m h = absurd g
  open_piece (comment bs) g m h = let e : length answered ≡ length m.commands = ap (λ (x : Moved). length x.commands) (same_Some _ _ h) in omega arith
  open_piece (token open_bracket) g m h = absurd g
  open_piece (token close_bracket) g m h = absurd g
  open_piece (token typing_mark) g m h = absurd g
  open_piece (token (string x)) g m h = absurd g
  open_piece (token (word w)) g m h =
      let n = after_some (take_token s (record { place = place; lexeme = word w })) (λ x. run (answered ++ x.commands) x.state []) m h in
      let e : length (answered ++ n.0.commands) ≡ length m.commands = ap (λ (x : Moved). length x.commands) (same_Some _ _ n.2) in
      let none : length n.0.commands ≡ 0 = ap length (word_goes w n.0 n.1) in
      omega (arith, length-append answered n.0.commands)

  run_nothing : run answered s [] ≡ Some (record { state = s; commands = answered })
  unfolding run
  run_nothing = refl

  -- nothing behind it completes a command
  pub reached_waits : IsOpen rest → HoldsNoMore fed answered
  reached_waits open_ c (beyond, ps, cut, are) =
      let ran : run [] between (tokens_from start ps) ≡ Some (record { state = between; commands = answered ++ c ∷ [] }) = read_run (tokens_from start ps) (answered ++ c ∷ []) are in
      ⊎_elim
      (λ x. ahead x.0 x.2 (sym (run_on finished fed rest place answered s d r (tokens_from place x.0)) ∙ ap (run [] between) (sym (ap (tokens_from start) x.1 ∙ tokens_append start r.pieces x.0 ∙ ap (λ (y : Place). tokens_from start r.pieces ++ tokens_from y x.0) r.here)) ∙ ran))
      (λ x.
      let tail : List Token = tokens_from (end_place start ps) x.0 in
      let whole : run (answered ++ c ∷ []) between tail ≡ Some (record { state = s; commands = answered }) =
      sym (run_append [] between (tokens_from start ps) tail ∙ ap (λ o. after o (λ m. run m.commands m.state tail)) ran)
      ∙ ap (run [] between) (sym (ap (tokens_from start) x.1 ∙ tokens_append start ps x.0)) ∙ r.ran in
      omega (arith, run_grows tail (answered ++ c ∷ []) between _ whole, length-append answered (c ∷ [])))
      (compare_cuts r.pieces ps fed rest beyond (reached_cut finished fed rest place answered s d r) cut)
    where
      one_piece : (p : Piece) (qs : List Piece) (b : List ℕ) → first_cut rest ≡ Some (p, b) → Cuts qs b beyond → run answered s (tokens_from place (p ∷ qs)) ≡ Some (record { state = between; commands = answered ++ c ∷ [] }) → ⊥
      one_piece p qs b is k h =
          ⊎_elim (λ none. none-some _ (sym none.0 ∙ is))
          (λ (q, grows_, first).
          let same = same_cut q p [] b (sym first ∙ is) in
          let last : qs ≡ [] = nothing_behind qs beyond (subst (λ t. Cuts qs t beyond) (sym same.1) k) in
          let only : run answered s (tokens_from place (p ∷ [])) ≡ Some (record { state = between; commands = answered ++ c ∷ [] }) = subst (λ y. run answered s (tokens_from place (p ∷ y)) ≡ Some (record { state = between; commands = answered ++ c ∷ [] })) last h in
          too_many c _ refl (open_piece p (subst MayGrow same.0 grows_) _ only))
          open_

      ahead : (qs : List Piece) → Cuts qs rest beyond → run answered s (tokens_from place qs) ≡ Some (record { state = between; commands = answered ++ c ∷ [] }) → ⊥
      ahead [] k h = too_many c (record { state = s; commands = answered }) (sym run_nothing ∙ h) (omega arith)
      ahead (p ∷ qs) k h = let first = cut_first p qs rest beyond k in one_piece p qs first.0 first.1 first.2 h

-- where the text has to go on nothing is wrong
module _ (fed rest : List ℕ) (place : Place) (answered : List Command) (s : State) (d : ℕ) (r : IsReached false fed rest place answered s d) (f : Fault) (h : HasFault false fed answered f) where
  read_behind : Behind fed r.pieces rest answered s
  read_behind = record { cut = reached_cut false fed rest place answered s d r; ran = r.ran; shallow = r.shallow }

  -- it isn't wrong just there
  right_here : IsOpen rest → h.pieces ≡ r.pieces → rest ≡ h.rest → ⊥
  right_here open_ pieces is =
      let same : record { state = s; commands = answered } ≡ record { state = fault_state false fed answered f h; commands = answered } =
      same_Some _ _ (sym r.ran ∙ ap (λ ps. run [] between (tokens_from start ps)) (sym pieces) ∙ (fault_behind false fed answered f h).ran) in
      let wrong : verdict false (depth_at h.pieces) (end_place start h.pieces) s rest ≡ Some f =
      ap (λ (m : Moved). verdict false (depth_at h.pieces) (end_place start h.pieces) m.state rest) same ∙ ap (verdict false (depth_at h.pieces) (end_place start h.pieces) (fault_state false fed answered f h)) is ∙ fault_verdict false fed answered f h in
      ⊎_elim
      (λ x. none-some f (sym (ap (piece_verdict false (depth_at h.pieces) (end_place start h.pieces) s rest) x.0 ∙ ap (break_verdict false (end_place start h.pieces) s rest) x.1) ∙ wrong))
      (λ x. by_kind f.kind x.0 x.1 (sym (ap first_cut is) ∙ x.2) h.fails)
      open_
    where
      by_kind : (k : FaultKind) (p : Piece) → MayGrow p → first_cut h.rest ≡ Some (p, []) → Fails k f.place false h.here (h.whole ++ h.part) h.part h.rest → ⊥
      by_kind bad_byte p g e w = let b = bad_byte_break false h.here f.place h.rest w in none-some _ (sym (break_cut false h.rest _ b.1) ∙ e)
      by_kind bad_literal p g e w = next_grows w.0 p h.rest w.1 e g
      by_kind unexpected p g e w = next_grows w.0 p h.rest w.1.next e g
      by_kind end_of_input p g e w = let done : false ≡ true = w.0.0 in cc done
      by_kind nesting p g e w = next_grows open_bracket p h.rest w.0 e g

  right_later : (q : Piece) (qs : List Piece) → IsOpen rest → h.pieces ≡ r.pieces ++ q ∷ qs → Cuts (q ∷ qs) rest h.rest → ⊥
  right_later q qs open_ pieces cut =
      let first = cut_first q qs rest h.rest cut in
      ⊎_elim
      (λ x. none-some _ (sym x.0 ∙ first.1))
      (λ x. grown first.0 first.1 first.2 x.0 x.1 x.2)
      open_
    where
      grown : (b : List ℕ) → first_cut rest ≡ Some (q, b) → Cuts qs b h.rest → (p : Piece) → MayGrow p → first_cut rest ≡ Some (p, []) → ⊥
      grown b e k p g first =
          let same = same_cut p q [] b (sym first ∙ e) in
          let tail : Cuts qs [] h.rest = subst (λ t. Cuts qs t h.rest) (sym same.1) k in
          let none = nothing_behind qs h.rest tail in
          let end_ : [] ≡ h.rest = subst (λ x. Cuts x [] h.rest) none tail in
          let on : Cuts (q ∷ qs) (rest ++ 97 ∷ []) (h.rest ++ 97 ∷ []) =
          cuts_behind r.pieces (q ∷ qs) (fed ++ 97 ∷ []) (rest ++ 97 ∷ []) (h.rest ++ 97 ∷ []) (r.firm (97 ∷ []) (may_go (97 ∷ []))) (subst (λ ps. Cuts ps (fed ++ 97 ∷ []) (h.rest ++ 97 ∷ [])) pieces (h.firm (97 ∷ []) (may_go (97 ∷ [])))) in
          grows q (rest ++ 97 ∷ []) (subst MayGrow same.0 g) (subst (λ x. Cuts (q ∷ x) (rest ++ 97 ∷ []) (97 ∷ [])) none (subst (λ t. Cuts (q ∷ qs) (rest ++ 97 ∷ []) (t ++ 97 ∷ [])) (sym end_) on))

  pub no_fault_waits : IsOpen rest → ⊥
  no_fault_waits open_ =
      let on = not_before fed r.pieces h.pieces rest h.rest answered answered s (fault_state false fed answered f h) false f read_behind (fault_behind false fed answered f h) (fault_verdict false fed answered f h) in
      go on.0 on.1 on.2
    where
      go : (more : List Piece) → h.pieces ≡ r.pieces ++ more → Cuts more rest h.rest → ⊥
      go [] e c = right_here open_ (e ∙ append-nil r.pieces) c
      go (q ∷ qs) e c = right_later q qs open_ e c

pub reached_rests : (fed rest : List ℕ) (place : Place) (answered : List Command) (s : State) (d : ℕ) → IsReached false fed rest place answered s d → IsOpen rest → Waits fed answered
reached_rests fed rest place answered s d r open_ = record { no_command = reached_waits false fed rest place answered s d r open_; no_fault = λ f h. no_fault_waits fed rest place answered s d r f h open_ }

-- a text that goes on has the same fault
module _ (fed piece : List ℕ) (a : List Command) (f : Fault) (h : HasFault false fed a f) where
  next_on : (l : Lexeme) (t : List ℕ) → IsNext false l t → IsNext false l (t ++ piece)
  next_on l t (behind, firm) = (
    behind ++ piece,
    λ more g. subst (λ x. Cuts (token l ∷ []) x ((behind ++ piece) ++ more)) (sym (append_assoc t piece more))
        (subst (Cuts (token l ∷ []) (t ++ (piece ++ more))) (sym (append_assoc behind piece more)) (firm (piece ++ more) (may_go (piece ++ more)))),
  )

  token_on : (l : Lexeme) (t : List ℕ) (before : List Token) → IsNextToken false before l t → IsNextToken false before l (t ++ piece)
  token_on l t before n = record { next = next_on l t n.next; good = n.good; shallow = n.shallow }

  lone_on : (t : List ℕ) → IsLoneColon false t → IsLoneColon false (t ++ piece)
  lone_on t ([], is, lone, ends_) = let done : false ≡ true = ends_ refl in absurd (cc done)
  lone_on t (c ∷ behind, is, lone, ends_) = (c ∷ behind ++ piece, ap (λ x. x ++ piece) is, lone, λ e. absurd (cc e))

  bad_on : (here at : Place) (t : List ℕ) → IsBadByte false here t at → IsBadByte false here (t ++ piece) at
  bad_on here at t (inl (e, (b, behind, is, none))) = inl (e, (b, behind ++ piece, ap (λ x. x ++ piece) is, none))
  bad_on here at t (inr (inl (e, lone))) = inr (inl (e, lone_on t lone))
  bad_on here at t (inr (inr (front, e, r))) = inr (inr (
    front,
    e,
    record {
      byte = r.byte;
      behind = r.behind ++ piece;
      is = ap (λ x. x ++ piece) r.is ∙ ap (λ x. 34 ∷ x) (append_assoc front (r.byte ∷ r.behind) piece);
      before = r.before;
      unquoted = r.unquoted;
      bad = r.bad;
    },
  ))

  fails_on : (k : FaultKind) (here at : Place) (before part : List Token) (t : List ℕ) → Fails k at false here before part t → Fails k at false here before part (t ++ piece)
  fails_on bad_byte here at before part t w = bad_on here at t w
  fails_on bad_literal here at before part t (l, next, bad_, e) = (l, next_on l t next, bad_, e)
  fails_on unexpected here at before part t (l, next, never, e) = (l, token_on l t before next, never, e)
  fails_on end_of_input here at before part t w = let done : false ≡ true = w.0.0 in absurd (cc done)
  fails_on nesting here at before part t (next, never, e) = (next_on open_bracket t next, never, e)

  pub fault_fed : HasFault false (fed ++ piece) a f
  fault_fed = record {
    pieces = h.pieces;
    rest = h.rest ++ piece;
    firm = λ more g. subst (λ x. Cuts h.pieces x ((h.rest ++ piece) ++ more)) (sym (append_assoc fed piece more))
        (subst (Cuts h.pieces (fed ++ (piece ++ more))) (sym (append_assoc h.rest piece more)) (h.firm (piece ++ more) (may_go (piece ++ more))));
    whole = h.whole;
    part = h.part;
    tokens = h.tokens;
    spelled = h.spelled;
    going = h.going;
    shallow = h.shallow;
    here = h.here;
    place = h.place;
    fails = fails_on f.kind h.here f.place (h.whole ++ h.part) h.part h.rest h.fails;
  }

-- a text that ends has the same fault
module _ (finished : Bool) (fed : List ℕ) (a : List Command) (f : Fault) (h : HasFault finished fed a f) where
  next_end : (l : Lexeme) (t : List ℕ) → IsNext finished l t → IsNext true l t
  next_end l t (behind, firm) = (behind, λ more g. firm more (λ _. g refl))

  token_end : (l : Lexeme) (t : List ℕ) (before : List Token) → IsNextToken finished before l t → IsNextToken true before l t
  token_end l t before n = record { next = next_end l t n.next; good = n.good; shallow = n.shallow }

  bad_end : (here at : Place) (t : List ℕ) → IsBadByte finished here t at → IsBadByte true here t at
  bad_end here at t (inl w) = inl w
  bad_end here at t (inr (inl (e, (behind, is, lone, ends_)))) = inr (inl (e, (behind, is, lone, λ _. refl)))
  bad_end here at t (inr (inr w)) = inr (inr w)

  fails_end : (k : FaultKind) (here at : Place) (before part : List Token) (t : List ℕ) → Fails k at finished here before part t → Fails k at true here before part t
  fails_end bad_byte here at before part t w = bad_end here at t w
  fails_end bad_literal here at before part t (l, next, bad_, e) = (l, next_end l t next, bad_, e)
  fails_end unexpected here at before part t (l, next, never, e) = (l, token_end l t before next, never, e)
  fails_end end_of_input here at before part t ((done, w), e) = ((refl, w), e)
  fails_end nesting here at before part t (next, never, e) = (next_end open_bracket t next, never, e)

  pub fault_finished : HasFault true fed a f
  fault_finished = record {
    pieces = h.pieces;
    rest = h.rest;
    firm = λ more g. h.firm more (λ _. g refl);
    whole = h.whole;
    part = h.part;
    tokens = h.tokens;
    spelled = h.spelled;
    going = h.going;
    shallow = h.shallow;
    here = h.here;
    place = h.place;
    fails = fails_end f.kind h.here f.place (h.whole ++ h.part) h.part h.rest h.fails;
  }
