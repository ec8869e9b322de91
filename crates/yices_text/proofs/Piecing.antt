-- What is said of a text however it is cut into pieces.
use Rattle.std.proofs.Common.{◌≡◌, ◌∙◌, ℕ, Bool, true, false, Some, List, [], ◌∷◌, ◌++◌, length, refl, sym, ap, subst, ⊎_elim, arith, append_assoc, append-nil, length-append}
use Rattle.std.proofs.lemmas.Option.{same_Some}
use Rattle.yices_grammar.specs.declared.Place.{Place}
use Rattle.yices_grammar.specs.Tokens.{Lexeme, open_bracket, close_bracket, typing_mark, word, string, Piece, white, comment, token, Token, Cuts, IsPiece, IsRun, is_word_byte, is_in_line, piece_bytes, lexeme_bytes, place_behind, tokens_from, start, end_place}
use Rattle.yices_grammar.specs.Commands.{Command}
use Rattle.yices_grammar.specs.Laws.{closed_at}
use Rattle.yices_grammar.specs.Texts.{AreCommands, BeginsWith}
use Rattle.yices_grammar.specs.Faults.{HasFault}
use Rattle.yices_text.specs.Laws.{CommandsStay, OneList, FaultsStay}
use Rattle.yices_grammar.specs.Machine.{Moved, between, run, after}
use Rattle.yices_grammar.proofs.Running.{after_some, run_append, run_shift, commands_run}
use Rattle.yices_grammar.proofs.Ends.{commands_end}
use Rattle.yices_text.specs.View.{joined}
use Rattle.yices_lexer.proofs.Cutting.{compare_cuts, tokens_append}
use Rattle.yices_text.proofs.Unique.{nothing_behind}
use Rattle.yices_text.proofs.Reaching.{fault_fed, fault_finished}

joined_append : (ps qs : List (List ℕ)) → joined (ps ++ qs) ≡ joined ps ++ joined qs
joined_append [] qs = refl
joined_append (p ∷ ps) qs = ap (λ t. p ++ t) (joined_append ps qs) ∙ sym (append_assoc p (joined ps) (joined qs))

pub faults_stay : FaultsStay
faults_stay finished pieces later cs f h =
    let on : HasFault false (joined (pieces ++ later)) cs f = subst (λ t. HasFault false t cs f) (sym (joined_append pieces later)) (fault_fed (joined pieces) (joined later) cs f h) in
    ended finished (joined (pieces ++ later)) on
  where
    ended : (b : Bool) (text : List ℕ) → HasFault false text cs f → HasFault b text cs f
    ended true text k = fault_finished false text cs f k
    ended false text k = k

-- up to its last token the text is cut so, however it goes on
pub record Stays (at : Place) (text : List ℕ) (ts : List Token) : Type 0 where
  pub pieces : List Piece
  pub rest : List ℕ
  pub tokens : tokens_from at pieces ≡ ts
  pub cut : (more : List ℕ) → Cuts pieces (text ++ more) (rest ++ more)

some_tokens : (ts : List Token) (at : Place) → [] ≡ ts ++ closed_at at ∷ [] → ⊥
some_tokens ts at h = let n : 0 ≡ length (ts ++ closed_at at ∷ []) = ap length h in omega (arith, length-append ts (closed_at at ∷ []))

-- what stands before a token isn't at the end
run_on : (test : ℕ → Bool) (bytes behind more : List ℕ) (ps : List Piece) (rest : List ℕ) (at place : Place) (ts : List Token) → IsRun test bytes behind → Cuts ps behind rest → tokens_from at ps ≡ ts ++ closed_at place ∷ [] → IsRun test bytes (behind ++ more)
run_on test bytes [] more ps rest at place ts r cut is =
    let none = nothing_behind ps rest cut in absurd (some_tokens ts place (sym (ap (tokens_from at) none) ∙ is))
run_on test bytes (b ∷ behind) more ps rest at place ts r cut is = record { each = r.each; longest = r.longest }

piece_on : (l : Lexeme) (behind more : List ℕ) (ps : List Piece) (rest : List ℕ) (at place : Place) (ts : List Token) → IsPiece (token l) behind → Cuts ps behind rest → tokens_from at ps ≡ ts ++ closed_at place ∷ [] → IsPiece (token l) (behind ++ more)
piece_on open_bracket behind more ps rest at place ts of cut is = tt
piece_on close_bracket behind more ps rest at place ts of cut is = tt
piece_on typing_mark behind more ps rest at place ts of cut is = tt
piece_on (word w) behind more ps rest at place ts of cut is = (of.0, run_on is_word_byte w behind more ps rest at place ts of.1 cut is)
piece_on (string s) behind more ps rest at place ts of cut is = of

bytes_on : (p : Piece) (text behind more : List ℕ) → text ≡ piece_bytes p ++ behind → text ++ more ≡ piece_bytes p ++ (behind ++ more)
bytes_on p text behind more is = ap (λ t. t ++ more) is ∙ append_assoc (piece_bytes p) behind more

cons_parts : (t u : Token) (ts us : List Token) → t ∷ ts ≡ u ∷ us → (t ≡ u) × (ts ≡ us)
cons_parts t u ts us h = (cc, cc)

stays : (at place : Place) (ps : List Piece) (text rest : List ℕ) (ts : List Token) → Cuts ps text rest → tokens_from at ps ≡ ts ++ closed_at place ∷ [] → Stays at text (ts ++ closed_at place ∷ [])
stays at place [] text rest ts cut is = absurd (some_tokens ts place is)
stays at place (white b ∷ ps) text rest ts (behind, bytes, of, cut) is =
    let on = stays (place_behind at (b ∷ [])) place ps behind rest ts cut is in
    record { pieces = white b ∷ on.pieces; rest = on.rest; tokens = on.tokens; cut = λ more. (behind ++ more, bytes_on (white b) text behind more bytes, of, on.cut more) }
stays at place (comment bs ∷ ps) text rest ts (behind, bytes, of, cut) is =
    let on = stays (place_behind at (59 ∷ bs)) place ps behind rest ts cut is in
    record {
      pieces = comment bs ∷ on.pieces;
      rest = on.rest;
      tokens = on.tokens;
      cut = λ more. (behind ++ more, bytes_on (comment bs) text behind more bytes, run_on is_in_line bs behind more ps rest (place_behind at (59 ∷ bs)) place ts of cut is, on.cut more);
    }
stays at place (token l ∷ ps) text rest [] (behind, bytes, of, cut) is =
    let head : record { place = at; lexeme = l } ≡ closed_at place = (cons_parts _ _ _ _ is).0 in
    let closes : l ≡ close_bracket = ap (λ (t : Token). t.lexeme) head in
    record {
      pieces = token l ∷ [];
      rest = behind;
      tokens = ap (λ t. t ∷ []) head;
      cut = λ more. (behind ++ more, bytes_on (token l) text behind more bytes, subst (λ x. IsPiece (token x) (behind ++ more)) (sym closes) tt, refl);
    }
stays at place (token l ∷ ps) text rest (t ∷ ts) (behind, bytes, of, cut) is =
    let parts = cons_parts _ _ _ _ is in
    let on = stays (place_behind at (lexeme_bytes l)) place ps behind rest ts cut parts.1 in
    record {
      pieces = token l ∷ on.pieces;
      rest = on.rest;
      tokens = ap (λ r. record { place = at; lexeme = l } ∷ r) on.tokens ∙ ap (λ x. x ∷ ts ++ closed_at place ∷ []) parts.0;
      cut = λ more. (behind ++ more, bytes_on (token l) text behind more bytes, piece_on l behind more ps rest (place_behind at (lexeme_bytes l)) place ts of cut parts.1, on.cut more);
    }

pub begins_on : (text more : List ℕ) (cs : List Command) → BeginsWith text cs → BeginsWith (text ++ more) cs
begins_on text more [] b = (text ++ more, [], refl, record { spelled = refl; shallow = tt })
begins_on text more (c ∷ cs) (rest, ps, cut, are) =
    let last = commands_end c cs (tokens_from start ps) are.spelled in
    let on = stays start last.1 ps text rest last.0 cut last.2 in
    (on.rest ++ more, on.pieces, on.cut more, subst (λ ts. AreCommands ts (c ∷ cs)) (last.2 ∙ sym on.tokens) are)

pub commands_stay : CommandsStay
commands_stay pieces later cs b = subst (λ t. BeginsWith t cs) (sym (joined_append pieces later)) (begins_on (joined pieces) (joined later) cs b)

run_of : (cs : List Command) (ps : List Piece) → AreCommands (tokens_from start ps) cs → run [] between (tokens_from start ps) ≡ Some (record { state = between; commands = cs })
run_of cs ps a = commands_run cs (tokens_from start ps) a.spelled []

no_rest : (cs es : List Command) → length (cs ++ es) ≡ length cs → es ≡ []
no_rest cs [] h = refl
no_rest cs (e ∷ es) h = absurd (omega (arith, length-append cs (e ∷ es)))

longer : (cs ds : List Command) (ps qs more : List Piece) → AreCommands (tokens_from start ps) cs → AreCommands (tokens_from start qs) ds → qs ≡ ps ++ more → length cs ≡ length ds → cs ≡ ds
longer cs ds ps qs more a b is n =
    let tail : List Token = tokens_from (end_place start ps) more in
    let ran : run (cs ++ []) between tail ≡ Some (record { state = between; commands = ds }) =
    ap (λ x. run x between tail) (append-nil cs) ∙ sym (run_append [] between (tokens_from start ps) tail ∙ ap (λ o. after o (λ m. run m.commands m.state tail)) (run_of cs ps a))
    ∙ ap (run [] between) (sym (ap (tokens_from start) is ∙ tokens_append start ps more)) ∙ run_of ds qs b in
    let m = after_some (run [] between tail) (λ m. Some (record { state = m.state; commands = cs ++ m.commands })) _ (sym (run_shift cs [] between tail) ∙ ran) in
    let e : cs ++ m.0.commands ≡ ds = ap (λ (x : Moved). x.commands) (same_Some _ _ m.2) in
    let none = no_rest cs m.0.commands (ap length e ∙ sym n) in
    sym (append-nil cs) ∙ ap (λ x. cs ++ x) (sym none) ∙ e

pub one_list : OneList
one_list text cs ds (rest, ps, cut, a) (rest', qs, cut', b) n =
    ⊎_elim (λ x. longer cs ds ps qs x.0 a b x.1 n) (λ x. sym (longer ds cs qs ps x.0 b a x.1 (sym n))) (compare_cuts ps qs text rest rest' cut cut')
