-- A text has one fault behind one list of commands, and none where it has a command more or is read.
use Rattle.std.proofs.Common.{◌≡◌, ◌∙◌, ℕ, ◌<◌, ◌≤◌, Bool, true, false, Option, Some, None, List, [], ◌∷◌, ◌++◌, length, take, refl, sym, ap, subst, inl, inr, ⊎_elim, arith, append_assoc, append-nil, length-append}
use Rattle.std.specs.Prelude.{option_map}
use Rattle.std.proofs.lemmas.Bool.{cases_Bool}
use Rattle.std.proofs.lemmas.List.{map-append}
use Rattle.std.proofs.lemmas.Option.{none-some, same_Some, some_pair_parts}
use Rattle.yices_grammar.specs.declared.Place.{Place}
use Rattle.yices_grammar.specs.Tokens.{Lexeme, open_bracket, Token, Piece, white, comment, token, Cuts, tokens_from, start, place_behind, end_place, lexeme_bytes}
use Rattle.yices_grammar.specs.Commands.{Command}
use Rattle.yices_grammar.specs.Reading.{SpellsCommand, SpellsCommands, BeginsProgram}
use Rattle.yices_grammar.specs.Texts.{IsShallow, lexemes, Reads, BeginsWith}
use Rattle.yices_grammar.specs.Words.{is_bad_token}
use Rattle.yices_grammar.specs.Faults.{FaultKind, bad_byte, bad_literal, unexpected, end_of_input, nesting, Fault, IsNext, Fails, IsPart, HasFault}
use Rattle.yices_grammar.specs.Machine.{State, Moved, between, inside, take_token, run, after}
use Rattle.yices_grammar.proofs.Running.{after_some, run_append, run_shift, command_run, commands_run, commands_sound, run_parts, runs_program}
use Rattle.yices_grammar.specs.Laws.{AreGood}
use Rattle.yices_grammar.proofs.Literals.{no_bad_literal, good_behind}
use Rattle.yices_lexer.specs.Pieces.{Cut, first_cut, Break, bad, ends, break_of}
use Rattle.yices_lexer.proofs.Cutting.{cond_yes, cond_no, cut_first, compare_cuts, tokens_append}
use Rattle.yices_lexer.proofs.Breaking.{break_cut, bad_byte_break, open_string_break}
use Rattle.yices_parser.specs.Taking.{is_too_deep}
use Rattle.yices_text.specs.Reached.{depths}
use Rattle.yices_text.proofs.Verdict.{fault_at, no_step, token_fault, verdict, piece_verdict, break_verdict}
use Rattle.yices_text.proofs.Faulting.{shallow_rest, shallow_append, shallow_within, within_shallow}

-- how many brackets are open behind some pieces
abbrev pub depth_at : List Piece → ℕ
depth_at ps = depths 0 (lexemes (tokens_from start ps))

-- the text is cut so, and its tokens are the commands and what the state says
pub record Behind (fed : List ℕ) (ps : List Piece) (rest : List ℕ) (answered : List Command) (s : State) : Type 0 where
  pub cut : Cuts ps fed rest
  pub ran : run [] between (tokens_from start ps) ≡ Some (record { state = s; commands = answered })
  pub shallow : IsShallow 0 (lexemes (tokens_from start ps))

-- a command that another begins with is whole
same_commands : (cs ds : List Command) → ◌≡◌ {A = Option Moved} (Some (record { state = between; commands = cs })) (Some (record { state = between; commands = ds })) → cs ≡ ds
same_commands cs ds h = ap (λ (m : Moved). m.commands) (same_Some _ _ h)

nothing_more : (c d : Command) (es : List Command) → (c ∷ []) ++ es ≡ d ∷ [] → es ≡ []
nothing_more c d [] h = refl
nothing_more c d (e ∷ es) h = let n : length (c ∷ e ∷ es) ≡ 1 = ap length h in absurd (omega arith)

run_nothing : (cs : List Command) (s : State) → run cs s [] ≡ Some (record { state = s; commands = cs })
unfolding run
run_nothing cs s = refl

-- a run from between that completes nothing and ends between takes no token
no_tokens : (ts : List Token) → run [] between ts ≡ Some (record { state = between; commands = [] }) → ts ≡ []
no_tokens ts h = commands_sound [] ts h

prefix_free : (c d : Command) (first more : List Token) → SpellsCommand c first → SpellsCommand d (first ++ more) → more ≡ []
prefix_free c d first more one two =
    let whole : run (c ∷ []) between more ≡ Some (record { state = between; commands = d ∷ [] }) =
    sym (command_run [] more c first one) ∙ ap (run [] between) (sym (append-nil (first ++ more))) ∙ command_run [] [] d (first ++ more) two ∙ run_nothing (d ∷ []) between in
    let n = after_some (run [] between more) (λ m. Some (record { state = m.state; commands = (c ∷ []) ++ m.commands })) _ (sym (run_shift (c ∷ []) [] between more) ∙ whole) in
    let state : n.0.state ≡ between = ap (λ (m : Moved). m.state) (same_Some _ _ n.2) in
    let none : n.0.commands ≡ [] = nothing_more c d n.0.commands (ap (λ (m : Moved). m.commands) (same_Some _ _ n.2)) in
    no_tokens more (n.1 ∙ ap Some (ap (λ x. record { state = x; commands = n.0.commands }) state ∙ ap (λ x. record { state = between; commands = x }) none))

-- a part of a command leads to a state, and completes nothing
pub part_runs : (part : List Token) (cs : List Command) → IsPart part → (s : State) × (run cs between part ≡ Some (record { state = s; commands = cs }))
part_runs part cs (c, missing, some, spells) =
    let whole : run [] between (part ++ missing) ≡ Some (record { state = between; commands = c ∷ [] }) =
    ap (run [] between) (sym (append-nil (part ++ missing))) ∙ command_run [] [] c (part ++ missing) spells ∙ run_nothing (c ∷ []) between in
    let n = after_some (run [] between part) (λ m. run m.commands m.state missing) _ (sym (run_append [] between part missing) ∙ whole) in
    let p = run_parts part n.0 n.1 in
    let none : n.0.commands ≡ [] = complete p.whole p.part n.0.commands p.tokens p.spelled in
    (n.0.state, ap (λ x. run x between part) (sym (append-nil cs)) ∙ run_shift cs [] between part ∙ ap (λ o. after o (λ m. Some (record { state = m.state; commands = cs ++ m.commands }))) n.1 ∙ ap (λ x. Some (record { state = n.0.state; commands = cs ++ x })) none ∙ ap (λ x. Some (record { state = n.0.state; commands = x })) (append-nil cs))
  where
    complete : (done open_ : List Token) (ds : List Command) → part ≡ done ++ open_ → SpellsCommands ds done → ds ≡ []
    complete done open_ [] is spelled_ = refl
    complete done open_ (d ∷ ds) is (first, rest, one, all, whole_is) =
        let here : part ++ missing ≡ first ++ ((rest ++ open_) ++ missing) =
        ap (λ r. r ++ missing) (is ∙ ap (λ r. r ++ open_) whole_is ∙ append_assoc first rest open_) ∙ append_assoc first (rest ++ open_) missing in
        let empty = prefix_free d c first ((rest ++ open_) ++ missing) one (subst (SpellsCommand c) here spells) in
        let n : length ((rest ++ open_) ++ missing) ≡ 0 = ap length empty in
        absurd (omega (arith, length-append (rest ++ open_) missing))

-- a part with tokens is not between commands
pub part_inside : (part : List Token) (cs : List Command) (s : State) → IsPart part → 0 < length part → run cs between part ≡ Some (record { state = s; commands = cs }) → s ≡ between → ⊥
part_inside part cs s p more ran is =
    let own = part_runs part [] p in
    let same : own.0 ≡ s =
    ap (λ (m : Moved). m.state) (same_Some _ _ (sym (ap (λ o. after o (λ m. Some (record { state = m.state; commands = cs ++ m.commands }))) own.1) ∙ sym (run_shift cs [] between part) ∙ ap (λ x. run x between part) (append-nil cs) ∙ ran)) in
    let empty : part ≡ [] = no_tokens part (own.1 ∙ ap (λ x. Some (record { state = x; commands = [] })) (same ∙ is)) in
    let n : length part ≡ 0 = ap length empty in
    omega arith

module _ (finished : Bool) (fed : List ℕ) (answered : List Command) (f : Fault) (h : HasFault finished fed answered f) where
  state : (s : State) × (run answered between h.part ≡ Some (record { state = s; commands = answered }))
  state = part_runs h.part answered h.going

  fault_ran : run [] between (tokens_from start h.pieces) ≡ Some (record { state = state.0; commands = answered })
  fault_ran =
      ap (run [] between) h.tokens ∙ run_append [] between h.whole h.part ∙ ap (λ o. after o (λ m. run m.commands m.state h.part)) (commands_run answered h.whole h.spelled [])
      ∙ state.1

  pub fault_state : State
  fault_state = state.0

  pub fault_behind : Behind fed h.pieces h.rest answered fault_state
  unfolding fault_state
  fault_behind = record {
    cut = subst (λ t. Cuts h.pieces t h.rest) (append-nil fed) (subst (Cuts h.pieces (fed ++ [])) (append-nil h.rest) (h.firm [] (λ _. refl)));
    ran = fault_ran;
    shallow = subst (λ ts. IsShallow 0 (lexemes ts)) (sym h.tokens) h.shallow;
  }

step_some : (cs : List Command) (s : State) (t : Token) (ts : List Token) (m : Moved) → run cs s (t ∷ ts) ≡ Some m → (n : Moved) × (take_token s t ≡ Some n)
unfolding run
step_some cs s t ts m h = let n = after_some (take_token s t) (λ x. run (cs ++ x.commands) x.state ts) m h in (n.0, n.1)

-- at the end of a finished text inside a command
end_some : (d : ℕ) (at : Place) (s : State) → (s ≡ between → ⊥) → verdict true d at s [] ≡ Some (fault_at at end_of_input)
unfolding first_cut break_of
end_some d at between h = absurd (h refl)
end_some d at (inside m) h = refl

-- the empty text has no piece
pub nothing_behind : (ps : List Piece) (rest : List ℕ) → Cuts ps [] rest → ps ≡ []
unfolding first_cut
nothing_behind [] rest h = refl
nothing_behind (p ∷ ps) rest h = absurd (none-some _ (cut_first p ps [] rest h).1)

-- at a token that the machine takes nothing is wrong
taken_right : (d : ℕ) (s : State) (at : Place) (l : Lexeme) (m : Moved) → take_token s (record { place = at; lexeme = l }) ≡ Some m → is_bad_token l ≡ false → is_too_deep d l ≡ false → token_fault d s at l ≡ None
unfolding token_fault
taken_right d s at l m h g k = cond_no (is_bad_token l) _ _ g ∙ cond_no (is_too_deep d l) _ _ k ∙ ap no_step h

module _ (fed : List ℕ) (ps ps' : List Piece) (rest rest' : List ℕ) (a a' : List Command) (s s' : State) (finished : Bool) (f : Fault) where
  -- what was read goes on behind a place only if nothing is wrong there
  right_on : (q : Piece) (qs : List Piece) → ps ≡ ps' ++ q ∷ qs → Cuts (q ∷ qs) rest' rest → Behind fed ps rest a s → Behind fed ps' rest' a' s' → verdict finished (depth_at ps') (end_place start ps') s' rest' ≡ Some f → ⊥
  right_on q qs is cut b b' wrong =
      let first = cut_first q qs rest' rest cut in
      go q first.0 is (sym (ap (piece_verdict finished (depth_at ps') (end_place start ps') s' rest') first.1) ∙ wrong)
    where
      go : (p : Piece) (behind : List ℕ) → ps ≡ ps' ++ p ∷ qs → piece_verdict finished (depth_at ps') (end_place start ps') s' rest' (Some (p, behind)) ≡ Some f → ⊥
      go (white x) behind e w = none-some f w
      go (comment x) behind e w = none-some f w
      go (token l) behind e w =
          let at : Place = end_place start ps' in
          let t : Token = record { place = at; lexeme = l } in
          let tail : List Token = tokens_from (place_behind at (lexeme_bytes l)) qs in
          let here : tokens_from start ps ≡ tokens_from start ps' ++ t ∷ tail = ap (tokens_from start) e ∙ tokens_append start ps' (token l ∷ qs) in
          let ran : run a' s' (t ∷ tail) ≡ Some (record { state = s; commands = a }) =
          sym (run_append [] between (tokens_from start ps') (t ∷ tail) ∙ ap (λ o. after o (λ m. run m.commands m.state (t ∷ tail))) b'.ran) ∙ ap (run [] between) (sym here) ∙ b.ran in
          let n = step_some a' s' t tail (record { state = s; commands = a }) ran in
          let good : is_bad_token l ≡ false =
          good_behind (tokens_from start ps') t tail (subst AreGood here (no_bad_literal (tokens_from start ps) (runs_program (tokens_from start ps) (record { state = s; commands = a }) b.ran))) in
          let deep : is_too_deep (depth_at ps') l ≡ false =
          shallow_within (depth_at ps') l (lexemes tail)
          (shallow_rest 0 (lexemes (tokens_from start ps')) (l ∷ lexemes tail) (subst (IsShallow 0) (map-append (λ (x : Token). x.lexeme) (tokens_from start ps') (t ∷ tail)) (subst (λ ts. IsShallow 0 (lexemes ts)) here b.shallow))) in
          none-some f (sym (ap (option_map (fault_at at)) (taken_right (depth_at ps') s' at l n.0 n.1 good deep)) ∙ w)

  -- the place of a fault is not before what was read
  pub not_before : Behind fed ps rest a s → Behind fed ps' rest' a' s' → verdict finished (depth_at ps') (end_place start ps') s' rest' ≡ Some f → (more : List Piece) × (ps' ≡ ps ++ more) × Cuts more rest rest'
  not_before b b' wrong = ⊎_elim (λ x. x) (λ x. other x.0 x.1 x.2) (compare_cuts ps ps' fed rest rest' b.cut b'.cut)
    where
      other : (more : List Piece) → ps ≡ ps' ++ more → Cuts more rest' rest → (on : List Piece) × (ps' ≡ ps ++ on) × Cuts on rest rest'
      other [] e cut = ([], sym (e ∙ append-nil ps') ∙ sym (append-nil ps), sym cut)
      other (q ∷ qs) e cut = absurd (right_on q qs e cut b b' wrong)

-- the machine answers only more commands
pub run_grows : (ts : List Token) (cs : List Command) (s : State) (m : Moved) → run cs s ts ≡ Some m → length cs ≤ length m.commands
unfolding run
run_grows [] cs s m h = let e : length cs ≡ length m.commands = ap (λ (x : Moved). length x.commands) (same_Some _ _ h) in omega arith
run_grows (t ∷ ts) cs s m h =
    let n = after_some (take_token s t) (λ x. run (cs ++ x.commands) x.state ts) m h in
    omega (arith, run_grows ts (cs ++ n.0.commands) n.0.state m n.2, length-append cs n.0.commands)

-- a fault by the definition is the one of the verdict
module _ (finished : Bool) (fed : List ℕ) (answered : List Command) (f : Fault) (h : HasFault finished fed answered f) where
  ps : List Piece
  ps = h.pieces

  s : State
  s = fault_state finished fed answered f h

  d : ℕ
  d = depth_at h.pieces

  first_of : (l : Lexeme) → IsNext finished l h.rest → (behind : List ℕ) × (first_cut h.rest ≡ Some (token l, behind))
  first_of l (behind, firm) =
      let cut = cut_first (token l) [] (h.rest ++ []) (behind ++ []) (firm [] (λ _. refl)) in
      (cut.0, ap first_cut (sym (append-nil h.rest)) ∙ cut.1)

  by_token : (l : Lexeme) (k : FaultKind) → IsNext finished l h.rest → token_fault d s h.here l ≡ Some k → f.place ≡ h.here → f.kind ≡ k → verdict finished d h.here s h.rest ≡ Some f
  by_token l k next e at kind =
      let first = first_of l next in
      ap (piece_verdict finished d h.here s h.rest) first.1 ∙ ap (option_map (fault_at h.here)) e
      ∙ ap Some (ap (λ x. record { kind = x; place = h.here }) (sym kind) ∙ ap (λ x. record { kind = f.kind; place = x }) (sym at))

  here_tokens : tokens_from start h.pieces ≡ h.whole ++ h.part
  here_tokens = h.tokens

  not_deep : (l : Lexeme) → IsShallow 0 (lexemes (h.whole ++ h.part) ++ l ∷ []) → is_too_deep d l ≡ false
  unfolding d
  not_deep l sh = shallow_within _ l [] (shallow_rest 0 (lexemes (tokens_from start h.pieces)) (l ∷ []) (subst (λ ts. IsShallow 0 (lexemes ts ++ l ∷ [])) (sym here_tokens) sh))

  ran_here : run [] between (tokens_from start h.pieces) ≡ Some (record { state = s; commands = answered })
  unfolding s
  ran_here = (fault_behind finished fed answered f h).ran

  abbrev next_token : Lexeme → Token
  next_token l = record { place = h.here; lexeme = l }

  ran_on : (l : Lexeme) (m : Moved) → take_token s (next_token l) ≡ Some m → run [] between ((h.whole ++ h.part) ++ next_token l ∷ []) ≡ Some (record { state = m.state; commands = answered ++ m.commands })
  unfolding run
  ran_on l m e =
      run_append [] between (h.whole ++ h.part) (next_token l ∷ []) ∙ ap (λ o. after o (λ x. run x.commands x.state (next_token l ∷ []))) (ap (run [] between) (sym here_tokens) ∙ ran_here)
      ∙ ap (λ o. after o (λ x. run (answered ++ x.commands) x.state [])) e

  -- a step that the machine takes leads on to a program
  step_program : (l : Lexeme) (m : Moved) → take_token s (next_token l) ≡ Some m → BeginsProgram ((h.whole ++ h.part) ++ next_token l ∷ [])
  step_program l m e = runs_program ((h.whole ++ h.part) ++ next_token l ∷ []) (record { state = m.state; commands = answered ++ m.commands }) (ran_on l m e)

  stuck : (l : Lexeme) → is_bad_token l ≡ false → is_too_deep d l ≡ false → ((m : Moved) → take_token s (next_token l) ≡ Some m → ⊥) → token_fault d s h.here l ≡ Some unexpected
  unfolding token_fault
  stuck l good within none = cond_no (is_bad_token l) _ _ good ∙ cond_no (is_too_deep d l) _ _ within ∙ go (take_token s (next_token l)) refl
    where
      go : (o : Option Moved) → take_token s (next_token l) ≡ o → no_step o ≡ Some unexpected
      go None e = refl
      go (Some m) e = absurd (none m e)

  deep_fault : (IsShallow 0 (lexemes (h.whole ++ h.part) ++ open_bracket ∷ []) → ⊥) → token_fault d s h.here open_bracket ≡ Some nesting
  unfolding token_fault d
  deep_fault never = elim (cases_Bool (is_too_deep d open_bracket)) [
    | inl e ↦ cond_yes (is_too_deep d open_bracket) _ _ e
    | inr e ↦ absurd (never (subst (λ ts. IsShallow 0 (lexemes ts ++ open_bracket ∷ [])) here_tokens
        (shallow_append 0 (lexemes (tokens_from start h.pieces)) (open_bracket ∷ []) (fault_behind finished fed answered f h).shallow (within_shallow d open_bracket e))))
  ]

  bad_fault : (l : Lexeme) → is_bad_token l ≡ true → token_fault d s h.here l ≡ Some bad_literal
  unfolding token_fault
  bad_fault l e = cond_yes (is_bad_token l) _ _ e

  by_break : (x : Break) → break_of finished h.rest ≡ Some x → break_verdict finished h.here s h.rest (Some x) ≡ Some f → verdict finished d h.here s h.rest ≡ Some f
  by_break x e w = ap (piece_verdict finished d h.here s h.rest) (break_cut finished h.rest x e) ∙ ap (break_verdict finished h.here s h.rest) e ∙ w

  whole_fault : (k : FaultKind) (at : Place) → f.kind ≡ k → f.place ≡ at → ◌≡◌ {A = Option Fault} (Some (fault_at at k)) (Some f)
  whole_fault k at e g = ap Some (ap (λ x. record { kind = x; place = at }) (sym e) ∙ ap (λ x. record { kind = f.kind; place = x }) (sym g))

  state_ran : run answered between h.part ≡ Some (record { state = s; commands = answered })
  unfolding s fault_state state
  state_ran = (part_runs h.part answered h.going).1

  not_between : 0 < length h.part → s ≡ between → ⊥
  not_between more is = part_inside h.part answered s h.going more state_ran is

  end_right : finished ≡ true → h.rest ≡ [] → (s ≡ between → ⊥) → f.kind ≡ end_of_input → f.place ≡ place_behind h.here h.rest → verdict finished d h.here s h.rest ≡ Some f
  end_right done nothing in_ e g =
      ap (verdict finished d h.here s) nothing ∙ ap (λ b. verdict b d h.here s []) done ∙ end_some d h.here s in_ ∙ whole_fault end_of_input h.here e (g ∙ ap (place_behind h.here) nothing)

  by_kind : (k : FaultKind) → f.kind ≡ k → Fails k f.place finished h.here (h.whole ++ h.part) h.part h.rest → verdict finished d h.here s h.rest ≡ Some f
  by_kind bad_byte e w =
      let b = bad_byte_break finished h.here f.place h.rest w in
      by_break (bad b.0) b.1 (whole_fault bad_byte (place_behind h.here (take b.0 h.rest)) e b.2)
  by_kind bad_literal e (l, next, bad_, at) = by_token l bad_literal next (bad_fault l bad_) at e
  by_kind unexpected e (l, next, never, at) = by_token l unexpected next.next (stuck l next.good (not_deep l next.shallow) (λ m y. never (step_program l m y))) at e
  by_kind end_of_input e ((done, inl (none, some)), at) = end_right done none (not_between some) e at
  by_kind end_of_input e ((done, inr (front, is, begins_)), at) =
      by_break ends (ap (λ b. break_of b h.rest) done ∙ open_string_break h.rest front is begins_) (whole_fault end_of_input (place_behind h.here h.rest) e at)
  by_kind nesting e (next, never, at) = by_token open_bracket nesting next (deep_fault never) at e

  pub fault_verdict : verdict finished (depth_at h.pieces) (end_place start h.pieces) (fault_state finished fed answered f h) h.rest ≡ Some f
  unfolding s d
  fault_verdict = subst (λ p. verdict finished d p s h.rest ≡ Some f) h.place (by_kind f.kind refl h.fails)

-- a cut behind a cut
pub cuts_behind : (ps qs : List Piece) (text mid rest : List ℕ) → Cuts ps text mid → Cuts (ps ++ qs) text rest → Cuts qs mid rest
cuts_behind [] qs text mid rest h k = subst (λ t. Cuts qs t rest) h k
cuts_behind (p ∷ ps) qs text mid rest h k =
    let a = cut_first p ps text mid h in
    let b = cut_first p (ps ++ qs) text rest k in
    cuts_behind ps qs a.0 mid rest a.2 (subst (λ t. Cuts (ps ++ qs) t rest) (same_rest p b.0 a.0 (sym b.1 ∙ a.1)) b.2)
  where
    same_rest : (q : Piece) (x y : List ℕ) → ◌≡◌ {A = Option Cut} (Some (q, x)) (Some (q, y)) → x ≡ y
    same_rest q x y e = (some_pair_parts q q x y e).1

more_none : (ps on back : List Piece) → ps ≡ (ps ++ on) ++ back → on ≡ []
more_none ps [] back h = refl
more_none ps (q ∷ on) back h = let n : length ps ≡ length ((ps ++ q ∷ on) ++ back) = ap length h in absurd (omega (arith, length-append (ps ++ q ∷ on) back, length-append ps (q ∷ on)))

-- two faults of a text are behind the same commands, and the same
pub one_fault : (finished : Bool) (fed : List ℕ) (a b : List Command) (f g : Fault) → HasFault finished fed a f → HasFault finished fed b g → (a ≡ b) × (f ≡ g)
one_fault finished fed a b f g h k =
    let x = fault_behind finished fed a f h in
    let y = fault_behind finished fed b g k in
    let vx = fault_verdict finished fed a f h in
    let vy = fault_verdict finished fed b g k in
    let on = not_before fed h.pieces k.pieces h.rest k.rest a b (fault_state finished fed a f h) (fault_state finished fed b g k) finished g x y vy in
    let back = not_before fed k.pieces h.pieces k.rest h.rest b a (fault_state finished fed b g k) (fault_state finished fed a f h) finished f y x vx in
    let none = more_none h.pieces on.0 back.0 (back.1 ∙ ap (λ ps. ps ++ back.0) on.1) in
    let pieces : k.pieces ≡ h.pieces = on.1 ∙ ap (λ ps. h.pieces ++ ps) none ∙ append-nil h.pieces in
    let rest : h.rest ≡ k.rest = subst (λ ps. Cuts ps h.rest k.rest) none on.2 in
    let moved : record { state = fault_state finished fed a f h; commands = a } ≡ record { state = fault_state finished fed b g k; commands = b } =
    same_Some _ _ (sym x.ran ∙ ap (λ ps. run [] between (tokens_from start ps)) (sym pieces) ∙ y.ran) in (
      ap (λ (m : Moved). m.commands) moved,
      same_Some f g (sym vx ∙ ap (λ ps. verdict finished (depth_at ps) (end_place start ps) (fault_state finished fed a f h) h.rest) (sym pieces)
          ∙ ap (λ (m : Moved). verdict finished (depth_at k.pieces) (end_place start k.pieces) m.state h.rest) moved ∙ ap (verdict finished (depth_at k.pieces) (end_place start k.pieces) (fault_state finished fed b g k)) rest ∙ vy),
    )

-- a text that begins with commands has no fault before their end
begins_behind : (fed : List ℕ) (cs : List Command) (b : BeginsWith fed cs) → Behind fed b.1 b.0 cs between
begins_behind fed cs (rest, ps, cut, are) = record { cut = cut; ran = commands_run cs (tokens_from start ps) are.spelled []; shallow = are.shallow }

pub fault_no_command : (finished : Bool) (fed : List ℕ) (a : List Command) (c : Command) (f : Fault) → HasFault finished fed a f → BeginsWith fed (a ++ c ∷ []) → ⊥
fault_no_command finished fed a c f h b =
    let y = fault_behind finished fed a f h in
    let on = not_before fed b.1 h.pieces b.0 h.rest (a ++ c ∷ []) a between (fault_state finished fed a f h) finished f (begins_behind fed (a ++ c ∷ []) b) y (fault_verdict finished fed a f h) in
    let tail : List Token = tokens_from (end_place start b.1) on.0 in
    let ran : run (a ++ c ∷ []) between tail ≡ Some (record { state = fault_state finished fed a f h; commands = a }) =
    sym (run_append [] between (tokens_from start b.1) tail ∙ ap (λ o. after o (λ m. run m.commands m.state tail)) (begins_behind fed (a ++ c ∷ []) b).ran)
    ∙ ap (run [] between) (sym (ap (tokens_from start) on.1 ∙ tokens_append start b.1 on.0)) ∙ y.ran in
    omega (arith, run_grows tail (a ++ c ∷ []) between _ ran, length-append a (c ∷ []))

nothing_wrong : (d : ℕ) (at : Place) → verdict true d at between [] ≡ None
unfolding first_cut break_of
nothing_wrong d at = refl

pub fault_no_end : (fed : List ℕ) (a : List Command) (f : Fault) → HasFault true fed a f → Reads fed a → ⊥
fault_no_end fed a f h (ps, cut, are) =
    let x : Behind fed ps [] a between = record { cut = cut; ran = commands_run a (tokens_from start ps) are.spelled []; shallow = are.shallow } in
    let y = fault_behind true fed a f h in
    let on = not_before fed ps h.pieces [] h.rest a a between (fault_state true fed a f h) true f x y (fault_verdict true fed a f h) in
    let none = nothing_behind on.0 h.rest on.2 in
    let pieces : h.pieces ≡ ps = on.1 ∙ ap (λ qs. ps ++ qs) none ∙ append-nil ps in
    let rest : [] ≡ h.rest = subst (λ qs. Cuts qs [] h.rest) none on.2 in
    let state_is : between ≡ fault_state true fed a f h = ap (λ (m : Moved). m.state) (same_Some _ _ (sym x.ran ∙ ap (λ qs. run [] between (tokens_from start qs)) (sym pieces) ∙ y.ran)) in
    none-some f (sym (nothing_wrong (depth_at h.pieces) (end_place start h.pieces)) ∙ ap (λ s. verdict true (depth_at h.pieces) (end_place start h.pieces) s []) state_is ∙ ap (verdict true (depth_at h.pieces) (end_place start h.pieces) (fault_state true fed a f h)) rest ∙ fault_verdict true fed a f h)
