-- What a reader holds, step by step.
use Rattle.std.proofs.Common.{◌≡◌, ◌∙◌, ℕ, ◌+◌, ◌≤◌, ◌^◌, Bool, true, false, Option, Some, None, Err, List, [], ◌∷◌, ◌++◌, length, is_some, refl, sym, ap, subst, arith, append-nil, append_assoc, length-append}
use Rattle.std.proofs.lemmas.List.{map-append}
use Rattle.std.proofs.lemmas.Option.{none-some, same_Some}
use Rattle.yices_grammar.specs.Commands as grammar
use Rattle.yices_grammar.specs.Texts.{Reads, BeginsWith}
use Rattle.yices_grammar.specs.Faults.{Fault, HasFault}
use Rattle.yices_lexer.specs.Bytes.{IsLexing, IsHeld}
use Rattle.yices_lexer.specs.declared.lexing.Lexing.{Lexing}
use Rattle.yices_lexer.specs.declared.lexing.Lexing.TheVariants as lexing
use Rattle.yices_lexer.proofs.Bytewise.{is_open}
use Rattle.yices_commands.specs.Plain.{plain_command}
use Rattle.yices_parser.specs.Taking.{state_of, depth_of}
use Rattle.yices_commands.specs.declared.command.Command.{Command}
use Rattle.yices_text.specs.declared.error.ReadError.{ReadError}
use Rattle.yices_text.specs.declared.error.ReadError.TheVariants.{Syntax, Nesting, NoMemory}
use Rattle.yices_text.specs.declared.scanner.Scanner.{Scanner}
use Rattle.yices_text.specs.declared.reader.Reader.TheInside.{Inside}
use Rattle.yices_text.specs.Reached.{IsReached}
use Rattle.yices_text.specs.View.{Reading, says, AnswersFault}
use Rattle.yices_text.specs.Waiting.{Waits, IsFaultOf}
use Rattle.yices_text.specs.Progress.{all_of, IsAt}
use Rattle.yices_text.specs.Sound.{reading_of, Works, IsSound}
use Rattle.yices_text.proofs.Unique.{one_fault, fault_no_command, fault_no_end}
use Rattle.yices_text.proofs.Reaching.{reached_begins, reached_rests, begins_front, fault_fed, fault_finished}
use Rattle.yices_text.proofs.Piecing.{begins_on}
use Rattle.yices_text.proofs.Scanning.{at_end, stops_on}

-- the bytes that are kept are those of a token
held_lexing : (l : Lexing) (rest : List ℕ) → IsLexing l rest → IsHeld l
held_lexing lexing.Blank rest h = tt
held_lexing lexing.Comment rest h = tt
held_lexing lexing.Colon rest h = tt
held_lexing (lexing.Word w) rest h = h.2
held_lexing (lexing.Quoted bytes escaped) rest h = h.1

pub held_at : (finished : Bool) (fed : List ℕ) (answered : List grammar.Command) (c : Scanner) (f : Option ReadError) → Works finished fed answered c f → f ≡ None → IsHeld c.lexing
held_at finished fed answered c None w e = held_lexing c.lexing w.rest w.lexing
held_at finished fed answered c (Some x) w e = absurd (none-some x (sym e))

pub index_at : (finished : Bool) (fed : List ℕ) (answered : List grammar.Command) (c : Scanner) (f : Option ReadError) → Works finished fed answered c f → f ≡ None → c.at.index ≡ length fed
index_at finished fed answered c None w e = w.index
index_at finished fed answered c (Some x) w e = absurd (none-some x (sym e))

-- the text goes on, or ends
pub works_on : (fed piece : List ℕ) (answered : List grammar.Command) (c : Scanner) (e : ReadError) → Works false fed answered c (Some e) → Works false (fed ++ piece) answered c (Some e)
works_on fed piece answered c e w = stops_on fed piece answered c e w

works_end : (finished : Bool) (fed : List ℕ) (answered : List grammar.Command) (c : Scanner) (f : Option ReadError) → Works finished fed answered c f → Works true fed answered c f
works_end finished fed answered c None w = at_end finished fed answered c w
works_end finished fed answered c (Some e) w = record { fault = λ f h. fault_finished finished fed (all_of answered c) f (w.fault f h); begins = w.begins }

-- the text begins with all commands that were read
works_begins : (finished : Bool) (fed : List ℕ) (answered : List grammar.Command) (c : Scanner) (f : Option ReadError) → Works finished fed answered c f → BeginsWith fed (all_of answered c)
works_begins finished fed answered c None w = reached_begins finished fed w.rest c.first (all_of answered c) (state_of c.parser) (depth_of c.parser) w.read
works_begins finished fed answered c (Some e) w = w.begins

-- the first of those that wait is answered
popped : (answered : List Command) (c : Command) (ws vs : List Command) → vs ≡ c ∷ ws → says answered ++ says vs ≡ says (answered ++ c ∷ []) ++ says ws
popped answered c ws vs h =
    ap (λ x. says answered ++ says x) h ∙ sym (append_assoc (says answered) (plain_command c ∷ []) (says ws)) ∙ ap (λ x. x ++ says ws) (sym (map-append plain_command answered (c ∷ [])))

pub works_popped : (finished : Bool) (fed : List ℕ) (answered : List Command) (c : Scanner) (f : Option ReadError) (w : Command) (ws : List Command) → c.waiting ≡ w ∷ ws → Works finished fed (says answered) c f
    → Works finished fed (says (answered ++ w ∷ [])) (record c { waiting = ws }) f
works_popped finished fed answered c None w ws e r = record {
  rest = r.rest;
  read = subst (λ cs. IsReached finished fed r.rest c.first cs (state_of c.parser) (depth_of c.parser)) (popped answered w ws c.waiting e) r.read;
  lexing = r.lexing;
  here = r.here;
  index = r.index;
}
works_popped finished fed answered c (Some x) w ws e r = record {
  fault = subst (λ cs. IsFaultOf finished fed cs x) (popped answered w ws c.waiting e) r.fault;
  begins = subst (BeginsWith fed) (popped answered w ws c.waiting e) r.begins;
}

pub got_popped : (finished : Bool) (fed : List ℕ) (answered : List Command) (c : Scanner) (f : Option ReadError) (w : Command) (ws : List Command) → c.waiting ≡ w ∷ ws → Works finished fed (says answered) c f → BeginsWith fed (says (answered ++ w ∷ []))
got_popped finished fed answered c f w ws e r =
    begins_front fed (says (answered ++ w ∷ [])) (says ws) (subst (BeginsWith fed) (popped answered w ws c.waiting e) (works_begins finished fed (says answered) c f r))

-- where nothing waits
none_waits : (answered : List Command) (c : Scanner) → c.waiting ≡ [] → all_of (says answered) c ≡ says answered
none_waits answered c e = ap (λ ws. says answered ++ says ws) e ∙ append-nil (says answered)

pub stopped_now : (finished : Bool) (fed : List ℕ) (answered : List Command) (c : Scanner) (e : ReadError) → c.waiting ≡ [] → Works finished fed (says answered) c (Some e) → IsFaultOf finished fed (says answered) e
stopped_now finished fed answered c e h w = subst (λ cs. IsFaultOf finished fed cs e) (none_waits answered c h) w.fault

pub waits_now : (fed : List ℕ) (answered : List Command) (c : Scanner) → c.waiting ≡ [] → Works false fed (says answered) c None → Waits fed (says answered)
waits_now fed answered c h w =
    subst (Waits fed) (none_waits answered c h) (reached_rests fed w.rest c.first (all_of (says answered) c) (state_of c.parser) (depth_of c.parser) w.read (is_open c.lexing w.rest w.lexing))

pub whole_now : (fed : List ℕ) (answered : List Command) (c : Scanner) → c.waiting ≡ [] → Reads fed (all_of (says answered) c) → Reads fed (says answered)
whole_now fed answered c h r = subst (Reads fed) (none_waits answered c h) r

-- where the answer is an error, it is the fault that the text has, or want of memory
pub only_fault : (finished : Bool) (fed : List ℕ) (answered : List grammar.Command) (x : ReadError) (f : Fault) → IsFaultOf finished fed answered x → HasFault finished fed answered f → AnswersFault f (Err x)
only_fault finished fed answered (Syntax e) f told h = ap Some (one_fault finished fed answered answered _ f (told _ refl) h).1
only_fault finished fed answered (Nesting at) f told h = ap Some (one_fault finished fed answered answered _ f (told _ refl) h).1
only_fault finished fed answered NoMemory f told h = tt

-- where a command is answered there is no fault behind those before it
pub no_fault_got : (finished : Bool) (fed : List ℕ) (answered : List Command) (c : Command) (f : Fault) → BeginsWith fed (says (answered ++ c ∷ [])) → HasFault finished fed (says answered) f → ⊥
no_fault_got finished fed answered c f b h = fault_no_command finished fed (says answered) (plain_command c) f h (subst (BeginsWith fed) (map-append plain_command answered (c ∷ [])) b)

pub no_fault_whole : (fed : List ℕ) (answered : List grammar.Command) (f : Fault) → Reads fed answered → HasFault true fed answered f → ⊥
no_fault_whole fed answered f r h = fault_no_end fed answered f h r

-- a fault that lasts
pub faulty_on : (fed piece : List ℕ) (answered : List grammar.Command) (e : ReadError) → IsFaultOf false fed answered e → IsFaultOf false (fed ++ piece) answered e
faulty_on fed piece answered e h = λ f k. fault_fed fed piece answered f (h f k)

pub faulty_end : (finished : Bool) (fed : List ℕ) (answered : List grammar.Command) (e : ReadError) → IsFaultOf finished fed answered e → IsFaultOf true fed answered e
faulty_end finished fed answered e h = λ f k. fault_finished finished fed answered f (h f k)

pub sound_finished : (r : Inside) → IsSound r → IsSound (record r { finished = true })
sound_finished r s = record {
  begins = s.begins;
  small = s.small;
  works = λ n. works_end r.finished r.fed.value (says r.answered.value) r.scanner r.fault (s.works n);
  faulty = λ e h. faulty_end r.finished r.fed.value (says r.answered.value) e (s.faulty e h);
}

-- where a fault was found before, or none was
pub no_failure : (f : Option ReadError) → is_some f ≡ false → f ≡ None
no_failure None h = refl
no_failure (Some x) h = absurd (cc h)

pub works_some : (fed piece : List ℕ) (answered : List grammar.Command) (c : Scanner) (f : Option ReadError) → is_some f ≡ true → Works false fed answered c f → Works false (fed ++ piece) answered c f
works_some fed piece answered c None h w = absurd (cc h)
works_some fed piece answered c (Some e) h w = stops_on fed piece answered c e w

pub works_at : (finished : Bool) (fed : List ℕ) (answered : List grammar.Command) (c : Scanner) (f : Option ReadError) → f ≡ None → finished ≡ true → Works finished fed answered c f → IsAt true fed answered c
works_at finished fed answered c None e h w = subst (λ b. IsAt b fed answered c) h w
works_at finished fed answered c (Some x) e h w = absurd (none-some x (sym e))

-- a piece more was fed
module _ (r : Inside) (v : Reading) (view : reading_of r ≡ v) (s : IsSound r) (open_ : v.finished ≡ false) (piece fed : List ℕ) (is : fed ≡ r.fed.value ++ piece) where
  not_done : r.finished ≡ false
  not_done = ap (λ (x : Reading). x.finished) view ∙ open_

  pub fed_begins : BeginsWith fed (says r.answered.value)
  fed_begins = subst (λ t. BeginsWith t (says r.answered.value)) (sym is) (begins_on r.fed.value piece (says r.answered.value) s.begins)

  pub fed_small : length v.fed + length piece ≤ 2 ^ 63 → length fed ≤ 2 ^ 63
  fed_small h = let n : length fed ≡ length (r.fed.value ++ piece) = ap length is in let m : length r.fed.value ≡ length v.fed = ap (λ (x : Reading). length x.fed) view in omega (arith, length-append r.fed.value piece)

  pub fed_works : (c : Scanner) (f : Option ReadError) → ((t : List ℕ) (answered : List grammar.Command) → Works false t answered r.scanner r.fault → Works false (t ++ piece) answered c f) → (r.failure ≡ Some NoMemory → ⊥)
      → Works r.finished fed (says r.answered.value) c f
  fed_works c f goes n =
      subst (λ b. Works b fed (says r.answered.value) c f) (sym not_done)
      (subst (λ t. Works false t (says r.answered.value) c f) (sym is)
      (goes r.fed.value (says r.answered.value) (subst (λ b. Works b r.fed.value (says r.answered.value) r.scanner r.fault) not_done (s.works n))))

  pub fed_faulty : (e : ReadError) → r.failure ≡ Some e → IsFaultOf r.finished fed (says r.answered.value) e
  fed_faulty e h =
      subst (λ b. IsFaultOf b fed (says r.answered.value) e) (sym not_done)
      (subst (λ t. IsFaultOf false t (says r.answered.value) e) (sym is)
      (faulty_on r.fed.value piece (says r.answered.value) e (subst (λ b. IsFaultOf b r.fed.value (says r.answered.value) e) not_done (s.faulty e h))))

-- the next command, or none, where no error was answered
module _ (r : Inside) (v : Reading) (view : reading_of r ≡ v) (s : IsSound r) (going : r.failure ≡ None) (c : Scanner) (f : Option ReadError)
    (works : (t : List ℕ) (answered : List grammar.Command) → Works r.finished t answered r.scanner r.fault → Works r.finished t answered c f) where
  not_failed : (e : ReadError) → r.failure ≡ Some e → ⊥
  not_failed e h = none-some e (sym going ∙ h)

  worked : Works r.finished r.fed.value (says r.answered.value) r.scanner r.fault
  worked = s.works (not_failed NoMemory)

  settled : Works r.finished r.fed.value (says r.answered.value) c f
  settled = works r.fed.value (says r.answered.value) worked

  -- a command was taken out
  module _ (w : Command) (ws : List Command) (first : c.waiting ≡ w ∷ ws) (answered : List Command) (is : answered ≡ r.answered.value ++ w ∷ []) where
    got_here : BeginsWith r.fed.value (says (r.answered.value ++ w ∷ []))
    got_here = got_popped r.finished r.fed.value r.answered.value c f w ws first settled

    pub next_begins : BeginsWith r.fed.value (says answered)
    next_begins = subst (λ a. BeginsWith r.fed.value (says a)) (sym is) got_here

    pub next_works : Works r.finished r.fed.value (says answered) (record c { waiting = ws }) f
    next_works = subst (λ a. Works r.finished r.fed.value (says a) (record c { waiting = ws }) f) (sym is) (works_popped r.finished r.fed.value r.answered.value c f w ws first settled)

    pub next_faulty : (e : ReadError) → r.failure ≡ Some e → IsFaultOf r.finished r.fed.value (says answered) e
    next_faulty e h = absurd (not_failed e h)

    pub next_got : BeginsWith v.fed (says (v.answered ++ w ∷ []))
    next_got = subst (λ (x : Reading). BeginsWith x.fed (says (x.answered ++ w ∷ []))) view got_here

  -- nothing waits
  module _ (ws : List Command) (nothing : c.waiting ≡ []) (none : ws ≡ []) where
    pub kept_works : Works r.finished r.fed.value (says r.answered.value) (record c { waiting = ws }) f
    kept_works = subst (λ x. Works r.finished r.fed.value (says r.answered.value) (record c { waiting = x }) f) (nothing ∙ sym none) settled

    pub stops_here : (e : ReadError) → f ≡ Some e → IsFaultOf r.finished r.fed.value (says r.answered.value) e
    stops_here e h = stopped_now r.finished r.fed.value r.answered.value c e nothing (subst (λ x. Works r.finished r.fed.value (says r.answered.value) c x) h settled)

    pub stops_value : (e : ReadError) → f ≡ Some e → IsFaultOf v.finished v.fed (says v.answered) e
    stops_value e h = subst (λ (x : Reading). IsFaultOf x.finished x.fed (says x.answered) e) view (stops_here e h)

    pub waits_value : f ≡ None → v.finished ≡ false → Waits v.fed (says v.answered)
    waits_value h open_ =
        subst (λ (x : Reading). Waits x.fed (says x.answered)) view
        (waits_now r.fed.value r.answered.value c nothing
        (subst (λ b. Works b r.fed.value (says r.answered.value) c None) (ap (λ (x : Reading). x.finished) view ∙ open_) (subst (λ x. Works r.finished r.fed.value (says r.answered.value) c x) h settled)))

    pub whole_value : (r.finished ≡ true → f ≡ None → c.waiting ≡ [] → (t : List ℕ) (answered : List grammar.Command) → Works r.finished t answered r.scanner r.fault → Reads t (all_of answered c))
        → f ≡ None → v.finished ≡ true → Reads v.fed (says v.answered)
    whole_value ends h done =
        subst (λ (x : Reading). Reads x.fed (says x.answered)) view
        (whole_now r.fed.value r.answered.value c nothing (ends (ap (λ (x : Reading). x.finished) view ∙ done) h nothing r.fed.value (says r.answered.value) worked))

    pub none_exactly : (r.finished ≡ true → f ≡ None → c.waiting ≡ [] → (t : List ℕ) (answered : List grammar.Command) → Works r.finished t answered r.scanner r.fault → Reads t (all_of answered c))
        → f ≡ None → (g : Fault) → HasFault v.finished v.fed (says v.answered) g → ⊥
    none_exactly ends h g k = go v.finished refl k
      where
        go : (b : Bool) → v.finished ≡ b → HasFault b v.fed (says v.answered) g → ⊥
        go true e i = no_fault_whole v.fed (says v.answered) g (whole_value ends h e) i
        go false e i = (waits_value h e).no_fault g i

-- an error that was answered
pub failed_before : (r : Inside) (v : Reading) (e : ReadError) → reading_of r ≡ v → IsSound r → r.failure ≡ Some e → IsFaultOf v.finished v.fed (says v.answered) e
failed_before r v e view s h = subst (λ (x : Reading). IsFaultOf x.finished x.fed (says x.answered) e) view (s.faulty e h)

pub failed_same : (finished : Bool) (fed : List ℕ) (answered : List grammar.Command) (e x : ReadError) → IsFaultOf finished fed answered e → ◌≡◌ {A = Option ReadError} (Some e) (Some x) → IsFaultOf finished fed answered x
failed_same finished fed answered e x h k = subst (IsFaultOf finished fed answered) (same_Some e x k) h
