-- A fault behind what was read is one of the text.
use Rattle.std.proofs.Common.{◌≡◌, ◌∙◌, ℕ, ◌+◌, ◌-◌, ◌≤◌, Bool, true, false, cond, Option, Some, None, List, [], ◌∷◌, ◌++◌, take, refl, sym, ap, subst, inl, inr, arith}
use Rattle.std.specs.Prelude.{nat_le}
use Rattle.std.proofs.lemmas.Bool.{cases_Bool, leb-false, leb-true}
use Rattle.std.proofs.lemmas.Option.{none-some, same_Some}
use Rattle.yices_grammar.specs.declared.Place.{Place}
use Rattle.yices_grammar.specs.Tokens.{Lexeme, open_bracket, close_bracket, typing_mark, word, string, Token, token, Firm, tokens_from, start, place_behind}
use Rattle.yices_grammar.specs.Commands.{Command}
use Rattle.yices_grammar.specs.Reading.{BeginsProgram}
use Rattle.yices_grammar.specs.Texts.{IsShallow, lexemes}
use Rattle.yices_grammar.specs.Words.{is_bad_token}
use Rattle.yices_grammar.specs.Faults.{FaultKind, bad_byte, bad_literal, unexpected, end_of_input, nesting, IsNext, IsNextToken, IsPart, Fails, HasFault}
use Rattle.yices_lexer.specs.Pieces.{bad, ends, break_of}
use Rattle.yices_grammar.specs.Machine.{State, Moved, between, take_token, run, after}
use Rattle.yices_parser.specs.Taking.{depth_behind, is_too_deep}
use Rattle.yices_text.specs.Reached.{depths, IsReached}
use Rattle.yices_lexer.proofs.Breaking.{break_bad_byte, break_ends}
use Rattle.yices_grammar.proofs.Running.{after_some, run_append, Parts, run_parts, part_going, program_runs}
use Rattle.yices_text.proofs.Verdict.{fault_at, no_step, token_fault}

pub shallow_append : (d : ℕ) (a b : List Lexeme) → IsShallow d a → IsShallow (depths d a) b → IsShallow d (a ++ b)
unfolding depths
shallow_append d [] b h k = k
shallow_append d (open_bracket ∷ a) b h k = (h.0, shallow_append (d + 1) a b h.1 k)
shallow_append d (close_bracket ∷ a) b h k = shallow_append (d - 1) a b h k
shallow_append d (typing_mark ∷ a) b h k = shallow_append d a b h k
shallow_append d (word w ∷ a) b h k = shallow_append d a b h k
shallow_append d (string s ∷ a) b h k = shallow_append d a b h k

pub shallow_rest : (d : ℕ) (a b : List Lexeme) → IsShallow d (a ++ b) → IsShallow (depths d a) b
unfolding depths
shallow_rest d [] b h = h
shallow_rest d (open_bracket ∷ a) b h = shallow_rest (d + 1) a b h.1
shallow_rest d (close_bracket ∷ a) b h = shallow_rest (d - 1) a b h
shallow_rest d (typing_mark ∷ a) b h = shallow_rest d a b h
shallow_rest d (word w ∷ a) b h = shallow_rest d a b h
shallow_rest d (string s ∷ a) b h = shallow_rest d a b h

pub shallow_front : (d : ℕ) (a b : List Lexeme) → IsShallow d (a ++ b) → IsShallow d a
shallow_front d [] b h = tt
shallow_front d (open_bracket ∷ a) b h = (h.0, shallow_front (d + 1) a b h.1)
shallow_front d (close_bracket ∷ a) b h = shallow_front (d - 1) a b h
shallow_front d (typing_mark ∷ a) b h = shallow_front d a b h
shallow_front d (word w ∷ a) b h = shallow_front d a b h
shallow_front d (string s ∷ a) b h = shallow_front d a b h

pub depths_append : (d : ℕ) (a b : List Lexeme) → depths d (a ++ b) ≡ depths (depths d a) b
unfolding depths
depths_append d [] b = refl
depths_append d (l ∷ a) b = depths_append (depth_behind d l) a b

-- within the limit, or past it
pub within_shallow : (d : ℕ) (l : Lexeme) → is_too_deep d l ≡ false → IsShallow d (l ∷ [])
within_shallow d open_bracket h = (leb-false 4096 d h, tt)
within_shallow d close_bracket h = tt
within_shallow d typing_mark h = tt
within_shallow d (word w) h = tt
within_shallow d (string s) h = tt

pub shallow_within : (d : ℕ) (l : Lexeme) (ls : List Lexeme) → IsShallow d (l ∷ ls) → is_too_deep d l ≡ false
shallow_within d open_bracket ls h = elim (cases_Bool (nat_le 4096 d)) [
  | inl e ↦ absurd (omega (arith, leb-true 4096 d e, h.0))
  | inr e ↦ e
]
shallow_within d close_bracket ls h = refl
shallow_within d typing_mark ls h = refl
shallow_within d (word w) ls h = refl
shallow_within d (string s) ls h = refl

pub deep_open : (d : ℕ) (l : Lexeme) → is_too_deep d l ≡ true → (l ≡ open_bracket) × (4096 ≤ d)
deep_open d open_bracket h = (refl, leb-true 4096 d h)
deep_open d close_bracket h = absurd (cc h)
deep_open d typing_mark h = absurd (cc h)
deep_open d (word w) h = absurd (cc h)
deep_open d (string s) h = absurd (cc h)

-- what is wrong with a token, taken apart
pub data TokenFault (d : ℕ) (s : State) (at : Place) (l : Lexeme) (k : FaultKind) : Type 0 where
  is_bad_one : k ≡ bad_literal → is_bad_token l ≡ true → TokenFault d s at l k
  is_deep : k ≡ nesting → is_too_deep d l ≡ true → TokenFault d s at l k
  is_stuck : is_bad_token l ≡ false → is_too_deep d l ≡ false → take_token s (record { place = at; lexeme = l }) ≡ None → k ≡ unexpected → TokenFault d s at l k

pub token_fault_is : (d : ℕ) (s : State) (at : Place) (l : Lexeme) (k : FaultKind) → token_fault d s at l ≡ Some k → TokenFault d s at l k
unfolding token_fault
token_fault_is d s at l k h = go (is_bad_token l) (is_too_deep d l) (take_token s (record { place = at; lexeme = l })) refl refl refl h
  where
    go : (a b : Bool) (o : Option Moved) → is_bad_token l ≡ a → is_too_deep d l ≡ b → take_token s (record { place = at; lexeme = l }) ≡ o → cond a (Some bad_literal) (cond b (Some nesting) (no_step o)) ≡ Some k → TokenFault d s at l k
    go true b o x y z j = is_bad_one (sym (same_Some _ _ j)) x
    go false true o x y z j = is_deep (sym (same_Some _ _ j)) y
    go false false None x y z j = is_stuck x y z (sym (same_Some _ _ j))
    go false false (Some m) x y z j = absurd (none-some k j)

module _ (finished : Bool) (fed rest : List ℕ) (place : Place) (answered : List Command) (s : State) (d : ℕ) (r : IsReached finished fed rest place answered s d) where
  parts : Parts (tokens_from start r.pieces) (record { state = s; commands = answered })
  parts = run_parts (tokens_from start r.pieces) (record { state = s; commands = answered }) r.ran

  going : IsPart parts.part
  unfolding parts
  going = part_going (tokens_from start r.pieces) (record { state = s; commands = answered }) r.ran

  same : (tokens_from start r.pieces) ≡ parts.whole ++ parts.part
  same = parts.tokens

  -- a fault behind what was read
  fault_here : (k : FaultKind) (p : Place) → Fails k p finished place (parts.whole ++ parts.part) parts.part rest → HasFault finished fed answered (fault_at p k)
  fault_here k p f = record {
    pieces = r.pieces;
    rest = rest;
    firm = r.firm;
    whole = parts.whole;
    part = parts.part;
    tokens = same;
    spelled = parts.spelled;
    going = going;
    shallow = subst (λ ts. IsShallow 0 (lexemes ts)) same r.shallow;
    here = place;
    place = sym r.here;
    fails = f;
  }

  next_shallow : (l : Lexeme) → is_too_deep d l ≡ false → IsShallow 0 (lexemes (tokens_from start r.pieces) ++ l ∷ [])
  next_shallow l h = shallow_append 0 (lexemes (tokens_from start r.pieces)) (l ∷ []) r.shallow (subst (λ x. IsShallow x (l ∷ [])) (sym r.brackets) (within_shallow d l h))

  too_deep : IsShallow 0 (lexemes (tokens_from start r.pieces) ++ open_bracket ∷ []) → 4096 ≤ d → ⊥
  too_deep h k = let x = shallow_rest 0 (lexemes (tokens_from start r.pieces)) (open_bracket ∷ []) h in omega (arith, x.0, r.brackets)

  not_begun : (l : Lexeme) → take_token s (record { place = place; lexeme = l }) ≡ None → BeginsProgram ((tokens_from start r.pieces) ++ record { place = place; lexeme = l } ∷ []) → ⊥
  unfolding run
  not_begun l h b =
      let t : Token = record { place = place; lexeme = l } in
      let whole = program_runs (tokens_from start r.pieces ++ t ∷ []) b in
      let ran : run answered s (t ∷ []) ≡ Some whole.0 =
      sym (run_append [] between (tokens_from start r.pieces) (t ∷ []) ∙ ap (λ o. after o (λ m. run m.commands m.state (t ∷ []))) r.ran) ∙ whole.1 in
      let n = after_some (take_token s t) (λ x. run (answered ++ x.commands) x.state []) whole.0 ran in
      none-some n.0 (sym h ∙ n.1)

  -- a token at which the machine takes no step
  pub fault_token : (l : Lexeme) (behind : List ℕ) (k : FaultKind) → Firm finished (token l ∷ []) rest behind → token_fault d s place l ≡ Some k → HasFault finished fed answered (fault_at place k)
  fault_token l behind k q h = go (token_fault_is d s place l k h)
    where
      next : IsNext finished l rest
      next = (behind, q)

      good : is_bad_token l ≡ false → is_too_deep d l ≡ false → IsNextToken finished (parts.whole ++ parts.part) l rest
      good x y = record { next = next; good = x; shallow = subst (λ ts. IsShallow 0 (lexemes ts ++ l ∷ [])) same (next_shallow l y) }

      go : TokenFault d s place l k → HasFault finished fed answered (fault_at place k)
      go (is_bad_one e x) = subst (λ y. HasFault finished fed answered (fault_at place y)) (sym e) (fault_here bad_literal place (l, next, x, refl))
      go (is_deep e x) =
          let o = deep_open d l x in
          subst (λ y. HasFault finished fed answered (fault_at place y)) (sym e)
          (fault_here nesting place (subst (λ y. IsNext finished y rest) o.0 next, λ sh. too_deep (subst (λ ts. IsShallow 0 (lexemes ts ++ open_bracket ∷ [])) (sym same) sh) o.1, refl))
      go (is_stuck x y z e) =
          subst (λ u. HasFault finished fed answered (fault_at place u)) (sym e)
          (fault_here unexpected place (l, good x y, λ w. not_begun l z (subst (λ ts. BeginsProgram (ts ++ record { place = place; lexeme = l } ∷ [])) (sym same) w), refl))

  -- bytes that no piece begins with
  pub fault_bytes : (k : ℕ) → break_of finished rest ≡ Some (bad k) → HasFault finished fed answered (fault_at (place_behind place (take k rest)) bad_byte)
  fault_bytes k h = fault_here bad_byte (place_behind place (take k rest)) (break_bad_byte finished place rest k h)

  -- the end inside a string
  pub fault_string : break_of finished rest ≡ Some ends → HasFault finished fed answered (fault_at (place_behind place rest) end_of_input)
  fault_string h = let e = break_ends finished rest h in fault_here end_of_input (place_behind place rest) ((e.0, inr e.1), refl)

  -- the end inside a command
  pub fault_end : finished ≡ true → rest ≡ [] → (s ≡ between → ⊥) → HasFault finished fed answered (fault_at place end_of_input)
  fault_end done none inside =
      fault_here end_of_input place ((done, inl (none, parts.within inside)), ap (place_behind place) (sym none))
