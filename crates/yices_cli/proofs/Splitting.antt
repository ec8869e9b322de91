-- A text and its lines.
use Rattle.std.proofs.Common.{ℕ, zero, suc, Bool, true, false, ◌≡◌, ◌==◌, ◌+◌, ◌-◌, ◌∙◌, List, [], ◌∷◌, ◌++◌, Option, Some, length, map, take, drop, slice_get, refl, sym, ap, append_assoc, arith}
use Rattle.std.specs.List.{AllByRecursion}
use Rattle.std.proofs.lemmas.List.{map-append, length-drop}
use Rattle.std.proofs.lemmas.Bool.{eqb-true, eqb-false}
use Rattle.std.proofs.lemmas.Option.{same_Some}
use Rattle.script_session.specs.State.{Script}
use Rattle.script_session.specs.Runs.{ScriptLine}
use Rattle.yices_cli.specs.Scripts.{IsOneLine, IsLines, IsScript, HasRun, ended, ended_line, end_of}
use Rattle.yices_cli.specs.Lines.{GoesOn}
use Rattle.yices_cli.proofs.Growing.{take_own}

ended-append : (xs ys : List (List ℕ)) → ended (xs ++ ys) ≡ ended xs ++ ended ys
ended-append [] ys = refl
ended-append (x ∷ xs) ys = ap (λ z. x ++ 10 ∷ z) (ended-append xs ys) ∙ sym (append_assoc x (10 ∷ ended xs) (ended ys))

all-append : (P : List ℕ → Type 0) (xs ys : List (List ℕ)) → AllByRecursion P xs → AllByRecursion P ys → AllByRecursion P (xs ++ ys)
all-append P [] ys h k = k
all-append P (x ∷ xs) ys (p, h) k = (p, all-append P xs ys h k)

-- a byte in front of a text's lines
byte_before : (b : ℕ) (text : List ℕ) (lines : List (List ℕ)) (rest : List ℕ) → (b ≡ 10 → ⊥) → IsLines text lines rest → (more : List (List ℕ)) × (last : List ℕ) × IsLines (b ∷ text) more last
byte_before b text [] rest other h = ([], b ∷ rest, record { is = ap (λ t. b ∷ t) h.is; each = tt; behind = (other, h.behind) })
byte_before b text (l ∷ ls) rest other h =
    ((b ∷ l) ∷ ls, rest, record { is = ap (λ t. b ∷ t) h.is; each = ((other, h.each.0), h.each.1); behind = h.behind })

-- each text has lines
pub has_lines : (text : List ℕ) → (lines : List (List ℕ)) × (rest : List ℕ) × IsLines text lines rest
has_lines [] = ([], [], record { is = refl; each = tt; behind = tt })
has_lines (b ∷ text) = go b text (b == 10) refl (has_lines text)
  where
    go : (b : ℕ) (text : List ℕ) (test : Bool) → b == 10 ≡ test → (lines : List (List ℕ)) × (rest : List ℕ) × IsLines text lines rest → (lines : List (List ℕ)) × (rest : List ℕ) × IsLines (b ∷ text) lines rest
    go b text true same (ls, rest, h) = ([] ∷ ls, rest, record { is = ap (λ t. b ∷ t) h.is ∙ ap (λ c. c ∷ ended ls ++ rest) (eqb-true b 10 same); each = (tt, h.each); behind = h.behind })
    go b text false same (ls, rest, h) = byte_before b text ls rest (eqb-false b 10 same) h

-- the lines in front of the rest were answered, and their replies written
pub record HasAnsweredTo (text rest : List ℕ) (first now : Option (List ℕ)) (s : Script) : Type 0 where
  pub lines : List (List ℕ)
  pub split : text ≡ ended lines ++ rest
  pub each : AllByRecursion IsOneLine lines
  pub run : HasRun first now (map ended_line lines) s

-- no line was answered
pub to_start : (text : List ℕ) (w : Option (List ℕ)) (s : Script) → HasRun w w [] s → HasAnsweredTo text text w w s
to_start text w s run = record { lines = []; split = refl; each = tt; run = run }

-- a line in front of a byte 10, and what is behind
line_before : (n : ℕ) (xs : List ℕ) → slice_get xs n ≡ Some 10 → xs ≡ take n xs ++ 10 ∷ drop (suc n) xs
line_before n [] is = absurd (cc is)
line_before zero (x ∷ xs) is = ap (λ c. c ∷ xs) (same_Some x 10 is)
line_before (suc n) (x ∷ xs) is = ap (λ ys. x ∷ ys) (line_before n xs is)

take_all_of : (xs : List ℕ) (n : ℕ) → n ≡ length xs → take n xs ≡ xs
take_all_of xs n is = rw is (take_own xs)

-- so it is where what is behind is a slice
text_behind : (rest behind : List ℕ) (n : ℕ) → slice_get rest n ≡ Some 10 → behind ≡ take (length rest - (n + 1)) (drop (n + 1) rest) → rest ≡ take n rest ++ 10 ∷ behind
text_behind rest behind n is cut =
    let whole = take_all_of (drop (n + 1) rest) (length rest - (n + 1)) (sym (length-drop (n + 1) rest)) in
    let next : n + 1 ≡ suc n = omega arith in
    line_before n rest is ∙ ap (λ r. take n rest ++ 10 ∷ r) (sym (cut ∙ whole ∙ ap (λ k. drop k rest) next))

ended-push : (ls : List (List ℕ)) (l rest : List ℕ) → ended (ls ++ l ∷ []) ++ rest ≡ ended ls ++ (l ++ 10 ∷ rest)
ended-push [] l rest = append_assoc l (10 ∷ []) rest
ended-push (x ∷ ls) l rest = append_assoc x (10 ∷ ended (ls ++ l ∷ [])) rest ∙ ap (λ r. x ++ 10 ∷ r) (ended-push ls l rest) ∙ sym (append_assoc x (10 ∷ ended ls) (l ++ 10 ∷ rest))

-- the lines so far, one more, and the lines behind it
ended-among : (ls : List (List ℕ)) (l : List ℕ) (ms : List (List ℕ)) (rest : List ℕ) → ended ls ++ (l ++ 10 ∷ (ended ms ++ rest)) ≡ ended (ls ++ l ∷ ms) ++ rest
ended-among ls l ms rest =
    ap (λ r. ended ls ++ r) (sym (append_assoc l (10 ∷ ended ms) rest)) ∙ sym (append_assoc (ended ls) (l ++ 10 ∷ ended ms) rest) ∙ ap (λ r. r ++ rest) (sym (ended-append ls (l ∷ ms)))

-- a line more was answered
pub to_next : (text rest behind : List ℕ) (n : ℕ) (first mid new : Option (List ℕ)) (s t : Script) → HasAnsweredTo text rest first mid s
    → IsOneLine (take n rest) → slice_get rest n ≡ Some 10 → behind ≡ take (length rest - (n + 1)) (drop (n + 1) rest) → GoesOn s (ended_line (take n rest)) mid new t
    → HasAnsweredTo text behind first new t
to_next text rest behind n first mid new s t h line is cut goes = record {
  lines = h.lines ++ take n rest ∷ [];
  split = h.split ∙ ap (λ r. ended h.lines ++ r) (text_behind rest behind n is cut) ∙ sym (ended-push h.lines (take n rest) behind);
  each = all-append IsOneLine h.lines (take n rest ∷ []) h.each (line, tt);
  run = rw (map-append ended_line h.lines (take n rest ∷ [])) (goes first (map ended_line h.lines) h.run);
}

-- the text is the lines that were answered, and the rest, which is the last one
pub script_to_end : (finished : Bool) (text rest : List ℕ) (first now : Option (List ℕ)) (s : Script) (h : HasAnsweredTo text rest first now s) → IsOneLine rest
    → IsScript finished text (map ended_line h.lines ++ record { bytes = rest; end = end_of finished } ∷ [])
script_to_end finished text rest first now s h last =
    record { whole = h.lines; rest = rest; split = record { is = h.split; each = h.each; behind = last }; are = refl }

-- the text is the lines that were answered, the next one, and some more
pub script_at : (finished : Bool) (text rest : List ℕ) (n : ℕ) (first now : Option (List ℕ)) (s : Script) (h : HasAnsweredTo text rest first now s)
    → IsOneLine (take n rest) → slice_get rest n ≡ Some 10 → (back : List ScriptLine) × IsScript finished text (map ended_line h.lines ++ ended_line (take n rest) ∷ back)
script_at finished text rest n first now s h line is =
    let l = take n rest in
    let (ls, end, more) = has_lines (drop (suc n) rest) in
    let last : ScriptLine = record { bytes = end; end = end_of finished } in (
      map ended_line ls ++ last ∷ [],
      record {
        whole = h.lines ++ l ∷ ls;
        rest = end;
        split = record {
          is = h.split ∙ ap (λ r. ended h.lines ++ r) (line_before n rest is ∙ ap (λ r. l ++ 10 ∷ r) more.is) ∙ ended-among h.lines l ls end;
          each = all-append IsOneLine h.lines (l ∷ ls) h.each (line, more.each);
          behind = more.behind;
        };
        are = sym (ap (λ r. r ++ last ∷ []) (map-append ended_line h.lines (l ∷ ls)) ∙ append_assoc (map ended_line h.lines) (ended_line l ∷ map ended_line ls) (last ∷ []));
      },
    )
