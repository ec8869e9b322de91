-- What the stack has left to write, and how a turn writes the front of it.
use Rattle.std.proofs.Common.{◌≡◌, ◌∙◌, ℕ, zero, suc, ◌+◌, ◌<◌, ◌≤◌, List, [], ◌∷◌, ◌++◌, length, drop, Option, Some, None, refl, sym, ap, subst, arith, append_assoc, append-nil}
use Rattle.std.specs.Prelude.{slice_get}
use Rattle.std.proofs.lemmas.Option.{slice_get_within}
use Rattle.std.proofs.lemmas.List.{at_drop_more, at_drop_all, length-append}
use Rattle.term_shapes.specs.declared.handles.Term.{Term}
use Rattle.term_shapes.specs.declared.shapes.Shape.{Shape}
use Rattle.term_shapes.specs.Shapes.{args_of}
use Rattle.term_table.specs.World.{World, HasShape, IsTable}
use Rattle.term_texts.specs.declared.terms.Frame.{Frame}
use Rattle.term_texts.specs.TermTexts.{Writes, AllWrite, IsLong, text_limit}
use Rattle.term_texts.specs.Gaps.{gap, gap_under, gap_at, begun, woven, FrameWrites, StackWrites, args_under, args_at, stack_turns}
use Rattle.term_texts.proofs.Trees.{writes_by, write_none, write_more, write_length}
use Rattle.term_texts.proofs.Ending.{read_at, turn_falls}
use Rattle.term_texts.proofs.Weaving.{shape_woven}

-- a stack of two parts
stack_apart : (w : World) (fs gs : List Frame) (r : List ℕ) → StackWrites w (fs ++ gs) r → (a : List ℕ) × (b : List ℕ) × StackWrites w gs a × StackWrites w fs b × (r ≡ a ++ b)
stack_apart w [] gs r h = (r, [], h, refl, sym (append-nil r))
stack_apart w (f ∷ fs) gs r (front, back, hs, hf, e) =
    let (a, b, ga, gb, d) = stack_apart w fs gs front hs in
    (a, b ++ back, ga, (b, back, gb, hf, refl), e ∙ ap (λ x. x ++ back) d ∙ append_assoc a b back)

stack_whole : (w : World) (fs gs : List Frame) (a b : List ℕ) → StackWrites w gs a → StackWrites w fs b → StackWrites w (fs ++ gs) (a ++ b)
stack_whole w [] gs a b ha hb = subst (StackWrites w gs) (sym (ap (λ x. a ++ x) hb ∙ append-nil a)) ha
stack_whole w (f ∷ fs) gs a b ha (front, back, hs, hf, e) = (a ++ front, back, stack_whole w fs gs a front ha hs, hf, ap (λ x. a ++ x) e ∙ sym (append_assoc a front back))

-- a term that isn't begun yet
whole_frame : (w : World) (t : Term) (x : List ℕ) → Writes w t x → FrameWrites w (record { of = t; place = 0 }) x
whole_frame w t x h = let (s, xs, has, all, e) = writes_by h in (s, xs, has, all, e ∙ sym (shape_woven w t s xs (write_length all)))

pub stack_starts : (w : World) (t : Term) (x : List ℕ) → Writes w t x → StackWrites w (record { of = t; place = 0 } ∷ []) x
stack_starts w t x h = ([], x, refl, whole_frame w t x h, refl)

-- nothing is at a place past the end alone
past : {X : Type 0} (xs : List X) (i : ℕ) → slice_get xs i ≡ None → length xs ≤ i
past [] i e = omega arith
past (x ∷ xs) zero e = absurd (cc e)
past (x ∷ xs) (suc i) e = omega (arith, past xs i e)

-- a frame's next gap, and what is begun behind it
frame_turn : (w : World) (t : Term) (i : ℕ) (s : Shape) (xs : List (List ℕ)) (o : Option Term) → HasShape w t s → slice_get (args_of s) i ≡ o → AllWrite w (drop i (args_of s)) xs
    → (r : List ℕ) × StackWrites w (begun t i o) r × (woven (gap w t s) i xs ≡ gap w t s i ++ r)
frame_turn w t i s xs None has e all =
    let none = write_none (subst (λ ts. AllWrite w ts xs) (at_drop_all (λ ts. ts) (args_of s) i (past (args_of s) i e)) all) in
    ([], refl, ap (woven (gap w t s) i) none ∙ sym (append-nil (gap w t s i)))
frame_turn w t i s xs (Some u) has e all =
    let rest = drop (i + 1) (args_of s) in
    let now : AllWrite w (u ∷ rest) xs = subst (λ ts. AllWrite w ts xs) (at_drop_more (λ ts. ts) (args_of s) i u (slice_get_within (args_of s) i u e) ∙ ap (λ v. v ∷ rest) (read_at (args_of s) i u e)) all in
    let (x, ys, hx, hys, d) = write_more now in
    let g = gap w t s in (
      x ++ woven g (i + 1) ys,
      (x, woven g (i + 1) ys, ([], x, refl, whole_frame w u x hx, refl), (s, ys, has, hys, refl), refl),
      ap (woven g i) d ∙ append_assoc (g i) x (woven g (i + 1) ys),
    )

-- a turn writes the front of what is left
pub stack_turn : (w : World) (fs : List Frame) (f : Frame) (r : List ℕ) → StackWrites w (fs ++ f ∷ []) r
    → (z : List ℕ) × StackWrites w (fs ++ begun f.of f.place (slice_get (args_at w f.of) f.place)) z × (r ≡ gap_at w f.of f.place ++ z)
stack_turn w fs f r h =
    let (a, b, top, hb, d) = stack_apart w fs (f ∷ []) r h in
    let (front, back, none, (s, xs, has, all, e), c) = top in
    let (z, hz, g) = frame_turn w f.of f.place s xs (slice_get (args_of s) f.place) has refl all in
    let whole : r ≡ gap w f.of s f.place ++ (z ++ b) = d ∙ ap (λ x. x ++ b) (c ∙ ap (λ x. x ++ back) none ∙ e ∙ g) ∙ append_assoc (gap w f.of s f.place) z b in (
      z ++ b,
      subst (λ o. StackWrites w (fs ++ begun f.of f.place (slice_get (args_under o) f.place)) (z ++ b)) (sym has) (stack_whole w fs (begun f.of f.place (slice_get (args_of s) f.place)) z b hz hb),
      subst (λ o. r ≡ gap_under w f.of o f.place ++ (z ++ b)) (sym has) whole,
    )

-- ---- the loop
-- what is written, with what the stack has left to write, is the text
pub record Writing (w : World) (t : Term) (out : List ℕ) (stack : List Frame) : Type 0 where
  pub rest : List ℕ
  pub left : StackWrites w stack rest
  pub whole : Writes w t (out ++ rest)

pub writing_starts : (w : World) (t : Term) (x : List ℕ) (out : List ℕ) (stack : List Frame) → Writes w t x → out ≡ [] → stack ≡ record { of = t; place = 0 } ∷ [] → Writing w t out stack
writing_starts w t x out stack h e d = record { rest = x; left = subst (λ fs. StackWrites w fs x) (sym d) (stack_starts w t x h); whole = subst (λ o. Writes w t (o ++ x)) (sym e) h }

pub writing_turn : (w : World) (t : Term) (out new : List ℕ) (stack fs next : List Frame) (f : Frame) → Writing w t out stack → stack ≡ fs ++ f ∷ [] → new ≡ out ++ gap_at w f.of f.place
    → next ≡ fs ++ begun f.of f.place (slice_get (args_at w f.of) f.place) → Writing w t new next
writing_turn w t out new stack fs next f h e n b =
    let (z, hz, d) = stack_turn w fs f h.rest (subst (λ gs. StackWrites w gs h.rest) e h.left) in
    record {
      rest = z;
      left = subst (λ gs. StackWrites w gs z) (sym b) hz;
      whole = subst (Writes w t) (ap (λ x. out ++ x) d ∙ sym (append_assoc out (gap_at w f.of f.place) z) ∙ ap (λ x. x ++ z) (sym n)) h.whole;
    }

-- nothing is left
pub writing_ends : (w : World) (t : Term) (out : List ℕ) (stack : List Frame) → Writing w t out stack → stack ≡ [] → Writes w t out
writing_ends w t out stack h e = subst (Writes w t) (ap (λ x. out ++ x) (subst (λ gs. StackWrites w gs h.rest) e h.left) ∙ append-nil out) h.whole

-- what is written is too long already
pub writing_long : (w : World) (t : Term) (out : List ℕ) (stack : List Frame) → Writing w t out stack → text_limit < length out → IsLong w t
writing_long w t out stack h l = (out ++ h.rest, h.whole, omega (arith, l, length-append out h.rest))

pub start_fits : (out : List ℕ) → out ≡ [] → length out ≤ text_limit
start_fits out e = subst (λ o. length o ≤ text_limit) (sym e) (omega arith)

-- a list without items
pub empty : {X : Type 0} (xs : List X) → length xs ≡ 0 → xs ≡ []
empty [] e = refl
empty (x ∷ xs) e = absurd (omega (arith, e))

-- each turn leaves fewer
pub falls : (w : World) (stack fs next : List Frame) (f : Frame) → IsTable w → stack ≡ fs ++ f ∷ [] → next ≡ fs ++ begun f.of f.place (slice_get (args_at w f.of) f.place) → stack_turns w next < stack_turns w stack
falls w stack fs next f table e b = subst (λ n. n < stack_turns w stack) (ap (stack_turns w) (sym b)) (subst (λ n. stack_turns w (fs ++ begun f.of f.place (slice_get (args_at w f.of) f.place)) < n) (ap (stack_turns w) (sym e)) (turn_falls w fs f table))
