-- Texts split at marks in one way alone.
use Rattle.std.proofs.Common.{◌≡◌, ◌∙◌, ℕ, ◌+◌, ◌-◌, ◌<◌, Bool, true, false, List, [], ◌∷◌, ◌++◌, length, take, drop, get_or, refl, sym, ap, subst, arith, drop-cons, eqb-true, Option, Some, None, MatchOption, Bor}
use Rattle.std.specs.Prelude.{not, ◌==◌}
use Rattle.std.proofs.lemmas.Bool.{and_parts, and_from}
use Rattle.std.specs.Str.{bytes_eq}
use Rattle.std.proofs.lemmas.Slice.Eq.{bytes_eq-Decides}
use Rattle.std.proofs.Math.Seq.{take-append_seam}
use Rattle.std.proofs.lemmas.List.{take_more, take_all, drop_all, length-drop, take-append-drop}
use Rattle.value_texts.specs.Pieces.{is_free, Stops, IsEnd}

-- the first byte, and what stands behind it

abbrev pub behind : List ℕ → List ℕ
behind [] = []
behind (c ∷ cs) = cs

abbrev pub head_or : List ℕ → ℕ
head_or [] = 0
head_or (c ∷ cs) = c

pub heads : (c d : ℕ) (cs ds : List ℕ) → c ∷ cs ≡ d ∷ ds → c ≡ d
heads c d cs ds e = ap head_or e

pub tails : (c d : ℕ) (cs ds : List ℕ) → c ∷ cs ≡ d ∷ ds → cs ≡ ds
tails c d cs ds e = ap behind e

pub not_true : (b : Bool) → not b ≡ true → b ≡ false
not_true true e = absurd (cc e)
not_true false e = refl

pub split_once : (test : ℕ → Bool) (a b r q : List ℕ) → is_free test a ≡ true → is_free test b ≡ true → Stops test r → Stops test q → a ++ r ≡ b ++ q → (a ≡ b) × (r ≡ q)
split_once test [] [] r q f g s t e = (refl, e)
split_once test (c ∷ a) (d ∷ b) r q f g s t e =
    let same = split_once test a b r q (and_parts _ _ f).1 (and_parts _ _ g).1 s t (tails c d (a ++ r) (b ++ q) e) in
    (λ i. heads c d (a ++ r) (b ++ q) e i ∷ same.0 i, same.1)
split_once test [] (d ∷ b) [] q f g s t e = absurd (cc e)
split_once test [] (d ∷ b) (c ∷ r) q f g s t e =
    absurd (cc (sym (not_true (test d) (and_parts _ _ g).0) ∙ ap test (sym (heads c d r (b ++ q) e)) ∙ s))
split_once test (c ∷ a) [] r [] f g s t e = absurd (cc e)
split_once test (c ∷ a) [] r (d ∷ q) f g s t e =
    absurd (cc (sym (not_true (test c) (and_parts _ _ f).0) ∙ ap test (heads c d (a ++ r) q e) ∙ t))

pub free_append : (test : ℕ → Bool) (a b : List ℕ) → is_free test a ≡ true → is_free test b ≡ true → is_free test (a ++ b) ≡ true
free_append test [] b f g = g
free_append test (c ∷ a) b f g = and_from _ _ (and_parts _ _ f).0 (free_append test a b (and_parts _ _ f).1 g)

pub free_more : (test : ℕ → Bool) (text : List ℕ) (i : ℕ) → i < length text → is_free test (take i text) ≡ true → test (get_or text i 0) ≡ false → is_free test (take (i + 1) text) ≡ true
free_more test text i l f g =
    rw (take_more text i 0 l) (free_append test (take i text) (get_or text i 0 ∷ []) f (and_from _ _ (ap not g) refl))

-- what is split at an end is split there in each way
pub split_at_end : (test : ℕ → Bool) (text : List ℕ) (at : ℕ) (a r : List ℕ) → IsEnd test text at → is_free test a ≡ true → Stops test r → text ≡ a ++ r → (a ≡ take at text) × (r ≡ drop at text)
split_at_end test text at a r end f s e = split_once test a (take at text) r (drop at text) f end.free s end.stops (sym e ∙ sym (take-append-drop at text))

-- a slice to the end
pub to_end : (n : ℕ) (text : List ℕ) → take (length text - n) (drop n text) ≡ drop n text
to_end n text = take_all (length text - n) (drop n text) (omega (arith, length-drop n text))

-- what is left of a text without its front
pub after_is : (text front : List ℕ) (r : Option (Bor (List ℕ)))
    → MatchOption r (bytes_eq (take (length front) text) front ≡ false) (λ x. (bytes_eq (take (length front) text) front ≡ true) × (x.now ≡ drop (length front) text) × (length x.now + length front ≡ length text))
    → MatchOption r ((rest : List ℕ) → text ≡ front ++ rest → ⊥) (λ x. text ≡ front ++ x.now)
after_is text front None h = λ rest e. cc (sym h ∙ (bytes_eq-Decides (take (length front) text) front).1 (ap (take (length front)) e ∙ take-append_seam front rest))
after_is text front (Some x) h =
    let same = (bytes_eq-Decides (take (length front) text) front).0 h.0 in
    sym (take-append-drop (length front) text) ∙ (λ i. same i ++ sym h.1 i)

-- a text of no length
pub no_length : (text : List ℕ) (b : Bool) → b ≡ (length text == 0) → b ≡ true → text ≡ []
no_length [] b e h = refl
no_length (c ∷ cs) b e h = absurd (omega (arith, eqb-true (length (c ∷ cs)) 0 (sym e ∙ h)))

pub some_length : (text : List ℕ) (b : Bool) → b ≡ (length text == 0) → b ≡ false → text ≡ [] → ⊥
some_length text b e h n = cc (sym h ∙ e ∙ ap (λ x. length x == 0) n)
