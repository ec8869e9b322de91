-- Runs of bytes that pass a test, and chains of tests.
use Rattle.std.proofs.Common.{◌≡◌, ◌∙◌, ℕ, suc, ◌+◌, ◌<◌, Bool, true, false, not, ◌&&◌, ◌||◌, cond, List, [], ◌∷◌, ◌++◌, length, take, drop, refl, ap, arith, ltb, ◌⊎◌, inl, inr, ⊎_elim}
use Rattle.std.specs.Prelude.{◌==◌}
use Rattle.std.specs.List.{list_all, prefix_len}
use Rattle.std.proofs.lemmas.Bool.{and_parts, ltb-true, not-true, ne_eqb, eqb-true, eq-eqb}
use Rattle.yices_grammar.specs.Tokens.{begins_with}
use Rattle.call_script.specs.Tokens.{is_separator, is_bracket, is_mark, is_word_byte}

pub both : (x y : Bool) → x ≡ true → y ≡ true → (x && y) ≡ true
both x y h k = rw (h, k) refl

pub or_false : (x y : Bool) → (x || y) ≡ false → (x ≡ false) × (y ≡ false)
or_false true y h = absurd (cc h)
or_false false y h = (refl, h)

pub or_from : (x y : Bool) → x ≡ false → y ≡ false → (x || y) ≡ false
or_from x y h k = rw (h, k) refl

pub not_false : (x : Bool) → not x ≡ true → x ≡ false
not_false true h = absurd (cc h)
not_false false h = refl

-- the bytes in front of the first one that doesn't pass
pub prefix_run : (test : ℕ → Bool) (w rest : List ℕ) → list_all test w ≡ true → begins_with test rest ≡ false → prefix_len test (w ++ rest) ≡ length w
prefix_run test [] [] h k = refl
prefix_run test [] (b ∷ bs) h k = rw k refl
prefix_run test (b ∷ w) rest h k = let parts = and_parts (test b) (list_all test w) h in rw (parts.0, prefix_run test w rest parts.1 k) (omega arith)

module _ (test : ℕ → Bool) where
  more : (bs : List ℕ) → 1 + prefix_len test bs ≡ suc (prefix_len test bs)
  more bs = omega arith

  pub run_all : (bs : List ℕ) → list_all test (take (prefix_len test bs) bs) ≡ true
  run_all [] = refl
  run_all (b ∷ bs) =
      elim (test b) as (λ v. test b ≡ v → list_all test (take (cond v (1 + prefix_len test bs) 0) (b ∷ bs)) ≡ true) [
        | true ↦ λ e. ap (λ k. list_all test (take k (b ∷ bs))) (more bs) ∙ both (test b) (list_all test (take (prefix_len test bs) bs)) e (run_all bs)
        | false ↦ λ e. refl
      ] refl

  pub run_stops : (bs : List ℕ) → begins_with test (drop (prefix_len test bs) bs) ≡ false
  run_stops [] = refl
  run_stops (b ∷ bs) =
      elim (test b) as (λ v. test b ≡ v → begins_with test (drop (cond v (1 + prefix_len test bs) 0) (b ∷ bs)) ≡ false) [
        | true ↦ λ e. ap (λ k. begins_with test (drop k (b ∷ bs))) (more bs) ∙ run_stops bs
        | false ↦ λ e. e
      ] refl

-- a byte of a word is no separator and no mark
pub word_byte_is : (b : ℕ) → is_word_byte b ≡ true → (32 < b) × (is_mark b ≡ false)
word_byte_is b h =
    let outer = and_parts (ltb 32 b && ltb b 127) (not (is_mark b)) h in
    (ltb-true 32 b (and_parts (ltb 32 b) (ltb b 127) outer.0).0, not-true (is_mark b) outer.1)

pub no_separator : (b : ℕ) → 32 < b → is_separator b ≡ false
no_separator b h = or_from (b == 9) (b == 32) (ne_eqb b 9 (λ e. omega (arith, e))) (ne_eqb b 32 (λ e. omega (arith, e)))

pub no_marks : (b : ℕ) → is_mark b ≡ false → (is_bracket b ≡ false) × ((b == 34) ≡ false) × ((b == 59) ≡ false)
no_marks b h =
    let s = or_false (is_bracket b || b == 34) (b == 59) h in
    let q = or_false (is_bracket b) (b == 34) s.0 in
    (q.0, q.1, s.1)

pub differs : (b k : ℕ) → (b == k) ≡ false → b ≡ k → ⊥
differs b k h e = absurd (cc (h, eq-eqb b k e))

pub or_cases : (x y : Bool) → (x || y) ≡ true → (x ≡ true) ⊎ (y ≡ true)
or_cases true y h = inl refl
or_cases false y h = inr h

-- a bracket is no separator and no semicolon
pub bracket_is : (b : ℕ) → is_bracket b ≡ true → (32 < b) × (b < 59)
bracket_is b h =
    ⊎_elim (λ e. let is : b ≡ 40 = eqb-true b 40 e in (omega arith, omega arith)) (λ e. let is : b ≡ 41 = eqb-true b 41 e in (omega arith, omega arith)) (or_cases (b == 40) (b == 41) h)
