-- A number that falls with each pivot. A basic variable counts 1, a nonbasic one 2, a spent one 0, in base 3, the greatest variable first.
use Rattle.std.proofs.Common.{◌≡◌, ℕ, zero, suc, ◌<◌, ◌≤◌, Bool, true, false, refl, sym, ap, ◌∙◌, arith}
use Rattle.simplex_logic.proofs.Bland.{less, same, more, compare}
use Rattle.simplex_logic.specs.Pivoting.{digit, measure, weight}

weight_same : (n : ℕ) (d e : ℕ → ℕ) → ((x : ℕ) → e x ≡ d x) → weight n e ≡ weight n d
unfolding weight
weight_same zero d e h = refl
weight_same (suc n) d e h = let k = weight_same n (λ x. d (suc x)) (λ x. e (suc x)) (λ x. h (suc x)) in let z = h 0 in omega arith

pub weight_falls : (n m : ℕ) (d e : ℕ → ℕ) → m < n → e m < d m → ((x : ℕ) → m < x → e x ≡ d x) → ((x : ℕ) → e x ≤ 2) → weight n e < weight n d
unfolding weight
weight_falls zero m d e h k f g = absurd (omega arith)
weight_falls (suc n) zero d e h k f g = let w = weight_same n (λ x. d (suc x)) (λ x. e (suc x)) (λ x. f (suc x) (omega arith)) in omega arith
weight_falls (suc n) (suc m) d e h k f g =
    let w = weight_falls n m (λ x. d (suc x)) (λ x. e (suc x)) (omega arith) k (λ x p. f (suc x) (omega arith)) (λ x. g (suc x)) in let z = g 0 in omega arith

digit_small : (a b : Bool) → digit a b ≤ 2
digit_small false b = omega arith
digit_small true true = omega arith
digit_small true false = omega arith

-- ---- what a pivot does: s leaves, r enters
pub record Moved (out spent out' spent' : ℕ → Bool) (s r : ℕ) : Type 0 where
  pub was_in : out s ≡ false
  pub was_out : out r ≡ true
  pub now_out : out' s ≡ true
  pub now_in : out' r ≡ false
  pub others : (x : ℕ) → (x ≡ s → ⊥) → (x ≡ r → ⊥) → out' x ≡ out x
  pub above : (x : ℕ) → s < x → r < x → spent' x ≡ spent x
  pub left_last : r < s → spent' s ≡ true
  pub fresh : s < r → spent r ≡ false

abbrev digits : (ℕ → Bool) → (ℕ → Bool) → ℕ → ℕ
digits out spent x = digit (out x) (spent x)

apart : (m n : ℕ) → m < n → n ≡ m → ⊥
apart m n h e = omega arith

pub measure_falls : (n : ℕ) (out spent out' spent' : ℕ → Bool) (s r : ℕ) → s < n → r < n → Moved out spent out' spent' s r → measure n out' spent' < measure n out spent
unfolding measure
measure_falls n out spent out' spent' s r h k m = elim (compare s r) [
  | same e ↦ absurd (clash (sym (m.was_in) ∙ ap out e ∙ m.was_out))
  | less p ↦ weight_falls n r (digits out spent) (digits out' spent') k (rw (m.was_out, m.fresh p, m.now_in) (omega arith))
      (λ x q. rw (m.others x (apart s x (omega arith)) (apart r x q), m.above x (omega arith) q) refl) (λ x. digit_small (out' x) (spent' x))
  | more p ↦ weight_falls n s (digits out spent) (digits out' spent') h (rw (m.was_in, m.now_out, m.left_last p) (omega arith))
      (λ x q. rw (m.others x (apart s x q) (apart r x (omega arith)), m.above x q (omega arith)) refl) (λ x. digit_small (out' x) (spent' x))
]
  where
    clash : false ≡ true → ⊥
    clash e = cc
