-- Each turn of Euclid's algorithm after the first at least halves the product of its two numbers, so few turns are enough.
use Rattle.std.proofs.Common.{◌≡◌, ℕ, zero, suc, ◌+◌, ◌*◌, ◌/◌, ◌%◌, ◌<◌, ◌≤◌, ◌^◌, sym, ap, ◌∙◌, subst, arith, refl}
use Rattle.std.proofs.lemmas.Nat.{div-add-mod', mod_below, mul-lt}
use Rattle.std.proofs.Math.Nat.{mul-le-mul_left, pow-suc}

-- twice the remainder is at most the dividend
rem_half : (x y : ℕ) → 0 < y → y ≤ x → x % y + x % y ≤ x
rem_half x y h k = go (x / y) (x % y) (div-add-mod' x y) (mod_below x y h)
  where
    go : (q r : ℕ) → q * y + r ≡ x → r < y → r + r ≤ x
    go zero r e l = absurd (omega arith)
    go (suc q) r e l = omega arith

halves : (x y r k m : ℕ) → r + r ≤ x → x * y * k < m → y * r * (k * 2) < m
halves x y r k m h l = let e = mul-le-mul_left (y * k) h in omega arith

first_turn : (y r b m : ℕ) → m ≡ 2 * (b * b) → y < b → r < b → y * r * 2 < m
first_turn y r b m e h k = let l = mul-lt y r b b h k in omega arith

power_step : (i : ℕ) → 2 ^ (i + 1) ≡ 2 ^ i * 2
power_step i = ap (λ n. 2 ^ n) (omega arith) ∙ pow-suc 2 i

-- a turn keeps the bound, which falls by half with each turn that was made
pub keeps : (b m x y i : ℕ) → m ≡ 2 * (b * b) → x < b → y < b → 0 < y → x * y * 2 ^ i < m → (0 < i → y < x) → y * (x % y) * 2 ^ (i + 1) < m
keeps b m x y zero e hx hy p l f =
    let r : x % y < y = mod_below x y p in
    subst (λ k. y * (x % y) * k < m) (sym (power_step zero)) (first_turn y (x % y) b m e hy (omega arith))
keeps b m x y (suc i) e hx hy p l f =
    let g : y < x = f (omega arith) in
    subst (λ k. y * (x % y) * k < m) (sym (power_step (suc i))) (halves x y (x % y) (2 ^ suc i) m (rem_half x y p (omega arith)) l)

-- once the power passes the bound, the second number is 0
pub ends : (m x y i : ℕ) → m ≤ 2 ^ i → 0 < i → x * y * 2 ^ i < m → (0 < i → y < x) → y ≡ 0
ends m x zero i h p l f = refl
ends m zero (suc y) i h p l f = let g : suc y < zero = f p in absurd (omega arith)
ends m (suc x) (suc y) i h p l f =
    let e = mul-le-mul_left {m = 1} {n = suc x * suc y} (2 ^ i) (omega arith) in absurd (omega arith)
