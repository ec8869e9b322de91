-- Coefficients and values by position.
use Rattle.std.specs.Prelude.{ℕ, zero, suc, Bool, true, false, List, [], ◌∷◌, get_or, set}
use Rattle.rationals.specs.Rational.{ℚ, zero_ℚ, ◌+ℚ◌, ◌*ℚ◌, neg_ℚ, inv_ℚ}
use Rattle.rationals.specs.Delta.{Delta, delta}
use Rattle.simplex_logic.specs.Forms.{Form}

-- the number at a place, 0 past the end
abbrev pub at : List ℚ → ℕ → ℚ
at xs j = get_or xs j zero_ℚ

-- the sum of the products, place by place
abbrev pub dot : List ℚ → List ℚ → ℚ
dot [] ys = zero_ℚ
dot (x ∷ xs) [] = zero_ℚ
dot (x ∷ xs) (y ∷ ys) = x *ℚ y +ℚ dot xs ys

-- each number times q
abbrev pub scale_row : ℚ → List ℚ → List ℚ
scale_row q [] = []
scale_row q (x ∷ xs) = q *ℚ x ∷ scale_row q xs

-- the sums, place by place
abbrev pub add_rows : List ℚ → List ℚ → List ℚ
add_rows [] ys = []
add_rows (x ∷ xs) [] = x ∷ xs
add_rows (x ∷ xs) (y ∷ ys) = (x +ℚ y) ∷ add_rows xs ys

-- the row solved for the variable of column j: there 1/a, elsewhere the coefficient times -1/a
abbrev pub pivot_row : ℕ → List ℚ → List ℚ
pivot_row j xs = set (scale_row (neg_ℚ (inv_ℚ (at xs j))) xs) j (inv_ℚ (at xs j))

-- row b, with the variable of column j replaced by the row p
abbrev pub replaced : ℕ → List ℚ → List ℚ → List ℚ
replaced j p b = add_rows (set b j zero_ℚ) (scale_row (at b j) p)

-- n times 0
abbrev pub zeros : ℕ → List ℚ
zeros zero = []
zeros (suc n) = zero_ℚ ∷ zeros n

-- a sum so far, and the rows of the form's variables, each times its coefficient
abbrev pub summed : (ℕ → List ℚ) → List ℚ → Form → List ℚ
summed tab acc [] = acc
summed tab acc (t ∷ f) = summed tab (add_rows acc (scale_row t.by (tab t.of))) f

-- the values of listed variables
abbrev pub read : (ℕ → ℚ) → List ℕ → List ℚ
read σ [] = []
read σ (c ∷ cs) = σ c ∷ read σ cs

-- the items at k and k + 1 exchanged
abbrev pub flip : {A : Type 0} → ℕ → List A → List A
flip zero (a ∷ b ∷ xs) = b ∷ a ∷ xs
flip zero (a ∷ []) = a ∷ []
flip zero [] = []
flip (suc k) (x ∷ xs) = x ∷ flip k xs
flip (suc k) [] = []

-- the real part, or the infinitesimal one
abbrev pub part : Bool → Delta → ℚ
part true d = d.real
part false d = d.inf

-- one part of each
abbrev pub parts : Bool → List Delta → List ℚ
parts b [] = []
parts b (d ∷ ds) = part b d ∷ parts b ds

-- a variable's value where the columns have the values y
abbrev pub value_at : (ℕ → List ℚ) → List Delta → ℕ → Delta
value_at tab y x = delta (dot (tab x) (parts true y)) (dot (tab x) (parts false y))
