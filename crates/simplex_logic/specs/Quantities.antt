-- Bases of the rows, and the numbers that an operation on a tableau may meet.
use Rattle.std.specs.Prelude.{◌≡◌, ◌≢◌, ◌⊎◌, ℕ, ◌<◌, Bool, true, false, List, [], ◌∷◌, ◌++◌, slice_get, length, get_or, set, take, Some}
use Rattle.rationals.specs.Rational.{ℚ, zero_ℚ, one_ℚ, ◌+ℚ◌, ◌*ℚ◌, ◌-ℚ◌, neg_ℚ, inv_ℚ}
use Rattle.rationals.specs.Delta.{Delta, of_ℚ}
use Rattle.simplex_logic.specs.Forms.{Term, Form, Rows, Solves}
use Rattle.simplex_logic.specs.Vectors.{at, dot, read, part, parts}
use Rattle.simplex_logic.specs.Tables.{Sorted, rowless}

-- variable v is the sum of the members of B, each times its coefficient
pub record Expression (rows : Rows) (v : ℕ) (B : List ℕ) (cs : List ℚ) : Type 0 where
  pub long : length cs ≡ length B
  pub is : (σ : ℕ → ℚ) → Solves rows σ → σ v ≡ dot cs (read σ B)

-- different variables, as many as there are variables with no row, by which each variable has an expression
pub record Basis (rows : Rows) (n : ℕ) (B : List ℕ) : Type 0 where
  pub different : (k l : ℕ) → k < l → l < length B → get_or B k 0 ≡ get_or B l 0 → ⊥
  pub many : length B ≡ rowless rows n
  pub each : (v : ℕ) → v < n → (cs : List ℚ) × Expression rows v B cs

-- B' is a basis that differs from B in one member
pub record Near (rows : Rows) (n : ℕ) (B B' : List ℕ) : Type 0 where
  pub place : ℕ
  pub by : ℕ
  pub inside : place < length B
  pub changed : B' ≡ set B place by
  pub basis : Basis rows n B'

-- q is v's coefficient by B at the member in that place
pub record Entry (rows : Rows) (v : ℕ) (B : List ℕ) (place : ℕ) (q : ℚ) : Type 0 where
  pub coefficients : List ℚ
  pub expressed : Expression rows v B coefficients
  pub inside : place < length B
  pub is : q ≡ at coefficients place

-- d is listed
abbrev pub In : Delta → List Delta → Type 0
In d [] = ⊥
In d (c ∷ C) = (d ≡ c) ⊎ In d C

-- the members of B have the values y, each 0 or a bound's
pub record Vertex (B : List ℕ) (C : List Delta) (y : List Delta) : Type 0 where
  pub long : length y ≡ length B
  pub stands : (k : ℕ) → k < length B → let d = get_or y k (of_ℚ zero_ℚ) in (d ≡ of_ℚ zero_ℚ) ⊎ In d C

-- a part of a bound, or of a variable's value at the vertex
pub data Value (rows : Rows) (B : List ℕ) (C : List Delta) (y : List Delta) (b : Bool) (q : ℚ) : Type 0 where
  bound : (d : Delta) → In d C → q ≡ part b d → Value rows B C y b q
  corner : (v : ℕ) (cs : List ℚ) → Expression rows v B cs → q ≡ dot cs (parts b y) → Value rows B C y b q

-- the sum of a form's coefficients, each times an entry at one member of B
pub data PartSum (rows : Rows) (B : List ℕ) (place : ℕ) : Form → ℚ → Type 0 where
  empty : PartSum rows B place [] zero_ℚ
  further : (f : Form) (q : ℚ) (t : Term) (e : ℚ) → PartSum rows B place f q → Entry rows t.of B place e → PartSum rows B place (f ++ t ∷ []) (q +ℚ t.by *ℚ e)

-- the quotient of a difference by a difference of infinitesimal parts
pub record Step (rows : Rows) (B : List ℕ) (C : List Delta) (y : List Delta) (e : ℚ) : Type 0 where
  pub above : ℚ
  pub under : ℚ
  pub left : ℚ
  pub right : ℚ
  pub above_is : Value rows B C y true above
  pub under_is : Value rows B C y true under
  pub left_is : Value rows B C y false left
  pub right_is : Value rows B C y false right
  pub apart : left ≢ right
  pub is : e ≡ (above -ℚ under) *ℚ inv_ℚ (left -ℚ right)

-- q is a number of this problem: n variables, its rows, the rows handed in, a basis B and the bounds C
pub data Quantity (rows : Rows) (n : ℕ) (handed : Form → Type 0) (B : List ℕ) (C : List Delta) (q : ℚ) : Type 0 where
  -- 0, 1 and -1
  zero_is : q ≡ zero_ℚ → Quantity rows n handed B C q
  one_is : q ≡ one_ℚ → Quantity rows n handed B C q
  minus_one_is : q ≡ neg_ℚ one_ℚ → Quantity rows n handed B C q
  -- an entry by B, or by a basis that differs in one member
  entry_is : (v k : ℕ) → Entry rows v B k q → Quantity rows n handed B C q
  near_is : (B' : List ℕ) (v k : ℕ) → Near rows n B B' → Entry rows v B' k q → Quantity rows n handed B C q
  -- a handed-in row's coefficient, its product with an entry, the sum of the first k such products
  handed_is : (f : Form) (k : ℕ) (t : Term) → handed f → slice_get f k ≡ Some t → q ≡ t.by → Quantity rows n handed B C q
  handed_product : (f : Form) (k place : ℕ) (t : Term) (e : ℚ) → handed f → slice_get f k ≡ Some t → Entry rows t.of B place e → q ≡ t.by *ℚ e → Quantity rows n handed B C q
  handed_sum : (f : Form) (k place : ℕ) → handed f → PartSum rows B place (take k f) q → Quantity rows n handed B C q
  -- a quotient of two entries of one variable, 1 or -1 divided by an entry, the product of an entry by B and one by a basis that differs in one member
  ratio : (v k l : ℕ) (a b : ℚ) → Entry rows v B k a → Entry rows v B l b → b ≢ zero_ℚ → q ≡ a *ℚ inv_ℚ b → Quantity rows n handed B C q
  inverse : (v k : ℕ) (a : ℚ) → Entry rows v B k a → a ≢ zero_ℚ → q ≡ inv_ℚ a → Quantity rows n handed B C q
  minus_inverse : (v k : ℕ) (a : ℚ) → Entry rows v B k a → a ≢ zero_ℚ → q ≡ neg_ℚ (inv_ℚ a) → Quantity rows n handed B C q
  product : (B' : List ℕ) (v k w l : ℕ) (a b : ℚ) → Entry rows v B k a → Near rows n B B' → Entry rows w B' l b → q ≡ a *ℚ b → Quantity rows n handed B C q
  -- at a vertex: a member's value, its product with an entry, the sum of the first k such products in rising order of the members
  stands_at : (b : Bool) (y : List Delta) (k : ℕ) → Vertex B C y → k < length B → q ≡ at (parts b y) k → Quantity rows n handed B C q
  vertex_product : (b : Bool) (y : List Delta) (v k : ℕ) (e : ℚ) → Vertex B C y → Entry rows v B k e → q ≡ e *ℚ at (parts b y) k → Quantity rows n handed B C q
  vertex_sum : (b : Bool) (y : List Delta) (v k : ℕ) (cs : List ℚ) → Vertex B C y → Sorted B → Expression rows v B cs → q ≡ dot (take k cs) (parts b y) → Quantity rows n handed B C q
  -- a difference of bounds or vertex values, the step of two such differences, the step times an infinitesimal part, a vertex value plus that product
  difference : (b : Bool) (y : List Delta) (x z : ℚ) → Vertex B C y → Value rows B C y b x → Value rows B C y b z → q ≡ x -ℚ z → Quantity rows n handed B C q
  step_is : (y : List Delta) (e : ℚ) → Vertex B C y → Step rows B C y e → q ≡ e → Quantity rows n handed B C q
  step_product : (y : List Delta) (e x : ℚ) → Vertex B C y → Step rows B C y e → Value rows B C y false x → q ≡ e *ℚ x → Quantity rows n handed B C q
  step_sum : (y : List Delta) (e x z : ℚ) → Vertex B C y → Step rows B C y e → Value rows B C y false x → Value rows B C y true z → q ≡ z +ℚ e *ℚ x → Quantity rows n handed B C q
