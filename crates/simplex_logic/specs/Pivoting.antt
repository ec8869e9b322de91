-- What pivoting by least index remembers, and the number that falls with each pivot.
use Rattle.std.specs.Prelude.{◌≡◌, ℕ, zero, suc, ◌+◌, ◌*◌, ◌<◌, ◌⊎◌, Bool, true, false, List, length, get_or}
use Rattle.rationals.specs.Rational.{ℚ}
use Rattle.rationals.specs.Delta.{Delta}
use Rattle.simplex_logic.specs.Forms.{Rows, Solves_Δ}
use Rattle.simplex_logic.specs.Limits.{Limits, Within, Beyond}
use Rattle.simplex_logic.specs.Tables.{Tabled, Sorted, is_column}

-- a nonbasic variable is spent if it left the basis at values w, for the limit where it now stands, and no greater variable moved since
pub record Spent (L : Limits) (v w : ℕ → Delta) (r : ℕ) : Type 0 where
  pub within : (x : ℕ) → x < r → Within L w x
  pub left : Beyond (L.low r) (L.up r) (v r) (w r)

-- w are the values at which x left the basis
pub record Witness (Solves : (ℕ → Delta) → Type 0) (L : Limits) (out : ℕ → Bool) (v w : ℕ → Delta) (x : ℕ) : Type 0 where
  pub is_out : out x ≡ true
  pub solves : Solves w
  pub is_spent : Spent L v w x
  pub kept : (c : ℕ) → x < c → out c ≡ true → w c ≡ v c

-- each variable that is marked as spent is so by some values
abbrev pub Remembered : ((ℕ → Delta) → Type 0) → Limits → (ℕ → Bool) → (ℕ → Bool) → (ℕ → Delta) → Type 0
Remembered Solves L out spent v = (x : ℕ) → spent x ≡ true → (w : ℕ → Delta) × Witness Solves L out v w x

-- what holds at each turn of the check
pub record Going (rows : Rows) (n : ℕ) (L : Limits) (cols : List ℕ) (tab : ℕ → List ℚ) (spent : ℕ → Bool) (v : ℕ → Delta) : Type 0 where
  pub tabled : Tabled rows n cols tab
  pub sorted : Sorted cols
  pub solves : Solves_Δ rows v
  pub held : (k : ℕ) → k < length cols → Within L v (get_or cols k 0)
  pub spent_are : Remembered (Solves_Δ rows) L (is_column cols) spent v

-- the marks after s left and r entered: off below the greater of the two, and on at s if it is the greater
pub record Marked (spent spent' : ℕ → Bool) (s r : ℕ) : Type 0 where
  pub above : (x : ℕ) → s < x → r < x → spent' x ≡ spent x
  pub below : (x : ℕ) → (x < s) ⊎ (x < r) → spent' x ≡ false
  pub leaving : r < s → spent' s ≡ true
  pub entering : s < r → spent' r ≡ false

-- 1 for a basic variable, 0 for a spent one, 2 for another nonbasic one
abbrev pub digit : Bool → Bool → ℕ
digit false spent = 1
digit true true = 0
digit true false = 2

-- the number with these digits in base 3, the greatest variable first
unfoldable pub weight : ℕ → (ℕ → ℕ) → ℕ
weight zero d = 0
weight (suc n) d = d 0 + 3 * weight n (λ x. d (suc x))

-- the measure of pivoting over n variables
unfoldable pub measure : ℕ → (ℕ → Bool) → (ℕ → Bool) → ℕ
measure n out spent = weight n (λ x. digit (out x) (spent x))
