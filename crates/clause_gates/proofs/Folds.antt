-- What a gate is where two operands are equal or opposite.
use Rattle.std.proofs.Common.{◌≡◌, ◌<◌, ℕ, Bool, true, false, not, refl, subst, sym}
use Rattle.clause_logic.specs.declared.Lit.{Lit}
use Rattle.clause_search.specs.Content.{Content}
use Rattle.y_tree.specs.BitVectors.{differ}
use Rattle.clause_gates.specs.Bits.{value_under}
use Rattle.clause_gates.specs.Circuits.{Computes}

-- a literal with the function's value under each assignment
pub folded : (c : Content) (r l : Lit) (f : (ℕ → Bool) → Bool) → r.var ≡ l.var → l.var < c.vars → ((s : ℕ → Bool) → value_under s r ≡ f s) → Computes c r f
folded c r l f e h is = record { known = subst (λ v. v < c.vars) (sym e) h; is = λ s m. is s }

pub parity_12 : (x y z : Bool) → x ≡ y → z ≡ differ (differ x y) z
parity_12 x y z h = rw h (of y z)
  where
    of : (y z : Bool) → z ≡ differ (differ y y) z
    of true true = refl
    of true false = refl
    of false true = refl
    of false false = refl

pub parity_12_not : (x y z : Bool) → x ≡ not y → not z ≡ differ (differ x y) z
parity_12_not x y z h = rw h (of y z)
  where
    of : (y z : Bool) → not z ≡ differ (differ (not y) y) z
    of true true = refl
    of true false = refl
    of false true = refl
    of false false = refl

pub parity_13 : (x y z : Bool) → x ≡ z → y ≡ differ (differ x y) z
parity_13 x y z h = rw h (of y z)
  where
    of : (y z : Bool) → y ≡ differ (differ z y) z
    of true true = refl
    of true false = refl
    of false true = refl
    of false false = refl

pub parity_13_not : (x y z : Bool) → x ≡ not z → not y ≡ differ (differ x y) z
parity_13_not x y z h = rw h (of y z)
  where
    of : (y z : Bool) → not y ≡ differ (differ (not z) y) z
    of true true = refl
    of true false = refl
    of false true = refl
    of false false = refl

pub parity_23 : (x y z : Bool) → y ≡ z → x ≡ differ (differ x y) z
parity_23 x y z h = rw h (of x z)
  where
    of : (x z : Bool) → x ≡ differ (differ x z) z
    of true true = refl
    of true false = refl
    of false true = refl
    of false false = refl

pub parity_23_not : (x y z : Bool) → y ≡ not z → not x ≡ differ (differ x y) z
parity_23_not x y z h = rw h (of x z)
  where
    of : (x z : Bool) → not x ≡ differ (differ x (not z)) z
    of true true = refl
    of true false = refl
    of false true = refl
    of false false = refl
