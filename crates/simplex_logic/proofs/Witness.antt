-- What is remembered of each spent variable, and that a pivot keeps it.
use Rattle.std.proofs.Common.{◌≡◌, ℕ, ◌<◌, Bool, true, ◌⊎◌, inl, inr, sym, ◌∙◌, subst, arith}
use Rattle.rationals.specs.Delta.{Delta}
use Rattle.simplex_logic.specs.Limits.{Limits, Within, Beyond}
use Rattle.simplex_logic.specs.Pivoting.{Remembered, Witness}
use Rattle.simplex_logic.proofs.Ends.{Moved}

-- the values after the pivot
pub record Pivoted (L : Limits) (out spent spent' : ℕ → Bool) (v v' : ℕ → Delta) (s r : ℕ) : Type 0 where
  pub keeps : (c : ℕ) → out c ≡ true → (c ≡ r → ⊥) → v' c ≡ v c
  pub jumped : Beyond (L.low s) (L.up s) (v' s) (v s)
  pub within : (x : ℕ) → x < s → Within L v x
  pub marked : (x : ℕ) → spent' x ≡ true → ((s < x) × (r < x) × (spent x ≡ true)) ⊎ ((x ≡ s) × (r < s))

differ : (m n : ℕ) → m < n → n ≡ m → ⊥
differ m n h e = omega arith

module _ (Solves Solves' : (ℕ → Delta) → Type 0) (L : Limits) (out spent out' spent' : ℕ → Bool) (v v' : ℕ → Delta) (s r : ℕ) (m : Moved out spent out' spent' s r) (p : Pivoted L out spent spent' v v' s r)
    (here : Solves v) (on : (w : ℕ → Delta) → Solves w → Solves' w) where
  -- above both, what was out stays, at its value
  still : (c : ℕ) → s < c → r < c → out' c ≡ out c
  still c h k = m.others c (differ s c h) (differ r c k)

  old : (x : ℕ) (w : ℕ → Delta) → s < x → r < x → Witness Solves L out v w x → Witness Solves' L out' v' w x
  old x w h k g =
      let e : v' x ≡ v x = p.keeps x g.is_out (differ r x k) in
      record {
        is_out = still x h k ∙ g.is_out;
        solves = on w g.solves;
        is_spent = record { within = g.is_spent.within; left = subst (λ y. Beyond (L.low x) (L.up x) y (w x)) (sym e) g.is_spent.left };
        kept = λ c q o. let oc = sym (still c (omega arith) (omega arith)) ∙ o in g.kept c q oc ∙ sym (p.keeps c oc (differ r c (omega arith)));
      }

  new : r < s → Witness Solves' L out' v' v s
  new h = record {
    is_out = m.now_out;
    solves = on v here;
    is_spent = record { within = p.within; left = p.jumped };
    kept = λ c q o. let oc = sym (still c q (omega arith)) ∙ o in sym (p.keeps c oc (differ r c (omega arith)));
  }

  pub remembered : Remembered Solves L out spent v → Remembered Solves' L out' spent' v'
  remembered f x t = elim (p.marked x t) [
    | inl k ↦ let g = f x k.2 in (g.0, old x g.0 k.0 k.1 g.1)
    | inr k ↦ (v, subst (λ y. Witness Solves' L out' v' v y) (sym k.0) (new k.1))
  ]
