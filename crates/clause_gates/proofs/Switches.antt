-- What a gate is where an operand is constant.
use Rattle.std.proofs.Common.{◌≡◌, ◌∙◌, ℕ, Bool, true, false, not, ◌&&◌, ◌||◌, cond, Result, refl, ap}
use Rattle.std.specs.Prelude.{IfOk}
use Rattle.std.proofs.lemmas.Result.{IfOk-weaker}
use Rattle.clause_logic.specs.declared.Lit.{Lit}
use Rattle.clause_logic.specs.Clauses.{opposite}
use Rattle.clause_search.specs.Content.{Content}
use Rattle.clause_gates.specs.Built.{Built}
use Rattle.y_tree.specs.BitVectors.{differ}
use Rattle.clause_gates.specs.Bits.{value_under, majority}
use Rattle.clause_gates.specs.Circuits.{Satisfies, Grows, Computes, IsTruth}
use Rattle.clause_gates.proofs.Truths.{value_opposite}
use Rattle.clause_gates.proofs.Growth.{satisfies_old}

-- the same literal computes an equal function
pub ok_as : {E : Type 0} (r : Result Lit E) (c : Content) (f g : (ℕ → Bool) → Bool) → IfOk r (λ l. Computes c l f) → ((s : ℕ → Bool) → Satisfies s c → f s ≡ g s) → IfOk r (λ l. Computes c l g)
ok_as r c f g h e = IfOk-weaker r (λ l. Computes c l f) (λ l. Computes c l g) (λ l k. record { known = k.known; is = λ s m. k.is s m ∙ e s m }) h

pub is_true : {old new : Built} {most : ℕ} (t l : Lit) → Grows old new most → IsTruth old.content t → l ≡ t → (s : ℕ → Bool) → Satisfies s new.content → value_under s l ≡ true
is_true t l g truth e s h = ap (value_under s) e ∙ truth.is s (satisfies_old g s h)

pub is_false : {old new : Built} {most : ℕ} (t n l : Lit) → Grows old new most → IsTruth old.content t → n ≡ opposite t → l ≡ n → (s : ℕ → Bool) → Satisfies s new.content → value_under s l ≡ false
is_false t n l g truth o e s h = ap (value_under s) (e ∙ o) ∙ value_opposite s t ∙ ap not (truth.is s (satisfies_old g s h))

pub is_not : (l n : Lit) → n ≡ opposite l → (s : ℕ → Bool) → value_under s n ≡ not (value_under s l)
is_not l n o s = ap (value_under s) o ∙ value_opposite s l

pub carry_third_true : (x y z : Bool) → z ≡ true → (x || y) ≡ majority x y z
carry_third_true true true true h0 = refl
carry_third_true true true false h0 = absurd (cc h0)
carry_third_true true false true h0 = refl
carry_third_true true false false h0 = absurd (cc h0)
carry_third_true false true true h0 = refl
carry_third_true false true false h0 = absurd (cc h0)
carry_third_true false false true h0 = refl
carry_third_true false false false h0 = absurd (cc h0)

pub carry_third_false : (x y z : Bool) → z ≡ false → (x && y) ≡ majority x y z
carry_third_false true true true h0 = absurd (cc h0)
carry_third_false true true false h0 = refl
carry_third_false true false true h0 = absurd (cc h0)
carry_third_false true false false h0 = refl
carry_third_false false true true h0 = absurd (cc h0)
carry_third_false false true false h0 = refl
carry_third_false false false true h0 = absurd (cc h0)
carry_third_false false false false h0 = refl

pub carry_second_true : (x y z : Bool) → y ≡ true → (x || z) ≡ majority x y z
carry_second_true true true true h0 = refl
carry_second_true true true false h0 = refl
carry_second_true true false true h0 = absurd (cc h0)
carry_second_true true false false h0 = absurd (cc h0)
carry_second_true false true true h0 = refl
carry_second_true false true false h0 = refl
carry_second_true false false true h0 = absurd (cc h0)
carry_second_true false false false h0 = absurd (cc h0)

pub carry_second_false : (x y z : Bool) → y ≡ false → (x && z) ≡ majority x y z
carry_second_false true true true h0 = absurd (cc h0)
carry_second_false true true false h0 = absurd (cc h0)
carry_second_false true false true h0 = refl
carry_second_false true false false h0 = refl
carry_second_false false true true h0 = absurd (cc h0)
carry_second_false false true false h0 = absurd (cc h0)
carry_second_false false false true h0 = refl
carry_second_false false false false h0 = refl

pub carry_first_true : (x y z : Bool) → x ≡ true → (y || z) ≡ majority x y z
carry_first_true true true true h0 = refl
carry_first_true true true false h0 = refl
carry_first_true true false true h0 = refl
carry_first_true true false false h0 = refl
carry_first_true false true true h0 = absurd (cc h0)
carry_first_true false true false h0 = absurd (cc h0)
carry_first_true false false true h0 = absurd (cc h0)
carry_first_true false false false h0 = absurd (cc h0)

pub carry_first_false : (x y z : Bool) → x ≡ false → (y && z) ≡ majority x y z
carry_first_false true true true h0 = absurd (cc h0)
carry_first_false true true false h0 = absurd (cc h0)
carry_first_false true false true h0 = absurd (cc h0)
carry_first_false true false false h0 = absurd (cc h0)
carry_first_false false true true h0 = refl
carry_first_false false true false h0 = refl
carry_first_false false false true h0 = refl
carry_first_false false false false h0 = refl

pub mux_second_true : (w x y : Bool) → x ≡ true → (w || y) ≡ cond w x y
mux_second_true true true true h0 = refl
mux_second_true true true false h0 = refl
mux_second_true true false true h0 = absurd (cc h0)
mux_second_true true false false h0 = absurd (cc h0)
mux_second_true false true true h0 = refl
mux_second_true false true false h0 = refl
mux_second_true false false true h0 = absurd (cc h0)
mux_second_true false false false h0 = absurd (cc h0)

pub mux_second_false : (w x y n : Bool) → x ≡ false → n ≡ not w → (n && y) ≡ cond w x y
mux_second_false true true true true h0 h1 = absurd (cc h0)
mux_second_false true true true false h0 h1 = absurd (cc h0)
mux_second_false true true false true h0 h1 = absurd (cc h0)
mux_second_false true true false false h0 h1 = absurd (cc h0)
mux_second_false true false true true h0 h1 = absurd (cc h1)
mux_second_false true false true false h0 h1 = refl
mux_second_false true false false true h0 h1 = absurd (cc h1)
mux_second_false true false false false h0 h1 = refl
mux_second_false false true true true h0 h1 = absurd (cc h0)
mux_second_false false true true false h0 h1 = absurd (cc h0)
mux_second_false false true false true h0 h1 = absurd (cc h0)
mux_second_false false true false false h0 h1 = absurd (cc h0)
mux_second_false false false true true h0 h1 = refl
mux_second_false false false true false h0 h1 = absurd (cc h1)
mux_second_false false false false true h0 h1 = refl
mux_second_false false false false false h0 h1 = absurd (cc h1)

pub mux_third_true : (w x y n : Bool) → y ≡ true → n ≡ not w → (n || x) ≡ cond w x y
mux_third_true true true true true h0 h1 = absurd (cc h1)
mux_third_true true true true false h0 h1 = refl
mux_third_true true true false true h0 h1 = absurd (cc h0)
mux_third_true true true false false h0 h1 = absurd (cc h0)
mux_third_true true false true true h0 h1 = absurd (cc h1)
mux_third_true true false true false h0 h1 = refl
mux_third_true true false false true h0 h1 = absurd (cc h0)
mux_third_true true false false false h0 h1 = absurd (cc h0)
mux_third_true false true true true h0 h1 = refl
mux_third_true false true true false h0 h1 = absurd (cc h1)
mux_third_true false true false true h0 h1 = absurd (cc h0)
mux_third_true false true false false h0 h1 = absurd (cc h0)
mux_third_true false false true true h0 h1 = refl
mux_third_true false false true false h0 h1 = absurd (cc h1)
mux_third_true false false false true h0 h1 = absurd (cc h0)
mux_third_true false false false false h0 h1 = absurd (cc h0)

pub mux_third_false : (w x y : Bool) → y ≡ false → (w && x) ≡ cond w x y
mux_third_false true true true h0 = absurd (cc h0)
mux_third_false true true false h0 = refl
mux_third_false true false true h0 = absurd (cc h0)
mux_third_false true false false h0 = refl
mux_third_false false true true h0 = absurd (cc h0)
mux_third_false false true false h0 = refl
mux_third_false false false true h0 = absurd (cc h0)
mux_third_false false false false h0 = refl

pub sum_third_true : (x y z n : Bool) → z ≡ true → n ≡ not y → differ x n ≡ differ (differ x y) z
sum_third_true true true true true h0 h1 = absurd (cc h1)
sum_third_true true true true false h0 h1 = refl
sum_third_true true true false true h0 h1 = absurd (cc h0)
sum_third_true true true false false h0 h1 = absurd (cc h0)
sum_third_true true false true true h0 h1 = refl
sum_third_true true false true false h0 h1 = absurd (cc h1)
sum_third_true true false false true h0 h1 = absurd (cc h0)
sum_third_true true false false false h0 h1 = absurd (cc h0)
sum_third_true false true true true h0 h1 = absurd (cc h1)
sum_third_true false true true false h0 h1 = refl
sum_third_true false true false true h0 h1 = absurd (cc h0)
sum_third_true false true false false h0 h1 = absurd (cc h0)
sum_third_true false false true true h0 h1 = refl
sum_third_true false false true false h0 h1 = absurd (cc h1)
sum_third_true false false false true h0 h1 = absurd (cc h0)
sum_third_true false false false false h0 h1 = absurd (cc h0)

pub sum_third_false : (x y z : Bool) → z ≡ false → differ x y ≡ differ (differ x y) z
sum_third_false true true true h0 = absurd (cc h0)
sum_third_false true true false h0 = refl
sum_third_false true false true h0 = absurd (cc h0)
sum_third_false true false false h0 = refl
sum_third_false false true true h0 = absurd (cc h0)
sum_third_false false true false h0 = refl
sum_third_false false false true h0 = absurd (cc h0)
sum_third_false false false false h0 = refl

pub sum_second_true : (x y z n : Bool) → y ≡ true → n ≡ not z → differ x n ≡ differ (differ x y) z
sum_second_true true true true true h0 h1 = absurd (cc h1)
sum_second_true true true true false h0 h1 = refl
sum_second_true true true false true h0 h1 = refl
sum_second_true true true false false h0 h1 = absurd (cc h1)
sum_second_true true false true true h0 h1 = absurd (cc h0)
sum_second_true true false true false h0 h1 = absurd (cc h0)
sum_second_true true false false true h0 h1 = absurd (cc h0)
sum_second_true true false false false h0 h1 = absurd (cc h0)
sum_second_true false true true true h0 h1 = absurd (cc h1)
sum_second_true false true true false h0 h1 = refl
sum_second_true false true false true h0 h1 = refl
sum_second_true false true false false h0 h1 = absurd (cc h1)
sum_second_true false false true true h0 h1 = absurd (cc h0)
sum_second_true false false true false h0 h1 = absurd (cc h0)
sum_second_true false false false true h0 h1 = absurd (cc h0)
sum_second_true false false false false h0 h1 = absurd (cc h0)

pub sum_second_false : (x y z : Bool) → y ≡ false → differ x z ≡ differ (differ x y) z
sum_second_false true true true h0 = absurd (cc h0)
sum_second_false true true false h0 = absurd (cc h0)
sum_second_false true false true h0 = refl
sum_second_false true false false h0 = refl
sum_second_false false true true h0 = absurd (cc h0)
sum_second_false false true false h0 = absurd (cc h0)
sum_second_false false false true h0 = refl
sum_second_false false false false h0 = refl

pub sum_first_true : (x y z n : Bool) → x ≡ true → n ≡ not z → differ y n ≡ differ (differ x y) z
sum_first_true true true true true h0 h1 = absurd (cc h1)
sum_first_true true true true false h0 h1 = refl
sum_first_true true true false true h0 h1 = refl
sum_first_true true true false false h0 h1 = absurd (cc h1)
sum_first_true true false true true h0 h1 = absurd (cc h1)
sum_first_true true false true false h0 h1 = refl
sum_first_true true false false true h0 h1 = refl
sum_first_true true false false false h0 h1 = absurd (cc h1)
sum_first_true false true true true h0 h1 = absurd (cc h0)
sum_first_true false true true false h0 h1 = absurd (cc h0)
sum_first_true false true false true h0 h1 = absurd (cc h0)
sum_first_true false true false false h0 h1 = absurd (cc h0)
sum_first_true false false true true h0 h1 = absurd (cc h0)
sum_first_true false false true false h0 h1 = absurd (cc h0)
sum_first_true false false false true h0 h1 = absurd (cc h0)
sum_first_true false false false false h0 h1 = absurd (cc h0)

pub sum_first_false : (x y z : Bool) → x ≡ false → differ y z ≡ differ (differ x y) z
sum_first_false true true true h0 = absurd (cc h0)
sum_first_false true true false h0 = absurd (cc h0)
sum_first_false true false true h0 = absurd (cc h0)
sum_first_false true false false h0 = absurd (cc h0)
sum_first_false false true true h0 = refl
sum_first_false false true false h0 = refl
sum_first_false false false true h0 = refl
sum_first_false false false false h0 = refl
