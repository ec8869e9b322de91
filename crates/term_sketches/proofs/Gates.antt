-- Conjunctions and disjunctions of truth values, and parities: one connective, with a neutral value, whose order and repetitions don't matter.
use Rattle.std.proofs.Common.{◌≡◌, ◌∙◌, Bool, true, false, not, ◌&&◌, ◌||◌, List, [], ◌∷◌, refl, ap}
use Rattle.std.specs.List.{list_any, list_all}
use Rattle.y_tree.specs.Meaning.{is_odd}
use Rattle.term_sketches.specs.Valuing.{flagged}

-- conjunction (true) or disjunction (false)
abbrev pub gate : Bool → Bool → Bool → Bool
gate true x y = x && y
gate false x y = x || y

-- over a list
abbrev pub gate_all : {X : Type 0} → Bool → (X → Bool) → List X → Bool
gate_all b m [] = b
gate_all b m (x ∷ xs) = gate b (m x) (gate_all b m xs)

pub gate_swap : (b x y z : Bool) → gate b x (gate b y z) ≡ gate b y (gate b x z)
gate_swap true true true z = refl
gate_swap true true false z = refl
gate_swap true false true z = refl
gate_swap true false false z = refl
gate_swap false true true z = refl
gate_swap false true false z = refl
gate_swap false false true z = refl
gate_swap false false false z = refl

pub gate_twice : (b x z : Bool) → gate b x (gate b x z) ≡ gate b x z
gate_twice true true z = refl
gate_twice true false z = refl
gate_twice false true z = refl
gate_twice false false z = refl

pub gate_neutral : (b x : Bool) → gate b b x ≡ x
gate_neutral true x = refl
gate_neutral false x = refl

pub gate_neutral_right : (b x : Bool) → gate b x b ≡ x
gate_neutral_right true true = refl
gate_neutral_right true false = refl
gate_neutral_right false true = refl
gate_neutral_right false false = refl

pub gate_absorbs : (b x : Bool) → gate b (not b) x ≡ not b
gate_absorbs true x = refl
gate_absorbs false x = refl

pub gate_absorbs_right : (b x : Bool) → gate b x (not b) ≡ not b
gate_absorbs_right true true = refl
gate_absorbs_right true false = refl
gate_absorbs_right false true = refl
gate_absorbs_right false false = refl

pub gate_opposite : (b x z : Bool) → z ≡ gate b (not x) z → gate b x z ≡ not b
gate_opposite true true z h = h
gate_opposite true false z h = refl
gate_opposite false true z h = refl
gate_opposite false false z h = h

pub all_is_gate : {X : Type 0} (m : X → Bool) (xs : List X) → list_all m xs ≡ gate_all true m xs
all_is_gate m [] = refl
all_is_gate m (x ∷ xs) = ap (λ z. m x && z) (all_is_gate m xs)

pub any_is_gate : {X : Type 0} (m : X → Bool) (xs : List X) → list_any m xs ≡ gate_all false m xs
any_is_gate m [] = refl
any_is_gate m (x ∷ xs) = ap (λ z. m x || z) (any_is_gate m xs)

-- an item that is there may stand there once more
pub gate_again : {X : Type 0} (b : Bool) (m : X → Bool) (same : X → X → Bool) (alike : (x y : X) → same x y ≡ true → m x ≡ m y) (x : X) (xs : List X)
    → list_any (same x) xs ≡ true → gate b (m x) (gate_all b m xs) ≡ gate_all b m xs
gate_again b m same alike x [] h = absurd (cc h)
gate_again {X} b m same alike x (y ∷ ys) h =
    let go : (t : Bool) → same x y ≡ t → (t || list_any (same x) ys) ≡ true → gate b (m x) (gate_all b m (y ∷ ys)) ≡ gate_all b m (y ∷ ys) =
    λ t. elim t as (λ t. same x y ≡ t → (t || list_any (same x) ys) ≡ true → gate b (m x) (gate_all b m (y ∷ ys)) ≡ gate_all b m (y ∷ ys)) [
      | true ↦ λ e k. rw (alike x y e) (gate_twice b (m y) (gate_all b m ys))
      | false ↦ λ e k. gate_swap b (m x) (m y) (gate_all b m ys) ∙ ap (gate b (m y)) (gate_again b m same alike x ys k)
    ]
    in go (same x y) refl h

-- flags
pub flagged_not : (b x : Bool) → flagged (not b) x ≡ not (flagged b x)
flagged_not true true = refl
flagged_not true false = refl
flagged_not false x = refl

pub not_not : (b : Bool) → not (not b) ≡ b
not_not true = refl
not_not false = refl

pub odd_more : (x : Bool) (bs : List Bool) → is_odd (x ∷ bs) ≡ flagged x (is_odd bs)
odd_more true bs = refl
odd_more false bs = refl

pub flagged_swap : (a b c : Bool) → flagged a (flagged b c) ≡ flagged b (flagged a c)
flagged_swap true true c = refl
flagged_swap true false c = refl
flagged_swap false true c = refl
flagged_swap false false c = refl

pub flagged_twice : (a c : Bool) → flagged a (flagged a c) ≡ c
flagged_twice true c = not_not c
flagged_twice false c = refl

pub flagged_false : (a : Bool) → flagged a false ≡ a
flagged_false true = refl
flagged_false false = refl
