-- The values of rows, part by part.
use Rattle.std.proofs.Common.{◌≡◌, Bool, ℕ, zero, suc, ◌+◌, ◌<◌, ◌≤◌, List, [], ◌∷◌, ◌++◌, length, get_or, take, map, refl, sym, ap, ◌∙◌, subst, arith}
use Rattle.rationals.specs.Rational.{ℚ, zero_ℚ, ◌*ℚ◌}
use Rattle.rationals.specs.Delta.{Delta, of_ℚ}
use Rattle.fraction128.specs.declared.infinitesimal.Delta.{Delta as Fractions}
use Rattle.fraction128.specs.declared.errors.Wide.{Wide}
use Rattle.simplex_logic.specs.Vectors.{at, part, parts}
use Rattle.simplex_table.specs.Causes.{WideBy, MultiplyAdd, multiplied, added}
use Rattle.simplex_table.specs.Values.{value_of}
use Rattle.simplex_table.specs.View.{State, Sound, AreValues, delta_of, deltas}
use Rattle.simplex_table.proofs.Firsts.{mapped_more, mapped_all, length-map, get_mapped_or}

pub length-deltas : (ds : List Fractions) → length (deltas ds) ≡ length ds
length-deltas [] = refl
length-deltas (d ∷ ds) = ap suc (length-deltas ds)

pub length-parts : (b : Bool) (y : List Delta) → length (parts b y) ≡ length y
length-parts b [] = refl
length-parts b (d ∷ y) = ap suc (length-parts b y)

pub length-values : (b : Bool) (ds : List Fractions) → length (parts b (deltas ds)) ≡ length ds
length-values b ds = length-parts b (deltas ds) ∙ length-deltas ds

-- one part of a value that was read by index
pub part_read : (b : Bool) (ds : List Fractions) (k : ℕ) (d : Fractions) (x : ℚ) → k < length ds → d ≡ get_or ds k d → x ≡ part b (delta_of d) → x ≡ at (parts b (deltas ds)) k
part_read b [] k d x h e f = absurd (omega arith)
part_read b (c ∷ ds) zero d x h e f = f ∙ ap (λ z. part b (delta_of z)) e
part_read b (c ∷ ds) (suc k) d x h e f = part_read b ds k d x (omega arith) e f

-- the operands in other words
kind : (a a' b b' c c' : ℚ) (l r : ℚ) → a ≡ a' → b ≡ b' → c ≡ c' → MultiplyAdd a b c l r → MultiplyAdd a' b' c' l r
kind a a' b b' c c' l r e f g (multiplied p q) = multiplied (p ∙ f) (q ∙ g)
kind a a' b b' c c' l r e f g (added p q) = added (p ∙ e) (q ∙ ap (λ x. x *ℚ c) f ∙ ap (λ x. b' *ℚ x) g)

pub wide_as : (a a' b b' c c' : ℚ) (w : Wide) → a ≡ a' → b ≡ b' → c ≡ c' → WideBy (MultiplyAdd a b c) w → WideBy (MultiplyAdd a' b' c') w
wide_as a a' b b' c c' w e f g h = record { wide = h.wide; operands = kind a a' b b' c c' w.left w.right e f g h.operands }

-- ---- the values of all rows
deltas-last : (ds : List Fractions) (d : Fractions) → deltas (ds ++ d ∷ []) ≡ deltas ds ++ delta_of d ∷ []
deltas-last [] d = refl
deltas-last (e ∷ ds) d = ap (λ l. delta_of e ∷ l) (deltas-last ds d)

pub values_more : (y : List Delta) (table : List (List ℚ)) (ds ds' : List Fractions) (k : ℕ) (row : List ℚ) (d : Fractions) → k < length table → deltas ds ≡ take k (map (λ r. value_of r y) table) → row ≡ get_or table k row → delta_of d ≡ value_of row y
    → ds' ≡ ds ++ d ∷ [] → deltas ds' ≡ take (k + 1) (map (λ r. value_of r y) table)
values_more y table ds ds' k row d h e r g f = ap deltas f ∙ deltas-last ds d ∙ mapped_more (λ x. value_of x y) table (deltas ds) k row (delta_of d) h e r g

pub values_all : (s : State) (y : List Delta) (table : List (List ℚ)) (ds : List Fractions) (k : ℕ) → Sound s → table ≡ s.table → length table ≤ k → deltas ds ≡ take k (map (λ r. value_of r y) table) → AreValues s y ds
values_all s y table ds k h t l e =
    let a : deltas ds ≡ map (λ r. value_of r y) s.table = mapped_all (λ r. value_of r y) table (deltas ds) k l e ∙ ap (map (λ r. value_of r y)) t in
    let n : length s.table ≡ length s.rows = h.long in
    record {
      long = sym (length-deltas ds) ∙ ap length a ∙ length-map (λ r. value_of r y) s.table ∙ n;
      each = λ x p. ap (λ l. get_or l x (of_ℚ zero_ℚ)) a ∙ get_mapped_or (λ r. value_of r y) s.table x [] (of_ℚ zero_ℚ) (subst (λ m. x < m) (sym n) p);
    }
