-- Levels by marks: what an item more, a mark more and a mark less do to them, and where one stands.
use Rattle.std.proofs.Common.{◌≡◌, ◌∙◌, ◌+◌, ◌-◌, ◌<◌, ◌≤◌, ◌++◌, ℕ, List, [], ◌∷◌, Some, zero, suc, refl, sym, ap, subst, inl, inr, ◌⊎◌, ⊎_elim, length, take, drop, reverse, get_or, arith, length-append, length-drop, append_assoc, append-nil}
use Rattle.std.specs.Prelude.{slice_get, slice_range}
use Rattle.std.proofs.lemmas.List.{reverse-append, reverse-reverse, length-reverse, take_all, drop_all, take-append-le, drop-append-le, length-take-le, take-append-drop}
use Rattle.std.proofs.lemmas.Bool.{cases_lt}
use Rattle.std.proofs.lemmas.Option.{same_Some, slice_get_within}
use Rattle.stamped_slots.proofs.Lists.{push_here, push_old}
use Rattle.term_shapes.specs.declared.handles.Term.{Term}
use Rattle.term_table.specs.World.{World}
use Rattle.term_checks.specs.Formulas.{AreFormulas}
use Rattle.term_checks.proofs.Starts.{in_either}
use Rattle.context_stack.specs.Levels.{levels_in, AreMarks, IsStack, formulas}
use Rattle.context_stack.specs.Steps.{Asserts, Pops}

pub count_levels : (ts : List Term) (ms : List ℕ) → length (levels_in ts ms) ≡ suc (length ms)
count_levels ts [] = refl
count_levels ts (m ∷ ms) =
    omega (arith, count_levels (take m ts) ms, length-append (levels_in (take m ts) ms) (drop m ts ∷ []))

pub reverse_push : {X : Type 0} (xs : List X) (x : X) → reverse (xs ++ x ∷ []) ≡ x ∷ reverse xs
reverse_push xs x = reverse-append xs (x ∷ [])

reverse_more : {X : Type 0} (x : X) (xs : List X) → reverse (x ∷ xs) ≡ reverse xs ++ x ∷ []
reverse_more x xs = reverse-append (x ∷ []) xs

-- the number of levels, where the marks stand oldest first
pub level_count : (ts : List Term) (ms : List ℕ) → length (levels_in ts (reverse ms)) ≡ length ms + 1
level_count ts ms = omega (arith, count_levels ts (reverse ms), length-reverse ms)

-- the formulas of the levels are the whole list
formulas_push : (ls : List (List Term)) (ts : List Term) → formulas (ls ++ ts ∷ []) ≡ formulas ls ++ ts
formulas_push [] ts = append-nil ts
formulas_push (l ∷ ls) ts = ap (λ r. l ++ r) (formulas_push ls ts) ∙ sym (append_assoc l (formulas ls) ts)

pub formulas_in : (ts : List Term) (ms : List ℕ) → formulas (levels_in ts ms) ≡ ts
formulas_in ts [] = append-nil ts
formulas_in ts (m ∷ ms) =
    formulas_push (levels_in (take m ts) ms) (drop m ts)
    ∙ ap (λ r. r ++ drop m ts) (formulas_in (take m ts) ms)
    ∙ take-append-drop m ts

-- where each level has formulas alone, so have all together
pub all_levels : (w : World) (ls : List (List Term)) → ((k : ℕ) (ts : List Term) → slice_get ls k ≡ Some ts → AreFormulas w ts) → AreFormulas w (formulas ls)
all_levels w [] each t h = absurd (cc h.at)
all_levels w (l ∷ ls) each t h =
    ⊎_elim (λ i. each 0 l refl t i) (λ i. all_levels w ls (λ k ts at. each (suc k) ts at) t i) (in_either l (formulas ls) t h)

pub more_levels : (w : World) (ls : List (List Term)) (i : ℕ) (ts : List Term) → slice_get ls i ≡ Some ts → AreFormulas w ts → ((k : ℕ) (us : List Term) → k < i → slice_get ls k ≡ Some us → AreFormulas w us)
    → (k : ℕ) (us : List Term) → k < i + 1 → slice_get ls k ≡ Some us → AreFormulas w us
more_levels w ls i ts at here before k us below there = ⊎_elim
    (λ h. before k us h there)
    (λ h. let same : k ≡ i = omega (arith, h, below) in subst (AreFormulas w) (same_Some ts us (sym at ∙ ap (slice_get ls) (sym same) ∙ there)) here)
    (cases_lt k i)

pub levels_hold : (w : World) (ls : List (List Term)) (n : ℕ) (ts : List Term) → n + 1 ≡ length ls → slice_get ls n ≡ Some ts → AreFormulas w ts → ((k : ℕ) (us : List Term) → k < n → slice_get ls k ≡ Some us → AreFormulas w us)
    → AreFormulas w (formulas ls)
levels_hold w ls n ts e at here before =
    all_levels w ls (λ k us there. more_levels w ls n ts at here before k us (omega (arith, e, slice_get_within ls k us there)) there)

marks_up : (ms : List ℕ) (m n : ℕ) → m ≤ n → AreMarks ms m → AreMarks ms n
marks_up [] m n le h = tt
marks_up (k ∷ ms) m n le h = (omega (arith, le, h.0), h.1)

-- a formula more
pub asserted : (ts us : List Term) (ms : List ℕ) (t : Term) → us ≡ ts ++ t ∷ [] → AreMarks ms (length ts) → Asserts (levels_in ts ms) (levels_in us ms) t
asserted ts us [] t e h =
    record { lower = []; newest = ts; before = refl; after = ap (λ x. x ∷ []) e }
asserted ts us (m ∷ ms) t e h = record {
  lower = levels_in (take m ts) ms;
  newest = drop m ts;
  before = refl;
  after = ap (λ x. levels_in (take m x) ms ++ drop m x ∷ []) e
      ∙ ap (λ x. levels_in x ms ++ drop m (ts ++ t ∷ []) ∷ []) (take-append-le m ts (t ∷ []) h.0)
      ∙ ap (λ x. levels_in (take m ts) ms ++ x ∷ []) (drop-append-le m ts (t ∷ []) h.0);
}

pub asserted_stack : (ms : List ℕ) (ts us : List Term) (t : Term) → us ≡ ts ++ t ∷ [] → IsStack ms ts → IsStack ms us
asserted_stack ms ts us t e s = record {
  fall = marks_up (reverse ms) (length ts) (length us) (omega (arith, ap length e, length-append ts (t ∷ []))) s.fall;
  few = s.few;
}

-- a level more
pub pushed : (ts : List Term) (ms ns : List ℕ) → ns ≡ ms ++ length ts ∷ [] → levels_in ts (reverse ns) ≡ levels_in ts (reverse ms) ++ [] ∷ []
pushed ts ms ns e =
    ap (λ x. levels_in ts (reverse x)) e
    ∙ ap (levels_in ts) (reverse_push ms (length ts))
    ∙ ap (λ x. levels_in x (reverse ms) ++ drop (length ts) ts ∷ []) (take_all (length ts) ts (omega arith))
    ∙ ap (λ x. levels_in ts (reverse ms) ++ x ∷ []) (drop_all (length ts) ts (omega arith))

pub pushed_stack : (ms ns : List ℕ) (ts : List Term) → ns ≡ ms ++ length ts ∷ [] → length ms < 65536 → IsStack ms ts → IsStack ns ts
pushed_stack ms ns ts e room s = record {
  fall = subst (λ x. AreMarks x (length ts)) (sym (ap reverse e ∙ reverse_push ms (length ts))) (omega arith, s.fall);
  few = omega (arith, ap length e, length-append ms (length ts ∷ []), room);
}

-- a level less
pub popped : (ts us : List Term) (ms ns : List ℕ) (m : ℕ) → ms ≡ ns ++ m ∷ [] → us ≡ take m ts → Pops (levels_in ts (reverse ms)) (levels_in us (reverse ns))
popped ts us ms ns m e f = record {
  newest = drop m ts;
  before = ap (λ x. levels_in ts (reverse x)) e
      ∙ ap (levels_in ts) (reverse_push ns m)
      ∙ ap (λ x. levels_in x (reverse ns) ++ drop m ts ∷ []) (sym f);
}

pub popped_stack : (ts us : List Term) (ms ns : List ℕ) (m : ℕ) → ms ≡ ns ++ m ∷ [] → us ≡ take m ts → IsStack ms ts → IsStack ns us
popped_stack ts us ms ns m e f s =
    let marks : AreMarks (m ∷ reverse ns) (length ts) = subst (λ x. AreMarks x (length ts)) (ap reverse e ∙ reverse_push ns m) s.fall in
    record {
      fall = subst (AreMarks (reverse ns)) (sym (ap length f ∙ length-take-le m ts marks.0)) marks.1;
      few = omega (arith, s.few, ap length e, length-append ns (m ∷ []));
    }

-- where a level stands
push_default : (xs : List ℕ) (y k d : ℕ) → k ≤ length xs → get_or (xs ++ y ∷ []) k d ≡ get_or xs k y
push_default [] y zero d h = refl
push_default [] y (suc k) d h = absurd (omega (arith, h))
push_default (x ∷ xs) y zero d h = refl
push_default (x ∷ xs) y (suc k) d h = push_default xs y k d (omega (arith, h))

past : (xs : List ℕ) (k d : ℕ) → length xs ≤ k → get_or xs k d ≡ d
past [] k d h = refl
past (x ∷ xs) zero d h = absurd (omega (arith, h))
past (x ∷ xs) (suc k) d h = past xs k d (omega (arith, h))

any_default : (xs : List ℕ) (k d e : ℕ) → k < length xs → get_or xs k d ≡ get_or xs k e
any_default [] k d e h = absurd (omega (arith, h))
any_default (x ∷ xs) zero d e h = refl
any_default (x ∷ xs) (suc k) d e h = any_default xs k d e (omega (arith, h))

take_front : (n m : ℕ) (xs : List Term) → n ≤ m → take n (take m xs) ≡ take n xs
take_front zero m xs h = refl
take_front (suc n) zero xs h = absurd (omega (arith, h))
take_front (suc n) (suc m) [] h = refl
take_front (suc n) (suc m) (x ∷ xs) h = ap (λ r. x ∷ r) (take_front n m xs (omega (arith, h)))

drop_front : (a : ℕ) (xs : List Term) (m n : ℕ) → (n ≡ 0) ⊎ (a + n ≤ m) → take n (drop a (take m xs)) ≡ take n (drop a xs)
drop_front a xs m zero h = refl
drop_front zero xs m (suc n) (inl e) = absurd (omega (arith, e))
drop_front zero xs m (suc n) (inr h) = take_front (suc n) m xs (omega (arith, h))
drop_front (suc a) xs zero (suc n) (inl e) = absurd (omega (arith, e))
drop_front (suc a) xs zero (suc n) (inr h) = absurd (omega (arith, h))
drop_front (suc a) [] (suc m) (suc n) h = refl
drop_front (suc a) (x ∷ xs) (suc m) (suc n) (inl e) = absurd (omega (arith, e))
drop_front (suc a) (x ∷ xs) (suc m) (suc n) (inr h) = drop_front a xs m (suc n) (inr (omega (arith, h)))

range_front : (ts : List Term) (m a b : ℕ) → a ≤ b → b ≤ m → slice_range (take m ts) a b ≡ slice_range ts a b
range_front ts m a b l h = drop_front a ts m (b - a) (inr (omega (arith, l, h)))

pub record IsLevel (ts : List Term) (levels : List (List Term)) (k low high : ℕ) : Type 0 where
  pub order : low ≤ high
  pub within : high ≤ length ts
  pub at : slice_get levels k ≡ Some (slice_range ts low high)

-- a level below the newest, and the newest
module _ (m : ℕ) (ms : List ℕ) (ts : List Term) (k : ℕ) (h : (m ≤ length ts) × AreMarks ms m) where
  long : length (take m ts) ≡ m
  long = length-take-le m ts h.0

  older : k < suc (length ms) → IsLevel (take m ts) (levels_in (take m ts) ms) k (get_or (0 ∷ reverse ms) k 0) (get_or (reverse ms) k (length (take m ts)))
      → IsLevel ts (levels_in (take m ts) ms ++ drop m ts ∷ []) k (get_or (0 ∷ (reverse ms ++ m ∷ [])) k 0) (get_or (reverse ms ++ m ∷ []) k (length ts))
  older lt r =
      let low : get_or (0 ∷ (reverse ms ++ m ∷ [])) k 0 ≡ get_or (0 ∷ reverse ms) k 0 = push_default (0 ∷ reverse ms) m k 0 (omega (arith, lt, length-reverse ms)) ∙ any_default (0 ∷ reverse ms) k m 0 (omega (arith, lt, length-reverse ms)) in
      let high : get_or (reverse ms ++ m ∷ []) k (length ts) ≡ get_or (reverse ms) k (length (take m ts)) = push_default (reverse ms) m k (length ts) (omega (arith, lt, length-reverse ms)) ∙ ap (get_or (reverse ms) k) (sym long) in
      record {
        order = omega (arith, r.order, low, high);
        within = omega (arith, r.within, high, long, h.0);
        at = push_old (levels_in (take m ts) ms) (drop m ts) (slice_range (take m ts) (get_or (0 ∷ reverse ms) k 0) (get_or (reverse ms) k (length (take m ts)))) k r.at
            ∙ ap Some (range_front ts m (get_or (0 ∷ reverse ms) k 0) (get_or (reverse ms) k (length (take m ts))) r.order (omega (arith, r.within, long)))
            ∙ ap Some (ap (λ a. slice_range ts a (get_or (reverse ms) k (length (take m ts)))) (sym low) ∙ ap (λ b. slice_range ts (get_or (0 ∷ (reverse ms ++ m ∷ [])) k 0) b) (sym high));
      }

  newest_level : suc (length ms) ≤ k → k ≤ suc (length ms) → IsLevel ts (levels_in (take m ts) ms ++ drop m ts ∷ []) k (get_or (0 ∷ (reverse ms ++ m ∷ [])) k 0) (get_or (reverse ms ++ m ∷ []) k (length ts))
  newest_level ge le =
      let is : k ≡ length (levels_in (take m ts) ms) = omega (arith, ge, le, count_levels (take m ts) ms) in
      let low : get_or (0 ∷ (reverse ms ++ m ∷ [])) k 0 ≡ m = push_default (0 ∷ reverse ms) m k 0 (omega (arith, le, length-reverse ms)) ∙ past (0 ∷ reverse ms) k m (omega (arith, ge, length-reverse ms)) in
      let high : get_or (reverse ms ++ m ∷ []) k (length ts) ≡ length ts = past (reverse ms ++ m ∷ []) k (length ts) (omega (arith, ge, length-reverse ms, length-append (reverse ms) (m ∷ []))) in
      let whole : slice_range ts m (length ts) ≡ drop m ts = take_all (length ts - m) (drop m ts) (omega (arith, length-drop m ts)) in
      record {
        order = omega (arith, low, high, h.0);
        within = omega (arith, high);
        at = ap (slice_get (levels_in (take m ts) ms ++ drop m ts ∷ [])) is
            ∙ push_here (levels_in (take m ts) ms) (drop m ts)
            ∙ ap Some (sym whole ∙ ap (λ a. slice_range ts a (length ts)) (sym low) ∙ ap (λ b. slice_range ts (get_or (0 ∷ (reverse ms ++ m ∷ [])) k 0) b) (sym high));
      }

  level_more : k ≤ suc (length ms) → (k < suc (length ms) → IsLevel (take m ts) (levels_in (take m ts) ms) k (get_or (0 ∷ reverse ms) k 0) (get_or (reverse ms) k (length (take m ts))))
      → IsLevel ts (levels_in (take m ts) ms ++ drop m ts ∷ []) k (get_or (0 ∷ reverse (m ∷ ms)) k 0) (get_or (reverse (m ∷ ms)) k (length ts))
  level_more l below =
      subst (λ rs. IsLevel ts (levels_in (take m ts) ms ++ drop m ts ∷ []) k (get_or (0 ∷ rs) k 0) (get_or rs k (length ts))) (sym (reverse_more m ms)) (⊎_elim (λ lt. older lt (below lt)) (λ ge. newest_level ge l) (cases_lt k (suc (length ms))))

level_at : (ms : List ℕ) (ts : List Term) (k : ℕ) → AreMarks ms (length ts) → k ≤ length ms → IsLevel ts (levels_in ts ms) k (get_or (0 ∷ reverse ms) k 0) (get_or (reverse ms) k (length ts))
level_at [] ts zero h l =
    record { order = omega arith; within = omega arith; at = ap Some (sym (take_all (length ts - 0) ts (omega arith))) }
level_at [] ts (suc k) h l = absurd (omega (arith, l))
level_at (m ∷ ms) ts k h l =
    level_more m ms ts k h l (λ lt. level_at ms (take m ts) k (subst (AreMarks ms) (sym (length-take-le m ts h.0)) h.1) (omega (arith, lt)))

-- the same, where the marks stand oldest first
pub level_by_marks : (ms : List ℕ) (ts : List Term) (k low high : ℕ) → IsStack ms ts → k ≤ length ms → low ≡ get_or (0 ∷ ms) k 0 → high ≡ get_or ms k (length ts) → IsLevel ts (levels_in ts (reverse ms)) k low high
level_by_marks ms ts k low high s l a b =
    let r = level_at (reverse ms) ts k s.fall (omega (arith, l, length-reverse ms)) in
    let q : IsLevel ts (levels_in ts (reverse ms)) k (get_or (0 ∷ ms) k 0) (get_or ms k (length ts)) = subst (λ x. IsLevel ts (levels_in ts (reverse ms)) k (get_or (0 ∷ x) k 0) (get_or x k (length ts))) (reverse-reverse ms) r in
    subst (λ x. IsLevel ts (levels_in ts (reverse ms)) k x high) (sym a) (subst (λ y. IsLevel ts (levels_in ts (reverse ms)) k (get_or (0 ∷ ms) k 0) y) (sym b) q)
