-- The applications so far, one more with each.
use Rattle.std.proofs.Common.{◌≡◌, ◌∙◌, ◌+◌, ℕ, zero, suc, List, [], ◌∷◌, ◌++◌, Some, map, take, length, refl, sym, ap, subst, arith}
use Rattle.std.specs.Prelude.{slice_get}
use Rattle.std.proofs.lemmas.List.{map-append, length-map}
use Rattle.y_tree.specs.declared.values.Value.{Value}
use Rattle.y_tree.specs.declared.values.Entry.{Entry}
use Rattle.y_tree.specs.Plain.{plain_value, plain_values, plain_entry}
use Rattle.update_axioms.specs.declared.tabling.Step.{Step}
use Rattle.update_axioms.specs.declared.tabling.Step.TheVariants.{Behind, Again, Differs}
use Rattle.update_axioms.specs.Tables.{Point}
use Rattle.update_axioms.specs.Tabling.{Made, point_of, points_made, AreInOrder, Clashes, last_of, IsStep}
use Rattle.update_axioms.proofs.Ordered.{Tabling, InOrder, behind_tabled, again_tabled, clash_tabled, last_place, here_first, here_next}

-- a list around one of its items
record Around {A : Type 0} (xs : List A) (i : ℕ) (x : A) : Type 0 where
  front : List A
  back : List A
  whole : xs ≡ front ++ x ∷ back
  taken : take i xs ≡ front
  more : take (i + 1) xs ≡ front ++ x ∷ []
  long : length front ≡ i

around : {A : Type 0} (xs : List A) (i : ℕ) (x : A) → slice_get xs i ≡ Some x → Around xs i x
around [] i x h = absurd cc
around (y ∷ xs) zero x h = let e : y ≡ x = cc in record { front = []; back = xs; whole = ap (λ z. z ∷ xs) e; taken = refl; more = ap (λ z. z ∷ []) e; long = refl }
around (y ∷ xs) (suc i) x h =
    let r = around xs i x h in
    let step : suc i + 1 ≡ suc (i + 1) = omega arith in
    record {
      front = y ∷ r.front;
      back = r.back;
      whole = ap (λ zs. y ∷ zs) r.whole;
      taken = ap (λ zs. y ∷ zs) r.taken;
      more = ap (λ n. take n (y ∷ xs)) step ∙ ap (λ zs. y ∷ zs) r.more;
      long = ap suc r.long;
    }

module _ (tuples : List (List Value)) (vals : List Value) (made : List Made) (i : ℕ) (a : Made) (key : List Value) (value : Value)
    (there : slice_get made i ≡ Some a) (tuple : slice_get tuples a.1 ≡ Some key) (node : slice_get vals a.2 ≡ Some value) where
  -- the application's point
  point_is : point_of tuples vals a ≡ (plain_values key, plain_value value)
  point_is = rw (tuple, node) refl

  -- the points so far, and one more
  abbrev pub so_far : List Point
  so_far = points_made tuples vals (take i made)

  more_points : points_made tuples vals (take (i + 1) made) ≡ so_far ++ (plain_values key, plain_value value) ∷ []
  more_points =
      let r = around made i a there in
      ap (map (point_of tuples vals)) (r.more ∙ ap (λ zs. zs ++ a ∷ []) (sym r.taken)) ∙ map-append (point_of tuples vals) (take i made) (a ∷ [])
      ∙ ap (λ p. map (point_of tuples vals) (take i made) ++ p ∷ []) point_is

  record Whole : Type 0 where
    rest : List Point
    is : points_made tuples vals made ≡ so_far ++ (plain_values key, plain_value value) ∷ rest
    long : length so_far ≡ i

  whole : Whole
  whole =
      let r = around made i a there in
      record {
        rest = map (point_of tuples vals) r.back;
        is = ap (map (point_of tuples vals)) (r.whole ∙ ap (λ zs. zs ++ a ∷ r.back) (sym r.taken)) ∙ map-append (point_of tuples vals) (take i made) (a ∷ r.back)
            ∙ ap (λ p. map (point_of tuples vals) (take i made) ++ p ∷ map (point_of tuples vals) r.back) point_is;
        long = length-map (take i made) (point_of tuples vals) ∙ ap length r.taken ∙ r.long;
      }

  in_order : AreInOrder (points_made tuples vals made) → InOrder (last_of so_far) (plain_values key, plain_value value)
  in_order order q l =
      let w = whole in
      let j = last_place so_far q l in
      let long = w.long in
      let e = j.1 in
      let next : length so_far ≡ j.0 + 1 = e in
      order j.0 q (plain_values key, plain_value value)
      (ap (λ zs. slice_get zs j.0) w.is ∙ here_first so_far ((plain_values key, plain_value value) ∷ w.rest) j.0 q j.2)
      (ap (λ zs. slice_get zs (j.0 + 1)) w.is ∙ ap (λ n. slice_get (so_far ++ (plain_values key, plain_value value) ∷ w.rest) n) (sym next) ∙ here_next so_far (plain_values key, plain_value value) w.rest)

  pub tabled_behind : (kept kept2 : List Point) → AreInOrder (points_made tuples vals made) → Tabling so_far kept → IsStep Behind (last_of kept) (plain_values key, plain_value value)
      → kept2 ≡ kept ++ (plain_values key, plain_value value) ∷ [] → Tabling (points_made tuples vals (take (i + 1) made)) kept2
  tabled_behind kept kept2 order t step is =
      subst (λ ps. Tabling ps kept2) (sym more_points) (subst (λ ks. Tabling (so_far ++ (plain_values key, plain_value value) ∷ []) ks) (sym is)
      (behind_tabled so_far kept t (plain_values key, plain_value value) (in_order order) step))

  pub tabled_again : (kept : List Point) → Tabling so_far kept → IsStep Again (last_of kept) (plain_values key, plain_value value) → Tabling (points_made tuples vals (take (i + 1) made)) kept
  tabled_again kept t step = subst (λ ps. Tabling ps kept) (sym more_points) (again_tabled so_far kept t (plain_values key, plain_value value) step)

  pub tabled_clash : (kept : List Point) → Tabling so_far kept → IsStep Differs (last_of kept) (plain_values key, plain_value value) → Clashes (points_made tuples vals made) i
  tabled_clash kept t step =
      let w = whole in
      subst (λ ps. Clashes ps i) (sym w.is) (subst (λ n. Clashes (so_far ++ (plain_values key, plain_value value) ∷ w.rest) n) w.long (clash_tabled so_far kept t (plain_values key, plain_value value) w.rest step))

-- a step as the code has it
pub restep : (s t : Step) (ks kept : List Entry) (k k2 : List Value) (v : Value) → IsStep s (last_of (map plain_entry ks)) (plain_values k, plain_value v) → s ≡ t → ks ≡ kept → k ≡ k2
    → IsStep t (last_of (map plain_entry kept)) (plain_values k2, plain_value v)
restep s t ks kept k k2 v h e f g =
    subst (λ x. IsStep x (last_of (map plain_entry kept)) (plain_values k2, plain_value v)) e
    (subst (λ x. IsStep s (last_of (map plain_entry x)) (plain_values k2, plain_value v)) f
    (subst (λ x. IsStep s (last_of (map plain_entry ks)) (plain_values x, plain_value v)) g h))
