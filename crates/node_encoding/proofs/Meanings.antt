-- Truth values of nodes and the meanings of their trees.
use Rattle.std.proofs.Common.{◌≡◌, ◌∙◌, ◌<◌, ◌&&◌, ◌||◌, ◌==◌, cond, ℕ, zero, suc, Bool, true, false, not, List, [], ◌∷◌, Some, length, map, get_or, All, refl, sym, ap, arith}
use Rattle.std.specs.Prelude.{slice_get}
use Rattle.std.specs.List.{list_all, list_any}
use Rattle.std.proofs.lemmas.Option.{slice_get-get_or}
use Rattle.y_tree.specs.Sorts.{boolean}
use Rattle.y_tree.specs.Values.{Value, has_sort, zero_of, same_truth}
use Rattle.y_tree.specs.Values as value
use Rattle.y_tree.specs.Tree.{trees}
use Rattle.y_tree.specs.Meaning.{Assignment, is_odd, are_distinct, truth_of, value_in, apply, meaning, meanings}
use Rattle.node_encoding.specs.declared.Node.{Node}
use Rattle.node_encoding.specs.declared.Node.TheVariants as node_of
use Rattle.node_encoding.specs.Nodes.{IsFormed, op_of, arguments_of, tree_at, truths_of}
use Rattle.node_encoding.specs.Shapes.{agree, are_different, shape_value, IsShaped, Obeys}
use Rattle.node_encoding.proofs.Gets.{length_front}
use Rattle.node_encoding.proofs.TreeLaws.{meaning_at, arguments_there}

and_false : (b : Bool) → (b && false) ≡ false
and_false true = refl
and_false false = refl

-- of three truth values two are one
pub three_alike : (a b c : Bool) (vs : List Value) → false ≡ are_distinct boolean (value.truth a ∷ value.truth b ∷ value.truth c ∷ vs)
three_alike true true c vs = refl
three_alike true false true vs = refl
three_alike true false false vs = sym (and_false _)
three_alike false true true vs = sym (and_false _)
three_alike false true false vs = refl
three_alike false false c vs = refl

-- truth values as values
abbrev as_values : List Bool → List Value
as_values bs = map value.truth bs

all_truths : (bs : List Bool) → list_all truth_of (as_values bs) ≡ list_all (λ b. b) bs
all_truths [] = refl
all_truths (b ∷ bs) = ap (λ c. b && c) (all_truths bs)

any_truths : (bs : List Bool) → list_any truth_of (as_values bs) ≡ list_any (λ b. b) bs
any_truths [] = refl
any_truths (b ∷ bs) = ap (λ c. b || c) (any_truths bs)

truths_back : (bs : List Bool) → map truth_of (as_values bs) ≡ bs
truths_back [] = refl
truths_back (b ∷ bs) = ap (λ cs. b ∷ cs) (truths_back bs)

chosen : (c a b : Bool) → cond {A = Value} c (value.truth a) (value.truth b) ≡ value.truth (cond c a b)
chosen true a b = refl
chosen false a b = refl

same_agree : (a b : Bool) → same_truth a b ≡ agree (a ∷ b ∷ [])
same_agree true true = refl
same_agree true false = refl
same_agree false true = refl
same_agree false false = refl

differing : (bs : List Bool) → are_distinct boolean (as_values bs) ≡ are_different bs
differing [] = refl
differing (b ∷ []) = refl
differing (true ∷ true ∷ []) = refl
differing (true ∷ false ∷ []) = refl
differing (false ∷ true ∷ []) = refl
differing (false ∷ false ∷ []) = refl
differing (a ∷ b ∷ c ∷ bs) = sym (three_alike a b c (as_values bs))

-- the value is a truth value
abbrev IsTruth : Value → Type 0
IsTruth v = (b : Bool) × (v ≡ value.truth b)

-- the value of a Boolean constant is a truth value
constant_first : (t : Bool) (v w : Value) → IsTruth w → IsTruth (cond {A = Value} (t && has_sort v boolean) v w)
unfolding has_sort
constant_first true (value.truth b) w rest = (b, refl)
constant_first true (value.number q) w rest = rest
constant_first true (value.bits n a) w rest = rest
constant_first true (value.element k a) w rest = rest
constant_first true (value.function fs v) w rest = rest
constant_first false v w rest = rest

constant_truth : (es : List (ℕ × Value)) (number : ℕ) → IsTruth (value_in es number boolean)
unfolding zero_of
constant_truth [] number = (false, refl)
constant_truth (e ∷ es) number = constant_first (e.0 == number) e.1 (value_in es number boolean) (constant_truth es number)

-- over truth values the operator of a node gives what its shape says, and some truth value at a constant
abbrev GivesShape : Node → List Bool → Assignment → Type 0
GivesShape (node_of.Const number) bs s = IsTruth (value_in s.constants number boolean)
GivesShape n bs s = apply (op_of n) boolean (as_values bs) s ≡ value.truth (shape_value n bs)

gives_shape : (n : Node) (bs : List Bool) (s : Assignment) → length bs ≡ length (arguments_of n) → GivesShape n bs s
gives_shape node_of.True bs s e = refl
gives_shape node_of.False bs s e = refl
gives_shape (node_of.Const number) bs s e = constant_truth s.constants number
gives_shape (node_of.Not a) bs s e = ap (λ b. value.truth (not b)) (all_truths bs)
gives_shape (node_of.And args) bs s e = ap value.truth (all_truths bs)
gives_shape (node_of.Or args) bs s e = ap value.truth (any_truths bs)
gives_shape (node_of.Xor args) bs s e = ap (λ cs. value.truth (is_odd cs)) (truths_back bs)
gives_shape (node_of.Ite k i j) [] s e = absurd (cc e)
gives_shape (node_of.Ite k i j) (c ∷ []) s e = absurd (cc e)
gives_shape (node_of.Ite k i j) (c ∷ a ∷ []) s e = absurd (cc e)
gives_shape (node_of.Ite k i j) (c ∷ a ∷ b ∷ []) s e = chosen c a b
gives_shape (node_of.Ite k i j) (c ∷ a ∷ b ∷ d ∷ bs) s e = absurd (cc e)
gives_shape (node_of.Eq i j) [] s e = absurd (cc e)
gives_shape (node_of.Eq i j) (a ∷ []) s e = absurd (cc e)
gives_shape (node_of.Eq i j) (a ∷ b ∷ []) s e = ap value.truth (same_agree a b)
gives_shape (node_of.Eq i j) (a ∷ b ∷ c ∷ bs) s e = absurd (cc e)
gives_shape (node_of.Distinct args) bs s e = ap value.truth (differing bs)

gives_truth : (n : Node) (bs : List Bool) (s : Assignment) → GivesShape n bs s → IsTruth (apply (op_of n) boolean (as_values bs) s)
gives_truth node_of.True bs s g = (true, g)
gives_truth node_of.False bs s g = (false, g)
gives_truth (node_of.Const number) bs s g = g
gives_truth (node_of.Not a) bs s g = (shape_value (node_of.Not a) bs, g)
gives_truth (node_of.And args) bs s g = (shape_value (node_of.And args) bs, g)
gives_truth (node_of.Or args) bs s g = (shape_value (node_of.Or args) bs, g)
gives_truth (node_of.Xor args) bs s g = (shape_value (node_of.Xor args) bs, g)
gives_truth (node_of.Ite c a b) bs s g = (shape_value (node_of.Ite c a b) bs, g)
gives_truth (node_of.Eq a b) bs s g = (shape_value (node_of.Eq a b) bs, g)
gives_truth (node_of.Distinct args) bs s g = (shape_value (node_of.Distinct args) bs, g)

length_mapped : {X Y : Type 0} (f : X → Y) (xs : List X) → length (map f xs) ≡ length xs
length_mapped f [] = refl
length_mapped f (x ∷ xs) = ap suc (length_mapped f xs)

module _ (nodes : List Node) (formed : IsFormed nodes) (s : Assignment) where
  abbrev t : ℕ → Bool
  t = truths_of nodes s

  values_of : (ks : List ℕ) → All (λ k. meaning (tree_at nodes k) s ≡ value.truth (t k)) ks → meanings (trees (map (tree_at nodes) ks)) s ≡ as_values (map t ks)
  unfolding meaning
  values_of [] h = refl
  values_of (k ∷ ks) h =
      ap (λ v. v ∷ meanings (trees (map (tree_at nodes) ks)) s) (h 0 0 (omega arith))
      ∙ ap (λ vs. value.truth (t k) ∷ vs) (values_of ks (λ j d small. h (suc j) d (omega (arith, small))))

  -- each node's tree means a truth value
  truth_below : (bound k : ℕ) → k < bound → k < length nodes → meaning (tree_at nodes k) s ≡ value.truth (t k)
  truth_below zero k h small = absurd (omega (arith, h))
  truth_below (suc bound) k h small =
      let n : Node = get_or nodes k node_of.True in
      let here : slice_get nodes k ≡ Some n = slice_get-get_or nodes k node_of.True small in
      let args : List ℕ = arguments_of n in
      let before : All (λ a. meaning (tree_at nodes a) s ≡ value.truth (t a)) args =
      λ j d within. let below = (formed.fits k n here).earlier j d within in
      truth_below bound (get_or args j d) (omega (arith, below, h, length_front nodes k n here)) (omega (arith, below, small, length_front nodes k n here)) in
      let one = gives_truth n (map t args) s (gives_shape n (map t args) s (length_mapped t args)) in
      let is : meaning (tree_at nodes k) s ≡ value.truth one.0 =
      meaning_at nodes formed k n here s ∙ ap (λ vs. apply (op_of n) boolean vs s) (values_of args before) ∙ one.1 in
      is ∙ ap value.truth (sym (ap truth_of is))

  pub truth_at : (k : ℕ) → k < length nodes → meaning (tree_at nodes k) s ≡ value.truth (t k)
  truth_at k small = truth_below (suc k) k (omega arith) small

  applied_at : (k : ℕ) (n : Node) → slice_get nodes k ≡ Some n → meaning (tree_at nodes k) s ≡ apply (op_of n) boolean (as_values (map t (arguments_of n))) s
  applied_at k n h =
      meaning_at nodes formed k n h s
      ∙ ap (λ vs. apply (op_of n) boolean vs s) (values_of (arguments_of n) (λ j d small. truth_at (get_or (arguments_of n) j d) (arguments_there nodes formed k n h j d small)))

  -- the meanings of trees are as the shapes say
  pub shaped_at : (k : ℕ) (n : Node) → slice_get nodes k ≡ Some n → IsShaped t k n
  shaped_at k n h = from_shape n (applied_at k n h) (gives_shape n (map t (arguments_of n)) s (length_mapped t (arguments_of n)))
    where
      from_shape : (n : Node) → meaning (tree_at nodes k) s ≡ apply (op_of n) boolean (as_values (map t (arguments_of n))) s → GivesShape n (map t (arguments_of n)) s → IsShaped t k n
      from_shape node_of.True is g = ap truth_of (is ∙ g)
      from_shape node_of.False is g = ap truth_of (is ∙ g)
      from_shape (node_of.Const number) is g = tt
      from_shape (node_of.Not a) is g = ap truth_of (is ∙ g)
      from_shape (node_of.And args) is g = ap truth_of (is ∙ g)
      from_shape (node_of.Or args) is g = ap truth_of (is ∙ g)
      from_shape (node_of.Xor args) is g = ap truth_of (is ∙ g)
      from_shape (node_of.Ite c a b) is g = ap truth_of (is ∙ g)
      from_shape (node_of.Eq a b) is g = ap truth_of (is ∙ g)
      from_shape (node_of.Distinct args) is g = ap truth_of (is ∙ g)

  pub const_meaning : (k number : ℕ) → slice_get nodes k ≡ Some (node_of.Const number) → meaning (tree_at nodes k) s ≡ value_in s.constants number boolean
  const_meaning k number h = meaning_at nodes formed k (node_of.Const number) h s

  pub obeys : Obeys nodes t
  obeys = record {
    shaped = shaped_at;
    constants = λ j k number h e. ap truth_of (const_meaning j number h ∙ sym (const_meaning k number e));
  }
