-- The values of nodes, one after another.
use Rattle.std.proofs.Common.{◌≡◌, ◌∙◌, ◌+◌, ◌<◌, ◌≤◌, ◌++◌, ◌&&◌, ◌||◌, ℕ, zero, suc, Bool, true, false, not, if◌then◌else◌, List, [], ◌∷◌, Some, length, map, take, drop, get_or, All, refl, sym, ap, subst, ⊎_elim, arith}
use Rattle.std.specs.Prelude.{slice_get}
use Rattle.std.specs.List.{list_all, list_any}
use Rattle.std.proofs.lemmas.List.{at_drop_more, map-append}
use Rattle.std.proofs.lemmas.Option.{slice_get_read, slice_get-get_or}
use Rattle.y_tree.specs.Sorts.{boolean}
use Rattle.y_tree.specs.Values.{truth, same_truth}
use Rattle.y_tree.specs.Tree.{trees}
use Rattle.y_tree.specs.Meaning.{Assignment, truth_of, is_odd, are_distinct, apply, meaning, meanings}
use Rattle.node_encoding.specs.declared.Node.{Node}
use Rattle.node_encoding.specs.Nodes.{op_of, arguments_of, IsFormed, tree_at}
use Rattle.theory_combine.specs.Values.{AreValues, values_at}
use Rattle.node_encoding.proofs.Gets.{push_cases, length_front}
use Rattle.node_encoding.proofs.Combining.{take_next}
use Rattle.node_encoding.proofs.TreeLaws.{meaning_at}
use Rattle.node_encoding.proofs.Meanings.{three_alike}

-- whether all, or some, values at places are true, from place i on
module _ (values : List Bool) (places : List ℕ) (i : ℕ) (within : i < length places) where
  abbrev here : Bool
  here = get_or values (get_or places i 0) false

  abbrev all_from : List ℕ → Bool
  all_from ks = list_all truth_of (values_at values ks)

  abbrev some_from : List ℕ → Bool
  some_from ks = list_any truth_of (values_at values ks)

  pub all_skip : all_from (drop i places) ≡ all_from places → here ≡ true → all_from (drop (i + 1) places) ≡ all_from places
  all_skip known is = sym (ap (λ b. b && all_from (drop (i + 1) places)) is) ∙ sym (at_drop_more all_from places i 0 within) ∙ known

  pub all_stop : all_from (drop i places) ≡ all_from places → here ≡ false → false ≡ all_from places
  all_stop known is = sym (ap (λ b. b && all_from (drop (i + 1) places)) is) ∙ sym (at_drop_more all_from places i 0 within) ∙ known

  pub some_skip : some_from (drop i places) ≡ some_from places → here ≡ false → some_from (drop (i + 1) places) ≡ some_from places
  some_skip known is = sym (ap (λ b. b || some_from (drop (i + 1) places)) is) ∙ sym (at_drop_more some_from places i 0 within) ∙ known

  pub some_stop : some_from (drop i places) ≡ some_from places → here ≡ true → true ≡ some_from places
  some_stop known is = sym (ap (λ b. b || some_from (drop (i + 1) places)) is) ∙ sym (at_drop_more some_from places i 0 within) ∙ known

-- the values at places of earlier nodes are the meanings of their trees
values_meanings : (nodes : List Node) (s : Assignment) (values : List Bool) (places : List ℕ) → AreValues nodes s values → All (λ a. a < length values) places
    → values_at values places ≡ meanings (trees (map (tree_at nodes) places)) s
unfolding meaning
values_meanings nodes s values [] are h = refl
values_meanings nodes s values (k ∷ ks) are h =
    ap (λ v. v ∷ values_at values ks) (are.right k (get_or values k false) (slice_get-get_or values k false (h zero 0 (omega arith))))
    ∙ ap (λ vs. meaning (tree_at nodes k) s ∷ vs) (values_meanings nodes s values ks are (λ j d small. h (suc j) d (omega (arith, small))))

module _ (nodes read : List Node) (s : Assignment) (values seen : List Bool) (k : ℕ) (n : Node) (formed : IsFormed nodes) (same : read ≡ nodes) (within : k < length nodes) (is : n ≡ get_or read k n) (count : length values ≡ k) where
  node_here : slice_get nodes k ≡ Some n
  node_here = slice_get_read nodes (length nodes) k n refl within (is ∙ ap (λ ns. get_or ns k n) same)

  -- a node's arguments have values
  pub earlier_values : seen ≡ values → All (λ a. a < length seen) (arguments_of n)
  earlier_values shown = λ j d small.
      omega (arith, (formed.fits k n node_here).earlier j d small, length_front nodes k n node_here, count, ap length shown)

  -- and then it has one
  pub values_push : seen ≡ values → AreValues nodes s values → (b : Bool) → truth b ≡ apply (op_of n) boolean (values_at seen (arguments_of n)) s → AreValues nodes s (values ++ b ∷ [])
  values_push shown are b gives = record {
    right = λ j w e. ⊎_elim
        (λ q. ap truth (sym q.1) ∙ gives ∙ ap (λ vs. apply (op_of n) boolean (values_at vs (arguments_of n)) s) shown
        ∙ ap (λ vs. apply (op_of n) boolean vs s) (values_meanings nodes s values (arguments_of n) are (subst (λ vs. All (λ a. a < length vs) (arguments_of n)) shown (earlier_values shown)))
        ∙ sym (meaning_at nodes formed k n node_here s)
        ∙ ap (λ i. meaning (tree_at nodes i) s) (sym count ∙ sym q.0))
        (λ old. are.right j w old)
        (push_cases values b w j e);
  }

pub no_values : (nodes : List Node) (s : Assignment) → AreValues nodes s []
no_values nodes s = record { right = λ k v e. absurd (cc e) }

odd_push : (bs : List Bool) (b : Bool) → is_odd (bs ++ b ∷ []) ≡ (if b then not (is_odd bs) else is_odd bs)
odd_push [] true = refl
odd_push [] false = refl
odd_push (true ∷ bs) true = ap not (odd_push bs true)
odd_push (true ∷ bs) false = ap not (odd_push bs false)
odd_push (false ∷ bs) b = odd_push bs b

-- an odd number of values at the first places is true, and one place more
pub odd_more : (values : List Bool) (places : List ℕ) (i : ℕ) → i < length places → (odd : Bool) → odd ≡ is_odd (map truth_of (values_at values (take i places)))
    → (if get_or values (get_or places i 0) false then not odd else odd) ≡ is_odd (map truth_of (values_at values (take (i + 1) places)))
odd_more values places i within odd known =
    let here : Bool = get_or values (get_or places i 0) false in
    ap (λ o. if here then not o else o) known
    ∙ sym (odd_push (map truth_of (values_at values (take i places))) here)
    ∙ ap is_odd (sym (ap (λ ks. map truth_of (values_at values ks)) (take_next places i (get_or places i 0) (slice_get-get_or places i 0 within))
    ∙ ap (map truth_of) (map-append (λ k. truth (get_or values k false)) (take i places) (get_or places i 0 ∷ []))
    ∙ map-append truth_of (values_at values (take i places)) (truth here ∷ [])))

-- two truth values differ
pub two_differ : (a b : Bool) → not (same_truth a b) ≡ are_distinct boolean (truth a ∷ truth b ∷ [])
two_differ true true = refl
two_differ true false = refl
two_differ false true = refl
two_differ false false = refl

pub many_alike : (values : List Bool) (places : List ℕ) → 3 ≤ length places → false ≡ are_distinct boolean (values_at values places)
many_alike values [] h = absurd (omega (arith, h))
many_alike values (i ∷ []) h = absurd (omega (arith, h))
many_alike values (i ∷ j ∷ []) h = absurd (omega (arith, h))
many_alike values (i ∷ j ∷ k ∷ ks) h = three_alike (get_or values i false) (get_or values j false) (get_or values k false) (values_at values ks)
