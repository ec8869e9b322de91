-- The trees of nodes: those of earlier nodes stay, and the tree of a node stands over its arguments' trees.
use Rattle.std.proofs.Common.{◌≡◌, ◌∙◌, ◌+◌, ◌<◌, ◌++◌, ◌&&◌, ℕ, zero, suc, true, List, [], ◌∷◌, Some, length, map, take, drop, get_or, All, refl, sym, ap, subst, ⊎_elim, arith, append_assoc}
use Rattle.std.specs.Prelude.{slice_get, unwrap_or}
use Rattle.std.specs.List.{list_all}
use Rattle.std.proofs.lemmas.Bool.{lt-ltb}
use Rattle.y_tree.specs.Sorts.{Sort, boolean, same_sort}
use Rattle.y_tree.specs.Tree.{Tree, node, none, more, falsity, trees}
use Rattle.y_tree.specs.Typing.{only_if, are_some, typed, typed_over, both, sort_of, sorts_of}
use Rattle.y_tree.specs.Meaning.{Assignment, apply, first_sort, or_boolean, meaning, meanings}
use Rattle.node_encoding.specs.declared.Node.{Node}
use Rattle.node_encoding.specs.declared.Node.TheVariants as node_of
use Rattle.node_encoding.specs.Nodes.{op_of, arguments_of, HasArity, Fits, IsFormed, tree_in, trees_in, tree_over, trees_from, tree_at}
use Rattle.node_encoding.proofs.Gets.{push_here, length_pushed, get_append, split_at, length_front, all_get, map_same, push_cases}
use Rattle.std.proofs.lemmas.List.{take_at, take-append-le}
use Rattle.std.proofs.lemmas.Option.{slice_get_within, slice_get-get_or}

trees_from-append : (ts : List Tree) (xs ys : List Node) → trees_from ts (xs ++ ys) ≡ trees_from (trees_from ts xs) ys
unfolding trees_from
trees_from-append ts [] ys = refl
trees_from-append ts (n ∷ xs) ys = trees_from-append (ts ++ tree_over ts n ∷ []) xs ys

length-trees_from : (ts : List Tree) (ns : List Node) → length (trees_from ts ns) ≡ length ts + length ns
unfolding trees_from
length-trees_from ts [] = omega arith
length-trees_from ts (n ∷ ns) =
    omega (arith, length-trees_from (ts ++ tree_over ts n ∷ []) ns, length_pushed ts (tree_over ts n))

tree_in-trees_from : (ts : List Tree) (ns : List Node) (k : ℕ) → k < length ts → tree_in (trees_from ts ns) k ≡ tree_in ts k
unfolding trees_from
tree_in-trees_from ts [] k h = refl
tree_in-trees_from ts (n ∷ ns) k h =
    tree_in-trees_from (ts ++ tree_over ts n ∷ []) ns k (omega (arith, h, length_pushed ts (tree_over ts n)))
    ∙ ap (λ o. unwrap_or o (node falsity none)) (get_append ts (tree_over ts n ∷ []) k h)

trees_in-map : (nodes : List Node) (ks : List ℕ) → trees_in (trees_from [] nodes) ks ≡ trees (map (tree_at nodes) ks)
unfolding tree_at
trees_in-map nodes [] = refl
trees_in-map nodes (k ∷ ks) = ap (more (tree_in (trees_from [] nodes) k)) (trees_in-map nodes ks)

-- nodes that are added later change no tree
pub tree_at_older : (nodes later : List Node) (k : ℕ) → k < length nodes → tree_at (nodes ++ later) k ≡ tree_at nodes k
unfolding tree_at
tree_at_older nodes later k h =
    ap (λ ts. tree_in ts k) (trees_from-append [] nodes later)
    ∙ tree_in-trees_from (trees_from [] nodes) later k (omega (arith, h, length-trees_from [] nodes))

-- the tree of the node that was added last
pub tree_at_new : (nodes : List Node) (n : Node) → tree_at (nodes ++ n ∷ []) (length nodes) ≡ node (op_of n) (trees (map (tree_at nodes) (arguments_of n)))
unfolding tree_at trees_from
tree_at_new nodes n =
    let before = trees_from [] nodes in
    let here : length nodes ≡ length before = omega (arith, length-trees_from [] nodes) in
    ap (λ ts. tree_in ts (length nodes)) (trees_from-append [] nodes (n ∷ []))
    ∙ ap (tree_in (before ++ tree_over before n ∷ [])) here
    ∙ ap (λ o. unwrap_or o (node falsity none)) (push_here before (tree_over before n))
    ∙ ap (node (op_of n)) (trees_in-map nodes (arguments_of n))

-- the tree of each node
pub tree_at_node : (nodes : List Node) → IsFormed nodes → (k : ℕ) (n : Node) → slice_get nodes k ≡ Some n → tree_at nodes k ≡ node (op_of n) (trees (map (tree_at nodes) (arguments_of n)))
tree_at_node nodes formed k n h =
    let front : List Node = take k nodes in
    let back : List Node = drop (suc k) nodes in
    let whole : nodes ≡ front ++ n ∷ back = split_at nodes k n h in
    let split : nodes ≡ (front ++ n ∷ []) ++ back = whole ∙ sym (append_assoc front (n ∷ []) back) in
    let here : length front ≡ k = length_front nodes k n h in
    ap (λ ns. tree_at ns k) split
    ∙ tree_at_older (front ++ n ∷ []) back k (omega (arith, here, length_pushed front n))
    ∙ ap (tree_at (front ++ n ∷ [])) (sym here)
    ∙ tree_at_new front n
    ∙ ap (λ ts. node (op_of n) (trees ts))
    (map_same (tree_at front) (tree_at nodes) (arguments_of n)
    (λ j a e. sym (ap (λ ns. tree_at ns a) whole ∙ tree_at_older front (n ∷ back) a (all_get (λ b. b < length front) (arguments_of n) j a (formed.fits k n h).earlier e))))

-- truth values' type, so many times
abbrev all_boolean : List ℕ → List Sort
all_boolean ks = map (λ k. boolean) ks

all_same : (ks : List ℕ) → list_all (same_sort boolean) (all_boolean ks) ≡ true
unfolding same_sort
all_same [] = refl
all_same (k ∷ ks) = all_same ks

-- there are some, and each is that of truth values
some_same : (k : ℕ) (ks : List ℕ) → only_if (are_some boolean (all_boolean (k ∷ ks))) boolean ≡ Some boolean
some_same k ks =
    ap (λ b. only_if (b && list_all (same_sort boolean) (all_boolean (k ∷ ks))) boolean) (lt-ltb 0 (length (all_boolean (k ∷ ks))) (omega arith))
    ∙ ap (λ b. only_if b boolean) (all_same (k ∷ ks))

-- each operator of a node gives a truth value at truth values
typed_node : (n : Node) → HasArity n → typed (op_of n) (all_boolean (arguments_of n)) ≡ Some boolean
unfolding same_sort
typed_node node_of.True h = refl
typed_node node_of.False h = refl
typed_node (node_of.Const number) h = refl
typed_node (node_of.Not a) h = refl
typed_node (node_of.And []) h = absurd (omega (arith, h))
typed_node (node_of.And (k ∷ ks)) h = some_same k ks
typed_node (node_of.Or []) h = absurd (omega (arith, h))
typed_node (node_of.Or (k ∷ ks)) h = some_same k ks
typed_node (node_of.Xor []) h = absurd (omega (arith, h))
typed_node (node_of.Xor (k ∷ ks)) h = some_same k ks
typed_node (node_of.Ite c a b) h = refl
typed_node (node_of.Eq a b) h = refl
typed_node (node_of.Distinct []) h = absurd (omega (arith, h))
typed_node (node_of.Distinct (k ∷ ks)) h = ap (λ b. only_if b boolean) (all_same ks)

module _ (nodes : List Node) (formed : IsFormed nodes) where
  sorts_at : (ks : List ℕ) → All (λ k. sort_of (tree_at nodes k) ≡ Some boolean) ks → sorts_of (trees (map (tree_at nodes) ks)) ≡ Some (all_boolean ks)
  unfolding sort_of
  sorts_at [] h = refl
  sorts_at (k ∷ ks) h =
      ap (λ o. both o (sorts_of (trees (map (tree_at nodes) ks)))) (h 0 0 (omega arith))
      ∙ ap (both (Some boolean)) (sorts_at ks (λ j d small. h (suc j) d (omega (arith, small))))

  sort_node : (n : Node) (ks : List ℕ) → All (λ k. sort_of (tree_at nodes k) ≡ Some boolean) ks → sort_of (node (op_of n) (trees (map (tree_at nodes) ks))) ≡ typed (op_of n) (all_boolean ks)
  unfolding sort_of
  sort_node n ks h = ap (typed_over (op_of n)) (sorts_at ks h)

  -- the tree of each node is Boolean
  sort_below : (bound k : ℕ) → k < bound → k < length nodes → sort_of (tree_at nodes k) ≡ Some boolean
  sort_below zero k h small = absurd (omega (arith, h))
  sort_below (suc bound) k h small =
      let n : Node = get_or nodes k node_of.True in
      let here : slice_get nodes k ≡ Some n = slice_get-get_or nodes k node_of.True small in
      let fits = formed.fits k n here in
      ap sort_of (tree_at_node nodes formed k n here)
      ∙ sort_node n (arguments_of n)
      (λ j d within. let below = fits.earlier j d within in sort_below bound (get_or (arguments_of n) j d) (omega (arith, below, h, length_front nodes k n here)) (omega (arith, below, small, length_front nodes k n here)))
      ∙ typed_node n fits.arity

  pub sort_at : (k : ℕ) → k < length nodes → sort_of (tree_at nodes k) ≡ Some boolean
  sort_at k small = sort_below (suc k) k (omega arith) small

  -- and so is the first argument's
  first_at : (ks : List ℕ) → All (λ k. k < length nodes) ks → first_sort (trees (map (tree_at nodes) ks)) ≡ boolean
  first_at [] h = refl
  first_at (k ∷ ks) h = ap or_boolean (sort_at k (h 0 0 (omega arith)))

  -- the arguments of a node are nodes
  pub arguments_there : (k : ℕ) (n : Node) → slice_get nodes k ≡ Some n → All (λ a. a < length nodes) (arguments_of n)
  arguments_there k n h j d small =
      let below = (formed.fits k n h).earlier j d small in
      omega (arith, below, length_front nodes k n h, slice_get_within nodes k n h)

  -- the meaning of each node's tree over those of its arguments
  pub meaning_at : (k : ℕ) (n : Node) → slice_get nodes k ≡ Some n → (s : Assignment)
      → meaning (tree_at nodes k) s ≡ apply (op_of n) boolean (meanings (trees (map (tree_at nodes) (arguments_of n))) s) s
  unfolding meaning
  meaning_at k n h s =
      let arguments = trees (map (tree_at nodes) (arguments_of n)) in
      ap (λ t. meaning t s) (tree_at_node nodes formed k n h)
      ∙ ap (λ of. apply (op_of n) of (meanings arguments s) s) (first_at (arguments_of n) (arguments_there k n h))

-- a formed list stays so
pub formed_push : (nodes : List Node) (n : Node) → IsFormed nodes → Fits nodes n → IsFormed (nodes ++ n ∷ [])
formed_push nodes n formed fits = record {
  fits = λ k m e. ⊎_elim
      (λ q. subst (Fits (take k (nodes ++ n ∷ []))) q.1 (subst (λ w. Fits w n) (sym (take_at nodes (n ∷ []) k (sym q.0))) fits))
      (λ h. subst (λ w. Fits w m) (sym (take-append-le k nodes (n ∷ []) (omega (arith, slice_get_within nodes k m h)))) (formed.fits k m h))
      (push_cases nodes n m k e);
}
