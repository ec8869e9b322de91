-- Writing a term ends. Trees get smaller from a term to its arguments, so no term comes twice on a path of arguments, and
-- a path has at most as many terms as there are slots. So the turns that a term takes are the same whether they are
-- counted to that depth or one further, and each turn leaves one less.
use Rattle.std.proofs.Common.{◌≡◌, ◌∙◌, ℕ, zero, suc, ◌+◌, ◌<◌, ◌≤◌, Bool, true, false, List, [], ◌∷◌, ◌++◌, length, drop, get_or, Option, Some, None, refl, sym, ap, subst, arith, eqb}
use Rattle.std.specs.Prelude.{slice_get, IsSome, IfSome, ◌==◌, ◌||◌, cond}
use Rattle.std.specs.Option.{option_map}
use Rattle.std.specs.List.{IsDistinct, AllByRecursion, list_any}
use Rattle.std.proofs.lemmas.Bool.{eqb-true, ne_eqb}
use Rattle.std.proofs.lemmas.Option.{slice_get_within, slice_get-get_or}
use Rattle.std.proofs.lemmas.List.{at_drop_more}
use Rattle.std.proofs.lemmas.Map.Steps.{length-le_from_distinct_below}
use Rattle.y_tree.specs.Tree.{Tree, Trees, node}
use Rattle.y_tree.specs.Tree as tree
use Rattle.stamped_slots.specs.Slots.{Slot, held_under}
use Rattle.term_shapes.specs.declared.handles.Term.{Term}
use Rattle.term_shapes.specs.declared.shapes.Node.{Node}
use Rattle.term_shapes.specs.Shapes.{args_of}
use Rattle.term_table.specs.World.{World, IsTable, node_at, Keeps, KeepsAll}
use Rattle.term_texts.specs.declared.terms.Frame.{Frame}
use Rattle.term_texts.specs.Gaps.{args_under, args_at, turns_of_all, turns, frame_turns, stack_turns, begun}
use Rattle.term_texts.proofs.Trees.{some_one, shape_one, live_keeps}

-- the nodes of a tree
unfoldable mutual
  pub size : Tree → ℕ
  size (node op parts) = suc (sizes parts)

  pub sizes : Trees → ℕ
  sizes tree.none = 0
  sizes (tree.more a parts) = size a + sizes parts

-- the trees of a term have one size
mutual
  unfolding Keeps size

  size_one : (w : World) (t : Term) (a b : Tree) → Keeps w t a → Keeps w t b → size a ≡ size b
  size_one w t (node op parts) (node po bs) (s, k, h, sorts, o, ks) (r, l, g, sorts', p, ls) =
      ap suc (sizes_one w (args_of s) parts bs ks (subst (λ z. KeepsAll w (args_of z) bs) (shape_one w t r s g h) ls))

  sizes_one : (w : World) (ts : List Term) (parts bs : Trees) → KeepsAll w ts parts → KeepsAll w ts bs → sizes parts ≡ sizes bs
  sizes_one w [] tree.none tree.none h k = refl
  sizes_one w (t ∷ ts) (tree.more a parts) (tree.more b bs) h k = ap (λ n. n + sizes parts) (size_one w t a b h.0 k.0) ∙ ap (λ n. size b + n) (sizes_one w ts parts bs h.1 k.1)
  sizes_one w [] tree.none (tree.more b bs) h k = absurd k
  sizes_one w [] (tree.more a parts) bs h k = absurd h
  sizes_one w (t ∷ ts) tree.none bs h k = absurd h
  sizes_one w (t ∷ ts) (tree.more a parts) tree.none h k = absurd k

-- the term stands for a tree of less than n nodes
abbrev IsSmaller : World → ℕ → Term → Type 0
IsSmaller w n t = (a : Tree) × Keeps w t a × (size a < n)

all_smaller : (w : World) (n : ℕ) (ts : List Term) (parts : Trees) → KeepsAll w ts parts → sizes parts < n → AllByRecursion (IsSmaller w n) ts
unfolding Keeps size
all_smaller w n [] tree.none h l = tt
all_smaller w n (t ∷ ts) (tree.more a parts) h l = ((a, h.0, omega (arith, l)), all_smaller w n ts parts h.1 (omega (arith, l)))
all_smaller w n [] (tree.more a parts) h l = absurd h
all_smaller w n (t ∷ ts) tree.none h l = absurd h

-- the arguments of a term stand for smaller trees
args_smaller : (w : World) (t : Term) (a : Tree) → Keeps w t a → AllByRecursion (IsSmaller w (size a)) (args_at w t)
unfolding Keeps size
args_smaller w t (node op parts) (s, k, h, sorts, o, ks) =
    subst (λ z. AllByRecursion (IsSmaller w (suc (sizes parts))) (args_under z)) (sym h) (all_smaller w (suc (sizes parts)) (args_of s) parts ks (omega arith))

-- the slot is that of a term with a tree of more than n nodes
abbrev IsLarger : World → ℕ → ℕ → Type 0
IsLarger w n q = (u : Term) × (b : Tree) × (u.slot ≡ q) × Keeps w u b × (n < size b)

-- the slot of a live term, and its stamp
slot_of : (w : World) (t : Term) (a : Tree) → Keeps w t a → (s : Slot Node) × (slice_get w.terms t.slot ≡ Some s) × (s.stamp ≡ t.stamp)
unfolding Keeps
slot_of w t (node op parts) (r, k, h, sorts, o, ks) = by (slice_get w.terms t.slot) refl h
  where
    held : (s : Slot Node) (b : Bool) → option_map (λ (n : Node). n.shape) (cond b s.held None) ≡ Some r → b ≡ true
    held s true i = refl
    held s false i = absurd (cc i)

    by : (z : Option (Slot Node)) → slice_get w.terms t.slot ≡ z → option_map (λ (n : Node). n.shape) (held_under t.stamp z) ≡ Some r → (s : Slot Node) × (slice_get w.terms t.slot ≡ Some s) × (s.stamp ≡ t.stamp)
    by None e g = absurd (cc g)
    by (Some s) e g = (s, e, eqb-true s.stamp t.stamp (held s (s.stamp == t.stamp) g))

term_one : (t u : Term) → t.slot ≡ u.slot → t.stamp ≡ u.stamp → t ≡ u
term_one t u e f = ap (λ (i : ℕ). let z : Term = record { slot = i; stamp = t.stamp } in z) e ∙ ap (λ (n : ℕ). let z : Term = record { slot = u.slot; stamp = n } in z) f

keeps_live : (w : World) (t : Term) (a : Tree) → Keeps w t a → IsSome (node_at w t)
unfolding Keeps
keeps_live w t (node op parts) (r, k, h, sorts, o, ks) = by (node_at w t) h
  where
    by : (z : Option Node) → option_map (λ (n : Node). n.shape) z ≡ Some r → IsSome z
    by None g = absurd (cc g)
    by (Some n) g = refl

-- no term with a larger tree has the slot
apart : (w : World) (t : Term) (a : Tree) (q : ℕ) → Keeps w t a → IsLarger w (size a) q → eqb t.slot q ≡ false
apart w t a q h (u, b, at, k, l) = ne_eqb t.slot q (λ e.
    let (s, there, stamp) = slot_of w t a h in
    let (r, here, other) = slot_of w u b k in
    let same : r ≡ s = some_one r s (sym here ∙ ap (slice_get w.terms) (at ∙ sym e) ∙ there) in
    let one : u ≡ t = term_one u t (at ∙ sym e) (sym other ∙ ap (λ (z : Slot Node). z.stamp) same ∙ stamp) in
    omega (arith, l, size_one w t b a (subst (λ z. Keeps w z b) one k) h))

slot_below : (w : World) (t : Term) (a : Tree) → Keeps w t a → t.slot < length w.terms
slot_below w t a h = let (s, there, stamp) = slot_of w t a h in slice_get_within w.terms t.slot s there

below : (w : World) (n q : ℕ) → IsLarger w n q → q < length w.terms
below w n q (u, b, at, k, l) = subst (λ z. z < length w.terms) at (slot_below w u b k)

all_map : {X : Type 0} {P Q : X → Type 0} → ((x : X) → P x → Q x) → (xs : List X) → AllByRecursion P xs → AllByRecursion Q xs
all_map f [] h = tt
all_map f (x ∷ xs) h = (f x h.0, all_map f xs h.1)

-- one of a list has it, where all have it
chosen : (P : ℕ → Type 0) (q x : ℕ) (b rest : Bool) → eqb q x ≡ b → P x → (rest ≡ true → P q) → (b || rest) ≡ true → P q
chosen P q x true rest e h k f = subst P (sym (eqb-true q x e)) h
chosen P q x false rest e h k f = k f

any_of : (P : ℕ → Type 0) (xs : List ℕ) (q : ℕ) → AllByRecursion P xs → list_any (eqb q) xs ≡ true → P q
any_of P [] q h e = absurd (cc e)
any_of P (x ∷ xs) q h e = chosen P q x (eqb q x) (list_any (eqb q) xs) refl h.0 (any_of P xs q h.1) e

-- a path of different slots has at most parts many terms parts there are slots
path_short : (w : World) (path : List ℕ) (t : Term) (a : Tree) → Keeps w t a → IsDistinct eqb path → AllByRecursion (IsLarger w (size a)) path → suc (length path) ≤ length w.terms
unfolding IsDistinct
path_short w path t a h d larger =
    length-le_from_distinct_below (t.slot ∷ path) (length w.terms) (all_map (λ q. apart w t a q h) path larger, d)
    (λ q. any_of (λ z. z < length w.terms) (t.slot ∷ path) q (slot_below w t a h, all_map (below w (size a)) path larger))

-- so is one more term on it
path_more : (w : World) (path : List ℕ) (t : Term) (a : Tree) (n : ℕ) → Keeps w t a → n < size a → AllByRecursion (IsLarger w (size a)) path → AllByRecursion (IsLarger w n) (t.slot ∷ path)
path_more w path t a n h less larger = ((t, a, refl, h, less), all_map (λ q z. let (v, c, at, g, m) = z in (v, c, at, g, omega (arith, m, less))) path larger)

path_apart : (w : World) (path : List ℕ) (t : Term) (a : Tree) → Keeps w t a → IsDistinct eqb path → AllByRecursion (IsLarger w (size a)) path → IsDistinct eqb (t.slot ∷ path)
unfolding IsDistinct
path_apart w path t a h d larger = (all_map (λ q. apart w t a q h) path larger, d)

-- the arguments below a term go at most n deep
unfoldable Ends : World → ℕ → Term → Type 0
Ends w zero t = ⊥
Ends w (suc n) t = AllByRecursion (Ends w n) (args_at w t)

ends : (w : World) (n : ℕ) (path : List ℕ) (t : Term) (a : Tree) → Keeps w t a → IsDistinct eqb path → AllByRecursion (IsLarger w (size a)) path → length w.terms ≤ length path + n → Ends w n t
unfolding Ends
ends w zero path t a h d larger l = absurd (omega (arith, l, path_short w path t a h d larger))
ends w (suc n) path t a h d larger l =
    all_map (λ u p. let (b, k, less) = p in ends w n (t.slot ∷ path) u b k (path_apart w path t a h d larger) (path_more w path t a (size b) h less larger) (omega (arith, l)))
    (args_at w t) (args_smaller w t a h)

-- a live term goes at most parts deep parts there are slots
live_ends : (w : World) (t : Term) → IsTable w → IsSome (node_at w t) → Ends w (length w.terms) t
unfolding IsDistinct
live_ends w t table live = let (a, h) = live_keeps w t table live in ends w (length w.terms) [] t a h tt tt (omega arith)

same_sum : (f g : Term → ℕ) (P : Term → Type 0) → ((u : Term) → P u → f u ≡ g u) → (ts : List Term) → AllByRecursion P ts → turns_of_all f ts ≡ turns_of_all g ts
same_sum f g P h [] all = refl
same_sum f g P h (t ∷ ts) all = ap (λ n. suc n + turns_of_all f ts) (h t all.0) ∙ ap (λ n. suc (g t) + n) (same_sum f g P h ts all.1)

-- counting further changes nothing
settled : (w : World) (n : ℕ) (t : Term) → Ends w n t → turns w (suc n) t ≡ turns w n t
unfolding Ends turns
settled w zero t h = absurd h
settled w (suc n) t h = ap suc (same_sum (turns w (suc n)) (turns w n) (Ends w n) (settled w n) (args_at w t) h)

-- ---- a turn
turns_apart : (w : World) (fs gs : List Frame) → stack_turns w (fs ++ gs) ≡ stack_turns w fs + stack_turns w gs
turns_apart w [] gs = omega arith
turns_apart w (f ∷ fs) gs = ap (λ n. frame_turns w f + n) (turns_apart w fs gs) ∙ omega arith

-- the frame that begins a term
abbrev first : Term → Frame
first t = record { of = t; place = 0 }

first_turns : (w : World) (t : Term) → IsTable w → IsSome (node_at w t) → frame_turns w (first t) ≡ turns w (length w.terms) t
unfolding turns
first_turns w t table live = settled w (length w.terms) t (live_ends w t table live)

-- an item read in another way
pub read_at : {X : Type 0} (xs : List X) (i : ℕ) (x : X) → slice_get xs i ≡ Some x → get_or xs i x ≡ x
read_at xs i x e = some_one (get_or xs i x) x (sym (slice_get-get_or xs i x (slice_get_within xs i x e)) ∙ e)

-- one of the smaller is live
smaller_live : (w : World) (n : ℕ) (ts : List Term) (i : ℕ) → AllByRecursion (IsSmaller w n) ts → IfSome (slice_get ts i) (λ u. IsSome (node_at w u))
smaller_live w n [] i h = tt
smaller_live w n (t ∷ ts) zero h = let (a, k, l) = h.0 in keeps_live w t a k
smaller_live w n (t ∷ ts) (suc i) h = smaller_live w n ts i h.1

-- an argument of a live term is live
argument_live : (w : World) (t : Term) (i : ℕ) → IsTable w → IfSome (slice_get (args_at w t) i) (λ u. IsSome (node_at w u))
argument_live w t i table = by (node_at w t) refl
  where
    by : (o : Option Node) → node_at w t ≡ o → IfSome (slice_get (args_at w t) i) (λ u. IsSome (node_at w u))
    by None e = subst (λ (z : Option Node). IfSome (slice_get (args_under (option_map (λ (n : Node). n.shape) z)) i) (λ u. IsSome (node_at w u))) (sym e) tt
    by (Some n) e = let (a, k, keeps, sort, typed) = table.grounded t n e in smaller_live w (size a) (args_at w t) i (args_smaller w t a keeps)

-- what is begun takes fewer turns than the frame that it comes from
fewer : (w : World) (t : Term) (i : ℕ) (o : Option Term) → IsTable w → slice_get (args_at w t) i ≡ o → IfSome o (λ u. IsSome (node_at w u)) → stack_turns w (begun t i o) < frame_turns w (record { of = t; place = i })
fewer w t i None table e live = omega arith
fewer w t i (Some u) table e live =
    let more : turns_of_all (turns w (length w.terms)) (drop i (args_at w t)) ≡ turns_of_all (turns w (length w.terms)) (u ∷ drop (i + 1) (args_at w t)) =
    at_drop_more (turns_of_all (turns w (length w.terms))) (args_at w t) i u (slice_get_within (args_at w t) i u e) ∙ ap (λ x. turns_of_all (turns w (length w.terms)) (x ∷ drop (i + 1) (args_at w t))) (read_at (args_at w t) i u e) in
    omega (arith, more, first_turns w u table live)

-- each turn leaves fewer
pub turn_falls : (w : World) (fs : List Frame) (f : Frame) → IsTable w → stack_turns w (fs ++ begun f.of f.place (slice_get (args_at w f.of) f.place)) < stack_turns w (fs ++ f ∷ [])
turn_falls w fs f table =
    let less = fewer w f.of f.place (slice_get (args_at w f.of) f.place) table refl (argument_live w f.of f.place table) in
    let before = turns_apart w fs (f ∷ []) in
    let after = turns_apart w fs (begun f.of f.place (slice_get (args_at w f.of) f.place)) in
    omega (arith, less, before, after)
