-- Each live term has a text, and one only: by induction on the tree that it stands for, and on how its text is made.
use Rattle.std.proofs.Common.{◌≡◌, ◌∙◌, ℕ, suc, ◌≤◌, List, [], ◌∷◌, length, Option, Some, None, refl, sym, ap, subst, arith}
use Rattle.std.specs.Prelude.{IsSome, unwrap_or}
use Rattle.y_tree.specs.Tree.{Tree, Trees, node}
use Rattle.y_tree.specs.Tree as tree
use Rattle.term_shapes.specs.declared.handles.Term.{Term}
use Rattle.term_shapes.specs.declared.shapes.Shape.{Shape}
use Rattle.term_shapes.specs.declared.shapes.Node.{Node}
use Rattle.term_shapes.specs.Shapes.{args_of}
use Rattle.term_table.specs.World.{World, IsTable, node_at, HasShape, Keeps, KeepsAll}
use Rattle.term_texts.specs.TermTexts.{Writes, AllWrite, written, none, more, shape_text, IsLong, text_limit}

pub some_one : {X : Type 0} (x y : X) → Some x ≡ Some y → x ≡ y
some_one x y e = ap (λ o. unwrap_or o x) e

-- a live term has one shape
pub shape_one : (w : World) (t : Term) (r s : Shape) → HasShape w t r → HasShape w t s → r ≡ s
shape_one w t r s h k = some_one r s (sym h ∙ k)

mutual
  unfolding Keeps

  pub has_text : (w : World) (t : Term) (a : Tree) → Keeps w t a → (x : List ℕ) × Writes w t x
  has_text w t (node op below) (s, k, h, sorts, o, ks) =
      let (xs, all) = have_texts w (args_of s) below ks in
      (shape_text w t s xs, written t s xs (shape_text w t s xs) h all refl)

  pub have_texts : (w : World) (ts : List Term) (below : Trees) → KeepsAll w ts below → (xs : List (List ℕ)) × AllWrite w ts xs
  have_texts w [] tree.none h = ([], none)
  have_texts w (t ∷ ts) (tree.more a below) h =
      let (x, hx) = has_text w t a h.0 in
      let (xs, hxs) = have_texts w ts below h.1 in
      (x ∷ xs, more t ts x xs hx hxs)
  have_texts w [] (tree.more a below) h = absurd h
  have_texts w (t ∷ ts) tree.none h = absurd h

-- a live term stands for a tree
pub live_keeps : (w : World) (t : Term) → IsTable w → IsSome (node_at w t) → (a : Tree) × Keeps w t a
live_keeps w t table live = by (node_at w t) refl live
  where
    by : (o : Option Node) → node_at w t ≡ o → IsSome o → (a : Tree) × Keeps w t a
    by None e h = absurd (cc h)
    by (Some n) e h = let (a, k, keeps, sort, typed) = table.grounded t n e in (a, keeps)

pub live_text : (w : World) (t : Term) → IsTable w → IsSome (node_at w t) → (x : List ℕ) × Writes w t x
live_text w t table live = let (a, keeps) = live_keeps w t table live in has_text w t a keeps

-- how a text is made
pub writes_by : {w : World} {t : Term} {x : List ℕ} → Writes w t x → (s : Shape) × (xs : List (List ℕ)) × HasShape w t s × AllWrite w (args_of s) xs × (x ≡ shape_text w t s xs)
writes_by (written t s xs x h all e) = (s, xs, h, all, e)

pub write_none : {w : World} {xs : List (List ℕ)} → AllWrite w [] xs → xs ≡ []
write_none none = refl

pub write_more : {w : World} {t : Term} {ts : List Term} {xs : List (List ℕ)} → AllWrite w (t ∷ ts) xs → (x : List ℕ) × (ys : List (List ℕ)) × Writes w t x × AllWrite w ts ys × (xs ≡ x ∷ ys)
write_more (more t ts x ys h k) = (x, ys, h, k, refl)

pub write_length : {w : World} {ts : List Term} {xs : List (List ℕ)} → AllWrite w ts xs → length xs ≡ length ts
write_length none = refl
write_length (more t ts x xs h k) = ap suc (write_length k)

mutual
  pub one_text : {w : World} {t : Term} {x y : List ℕ} → Writes w t x → Writes w t y → x ≡ y
  one_text {w = w} {y = y} (written t s xs x h all e) k =
      let (r, ys, g, others, f) = writes_by k in
      let same = shape_one w t r s g h in
      e ∙ ap (shape_text w t s) (one_texts all (subst (λ z. AllWrite w (args_of z) ys) same others)) ∙ sym (f ∙ ap (λ z. shape_text w t z ys) same)

  pub one_texts : {w : World} {ts : List Term} {xs ys : List (List ℕ)} → AllWrite w ts xs → AllWrite w ts ys → xs ≡ ys
  one_texts none k = sym (write_none k)
  one_texts (more t ts x xs h hs) k =
      let (y, ys, g, gs, f) = write_more k in
      ap (λ z. z ∷ xs) (one_text h g) ∙ ap (λ zs. y ∷ zs) (one_texts hs gs) ∙ sym f

pub same_text : (w : World) (t : Term) (x y : List ℕ) → Writes w t x → Writes w t y → x ≡ y
same_text w t x y h k = one_text h k

-- a text within the limit is no longer one
pub not_long : (w : World) (t : Term) (x : List ℕ) → Writes w t x → length x ≤ text_limit → IsLong w t → ⊥
not_long w t x h l (y, k, m) = let same : length x ≡ length y = ap length (one_text h k) in omega (arith, l, m, same)
