-- Marks for the items of a list, one after another.
use Rattle.std.proofs.Common.{◌≡◌, ◌∙◌, ◌+◌, ◌<◌, ℕ, zero, suc, List, ◌∷◌, Some, None, length, get_or, refl, sym, ap, subst, inl, inr, ◌⊎◌, ⊎_elim, arith}
use Rattle.std.specs.Prelude.{slice_get, IsSome}
use Rattle.std.proofs.lemmas.Option.{same_Some, slice_get_within, slice_get-get_or}
use Rattle.std.proofs.lemmas.Bool.{cases_eq}
use Rattle.term_shapes.specs.declared.handles.Term.{Term}
use Rattle.term_shapes.specs.declared.handles.TypeId.{TypeId}
use Rattle.term_shapes.specs.declared.shapes.Shape.{Shape}
use Rattle.term_shapes.specs.declared.shapes.Shape.TheVariants as shape
use Rattle.term_shapes.specs.declared.shapes.Node.{Node}
use Rattle.term_shapes.specs.declared.shapes.TypeShape.{TypeShape}
use Rattle.term_shapes.specs.Shapes.{args_of, types_of, parts_of}
use Rattle.term_table.specs.declared.table.Marked.TheVariants as handle
use Rattle.term_table.specs.World.{World, node_at, type_shape_at, HasNode, HasTypeShape}
use Rattle.term_table.specs.Changes.{term_marked, type_marked}
use Rattle.term_table.specs.Checking.{AreLive}
use Rattle.term_collect.specs.Reach.{Handle, IsTermAt, IsTypeAt, IsTermOf, IsTypeOf, Needs, AreLiveTypes}
use Rattle.term_collect.specs.Marking.{Marks, SameButMarks, IsTermBelow, IsTypeBelow}
use Rattle.term_collect.proofs.Handles.{marks_none, marks_both, marks_as, marks_term, marks_type, same_node, same_shape, same_lives, some_is}

pub term_marked_at : (old new : World) (xs : List Term) (i : ℕ) (t : Term) → IsSome (node_at old t) → slice_get xs i ≡ Some t → new ≡ term_marked old t → Marks old new (IsTermAt xs i)
term_marked_at old new xs i t live at e =
    subst (λ z. Marks old z (IsTermAt xs i)) (sym e) (marks_as old (term_marked old t) (λ h. h ≡ handle.Term t) (IsTermAt xs i) (marks_term old t live) (λ h is. (t, at, is)) (λ h (u, there, is). is ∙ ap handle.Term (same_Some u t (sym there ∙ at))))

pub type_marked_at : (old new : World) (xs : List TypeId) (i : ℕ) (t : TypeId) → IsSome (type_shape_at old t) → slice_get xs i ≡ Some t → new ≡ type_marked old t → Marks old new (IsTypeAt xs i)
type_marked_at old new xs i t live at e =
    subst (λ z. Marks old z (IsTypeAt xs i)) (sym e) (marks_as old (type_marked old t) (λ h. h ≡ handle.TypeId t) (IsTypeAt xs i) (marks_type old t live) (λ h is. (t, at, is)) (λ h (u, there, is). is ∙ ap handle.TypeId (same_Some u t (sym there ∙ at))))

pub no_term_at : (w : World) (xs : List Term) (i : ℕ) → slice_get xs i ≡ None → Marks w w (IsTermAt xs i)
no_term_at w xs i past = marks_none w (IsTermAt xs i) (λ h (t, at, is). cc (sym past ∙ at))

pub no_type_at : (w : World) (xs : List TypeId) (i : ℕ) → slice_get xs i ≡ None → Marks w w (IsTypeAt xs i)
no_type_at w xs i past = marks_none w (IsTypeAt xs i) (λ h (t, at, is). cc (sym past ∙ at))

pub no_terms : (w : World) (xs : List Term) → Marks w w (IsTermBelow xs 0)
no_terms w xs = marks_none w (IsTermBelow xs 0) (λ h p. omega (arith, p.1))

pub no_types : (w : World) (xs : List TypeId) → Marks w w (IsTypeBelow xs 0)
no_types w xs = marks_none w (IsTypeBelow xs 0) (λ h p. omega (arith, p.1))

pub next_term : (a b c : World) (xs : List Term) (n : ℕ) → Marks a b (IsTermBelow xs n) → Marks b c (IsTermAt xs n) → Marks a c (IsTermBelow xs (n + 1))
next_term a b c xs n g k = marks_as a c (λ h. IsTermBelow xs n h ⊎ IsTermAt xs n h) (IsTermBelow xs (n + 1)) (marks_both a b c (IsTermBelow xs n) (IsTermAt xs n) g k) to from
  where
    to : (h : Handle) → IsTermBelow xs n h ⊎ IsTermAt xs n h → IsTermBelow xs (n + 1) h
    to h (inl p) = (p.0, omega (arith, p.1), p.2)
    to h (inr p) = (n, omega arith, p)

    from : (h : Handle) → IsTermBelow xs (n + 1) h → IsTermBelow xs n h ⊎ IsTermAt xs n h
    from h p =
        ⊎_elim (λ e. inr (subst (λ i. IsTermAt xs i h) e p.2)) (λ d. inl (p.0, apart p.0 p.1 d, p.2)) (cases_eq p.0 n)
      where
        apart : (i : ℕ) → i < n + 1 → (i ≡ n → ⊥) → i < n
        apart i l d = omega arith

pub next_type : (a b c : World) (xs : List TypeId) (n : ℕ) → Marks a b (IsTypeBelow xs n) → Marks b c (IsTypeAt xs n) → Marks a c (IsTypeBelow xs (n + 1))
next_type a b c xs n g k = marks_as a c (λ h. IsTypeBelow xs n h ⊎ IsTypeAt xs n h) (IsTypeBelow xs (n + 1)) (marks_both a b c (IsTypeBelow xs n) (IsTypeAt xs n) g k) to from
  where
    to : (h : Handle) → IsTypeBelow xs n h ⊎ IsTypeAt xs n h → IsTypeBelow xs (n + 1) h
    to h (inl p) = (p.0, omega (arith, p.1), p.2)
    to h (inr p) = (n, omega arith, p)

    from : (h : Handle) → IsTypeBelow xs (n + 1) h → IsTypeBelow xs n h ⊎ IsTypeAt xs n h
    from h p =
        ⊎_elim (λ e. inr (subst (λ i. IsTypeAt xs i h) e p.2)) (λ d. inl (p.0, apart p.0 p.1 d, p.2)) (cases_eq p.0 n)
      where
        apart : (i : ℕ) → i < n + 1 → (i ≡ n → ⊥) → i < n
        apart i l d = omega arith

pub all_terms : (a b : World) (xs : List Term) (n : ℕ) → n ≡ length xs → Marks a b (IsTermBelow xs n) → Marks a b (IsTermOf xs)
all_terms a b xs n e g =
    marks_as a b (IsTermBelow xs n) (IsTermOf xs) g (λ h p. (p.0, p.2)) (λ h p. (p.0, omega (arith, e, slice_get_within xs p.0 p.1.0 p.1.1), p.1))

pub all_types : (a b : World) (xs : List TypeId) (n : ℕ) → n ≡ length xs → Marks a b (IsTypeBelow xs n) → Marks a b (IsTypeOf xs)
all_types a b xs n e g =
    marks_as a b (IsTypeBelow xs n) (IsTypeOf xs) g (λ h p. (p.0, p.2)) (λ h p. (p.0, omega (arith, e, slice_get_within xs p.0 p.1.0 p.1.1), p.1))

-- a shape names at most one type
one_name : (s : Shape) (i : ℕ) → slice_get (types_of s) (suc i) ≡ None
one_name shape.True i = refl
one_name shape.False i = refl
one_name (shape.Const n of) i = refl
one_name (shape.Var n of) i = refl
one_name (shape.Number q) i = refl
one_name (shape.Bits n a) i = refl
one_name (shape.Not t) i = refl
one_name (shape.And ts) i = refl
one_name (shape.Or ts) i = refl
one_name (shape.Xor ts) i = refl
one_name (shape.Ite c t u) i = refl
one_name (shape.Eq t u) i = refl
one_name (shape.Distinct ts) i = refl
one_name (shape.App f ts) i = refl
one_name (shape.Update f ts v) i = refl
one_name (shape.Sum ms q) i = refl
one_name (shape.NonNeg t) i = refl
one_name (shape.Bv op ts) i = refl
one_name (shape.BvAt op i1 j t) i = refl

-- the type of a term and the type that it names
both_types : (a b c : World) (n : Node) → Marks a b (IsTypeAt (n.of ∷ types_of n.shape) 0) → Marks b c (IsTypeAt (n.of ∷ types_of n.shape) 1) → Marks a c (IsTypeOf (n.of ∷ types_of n.shape))
both_types a b c n g k = marks_as a c (λ h. IsTypeAt (n.of ∷ types_of n.shape) 0 h ⊎ IsTypeAt (n.of ∷ types_of n.shape) 1 h) (IsTypeOf (n.of ∷ types_of n.shape)) (marks_both a b c (IsTypeAt (n.of ∷ types_of n.shape) 0) (IsTypeAt (n.of ∷ types_of n.shape) 1) g k) (λ h. ⊎_elim (λ p. (0, p)) (λ p. (1, p))) from
  where
    at_place : (h : Handle) (i : ℕ) → IsTypeAt (n.of ∷ types_of n.shape) i h → IsTypeAt (n.of ∷ types_of n.shape) 0 h ⊎ IsTypeAt (n.of ∷ types_of n.shape) 1 h
    at_place h zero p = inl p
    at_place h (suc zero) p = inr p
    at_place h (suc (suc i)) (t, at, is) = absurd (cc (sym (one_name n.shape i) ∙ at))

    from : (h : Handle) → IsTypeOf (n.of ∷ types_of n.shape) h → IsTypeAt (n.of ∷ types_of n.shape) 0 h ⊎ IsTypeAt (n.of ∷ types_of n.shape) 1 h
    from h p = at_place h p.0 p.1

pub under_term : (a b c d : World) (t : Term) → IsSome (node_at a t)
    → ((n : Node) → HasNode a t n → Marks a b (IsTermOf (args_of n.shape)))
    → ((n : Node) → HasNode b t n → Marks b c (IsTypeAt (n.of ∷ types_of n.shape) 0))
    → ((n : Node) → HasNode c t n → Marks c d (IsTypeAt (n.of ∷ types_of n.shape) 1))
    → Marks a d (Needs a (handle.Term t))
under_term a b c d t live args own named =
    let n = some_is (node_at a t) live in
    let first = args n.0 n.1 in
    let has : HasNode b t n.0 = same_node a b first.same t ∙ n.1 in
    let second = own n.0 has in
    let types = both_types b c d n.0 second (named n.0 (same_node b c second.same t ∙ has)) in
    marks_as a d (λ h. IsTermOf (args_of n.0.shape) h ⊎ IsTypeOf (n.0.of ∷ types_of n.0.shape) h) (Needs a (handle.Term t)) (marks_both a b d (IsTermOf (args_of n.0.shape)) (IsTypeOf (n.0.of ∷ types_of n.0.shape)) first types) (λ h p. (n.0, n.1, p))
    (λ h (m, is, p). subst (λ (z : Node). IsTermOf (args_of z.shape) h ⊎ IsTypeOf (z.of ∷ types_of z.shape) h) (same_Some m n.0 (sym is ∙ n.1)) p)

pub under_type : (a b : World) (t : TypeId) → IsSome (type_shape_at a t)
    → ((s : TypeShape) → HasTypeShape a t s → Marks a b (IsTypeOf (parts_of s)))
    → Marks a b (Needs a (handle.TypeId t))
under_type a b t live parts =
    let s = some_is (type_shape_at a t) live in
    marks_as a b (IsTypeOf (parts_of s.0)) (Needs a (handle.TypeId t)) (parts s.0 s.1) (λ h p. (s.0, s.1, p)) (λ h (m, is, p). subst (λ z. IsTypeOf (parts_of z) h) (same_Some m s.0 (sym is ∙ s.1)) p)

-- the next argument of a term whose table changes in marks alone
pub next_argument : (a b c : World) (t : Term) (i : ℕ)
    → ((n : Node) → HasNode a t n → Marks a b (IsTermBelow (args_of n.shape) i))
    → ((n : Node) → HasNode b t n → Marks b c (IsTermAt (args_of n.shape) i))
    → (n : Node) → HasNode a t n → Marks a c (IsTermBelow (args_of n.shape) (i + 1))
next_argument a b c t i before at n has =
    let g = before n has in next_term a b c (args_of n.shape) i g (at n (same_node a b g.same t ∙ has))

pub next_part : (a b c : World) (t : TypeId) (i : ℕ)
    → ((s : TypeShape) → HasTypeShape a t s → Marks a b (IsTypeBelow (parts_of s) i))
    → ((s : TypeShape) → HasTypeShape b t s → Marks b c (IsTypeAt (parts_of s) i))
    → (s : TypeShape) → HasTypeShape a t s → Marks a c (IsTypeBelow (parts_of s) (i + 1))
next_part a b c t i before at s has =
    let g = before s has in next_type a b c (parts_of s) i g (at s (same_shape a b g.same t ∙ has))

-- the next root of a list of live ones
pub root_live : (a b : World) (xs : List Term) (i : ℕ) (d : Term) → AreLive a xs → SameButMarks a b → i < length xs → IsSome (node_at b (get_or xs i d))
root_live a b xs i d lives same within =
    same_lives a b same (handle.Term (get_or xs i d)) (lives i (get_or xs i d) (slice_get-get_or xs i d within))

pub next_root : (a b c : World) (xs : List Term) (i : ℕ) (d : Term) → AreLive a xs → i < length xs → Marks a b (IsTermBelow xs i) → c ≡ term_marked b (get_or xs i d) → Marks a c (IsTermBelow xs (i + 1))
next_root a b c xs i d lives within before e =
    next_term a b c xs i before (term_marked_at b c xs i (get_or xs i d) (root_live a b xs i d lives before.same within) (slice_get-get_or xs i d within) e)

pub root_type_live : (a b : World) (xs : List TypeId) (i : ℕ) (d : TypeId) → AreLiveTypes a xs → SameButMarks a b → i < length xs → IsSome (type_shape_at b (get_or xs i d))
root_type_live a b xs i d lives same within =
    same_lives a b same (handle.TypeId (get_or xs i d)) (lives i (get_or xs i d) (slice_get-get_or xs i d within))

pub next_root_type : (a b c : World) (xs : List TypeId) (i : ℕ) (d : TypeId) → AreLiveTypes a xs → i < length xs → Marks a b (IsTypeBelow xs i) → c ≡ type_marked b (get_or xs i d) → Marks a c (IsTypeBelow xs (i + 1))
next_root_type a b c xs i d lives within before e =
    next_type a b c xs i before (type_marked_at b c xs i (get_or xs i d) (root_type_live a b xs i d lives before.same within) (slice_get-get_or xs i d within) e)
