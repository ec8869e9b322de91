-- What a sketch of a call's literals is made of stands for trees and has types, so the term can be made; it has the call's type.
use Rattle.std.proofs.Common.{inl, inr, Bool, true, false, List, [], ◌∷◌, map, Some, sym, ap, subst}
use Rattle.y_tree.specs.Sorts.{Sort, boolean}
use Rattle.y_tree.specs.Tree.{Tree, Trees, node, none, more, truth}
use Rattle.y_tree.specs.Typing.{sort_of}
use Rattle.y_tree.specs.Meaning.{or_boolean}
use Rattle.y_tree.specs.Laws.{SameSortIsEqual}
use Rattle.term_shapes.specs.declared.handles.Term.{Term}
use Rattle.term_shapes.specs.declared.shapes.Shape.{Shape}
use Rattle.term_shapes.specs.declared.shapes.Shape.TheVariants as shape
use Rattle.term_shapes.specs.Shapes.{args_of}
use Rattle.term_table.specs.World.{World, HasShape, Keeps, KeepsAll, IsTable}
use Rattle.term_table.specs.Checking.{HasSort}
use Rattle.term_sketches.specs.declared.items.Literal.{Literal}
use Rattle.term_sketches.specs.declared.items.Sketch.{Sketch}
use Rattle.term_sketches.specs.declared.items.Sketch.TheVariants as sketch
use Rattle.term_sketches.specs.Sketches.{the_truth, plain}
use Rattle.term_sketches.specs.Valuing.{IsAtomOf, AreAtomsOf, AreOf, AreTruths, HasType, HasSketchType, parts_of}
use Rattle.term_build.specs.Building.{literal_of, literal_at, IsFlagged, IsLiteralOf, IsMade, IsReady, AllAreOf, AllHaveSort}
use Rattle.term_build.proofs.Growing.{IsWider, same_wider, sort_stays, tree_stays, not_is_shape}
use Rattle.term_build.proofs.Kept.{tree_sort, shape_sort}
use Rattle.term_build.proofs.Fits.{IsTruthShape, and_shape, or_shape, xor_shape, eq_shape, distinct_truth, ite_typed, not_type, literal_sort, literal_sorts, literals_filled, ready_of}
use Rattle.term_build.proofs.Standing.{AtomsKeep}
use Rattle.term_build.proofs.Called.{tree_at, tree_is, truth_kept, tree_typed}

-- each literal's atom has its type
abbrev pub AtomsHave : World → (Term → Sort) → List Literal → Type 0
AtomsHave w k [] = Unit {0}
AtomsHave w k (l ∷ ls) = HasSort w l.atom (k l.atom) × AtomsHave w k ls

module _ (w : World) (table : IsTable w) where
  -- the term stands for the tree that it has
  abbrev pub IsGrounded : Term → Type 0
  IsGrounded t = Keeps w t (tree_at w table t)

  kept_grounded : (t : Term) (b : Tree) → Keeps w t b → IsGrounded t
  kept_grounded t b h = subst (Keeps w t) (sym (tree_is w table t b h)) h

  not_grounded : (u : Term) (bs : Trees) → KeepsAll w (u ∷ []) bs → IsGrounded u
  unfolding Keeps
  not_grounded u none h = absurd h
  not_grounded u (more c cs) h = kept_grounded u c h.0

  truth_grounded : IsGrounded the_truth
  truth_grounded = kept_grounded the_truth (node truth none) (truth_kept w table)

  by_shape : (t : Term) (r : Shape) (bs : Trees) → KeepsAll w (args_of r) bs → IsGrounded t → IsGrounded (literal_of t (Some r)).atom
  by_shape t (shape.Not u) bs h g = not_grounded u bs h
  by_shape t shape.False bs h g = truth_grounded
  by_shape t _ bs h g = g

  atom_grounded : (t : Term) (b : Tree) → Keeps w t b → IsGrounded (literal_at w t).atom
  unfolding Keeps
  atom_grounded t (node op bs) (r, k, has, names, is, kept) =
      subst (λ o. IsGrounded (literal_of t o).atom) (sym has) (by_shape t r bs kept (kept_grounded t (node op bs) (r, k, has, names, is, kept)))

  pub atoms_grounded : (ts : List Term) (args : Trees) → KeepsAll w ts args → (u : Term) → IsAtomOf (map (literal_at w) ts) u → IsGrounded u
  unfolding Keeps
  atoms_grounded [] args h u is = subst IsGrounded (sym is) truth_grounded
  atoms_grounded (t ∷ ts) none h u is = absurd h
  atoms_grounded (t ∷ ts) (more b bs) h u (inl e) = subst IsGrounded (sym e) (atom_grounded t b h.0)
  atoms_grounded (t ∷ ts) (more b bs) h u (inr is) = atoms_grounded ts bs h.1 u is

  pub parts_keep : (ls ms : List Literal) → ((u : Term) → IsAtomOf ls u → IsGrounded u) → AreAtomsOf ls ms → AtomsKeep w table (tree_at w table) ms
  parts_keep ls [] g are = tt
  parts_keep ls (m ∷ ms) g are = (g m.atom are.0, parts_keep ls ms g are.1)

  atom_sorted : (t : Term) → IsGrounded t → HasSort w t (or_boolean (sort_of (tree_at w table t)))
  atom_sorted t g = let s = tree_typed w table t in subst (HasSort w t) (sym (ap or_boolean s.1)) (tree_sort w table t (tree_at w table t) s.0 g s.1)

  pub parts_sorted : (ms : List Literal) → AtomsKeep w table (tree_at w table) ms → AtomsHave w (λ t. or_boolean (sort_of (tree_at w table t))) ms
  parts_sorted [] h = tt
  parts_sorted (m ∷ ms) h = (atom_sorted m.atom h.0, parts_sorted ms h.1)

module _ (old new : World) (m : IsWider old new) where
  pub sorts_stay : (k : Term → Sort) (ls : List Literal) → AtomsHave old k ls → AtomsHave new k ls
  sorts_stay k [] h = tt
  sorts_stay k (l ∷ ls) h = (sort_stays old new m l.atom (k l.atom) h.0, sorts_stay k ls h.1)

  pub atoms_stay : (a : IsTable old) (b : IsTable new) (f : Term → Tree) (ls : List Literal) → AtomsKeep old a f ls → AtomsKeep new b f ls
  atoms_stay a b f [] h = tt
  atoms_stay a b f (l ∷ ls) h = (tree_stays old new m (f l.atom) l.atom h.0, atoms_stay a b f ls h.1)

module _ (w : World) (k : Term → Sort) where
  of_literal : (s : Sort) (l : Literal) → HasSort w l.atom (k l.atom) → HasType k l s → IsLiteralOf w s l
  of_literal s l h is = (subst (HasSort w l.atom) is.0 h, is.1)

  all_are_of : (ls : List Literal) → AtomsHave w k ls → AreTruths k ls → AllAreOf w boolean ls
  all_are_of [] h is = tt
  all_are_of (l ∷ ls) h is = (subst (HasSort w l.atom) is.0 h.0, all_are_of ls h.1 is.1)

  all_have : (s : Sort) (ts : List Term) → AtomsHave w k (map plain ts) → AreOf k s ts → AllHaveSort w s ts
  all_have s [] h is = tt
  all_have s (t ∷ ts) h is = (subst (HasSort w t) is.0 h.0, all_have s ts h.1 is.1)

  -- a sketch of live atoms with types that it takes is ready
  pub sketch_ready : (sk : Sketch) (s : Sort) → AtomsHave w k (parts_of sk) → HasSketchType k sk s → IsReady w sk
  sketch_ready (sketch.OneLiteral l) s h is = ready_of w s l (of_literal s l h.0 is)
  sketch_ready (sketch.AllOf ls) s h is = (is.1, all_are_of ls h is.2)
  sketch_ready (sketch.AnyOf ls) s h is = (is.1, all_are_of ls h is.2)
  sketch_ready (sketch.OddOf b ts) s h is = (is.1, all_have boolean ts h is.2)
  sketch_ready (sketch.OneOf x a b) s h is = (subst (HasSort w x) is.0 h.0, (s, of_literal s a h.1.0 is.1, of_literal s b h.1.1.0 is.2))
  sketch_ready (sketch.Equal b t u) s h is = (k t, h.0, subst (HasSort w u) (sym is.1) h.1.0)
  sketch_ready (sketch.Apart ts) s h is = (is.1, (is.2.0, all_have is.2.0 ts h is.2.1))

  module _ (table : IsTable w) (law : SameSortIsEqual) where
    truth_sorted : (t : Term) (r : Shape) → HasShape w t r → IsTruthShape w r → HasSort w t boolean
    truth_sorted t r has p = shape_sort w table t r p.0 boolean has p.1 p.2

    flagged_sorted : (t : Term) (b : Bool) (r : Shape) → IsFlagged w t b r → IsTruthShape w r → HasSort w t boolean
    flagged_sorted t false r is p = truth_sorted t r is p
    flagged_sorted t true r (u, inner, outer) p =
        let h = truth_sorted u r inner p in
        let n = not_is_shape w table u h in
        shape_sort w table t (shape.Not u) n.0 boolean outer n.1 (not_type w table u h)

    -- what is made as a sketch says has the sketch's type
    pub made_sorted : (t : Term) (sk : Sketch) (s : Sort) → AtomsHave w k (parts_of sk) → HasSketchType k sk s → IsMade w t sk → HasSort w t s
    made_sorted t (sketch.OneLiteral l) s h is made = literal_sort w table t l s made (of_literal s l h.0 is)
    made_sorted t (sketch.AllOf ls) s h is (ts, has, are) =
        subst (HasSort w t) (sym is.0)
        (truth_sorted t (shape.And ts) has (and_shape w table ts (literals_filled w ts ls are is.1) (literal_sorts w w (same_wider w) table ts ls are (all_are_of ls h is.2))))
    made_sorted t (sketch.AnyOf ls) s h is (ts, has, are) =
        subst (HasSort w t) (sym is.0)
        (truth_sorted t (shape.Or ts) has (or_shape w table ts (literals_filled w ts ls are is.1) (literal_sorts w w (same_wider w) table ts ls are (all_are_of ls h is.2))))
    made_sorted t (sketch.OddOf b ts) s h is made = subst (HasSort w t) (sym is.0) (flagged_sorted t b (shape.Xor ts) made (xor_shape w table ts is.1 (all_have boolean ts h is.2)))
    made_sorted t (sketch.OneOf x a b) s h is (u, v, has, ua, vb) =
        let p = ite_typed law w x u v s (subst (HasSort w x) is.0 h.0) (literal_sort w table u a s ua (of_literal s a h.1.0 is.1)) (literal_sort w table v b s vb (of_literal s b h.1.1.0 is.2)) in
        shape_sort w table t (shape.Ite x u v) p.0 s has p.1 p.2
    made_sorted t (sketch.Equal b x y) s h is made =
        subst (HasSort w t) (sym is.0) (flagged_sorted t b (shape.Eq x y) made (eq_shape law w table x y (k x) h.0 (subst (HasSort w y) (sym is.1) h.1.0)))
    made_sorted t (sketch.Apart ts) s h is made =
        subst (HasSort w t) (sym is.0) (truth_sorted t (shape.Distinct ts) made (distinct_truth law w table ts is.2.0 is.1 (all_have is.2.0 ts h is.2.1)))
