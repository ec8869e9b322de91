-- A table that grows keeps its terms, with their shapes, sorts and trees.
use Rattle.std.proofs.Common.{◌≡◌, ◌∙◌, ℕ, zero, suc, ◌+◌, ◌≤◌, ◌<◌, inl, inr, Bool, true, false, not, List, [], ◌∷◌, ◌++◌, length, take, get_or, Option, Some, None, refl, sym, ap, subst, arith, add-one}
use Rattle.std.proofs.Math.Seq.{take-suc}
use Rattle.std.specs.Prelude.{IsSome, is_some}
use Rattle.std.specs.Option.{option_map}
use Rattle.y_tree.specs.Sorts.{Sort, boolean, same_sort}
use Rattle.y_tree.specs.Tree.{Tree}
use Rattle.stamped_slots.specs.Slots.{held_at}
use Rattle.term_shapes.specs.declared.handles.Term.{Term}
use Rattle.term_shapes.specs.declared.handles.TypeId.{TypeId}
use Rattle.term_shapes.specs.declared.shapes.Shape.{Shape}
use Rattle.term_shapes.specs.declared.shapes.Shape.TheVariants as shape
use Rattle.term_shapes.specs.declared.shapes.TypeShape.{TypeShape}
use Rattle.term_shapes.specs.declared.shapes.Node.{Node}
use Rattle.term_shapes.specs.Shapes.{args_of, types_of, parts_of}
use Rattle.term_table.specs.World.{World, node_at, type_at, HasNode, HasShape, HasTypeShape, KeepsType, Keeps, IsTable}
use Rattle.term_table.specs.Changes.{AddsNode}
use Rattle.term_table.specs.Checking.{HasSort, HaveSorts, IsShape, AddsShape}
use Rattle.term_table.proofs.Adding.{adds_here, adds_older, some_node}
use Rattle.term_table.proofs.Keeping.{all_in, type_on, keeps_on}
use Rattle.term_sketches.specs.declared.items.Literal.{Literal}
use Rattle.term_sketches.specs.Sketches.{the_truth, same_term}
use Rattle.term_build.specs.Building.{AddsAtMost, no_more, one_more, IsLiteral, IsSigned, AreLiterals, the_falsity, IsReadyLiteral, AreReady, AllAreOf}

-- live terms stay, and types
pub record IsWider (old new : World) : Type 0 where
  pub nodes : (u : Term) (n : Node) → HasNode old u n → HasNode new u n
  pub types : (u : TypeId) (s : TypeShape) → HasTypeShape old u s → HasTypeShape new u s

pub same_wider : (w : World) → IsWider w w
same_wider w = record { nodes = λ u n h. h; types = λ u s h. h }

pub node_wider : (old new : World) (t : Term) (x : Node) → AddsNode old new t x → IsWider old new
node_wider old new t x adds = record {
  nodes = λ u n h. adds_older old.terms new.terms t.slot t.stamp x adds.added u.slot u.stamp n h;
  types = λ u s h. ap (λ (w : World). held_at w.types u.slot u.stamp) adds.rest ∙ h;
}

pub wider : (n : ℕ) (old new : World) → AddsAtMost n old new → IsWider old new
wider n old new (no_more m w) = same_wider w
wider n old new (one_more m a b c t x adds rest) =
    let p = node_wider a b t x adds in
    let q = wider m b c rest in
    record { nodes = λ u y h. q.nodes u y (p.nodes u y h); types = λ u s h. q.types u s (p.types u s h) }

pub at_most_more : (n m : ℕ) (old new : World) → n ≤ m → AddsAtMost n old new → AddsAtMost m old new
at_most_more n m old new le (no_more k w) = no_more m w
at_most_more n zero old new le (one_more k a b c t x adds rest) = absurd (omega (arith, le))
at_most_more n (suc m) old new le (one_more k a b c t x adds rest) = one_more m a b c t x adds (at_most_more k m b c (omega (arith, le)) rest)

pub then_more : (n m k : ℕ) (old mid new : World) → AddsAtMost n old mid → AddsAtMost m mid new → n + m ≤ k → AddsAtMost k old new
then_more n m k old mid new (no_more j w) second le = at_most_more m k w new (omega (arith, le)) second
then_more n m zero old mid new (one_more j a b c t x adds rest) second le = absurd (omega (arith, le))
then_more n m (suc k) old mid new (one_more j a b c t x adds rest) second le = one_more k a b new t x adds (then_more j m k b c new rest second (omega (arith, le)))

module _ (old new : World) (more_of : IsWider old new) where
  pub shape_stays : (u : Term) (s : Shape) → HasShape old u s → HasShape new u s
  shape_stays u s h = let m = some_node (node_at old u) s h in ap (option_map (λ (z : Node). z.shape)) (more_of.nodes u m.0 m.1) ∙ ap Some m.2

  node_lasts : (u : Term) (o : Option Node) → node_at old u ≡ o → IsSome o → IsSome (node_at new u)
  node_lasts u None e h = absurd (cc h)
  node_lasts u (Some m) e h = ap is_some (more_of.nodes u m e)

  pub live_stays : (u : Term) → IsSome (node_at old u) → IsSome (node_at new u)
  live_stays u h = node_lasts u (node_at old u) refl h

  type_of_some : (u : Term) (o : Option Node) (of : TypeId) → node_at old u ≡ o → option_map (λ (n : Node). n.of) o ≡ Some of → type_at new u ≡ Some of
  type_of_some u None of e h = absurd (cc h)
  type_of_some u (Some m) of e h = ap (option_map (λ (n : Node). n.of)) (more_of.nodes u m e) ∙ h

  pub type_stays : (k : Sort) (u : TypeId) → KeepsType old u k → KeepsType new u k
  type_stays k u h =
      type_on old new (λ (z : Term). Unit {0}) (λ (z : TypeId). Unit {0}) (λ v s q g. (more_of.types v s g, all_in (λ (z : TypeId). Unit {0}) (λ z. tt) (parts_of s))) (λ v s p g. (shape_stays v s g, all_in (λ (z : Term). Unit {0}) (λ z. tt) (args_of s), all_in (λ (z : TypeId). Unit {0}) (λ z. tt) (types_of s))) k u tt h

  pub tree_stays : (a : Tree) (u : Term) → Keeps old u a → Keeps new u a
  tree_stays a u h =
      keeps_on old new (λ (z : Term). Unit {0}) (λ (z : TypeId). Unit {0}) (λ v s q g. (more_of.types v s g, all_in (λ (z : TypeId). Unit {0}) (λ z. tt) (parts_of s))) (λ v s p g. (shape_stays v s g, all_in (λ (z : Term). Unit {0}) (λ z. tt) (args_of s), all_in (λ (z : TypeId). Unit {0}) (λ z. tt) (types_of s))) a u tt h

  pub sort_stays : (u : Term) (k : Sort) → HasSort old u k → HasSort new u k
  sort_stays u k (of, has, keeps) = (of, type_of_some u (node_at old u) of refl has, type_stays k of keeps)

  signed_stays : (t u : Term) (n c : Bool) → IsSigned old t u n c → IsSigned new t u n c
  signed_stays t u false c h = h
  signed_stays t u true true h = h
  signed_stays t u true false h = shape_stays t (shape.Not u) h

  pub literal_stays : (t : Term) (l : Literal) → IsLiteral old t l → IsLiteral new t l
  literal_stays t l h = (live_stays t h.0, signed_stays t l.atom l.negated (same_term l.atom the_truth) h.1)

  pub literals_stay : (ts : List Term) (ls : List Literal) → AreLiterals old ts ls → AreLiterals new ts ls
  literals_stay [] [] h = tt
  literals_stay [] (l ∷ ls) h = absurd h
  literals_stay (t ∷ ts) [] h = absurd h
  literals_stay (t ∷ ts) (l ∷ ls) h = (literal_stays t l h.0, literals_stay ts ls h.1)

  pub ready_stays : (l : Literal) → IsReadyLiteral old l → IsReadyLiteral new l
  ready_stays l h = (live_stays l.atom h.0, λ n. sort_stays l.atom boolean (h.1 n))

pub literals_more : (w : World) (ts : List Term) (ls : List Literal) (t : Term) (l : Literal) → AreLiterals w ts ls → IsLiteral w t l → AreLiterals w (ts ++ t ∷ []) (ls ++ l ∷ [])
literals_more w [] [] t l h p = (p, tt)
literals_more w [] (m ∷ ls) t l h p = absurd h
literals_more w (u ∷ ts) [] t l h p = absurd h
literals_more w (u ∷ ts) (m ∷ ls) t l h p = (h.0, literals_more w ts ls t l h.1 p)

-- what one call of the table adds
pub added_one : (old new : World) (t : Term) (s : Shape) → AddsShape old new s t → AddsAtMost 1 old new
added_one old new t s (of, is, inl e) = subst (AddsAtMost 1 old) (sym e.0) (no_more 1 old)
added_one old new t s (of, is, inr adds) = one_more 0 old new new t (record { shape = s; of = of }) adds (no_more 0 new)

pub added_shape : (old new : World) (t : Term) (s : Shape) → AddsShape old new s t → HasShape new t s
added_shape old new t s (of, is, inl e) = subst (λ w. HasShape w t s) (sym e.0) e.1
added_shape old new t s (of, is, inr adds) = ap (option_map (λ (z : Node). z.shape)) (adds_here old.terms new.terms t.slot t.stamp (record { shape = s; of = of }) adds.added)

pub shape_lives : (w : World) (t : Term) (s : Shape) → HasShape w t s → IsSome (node_at w t)
shape_lives w t s h = let m = some_node (node_at w t) s h in ap is_some m.1

type_lives : (w : World) (t : Term) (o : Option Node) (of : TypeId) → node_at w t ≡ o → option_map (λ (n : Node). n.of) o ≡ Some of → IsSome (node_at w t)
type_lives w t None of e h = absurd (cc h)
type_lives w t (Some n) of e h = ap is_some e

pub sorted_lives : (w : World) (t : Term) (k : Sort) → HasSort w t k → IsSome (node_at w t)
sorted_lives w t k (of, has, keeps) = type_lives w t (node_at w t) of refl has

pub nothing_added : (n : ℕ) (old new : World) → new ≡ old → AddsAtMost n old new
nothing_added n old new e = subst (AddsAtMost n old) (sym e) (no_more n old)

-- a negation of a truth value is a shape
unfoldable pub not_is_shape : (w : World) → IsTable w → (u : Term) → HasSort w u boolean → (of : TypeId) × IsShape w (shape.Not u) of
unfolding same_sort KeepsType
not_is_shape w table u h = (record { slot = 0; stamp = 0 }, record { operates = tt; sorts = boolean ∷ []; have = (h, tt); result = boolean; takes = refl; gives = table.permanents.bool })

-- the ways out of a literal
pub literal_plain : (w : World) (l : Literal) → IsReadyLiteral w l → l.negated ≡ false → IsLiteral w l.atom l
literal_plain w l h e = (h.0, subst (λ n. IsSigned w l.atom l.atom n (same_term l.atom the_truth)) (sym e) refl)

pub literal_false : (w : World) → IsTable w → (l : Literal) (t : Term) → l.negated ≡ true → same_term l.atom the_truth ≡ true → HasShape w t shape.False → IsLiteral w t l
literal_false w table l t e c h = (
  shape_lives w t shape.False h,
  subst (λ n. IsSigned w t l.atom n (same_term l.atom the_truth)) (sym e)
      (subst (λ b. IsSigned w t l.atom true b) (sym c) (table.one_term t the_falsity shape.False h table.permanents.falsity)),
)

pub literal_not : (old new : World) (l : Literal) (t : Term) → l.negated ≡ true → same_term l.atom the_truth ≡ false → AddsShape old new (shape.Not l.atom) t → IsLiteral new t l
literal_not old new l t e c adds =
    let h = added_shape old new t (shape.Not l.atom) adds in (
      shape_lives new t (shape.Not l.atom) h,
      subst (λ n. IsSigned new t l.atom n (same_term l.atom the_truth)) (sym e) (subst (λ b. IsSigned new t l.atom true b) (sym c) h),
    )

pub not_false : (b : Bool) → not b ≡ false → b ≡ true
not_false true h = refl
not_false false h = absurd (cc h)

haves_stay : (old new : World) → IsWider old new → (ts : List Term) (ks : List Sort) → HaveSorts old ts ks → HaveSorts new ts ks
haves_stay old new m [] [] h = tt
haves_stay old new m [] (k ∷ ks) h = absurd h
haves_stay old new m (t ∷ ts) [] h = absurd h
haves_stay old new m (t ∷ ts) (k ∷ ks) h = (sort_stays old new m t k h.0, haves_stay old new m ts ks h.1)

pub is_shape_stays : (old new : World) → IsWider old new → (s : Shape) (of : TypeId) → IsShape old s of → IsShape new s of
is_shape_stays old new m s of is = record {
  operates = is.operates;
  sorts = is.sorts;
  have = haves_stay old new m (args_of s) is.sorts is.have;
  result = is.result;
  takes = is.takes;
  gives = type_stays old new m is.result of is.gives;
}

pub literals_start : (w : World) (ts : List Term) (ls : List Literal) → ts ≡ [] → AreLiterals w ts (take 0 ls)
literals_start w ts ls e = subst (λ us. AreLiterals w us []) (sym e) tt

pub ready_at : (w : World) (ls : List Literal) (i : ℕ) (d : Literal) → i < length ls → AreReady w ls → IsReadyLiteral w (get_or ls i d)
ready_at w [] i d low h = absurd (omega (arith, low))
ready_at w (l ∷ ls) zero d low h = h.0
ready_at w (l ∷ ls) (suc i) d low h = ready_at w ls i d (omega (arith, low)) h.1

pub literals_step : (w : World) (ts us : List Term) (ls : List Literal) (i : ℕ) (d : Literal) (t : Term) → i < length ls → AreLiterals w ts (take i ls) → IsLiteral w t (get_or ls i d) → us ≡ ts ++ t ∷ [] → AreLiterals w us (take (i + 1) ls)
literals_step w ts us ls i d t low h p e = rw (e, add-one i, take-suc ls i d low) (literals_more w ts (take i ls) t (get_or ls i d) h p)

-- literals of one sort are ready
pub ready_all : (w : World) (ls : List Literal) → AllAreOf w boolean ls → AreReady w ls
ready_all w [] h = tt
ready_all w (l ∷ ls) h = ((sorted_lives w l.atom boolean h.0, λ n. h.0), ready_all w ls h.1)
