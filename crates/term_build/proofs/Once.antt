-- One constructor over unchanged arguments answers one handle.
use Rattle.std.proofs.Common.{◌≡◌, ◌∙◌, inl, inr, List, [], ◌∷◌, map, Some, refl, sym, ap, subst}
use Rattle.std.proofs.lemmas.Option.{same_Some}
use Rattle.y_tree.specs.Sorts.{Sort}
use Rattle.y_tree.specs.Tree.{Tree, Trees, node, none, more, truth}
use Rattle.y_tree.specs.Typing.{sort_of}
use Rattle.y_tree.specs.Laws.{SameSortIsEqual}
use Rattle.term_shapes.specs.declared.handles.Term.{Term}
use Rattle.term_shapes.specs.declared.shapes.Shape.{Shape}
use Rattle.term_shapes.specs.declared.shapes.Shape.TheVariants as shape
use Rattle.term_shapes.specs.Shapes.{args_of}
use Rattle.term_table.specs.World.{World, shape_at, Keeps, KeepsAll, IsTable}
use Rattle.term_table.specs.Checking.{HaveSorts}
use Rattle.term_table.proofs.Keeping.{one_tree}
use Rattle.term_sketches.specs.declared.items.Literal.{Literal}
use Rattle.term_sketches.specs.declared.items.Sketch.{Sketch}
use Rattle.term_sketches.specs.declared.items.Operator.{Operator}
use Rattle.term_sketches.specs.Sketches.{the_truth, sketch_of}
use Rattle.term_sketches.specs.Valuing.{SketchesAreMadeOf, IsAtomOf, AreAtomsOf, are_truths, parts_of}
use Rattle.term_build.specs.Building.{literal_of, literal_at, IsMade}
use Rattle.term_build.specs.Lasting.{AreUnchanged, IsBuiltOn, AnswersAgain, AnswersAgainInBuilding}
use Rattle.term_build.proofs.Growing.{IsWider, wider, shape_stays, tree_stays}
use Rattle.term_build.proofs.Kept.{same_kept}
use Rattle.term_build.proofs.Standing.{AtomsKeep, sketch_tree, made_keeps}
use Rattle.term_build.proofs.Called.{tree_at, tree_is, truth_kept}
use Rattle.term_build.proofs.Sorted.{tree_sorted}
use Rattle.term_build.proofs.Ready.{atoms_stay}

-- in another table where the arguments are unchanged each atom of their literals stands for the tree that it had
module _ (old new : World) (table : IsTable old) (after : IsTable new) where
  abbrev Stands : Term → Type 0
  Stands u = Keeps new u (tree_at old table u)

  kept_stands : (t : Term) (b : Tree) → Keeps old t b → Keeps new t b → Stands t
  kept_stands t b h g = subst (Keeps new t) (sym (tree_is old table t b h)) g

  not_stands : (u : Term) (bs : Trees) → KeepsAll old (u ∷ []) bs → KeepsAll new (u ∷ []) bs → Stands u
  unfolding Keeps
  not_stands u none h g = absurd h
  not_stands u (more c cs) h g = kept_stands u c h.0 g.0

  truth_stands : Stands the_truth
  truth_stands = kept_stands the_truth (node truth none) (truth_kept old table) (truth_kept new after)

  by_shape : (t : Term) (r : Shape) (bs : Trees) → KeepsAll old (args_of r) bs → KeepsAll new (args_of r) bs → Stands t → Stands (literal_of t (Some r)).atom
  by_shape t (shape.Not u) bs h g s = not_stands u bs h g
  by_shape t shape.False bs h g s = truth_stands
  by_shape t _ bs h g s = s

  atom_stands : (t : Term) (b : Tree) → shape_at old t ≡ shape_at new t → Keeps old t b → Keeps new t b → Stands (literal_at old t).atom
  unfolding Keeps
  atom_stands t (node op bs) same (r, k, has, names, is, kept) (q, l, had, named, was, still) =
      let e : q ≡ r = same_Some q r (sym had ∙ sym same ∙ has) in
      subst (λ o. Stands (literal_of t o).atom) (sym has)
      (by_shape t r bs kept (subst (λ z. KeepsAll new (args_of z) bs) e still) (kept_stands t (node op bs) (r, k, has, names, is, kept) (q, l, had, named, was, still)))

  atoms_stand : (ts : List Term) → AreUnchanged old new ts → (u : Term) → IsAtomOf (map (literal_at old) ts) u → Stands u
  atoms_stand [] same u is = subst Stands (sym is) truth_stands
  atoms_stand (t ∷ ts) same u (inl e) = subst Stands (sym e) (atom_stands t same.0.tree same.0.shape same.0.before same.0.after)
  atoms_stand (t ∷ ts) same u (inr is) = atoms_stand ts same.1 u is

  parts_stand : (ts : List Term) → AreUnchanged old new ts → (ms : List Literal) → AreAtomsOf (map (literal_at old) ts) ms → AtomsKeep new after (tree_at old table) ms
  parts_stand ts same [] are = tt
  parts_stand ts same (m ∷ ms) are = (atoms_stand ts same m.atom are.0, parts_stand ts same ms are.1)

  same_literals : (ts : List Term) → AreUnchanged old new ts → map (literal_at old) ts ≡ map (literal_at new) ts
  same_literals [] same = refl
  same_literals (t ∷ ts) same =
      ap (λ o. literal_of t o ∷ map (literal_at old) ts) same.0.shape ∙ ap (λ ls. literal_at new t ∷ ls) (same_literals ts same.1)

  same_sorts : (law : SameSortIsEqual) (ts : List Term) (ks ls : List Sort) → AreUnchanged old new ts → HaveSorts old ts ks → HaveSorts new ts ls → ks ≡ ls
  same_sorts law [] [] [] same h g = refl
  same_sorts law [] [] (l ∷ ls) same h g = absurd g
  same_sorts law [] (k ∷ ks) ls same h g = absurd h
  same_sorts law (t ∷ ts) [] ls same h g = absurd h
  same_sorts law (t ∷ ts) (k ∷ ks) [] same h g = absurd g
  same_sorts law (t ∷ ts) (k ∷ ks) (l ∷ ls) same h g =
      let p = tree_sorted old table law t k h.0 in
      let q = tree_sorted new after law t l g.0 in
      let e : k ≡ l = same_Some k l (sym p.0 ∙ ap sort_of (tree_is old table t same.0.tree same.0.before ∙ sym (tree_is new after t same.0.tree same.0.after)) ∙ q.0) in
      ap (λ z. z ∷ ks) e ∙ ap (λ z. l ∷ z) (same_sorts law ts ks ls same.1 h.1 g.1)

pub shape_there : (w : World) (t : Term) (b : Tree) → Keeps w t b → (s : Shape) × (shape_at w t ≡ Some s)
unfolding Keeps
shape_there w t (node op bs) (s, k, has, names, is, kept) = (s, has)

-- what is built leaves live terms unchanged
pub wider_unchanged : (w new : World) → IsTable w → IsWider w new → (law : SameSortIsEqual) (ts : List Term) (ks : List Sort) → HaveSorts w ts ks → AreUnchanged w new ts
wider_unchanged w new table m law [] [] h = tt
wider_unchanged w new table m law [] (k ∷ ks) h = absurd h
wider_unchanged w new table m law (t ∷ ts) [] h = absurd h
wider_unchanged w new table m law (t ∷ ts) (k ∷ ks) h =
    let p = tree_sorted w table law t k h.0 in
    let s = shape_there w t (tree_at w table t) p.1 in
    (record { shape = s.1 ∙ sym (shape_stays w new m t s.0 s.1); tree = tree_at w table t; before = p.1; after = tree_stays w new m (tree_at w table t) t p.1 }, wider_unchanged w new table m law ts ks h.1)

-- the tree of an answer
pub answer_keeps : SameSortIsEqual → SketchesAreMadeOf → (a b : World) (on : IsBuiltOn a b) (o : Operator) (ts : List Term) (t : Term) (ks : List Sort) → HaveSorts a ts ks
    → IsMade b t (sketch_of o (are_truths ks) (map (literal_at a) ts)) → Keeps b t (sketch_tree (tree_at a on.before) (sketch_of o (are_truths ks) (map (literal_at a) ts)))
answer_keeps law made a b on o ts t ks have is =
    let ls : List Literal = map (literal_at a) ts in
    let sk : Sketch = sketch_of o (are_truths ks) ls in
    made_keeps b on.after (tree_at a on.before) t sk is
    (parts_stand a b on.before on.after ts (wider_unchanged a b on.before (wider on.bound a b on.adds) law ts ks have) (parts_of sk) (made o (are_truths ks) ls))

pub answers_again : SameSortIsEqual → SketchesAreMadeOf → AnswersAgain
answers_again law made a b c d o ts t u on onto p q same tree before after =
    let ks : List Sort = p.fit.sorts in
    let ls : List Literal = map (literal_at a) ts in
    let sk : Sketch = sketch_of o (are_truths ks) ls in
    let f : Term → Tree = tree_at a on.before in
    let earlier : Keeps b t (sketch_tree f sk) = answer_keeps law made a b on o ts t ks p.fit.have (p.made ks p.fit.have) in
    let is : tree ≡ sketch_tree f sk = same_kept b tree (sketch_tree f sk) t before earlier in
    let sorts : ks ≡ q.fit.sorts = same_sorts a c on.before onto.before law ts ks q.fit.sorts same p.fit.have q.fit.have in
    let again : IsMade d u sk =
    subst (λ ms. IsMade d u (sketch_of o (are_truths ks) ms)) (sym (same_literals a c on.before onto.before ts same))
    (subst (λ js. IsMade d u (sketch_of o (are_truths js) (map (literal_at c) ts))) (sym sorts) (q.made q.fit.sorts q.fit.have)) in
    let later : Keeps d u (sketch_tree f sk) =
    made_keeps d onto.after f u sk again
    (atoms_stay c d (wider onto.bound c d onto.adds) onto.before onto.after f (parts_of sk) (parts_stand a c on.before onto.before ts same (parts_of sk) (made o (are_truths ks) ls))) in
    one_tree d onto.after.one_type onto.after.one_term (sketch_tree f sk) t u (subst (Keeps d t) is after) later

pub again_in_building : SameSortIsEqual → SketchesAreMadeOf → AnswersAgainInBuilding
again_in_building law made a b c d o ts t u on between onto p q =
    let m = wider on.bound a b on.adds in
    let n = wider between.bound b c between.adds in
    let l = wider onto.bound c d onto.adds in
    let ac : IsWider a c = record { nodes = λ v x h. n.nodes v x (m.nodes v x h); types = λ v s h. n.types v s (m.types v s h) } in
    let tree : Tree = sketch_tree (tree_at a on.before) (sketch_of o (are_truths p.fit.sorts) (map (literal_at a) ts)) in
    let earlier : Keeps b t tree = answer_keeps law made a b on o ts t p.fit.sorts p.fit.have (p.made p.fit.sorts p.fit.have) in
    answers_again law made a b c d o ts t u on onto p q (wider_unchanged a c on.before ac law ts p.fit.sorts p.fit.have) tree earlier (tree_stays c d l tree t (tree_stays b c n tree t earlier))
