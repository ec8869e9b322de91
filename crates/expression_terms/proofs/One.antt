-- In a table one term is what the constructors make of a tree.
use Rattle.std.proofs.Common.{◌≡◌, ◌∙◌, Bool, true, false, List, [], ◌∷◌, map, refl, sym, ap, subst}
use Rattle.std.proofs.lemmas.Option.{same_Some}
use Rattle.y_tree.specs.Sorts.{Sort}
use Rattle.y_tree.specs.Tree.{Op, truth, falsity, constant, negation, conjunction, disjunction, parity, implication, equivalence, choice, equality, disequality, distinctness, Tree, Trees, node}
use Rattle.y_tree.specs.Tree as tree
use Rattle.term_shapes.specs.declared.handles.Term.{Term}
use Rattle.term_shapes.specs.declared.shapes.Shape.{Shape}
use Rattle.term_shapes.specs.declared.shapes.Shape.TheVariants as shape
use Rattle.term_table.specs.World.{World, HasShape, KeepsType, IsTable}
use Rattle.term_table.specs.Checking.{HasSort, HaveSorts}
use Rattle.term_table.proofs.Keeping.{one_tree}
use Rattle.term_table.proofs.Sorting.{one_kept}
use Rattle.term_sketches.specs.declared.items.Literal.{Literal}
use Rattle.term_sketches.specs.declared.items.Sketch.{Sketch}
use Rattle.term_sketches.specs.declared.items.Sketch.TheVariants as sketch
use Rattle.term_sketches.specs.declared.items.Operator.{Operator}
use Rattle.term_sketches.specs.declared.items.Operator.TheVariants as operator
use Rattle.term_sketches.specs.Sketches.{the_truth, same_term, sketch_of, operator_of}
use Rattle.term_sketches.specs.Valuing.{are_truths}
use Rattle.term_build.specs.Building.{literal_at, IsSigned, IsLiteral, AreLiterals, IsFlagged, IsMade}
use Rattle.expression_terms.specs.Standing.{IsMadeOf, IsBuiltFor, AreBuiltFor}

-- the constructor with an operator of trees
constructor_with : Op → Operator
constructor_with negation = operator.Not
constructor_with conjunction = operator.And
constructor_with disjunction = operator.Or
constructor_with parity = operator.Xor
constructor_with implication = operator.Implies
constructor_with equivalence = operator.Iff
constructor_with choice = operator.Ite
constructor_with equality = operator.Eq
constructor_with disequality = operator.Neq
constructor_with distinctness = operator.Distinct
constructor_with _ = operator.Not

constructor_is : (o : Operator) → constructor_with (operator_of o) ≡ o
unfolding constructor_with
constructor_is operator.Not = refl
constructor_is operator.And = refl
constructor_is operator.Or = refl
constructor_is operator.Xor = refl
constructor_is operator.Implies = refl
constructor_is operator.Iff = refl
constructor_is operator.Ite = refl
constructor_is operator.Eq = refl
constructor_is operator.Neq = refl
constructor_is operator.Distinct = refl

-- two constructors with one operator are one
pub one_constructor : (o p : Operator) → operator_of o ≡ operator_of p → o ≡ p
one_constructor o p e = sym (constructor_is o) ∙ ap constructor_with e ∙ constructor_is p

module _ (w : World) where
  -- a term has one sort
  pub one_sort : (t : Term) (k l : Sort) → HasSort w t k → HasSort w t l → k ≡ l
  one_sort t k l (of, has, keeps) (other, has_too, keeps_too) =
      let e : of ≡ other = same_Some of other (sym has ∙ has_too) in one_kept w k l other (subst (λ z. KeepsType w z k) e keeps) keeps_too

  pub same_sorts : (ts : List Term) (ks ls : List Sort) → HaveSorts w ts ks → HaveSorts w ts ls → ks ≡ ls
  same_sorts [] [] [] h g = refl
  same_sorts [] [] (l ∷ ls) h g = absurd g
  same_sorts [] (k ∷ ks) ls h g = absurd h
  same_sorts (t ∷ ts) [] ls h g = absurd h
  same_sorts (t ∷ ts) (k ∷ ks) [] h g = absurd g
  same_sorts (t ∷ ts) (k ∷ ks) (l ∷ ls) h g = ap (λ z. z ∷ ks) (one_sort t k l h.0 g.0) ∙ ap (λ z. l ∷ z) (same_sorts ts ks ls h.1 g.1)

module _ (w : World) (table : IsTable w) where
  one_signed : (t u a : Term) (n c : Bool) → IsSigned w t a n c → IsSigned w u a n c → t ≡ u
  one_signed t u a false c h g = h ∙ sym g
  one_signed t u a true true h g = h ∙ sym g
  one_signed t u a true false h g = table.one_term t u (shape.Not a) h g

  one_literal : (t u : Term) (l : Literal) → IsLiteral w t l → IsLiteral w u l → t ≡ u
  one_literal t u l h g = one_signed t u l.atom l.negated (same_term l.atom the_truth) h.1 g.1

  one_literals : (ts us : List Term) (ls : List Literal) → AreLiterals w ts ls → AreLiterals w us ls → ts ≡ us
  one_literals [] [] [] h g = refl
  one_literals [] [] (l ∷ ls) h g = absurd h
  one_literals [] (u ∷ us) [] h g = absurd g
  one_literals [] (u ∷ us) (l ∷ ls) h g = absurd h
  one_literals (t ∷ ts) us [] h g = absurd h
  one_literals (t ∷ ts) [] (l ∷ ls) h g = absurd g
  one_literals (t ∷ ts) (u ∷ us) (l ∷ ls) h g = ap (λ z. z ∷ ts) (one_literal t u l h.0 g.0) ∙ ap (λ z. u ∷ z) (one_literals ts us ls h.1 g.1)

  one_flagged : (t u : Term) (b : Bool) (s : Shape) → IsFlagged w t b s → IsFlagged w u b s → t ≡ u
  one_flagged t u false s h g = table.one_term t u s h g
  one_flagged t u true s (x, inner, outer) (y, inner_too, outer_too) =
      table.one_term t u (shape.Not y) (subst (λ z. HasShape w t (shape.Not z)) (table.one_term x y s inner inner_too) outer) outer_too

  -- a sketch says one term
  pub one_made : (t u : Term) (sk : Sketch) → IsMade w t sk → IsMade w u sk → t ≡ u
  one_made t u (sketch.OneLiteral l) h g = one_literal t u l h g
  one_made t u (sketch.AllOf ls) (ts, has, are) (us, has_too, are_too) =
      table.one_term t u (shape.And us) (subst (λ z. HasShape w t (shape.And z)) (one_literals ts us ls are are_too) has) has_too
  one_made t u (sketch.AnyOf ls) (ts, has, are) (us, has_too, are_too) =
      table.one_term t u (shape.Or us) (subst (λ z. HasShape w t (shape.Or z)) (one_literals ts us ls are are_too) has) has_too
  one_made t u (sketch.OddOf b ts) h g = one_flagged t u b (shape.Xor ts) h g
  one_made t u (sketch.OneOf x a b) (c, d, has, ca, db) (e, f, has_too, ea, fb) =
      table.one_term t u (shape.Ite x e f)
      (subst (λ z. HasShape w t (shape.Ite x z f)) (one_literal c e a ca ea) (subst (λ z. HasShape w t (shape.Ite x c z)) (one_literal d f b db fb) has)) has_too
  one_made t u (sketch.Equal b x y) h g = one_flagged t u b (shape.Eq x y) h g
  one_made t u (sketch.Apart ts) h g = table.one_term t u (shape.Distinct ts) h g

  -- an operator makes one term of terms
  pub one_made_of : (op : Op) (ts : List Term) (t u : Term) → IsMadeOf w op ts t → IsMadeOf w op ts u → t ≡ u
  one_made_of op ts t u p q =
      let c : q.constructor ≡ p.constructor = one_constructor q.constructor p.constructor (q.is ∙ sym p.is) in
      let s : q.sorts ≡ p.sorts = same_sorts w ts q.sorts p.sorts q.have p.have in
      one_made t u (sketch_of p.constructor (are_truths p.sorts) (map (literal_at w) ts)) p.made
      (subst (λ o. IsMade w u (sketch_of o (are_truths p.sorts) (map (literal_at w) ts))) c
      (subst (λ ks. IsMade w u (sketch_of q.constructor (are_truths ks) (map (literal_at w) ts))) s q.made))

  one_node : (op : Op) (ds : Trees) (t u : Term) → ((ts us : List Term) → AreBuiltFor w ds ts → AreBuiltFor w ds us → ts ≡ us) → IsBuiltFor w (node op ds) t → IsBuiltFor w (node op ds) u → t ≡ u
  unfolding IsBuiltFor
  one_node truth ds t u all h g = table.one_term t u shape.True h g
  one_node falsity ds t u all h g = table.one_term t u shape.False h g
  one_node (constant n k) ds t u all h g = one_tree w table.one_type table.one_term (node (constant n k) tree.none) t u h g
  one_node op ds t u all h g = one_made_of op g.0 t u (subst (λ z. IsMadeOf w op z t) (all h.0 g.0 h.1 g.1) h.2) g.2

  mutual
    unfolding IsBuiltFor

    -- a tree has one term
    pub one_built : (d : Tree) (t u : Term) → IsBuiltFor w d t → IsBuiltFor w d u → t ≡ u
    one_built (node op ds) t u h g = one_node op ds t u (λ ts us are are_too. all_built ds ts us are are_too) h g

    -- and trees have one list of terms
    pub all_built : (ds : Trees) (ts us : List Term) → AreBuiltFor w ds ts → AreBuiltFor w ds us → ts ≡ us
    all_built tree.none [] [] h g = refl
    all_built tree.none [] (u ∷ us) h g = absurd g
    all_built tree.none (t ∷ ts) us h g = absurd h
    all_built (tree.more d ds) [] us h g = absurd h
    all_built (tree.more d ds) (t ∷ ts) [] h g = absurd g
    all_built (tree.more d ds) (t ∷ ts) (u ∷ us) h g = ap (λ z. z ∷ ts) (one_built d t u h.0 g.0) ∙ ap (λ z. u ∷ z) (all_built ds ts us h.1 g.1)
