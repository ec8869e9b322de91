-- The term that was built for a well typed tree stands for it, and has its type.
use Rattle.std.proofs.Common.{◌≡◌, ◌∙◌, ℕ, Bool, true, false, ◌&&◌, List, [], ◌∷◌, Option, Some, None, Ok, refl, sym, ap, subst}
use Rattle.std.proofs.lemmas.Option.{same_Some}
use Rattle.y_tree.specs.Sorts.{Sort, boolean, same_sort, is_sort}
use Rattle.y_tree.specs.Tree.{Op, truth, falsity, constant, negation, conjunction, disjunction, parity, implication, equivalence, choice, equality, disequality, distinctness, Tree, Trees, node}
use Rattle.y_tree.specs.Tree as tree
use Rattle.y_tree.specs.Typing.{typed, typed_over, only_if, are, sort_of}
use Rattle.y_tree.specs.Typing as typing
use Rattle.y_tree.specs.Meaning.{Assignment, meaning, meanings, apply, first_sort, or_boolean}
use Rattle.y_tree.specs.Laws.{FitsAreTyped}
use Rattle.term_shapes.specs.declared.handles.Term.{Term}
use Rattle.term_shapes.specs.declared.shapes.Shape.TheVariants as shape
use Rattle.term_table.specs.World.{World, HasShape, Keeps, KeepsAll, IsTable}
use Rattle.term_table.specs.Checking.{HasSort, HaveSorts}
use Rattle.term_sketches.specs.declared.items.Operator.{Operator}
use Rattle.term_sketches.specs.declared.items.Operator.TheVariants as operator
use Rattle.term_sketches.specs.Sketches.{operator_of}
use Rattle.term_sketches.specs.Valuing.{call_sort}
use Rattle.term_build.specs.Building.{call_misfit, AreFit, AreKnown, IsBuilt, MeansCall, no_more}
use Rattle.term_build.proofs.Kept.{tree_sort}
use Rattle.term_build.proofs.Called.{tree_is, truth_sort}
use Rattle.term_build.proofs.Sorted.{tree_sorted}
use Rattle.term_build.proofs.Built.{call_built}
use Rattle.expression_terms.specs.Standing.{StandsFor, IsMadeOf, IsBuiltFor, AreBuiltFor}
use Rattle.expression_terms.specs.Trees.{Scope, sorts_of, tree_of}
use Rattle.expression_terms.proofs.One.{same_sorts}
use Rattle.expression_terms.proofs.WellTyped.{AreTyped, both_some, types_are, tree_typed}
use Rattle.yices_grammar.specs.Commands.{Expr}

-- types that the operator takes are those of a call, which gives what the operator gives
pub call_fits : FitsAreTyped → (o : Operator) (ks : List Sort) (k : Sort) → typed (operator_of o) ks ≡ Some k → (call_misfit (operator_of o) ks ≡ None) × (call_sort (operator_of o) ks ≡ Some k)
call_fits law operator.Not ks k h = ((law negation ks refl).1 (k, h), h)
call_fits law operator.And [] k h = absurd (cc h)
call_fits law operator.And (l ∷ ks) k h = ((law conjunction (l ∷ ks) refl).1 (k, h), h)
call_fits law operator.Or [] k h = absurd (cc h)
call_fits law operator.Or (l ∷ ks) k h = ((law disjunction (l ∷ ks) refl).1 (k, h), h)
call_fits law operator.Xor [] k h = absurd (cc h)
call_fits law operator.Xor (l ∷ ks) k h = ((law parity (l ∷ ks) refl).1 (k, h), h)
call_fits law operator.Implies ks k h = ((law implication ks refl).1 (k, h), h)
call_fits law operator.Iff ks k h = ((law equivalence ks refl).1 (k, h), h)
call_fits law operator.Ite ks k h = ((law choice ks refl).1 (k, h), h)
call_fits law operator.Eq ks k h = ((law equality ks refl).1 (k, h), h)
call_fits law operator.Neq ks k h = ((law disequality ks refl).1 (k, h), h)
call_fits law operator.Distinct ks k h = ((law distinctness ks refl).1 (k, h), h)

over_some : (op : Op) (o : Option (List Sort)) (k : Sort) → typed_over op o ≡ Some k → (ks : List Sort) × (o ≡ Some ks) × (typed op ks ≡ Some k)
over_some op None k h = absurd (cc h)
over_some op (Some ks) k h = (ks, refl, h)

gives_that : (b : Bool) (s k : Sort) → only_if b s ≡ Some k → s ≡ k
gives_that true s k h = same_Some s k h
gives_that false s k h = absurd (cc h)

gives_both : (a b : Bool) (s k : Sort) → only_if (a && b) s ≡ Some k → (s ≡ k) × (b ≡ true)
gives_both true true s k h = (same_Some s k h, refl)
gives_both true false s k h = absurd (cc h)
gives_both false b s k h = absurd (cc h)

falsity_sort : sort_of (node falsity tree.none) ≡ Some boolean
unfolding sort_of same_sort
falsity_sort = refl

constant_sort : (n : ℕ) (s : Sort) → is_sort s ≡ true → sort_of (node (constant n s) tree.none) ≡ Some s
unfolding sort_of same_sort
constant_sort n s e = ap (λ b. only_if b s) e

-- a term stands for a tree, and has a type
pub record Stands (w : World) (d : Tree) (t : Term) (k : Sort) : Type 0 where
  pub stands : StandsFor w d t
  pub sort : HasSort w t k

-- terms stand for trees, and have types
pub record StandAll (w : World) (ds : Trees) (ts : List Term) (ks : List Sort) : Type 0 where
  pub kept : Trees
  pub keep : KeepsAll w ts kept
  pub same : (a : Assignment) → meanings kept a ≡ meanings ds a
  pub first : first_sort kept ≡ first_sort ds
  pub have : HaveSorts w ts ks

same_meaning : (op : Op) (a : Assignment) (bs ds : Trees) → first_sort bs ≡ first_sort ds → meanings bs a ≡ meanings ds a → meaning (node op bs) a ≡ meaning (node op ds) a
unfolding meaning
same_meaning op a bs ds first same = ap (λ k. apply op k (meanings bs a) a) first ∙ ap (λ vs. apply op (first_sort ds) vs a) same

module _ (known : AreKnown) (w : World) (table : IsTable w) where
  -- a leaf
  truth_stands : (ds : Trees) (t : Term) (k : Sort) → typed_over truth (typing.sorts_of ds) ≡ Some k → HasShape w t shape.True → Stands w (node truth ds) t k
  unfolding Keeps meaning
  truth_stands ds t k e h =
      let p = over_some truth (typing.sorts_of ds) k e in
      let is : boolean ≡ k = gives_that (are p.0 []) boolean k p.2 in
      let keeps : Keeps w t (node truth tree.none) = (shape.True, boolean, h, tt, refl, tt) in
      record { stands = record { kept = node truth tree.none; keeps = keeps; same = λ a. refl }; sort = tree_sort w table t (node truth tree.none) k keeps (truth_sort w table ∙ ap Some is) }

  falsity_stands : (ds : Trees) (t : Term) (k : Sort) → typed_over falsity (typing.sorts_of ds) ≡ Some k → HasShape w t shape.False → Stands w (node falsity ds) t k
  unfolding Keeps meaning
  falsity_stands ds t k e h =
      let p = over_some falsity (typing.sorts_of ds) k e in
      let is : boolean ≡ k = gives_that (are p.0 []) boolean k p.2 in
      let keeps : Keeps w t (node falsity tree.none) = (shape.False, boolean, h, tt, refl, tt) in
      record { stands = record { kept = node falsity tree.none; keeps = keeps; same = λ a. refl }; sort = tree_sort w table t (node falsity tree.none) k keeps (falsity_sort ∙ ap Some is) }

  constant_stands : (n : ℕ) (s : Sort) (ds : Trees) (t : Term) (k : Sort) → typed_over (constant n s) (typing.sorts_of ds) ≡ Some k → Keeps w t (node (constant n s) tree.none) → Stands w (node (constant n s) ds) t k
  unfolding meaning
  constant_stands n s ds t k e h =
      let p = over_some (constant n s) (typing.sorts_of ds) k e in
      let is = gives_both (are p.0 []) (is_sort s) s k p.2 in
      record { stands = record { kept = node (constant n s) tree.none; keeps = h; same = λ a. refl }; sort = tree_sort w table t (node (constant n s) tree.none) k h (constant_sort n s is.1 ∙ ap Some is.0) }

  -- an operator over terms that stand for trees
  inner_stands : (op : Op) (ds : Trees) (ts : List Term) (t : Term) (ks : List Sort) (k : Sort) → typed op ks ≡ Some k → StandAll w ds ts ks → IsMadeOf w op ts t → Stands w (node op ds) t k
  inner_stands op ds ts t ks k takes all made =
      let o : Operator = made.constructor in
      let e : typed (operator_of o) made.sorts ≡ Some k = ap (λ z. typed z made.sorts) made.is ∙ ap (typed op) (same_sorts w ts made.sorts ks made.have all.have) ∙ takes in
      let fits = call_fits known.typed o made.sorts k e in
      let fit : AreFit w (operator_of o) ts = record { sorts = made.sorts; have = made.have; fit = fits.0 } in
      let built : IsBuilt w w o ts t = call_built known w table o ts fit w table 0 (no_more 0 w) t made.made in
      let means : MeansCall w (operator_of o) all.kept t = built.means all.kept all.keep in
      record {
        stands = record {
          kept = means.tree;
          keeps = means.kept;
          same = λ a. means.same a ∙ ap (λ z. meaning (node z all.kept) a) made.is ∙ same_meaning op a all.kept ds all.first (all.same a);
        };
        sort = built.gives made.sorts k made.have fits.1;
      }

  node_stands : (op : Op) (ds : Trees) (t : Term) (k : Sort) → ((ts : List Term) (ks : List Sort) → typing.sorts_of ds ≡ Some ks → AreBuiltFor w ds ts → StandAll w ds ts ks) → typed_over op (typing.sorts_of ds) ≡ Some k
      → IsBuiltFor w (node op ds) t → Stands w (node op ds) t k
  unfolding IsBuiltFor
  node_stands truth ds t k all e h = truth_stands ds t k e h
  node_stands falsity ds t k all e h = falsity_stands ds t k e h
  node_stands (constant n s) ds t k all e h = constant_stands n s ds t k e h
  node_stands op ds t k all e h = let p = over_some op (typing.sorts_of ds) k e in inner_stands op ds h.0 t p.0 k p.2 (all h.0 p.0 p.1 h.1) h.2

  kept_sort : (t : Term) (b : Tree) (k : Sort) → Keeps w t b → HasSort w t k → sort_of b ≡ Some k
  kept_sort t b k h s = ap sort_of (sym (tree_is w table t b h)) ∙ (tree_sorted w table known.decided t k s).0

  none_stand : StandAll w tree.none [] []
  unfolding Keeps meaning
  none_stand = record { kept = tree.none; keep = tt; same = λ a. refl; first = refl; have = tt }

  more_stand : (d : Tree) (ds : Trees) (t : Term) (ts : List Term) (k : Sort) (ks : List Sort) → sort_of d ≡ Some k → Stands w d t k → StandAll w ds ts ks → StandAll w (tree.more d ds) (t ∷ ts) (k ∷ ks)
  unfolding Keeps meaning
  more_stand d ds t ts k ks e one all = record {
    kept = tree.more one.stands.kept all.kept;
    keep = (one.stands.keeps, all.keep);
    same = λ a. ap (λ v. v ∷ meanings all.kept a) (one.stands.same a) ∙ ap (λ vs. meaning d a ∷ vs) (all.same a);
    first = ap or_boolean (kept_sort t one.stands.kept k one.stands.keeps one.sort ∙ sym e);
    have = (one.sort, all.have);
  }

  mutual
    unfolding IsBuiltFor sort_of

    -- a well typed tree
    pub tree_stands : (d : Tree) (t : Term) (k : Sort) → sort_of d ≡ Some k → IsBuiltFor w d t → Stands w d t k
    tree_stands (node op ds) t k e h = node_stands op ds t k (λ ts ks f are. trees_stand ds ts ks f are) e h

    -- well typed trees
    pub trees_stand : (ds : Trees) (ts : List Term) (ks : List Sort) → typing.sorts_of ds ≡ Some ks → AreBuiltFor w ds ts → StandAll w ds ts ks
    trees_stand tree.none [] ks e h = subst (StandAll w tree.none []) (same_Some [] ks e) none_stand
    trees_stand tree.none (t ∷ ts) ks e h = absurd h
    trees_stand (tree.more d ds) [] ks e h = absurd h
    trees_stand (tree.more d ds) (t ∷ ts) ks e h =
        let p = both_some (sort_of d) (typing.sorts_of ds) ks e in subst (StandAll w (tree.more d ds) (t ∷ ts)) p.4 (more_stand d ds t ts p.0 p.1 p.2 (tree_stands d t p.0 p.2 h.0) (trees_stand ds ts p.1 p.3 h.1))

  -- the terms have the types by which the language checks the trees
  pub have_types : (ds : Trees) (ts : List Term) (ks : List Sort) → typing.sorts_of ds ≡ Some ks → AreBuiltFor w ds ts → HaveSorts w ts (sorts_of ds)
  have_types ds ts ks e are = subst (HaveSorts w ts) (sym (types_are ds ks e)) (trees_stand ds ts ks e are).have

  -- the term of an expression stands for its tree
  pub expression_stands : (s : Scope) → AreTyped s → (e : Expr) (d : Tree) → tree_of s e ≡ Ok d → (t : Term) → IsBuiltFor w d t → (k : Sort) × (sort_of d ≡ Some k) × StandsFor w d t × HasSort w t k
  expression_stands s scope e d is t built =
      let p = tree_typed known.typed s scope e d is in let h = tree_stands d t p.0 p.1 built in (p.0, p.1, h.stands, h.sort)
