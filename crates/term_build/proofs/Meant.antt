-- The tree of a sketch means what the sketch does, where each atom has the value of its tree.
use Rattle.std.proofs.Common.{◌≡◌, ◌∙◌, Bool, true, false, not, ◌&&◌, ◌||◌, List, [], ◌∷◌, map, refl, sym, ap, if◌then◌else◌}
use Rattle.std.specs.List.{list_all, list_any}
use Rattle.y_tree.specs.Sorts.{Sort}
use Rattle.y_tree.specs.Values as value
use Rattle.y_tree.specs.Values.{Value, same_value}
use Rattle.y_tree.specs.Tree.{Tree, node, none, more, truth, parity, equality}
use Rattle.y_tree.specs.Typing.{sort_of}
use Rattle.y_tree.specs.Meaning.{Assignment, meaning, meanings, truth_of, or_boolean, is_odd, are_distinct}
use Rattle.term_shapes.specs.declared.handles.Term.{Term}
use Rattle.term_sketches.specs.declared.items.Literal.{Literal}
use Rattle.term_sketches.specs.declared.items.Sketch.{Sketch}
use Rattle.term_sketches.specs.declared.items.Sketch.TheVariants as sketch
use Rattle.term_sketches.specs.Sketches.{the_truth, same_term}
use Rattle.term_sketches.specs.Valuing.{signed, literal_value, literal_truth, flagged, sketch_value}
use Rattle.term_sketches.proofs.Joins.{term_same}
use Rattle.term_build.proofs.Standing.{signed_tree, literal_tree, literal_trees, atom_trees, flagged_tree, sketch_tree}

pub and_true : (b : Bool) → (b && true) ≡ b
and_true true = refl
and_true false = refl

module _ (f : Term → Tree) (a : Assignment) (true_tree : f the_truth ≡ node truth none) where
  -- the value of a term
  abbrev pub value_at : Term → Value
  value_at t = meaning (f t) a

  -- the type of a term
  abbrev pub sort_at : Term → Sort
  sort_at t = or_boolean (sort_of (f t))

  signed_means : (u : Term) (n c : Bool) → same_term u the_truth ≡ c → meaning (signed_tree (f u) n c) a ≡ signed n (value_at u)
  unfolding meaning
  signed_means u false c e = refl
  signed_means u true true e = sym (ap (λ t. value.truth (not (truth_of (meaning t a)))) (ap f (term_same u the_truth e) ∙ true_tree))
  signed_means u true false e = ap (λ b. value.truth (not b)) (and_true (truth_of (value_at u)))

  pub literal_means : (l : Literal) → meaning (literal_tree f l) a ≡ literal_value value_at l
  literal_means l = signed_means l.atom l.negated (same_term l.atom the_truth) refl

  all_mean : (ls : List Literal) → list_all truth_of (meanings (literal_trees f ls) a) ≡ list_all (literal_truth value_at) ls
  unfolding meaning
  all_mean [] = refl
  all_mean (l ∷ ls) = ap (λ x. truth_of x && list_all truth_of (meanings (literal_trees f ls) a)) (literal_means l) ∙ ap (λ b. literal_truth value_at l && b) (all_mean ls)

  any_mean : (ls : List Literal) → list_any truth_of (meanings (literal_trees f ls) a) ≡ list_any (literal_truth value_at) ls
  unfolding meaning
  any_mean [] = refl
  any_mean (l ∷ ls) = ap (λ x. truth_of x || list_any truth_of (meanings (literal_trees f ls) a)) (literal_means l) ∙ ap (λ b. literal_truth value_at l || b) (any_mean ls)

  atoms_mean : (ts : List Term) → meanings (atom_trees f ts) a ≡ map value_at ts
  unfolding meaning
  atoms_mean [] = refl
  atoms_mean (t ∷ ts) = ap (λ vs. value_at t ∷ vs) (atoms_mean ts)

  truths_mean : (ts : List Term) → map truth_of (meanings (atom_trees f ts) a) ≡ map (λ t. truth_of (value_at t)) ts
  unfolding meaning
  truths_mean [] = refl
  truths_mean (t ∷ ts) = ap (λ bs. truth_of (value_at t) ∷ bs) (truths_mean ts)

  flagged_means : (b : Bool) (x : Tree) (y : Bool) → meaning x a ≡ value.truth y → meaning (flagged_tree b x) a ≡ value.truth (flagged b y)
  unfolding meaning
  flagged_means false x y e = e
  flagged_means true x y e = ap (λ v. value.truth (not (truth_of v && true))) e ∙ ap (λ b. value.truth (not b)) (and_true y)

  parity_means : (ts : List Term) → meaning (node parity (atom_trees f ts)) a ≡ value.truth (is_odd (map (λ t. truth_of (value_at t)) ts))
  unfolding meaning
  parity_means ts = ap (λ bs. value.truth (is_odd bs)) (truths_mean ts)

  equal_means : (t u : Term) → meaning (node equality (more (f t) (more (f u) none))) a ≡ value.truth (same_value (sort_at t) (value_at t) (value_at u))
  unfolding meaning
  equal_means t u = refl

  pub sketch_means : (sk : Sketch) → meaning (sketch_tree f sk) a ≡ sketch_value value_at sort_at sk
  unfolding meaning
  sketch_means (sketch.OneLiteral l) = literal_means l
  sketch_means (sketch.AllOf ls) = ap value.truth (all_mean ls)
  sketch_means (sketch.AnyOf ls) = ap value.truth (any_mean ls)
  sketch_means (sketch.OddOf b ts) = flagged_means b (node parity (atom_trees f ts)) (is_odd (map (λ t. truth_of (value_at t)) ts)) (parity_means ts)
  sketch_means (sketch.OneOf x l m) =
      ap (λ v. if truth_of (value_at x) then v else meaning (literal_tree f m) a) (literal_means l) ∙ ap (λ v. if truth_of (value_at x) then literal_value value_at l else v) (literal_means m)
  sketch_means (sketch.Equal b t u) = flagged_means b (node equality (more (f t) (more (f u) none))) (same_value (sort_at t) (value_at t) (value_at u)) (equal_means t u)
  sketch_means (sketch.Apart []) = refl
  sketch_means (sketch.Apart (t ∷ ts)) = ap (λ vs. value.truth (are_distinct (sort_at t) vs)) (atoms_mean (t ∷ ts))
