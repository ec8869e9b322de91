-- What stands below the term of an expression over truth values is a truth value, and no variable.
use Rattle.std.proofs.Common.{◌≡◌, ◌∙◌, ℕ, zero, suc, Bool, true, false, ◌⊎◌, inl, inr, List, [], ◌∷◌, ◌++◌, map, Option, Some, None, Result, Ok, Err, refl, sym, ap, subst, if◌then◌else◌}
use Rattle.std.specs.Prelude.{slice_get}
use Rattle.std.specs.Str.{bytes_eq}
use Rattle.std.proofs.lemmas.Option.{same_Some}
use Rattle.y_tree.specs.Sorts.{Sort, boolean, same_sort}
use Rattle.y_tree.specs.Tree.{Op, truth, falsity, constant, application, update, Tree, Trees, node}
use Rattle.y_tree.specs.Tree as tree
use Rattle.y_tree.specs.Typing.{typed, typed_over, only_if, are, are_some, sort_of}
use Rattle.y_tree.specs.Typing as typing
use Rattle.y_tree.specs.Misfits.{Misfit, misfit_of}
use Rattle.y_tree.specs.Laws.{FitsAreTyped}
use Rattle.std.specs.List.{list_all}
use Rattle.term_shapes.specs.declared.handles.Term.{Term}
use Rattle.term_shapes.specs.declared.shapes.Shape.{Shape}
use Rattle.term_shapes.specs.declared.shapes.Shape.TheVariants as shape
use Rattle.term_shapes.specs.declared.shapes.Node.{Node}
use Rattle.term_shapes.specs.Shapes.{op_of, args_of}
use Rattle.std.specs.Option.{option_map}
use Rattle.term_table.specs.World.{World, node_at, shape_at, HasShape, KeepsType, Keeps, KeepsAll, IsTable}
use Rattle.term_table.specs.Checking.{HasSort}
use Rattle.term_table.proofs.Adding.{some_node}
use Rattle.term_orders.specs.Orders.{IsBelow, IsVariable}
use Rattle.term_orders.specs.Orders.IsBelow.{itself as at_term, argument}
use Rattle.term_sketches.specs.declared.items.Literal.{Literal}
use Rattle.term_sketches.specs.declared.items.Sketch.{Sketch}
use Rattle.term_sketches.specs.declared.items.Sketch.TheVariants as sketch
use Rattle.term_sketches.specs.Sketches.{the_truth, same_term, plain, sketch_of}
use Rattle.term_sketches.specs.Valuing.{are_truths, parts_of, IsAtomOf, AreAtomsOf, SketchesAreMadeOf}
use Rattle.term_build.specs.Building.{the_falsity, literal_of, literal_at, IsSigned, IsLiteral, AreLiterals, IsFlagged, IsMade, IsIn, itself, below, IsInSome, first, later, AreKnown}
use Rattle.yices_grammar.specs.declared.Place.{Place}
use Rattle.yices_grammar.specs.Commands.{Expr, expr_at, Exprs, no_exprs, more_exprs, Binds, no_binds, more_binds, true_word, false_word, name, operation, let_in, apply}
use Rattle.yices_grammar.specs.Commands as form
use Rattle.expression_terms.specs.Trees.{Scope, Cause, tree_named, operator_words, op_in, sorts_of, known, join, unless_misfit, over, names_of, repeated, bind, unless_twice, within, tree_of, trees_of, trees_before, bindings_of}
use Rattle.expression_terms.specs.Standing.{IsMadeOf, IsBuiltFor, AreBuiltFor, IsBoolean}
use Rattle.expression_terms.specs.Building.{AreBoolean}
use Rattle.expression_terms.proofs.Stands.{tree_stands}
use Rattle.expression_terms.proofs.Booleans.{tree_boolean}

-- whatever is below the term is a truth value and no variable
abbrev pub IsPropositional : World → Term → Type 0
IsPropositional w t = (u : Term) → IsBelow w u t → HasSort w u boolean × (IsVariable w u → ⊥)

-- so is each term of the list
abbrev pub ArePropositional : World → List Term → Type 0
ArePropositional w ts = (i : ℕ) (u : Term) → slice_get ts i ≡ Some u → IsPropositional w u

-- whatever is in the tree is a truth value
abbrev pub IsAllBoolean : Tree → Type 0
IsAllBoolean d = (a : Tree) → IsIn a d → IsBoolean a

abbrev pub AreAllBoolean : Trees → Type 0
AreAllBoolean ds = (a : Tree) → IsInSome a ds → IsBoolean a

-- the shape is one that truth values alone have
abbrev IsTruthShape : Shape → Type 0
IsTruthShape shape.True = Unit {0}
IsTruthShape shape.False = Unit {0}
IsTruthShape (shape.Not t) = Unit {0}
IsTruthShape (shape.And ts) = Unit {0}
IsTruthShape (shape.Or ts) = Unit {0}
IsTruthShape (shape.Xor ts) = Unit {0}
IsTruthShape (shape.Eq t u) = Unit {0}
IsTruthShape (shape.Distinct ts) = Unit {0}
IsTruthShape _ = ⊥

-- the shape is none of a variable
abbrev IsNoVariable : Shape → Type 0
IsNoVariable (shape.Var n of) = ⊥
IsNoVariable _ = Unit {0}

-- its operator gives truth values
gives_that : (b : Bool) (s k : Sort) → only_if b s ≡ Some k → k ≡ s
gives_that true s k h = sym (same_Some s k h)
gives_that false s k h = absurd (cc h)

gives_truth : (s : Shape) (l : Sort) (ks : List Sort) (k : Sort) → IsTruthShape s → typed (op_of s l) ks ≡ Some k → k ≡ boolean
gives_truth shape.True l ks k is h = gives_that (are ks []) boolean k h
gives_truth shape.False l ks k is h = gives_that (are ks []) boolean k h
gives_truth (shape.Not t) l ks k is h = gives_that (are ks (boolean ∷ [])) boolean k h
gives_truth (shape.And ts) l ks k is h = gives_that (are_some boolean ks) boolean k h
gives_truth (shape.Or ts) l ks k is h = gives_that (are_some boolean ks) boolean k h
gives_truth (shape.Xor ts) l ks k is h = gives_that (are_some boolean ks) boolean k h
gives_truth (shape.Eq t u) l [] k is h = absurd (cc h)
gives_truth (shape.Eq t u) l (a ∷ []) k is h = absurd (cc h)
gives_truth (shape.Eq t u) l (a ∷ b ∷ []) k is h = gives_that (same_sort a b) boolean k h
gives_truth (shape.Eq t u) l (a ∷ b ∷ c ∷ ks) k is h = absurd (cc h)
gives_truth (shape.Distinct ts) l [] k is h = absurd (cc h)
gives_truth (shape.Distinct ts) l (a ∷ ks) k is h = gives_that (list_all (same_sort a) ks) boolean k h
gives_truth _ l ks k is h = absurd is

over_some : (op : Op) (o : Option (List Sort)) (k : Sort) → typed_over op o ≡ Some k → (ks : List Sort) × (typed op ks ≡ Some k)
over_some op None k h = absurd (cc h)
over_some op (Some ks) k h = (ks, h)

module _ (w : World) (table : IsTable w) where
  -- the tree of a term with such a shape has that type
  kept_truth : (t : Term) (s : Shape) (a : Tree) (k : Sort) → HasShape w t s → IsTruthShape s → Keeps w t a → sort_of a ≡ Some k → k ≡ boolean
  unfolding Keeps sort_of
  kept_truth t s (node op ds) k has is (r, l, shaped, names, same, args) e =
      let p = over_some op (typing.sorts_of ds) k e in gives_truth r l p.0 k (subst IsTruthShape (same_Some s r (sym has ∙ shaped)) is) (ap (λ o. typed o p.0) same ∙ p.1)

  shape_sorted : (t : Term) (s : Shape) → HasShape w t s → IsTruthShape s → HasSort w t boolean
  shape_sorted t s has is =
      let n = some_node (node_at w t) s has in
      let g = table.grounded t n.0 n.1 in
      (n.0.of, ap (option_map (λ (z : Node). z.of)) n.1, subst (KeepsType w n.0.of) (kept_truth t s g.0 g.1 has is g.2 g.4) g.3)

  no_variable : (t : Term) (s : Shape) → HasShape w t s → IsNoVariable s → IsVariable w t → ⊥
  no_variable t s has is v = subst IsNoVariable (same_Some s (shape.Var v.number v.of) (sym has ∙ v.has)) is

  -- what is below a term is the term, or below one of its arguments
  over_arguments : (t : Term) (s : Shape) → HasShape w t s → IsNoVariable s → HasSort w t boolean → ArePropositional w (args_of s) → IsPropositional w t
  over_arguments t s has is sort all u at_term = (sort, no_variable u s has is)
  over_arguments t s has is sort all u (argument v r b a) = all a.place v (ap (λ z. slice_get (args_of z) a.place) (same_Some s a.form (sym has ∙ a.has)) ∙ a.at) u b

  truth_no_variable : (s : Shape) → IsTruthShape s → IsNoVariable s
  truth_no_variable (shape.Var n of) is = is
  truth_no_variable _ is = tt

  shape_propositional : (t : Term) (s : Shape) → HasShape w t s → IsTruthShape s → ArePropositional w (args_of s) → IsPropositional w t
  shape_propositional t s has is all = over_arguments t s has (truth_no_variable s is) (shape_sorted t s has is) all

  none_are : ArePropositional w []
  none_are i u at = absurd (cc at)

  one_is : (t : Term) → IsPropositional w t → ArePropositional w (t ∷ [])
  one_is t p zero u at = subst (IsPropositional w) (same_Some t u at) p
  one_is t p (suc i) u at = absurd (cc at)

  more_are : (t : Term) (ts : List Term) → IsPropositional w t → ArePropositional w ts → ArePropositional w (t ∷ ts)
  more_are t ts p all zero u at = subst (IsPropositional w) (same_Some t u at) p
  more_are t ts p all (suc i) u at = all i u at

  truth_is : IsPropositional w the_truth
  truth_is = shape_propositional the_truth shape.True table.permanents.truth tt none_are

  falsity_is : IsPropositional w the_falsity
  falsity_is = shape_propositional the_falsity shape.False table.permanents.falsity tt none_are

  -- the atoms of literals are so
  abbrev AtomsAre : List Literal → Type 0
  AtomsAre [] = Unit {0}
  AtomsAre (l ∷ ls) = IsPropositional w l.atom × AtomsAre ls

  signed_is : (t u : Term) (n c : Bool) → IsSigned w t u n c → IsPropositional w u → IsPropositional w t
  signed_is t u false c h p = subst (IsPropositional w) (sym h) p
  signed_is t u true true h p = subst (IsPropositional w) (sym h) falsity_is
  signed_is t u true false h p = shape_propositional t (shape.Not u) h tt (one_is u p)

  literal_is : (t : Term) (l : Literal) → IsLiteral w t l → IsPropositional w l.atom → IsPropositional w t
  literal_is t l h p = signed_is t l.atom l.negated (same_term l.atom the_truth) h.1 p

  literals_are : (ts : List Term) (ls : List Literal) → AreLiterals w ts ls → AtomsAre ls → ArePropositional w ts
  literals_are [] [] h p = none_are
  literals_are [] (l ∷ ls) h p = absurd h
  literals_are (t ∷ ts) [] h p = absurd h
  literals_are (t ∷ ts) (l ∷ ls) h p = more_are t ts (literal_is t l h.0 p.0) (literals_are ts ls h.1 p.1)

  plain_are : (ts : List Term) → AtomsAre (map plain ts) → ArePropositional w ts
  plain_are [] p = none_are
  plain_are (t ∷ ts) p = more_are t ts p.0 (plain_are ts p.1)

  flagged_is : (t : Term) (b : Bool) (s : Shape) → IsFlagged w t b s → IsTruthShape s → ArePropositional w (args_of s) → IsPropositional w t
  flagged_is t false s h is all = shape_propositional t s h is all
  flagged_is t true s (u, inner, outer) is all = shape_propositional t (shape.Not u) outer tt (one_is u (shape_propositional u s inner is all))

  -- what a sketch of such atoms makes is so, where it is a truth value
  pub made_propositional : (t : Term) (sk : Sketch) → IsMade w t sk → HasSort w t boolean → AtomsAre (parts_of sk) → IsPropositional w t
  made_propositional t (sketch.OneLiteral l) h sort p = literal_is t l h p.0
  made_propositional t (sketch.AllOf ls) (ts, has, are) sort p = shape_propositional t (shape.And ts) has tt (literals_are ts ls are p)
  made_propositional t (sketch.AnyOf ls) (ts, has, are) sort p = shape_propositional t (shape.Or ts) has tt (literals_are ts ls are p)
  made_propositional t (sketch.OddOf b ts) h sort p = flagged_is t b (shape.Xor ts) h tt (plain_are ts p)
  made_propositional t (sketch.OneOf x a b) (u, v, has, ua, vb) sort p =
      over_arguments t (shape.Ite x u v) has tt sort (more_are x (u ∷ v ∷ []) p.0 (more_are u (v ∷ []) (literal_is u a ua p.1.0) (one_is v (literal_is v b vb p.1.1.0))))
  made_propositional t (sketch.Equal b x y) h sort p = flagged_is t b (shape.Eq x y) h tt (more_are x (y ∷ []) p.0 (one_is y p.1.0))
  made_propositional t (sketch.Apart ts) h sort p = shape_propositional t (shape.Distinct ts) h tt (plain_are ts p)

  -- the atom of a term as a literal is the term, below it, or truth
  by_shape : (t : Term) (s : Shape) → HasShape w t s → IsPropositional w t → IsPropositional w (literal_of t (Some s)).atom
  by_shape t (shape.Not u) has p = λ v b. p v (argument u t b (record { form = shape.Not u; has = has; place = 0; at = refl }))
  by_shape t shape.False has p = truth_is
  by_shape t _ has p = p

  under_shape : (t : Term) (o : Option Shape) → shape_at w t ≡ o → IsPropositional w t → IsPropositional w (literal_of t o).atom
  under_shape t None e p = p
  under_shape t (Some s) e p = by_shape t s e p

  atoms_are : (us : List Term) → ArePropositional w us → AtomsAre (map (literal_at w) us)
  atoms_are [] all = tt
  atoms_are (u ∷ us) all = (under_shape u (shape_at w u) refl (all 0 u refl), atoms_are us (λ i. all (suc i)))

  -- a sketch has no other atoms than its literals, and truth
  atom_is : (ls : List Literal) (t : Term) → AtomsAre ls → IsAtomOf ls t → IsPropositional w t
  atom_is [] t p e = subst (IsPropositional w) (sym e) truth_is
  atom_is (l ∷ ls) t p (inl e) = subst (IsPropositional w) (sym e) p.0
  atom_is (l ∷ ls) t p (inr h) = atom_is ls t p.1 h

  all_atoms : (ls ms : List Literal) → AtomsAre ls → AreAtomsOf ls ms → AtomsAre ms
  all_atoms ls [] p h = tt
  all_atoms ls (m ∷ ms) p h = (atom_is ls m.atom p h.0, all_atoms ls ms p h.1)

  -- what a constructor makes of such terms is so, where it is a truth value
  pub made_of_propositional : SketchesAreMadeOf → (op : Op) (us : List Term) (t : Term) → IsMadeOf w op us t → ArePropositional w us → HasSort w t boolean → IsPropositional w t
  made_of_propositional law op us t p all sort =
      let ls : List Literal = map (literal_at w) us in
      let sk : Sketch = sketch_of p.constructor (are_truths p.sorts) ls in
      made_propositional t sk p.made sort (all_atoms ls (parts_of sk) (atoms_are us all) (law p.constructor (are_truths p.sorts) ls))

  -- a constant
  no_arguments : (ts : List Term) → KeepsAll w ts tree.none → ArePropositional w ts
  unfolding Keeps
  no_arguments [] h = none_are
  no_arguments (t ∷ ts) h = absurd h

  constant_shape : (s : Shape) (l : Sort) (n : ℕ) (k : Sort) → op_of s l ≡ constant n k → IsNoVariable s
  constant_shape (shape.Var m of) l n k e = cc e
  constant_shape _ l n k e = tt

  constant_is : (n : ℕ) (k : Sort) (t : Term) → Keeps w t (node (constant n k) tree.none) → HasSort w t boolean → IsPropositional w t
  unfolding Keeps
  constant_is n k t (s, l, has, names, is, args) sort = over_arguments t s has (constant_shape s l n k is) sort (no_arguments (args_of s) args)

  node_propositional : SketchesAreMadeOf → (op : Op) (ds : Trees) (t : Term) → HasSort w t boolean → ((us : List Term) → AreBuiltFor w ds us → ArePropositional w us) → IsBuiltFor w (node op ds) t → IsPropositional w t
  unfolding IsBuiltFor
  node_propositional law truth ds t sort all h = shape_propositional t shape.True h tt none_are
  node_propositional law falsity ds t sort all h = shape_propositional t shape.False h tt none_are
  node_propositional law (constant n k) ds t sort all h = constant_is n k t h sort
  node_propositional law op ds t sort all h = made_of_propositional law op h.0 t h.2 (all h.0 h.1) sort

  module _ (laws : AreKnown) where
    mutual
      unfolding IsBuiltFor

      -- what was built for a tree of truth values is so
      pub built_propositional : (d : Tree) (t : Term) → IsAllBoolean d → IsBuiltFor w d t → IsPropositional w t
      built_propositional (node op ds) t all h =
          node_propositional laws.made op ds t (tree_stands laws w table (node op ds) t boolean (all (node op ds) (itself (node op ds))) h).sort (λ us are. all_propositional ds us (λ a is. all a (below a op ds is)) are) h

      pub all_propositional : (ds : Trees) (ts : List Term) → AreAllBoolean ds → AreBuiltFor w ds ts → ArePropositional w ts
      all_propositional tree.none [] all h = none_are
      all_propositional tree.none (t ∷ ts) all h = absurd h
      all_propositional (tree.more d ds) [] all h = absurd h
      all_propositional (tree.more d ds) (t ∷ ts) all h = more_are t ts (built_propositional d t (λ a is. all a (first a d ds is)) h.0) (all_propositional ds ts (λ a is. all a (later a d ds is)) h.1)

-- whatever is in the tree of each name is a truth value
abbrev pub AreAllTruths : Scope → Type 0
AreAllTruths s = (v : List ℕ) (d : Tree) → tree_named s v ≡ Some d → IsAllBoolean d

pub truths_boolean : (s : Scope) → AreAllTruths s → AreBoolean s
truths_boolean s scope v d e = scope v d e d (itself d)

-- so it is in what is read, where that is there
abbrev AllIf : Result Tree Cause → Type 0
AllIf (Ok d) = IsAllBoolean d
AllIf (Err e) = Unit {0}

abbrev EachIf : Result Trees Cause → Type 0
EachIf (Ok ds) = AreAllBoolean ds
EachIf (Err e) = Unit {0}

abbrev Each : Scope → Type 0
Each [] = Unit {0}
Each (n ∷ ns) = IsAllBoolean n.1 × Each ns

abbrev NamesIf : Result Scope Cause → Type 0
NamesIf (Ok ns) = Each ns
NamesIf (Err e) = Unit {0}

-- what is in a tree is the tree itself, or in one below it
abbrev children : Tree → Trees
children (node op ds) = ds

in_cases : (a d : Tree) → IsIn a d → (a ≡ d) ⊎ IsInSome a (children d)
in_cases a d (itself b) = inl refl
in_cases a d (below b op ds h) = inr h

abbrev InFirst : Tree → Trees → Type 0
InFirst a tree.none = ⊥
InFirst a (tree.more d ds) = IsIn a d ⊎ IsInSome a ds

some_cases : (a : Tree) (ds : Trees) → IsInSome a ds → InFirst a ds
some_cases a ds (first x d es h) = inl h
some_cases a ds (later x d es h) = inr h

node_all : (op : Op) (ds : Trees) → IsBoolean (node op ds) → AreAllBoolean ds → IsAllBoolean (node op ds)
node_all op ds whole all a is = by (in_cases a (node op ds) is)
  where
    by : (a ≡ node op ds) ⊎ IsInSome a ds → IsBoolean a
    by (inl e) = subst IsBoolean (sym e) whole
    by (inr h) = all a h

-- trees in a list are so where each is
none_all : AreAllBoolean tree.none
none_all a is = absurd (some_cases a tree.none is)

more_all : (d : Tree) (ds : Trees) → IsAllBoolean d → AreAllBoolean ds → AreAllBoolean (tree.more d ds)
more_all d ds one all a is = by (some_cases a (tree.more d ds) is)
  where
    by : IsIn a d ⊎ IsInSome a ds → IsBoolean a
    by (inl h) = one a h
    by (inr h) = all a h

-- names in front of others, and each step of reading an expression
named_by : (b : Bool) (x : Tree) (rest : Option Tree) → IsAllBoolean x → ((d : Tree) → rest ≡ Some d → IsAllBoolean d) → (d : Tree) → (if b then Some x else rest) ≡ Some d → IsAllBoolean d
named_by true x rest here there d e = subst IsAllBoolean (same_Some x d e) here
named_by false x rest here there d e = there d e

names_all : (ns s : Scope) → Each ns → AreAllTruths s → AreAllTruths (ns ++ s)
names_all [] s all scope v d e = scope v d e
names_all (n ∷ ns) s all scope v d e = named_by (bytes_eq v n.0) n.1 (tree_named (ns ++ s) v) all.0 (λ x f. names_all ns s all.1 scope v x f) d e

known_all : (at : Place) (v : List ℕ) (o : Option Tree) → ((d : Tree) → o ≡ Some d → IsAllBoolean d) → AllIf (known at v o)
known_all at v None h = tt
known_all at v (Some d) h = h d refl

join_all : (t : Result Tree Cause) (ts : Result Trees Cause) → AllIf t → EachIf ts → EachIf (join t ts)
join_all (Err e) ts h g = tt
join_all (Ok t) (Err e) h g = tt
join_all (Ok t) (Ok ts) h g = more_all t ts h g

unless_all : (at : Place) (op : Op) (ds : Trees) (m : Option Misfit) → ((d : Tree) → unless_misfit at (node op ds) m ≡ Ok d → IsBoolean d) → AreAllBoolean ds → AllIf (unless_misfit at (node op ds) m)
unless_all at op ds None whole all = node_all op ds (whole (node op ds) refl) all
unless_all at op ds (Some m) whole all = tt

over_all : (at : Place) (op : Option Op) (ts : Result Trees Cause) → ((d : Tree) → over at op ts ≡ Ok d → IsBoolean d) → EachIf ts → AllIf (over at op ts)
over_all at None (Err e) whole h = tt
over_all at (Some op) (Err e) whole h = tt
over_all at None (Ok ds) whole h = tt
over_all at (Some op) (Ok ds) whole h = unless_all at op ds (misfit_of op (sorts_of ds)) whole h

bind_all : (v : List ℕ) (t : Result Tree Cause) (ns : Result Scope Cause) → AllIf t → NamesIf ns → NamesIf (bind v t ns)
bind_all v (Err e) ns h g = tt
bind_all v (Ok t) (Err e) h g = tt
bind_all v (Ok t) (Ok ns) h g = (h, g)

twice_all : (at : Place) (o : Option (List ℕ)) (ns : Result Scope Cause) → NamesIf ns → NamesIf (unless_twice at o ns)
twice_all at None ns h = h
twice_all at (Some v) ns h = tt

within_all : (ns : Result Scope Cause) (read : Scope → Result Tree Cause) → NamesIf ns → ((ns : Scope) → Each ns → AllIf (read ns)) → AllIf (within ns read)
within_all (Err e) read h inside = tt
within_all (Ok ns) read h inside = inside ns h

truth_all : IsAllBoolean (node truth tree.none)
unfolding sort_of same_sort
truth_all = node_all truth tree.none refl none_all

falsity_all : IsAllBoolean (node falsity tree.none)
unfolding sort_of same_sort
falsity_all = node_all falsity tree.none refl none_all

-- a constant that is a truth value
pub constant_all : (n : ℕ) → IsAllBoolean (node (constant n boolean) tree.none)
unfolding sort_of same_sort
constant_all n = node_all (constant n boolean) tree.none refl none_all

-- one more name
pub name_all : (s : Scope) (v : List ℕ) (d : Tree) → IsAllBoolean d → AreAllTruths s → AreAllTruths ((v, d) ∷ s)
name_all s v d h scope = names_all ((v, d) ∷ []) s (h, tt) scope

module _ (law : FitsAreTyped) where
  whole_of : (s : Scope) → AreAllTruths s → (e : Expr) (d : Tree) → tree_of s e ≡ Ok d → IsBoolean d
  whole_of s scope = tree_boolean law s (truths_boolean s scope)

  mutual
    unfolding tree_of

    expr_all : (s : Scope) → AreAllTruths s → (e : Expr) → AllIf (tree_of s e)
    expr_all s scope (expr_at at true_word) = truth_all
    expr_all s scope (expr_at at false_word) = falsity_all
    expr_all s scope (expr_at at (name v)) = known_all at v (tree_named s v) (λ d e. scope v d e)
    expr_all s scope (expr_at at (form.number v)) = tt
    expr_all s scope (expr_at at (form.binary v)) = tt
    expr_all s scope (expr_at at (form.hex v)) = tt
    expr_all s scope (expr_at at (operation v es)) = over_all at (op_in operator_words v) (trees_of s es) (whole_of s scope (expr_at at (operation v es))) (exprs_all s scope es)
    expr_all s scope (expr_at at (form.mk_bv v x)) = tt
    expr_all s scope (expr_at at (form.extract v x e)) = tt
    expr_all s scope (expr_at at (form.counted v e x)) = tt
    expr_all s scope (expr_at at (form.update f es v)) =
        over_all at (Some update) (join (tree_of s f) (trees_before s es (tree_of s v))) (whole_of s scope (expr_at at (form.update f es v)))
        (join_all (tree_of s f) (trees_before s es (tree_of s v)) (expr_all s scope f) (before_all s scope es (tree_of s v) (expr_all s scope v)))
    expr_all s scope (expr_at at (let_in bs e)) =
        within_all (unless_twice at (repeated (names_of bs)) (bindings_of s bs)) (λ ns. tree_of (ns ++ s) e)
        (twice_all at (repeated (names_of bs)) (bindings_of s bs) (binds_all s scope bs))
        (λ ns all. expr_all (ns ++ s) (names_all ns s all scope) e)
    expr_all s scope (expr_at at (form.forall_in ds e)) = tt
    expr_all s scope (expr_at at (apply f es)) =
        over_all at (Some application) (join (tree_of s f) (trees_of s es)) (whole_of s scope (expr_at at (apply f es))) (join_all (tree_of s f) (trees_of s es) (expr_all s scope f) (exprs_all s scope es))

    exprs_all : (s : Scope) → AreAllTruths s → (es : Exprs) → EachIf (trees_of s es)
    exprs_all s scope no_exprs = none_all
    exprs_all s scope (more_exprs e es) = join_all (tree_of s e) (trees_of s es) (expr_all s scope e) (exprs_all s scope es)

    before_all : (s : Scope) → AreAllTruths s → (es : Exprs) (last : Result Tree Cause) → AllIf last → EachIf (trees_before s es last)
    before_all s scope no_exprs last h = join_all last (Ok tree.none) h none_all
    before_all s scope (more_exprs e es) last h = join_all (tree_of s e) (trees_before s es last) (expr_all s scope e) (before_all s scope es last h)

    binds_all : (s : Scope) → AreAllTruths s → (bs : Binds) → NamesIf (bindings_of s bs)
    binds_all s scope no_binds = tt
    binds_all s scope (more_binds v e bs) = bind_all v (tree_of s e) (bindings_of s bs) (expr_all s scope e) (binds_all s scope bs)

  -- whatever is in the tree of an expression over such names is a truth value
  pub expression_all : (s : Scope) → AreAllTruths s → (e : Expr) (d : Tree) → tree_of s e ≡ Ok d → IsAllBoolean d
  expression_all s scope e d is = subst AllIf is (expr_all s scope e)

  -- so it is where `let` binds more names
  pub let_all : (s : Scope) → AreAllTruths s → (bs : Binds) (ns : Scope) → bindings_of s bs ≡ Ok ns → AreAllTruths (ns ++ s)
  let_all s scope bs ns is = names_all ns s (subst NamesIf is (binds_all s scope bs)) scope

-- what stands below the term of an expression over such names is a truth value, and no variable
pub expression_propositional : AreKnown → (w : World) → IsTable w → (s : Scope) → AreAllTruths s → (e : Expr) (d : Tree) → tree_of s e ≡ Ok d → (t : Term) → IsBuiltFor w d t → IsPropositional w t
expression_propositional laws w table s scope e d is t built = built_propositional w table laws d t (expression_all laws.typed s scope e d is) built
