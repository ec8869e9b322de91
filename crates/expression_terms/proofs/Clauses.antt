-- One expression, from its parts to the whole.
use Rattle.std.proofs.Common.{◌≡◌, ◌∙◌, ℕ, ◌+◌, inl, List, [], ◌∷◌, ◌++◌, length, Option, Some, None, Result, Ok, Err, refl, sym, ap, subst, arith}
use Rattle.std.specs.Prelude.{IsSome}
use Rattle.std.proofs.lemmas.Option.{same_Some}
use Rattle.y_tree.specs.Sorts.{Sort}
use Rattle.y_tree.specs.Tree.{Op, truth, falsity, Tree, Trees, node, count}
use Rattle.y_tree.specs.Tree as tree
use Rattle.y_tree.specs.Misfits.{Misfit, bad_arity, misfit_of}
use Rattle.term_shapes.specs.declared.handles.Term.{Term}
use Rattle.term_shapes.specs.declared.shapes.Shape.TheVariants as shape
use Rattle.term_table.specs.World.{World, node_at, HasShape, IsTable}
use Rattle.term_table.specs.Checking.{HaveSorts}
use Rattle.term_orders.specs.Orders.{IsBelow}
use Rattle.term_sketches.specs.declared.items.Operator.{Operator}
use Rattle.term_sketches.specs.declared.items.Operator.TheVariants as operator
use Rattle.term_sketches.specs.Sketches.{operator_of}
use Rattle.term_build.specs.Building.{AddsAtMost, IsBuilt, AreFit, AreKnown, IsEmptyCall, call_misfit}
use Rattle.term_build.proofs.Growing.{at_most_more}
use Rattle.yices_grammar.specs.declared.Place.{Place}
use Rattle.yices_grammar.specs.Commands.{Expr, expr_at, Exprs, Binds, true_word, false_word, name, operation, let_in}
use Rattle.expression_terms.specs.declared.refusal.Refusal.TheVariants as refusal
use Rattle.expression_terms.specs.Trees.{Scope, Cause, tree_named, operator_words, op_in, sorts_of, told, wrong, known, unless_misfit, over, names_of, repeated, unless_twice, within, tree_of, trees_of, bindings_of}
use Rattle.expression_terms.specs.Standing.{IsBuiltFor, AreBuiltFor}
use Rattle.expression_terms.specs.Growth.{if_there, where_bound, written_trees, all_trees, bound_trees}
use Rattle.expression_terms.specs.Fresh.{need, AreAmong, GrowsPast}
use Rattle.expression_terms.specs.Building.{Named, term_named, AreNamed}
use Rattle.expression_terms.specs.Parts.{BuildsOne, BuildsAll, BindsAll}
use Rattle.expression_terms.proofs.One.{same_sorts}
use Rattle.expression_terms.proofs.Grown.{built_count, grows_none, grows_among, grows_then, call_builds, call_grows}
use Rattle.expression_terms.proofs.Enough.{refused_past, past_among, past_then, among_back, among_front, among_swapped}
use Rattle.expression_terms.proofs.WellTyped.{AreTyped, trees_typed}
use Rattle.expression_terms.proofs.Stands.{have_types}

pub one_true : (s : Scope) (w : World) (e : Expr) (at : Place) (t : Term) → e ≡ expr_at at true_word → HasShape w t shape.True → BuildsOne s w w e t
unfolding tree_of IsBuiltFor
one_true s w e at t form h = record { tree = node truth tree.none; is = ap (tree_of s) form; built = h; grows = grows_none (written_trees s e) w }

pub one_false : (s : Scope) (w : World) (e : Expr) (at : Place) (t : Term) → e ≡ expr_at at false_word → HasShape w t shape.False → BuildsOne s w w e t
unfolding tree_of IsBuiltFor
one_false s w e at t form h = record { tree = node falsity tree.none; is = ap (tree_of s) form; built = h; grows = grows_none (written_trees s e) w }

module _ (s : Scope) (w : World) (names : Named) (named : AreNamed w s names) (e : Expr) (at : Place) (v : List ℕ) (form : e ≡ expr_at at (name v)) where
  known_by : (t : Term) → term_named names v ≡ Some t → (o : Option Tree) → tree_named s v ≡ o → (d : Tree) × (known at v o ≡ Ok d) × IsBuiltFor w d t
  known_by t h None f = absurd (cc (sym (named.unknown v f) ∙ h))
  known_by t h (Some d) f = let k = named.known v d f in (d, refl, subst (IsBuiltFor w d) (same_Some k.0 t (sym k.1 ∙ h)) k.2)

  pub one_name : (t : Term) → term_named names v ≡ Some t → BuildsOne s w w e t
  unfolding tree_of
  one_name t h = let p = known_by t h (tree_named s v) refl in record { tree = p.0; is = ap (tree_of s) form ∙ p.1; built = p.2; grows = grows_none (written_trees s e) w }

  unknown_by : term_named names v ≡ None → (o : Option Tree) → tree_named s v ≡ o → known at v o ≡ wrong at (refusal.UnknownName v)
  unknown_by h None f = refl
  unknown_by h (Some d) f = let k = named.known v d f in absurd (cc (sym h ∙ k.1))

  pub unknown_name : term_named names v ≡ None → tree_of s e ≡ wrong at (refusal.UnknownName v)
  unfolding tree_of
  unknown_name h = ap (tree_of s) form ∙ unknown_by h (tree_named s v) refl

over_wrong : (at : Place) (op : Option Op) (c : Cause) → over at op (Err c) ≡ Err c
over_wrong at None c = refl
over_wrong at (Some op) c = refl

-- what is wrong with a call is what is wrong with its operator, but where that has no arguments
row_is : (o : Operator) (w : World) (ts : List Term) (ks : List Sort) → HaveSorts w ts ks → (IsEmptyCall (operator_of o) ts → ⊥) → call_misfit (operator_of o) ks ≡ misfit_of (operator_of o) ks
row_is operator.Not w ts ks h full = refl
row_is operator.And w [] ks h full = absurd (full tt)
row_is operator.And w (t ∷ ts) [] h full = absurd h
row_is operator.And w (t ∷ ts) (k ∷ ks) h full = refl
row_is operator.Or w [] ks h full = absurd (full tt)
row_is operator.Or w (t ∷ ts) [] h full = absurd h
row_is operator.Or w (t ∷ ts) (k ∷ ks) h full = refl
row_is operator.Xor w [] ks h full = absurd (full tt)
row_is operator.Xor w (t ∷ ts) [] h full = absurd h
row_is operator.Xor w (t ∷ ts) (k ∷ ks) h full = refl
row_is operator.Implies w ts ks h full = refl
row_is operator.Iff w ts ks h full = refl
row_is operator.Ite w ts ks h full = refl
row_is operator.Eq w ts ks h full = refl
row_is operator.Neq w ts ks h full = refl
row_is operator.Distinct w ts ks h full = refl

empty_misfit : (o : Operator) (w : World) (ds : Trees) (ts : List Term) → AreBuiltFor w ds ts → IsEmptyCall (operator_of o) ts → misfit_of (operator_of o) (sorts_of ds) ≡ Some (bad_arity 0)
unfolding AreBuiltFor
empty_misfit operator.Not w ds ts h empty = absurd empty
empty_misfit operator.And w tree.none [] h empty = refl
empty_misfit operator.And w (tree.more d ds) [] h empty = absurd h
empty_misfit operator.And w ds (t ∷ ts) h empty = absurd empty
empty_misfit operator.Or w tree.none [] h empty = refl
empty_misfit operator.Or w (tree.more d ds) [] h empty = absurd h
empty_misfit operator.Or w ds (t ∷ ts) h empty = absurd empty
empty_misfit operator.Xor w tree.none [] h empty = refl
empty_misfit operator.Xor w (tree.more d ds) [] h empty = absurd h
empty_misfit operator.Xor w ds (t ∷ ts) h empty = absurd empty
empty_misfit operator.Implies w ds ts h empty = absurd empty
empty_misfit operator.Iff w ds ts h empty = absurd empty
empty_misfit operator.Ite w ds ts h empty = absurd empty
empty_misfit operator.Eq w ds ts h empty = absurd empty
empty_misfit operator.Neq w ds ts h empty = absurd empty
empty_misfit operator.Distinct w ds ts h empty = absurd empty

-- an operator over expressions
module _ (s : Scope) (e : Expr) (at : Place) (v : List ℕ) (es : Exprs) (form : e ≡ expr_at at (operation v es)) where
  operation_trees : written_trees s e ≡ if_there (tree_of s e) ++ all_trees s es
  unfolding written_trees
  operation_trees = ap (written_trees s) form ∙ ap (λ x. if_there (tree_of s x) ++ all_trees s es) (sym form)

  pub arguments_listed : AreAmong (all_trees s es) (written_trees s e)
  arguments_listed = subst (AreAmong (all_trees s es)) (sym operation_trees) (among_back (if_there (tree_of s e)) (all_trees s es))

  -- what is wrong with the arguments is wrong first
  pub operation_wrong : (c : Cause) → trees_of s es ≡ Err c → tree_of s e ≡ Err c
  unfolding tree_of
  operation_wrong c h = ap (tree_of s) form ∙ ap (over at (op_in operator_words v)) h ∙ over_wrong at (op_in operator_words v) c

  pub operation_past : (old new : World) → GrowsPast (all_trees s es) old new → GrowsPast (written_trees s e) old new
  operation_past old new g = past_among (all_trees s es) (written_trees s e) old new arguments_listed g

  -- a word that isn't built
  pub unknown_word : (ds : Trees) → trees_of s es ≡ Ok ds → op_in operator_words v ≡ None → tree_of s e ≡ wrong at refusal.NotBuilt
  unfolding tree_of
  unknown_word ds h word = ap (tree_of s) form ∙ ap (λ o. over at o (trees_of s es)) word ∙ ap (over at None) h

  -- a constructor over the terms of the arguments
  module _ (laws : AreKnown) (typed : AreTyped s) (old mid : World) (table : IsTable mid) (o : Operator) (word : op_in operator_words v ≡ Some (operator_of o)) (ts : List Term) (all : BuildsAll s old mid es ts) where
    abbrev whole : Tree
    whole = node (operator_of o) all.trees

    over_is : tree_of s e ≡ unless_misfit at whole (misfit_of (operator_of o) (sorts_of all.trees))
    unfolding tree_of
    over_is = ap (tree_of s) form ∙ ap (λ r. over at r (trees_of s es)) word ∙ ap (over at (Some (operator_of o))) all.is

    pub types : HaveSorts mid ts (sorts_of all.trees)
    types = let p = trees_typed laws.typed s typed es all.trees all.is in have_types laws mid table all.trees ts p.0 p.1 all.built

    listed : tree_of s e ≡ Ok whole → AreAmong (all_trees s es ++ whole ∷ []) (written_trees s e)
    listed is = subst (AreAmong (all_trees s es ++ whole ∷ [])) (sym (operation_trees ∙ ap (λ r. if_there r ++ all_trees s es) is)) (among_swapped (all_trees s es) (whole ∷ []))

    -- a call of nothing is refused before it is made
    pub empty_told : IsEmptyCall (operator_of o) ts → tree_of s e ≡ wrong at (refusal.BadArity 0)
    empty_told empty = over_is ∙ ap (unless_misfit at whole) (empty_misfit o mid all.trees ts all.built empty)

    module _ (full : IsEmptyCall (operator_of o) ts → ⊥) where
      same_misfit : (ks : List Sort) → HaveSorts mid ts ks → call_misfit (operator_of o) ks ≡ misfit_of (operator_of o) (sorts_of all.trees)
      same_misfit ks h = row_is o mid ts ks h full ∙ ap (λ z. misfit_of (operator_of o) z) (same_sorts mid ts ks (sorts_of all.trees) h types)

      -- the call is fit where the expression has a tree
      pub fit_tree : AreFit mid (operator_of o) ts → tree_of s e ≡ Ok whole
      fit_tree fit = over_is ∙ ap (unless_misfit at whole) (sym (same_misfit fit.sorts fit.have) ∙ fit.fit)

      -- what the call tells is what is wrong with the expression
      pub unfit_told : (ks : List Sort) → HaveSorts mid ts ks → (m : Misfit) → call_misfit (operator_of o) ks ≡ Some m → tree_of s e ≡ wrong at (told m)
      unfit_told ks h m is = over_is ∙ ap (unless_misfit at whole) (sym (same_misfit ks h) ∙ is)

      -- the call's answer
      pub one_call : (new : World) → IsTable new → (t : Term) → IsBuilt mid new o ts t → AddsAtMost (4 + length ts) mid new → ((u : Term) → IsSome (node_at new u) → node_at mid u ≡ None → IsBelow new u t) → BuildsOne s old new e t
      one_call new after t built adds below = record {
        tree = whole;
        is = fit_tree built.fit;
        built = call_builds (4 + length ts) mid new adds o all.trees ts t built all.built;
        grows = grows_among (all_trees s es ++ whole ∷ []) (written_trees s e) old new (listed (fit_tree built.fit))
            (grows_then (all_trees s es) (whole ∷ []) old mid new all.grows (call_grows mid new table after o all.trees ts t built adds below all.built));
      }

      -- a fit call that was refused
      pub call_past : (new : World) → AreFit mid (operator_of o) ts → AddsAtMost (4 + length ts) mid new → GrowsPast (written_trees s e) old new
      call_past new fit adds =
          refused_past (written_trees s e) whole old mid new (grows_among (all_trees s es) (written_trees s e) old mid arguments_listed all.grows)
          (listed (fit_tree fit) whole (among_back (all_trees s es) (whole ∷ []) whole (inl refl)))
          (at_most_more (4 + length ts) (need whole) mid new (omega (arith, built_count mid all.trees ts all.built)) adds)

-- names that are bound around an expression
module _ (s : Scope) (e body : Expr) (at : Place) (bs : Binds) (form : e ≡ expr_at at (let_in bs body)) where
  abbrev read : Scope → Result Tree Cause
  read ns = tree_of (ns ++ s) body

  let_trees : written_trees s e ≡ if_there (tree_of s e) ++ (bound_trees s bs ++ where_bound (bindings_of s bs) (λ ns. written_trees (ns ++ s) body))
  unfolding written_trees
  let_trees = ap (written_trees s) form ∙ ap (λ x. if_there (tree_of s x) ++ (bound_trees s bs ++ where_bound (bindings_of s bs) (λ ns. written_trees (ns ++ s) body))) (sym form)

  let_is : tree_of s e ≡ within (unless_twice at (repeated (names_of bs)) (bindings_of s bs)) read
  unfolding tree_of
  let_is = ap (tree_of s) form

  -- a name that is bound twice is wrong before all else
  pub let_twice : (v : List ℕ) → repeated (names_of bs) ≡ Some v → tree_of s e ≡ wrong at (refusal.BoundTwice v)
  let_twice v h = let_is ∙ ap (λ o. within (unless_twice at o (bindings_of s bs)) read) h

  module _ (once : repeated (names_of bs) ≡ None) where
    let_once_is : tree_of s e ≡ within (bindings_of s bs) read
    let_once_is = let_is ∙ ap (λ o. within (unless_twice at o (bindings_of s bs)) read) once

    pub let_wrong : (c : Cause) → bindings_of s bs ≡ Err c → tree_of s e ≡ Err c
    let_wrong c h = let_once_is ∙ ap (λ r. within r read) h

    pub let_inside : (ns : Scope) → bindings_of s bs ≡ Ok ns → tree_of s e ≡ tree_of (ns ++ s) body
    let_inside ns h = let_once_is ∙ ap (λ r. within r read) h

  bound_listed : AreAmong (bound_trees s bs) (written_trees s e)
  bound_listed = λ d h. subst (AreAmong (bound_trees s bs ++ where_bound (bindings_of s bs) (λ ns. written_trees (ns ++ s) body))) (sym let_trees) (among_back (if_there (tree_of s e)) (bound_trees s bs ++ where_bound (bindings_of s bs) (λ ns. written_trees (ns ++ s) body))) d (among_front (bound_trees s bs) (where_bound (bindings_of s bs) (λ ns. written_trees (ns ++ s) body)) d h)

  inside_listed : (ns : Scope) → bindings_of s bs ≡ Ok ns → AreAmong (bound_trees s bs ++ written_trees (ns ++ s) body) (written_trees s e)
  inside_listed ns h = subst (AreAmong (bound_trees s bs ++ written_trees (ns ++ s) body)) (sym (let_trees ∙ ap (λ r. if_there (tree_of s e) ++ (bound_trees s bs ++ where_bound r (λ ns. written_trees (ns ++ s) body))) h)) (among_back (if_there (tree_of s e)) (bound_trees s bs ++ written_trees (ns ++ s) body))

  -- the names' terms were begun
  pub let_bound_past : (old new : World) → GrowsPast (bound_trees s bs) old new → GrowsPast (written_trees s e) old new
  let_bound_past old new g = past_among (bound_trees s bs) (written_trees s e) old new bound_listed g

  module _ (old mid new : World) (ps : List (List ℕ × Term)) (all : BindsAll s old mid bs ps) where
    pub one_let : repeated (names_of bs) ≡ None → (t : Term) → BuildsOne (all.names ++ s) mid new body t → BuildsOne s old new e t
    one_let once t one = record {
      tree = one.tree;
      is = let_inside once all.names all.is ∙ one.is;
      built = one.built;
      grows = grows_among (bound_trees s bs ++ written_trees (all.names ++ s) body) (written_trees s e) old new (inside_listed all.names all.is)
          (grows_then (bound_trees s bs) (written_trees (all.names ++ s) body) old mid new all.grows one.grows);
    }

    pub let_past : GrowsPast (written_trees (all.names ++ s) body) mid new → GrowsPast (written_trees s e) old new
    let_past g = past_among (bound_trees s bs ++ written_trees (all.names ++ s) body) (written_trees s e) old new (inside_listed all.names all.is) (past_then (bound_trees s bs) (written_trees (all.names ++ s) body) old mid new all.grows g)
