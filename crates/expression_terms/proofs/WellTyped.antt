-- The tree of an expression is well typed, where those of its names are.
use Rattle.std.proofs.Common.{◌≡◌, ◌∙◌, ℕ, Bool, true, false, List, [], ◌∷◌, ◌++◌, Option, Some, None, Result, Ok, Err, refl, sym, ap, subst, if◌then◌else◌}
use Rattle.std.specs.Str.{bytes_eq}
use Rattle.std.proofs.lemmas.Option.{same_Some}
use Rattle.y_tree.specs.Sorts.{Sort, boolean, same_sort}
use Rattle.y_tree.specs.Tree.{Op, truth, falsity, application, update, Tree, Trees, node}
use Rattle.y_tree.specs.Tree as tree
use Rattle.y_tree.specs.Typing.{typed, typed_over, both, sort_of}
use Rattle.y_tree.specs.Typing as typing
use Rattle.y_tree.specs.Meaning.{or_boolean}
use Rattle.y_tree.specs.Misfits.{Misfit, misfit_of}
use Rattle.y_tree.specs.Laws.{names_a_sort, FitsAreTyped}
use Rattle.yices_grammar.specs.declared.Place.{Place}
use Rattle.yices_grammar.specs.Commands.{Expr, expr_at, Exprs, no_exprs, more_exprs, Binds, no_binds, more_binds, true_word, false_word, name, operation, let_in, apply}
use Rattle.yices_grammar.specs.Commands as form
use Rattle.expression_terms.specs.Trees.{Scope, Cause, tree_named, operator_words, op_in, sorts_of, known, join, unless_misfit, over, names_of, repeated, bind, unless_twice, within, tree_of, trees_of, trees_before, bindings_of}

-- the tree is well typed
abbrev pub IsWellTyped : Tree → Type 0
IsWellTyped d = (k : Sort) × (sort_of d ≡ Some k)

-- each name's tree is well typed
abbrev pub AreTyped : Scope → Type 0
AreTyped s = (w : List ℕ) (d : Tree) → tree_named s w ≡ Some d → IsWellTyped d

-- so is each tree of the list
abbrev AllTyped : Scope → Type 0
AllTyped [] = Unit {0}
AllTyped (n ∷ ns) = IsWellTyped n.1 × AllTyped ns

abbrev TypedIf : Result Tree Cause → Type 0
TypedIf (Ok d) = IsWellTyped d
TypedIf (Err e) = Unit {0}

abbrev AllTypedIf : Result Trees Cause → Type 0
AllTypedIf (Ok ds) = (ks : List Sort) × (typing.sorts_of ds ≡ Some ks)
AllTypedIf (Err e) = Unit {0}

abbrev NamesTypedIf : Result Scope Cause → Type 0
NamesTypedIf (Ok ns) = AllTyped ns
NamesTypedIf (Err e) = Unit {0}

named_by : (b : Bool) (x : Tree) (rest : Option Tree) → IsWellTyped x → ((d : Tree) → rest ≡ Some d → IsWellTyped d) → (d : Tree) → (if b then Some x else rest) ≡ Some d → IsWellTyped d
named_by true x rest here later d e = subst IsWellTyped (same_Some x d e) here
named_by false x rest here later d e = later d e

-- names in front of others
names_typed : (ns s : Scope) → AllTyped ns → AreTyped s → AreTyped (ns ++ s)
names_typed [] s all scope w d e = scope w d e
names_typed (n ∷ ns) s all scope w d e = named_by (bytes_eq w n.0) n.1 (tree_named (ns ++ s) w) all.0 (λ x f. names_typed ns s all.1 scope w x f) d e

-- what is behind both of them
pub both_some : (o : Option Sort) (os : Option (List Sort)) (ks : List Sort) → both o os ≡ Some ks → (k : Sort) × (ls : List Sort) × (o ≡ Some k) × (os ≡ Some ls) × (k ∷ ls ≡ ks)
both_some None os ks h = absurd (cc h)
both_some (Some k) None ks h = absurd (cc h)
both_some (Some k) (Some ls) ks h = (k, ls, refl, refl, same_Some (k ∷ ls) ks h)

-- the types of well typed trees
pub types_are : (ds : Trees) (ks : List Sort) → typing.sorts_of ds ≡ Some ks → sorts_of ds ≡ ks
unfolding sort_of
types_are tree.none ks e = same_Some [] ks e
types_are (tree.more d ds) ks e =
    let p = both_some (sort_of d) (typing.sorts_of ds) ks e in ap (λ o. or_boolean o ∷ sorts_of ds) p.2 ∙ ap (λ z. p.0 ∷ z) (types_are ds p.1 p.3) ∙ p.4

truth_typed : IsWellTyped (node truth tree.none)
unfolding sort_of same_sort
truth_typed = (boolean, refl)

falsity_typed : IsWellTyped (node falsity tree.none)
unfolding sort_of same_sort
falsity_typed = (boolean, refl)

known_typed : (at : Place) (w : List ℕ) (o : Option Tree) → ((d : Tree) → o ≡ Some d → IsWellTyped d) → TypedIf (known at w o)
known_typed at w None h = tt
known_typed at w (Some d) h = h d refl

join_typed : (t : Result Tree Cause) (ts : Result Trees Cause) → TypedIf t → AllTypedIf ts → AllTypedIf (join t ts)
unfolding sort_of
join_typed (Err e) ts h g = tt
join_typed (Ok t) (Err e) h g = tt
join_typed (Ok t) (Ok ts) h g = (h.0 ∷ g.0, ap (λ o. both o (typing.sorts_of ts)) h.1 ∙ ap (both (Some h.0)) g.1)

no_trees : (ks : List Sort) × (typing.sorts_of tree.none ≡ Some ks)
unfolding sort_of
no_trees = ([], refl)

last_typed : (t : Result Tree Cause) → TypedIf t → AllTypedIf (join t (Ok tree.none))
last_typed t h = join_typed t (Ok tree.none) h no_trees

abbrev NamesASort : Option Op → Type 0
NamesASort None = Unit {0}
NamesASort (Some op) = names_a_sort op ≡ true

abbrev AllNameSorts : List (List ℕ × Op) → Type 0
AllNameSorts [] = Unit {0}
AllNameSorts (o ∷ os) = (names_a_sort o.1 ≡ true) × AllNameSorts os

op_by : (b : Bool) (op : Op) (rest : Option Op) → names_a_sort op ≡ true → NamesASort rest → NamesASort (if b then Some op else rest)
op_by true op rest here later = here
op_by false op rest here later = later

op_names : (os : List (List ℕ × Op)) → AllNameSorts os → (w : List ℕ) → NamesASort (op_in os w)
op_names [] all w = tt
op_names (o ∷ os) all w = op_by (bytes_eq w o.0) o.1 (op_in os w) all.0 (op_names os all.1 w)

words_name : AllNameSorts operator_words
words_name = (refl, (refl, (refl, (refl, (refl, (refl, (refl, (refl, (refl, (refl, (refl, tt)))))))))))

module _ (law : FitsAreTyped) where
  unless_typed : (at : Place) (op : Op) (ds : Trees) (m : Option Misfit) → misfit_of op (sorts_of ds) ≡ m → names_a_sort op ≡ true → (ks : List Sort) → typing.sorts_of ds ≡ Some ks → TypedIf (unless_misfit at (node op ds) m)
  unfolding sort_of
  unless_typed at op ds None e names ks h =
      let p = (law op ks names).0 (ap (λ z. misfit_of op z) (sym (types_are ds ks h)) ∙ e) in (p.0, ap (typed_over op) h ∙ p.1)
  unless_typed at op ds (Some m) e names ks h = tt

  over_typed : (at : Place) (op : Option Op) (ts : Result Trees Cause) → NamesASort op → AllTypedIf ts → TypedIf (over at op ts)
  over_typed at None (Err e) names h = tt
  over_typed at (Some op) (Err e) names h = tt
  over_typed at None (Ok ds) names h = tt
  over_typed at (Some op) (Ok ds) names h = unless_typed at op ds (misfit_of op (sorts_of ds)) refl names h.0 h.1

  bind_typed : (w : List ℕ) (t : Result Tree Cause) (ns : Result Scope Cause) → TypedIf t → NamesTypedIf ns → NamesTypedIf (bind w t ns)
  bind_typed w (Err e) ns h g = tt
  bind_typed w (Ok t) (Err e) h g = tt
  bind_typed w (Ok t) (Ok ns) h g = (h, g)

  twice_typed : (at : Place) (o : Option (List ℕ)) (ns : Result Scope Cause) → NamesTypedIf ns → NamesTypedIf (unless_twice at o ns)
  twice_typed at None ns h = h
  twice_typed at (Some w) ns h = tt

  within_typed : (ns : Result Scope Cause) (read : Scope → Result Tree Cause) → NamesTypedIf ns → ((ns : Scope) → AllTyped ns → TypedIf (read ns)) → TypedIf (within ns read)
  within_typed (Err e) read h inside = tt
  within_typed (Ok ns) read h inside = inside ns h

  mutual
    unfolding tree_of

    expr_typed : (s : Scope) → AreTyped s → (e : Expr) → TypedIf (tree_of s e)
    expr_typed s scope (expr_at at true_word) = truth_typed
    expr_typed s scope (expr_at at false_word) = falsity_typed
    expr_typed s scope (expr_at at (name w)) = known_typed at w (tree_named s w) (λ d e. scope w d e)
    expr_typed s scope (expr_at at (form.number w)) = tt
    expr_typed s scope (expr_at at (form.binary w)) = tt
    expr_typed s scope (expr_at at (form.hex w)) = tt
    expr_typed s scope (expr_at at (operation w es)) = over_typed at (op_in operator_words w) (trees_of s es) (op_names operator_words words_name w) (exprs_typed s scope es)
    expr_typed s scope (expr_at at (form.mk_bv w v)) = tt
    expr_typed s scope (expr_at at (form.extract w v e)) = tt
    expr_typed s scope (expr_at at (form.counted w e v)) = tt
    expr_typed s scope (expr_at at (form.update f es v)) =
        over_typed at (Some update) (join (tree_of s f) (trees_before s es (tree_of s v))) refl
        (join_typed (tree_of s f) (trees_before s es (tree_of s v)) (expr_typed s scope f) (before_typed s scope es (tree_of s v) (expr_typed s scope v)))
    expr_typed s scope (expr_at at (let_in bs e)) =
        within_typed (unless_twice at (repeated (names_of bs)) (bindings_of s bs)) (λ ns. tree_of (ns ++ s) e)
        (twice_typed at (repeated (names_of bs)) (bindings_of s bs) (binds_typed s scope bs))
        (λ ns all. expr_typed (ns ++ s) (names_typed ns s all scope) e)
    expr_typed s scope (expr_at at (form.forall_in ds e)) = tt
    expr_typed s scope (expr_at at (apply f es)) =
        over_typed at (Some application) (join (tree_of s f) (trees_of s es)) refl (join_typed (tree_of s f) (trees_of s es) (expr_typed s scope f) (exprs_typed s scope es))

    exprs_typed : (s : Scope) → AreTyped s → (es : Exprs) → AllTypedIf (trees_of s es)
    exprs_typed s scope no_exprs = no_trees
    exprs_typed s scope (more_exprs e es) = join_typed (tree_of s e) (trees_of s es) (expr_typed s scope e) (exprs_typed s scope es)

    before_typed : (s : Scope) → AreTyped s → (es : Exprs) (last : Result Tree Cause) → TypedIf last → AllTypedIf (trees_before s es last)
    before_typed s scope no_exprs last h = last_typed last h
    before_typed s scope (more_exprs e es) last h = join_typed (tree_of s e) (trees_before s es last) (expr_typed s scope e) (before_typed s scope es last h)

    binds_typed : (s : Scope) → AreTyped s → (bs : Binds) → NamesTypedIf (bindings_of s bs)
    binds_typed s scope no_binds = tt
    binds_typed s scope (more_binds w e bs) = bind_typed w (tree_of s e) (bindings_of s bs) (expr_typed s scope e) (binds_typed s scope bs)

  -- the tree of an expression
  pub tree_typed : (s : Scope) → AreTyped s → (e : Expr) (d : Tree) → tree_of s e ≡ Ok d → IsWellTyped d
  tree_typed s scope e d is = subst TypedIf is (expr_typed s scope e)

  -- the trees of expressions
  pub trees_typed : (s : Scope) → AreTyped s → (es : Exprs) (ds : Trees) → trees_of s es ≡ Ok ds → (ks : List Sort) × (typing.sorts_of ds ≡ Some ks)
  trees_typed s scope es ds is = subst AllTypedIf is (exprs_typed s scope es)

  -- the scope in which a `let` reads what it holds
  pub let_typed : (s : Scope) → AreTyped s → (bs : Binds) (ns : Scope) → bindings_of s bs ≡ Ok ns → AreTyped (ns ++ s)
  let_typed s scope bs ns is = names_typed ns s (subst NamesTypedIf is (binds_typed s scope bs)) scope
