-- Where each name's tree is a truth value, so is the tree of each expression.
use Rattle.std.proofs.Common.{◌≡◌, ◌∙◌, ℕ, Bool, true, false, ◌&&◌, List, [], ◌∷◌, ◌++◌, Option, Some, None, Result, Ok, Err, refl, sym, ap, subst, if◌then◌else◌}
use Rattle.std.specs.Str.{bytes_eq}
use Rattle.std.specs.List.{list_all}
use Rattle.std.proofs.lemmas.Option.{same_Some}
use Rattle.y_tree.specs.Sorts.{Sort, boolean, same_sort}
use Rattle.y_tree.specs.Tree.{Op, truth, falsity, negation, conjunction, disjunction, parity, implication, equivalence, choice, equality, disequality, distinctness, application, update, Tree, Trees, node}
use Rattle.y_tree.specs.Tree as tree
use Rattle.y_tree.specs.Typing.{typed, typed_over, only_if, are, are_some, both, sort_of, result_at, updated_at}
use Rattle.y_tree.specs.Typing as typing
use Rattle.y_tree.specs.Misfits.{Misfit, misfit_of}
use Rattle.y_tree.specs.Laws.{names_a_sort, FitsAreTyped}
use Rattle.yices_grammar.specs.declared.Place.{Place}
use Rattle.yices_grammar.specs.Commands.{Expr, expr_at, Exprs, no_exprs, more_exprs, Binds, no_binds, more_binds, true_word, false_word, name, operation, let_in, apply}
use Rattle.yices_grammar.specs.Commands as form
use Rattle.term_shapes.specs.declared.handles.Term.{Term}
use Rattle.term_table.specs.World.{World, IsTable}
use Rattle.term_table.specs.Checking.{HasSort}
use Rattle.term_build.specs.Building.{AreKnown}
use Rattle.expression_terms.specs.Trees.{Scope, Cause, tree_named, operator_words, op_in, sorts_of, known, join, unless_misfit, over, names_of, repeated, bind, unless_twice, within, tree_of, trees_of, trees_before, bindings_of}
use Rattle.expression_terms.specs.Standing.{StandsFor, IsBuiltFor, IsBoolean}
use Rattle.expression_terms.specs.Building.{AreBoolean}
use Rattle.expression_terms.proofs.WellTyped.{types_are, AreTyped}
use Rattle.expression_terms.proofs.Stands.{tree_stands}

abbrev AllBoolean : Scope → Type 0
AllBoolean [] = Unit {0}
AllBoolean (n ∷ ns) = IsBoolean n.1 × AllBoolean ns

-- the types are those of truth values
abbrev pub BooleanSorts : List Sort → Type 0
BooleanSorts [] = Unit {0}
BooleanSorts (k ∷ ks) = (k ≡ boolean) × BooleanSorts ks

abbrev BooleanIf : Result Tree Cause → Type 0
BooleanIf (Ok d) = IsBoolean d
BooleanIf (Err e) = Unit {0}

abbrev AllBooleanIf : Result Trees Cause → Type 0
AllBooleanIf (Ok ds) = (ks : List Sort) × (typing.sorts_of ds ≡ Some ks) × BooleanSorts ks
AllBooleanIf (Err e) = Unit {0}

abbrev NamesBooleanIf : Result Scope Cause → Type 0
NamesBooleanIf (Ok ns) = AllBoolean ns
NamesBooleanIf (Err e) = Unit {0}

gives_that : (b : Bool) (s k : Sort) → only_if b s ≡ Some k → k ≡ s
gives_that true s k h = sym (same_Some s k h)
gives_that false s k h = absurd (cc h)

result_none : (f : Sort) (ks : List Sort) (k : Sort) → f ≡ boolean → result_at f ks ≡ Some k → k ≡ boolean
result_none f ks k e h = absurd (cc (sym (ap (λ z. result_at z ks) e) ∙ h))

updated_none : (f : Sort) (ks : List Sort) (k : Sort) → f ≡ boolean → updated_at f ks ≡ Some k → k ≡ boolean
updated_none f ks k e h = absurd (cc (sym (ap (λ z. updated_at z ks) e) ∙ h))

-- the operators of the language
abbrev in_language : Op → Bool
in_language negation = true
in_language conjunction = true
in_language disjunction = true
in_language parity = true
in_language implication = true
in_language equivalence = true
in_language choice = true
in_language equality = true
in_language disequality = true
in_language distinctness = true
in_language application = true
in_language update = true
in_language _ = false

language_names : (op : Op) → in_language op ≡ true → names_a_sort op ≡ true
language_names (tree.constant n k) h = absurd (cc h)
language_names (tree.variable n k) h = absurd (cc h)
language_names _ h = refl

-- over truth values they give truth values
gives_boolean : (op : Op) (ks : List Sort) (k : Sort) → in_language op ≡ true → BooleanSorts ks → typed op ks ≡ Some k → k ≡ boolean
gives_boolean negation ks k l all h = gives_that (are ks (boolean ∷ [])) boolean k h
gives_boolean conjunction ks k l all h = gives_that (are_some boolean ks) boolean k h
gives_boolean disjunction ks k l all h = gives_that (are_some boolean ks) boolean k h
gives_boolean parity ks k l all h = gives_that (are_some boolean ks) boolean k h
gives_boolean implication ks k l all h = gives_that (are ks (boolean ∷ boolean ∷ [])) boolean k h
gives_boolean equivalence ks k l all h = gives_that (are ks (boolean ∷ boolean ∷ [])) boolean k h
gives_boolean choice [] k l all h = absurd (cc h)
gives_boolean choice (c ∷ []) k l all h = absurd (cc h)
gives_boolean choice (c ∷ s ∷ []) k l all h = absurd (cc h)
gives_boolean choice (c ∷ s ∷ t ∷ []) k l all h = gives_that (same_sort c boolean && same_sort s t) s k h ∙ all.1.0
gives_boolean choice (c ∷ s ∷ t ∷ u ∷ ks) k l all h = absurd (cc h)
gives_boolean equality [] k l all h = absurd (cc h)
gives_boolean equality (s ∷ []) k l all h = absurd (cc h)
gives_boolean equality (s ∷ t ∷ []) k l all h = gives_that (same_sort s t) boolean k h
gives_boolean equality (s ∷ t ∷ u ∷ ks) k l all h = absurd (cc h)
gives_boolean disequality [] k l all h = absurd (cc h)
gives_boolean disequality (s ∷ []) k l all h = absurd (cc h)
gives_boolean disequality (s ∷ t ∷ []) k l all h = gives_that (same_sort s t) boolean k h
gives_boolean disequality (s ∷ t ∷ u ∷ ks) k l all h = absurd (cc h)
gives_boolean distinctness [] k l all h = absurd (cc h)
gives_boolean distinctness (s ∷ ks) k l all h = gives_that (list_all (same_sort s) ks) boolean k h
gives_boolean application [] k l all h = absurd (cc h)
gives_boolean application (f ∷ ks) k l all h = result_none f ks k all.0 h
gives_boolean update [] k l all h = absurd (cc h)
gives_boolean update (f ∷ ks) k l all h = updated_none f ks k all.0 h
gives_boolean _ ks k l all h = absurd (cc l)

named_by : (b : Bool) (x : Tree) (rest : Option Tree) → IsBoolean x → ((d : Tree) → rest ≡ Some d → IsBoolean d) → (d : Tree) → (if b then Some x else rest) ≡ Some d → IsBoolean d
named_by true x rest here later d e = subst IsBoolean (same_Some x d e) here
named_by false x rest here later d e = later d e

names_boolean : (ns s : Scope) → AllBoolean ns → AreBoolean s → AreBoolean (ns ++ s)
names_boolean [] s all scope w d e = scope w d e
names_boolean (n ∷ ns) s all scope w d e = named_by (bytes_eq w n.0) n.1 (tree_named (ns ++ s) w) all.0 (λ x f. names_boolean ns s all.1 scope w x f) d e

truth_boolean : IsBoolean (node truth tree.none)
unfolding sort_of same_sort
truth_boolean = refl

falsity_boolean : IsBoolean (node falsity tree.none)
unfolding sort_of same_sort
falsity_boolean = refl

known_boolean : (at : Place) (w : List ℕ) (o : Option Tree) → ((d : Tree) → o ≡ Some d → IsBoolean d) → BooleanIf (known at w o)
known_boolean at w None h = tt
known_boolean at w (Some d) h = h d refl

join_boolean : (t : Result Tree Cause) (ts : Result Trees Cause) → BooleanIf t → AllBooleanIf ts → AllBooleanIf (join t ts)
unfolding sort_of
join_boolean (Err e) ts h g = tt
join_boolean (Ok t) (Err e) h g = tt
join_boolean (Ok t) (Ok ts) h g = (boolean ∷ g.0, ap (λ o. both o (typing.sorts_of ts)) h ∙ ap (both (Some boolean)) g.1, (refl, g.2))

no_trees : (ks : List Sort) × (typing.sorts_of tree.none ≡ Some ks) × BooleanSorts ks
unfolding sort_of
no_trees = ([], refl, tt)

abbrev InLanguage : Option Op → Type 0
InLanguage None = Unit {0}
InLanguage (Some op) = in_language op ≡ true

abbrev AllInLanguage : List (List ℕ × Op) → Type 0
AllInLanguage [] = Unit {0}
AllInLanguage (o ∷ os) = (in_language o.1 ≡ true) × AllInLanguage os

op_by : (b : Bool) (op : Op) (rest : Option Op) → in_language op ≡ true → InLanguage rest → InLanguage (if b then Some op else rest)
op_by true op rest here later = here
op_by false op rest here later = later

word_in : (os : List (List ℕ × Op)) → AllInLanguage os → (w : List ℕ) → InLanguage (op_in os w)
word_in [] all w = tt
word_in (o ∷ os) all w = op_by (bytes_eq w o.0) o.1 (op_in os w) all.0 (word_in os all.1 w)

words_in : AllInLanguage operator_words
words_in = (refl, (refl, (refl, (refl, (refl, (refl, (refl, (refl, (refl, (refl, (refl, tt)))))))))))

module _ (law : FitsAreTyped) where
  unless_boolean : (at : Place) (op : Op) (ds : Trees) (m : Option Misfit) → misfit_of op (sorts_of ds) ≡ m → in_language op ≡ true → (ks : List Sort) → typing.sorts_of ds ≡ Some ks → BooleanSorts ks → BooleanIf (unless_misfit at (node op ds) m)
  unfolding sort_of
  unless_boolean at op ds None e l ks h all =
      let p = (law op ks (language_names op l)).0 (ap (λ z. misfit_of op z) (sym (types_are ds ks h)) ∙ e) in
      ap (typed_over op) h ∙ p.1 ∙ ap Some (gives_boolean op ks p.0 l all p.1)
  unless_boolean at op ds (Some m) e l ks h all = tt

  over_boolean : (at : Place) (op : Option Op) (ts : Result Trees Cause) → InLanguage op → AllBooleanIf ts → BooleanIf (over at op ts)
  over_boolean at None (Err e) l h = tt
  over_boolean at (Some op) (Err e) l h = tt
  over_boolean at None (Ok ds) l h = tt
  over_boolean at (Some op) (Ok ds) l h = unless_boolean at op ds (misfit_of op (sorts_of ds)) refl l h.0 h.1 h.2

  bind_boolean : (w : List ℕ) (t : Result Tree Cause) (ns : Result Scope Cause) → BooleanIf t → NamesBooleanIf ns → NamesBooleanIf (bind w t ns)
  bind_boolean w (Err e) ns h g = tt
  bind_boolean w (Ok t) (Err e) h g = tt
  bind_boolean w (Ok t) (Ok ns) h g = (h, g)

  twice_boolean : (at : Place) (o : Option (List ℕ)) (ns : Result Scope Cause) → NamesBooleanIf ns → NamesBooleanIf (unless_twice at o ns)
  twice_boolean at None ns h = h
  twice_boolean at (Some w) ns h = tt

  within_boolean : (ns : Result Scope Cause) (read : Scope → Result Tree Cause) → NamesBooleanIf ns → ((ns : Scope) → AllBoolean ns → BooleanIf (read ns)) → BooleanIf (within ns read)
  within_boolean (Err e) read h inside = tt
  within_boolean (Ok ns) read h inside = inside ns h

  mutual
    unfolding tree_of

    expr_boolean : (s : Scope) → AreBoolean s → (e : Expr) → BooleanIf (tree_of s e)
    expr_boolean s scope (expr_at at true_word) = truth_boolean
    expr_boolean s scope (expr_at at false_word) = falsity_boolean
    expr_boolean s scope (expr_at at (name w)) = known_boolean at w (tree_named s w) (λ d e. scope w d e)
    expr_boolean s scope (expr_at at (form.number w)) = tt
    expr_boolean s scope (expr_at at (form.binary w)) = tt
    expr_boolean s scope (expr_at at (form.hex w)) = tt
    expr_boolean s scope (expr_at at (operation w es)) = over_boolean at (op_in operator_words w) (trees_of s es) (word_in operator_words words_in w) (exprs_boolean s scope es)
    expr_boolean s scope (expr_at at (form.mk_bv w v)) = tt
    expr_boolean s scope (expr_at at (form.extract w v e)) = tt
    expr_boolean s scope (expr_at at (form.counted w e v)) = tt
    expr_boolean s scope (expr_at at (form.update f es v)) =
        over_boolean at (Some update) (join (tree_of s f) (trees_before s es (tree_of s v))) refl
        (join_boolean (tree_of s f) (trees_before s es (tree_of s v)) (expr_boolean s scope f) (before_boolean s scope es (tree_of s v) (expr_boolean s scope v)))
    expr_boolean s scope (expr_at at (let_in bs e)) =
        within_boolean (unless_twice at (repeated (names_of bs)) (bindings_of s bs)) (λ ns. tree_of (ns ++ s) e)
        (twice_boolean at (repeated (names_of bs)) (bindings_of s bs) (binds_boolean s scope bs))
        (λ ns all. expr_boolean (ns ++ s) (names_boolean ns s all scope) e)
    expr_boolean s scope (expr_at at (form.forall_in ds e)) = tt
    expr_boolean s scope (expr_at at (apply f es)) =
        over_boolean at (Some application) (join (tree_of s f) (trees_of s es)) refl (join_boolean (tree_of s f) (trees_of s es) (expr_boolean s scope f) (exprs_boolean s scope es))

    exprs_boolean : (s : Scope) → AreBoolean s → (es : Exprs) → AllBooleanIf (trees_of s es)
    exprs_boolean s scope no_exprs = no_trees
    exprs_boolean s scope (more_exprs e es) = join_boolean (tree_of s e) (trees_of s es) (expr_boolean s scope e) (exprs_boolean s scope es)

    before_boolean : (s : Scope) → AreBoolean s → (es : Exprs) (last : Result Tree Cause) → BooleanIf last → AllBooleanIf (trees_before s es last)
    before_boolean s scope no_exprs last h = join_boolean last (Ok tree.none) h no_trees
    before_boolean s scope (more_exprs e es) last h = join_boolean (tree_of s e) (trees_before s es last) (expr_boolean s scope e) (before_boolean s scope es last h)

    binds_boolean : (s : Scope) → AreBoolean s → (bs : Binds) → NamesBooleanIf (bindings_of s bs)
    binds_boolean s scope no_binds = tt
    binds_boolean s scope (more_binds w e bs) = bind_boolean w (tree_of s e) (bindings_of s bs) (expr_boolean s scope e) (binds_boolean s scope bs)

  -- the tree of an expression is a truth value
  pub tree_boolean : (s : Scope) → AreBoolean s → (e : Expr) (d : Tree) → tree_of s e ≡ Ok d → sort_of d ≡ Some boolean
  tree_boolean s scope e d is = subst BooleanIf is (expr_boolean s scope e)

  -- the scope in which a `let` reads what it holds
  pub let_boolean : (s : Scope) → AreBoolean s → (bs : Binds) (ns : Scope) → bindings_of s bs ≡ Ok ns → AreBoolean (ns ++ s)
  let_boolean s scope bs ns is = names_boolean ns s (subst NamesBooleanIf is (binds_boolean s scope bs)) scope

  -- the types of trees of expressions
  pub trees_boolean : (s : Scope) → AreBoolean s → (es : Exprs) (ds : Trees) → trees_of s es ≡ Ok ds → (ks : List Sort) × (typing.sorts_of ds ≡ Some ks) × BooleanSorts ks
  trees_boolean s scope es ds is = subst AllBooleanIf is (exprs_boolean s scope es)

-- truth values are well typed
pub boolean_typed : (s : Scope) → AreBoolean s → AreTyped s
boolean_typed s scope w d e = (boolean, scope w d e)

-- and its term is one, and stands for it
pub boolean_stands : AreKnown → (w : World) → IsTable w → (s : Scope) → AreBoolean s → (e : Expr) (d : Tree) → tree_of s e ≡ Ok d → (t : Term) → IsBuiltFor w d t → StandsFor w d t × HasSort w t boolean
boolean_stands laws w table s scope e d is t built = let h = tree_stands laws w table d t boolean (tree_boolean laws.typed s scope e d is) built in (h.stands, h.sort)
