-- What was built within what is kept: it was built, and stays so where more is kept and where the table grows; and parts that are added one after another.
use Rattle.std.proofs.Common.{◌≡◌, ◌∙◌, ℕ, zero, suc, Bool, true, false, ◌⊎◌, inl, inr, ⊎_elim, List, [], ◌∷◌, ◌++◌, Option, Some, None, Result, Ok, Err, refl, sym, ap, subst, if◌then◌else◌, append_assoc, append-nil}
use Rattle.std.specs.Prelude.{IsSome, slice_get}
use Rattle.std.specs.Str.{bytes_eq}
use Rattle.std.specs.Result.{result_ok}
use Rattle.std.proofs.lemmas.Option.{same_Some}
use Rattle.y_tree.specs.Sorts.{Sort}
use Rattle.y_tree.specs.Tree.{Op, truth, falsity, constant, Tree, Trees, node, trees}
use Rattle.y_tree.specs.Tree as tree
use Rattle.y_tree.specs.Misfits.{Misfit, misfit_of}
use Rattle.y_tree.specs.Laws.{FitsAreTyped}
use Rattle.term_shapes.specs.declared.handles.Term.{Term}
use Rattle.term_shapes.specs.declared.shapes.Shape.TheVariants as shape
use Rattle.term_table.specs.World.{World, node_at, HasShape, Keeps, IsTable}
use Rattle.term_orders.specs.Orders.{IsIn}
use Rattle.term_sketches.specs.declared.items.Operator.{Operator}
use Rattle.term_sketches.specs.declared.items.Operator.TheVariants as operator
use Rattle.term_sketches.specs.Sketches.{sketch_of, operator_of}
use Rattle.term_sketches.specs.Valuing.{are_truths}
use Rattle.term_build.specs.Building.{AddsAtMost, IsBuilt, IsMade, IsAmong}
use Rattle.term_build.proofs.Growing.{IsWider, wider, shape_stays, tree_stays}
use Rattle.yices_grammar.specs.declared.Place.{Place}
use Rattle.yices_grammar.specs.Commands.{Expr, expr_at, Exprs, no_exprs, more_exprs, Binds, no_binds, more_binds, true_word, false_word, operation, let_in}
use Rattle.yices_grammar.specs.Commands as grammar
use Rattle.expression_terms.specs.Trees.{Scope, Cause, tree_named, operator_words, op_in, sorts_of, known, join, unless_misfit, over, names_of, repeated, bind, tree_of, trees_of, bindings_of}
use Rattle.expression_terms.specs.Standing.{IsMadeOf, IsBuiltFor, AreBuiltFor}
use Rattle.expression_terms.specs.Growth.{if_there, where_bound, written_trees, inner_trees, all_trees, bound_trees}
use Rattle.expression_terms.specs.Fresh.{AreAmong}
use Rattle.expression_terms.specs.Parts.{BuildsOne, BuildsSome, BindsSome, BindsAll, in_front, names_in_front}
use Rattle.expression_terms.specs.Outcomes.{IsMore}
use Rattle.expression_terms.specs.Building.{Named, term_named, with_bound, AreNamed}
use Rattle.expression_terms.specs.Keeping.{IsBuiltWithin, AreBuiltWithin, AllKept, AreNamedWithin, AreBoundWithin, StaysWithin, AllStayWithin, BoundStayWithin, AddsParts, AddsAmong}
use Rattle.expression_terms.proofs.One.{one_built, all_built}
use Rattle.expression_terms.proofs.Stays.{literals_same, all_sorts_stay, made_of_stays, built_stays}
use Rattle.expression_terms.proofs.Live.{built_live}
use Rattle.expression_terms.proofs.Enough.{among_front, among_back}
use Rattle.expression_terms.proofs.Scopes.{named_stays, let_scope}
use Rattle.expression_terms.proofs.Clauses.{let_inside}

-- what was built within what is kept was built
module _ (w : World) (ks : List Term) where
  node_built : (op : Op) (ds : Trees) (t : Term) → ((us : List Term) → AreBuiltWithin w ks ds us → AreBuiltFor w ds us) → IsBuiltWithin w ks (node op ds) t → IsBuiltFor w (node op ds) t
  unfolding IsBuiltWithin IsBuiltFor
  node_built truth ds t all h = h
  node_built falsity ds t all h = h
  node_built (constant n k) ds t all h = h.1
  node_built op ds t all h = (h.1.0, all h.1.0 h.1.1, h.1.2)

  mutual
    unfolding IsBuiltWithin IsBuiltFor

    pub within_built : (d : Tree) (t : Term) → IsBuiltWithin w ks d t → IsBuiltFor w d t
    within_built (node op ds) t h = node_built op ds t (λ us are. all_within_built ds us are) h

    pub all_within_built : (ds : Trees) (ts : List Term) → AreBuiltWithin w ks ds ts → AreBuiltFor w ds ts
    all_within_built tree.none [] h = tt
    all_within_built tree.none (t ∷ ts) h = absurd h
    all_within_built (tree.more d ds) [] h = absurd h
    all_within_built (tree.more d ds) (t ∷ ts) h = (within_built d t h.0, all_within_built ds ts h.1)

-- it stays so where leaves do, where what is made of such terms does, and where more is kept
module _ (old new : World) (ks ls : List Term) (kept : AllKept ks ls)
    (truths : (t : Term) → HasShape old t shape.True → HasShape new t shape.True)
    (falsities : (t : Term) → HasShape old t shape.False → HasShape new t shape.False)
    (constants : (d : Tree) (t : Term) → IsIn ks t → IsSome (node_at old t) → Keeps old t d → Keeps new t d)
    (made : (op : Op) (ds : Trees) (us : List Term) (t : Term) → IsIn ks t → IsSome (node_at old t) → AreBuiltWithin old ks ds us → IsMadeOf old op us t → IsMadeOf new op us t) where
  node_on : (op : Op) (ds : Trees) (t : Term) → IsSome (node_at old t) → ((us : List Term) → AreBuiltWithin old ks ds us → AreBuiltWithin new ls ds us) → IsBuiltWithin old ks (node op ds) t → IsBuiltWithin new ls (node op ds) t
  unfolding IsBuiltWithin
  node_on truth ds t live all h = truths t h
  node_on falsity ds t live all h = falsities t h
  node_on (constant n k) ds t live all h = (kept t h.0, constants (node (constant n k) tree.none) t h.0 live h.1)
  node_on op ds t live all h = (kept t h.0, (h.1.0, all h.1.0 h.1.1, made op ds h.1.0 t h.0 live h.1.1 h.1.2))

  mutual
    unfolding IsBuiltWithin

    pub within_on : (d : Tree) (t : Term) → IsBuiltWithin old ks d t → IsBuiltWithin new ls d t
    within_on (node op ds) t h = node_on op ds t (built_live old (node op ds) t (within_built old ks (node op ds) t h)) (λ us are. all_within_on ds us are) h

    pub all_within_on : (ds : Trees) (ts : List Term) → AreBuiltWithin old ks ds ts → AreBuiltWithin new ls ds ts
    all_within_on tree.none [] h = tt
    all_within_on tree.none (t ∷ ts) h = absurd h
    all_within_on (tree.more d ds) [] h = absurd h
    all_within_on (tree.more d ds) (t ∷ ts) h = (within_on d t h.0, all_within_on ds ts h.1)

-- where more is kept
module _ (w : World) (ks ls : List Term) (kept : AllKept ks ls) where
  pub within_more : (d : Tree) (t : Term) → IsBuiltWithin w ks d t → IsBuiltWithin w ls d t
  within_more = within_on w w ks ls kept (λ t h. h) (λ t h. h) (λ d t is live h. h) (λ op ds us t is live are h. h)

  pub all_within_more : (ds : Trees) (ts : List Term) → AreBuiltWithin w ks ds ts → AreBuiltWithin w ls ds ts
  all_within_more = all_within_on w w ks ls kept (λ t h. h) (λ t h. h) (λ d t is live h. h) (λ op ds us t is live are h. h)

  pub named_within_more : (s : Scope) (ns : Named) → AreNamedWithin w ks s ns → AreNamedWithin w ls s ns
  named_within_more s ns h name d e = let k = h name d e in (k.0, k.1, within_more d k.0 k.2)

  pub bound_within_more : (ns : Scope) (ps : List (List ℕ × Term)) → AreBoundWithin w ks ns ps → AreBoundWithin w ls ns ps
  bound_within_more [] [] h = tt
  bound_within_more [] (p ∷ ps) h = absurd h
  bound_within_more (n ∷ ns) [] h = absurd h
  bound_within_more (n ∷ ns) (p ∷ ps) h = (h.0, within_more n.1 p.1 h.1, bound_within_more ns ps h.2)

-- where live terms stay
module _ (old new : World) (m : IsWider old new) (ks : List Term) where
  pub within_stays : (d : Tree) (t : Term) → IsBuiltWithin old ks d t → IsBuiltWithin new ks d t
  within_stays = within_on old new ks ks (λ t h. h) (λ t. shape_stays old new m t shape.True) (λ t. shape_stays old new m t shape.False) (λ d t is live. tree_stays old new m d t) (λ op ds us t is live are. made_of_stays old new m op us t)

  pub all_within_stay : (ds : Trees) (ts : List Term) → AreBuiltWithin old ks ds ts → AreBuiltWithin new ks ds ts
  all_within_stay = all_within_on old new ks ks (λ t h. h) (λ t. shape_stays old new m t shape.True) (λ t. shape_stays old new m t shape.False) (λ d t is live. tree_stays old new m d t) (λ op ds us t is live are. made_of_stays old new m op us t)

  pub named_within_stays : (s : Scope) (ns : Named) → AreNamedWithin old ks s ns → AreNamedWithin new ks s ns
  named_within_stays s ns h name d e = let k = h name d e in (k.0, k.1, within_stays d k.0 k.2)

  pub bound_within_stays : (ns : Scope) (ps : List (List ℕ × Term)) → AreBoundWithin old ks ns ps → AreBoundWithin new ks ns ps
  bound_within_stays [] [] h = tt
  bound_within_stays [] (p ∷ ps) h = absurd h
  bound_within_stays (n ∷ ns) [] h = absurd h
  bound_within_stays (n ∷ ns) (p ∷ ps) h = (h.0, within_stays n.1 p.1 h.1, bound_within_stays ns ps h.2)

-- what the constructor of an operator makes of such terms, where it is kept
pub within_over : (w : World) (ks : List Term) (o : Operator) (ds : Trees) (ts : List Term) (t : Term) → IsIn ks t → AreBuiltWithin w ks ds ts → IsMadeOf w (operator_of o) ts t → IsBuiltWithin w ks (node (operator_of o) ds) t
unfolding IsBuiltWithin
within_over w ks operator.Not ds ts t is are made = (is, (ts, are, made))
within_over w ks operator.And ds ts t is are made = (is, (ts, are, made))
within_over w ks operator.Or ds ts t is are made = (is, (ts, are, made))
within_over w ks operator.Xor ds ts t is are made = (is, (ts, are, made))
within_over w ks operator.Implies ds ts t is are made = (is, (ts, are, made))
within_over w ks operator.Iff ds ts t is are made = (is, (ts, are, made))
within_over w ks operator.Ite ds ts t is are made = (is, (ts, are, made))
within_over w ks operator.Eq ds ts t is are made = (is, (ts, are, made))
within_over w ks operator.Neq ds ts t is are made = (is, (ts, are, made))
within_over w ks operator.Distinct ds ts t is are made = (is, (ts, are, made))

-- a constructor's answer over such terms
pub call_within : (n : ℕ) (old new : World) → AddsAtMost n old new → (ks : List Term) (o : Operator) (ds : Trees) (ts : List Term) (t : Term) → IsBuilt old new o ts t → AreBuiltWithin old ks ds ts → IsIn ks t
    → IsBuiltWithin new ks (node (operator_of o) ds) t
call_within n old new adds ks o ds ts t built are is =
    let m : IsWider old new = wider n old new adds in
    let ss : List Sort = built.fit.sorts in
    let made : IsMadeOf new (operator_of o) ts t = record {
      constructor = o;
      is = refl;
      sorts = ss;
      have = all_sorts_stay old new m ts ss built.fit.have;
      made = subst (λ ls. IsMade new t (sketch_of o (are_truths ss) ls)) (literals_same old new m ts ss built.fit.have) (built.made ss built.fit.have);
    } in
    within_over new ks o ds ts t is (all_within_stay old new m ks ds ts are) made

-- so what was built for an operator over trees is, where it is kept and terms were built for these
pub within_node : (w : World) → IsTable w → (ks : List Term) (op : Op) (ds : Trees) (ts : List Term) (t : Term) → IsBuiltFor w (node op ds) t → AreBuiltWithin w ks ds ts → IsIn ks t → IsBuiltWithin w ks (node op ds) t
unfolding IsBuiltFor IsBuiltWithin
within_node w table ks truth ds ts t h are is = h
within_node w table ks falsity ds ts t h are is = h
within_node w table ks (constant n k) ds ts t h are is = (is, h)
within_node w table ks op ds ts t h are is = (is, (ts, are, subst (λ us. IsMadeOf w op us t) (all_built w table ds h.0 ts h.1 (all_within_built w ks ds ts are)) h.2))

-- one more term for one more tree
pub within_push : (w : World) (ks : List Term) (ds : List Tree) (ts : List Term) (d : Tree) (t : Term) → AreBuiltWithin w ks (trees ds) ts → IsBuiltWithin w ks d t → AreBuiltWithin w ks (trees (ds ++ d ∷ [])) (ts ++ t ∷ [])
unfolding AreBuiltWithin
within_push w ks [] [] d t h one = (one, tt)
within_push w ks [] (u ∷ ts) d t h one = absurd h
within_push w ks (x ∷ ds) [] d t h one = absurd h
within_push w ks (x ∷ ds) (u ∷ ts) d t h one = (h.0, within_push w ks ds ts d t h.1 one)

-- one more name is bound
pub bound_within_push : (w : World) (ks : List Term) (ns : Scope) (ps : List (List ℕ × Term)) (name : List ℕ) (d : Tree) (t : Term) → AreBoundWithin w ks ns ps → IsBuiltWithin w ks d t
    → AreBoundWithin w ks (ns ++ (name, d) ∷ []) (ps ++ (name, t) ∷ [])
bound_within_push w ks [] [] name d t h one = (refl, one, tt)
bound_within_push w ks [] (p ∷ ps) name d t h one = absurd h
bound_within_push w ks (n ∷ ns) [] name d t h one = absurd h
bound_within_push w ks (n ∷ ns) (p ∷ ps) name d t h one = (h.0, h.1, bound_within_push w ks ns ps name d t h.2 one)

-- names that are bound before others, in a table, where one term is what the constructors make of a tree
module _ (w : World) (table : IsTable w) (ks : List Term) (s : Scope) (names : Named) (named : AreNamedWithin w ks s names) where
  -- some term was built for the tree within what is kept
  abbrev IsWithin : Tree → Type 0
  IsWithin d = (t : Term) × IsBuiltWithin w ks d t

  first_within : (b : Bool) (x : Tree) (rest : Option Tree) → IsWithin x → ((d : Tree) → rest ≡ Some d → IsWithin d) → (d : Tree) → (if b then Some x else rest) ≡ Some d → IsWithin d
  first_within true x rest here later d e = subst IsWithin (same_Some x d e) here
  first_within false x rest here later d e = later d e

  tree_within : (ns : Scope) (ps : List (List ℕ × Term)) → AreBoundWithin w ks ns ps → (name : List ℕ) (d : Tree) → tree_named (ns ++ s) name ≡ Some d → IsWithin d
  tree_within [] [] h name d e = let k = named name d e in (k.0, k.2)
  tree_within [] (p ∷ ps) h name d e = absurd h
  tree_within (n ∷ ns) [] h name d e = absurd h
  tree_within (n ∷ ns) (p ∷ ps) h name d e = first_within (bytes_eq name n.0) n.1 (tree_named (ns ++ s) name) (p.1, h.1) (λ x f. tree_within ns ps h.2 name x f) d e

  pub let_within : (ns : Scope) (ps : List (List ℕ × Term)) → AreNamed w (ns ++ s) (with_bound names ps) → AreBoundWithin w ks ns ps → AreNamedWithin w ks (ns ++ s) (with_bound names ps)
  let_within ns ps inside bound name d e =
      let k = inside.known name d e in
      let u = tree_within ns ps bound name d e in
      (k.0, k.1, subst (IsBuiltWithin w ks d) (one_built w table d u.0 k.0 (within_built w ks d u.0 u.1) k.2) u.1)

-- the terms of two lists, one behind the other
front_place : (ts us : List Term) (i : ℕ) (t : Term) → slice_get ts i ≡ Some t → slice_get (ts ++ us) i ≡ Some t
front_place [] us i t at = absurd (cc at)
front_place (x ∷ ts) us zero t at = at
front_place (x ∷ ts) us (suc i) t at = front_place ts us i t at

back_place : (ts us : List Term) (i : ℕ) (t : Term) → slice_get us i ≡ Some t → IsIn (ts ++ us) t
back_place [] us i t at = record { place = i; at = at }
back_place (x ∷ ts) us i t at = let r = back_place ts us i t at in record { place = suc r.place; at = r.at }

split_place : (ts us : List Term) (i : ℕ) (t : Term) → slice_get (ts ++ us) i ≡ Some t → IsIn ts t ⊎ IsIn us t
split_place [] us i t at = inr (record { place = i; at = at })
split_place (x ∷ ts) us zero t at = inl (record { place = zero; at = at })
split_place (x ∷ ts) us (suc i) t at = ⊎_elim (λ (q : IsIn ts t). inl (record { place = suc q.place; at = q.at })) inr (split_place ts us i t at)

-- what keeps both keeps each
pub kept_front : (ts us ks : List Term) → AllKept (ts ++ us) ks → AllKept ts ks
kept_front ts us ks h t is = h t (record { place = is.place; at = front_place ts us is.place t is.at })

pub kept_back : (ts us ks : List Term) → AllKept (ts ++ us) ks → AllKept us ks
kept_back ts us ks h t is = h t (back_place ts us is.place t is.at)

pub kept_both : (ts us ks : List Term) → AllKept ts ks → AllKept us ks → AllKept (ts ++ us) ks
kept_both ts us ks a b t is = ⊎_elim (λ h. a t h) (λ h. b t h) (split_place ts us is.place t is.at)

-- the tree of an expression is written there
pub written_here : (s : Scope) (e : Expr) (d : Tree) → tree_of s e ≡ Ok d → IsAmong d (written_trees s e)
unfolding written_trees
written_here s (expr_at at f) d is = subst (λ r. IsAmong d (if_there r ++ inner_trees s f)) (sym is) (inl refl)

-- so are those of what is next of the expressions, and of what names are bound to
pub next_written : (s : Scope) (old mid : World) (es more : Exprs) (e : Expr) (ts : List Term) → BuildsSome s old mid es (more_exprs e more) ts → AreAmong (written_trees s e) (all_trees s es)
unfolding written_trees
next_written s old mid es more e ts some d h =
    subst (IsAmong d) (sym some.all) (among_back some.written (written_trees s e ++ all_trees s more) d (among_front (written_trees s e) (all_trees s more) d h))

pub next_bound_written : (s : Scope) (old mid : World) (bs more : Binds) (name : List ℕ) (e : Expr) (ps : List (List ℕ × Term)) → BindsSome s old mid bs (more_binds name e more) ps → AreAmong (written_trees s e) (bound_trees s bs)
unfolding written_trees
next_bound_written s old mid bs more name e ps some d h =
    subst (IsAmong d) (sym some.all) (among_back some.written (written_trees s e ++ bound_trees s more) d (among_front (written_trees s e) (bound_trees s more) d h))

-- those of the parts of an expression are written in the whole
pub arguments_written : (s : Scope) (at : Place) (v : List ℕ) (es : Exprs) → AreAmong (all_trees s es) (written_trees s (expr_at at (operation v es)))
unfolding written_trees
arguments_written s at v es = among_back (if_there (tree_of s (expr_at at (operation v es)))) (all_trees s es)

module _ (s : Scope) (at : Place) (bs : Binds) (body : Expr) where
  abbrev behind : Result Scope Cause → List Tree
  behind r = where_bound r (λ ns. written_trees (ns ++ s) body)

  pub bound_written : AreAmong (bound_trees s bs) (written_trees s (expr_at at (let_in bs body)))
  unfolding written_trees
  bound_written d h = among_back (if_there (tree_of s (expr_at at (let_in bs body)))) (bound_trees s bs ++ behind (bindings_of s bs)) d (among_front (bound_trees s bs) (behind (bindings_of s bs)) d h)

  pub body_written : (ns : Scope) → bindings_of s bs ≡ Ok ns → AreAmong (written_trees (ns ++ s) body) (written_trees s (expr_at at (let_in bs body)))
  unfolding written_trees
  body_written ns is d h =
      among_back (if_there (tree_of s (expr_at at (let_in bs body)))) (bound_trees s bs ++ behind (bindings_of s bs)) d
      (among_back (bound_trees s bs) (behind (bindings_of s bs)) d (subst (λ r. IsAmong d (behind r)) (sym is) h))

-- parts that were added for an expression
pub parts_among : (ns : Named) (old new : World) (e : Expr) (before after : List Term) → AddsParts ns old new e before after → AddsAmong ns old new (λ s. written_trees s e) before after
parts_among ns old new e before after p = record { added = p.added; is = p.is; each = p.each }

pub among_parts : (ns : Named) (old new : World) (e : Expr) (before after : List Term) → AddsAmong ns old new (λ s. written_trees s e) before after → AddsParts ns old new e before after
among_parts ns old new e before after p = record { added = p.added; is = p.is; each = p.each }

-- nothing was added
pub parts_none : (ns : Named) (w : World) (written : Scope → List Tree) (before : List Term) → AddsAmong ns w w written before before
parts_none ns w written before = record { added = []; is = sym (append-nil before); each = λ s named t h. absurd (cc h.at) }

-- parts that were added for one thing, and then for more of the whole
module _ (ns : Named) (old mid new : World) (late : IsWider mid new) (one all : Scope → List Tree) (first : (s : Scope) → AreNamed old s ns → AreAmong (one s) (all s))
    (before between after : List Term) (a : AddsAmong ns old mid one before between) where
  pub parts_then : (more : List Term) → after ≡ between ++ more → ((s : Scope) → AreNamed old s ns → (t : Term) → IsIn more t → (d : Tree) × IsAmong d (all s) × IsBuiltFor new d t) → AddsAmong ns old new all before after
  parts_then more is each = record {
    added = a.added ++ more;
    is = is ∙ ap (λ x. x ++ more) a.is ∙ append_assoc before a.added more;
    each = λ s named t h. by s named t (split_place a.added more h.place t h.at);
  }
    where
      by : (s : Scope) → AreNamed old s ns → (t : Term) → IsIn a.added t ⊎ IsIn more t → (d : Tree) × IsAmong d (all s) × IsBuiltFor new d t
      by s named t (inl h) = let p = a.each s named t h in (p.0, first s named p.0 p.1, built_stays mid new late p.0 t p.2)
      by s named t (inr h) = each s named t h

  -- for one more thing
  pub parts_append : IsWider old mid → (two : Scope → List Tree) → ((s : Scope) → AreNamed old s ns → AreAmong (two s) (all s)) → AddsAmong ns mid new two between after → AddsAmong ns old new all before after
  parts_append early two second b = parts_then b.added b.is (λ s named t h. let p = b.each s (named_stays old mid early s ns named) t h in (p.0, second s named p.0 p.1, p.2))

  -- the term of one of the trees
  pub parts_push : (t : Term) → after ≡ between ++ t ∷ [] → ((s : Scope) → AreNamed old s ns → (d : Tree) × IsAmong d (all s) × IsBuiltFor new d t) → AddsAmong ns old new all before after
  parts_push t is each = parts_then (t ∷ []) is (λ s named u h. let p = each s named in (p.0, p.1, subst (IsBuiltFor new p.0) (only h.place u h.at) p.2))
    where
      only : (i : ℕ) (u : Term) → slice_get (t ∷ []) i ≡ Some u → t ≡ u
      only zero u at = same_Some t u at
      only (suc i) u at = absurd (cc at)

-- the parts of a call: those of its arguments, and its own term
pub parts_call : (ns : Named) (old mid new : World) → IsWider mid new → (at : Place) (v : List ℕ) (es : Exprs) (before between after : List Term) (t : Term) → AddsAmong ns old mid (λ s. all_trees s es) before between → after ≡ between ++ t ∷ []
    → ((s : Scope) → AreNamed old s ns → BuildsOne s old new (expr_at at (operation v es)) t) → AddsParts ns old new (expr_at at (operation v es)) before after
parts_call ns old mid new late at v es before between after t a is built =
    let e : Expr = expr_at at (operation v es) in
    among_parts ns old new e before after
    (parts_push ns old mid new late (λ s. all_trees s es) (λ s. written_trees s e) (λ s named. arguments_written s at v es) before between after a t is
    (λ s named. let b = built s named in (b.tree, written_here s e b.tree b.is, b.built)))

-- the parts of what is read where names are bound: those of what they are bound to, and those of the body
module _ (ns : Named) (old mid new : World) (late : IsWider mid new) (at : Place) (bs : Binds) (body : Expr) (ps : List (List ℕ × Term)) (before between after : List Term)
    (inside : (s : Scope) → AreNamed old s ns → (xs : Scope) × (bindings_of s bs ≡ Ok xs) × AreNamed mid (xs ++ s) (with_bound ns ps)) where
  pub parts_let : AddsAmong ns old mid (λ s. bound_trees s bs) before between → AddsParts (with_bound ns ps) mid new body between after → AddsParts ns old new (expr_at at (let_in bs body)) before after
  parts_let a b = among_parts ns old new (expr_at at (let_in bs body)) before after
      (parts_then ns old mid new late (λ s. bound_trees s bs) (λ s. written_trees s (expr_at at (let_in bs body))) (λ s named. bound_written s at bs body) before between after a b.added b.is
      (λ s named t h.
      let i = inside s named in
      let p = b.each (i.0 ++ s) i.2 t h in
      (p.0, body_written s at bs body i.0 i.1 p.0 p.1, p.2)))

-- two values of one result are one
one_result : {X : Type 0} (r : Result X Cause) (x y : X) → r ≡ Ok x → r ≡ Ok y → x ≡ y
one_result r x y e f = same_Some x y (ap result_ok (sym e ∙ f))

-- the answer of each form stays within what is kept: truth values and names
pub stays_true : (ns : Named) (w : World) (parts : List Term) (e : Expr) (at : Place) (t : Term) → e ≡ expr_at at true_word → HasShape w t shape.True → StaysWithin ns w w parts e t
unfolding tree_of IsBuiltWithin
stays_true ns w parts e at t form h s ks named within kept d is = subst (λ z. IsBuiltWithin w ks z t) (one_result (tree_of s e) (node truth tree.none) d (ap (tree_of s) form) is) h

pub stays_false : (ns : Named) (w : World) (parts : List Term) (e : Expr) (at : Place) (t : Term) → e ≡ expr_at at false_word → HasShape w t shape.False → StaysWithin ns w w parts e t
unfolding tree_of IsBuiltWithin
stays_false ns w parts e at t form h s ks named within kept d is = subst (λ z. IsBuiltWithin w ks z t) (one_result (tree_of s e) (node falsity tree.none) d (ap (tree_of s) form) is) h

-- a name's tree is the one that it stands for
pub name_known : (at : Place) (v : List ℕ) (o : Option Tree) (d : Tree) → known at v o ≡ Ok d → o ≡ Some d
name_known at v None d e = absurd (cc e)
name_known at v (Some x) d e = ap result_ok e

pub stays_name : (ns : Named) (w : World) (parts : List Term) (e : Expr) (at : Place) (v : List ℕ) (t : Term) → e ≡ expr_at at (grammar.name v) → term_named ns v ≡ Some t → StaysWithin ns w w parts e t
unfolding tree_of
stays_name ns w parts e at v t form h s ks named within kept d is =
    let k = within v d (name_known at v (tree_named s v) d (ap (tree_of s) (sym form) ∙ is)) in subst (IsBuiltWithin w ks d) (same_Some k.0 t (sym k.1 ∙ h)) k.2

-- the tree of an operator over trees
unless_cases : (at : Place) (x d : Tree) (m : Option Misfit) → unless_misfit at x m ≡ Ok d → d ≡ x
unless_cases at x d None e = sym (same_Some x d (ap result_ok e))
unless_cases at x d (Some m) e = absurd (cc e)

over_cases : (at : Place) (op : Option Op) (ts : Result Trees Cause) (d : Tree) → over at op ts ≡ Ok d → (o : Op) × (ds : Trees) × (ts ≡ Ok ds) × (d ≡ node o ds)
over_cases at None (Err c) d e = absurd (cc e)
over_cases at (Some o) (Err c) d e = absurd (cc e)
over_cases at None (Ok ds) d e = absurd (cc e)
over_cases at (Some o) (Ok ds) d e = (o, ds, refl, unless_cases at (node o ds) d (misfit_of o (sorts_of ds)) e)

-- a call, whose own term is kept too
module _ (ns : Named) (old mid new : World) (late : IsWider mid new) (table : IsTable new) (at : Place) (v : List ℕ) (es : Exprs) (between after : List Term) (ts : List Term) (t : Term) where
  pub stays_call : AllStayWithin ns old mid between es ts → after ≡ between ++ t ∷ [] → ((s : Scope) → AreNamed old s ns → BuildsOne s old new (expr_at at (operation v es)) t) → StaysWithin ns old new after (expr_at at (operation v es)) t
  unfolding tree_of
  stays_call args more built s ks named within kept d is =
      let c = over_cases at (op_in operator_words v) (trees_of s es) d is in
      let b = built s named in
      let all : AllKept (between ++ t ∷ []) ks = subst (λ z. AllKept z ks) more kept in
      let whole : IsBuiltFor new (node c.0 c.1) t = subst (λ z. IsBuiltFor new z t) (one_result (tree_of s (expr_at at (operation v es))) b.tree (node c.0 c.1) b.is (is ∙ ap Ok c.3)) b.built in
      let are = all_within_stay mid new late ks c.1 ts (args s ks named within (kept_front between (t ∷ []) ks all) c.1 c.2) in
      subst (λ z. IsBuiltWithin new ks z t) (sym c.3) (within_node new table ks c.0 c.1 ts t whole are (kept_back between (t ∷ []) ks all t (record { place = 0; at = refl })))

-- the answers for the first of the expressions, where the rest is left
abbrev pub FirstStayWithin : Named → World → World → List Term → Exprs → Exprs → List Term → Type 0
FirstStayWithin ns old new parts es rest ts = (s : Scope) (ks : List Term) → AreNamed old s ns → AreNamedWithin old ks s ns → AllKept parts ks → (done : List Tree) × (trees_of s es ≡ in_front done (trees_of s rest)) × AreBuiltWithin new ks (trees done) ts

-- nothing is built yet; the next expression was built; all are
in_front_more : (ds : List Tree) (d : Tree) (rest : Result Trees Cause) → in_front (ds ++ d ∷ []) rest ≡ in_front ds (join (Ok d) rest)
in_front_more [] d rest = refl
in_front_more (x ∷ ds) d rest = ap (join (Ok x)) (in_front_more ds d rest)

in_front_all : (ds : List Tree) → in_front ds (Ok tree.none) ≡ Ok (trees ds)
in_front_all [] = refl
in_front_all (d ∷ ds) = ap (join (Ok d)) (in_front_all ds)

pub first_stay_start : (ns : Named) (w : World) (parts : List Term) (es : Exprs) → FirstStayWithin ns w w parts es es []
unfolding AreBuiltWithin
first_stay_start ns w parts es s ks named within kept = ([], refl, tt)

pub first_stay_more : (ns : Named) (old mid new : World) → IsWider old mid → IsWider mid new → (between after : List Term) → IsMore between after → (es rest : Exprs) (e : Expr) (ts : List Term) (t : Term)
    → FirstStayWithin ns old mid between es (more_exprs e rest) ts → StaysWithin ns mid new after e t → ((s : Scope) → AreNamed mid s ns → BuildsOne s mid new e t) → FirstStayWithin ns old new after es rest (ts ++ t ∷ [])
unfolding tree_of
first_stay_more ns old mid new early late between after more es rest e ts t first one built s ks named within kept =
    let all : AllKept (between ++ more.added) ks = subst (λ z. AllKept z ks) more.is kept in
    let f = first s ks named within (kept_front between more.added ks all) in
    let inside = named_stays old mid early s ns named in
    let b = built s inside in (
      f.0 ++ b.tree ∷ [],
      f.1 ∙ ap (λ r. in_front f.0 (join r (trees_of s rest))) b.is ∙ sym (in_front_more f.0 b.tree (trees_of s rest)),
      within_push new ks f.0 ts b.tree t (all_within_stay mid new late ks (trees f.0) ts f.2) (one s ks inside (named_within_stays old mid early ks s ns within) kept b.tree b.is),
    )

pub first_stay_all : (ns : Named) (old new : World) (parts : List Term) (es : Exprs) (ts : List Term) → FirstStayWithin ns old new parts es no_exprs ts → AllStayWithin ns old new parts es ts
unfolding tree_of
first_stay_all ns old new parts es ts first s ks named within kept ds is =
    let f = first s ks named within kept in subst (λ z. AreBuiltWithin new ks z ts) (one_result (trees_of s es) (trees f.0) ds (f.1 ∙ in_front_all f.0) is) f.2

-- the same for what `let` binds
abbrev pub BoundFirstStayWithin : Named → World → World → List Term → Binds → Binds → List (List ℕ × Term) → Type 0
BoundFirstStayWithin ns old new parts bs rest ps = (s : Scope) (ks : List Term) → AreNamed old s ns → AreNamedWithin old ks s ns → AllKept parts ks → (done : Scope) × (bindings_of s bs ≡ names_in_front done (bindings_of s rest)) × AreBoundWithin new ks done ps

names_front_more : (xs : Scope) (v : List ℕ) (d : Tree) (rest : Result Scope Cause) → names_in_front (xs ++ (v, d) ∷ []) rest ≡ names_in_front xs (bind v (Ok d) rest)
names_front_more [] v d rest = refl
names_front_more (x ∷ xs) v d rest = ap (bind x.0 (Ok x.1)) (names_front_more xs v d rest)

names_front_all : (xs : Scope) → names_in_front xs (Ok []) ≡ Ok xs
names_front_all [] = refl
names_front_all (x ∷ xs) = ap (bind x.0 (Ok x.1)) (names_front_all xs)

pub bound_stay_start : (ns : Named) (w : World) (parts : List Term) (bs : Binds) → BoundFirstStayWithin ns w w parts bs bs []
bound_stay_start ns w parts bs s ks named within kept = ([], refl, tt)

pub bound_stay_more : (ns : Named) (old mid new : World) → IsWider old mid → IsWider mid new → (between after : List Term) → IsMore between after → (bs rest : Binds) (v : List ℕ) (e : Expr) (ps : List (List ℕ × Term)) (t : Term)
    → BoundFirstStayWithin ns old mid between bs (more_binds v e rest) ps → StaysWithin ns mid new after e t → ((s : Scope) → AreNamed mid s ns → BuildsOne s mid new e t) → BoundFirstStayWithin ns old new after bs rest (ps ++ (v, t) ∷ [])
unfolding tree_of
bound_stay_more ns old mid new early late between after more bs rest v e ps t first one built s ks named within kept =
    let all : AllKept (between ++ more.added) ks = subst (λ z. AllKept z ks) more.is kept in
    let f = first s ks named within (kept_front between more.added ks all) in
    let inside = named_stays old mid early s ns named in
    let b = built s inside in (
      f.0 ++ (v, b.tree) ∷ [],
      f.1 ∙ ap (λ r. names_in_front f.0 (bind v r (bindings_of s rest))) b.is ∙ sym (names_front_more f.0 v b.tree (bindings_of s rest)),
      bound_within_push new ks f.0 ps v b.tree t (bound_within_stays mid new late ks f.0 ps f.2) (one s ks inside (named_within_stays old mid early ks s ns within) kept b.tree b.is),
    )

pub bound_stay_all : (ns : Named) (old new : World) (parts : List Term) (bs : Binds) (ps : List (List ℕ × Term)) → BoundFirstStayWithin ns old new parts bs no_binds ps → BoundStayWithin ns old new parts bs ps
unfolding tree_of
bound_stay_all ns old new parts bs ps first s ks named within kept xs is =
    let f = first s ks named within kept in subst (λ z. AreBoundWithin new ks z ps) (one_result (bindings_of s bs) f.0 xs (f.1 ∙ names_front_all f.0) is) f.2

-- what is read where names are bound
module _ (ns : Named) (old mid new : World) (early : IsWider old mid) (table : IsTable mid) (law : FitsAreTyped) (at : Place) (bs : Binds) (body : Expr) (ps : List (List ℕ × Term)) (once : repeated (names_of bs) ≡ None) (between after : List Term) (more : IsMore between after) where
  pub stays_let : ((s : Scope) → AreNamed old s ns → BindsAll s old mid bs ps) → BoundStayWithin ns old mid between bs ps → (t : Term) → StaysWithin (with_bound ns ps) mid new after body t → StaysWithin ns old new after (expr_at at (let_in bs body)) t
  stays_let all bound t inner s ks named within kept d is =
      let b = all s named in
      let front : AllKept between ks = kept_front between more.added ks (subst (λ z. AllKept z ks) more.is kept) in
      let inside : AreNamed mid (b.names ++ s) (with_bound ns ps) = let_scope law mid s ns (named_stays old mid early s ns named) bs b.names ps b.is once b.bound in
      let names = let_within mid table ks s ns (named_within_stays old mid early ks s ns within) b.names ps inside (bound s ks named within front b.names b.is) in
      inner (b.names ++ s) ks inside names kept d (sym (let_inside s (expr_at at (let_in bs body)) body at bs refl once b.names b.is) ∙ is)
