-- The assumptions that literals become, for whatever trees the names stand for.
use Rattle.std.proofs.Common.{◌≡◌, ◌∙◌, ℕ, zero, suc, List, [], ◌∷◌, map, Some, Ok, refl, sym, ap, subst}
use Rattle.std.specs.Prelude.{slice_get}
use Rattle.std.proofs.lemmas.Option.{same_Some}
use Rattle.y_tree.specs.Tree.{Tree}
use Rattle.term_shapes.specs.declared.handles.Term.{Term}
use Rattle.term_table.specs.World.{World, IsTable}
use Rattle.term_build.specs.Building.{AreKnown}
use Rattle.yices_grammar.specs.Commands.{LitExpr}
use Rattle.yices_api.specs.State.{State as Environment, ContextsStay}
use Rattle.expression_terms.specs.Trees.{Scope}
use Rattle.expression_terms.specs.Standing.{StandsFor, IsBuiltFor}
use Rattle.expression_terms.specs.Growth.{GrowsFor}
use Rattle.expression_terms.specs.Fresh.{needs}
use Rattle.expression_terms.specs.Building.{literal_tree}
use Rattle.expression_terms.specs.declared.refusal.Stop.{Stop}
use Rattle.expression_terms.proofs.Booleans.{boolean_stands}
use Rattle.expression_terms.proofs.Enough.{grows_enough}
use Rattle.expression_terms.proofs.Truths.{AreAllTruths, IsPropositional, expression_propositional, truths_boolean}
use Rattle.yices_session.specs.State.{State, scope_of}
use Rattle.yices_session.specs.Steps.{Assumed, AreAssumed, assumed_trees, assumed_terms, unknown_in}
use Rattle.yices_session.specs.Parts.{literal_of, AreBuiltAssumptions, Assumes, AssumesAll, MayAddSome, StopsAssuming}
use Rattle.yices_session.specs.Refusals.{IsRefused, Stays}
use Rattle.yices_session.specs.Held.{Held, Stands}
use Rattle.yices_session.proofs.Growing.{grows_stands, grows_stays, known_names}
use Rattle.yices_session.proofs.Literals.{as_expression, literal_expression}
use Rattle.yices_session.proofs.Scoping.{scope_truths}
use Rattle.yices_session.specs.Answers.{Halts}
use Rattle.yices_session.proofs.Stopping.{unbuilt_as}
use Rattle.yices_session.proofs.Verdicts.{AreAssumptions}
use Rattle.yices_session.proofs.Closed.{AreClosed}

-- the terms of assumptions that were built stand for their trees, and have truth values alone below them
module _ (laws : AreKnown) (w : World) (table : IsTable w) (s : Scope) (scope : AreAllTruths s) where
  one_stands : (l : LitExpr) (d : Tree) (t : Term) → literal_tree s l ≡ Ok d → IsBuiltFor w d t → StandsFor w d t
  one_stands l d t is built =
      (boolean_stands laws w table s (truths_boolean s scope) (as_expression l) d (literal_expression s (truths_boolean s scope) l d is) t built).0

  one_closed : (l : LitExpr) (d : Tree) (t : Term) → literal_tree s l ≡ Ok d → IsBuiltFor w d t → IsPropositional w t
  one_closed l d t is built = expression_propositional laws w table s scope (as_expression l) d (literal_expression s (truths_boolean s scope) l d is) t built

  pub assumptions_are : (ls : List LitExpr) (as_ : List Assumed) → AreBuiltAssumptions s w ls as_ → AreAssumed s w ls as_
  assumptions_are [] [] h = tt
  assumptions_are [] (a ∷ as_) h = absurd h
  assumptions_are (l ∷ ls) [] h = absurd h
  assumptions_are (l ∷ ls) (a ∷ as_) h = (record { literal = h.0.literal; tree = h.0.tree; stands = one_stands l a.tree a.term h.0.tree h.0.built }, assumptions_are ls as_ h.1)

  pub assumptions_stand : (ls : List LitExpr) (as_ : List Assumed) → AreBuiltAssumptions s w ls as_ → AreAssumptions w as_
  assumptions_stand ls [] h i x at = absurd (cc at)
  assumptions_stand [] (a ∷ as_) h i x at = absurd h
  assumptions_stand (l ∷ ls) (a ∷ as_) h zero x at = subst (λ (z : Assumed). StandsFor w z.tree z.term) (same_Some a x at) (one_stands l a.tree a.term h.0.tree h.0.built)
  assumptions_stand (l ∷ ls) (a ∷ as_) h (suc i) x at = assumptions_stand ls as_ h.1 i x at

  closed_at : (ls : List LitExpr) (as_ : List Assumed) → AreBuiltAssumptions s w ls as_ → (i : ℕ) (t : Term) → slice_get (assumed_terms as_) i ≡ Some t → IsPropositional w t
  closed_at ls [] h i t at = absurd (cc at)
  closed_at [] (a ∷ as_) h i t at = absurd h
  closed_at (l ∷ ls) (a ∷ as_) h zero t at = subst (IsPropositional w) (same_Some a.term t at) (one_closed l a.tree a.term h.0.tree h.0.built)
  closed_at (l ∷ ls) (a ∷ as_) h (suc i) t at = closed_at ls as_ h.1 i t at

  pub assumptions_closed : (ls : List LitExpr) (as_ : List Assumed) → AreBuiltAssumptions s w ls as_ → AreClosed w (assumed_terms as_)
  assumptions_closed ls as_ h t is = closed_at ls as_ h is.place t is.at

-- as the literals were written
pub assumed_literals : (s : Scope) (w : World) (ls : List LitExpr) (as_ : List Assumed) → AreBuiltAssumptions s w ls as_ → map (λ (a : Assumed). a.literal) as_ ≡ map literal_of ls
assumed_literals s w [] [] h = refl
assumed_literals s w [] (a ∷ as_) h = absurd h
assumed_literals s w (l ∷ ls) [] h = absurd h
assumed_literals s w (l ∷ ls) (a ∷ as_) h = ap (λ z. z ∷ map (λ (x : Assumed). x.literal) as_) h.0.literal ∙ ap (λ zs. literal_of l ∷ zs) (assumed_literals s w ls as_ h.1)

-- literals whose terms were built
module _ (h : Held) (env : Environment) (ls : List LitExpr) (ts : List Term) (table : IsTable h.env.table) (after : IsTable env.table) (laws : AreKnown) (all : AssumesAll h.env.table env.table ls ts) (stay : ContextsStay h.env env) where
  abbrev pub grown : Held
  grown = record h { env = env }

  module _ (s : State) (st : Stands h s) where
    abbrev pub mid : State
    mid = record s { table = env.table }

    abbrev pub its : Assumes (scope_of s.names) h.env.table env.table ls ts
    its = all.each (scope_of s.names) (known_names h s st)

    pub mid_stands : Stands grown mid
    mid_stands = grows_stands (needs its.grows.trees) h s env table its.grows.adds stay st

    pub mid_stays : Stays s mid
    mid_stays = grows_stays (needs its.grows.trees) h s env table its.grows.adds stay st

    pub are : AreAssumed (scope_of s.names) env.table ls its.assumed
    are = assumptions_are laws env.table after (scope_of s.names) (scope_truths s.names st.trees) ls its.assumed its.are

    pub standing : AreAssumptions env.table its.assumed
    standing = assumptions_stand laws env.table after (scope_of s.names) (scope_truths s.names st.trees) ls its.assumed its.are

    pub closed : AreClosed env.table (assumed_terms its.assumed)
    closed = assumptions_closed laws env.table after (scope_of s.names) (scope_truths s.names st.trees) ls its.assumed its.are

    pub grows : GrowsFor (assumed_trees its.assumed) s.table env.table
    grows = subst (λ w. GrowsFor (assumed_trees its.assumed) w env.table) (sym st.table) (grows_enough (assumed_trees its.assumed) h.env.table env.table its.grows)

-- building them stopped
pub assuming_halts : (h : Held) (env : Environment) (ls : List LitExpr) (why : Stop) → IsTable h.env.table → StopsAssuming h.env env ls why → MayAddSome h.env.table env.table → ContextsStay h.env env → (new : Held) → new ≡ record h { env = env }
    → Halts (λ s next. IsRefused (unknown_in (scope_of s.names) ls) next why) h new
assuming_halts h env ls why table stops adds stay new is = subst (Halts (λ s next. IsRefused (unknown_in (scope_of s.names) ls) next why) h) (sym is) (record {
  turns = refl;
  each = λ s st.
      let more = adds.each (scope_of s.names) (known_names h s st) in
      let next : State = record s { table = env.table } in
      (next, unbuilt_as (unknown_in (scope_of s.names) ls) (unknown_in (scope_of s.names) ls) next env why refl refl (stops (scope_of s.names) (known_names h s st)), grows_stays more.count h s env table more.adds stay st, grows_stands more.count h s env table more.adds stay st);
})
