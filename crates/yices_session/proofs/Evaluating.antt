-- An evaluation: the expression is built, and its term's value is the meaning of its tree.
use Rattle.std.proofs.Common.{◌≡◌, ◌∙◌, ℕ, zero, suc, List, [], ◌∷◌, Option, Some, Result, Ok, Err, refl, sym, ap, subst}
use Rattle.std.specs.Prelude.{slice_get, IfOk, IfErr}
use Rattle.std.proofs.lemmas.Option.{same_Some}
use Rattle.y_tree.specs.Tree.{Tree}
use Rattle.term_shapes.specs.declared.handles.Term.{Term}
use Rattle.term_table.specs.World.{World, IsTable}
use Rattle.term_orders.specs.Orders.{IsBelow, IsUnder}
use Rattle.term_build.specs.Building.{AreKnown}
use Rattle.yices_grammar.specs.Commands.{Expr}
use Rattle.yices_api.specs.State.{State as Environment}
use Rattle.expression_terms.specs.declared.refusal.Stop.{Stop}
use Rattle.expression_terms.specs.declared.refusal.Stop.TheVariants as stop
use Rattle.expression_terms.specs.Trees.{tree_of}
use Rattle.expression_terms.specs.Standing.{StandsFor}
use Rattle.expression_terms.specs.Growth.{GrowsFor, written_trees}
use Rattle.expression_terms.specs.Building.{Adds, Builds, BuildsOr, cause_in}
use Rattle.expression_terms.proofs.Booleans.{boolean_stands}
use Rattle.expression_terms.proofs.Truths.{IsPropositional, expression_propositional}
use Rattle.yices_session.specs.declared.refusal.Reply.{Reply}
use Rattle.yices_session.specs.Answers.{Halts, Moves}
use Rattle.yices_session.specs.Held.{Held, AreTruths, IsKeptModel, IsSession, Stands}
use Rattle.yices_session.specs.Refusals.{IsRefused}
use Rattle.yices_session.specs.Replies.{reply_text, value_reply}
use Rattle.yices_session.specs.State.{Kept, State, scope_of}
use Rattle.yices_session.specs.Steps.{Evaluates}
use Rattle.yices_session.proofs.Growing.{building_stands, building_stays, known_names}
use Rattle.yices_session.proofs.Scoping.{scope_truths}
use Rattle.yices_session.proofs.Stopping.{unbuilt_as}

-- one term with truth values alone below it
pub propositional_truths : (w : World) (t : Term) → IsPropositional w t → AreTruths w (t ∷ [])
propositional_truths w t h = record { sorts = λ u v. (h u (below u v)).0; closed = λ u v. (h u (below u v)).1 }
  where
    only : (r : Term) (i : ℕ) → slice_get (t ∷ []) i ≡ Some r → r ≡ t
    only r zero e = sym (same_Some t r e)
    only r (suc i) e = absurd (cc e)

    below : (u : Term) → IsUnder w (t ∷ []) u → IsBelow w u t
    below u v = subst (IsBelow w u) (only v.root v.listed.place v.listed.at) v.below

module _ (h : Held) (e : Expr) (new : Environment) (table : IsTable h.env.table) (adds : Adds (record { bound = []; defined = h.env.table.term_names }) h.env e new) where
  -- the session with the grown table
  pub grown_session : IsSession h → IsSession (record h { env = new })
  grown_session (s, stands) = (record s { table = new.table }, building_stands h s new table e adds stands)

  module _ (g k : Held) (seen : h ≡ g) (is : k ≡ record h { env = new }) where
    back : (s : State) → Stands g s → Stands h s
    back s stands = subst (λ z. Stands z s) (sym seen) stands

    turns_stay : k.turns ≡ g.turns
    turns_stay = ap (λ (z : Held). z.turns) is ∙ ap (λ (z : Held). z.turns) seen

    halts : (why : Stop) → ((s : State) → Stands h s → IsRefused (cause_in (tree_of (scope_of s.names) e)) (record s { table = new.table }) why) → Halts (λ s next. IsRefused (cause_in (tree_of (scope_of s.names) e)) next why) g k
    halts why refused = record {
      turns = turns_stay;
      each = λ s stands. (record s { table = new.table }, refused s (back s stands), building_stays h s new table e adds (back s stands), subst (λ z. Stands z (record s { table = new.table })) (sym is) (building_stands h s new table e adds (back s stands)));
    }

    -- building it was refused
    pub unbuilt_halts : (why : Stop) → BuildsOr (record { bound = []; defined = h.env.table.term_names }) h.env e (Err why) new → Halts (λ s next. IsRefused (cause_in (tree_of (scope_of s.names) e)) next why) g k
    unbuilt_halts why unbuilt = halts why (λ s stands. unbuilt_as (cause_in (tree_of (scope_of s.names) e)) (cause_in (tree_of (scope_of s.names) e)) (record s { table = new.table }) new why refl refl (unbuilt (scope_of s.names) (known_names h s stands)))

    -- memory was refused behind it
    pub memory_halts : (r : Result Reply Stop) → IfErr r (λ why. why ≡ stop.NoMemory) → IfErr r (λ why. Halts (λ s next. IsRefused (cause_in (tree_of (scope_of s.names) e)) next why) g k)
    memory_halts (Ok x) cause = tt
    memory_halts (Err why) cause = subst (λ z. Halts (λ s next. IsRefused (cause_in (tree_of (scope_of s.names) e)) next z) g k) (sym cause) (halts stop.NoMemory (λ s stands. tt))

  module _ (laws : AreKnown) (w : World) (at : w ≡ new.table) (grown : IsTable w) (t : Term) (builds : BuildsOr (record { bound = []; defined = h.env.table.term_names }) h.env e (Ok t) new) where
    new_table : IsTable new.table
    new_table = subst IsTable at grown

    built_for : (s : State) → Stands h s → Builds (scope_of s.names) e new t
    built_for s stands = builds (scope_of s.names) (known_names h s stands)

    -- its term has truth values alone below it
    pub term_truths : IsSession h → AreTruths w (t ∷ [])
    term_truths (s, stands) =
        let b = built_for s stands in
        subst (λ z. AreTruths z (t ∷ [])) (sym at)
        (propositional_truths new.table t (expression_propositional laws new.table new_table (scope_of s.names) (scope_truths s.names stands.trees) e b.tree b.is t b.built))

    -- and what is kept of a check is there still
    kept_still : (s : State) → Stands h s → IsKeptModel w h.model s.model
    kept_still s stands = subst (λ z. IsKeptModel z h.model s.model) (sym at) (building_stands h s new table e adds stands).model

    pub term_model : IsSession h → (k : Option Kept) × IsKeptModel w h.model k
    term_model (s, stands) = (s.model, kept_still s stands)

    evaluates : (s : State) → Stands h s → (says : List ℕ) → ((k : Option Kept) → IsKeptModel w h.model k → (d : Tree) → StandsFor w d t → says ≡ value_reply k d) → Evaluates s e says (record s { table = new.table })
    evaluates s stands says line =
        let named = known_names h s stands in
        let b = built_for s stands in
        let stands_for = (boolean_stands laws new.table new_table (scope_of s.names) named.truths e b.tree b.is t b.built).0 in
        record {
          built = new.table;
          value = b.tree;
          term = t;
          builds = record { known = b.is; stands = stands_for; grows = subst (λ z. GrowsFor (written_trees (scope_of s.names) e) z new.table) (sym stands.table) (adds.grows (scope_of s.names) named) };
          says = line s.model (kept_still s stands) b.tree (subst (λ z. StandsFor z b.tree t) (sym at) stands_for);
          after = refl;
        }

    -- the value is shown
    pub evaluated : (g k : Held) → h ≡ g → k ≡ record h { env = new } → (r : Result Reply Stop) → IfOk r (λ x. (k : Option Kept) → IsKeptModel w h.model k → (d : Tree) → StandsFor w d t → reply_text x ≡ value_reply k d)
        → IfOk r (λ x. Moves (λ s says next. Evaluates s e says next) g (reply_text x) k)
    evaluated g k seen is (Err why) line = tt
    evaluated g k seen is (Ok x) line = record {
      turns = ap (λ (z : Held). z.turns) is ∙ ap (λ (z : Held). z.turns) seen;
      each = λ s stands.
          let was : Stands h s = subst (λ z. Stands z s) (sym seen) stands in
          (record s { table = new.table }, evaluates s was (reply_text x) line, subst (λ z. Stands z (record s { table = new.table })) (sym is) (building_stands h s new table e adds was));
    }
