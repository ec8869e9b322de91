-- A word's constructor over the terms of its arguments, answered or refused.
use Rattle.std.proofs.Common.{◌≡◌, ◌∙◌, ◌⊎◌, inl, inr, ℕ, zero, suc, ◌+◌, List, [], ◌∷◌, length, Some, None, Result, Ok, Err, refl, sym, ap, subst}
use Rattle.std.specs.Prelude.{slice_get, IfOk, IfErr, OnErr}
use Rattle.std.specs.Option.{option_map}
use Rattle.std.proofs.lemmas.Option.{same_Some}
use Rattle.y_tree.specs.Sorts.{Sort}
use Rattle.term_shapes.specs.declared.handles.Term.{Term}
use Rattle.term_shapes.specs.declared.shapes.Node.{Node}
use Rattle.term_table.specs.World.{World, node_at, KeepsType, IsTable}
use Rattle.term_table.specs.Checking.{HaveSorts, IsFirstDead, Wants}
use Rattle.term_sketches.specs.declared.items.Operator.{Operator}
use Rattle.term_sketches.specs.Sketches.{operator_of}
use Rattle.term_build.specs.Building.{AddsAtMost, AddsBelow, AreFit, AreKnown, IsBuilt, IsEmptyCall, IsUnfit, RefusesCall}
use Rattle.term_build.specs.declared.errors.BuildError.{BuildError}
use Rattle.term_build.specs.declared.errors.BuildError.TheVariants as error
use Rattle.yices_api.specs.State.{State}
use Rattle.yices_grammar.specs.declared.Place.{Place}
use Rattle.yices_grammar.specs.Commands.{Expr, expr_at, Exprs, operation}
use Rattle.expression_terms.specs.declared.refusal.Refusal.{Refusal}
use Rattle.expression_terms.specs.declared.refusal.Refusal.TheVariants as refusal
use Rattle.expression_terms.specs.declared.refusal.Stop.{Stop}
use Rattle.expression_terms.specs.declared.refusal.Stop.TheVariants as stop
use Rattle.expression_terms.specs.Trees.{Scope, op_in, operator_words, sort_text, wanted_text, told, wrong, tree_of}
use Rattle.expression_terms.specs.Growth.{written_trees, all_trees}
use Rattle.expression_terms.specs.Fresh.{GrowsPast}
use Rattle.expression_terms.specs.Parts.{BuildsOne, BuildsAll}
use Rattle.expression_terms.specs.Building.{AreBoolean, cause_in, IsUnbuilt, TellsCause}
use Rattle.expression_terms.proofs.Booleans.{boolean_typed}
use Rattle.expression_terms.proofs.Clauses.{arguments_listed, unknown_word, types, empty_told, fit_tree, unfit_told, one_call, call_past}
use Rattle.expression_terms.proofs.Enough.{grows_past}
use Rattle.expression_terms.proofs.Grown.{grows_among}
use Rattle.expression_terms.proofs.Promised.{unbuilt_wrong}

-- what is said of an answer, or of an error, and what follows
pub ok_then : {A E : Type 0} {P Q : A → Type 0} (r : Result A E) → IfOk r P → ((x : A) → P x → Q x) → IfOk r Q
ok_then (Ok x) h f = f x h
ok_then (Err e) h f = tt

pub err_then : {A E : Type 0} {P Q : E → Type 0} (r : Result A E) → IfErr r P → ((e : E) → P e → Q e) → IfErr r Q
err_then (Ok x) h f = tt
err_then (Err e) h f = f e h

pub on_err_then : {A E : Type 0} {P Q : Type 0} (r : Result A E) → OnErr r P → (P → Q) → OnErr r Q
on_err_then (Ok x) h f = tt
on_err_then (Err e) h f = f h

-- terms with types are live
none_dead : (w : World) (ts : List Term) (ks : List Sort) → HaveSorts w ts ks → (i : ℕ) (t : Term) → slice_get ts i ≡ Some t → node_at w t ≡ None → ⊥
none_dead w [] ks have i t at dead = absurd (cc at)
none_dead w (u ∷ ts) [] have i t at dead = have
none_dead w (u ∷ ts) (k ∷ ks) have zero t at dead =
    let live = have.0.1 in
    absurd (cc (sym (ap (λ o. option_map (λ (n : Node). n.of) o) (ap (node_at w) (same_Some u t at) ∙ dead)) ∙ live))
none_dead w (u ∷ ts) (k ∷ ks) have (suc i) t at dead = none_dead w ts ks have.1 i t at dead

module _ (s : Scope) (at : Place) (v : List ℕ) (es : Exprs) where
  abbrev whole : Expr
  whole = expr_at at (operation v es)

  -- the call was not begun
  pub not_begun : (start old : World) (ts : List Term) → BuildsAll s start old es ts → GrowsPast (written_trees s whole) start old
  not_begun start old ts all = grows_past (written_trees s whole) start old (grows_among (all_trees s es) (written_trees s whole) start old (arguments_listed s whole at v es refl) all.grows)

  -- the word is none of a constructor
  pub word_unbuilt : (start old : World) (ts : List Term) (new : State) → op_in operator_words v ≡ None → BuildsAll s start old es ts → IsUnbuilt (cause_in (tree_of s whole)) new (stop.Refused at refusal.NotBuilt)
  word_unbuilt start old ts new none all = unbuilt_wrong (tree_of s whole) new at refusal.NotBuilt (λ e. absurd (cc e)) (unknown_word s whole at v es refl all.trees all.is none)

  module _ (laws : AreKnown) (truths : AreBoolean s) (start old : World) (table : IsTable old) (o : Operator) (word : op_in operator_words v ≡ Some (operator_of o)) (ts : List Term) (all : BuildsAll s start old es ts) where
    -- the call is one of nothing
    pub empty_unbuilt : (new : State) → IsEmptyCall (operator_of o) ts → IsUnbuilt (cause_in (tree_of s whole)) new (stop.Refused at (refusal.BadArity 0))
    empty_unbuilt new empty =
        unbuilt_wrong (tree_of s whole) new at (refusal.BadArity 0) (λ e. absurd (cc e)) (empty_told s whole at v es refl laws (boolean_typed s truths) start old table o word ts all empty)

    module _ (full : IsEmptyCall (operator_of o) ts → ⊥) where
      pub call_built : (new : World) → IsTable new → (t : Term) → IsBuilt old new o ts t → AddsAtMost (4 + length ts) old new → AddsBelow old new t → BuildsOne s start new whole t
      call_built new after t built adds below = one_call s whole at v es refl laws (boolean_typed s truths) start old table o word ts all full new after t built adds below.each

      pub refused_past : (new : World) → AreFit old (operator_of o) ts ⊎ (new ≡ old) → AddsAtMost (4 + length ts) old new → GrowsPast (written_trees s whole) start new
      refused_past new (inl fit) adds = call_past s whole at v es refl laws (boolean_typed s truths) start old table o word ts all full new fit adds
      refused_past new (inr same) adds = subst (GrowsPast (written_trees s whole) start) (sym same) (not_begun start old ts all)

      no_argument_dead : (place : ℕ) → IsFirstDead old ts place → ⊥
      no_argument_dead place d = none_dead old ts _ (types s whole at v es refl laws (boolean_typed s truths) start old table o word ts all) d.others d.term d.there d.dead

      -- the misfit is told
      unfit_unbuilt : (e : BuildError) (unfit : IsUnfit old (operator_of o) ts e) (why : Refusal) → (why ≡ refusal.TableFull → ⊥) → told unfit.misfit ≡ why → (new : State) → IsUnbuilt (cause_in (tree_of s whole)) new (stop.Refused at why)
      unfit_unbuilt e unfit why other is new =
          unbuilt_wrong (tree_of s whole) new at why other
          (unfit_told s whole at v es refl laws (boolean_typed s truths) start old table o word ts all full unfit.sorts unfit.have unfit.misfit unfit.is ∙ ap (wrong at) is)

      -- nothing has changed where the call is unfit
      unfit_same : (e : BuildError) → IsUnfit old (operator_of o) ts e → (new : World) → AreFit old (operator_of o) ts ⊎ (new ≡ old) → new ≡ old
      unfit_same e unfit new (inr same) = same
      unfit_same e unfit new (inl fit) =
          let good = fit_tree s whole at v es refl laws (boolean_typed s truths) start old table o word ts all full fit in
          let bad = unfit_told s whole at v es refl laws (boolean_typed s truths) start old table o word ts all full unfit.sorts unfit.have unfit.misfit unfit.is in
          absurd (cc (sym good ∙ bad))

      -- why the call was refused
      pub refused_unbuilt : (new : State) (e : BuildError) (why : Stop) → RefusesCall old new.table (operator_of o) ts e → AreFit old (operator_of o) ts ⊎ (new.table ≡ old) → TellsCause new.table at e why → IsUnbuilt (cause_in (tree_of s whole)) new why
      refused_unbuilt new (error.DeadTerm place) why refuses fit tells = absurd (no_argument_dead place refuses)
      refused_unbuilt new (error.BadArity n) why refuses fit tells =
          subst (IsUnbuilt (cause_in (tree_of s whole)) new) (sym tells) (unfit_unbuilt (error.BadArity n) refuses (refusal.BadArity n) (λ e. absurd (cc e)) (ap told refuses.tells) new)
      refused_unbuilt new (error.WrongType place want found) why refuses fit (inl tells) = subst (IsUnbuilt (cause_in (tree_of s whole)) new) (sym tells) tt
      refused_unbuilt new (error.WrongType place want found) why refuses fit (inr tells) =
          let e : BuildError = error.WrongType place want found in
          let same : old ≡ new.table = sym (unfit_same e refuses new.table fit) in
          let m = refuses.tells in
          let wants : Wants new.table want m.0 = subst (λ w. Wants w want m.0) same m.2 in
          let keeps : KeepsType new.table found m.1 = subst (λ w. KeepsType w found m.1) same m.3 in
          subst (IsUnbuilt (cause_in (tree_of s whole)) new) (sym (tells m.0 m.1 wants keeps))
          (unfit_unbuilt e refuses (refusal.WrongType place (wanted_text m.0) (sort_text m.1)) (λ f. absurd (cc f)) (ap told m.4) new)
      refused_unbuilt new (error.WidthsDiffer place left right) why refuses fit tells =
          subst (IsUnbuilt (cause_in (tree_of s whole)) new) (sym tells) (unfit_unbuilt (error.WidthsDiffer place left right) refuses refusal.NotBuilt (λ e. absurd (cc e)) (ap told refuses.tells) new)
      refused_unbuilt new (error.BadWidth n) why refuses fit tells =
          subst (IsUnbuilt (cause_in (tree_of s whole)) new) (sym tells) (unfit_unbuilt (error.BadWidth n) refuses refusal.NotBuilt (λ e. absurd (cc e)) (ap told refuses.tells) new)
      refused_unbuilt new error.BadRange why refuses fit tells =
          subst (IsUnbuilt (cause_in (tree_of s whole)) new) (sym tells) (unfit_unbuilt error.BadRange refuses refusal.NotBuilt (λ e. absurd (cc e)) (ap told refuses.tells) new)
      refused_unbuilt new error.TableFull why refuses fit tells = subst (IsUnbuilt (cause_in (tree_of s whole)) new) (sym tells) refuses.1
      refused_unbuilt new error.NoMemory why refuses fit tells = subst (IsUnbuilt (cause_in (tree_of s whole)) new) (sym tells) tt
