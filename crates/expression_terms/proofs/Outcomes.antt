-- What building an expression comes to, at each end of each form.
use Rattle.std.proofs.Common.{◌≡◌, ◌∙◌, ℕ, ◌+◌, ◌<◌, ◌≤◌, List, [], ◌∷◌, ◌++◌, Option, Some, None, Result, Ok, Err, map, length, drop, get_or, refl, sym, ap, subst, arith}
use Rattle.std.specs.Prelude.{IfOk, IfErr, IfSome, IfNone}
use Rattle.std.proofs.lemmas.Option.{same_Some, get_or_from_slice_get}
use Rattle.y_tree.specs.Sorts.{boolean}
use Rattle.y_tree.specs.Tree.{Tree}
use Rattle.y_tree.specs.Misfits.{wrong_type, a_function}
use Rattle.y_tree.specs.Laws.{FitsAreTyped}
use Rattle.term_shapes.specs.declared.handles.Term.{Term}
use Rattle.term_shapes.specs.declared.shapes.Shape.TheVariants as shape
use Rattle.term_table.specs.World.{World, HasShape}
use Rattle.term_build.specs.Building.{AddsAtMost, no_more, one_more}
use Rattle.term_build.proofs.Growing.{then_more}
use Rattle.yices_grammar.specs.declared.Place.{Place}
use Rattle.yices_grammar.specs.Commands.{Expr, expr_at, Exprs, Binds, no_exprs, more_exprs, no_binds, more_binds, true_word, false_word, name, operation, let_in, apply, exprs, binds}
use Rattle.yices_grammar.specs.Commands as form
use Rattle.yices_commands.specs.declared.command.Bind.{Bind, out-Bind}
use Rattle.yices_commands.specs.Plain.{plain, plain_bind}
use Rattle.yices_api.specs.State.{State, ContextsStay}
use Rattle.expression_terms.specs.declared.refusal.Refusal.{Refusal}
use Rattle.expression_terms.specs.declared.refusal.Refusal.TheVariants as refusal
use Rattle.expression_terms.specs.declared.refusal.Stop.{Stop}
use Rattle.expression_terms.specs.declared.refusal.Stop.TheVariants as stop
use Rattle.expression_terms.specs.Trees.{Scope, Cause, told, wrong, names_of, repeated, tree_of, trees_of, bindings_of}
use Rattle.expression_terms.specs.Growth.{written_trees, all_trees, bound_trees}
use Rattle.expression_terms.specs.Fresh.{GrowsBy, GrowsPast}
use Rattle.expression_terms.specs.Bound.{binding_names, IsBoundBy}
use Rattle.expression_terms.specs.Building.{Named, named_in, term_named, with_bound, AreBoolean, AreNamed, cause_in, IsUnbuilt, IsMissing, BuildsOr, Adds}
use Rattle.expression_terms.specs.Parts.{BuildsOne, BuildsAll, BuildsSome, BindsSome, BindsAll}
use Rattle.expression_terms.specs.Outcomes.{Builds, BuildsEach, BindsEach, Stops, StopsEach, BindsStop, OnlyAdds, IsTwice, IsNoFunction, paired}
use Rattle.expression_terms.proofs.Grown.{grows_none, grows_then}
use Rattle.expression_terms.proofs.Enough.{grows_past, past_then, past_among, among_front}
use Rattle.expression_terms.proofs.Scopes.{named_stays, let_scope}
use Rattle.expression_terms.proofs.Parts.{growing_wider, some_start, some_more, some_all, some_wrong, some_past, binds_start, binds_more, binds_all, binds_wrong, binds_past}
use Rattle.expression_terms.proofs.Clauses.{one_true, one_false, one_name, unknown_name, operation_wrong, operation_past, let_twice, let_wrong, let_inside, let_bound_past, one_let, let_past}
use Rattle.expression_terms.proofs.Before.{before_wrong, last_wrong, before_there}
use Rattle.expression_terms.proofs.Applying.{apply_wrong, arguments_wrong, apply_told, apply_past, update_wrong, behind_wrong, update_told, update_past}
use Rattle.expression_terms.proofs.Promised.{builds_ok, adds_ok, adds_past, unbuilt_up, unbuilt_wrong}
use Rattle.expression_terms.proofs.PlainLaws.{plain_bound_name, none_bound, names_same, names_count}

-- only the table may change, and it may change more than once
pub contexts_same : (old : State) → ContextsStay old old
contexts_same old = record { contexts = refl; made = refl }

pub contexts_on : (old mid new : State) → ContextsStay old mid → ContextsStay mid new → ContextsStay old new
contexts_on old mid new a b = record { contexts = b.contexts ∙ a.contexts; made = b.made ∙ a.made }

-- nothing was added to the table; more was, and then more still
pub adds_none : (w : World) → OnlyAdds w w
adds_none w = record { bound = 0; adds = no_more 0 w }

pub adds_on : (old mid new : World) → OnlyAdds old mid → OnlyAdds mid new → OnlyAdds old new
adds_on old mid new a b = record { bound = a.bound + b.bound; adds = then_more a.bound b.bound (a.bound + b.bound) old mid new a.adds b.adds (omega (arith)) }

pub adds_by : (n : ℕ) (old new : World) → AddsAtMost n old new → OnlyAdds old new
adds_by n old new adds = record { bound = n; adds = adds }

-- then the table has the names that it had
names_stay : (n : ℕ) (old new : World) → AddsAtMost n old new → new.term_names ≡ old.term_names
names_stay n old new (no_more m w) = refl
names_stay n old new (one_more m a b c t x adds rest) = names_stay m b c rest ∙ ap (λ (w : World). w.term_names) adds.rest

pub names_on : {old new : World} {before after : List (List ℕ × Term)} → OnlyAdds old new → after ≡ before → named_in new after ≡ named_in old before
names_on {old} {new} {before} {after} a same =
    ap (λ z. record { bound = z; defined = new.term_names }) same ∙ ap (λ z. record { bound = before; defined = z }) (names_stay a.bound old new a.adds)

-- names stand for what they stood for behind a step
module _ (ns : Named) (old mid : State) (s : Scope) (named : AreNamed old.table s ns) where
  after : (ts : List Tree) → GrowsBy ts old.table mid.table → AreNamed mid.table s ns
  after ts g = named_stays old.table mid.table (growing_wider ts old.table mid.table g) s ns named

-- a refusal with equal parts
refused_as : (c : Option Cause) (new : State) (place at : Place) (why said : Refusal) → place ≡ at → why ≡ said → IsUnbuilt c new (stop.Refused at said) → IsUnbuilt c new (stop.Refused place why)
refused_as c new place at why said here same h =
    subst (λ p. IsUnbuilt c new (stop.Refused p why)) (sym here) (subst (λ r. IsUnbuilt c new (stop.Refused at r)) (sym same) h)

-- what is said of an expression is said of what it is
pub same_built : (ns : Named) (old new : State) (e f : Expr) (r : Result Term Stop) → e ≡ f → IfOk r (Builds ns old new f) → IfOk r (Builds ns old new e)
same_built ns old new e f r is h = subst (λ x. IfOk r (Builds ns old new x)) (sym is) h

pub same_refused : (ns : Named) (old new : State) (e f : Expr) (r : Result Term Stop) → e ≡ f → IfErr r (Stops ns old new f) → IfErr r (Stops ns old new e)
same_refused ns old new e f r is h = subst (λ x. IfErr r (Stops ns old new x)) (sym is) h

module _ (ns : Named) (old : State) (e : Expr) (at : Place) where
  -- truth values and names
  pub builds_true : (t : Term) → e ≡ expr_at at true_word → HasShape old.table t shape.True → Builds ns old old e t
  builds_true t is h = λ s named. one_true s old.table e at t is h

  pub builds_false : (t : Term) → e ≡ expr_at at false_word → HasShape old.table t shape.False → Builds ns old old e t
  builds_false t is h = λ s named. one_false s old.table e at t is h

  pub builds_name : (w : List ℕ) (t : Term) → e ≡ expr_at at (name w) → term_named ns w ≡ Some t → Builds ns old old e t
  builds_name w t is h = λ s named. one_name s old.table ns named e at w is t h

  missing_cause : (w : List ℕ) (why : Stop) → e ≡ expr_at at (name w) → IsMissing ns at w why → (s : Scope) → AreNamed old.table s ns → IsUnbuilt (cause_in (tree_of s e)) old why
  missing_cause w stop.NoMemory is h s named = tt
  missing_cause w (stop.Refused place why) is h s named =
      refused_as (cause_in (tree_of s e)) old place at why (refusal.UnknownName w) h.0 h.1 (unbuilt_wrong (tree_of s e) old at (refusal.UnknownName w) (λ x. absurd (cc x)) (unknown_name s old.table ns named e at w is h.2))

  pub stops_name : (w : List ℕ) (why : Stop) → e ≡ expr_at at (name w) → IsMissing ns at w why → Stops ns old old e why
  stops_name w why is h = record {
    cause = missing_cause w why is h;
    past = λ s named. grows_past (written_trees s e) old.table old.table (grows_none (written_trees s e) old.table);
  }

  pub name_found : (w : List ℕ) (r : Result Term Stop) → e ≡ expr_at at (name w) → IfOk r (λ t. term_named ns w ≡ Some t) → IfOk r (Builds ns old old e)
  name_found w (Ok t) is h = builds_name w t is h
  name_found w (Err why) is h = tt

  pub name_missing : (w : List ℕ) (r : Result Term Stop) → e ≡ expr_at at (name w) → IfErr r (IsMissing ns at w) → IfErr r (Stops ns old old e)
  name_missing w (Ok t) is h = tt
  name_missing w (Err why) is h = stops_name w why is h

  -- a form that isn't built
  pub stops_unbuilt : ((s : Scope) → tree_of s e ≡ wrong at refusal.NotBuilt) → Stops ns old old e (stop.Refused at refusal.NotBuilt)
  stops_unbuilt is = record {
    cause = λ s named. unbuilt_wrong (tree_of s e) old at refusal.NotBuilt (λ x. absurd (cc x)) (is s);
    past = λ s named. grows_past (written_trees s e) old.table old.table (grows_none (written_trees s e) old.table);
  }

-- memory was refused when all was built
pub stops_kept : (ns : Named) (old new : State) (e : Expr) (t : Term) → Builds ns old new e t → Stops ns old new e stop.NoMemory
stops_kept ns old new e t h = record {
  cause = λ s named. tt;
  past = λ s named. grows_past (written_trees s e) old.table new.table (h s named).grows;
}

-- an operator over expressions
module _ (ns : Named) (old : State) (at : Place) (w : List ℕ) (es : Exprs) where
  abbrev call : Expr
  call = expr_at at (operation w es)

  pub call_stops_arguments : (new : State) (why : Stop) → StopsEach ns old new es why → Stops ns old new call why
  call_stops_arguments new why h = record {
    cause = λ s named. unbuilt_up (trees_of s es) (tree_of s call) new why (operation_wrong s call at w es refl) (h.cause s named);
    past = λ s named. operation_past s call at w es refl old.table new.table (h.past s named);
  }

  module _ (mid new : State) (ts : List Term) (each : BuildsEach ns old mid es ts) where
    pub call_builds : (t : Term) → ((s : Scope) (xs : Exprs) (start : World) → AreBoolean s → BuildsAll s start mid.table xs ts → BuildsOne s start new.table (expr_at at (operation w xs)) t) → Builds ns old new call t
    call_builds t h = λ s named. h s es old.table named.truths (each s named)

    pub call_stops_call : (why : Stop)
        → ((s : Scope) (xs : Exprs) (start : World) → AreBoolean s → BuildsAll s start mid.table xs ts → IsUnbuilt (cause_in (tree_of s (expr_at at (operation w xs)))) new why)
        → ((s : Scope) (xs : Exprs) (start : World) → AreBoolean s → BuildsAll s start mid.table xs ts → GrowsPast (written_trees s (expr_at at (operation w xs))) start new.table)
        → Stops ns old new call why
    call_stops_call why cause past = record {
      cause = λ s named. cause s es old.table named.truths (each s named);
      past = λ s named. past s es old.table named.truths (each s named);
    }

-- that nothing is a function is told, where it is wrong
no_function_cause : {A : Type 0} (whole : Result A Cause) (new : State) (at : Place) (why : Stop) → IsNoFunction at why → whole ≡ wrong at (told (wrong_type 1 a_function boolean)) → IsUnbuilt (cause_in whole) new why
no_function_cause whole new at stop.NoMemory h is = tt
no_function_cause whole new at (stop.Refused place why) h is =
    refused_as (cause_in whole) new place at why (told (wrong_type 1 a_function boolean)) h.0 h.1 (unbuilt_wrong whole new at (told (wrong_type 1 a_function boolean)) (λ x. absurd (cc x)) is)

-- an application
module _ (ns : Named) (old : State) (at : Place) (f : Expr) (es : Exprs) where
  abbrev application : Expr
  application = expr_at at (apply f es)

  pub apply_stops_function : (new : State) (why : Stop) → Stops ns old new f why → Stops ns old new application why
  apply_stops_function new why h = record {
    cause = λ s named. unbuilt_up (tree_of s f) (tree_of s application) new why (apply_wrong s application f at es refl) (h.cause s named);
    past = λ s named. apply_past s application f at es refl old.table new.table
        (past_among (written_trees s f) (written_trees s f ++ all_trees s es) old.table new.table (among_front (written_trees s f) (all_trees s es)) (h.past s named));
  }

  module _ (mid : State) (t : Term) (one : Builds ns old mid f t) where
    behind : (s : Scope) → AreNamed old.table s ns → AreNamed mid.table s ns
    behind s named = after ns old mid s named (written_trees s f) (one s named).grows

    pub apply_stops_arguments : (new : State) (why : Stop) → StopsEach ns mid new es why → Stops ns old new application why
    apply_stops_arguments new why h = record {
      cause = λ s named. unbuilt_up (trees_of s es) (tree_of s application) new why (λ c. arguments_wrong s application f at es refl (one s named).tree c (one s named).is) (h.cause s (behind s named));
      past = λ s named. apply_past s application f at es refl old.table new.table
          (past_then (written_trees s f) (all_trees s es) old.table mid.table new.table (one s named).grows (h.past s (behind s named)));
    }

    pub apply_stops : (new : State) (ts : List Term) (why : Stop) → FitsAreTyped → BuildsEach ns mid new es ts → IsNoFunction at why → Stops ns old new application why
    apply_stops new ts why law each h = record {
      cause = λ s named. no_function_cause (tree_of s application) new at why h
          (apply_told s application f at es refl law named.truths (one s named).tree (each s (behind s named)).trees (one s named).is (each s (behind s named)).is);
      past = λ s named. apply_past s application f at es refl old.table new.table (grows_past (written_trees s f ++ all_trees s es) old.table new.table
          (grows_then (written_trees s f) (all_trees s es) old.table mid.table new.table (one s named).grows (each s (behind s named)).grows));
    }

-- an update
module _ (ns : Named) (old : State) (at : Place) (f : Expr) (es : Exprs) (v : Expr) where
  abbrev updating : Expr
  updating = expr_at at (form.update f es v)

  abbrev all_written : Scope → List Tree
  all_written s = written_trees s f ++ (all_trees s es ++ written_trees s v)

  pub update_stops_function : (new : State) (why : Stop) → Stops ns old new f why → Stops ns old new updating why
  update_stops_function new why h = record {
    cause = λ s named. unbuilt_up (tree_of s f) (tree_of s updating) new why (update_wrong s updating f v at es refl) (h.cause s named);
    past = λ s named. update_past s updating f v at es refl old.table new.table
        (past_among (written_trees s f) (all_written s) old.table new.table (among_front (written_trees s f) (all_trees s es ++ written_trees s v)) (h.past s named));
  }

  module _ (mid : State) (t : Term) (one : Builds ns old mid f t) where
    built_one : (s : Scope) → AreNamed old.table s ns → AreNamed mid.table s ns
    built_one s named = after ns old mid s named (written_trees s f) (one s named).grows

    pub update_stops_arguments : (new : State) (why : Stop) → StopsEach ns mid new es why → Stops ns old new updating why
    update_stops_arguments new why h = record {
      cause = λ s named. unbuilt_up (trees_of s es) (tree_of s updating) new why
          (λ c x. behind_wrong s updating f v at es refl (one s named).tree c (one s named).is (before_wrong s es (tree_of s v) c x)) (h.cause s (built_one s named));
      past = λ s named. update_past s updating f v at es refl old.table new.table
          (past_then (written_trees s f) (all_trees s es ++ written_trees s v) old.table mid.table new.table (one s named).grows
          (past_among (all_trees s es) (all_trees s es ++ written_trees s v) mid.table new.table (among_front (all_trees s es) (written_trees s v)) (h.past s (built_one s named))));
    }

    module _ (last : State) (ts : List Term) (each : BuildsEach ns mid last es ts) where
      built_all : (s : Scope) → AreNamed old.table s ns → AreNamed last.table s ns
      built_all s named = after ns mid last s (built_one s named) (all_trees s es) (each s (built_one s named)).grows

      pub update_stops_value : (new : State) (why : Stop) → Stops ns last new v why → Stops ns old new updating why
      update_stops_value new why h = record {
        cause = λ s named. unbuilt_up (tree_of s v) (tree_of s updating) new why
            (λ c x. behind_wrong s updating f v at es refl (one s named).tree c (one s named).is (last_wrong s es (each s (built_one s named)).trees (tree_of s v) c (each s (built_one s named)).is x))
            (h.cause s (built_all s named));
        past = λ s named. update_past s updating f v at es refl old.table new.table
            (past_then (written_trees s f) (all_trees s es ++ written_trees s v) old.table mid.table new.table (one s named).grows
            (past_then (all_trees s es) (written_trees s v) mid.table last.table new.table (each s (built_one s named)).grows (h.past s (built_all s named))));
      }

      module _ (new : State) (u : Term) (value : Builds ns last new v u) where
        told_of : FitsAreTyped → (s : Scope) → AreNamed old.table s ns → tree_of s updating ≡ wrong at (told (wrong_type 1 a_function boolean))
        told_of law s named =
            let all = before_there s es (each s (built_one s named)).trees (tree_of s v) (value s (built_all s named)).tree (each s (built_one s named)).is (value s (built_all s named)).is in
            update_told s updating f v at es refl law named.truths (one s named).tree all.0 (one s named).is all.1

        pub update_stops : (why : Stop) → FitsAreTyped → IsNoFunction at why → Stops ns old new updating why
        update_stops why law h = record {
          cause = λ s named. no_function_cause (tree_of s updating) new at why h (told_of law s named);
          past = λ s named. update_past s updating f v at es refl old.table new.table (grows_past (all_written s) old.table new.table
              (grows_then (written_trees s f) (all_trees s es ++ written_trees s v) old.table mid.table new.table (one s named).grows
              (grows_then (all_trees s es) (written_trees s v) mid.table last.table new.table (each s (built_one s named)).grows (value s (built_all s named)).grows)));
        }

-- the first of the expressions are built
abbrev pub BuildsFirst : Named → State → State → Exprs → Exprs → List Term → Type 0
BuildsFirst ns old new es rest ts = (s : Scope) → AreNamed old.table s ns → BuildsSome s old.table new.table es rest ts

pub first_start : (ns : Named) (old : State) (es : Exprs) → BuildsFirst ns old old es es []
first_start ns old es = λ s named. some_start s old.table es

pub first_all : (ns : Named) (old new : State) (es rest : Exprs) (ts : List Term) → rest ≡ no_exprs → BuildsFirst ns old new es rest ts → BuildsEach ns old new es ts
first_all ns old new es rest ts is h = λ s named. some_all s old.table new.table es ts (subst (λ r. BuildsSome s old.table new.table es r ts) is (h s named))

module _ (ns now : Named) (old mid new : State) (es rest more : Exprs) (e : Expr) (ts : List Term) (same : now ≡ ns) (is : rest ≡ more_exprs e more) (first : BuildsFirst ns old mid es rest ts) where
  so_far : (s : Scope) → AreNamed old.table s ns → BuildsSome s old.table mid.table es (more_exprs e more) ts
  so_far s named = subst (λ r. BuildsSome s old.table mid.table es r ts) is (first s named)

  next : (s : Scope) → AreNamed old.table s ns → AreNamed mid.table s now
  next s named = subst (AreNamed mid.table s) (sym same) (after ns old mid s named (first s named).written (first s named).grows)

  pub first_more : (t : Term) → Builds now mid new e t → BuildsFirst ns old new es more (ts ++ t ∷ [])
  first_more t h = λ s named. some_more s old.table mid.table new.table es more e ts t (so_far s named) (h s (next s named))

  pub first_stops : (why : Stop) → Stops now mid new e why → StopsEach ns old new es why
  first_stops why h = record {
    cause = λ s named. unbuilt_up (tree_of s e) (trees_of s es) new why (λ c x. some_wrong s old.table mid.table es more e ts c (so_far s named) x) (h.cause s (next s named));
    past = λ s named. some_past s old.table mid.table new.table es more e ts (so_far s named) (h.past s (next s named));
  }

  -- it was built, and memory is refused behind it
  pub first_kept : (t : Term) → Builds now mid new e t → StopsEach ns old new es stop.NoMemory
  first_kept t h = first_stops stop.NoMemory (stops_kept now mid new e t h)

paired_is : (ps : List (List ℕ × Term)) → paired (map (λ (p : List ℕ × Term). p.1) ps) (map (λ (p : List ℕ × Term). p.0) ps) ≡ ps
paired_is [] = refl
paired_is (p ∷ ps) = ap (λ z. p ∷ z) (paired_is ps)

-- pairs are their terms beside their names
pub paired_back : (ps : List (List ℕ × Term)) (ts : List Term) (ws : List (List ℕ)) → map (λ (p : List ℕ × Term). p.0) ps ≡ ws → map (λ (p : List ℕ × Term). p.1) ps ≡ ts → paired ts ws ≡ ps
paired_back ps ts ws names terms = ap (λ z. paired z ws) (sym terms) ∙ ap (paired (map (λ (p : List ℕ × Term). p.1) ps)) (sym names) ∙ paired_is ps

names_of_pairs : (ts : List Term) (ws : List (List ℕ)) → length ts ≡ length ws → map (λ (p : List ℕ × Term). p.0) (paired ts ws) ≡ ws
names_of_pairs [] [] h = refl
names_of_pairs [] (w ∷ ws) h = absurd (omega (arith, h))
names_of_pairs (t ∷ ts) [] h = absurd (omega (arith, h))
names_of_pairs (t ∷ ts) (w ∷ ws) h = ap (λ z. w ∷ z) (names_of_pairs ts ws (omega (arith, h)))

terms_of_pairs : (ts : List Term) (ws : List (List ℕ)) → length ts ≡ length ws → map (λ (p : List ℕ × Term). p.1) (paired ts ws) ≡ ts
terms_of_pairs [] ws h = refl
terms_of_pairs (t ∷ ts) [] h = absurd (omega (arith, h))
terms_of_pairs (t ∷ ts) (w ∷ ws) h = ap (λ z. t ∷ z) (terms_of_pairs ts ws (omega (arith, h)))

-- one more term belongs to the name at its place
paired_more : (xs : List Bind) (d : Bind) (ts : List Term) (t : Term) → length ts < length xs
    → paired (ts ++ t ∷ []) (names_of (binds (map plain_bind xs))) ≡ paired ts (names_of (binds (map plain_bind xs))) ++ ((out-Bind (get_or xs (length ts) d)).name, t) ∷ []
paired_more [] d ts t h = absurd (omega (arith, h))
paired_more (x ∷ xs) d [] t h = ap (λ z. (z, t) ∷ []) (plain_bound_name x)
paired_more (x ∷ xs) d (u ∷ ts) t h = ap (λ z. ((plain_bind x).name, u) ∷ z) (paired_more xs d ts t (omega (arith, h)))

pub paired_next : (xs : List Bind) (d : Bind) (ts : List Term) (t : Term) (i : ℕ) → length ts ≡ i → i < length xs
    → paired (ts ++ t ∷ []) (names_of (binds (map plain_bind xs))) ≡ paired ts (names_of (binds (map plain_bind xs))) ++ ((out-Bind (get_or xs i d)).name, t) ∷ []
paired_next xs d ts t i counted h =
    paired_more xs d ts t (omega (arith, counted, h)) ∙ ap (λ n. paired ts (names_of (binds (map plain_bind xs))) ++ ((out-Bind (get_or xs n d)).name, t) ∷ []) counted

-- what the first names are bound to is built
abbrev pub BindsFirst : Named → State → State → Binds → Binds → List Term → Type 0
BindsFirst ns old new bs rest ts = (s : Scope) → AreNamed old.table s ns → BindsSome s old.table new.table bs rest (paired ts (names_of bs))

pub bound_start : (ns : Named) (old : State) (bs : Binds) → BindsFirst ns old old bs bs []
bound_start ns old bs = λ s named. binds_start s old.table bs

pub bound_all : (ns : Named) (old new : State) (xs : List Bind) (i : ℕ) (ts : List Term) → length ts ≡ i → length xs ≤ i → i ≤ length xs
    → BindsFirst ns old new (binds (map plain_bind xs)) (binds (map plain_bind (drop i xs))) ts → BindsEach ns old new (binds (map plain_bind xs)) ts
bound_all ns old new xs i ts counted past within h =
    let bs : Binds = binds (map plain_bind xs) in
    record {
      count = omega (arith, counted, past, within, ap length (names_same xs), names_count xs);
      each = λ s named ps names terms.
          subst (BindsAll s old.table new.table bs) (paired_back ps ts (names_of bs) names terms)
          (binds_all s old.table new.table bs (paired ts (names_of bs)) (subst (λ r. BindsSome s old.table new.table bs r (paired ts (names_of bs))) (none_bound xs i past) (h s named)));
    }

module _ (ns now : Named) (old mid new : State) (bs rest more : Binds) (w : List ℕ) (e : Expr) (ts : List Term) (same : now ≡ ns) (is : rest ≡ more_binds w e more) (first : BindsFirst ns old mid bs rest ts) where
  bound_so_far : (s : Scope) → AreNamed old.table s ns → BindsSome s old.table mid.table bs (more_binds w e more) (paired ts (names_of bs))
  bound_so_far s named = subst (λ r. BindsSome s old.table mid.table bs r (paired ts (names_of bs))) is (first s named)

  bound_next : (s : Scope) → AreNamed old.table s ns → AreNamed mid.table s now
  bound_next s named = subst (AreNamed mid.table s) (sym same) (after ns old mid s named (first s named).written (first s named).grows)

  bound_pushed : (t : Term) → Builds now mid new e t → (s : Scope) → AreNamed old.table s ns → BindsSome s old.table new.table bs more (paired ts (names_of bs) ++ (w, t) ∷ [])
  bound_pushed t h s named = binds_more s old.table mid.table new.table bs more w e (paired ts (names_of bs)) t (bound_so_far s named) (h s (bound_next s named))

  pub bound_stops : (why : Stop) → Stops now mid new e why → BindsStop ns old new bs why
  bound_stops why h = record {
    cause = λ s named. unbuilt_up (tree_of s e) (bindings_of s bs) new why (λ c x. binds_wrong s old.table mid.table bs more w e (paired ts (names_of bs)) c (bound_so_far s named) x) (h.cause s (bound_next s named));
    past = λ s named. binds_past s old.table mid.table new.table bs more w e (paired ts (names_of bs)) (bound_so_far s named) (h.past s (bound_next s named));
  }

  -- it was built, and memory is refused behind it
  pub bound_kept : (t : Term) → Builds now mid new e t → BindsStop ns old new bs stop.NoMemory
  bound_kept t h = bound_stops stop.NoMemory (stops_kept now mid new e t h)

pub bound_more : (ns now : Named) (old mid new : State) (xs : List Bind) (d : Bind) (rest more : Binds) (ts : List Term) (t : Term) (i : ℕ)
    → length ts ≡ i → i < length xs → now ≡ ns → rest ≡ more_binds (out-Bind (get_or xs i d)).name (plain (out-Bind (get_or xs i d)).expr) more
    → BindsFirst ns old mid (binds (map plain_bind xs)) rest ts → Builds now mid new (plain (out-Bind (get_or xs i d)).expr) t → BindsFirst ns old new (binds (map plain_bind xs)) more (ts ++ t ∷ [])
bound_more ns now old mid new xs d rest more ts t i counted h same is first one = λ s named.
    subst (BindsSome s old.table new.table (binds (map plain_bind xs)) more)
    (sym (paired_next xs d ts t i counted h))
    (bound_pushed ns now old mid new (binds (map plain_bind xs)) rest more (out-Bind (get_or xs i d)).name (plain (out-Bind (get_or xs i d)).expr) ts same is first t one s named)

-- the binding at the place that was found has the name that is repeated
pub repeated_at : (xs : List Bind) (o : Option ℕ) (i : ℕ) (d : Bind) → o ≡ Some i → IfSome o (λ k. IsBoundBy xs k (repeated (binding_names xs)))
    → repeated (names_of (binds (map plain_bind xs))) ≡ Some (out-Bind (get_or xs i d)).name
repeated_at xs None i d found h = absurd (cc found)
repeated_at xs (Some k) i d found h =
    ap repeated (names_same xs) ∙ h.2 ∙ ap (λ z. Some (plain_bind z).name) (sym (get_or_from_slice_get xs k h.0 d h.1) ∙ ap (λ n. get_or xs n d) (same_Some k i found))
    ∙ ap Some (plain_bound_name (get_or xs i d))

-- no name is repeated
pub once_by : (xs : List Bind) (o : Option ℕ) → ((i : ℕ) → o ≡ Some i → ⊥) → IfNone o (repeated (binding_names xs) ≡ None) → repeated (names_of (binds (map plain_bind xs))) ≡ None
once_by xs None h is = ap repeated (names_same xs) ∙ is
once_by xs (Some i) h is = absurd (h i refl)

-- names that are bound around an expression
module _ (ns : Named) (old : State) (at : Place) (bs : Binds) (body : Expr) where
  abbrev binding : Expr
  binding = expr_at at (let_in bs body)

  unbegun : (s : Scope) → GrowsPast (written_trees s binding) old.table old.table
  unbegun s = grows_past (written_trees s binding) old.table old.table (grows_none (written_trees s binding) old.table)

  -- memory is refused before all else
  pub let_stops_memory : Stops ns old old binding stop.NoMemory
  let_stops_memory = record { cause = λ s named. tt; past = λ s named. unbegun s }

  twice_cause : (v : List ℕ) (why : Stop) → repeated (names_of bs) ≡ Some v → IsTwice at v why → (s : Scope) → IsUnbuilt (cause_in (tree_of s binding)) old why
  twice_cause v stop.NoMemory is h s = tt
  twice_cause v (stop.Refused place why) is h s =
      refused_as (cause_in (tree_of s binding)) old place at why (refusal.BoundTwice v) h.0 h.1 (unbuilt_wrong (tree_of s binding) old at (refusal.BoundTwice v) (λ x. absurd (cc x)) (let_twice s binding body at bs refl v is))

  pub let_stops_twice : (v : List ℕ) (why : Stop) → repeated (names_of bs) ≡ Some v → IsTwice at v why → Stops ns old old binding why
  let_stops_twice v why is h = record { cause = λ s named. twice_cause v why is h s; past = λ s named. unbegun s }

  -- all names are bound, and memory is refused
  pub let_stops_kept : (mid : State) (ts : List Term) → BindsEach ns old mid bs ts → Stops ns old mid binding stop.NoMemory
  let_stops_kept mid ts h = record {
    cause = λ s named. tt;
    past = λ s named. let_bound_past s binding body at bs refl old.table mid.table (grows_past (bound_trees s bs) old.table mid.table
        (h.each s named (paired ts (names_of bs)) (names_of_pairs ts (names_of bs) h.count) (terms_of_pairs ts (names_of bs) h.count)).grows);
  }

  module _ (once : repeated (names_of bs) ≡ None) where
    pub let_stops_bound : (new : State) (why : Stop) → BindsStop ns old new bs why → Stops ns old new binding why
    let_stops_bound new why h = record {
      cause = λ s named. unbuilt_up (bindings_of s bs) (tree_of s binding) new why (let_wrong s binding body at bs refl once) (h.cause s named);
      past = λ s named. let_bound_past s binding body at bs refl old.table new.table (h.past s named);
    }

    module _ (law : FitsAreTyped) (mid new : State) (ps : List (List ℕ × Term)) (all : (s : Scope) → AreNamed old.table s ns → BindsAll s old.table mid.table bs ps) where
      inside : (s : Scope) (named : AreNamed old.table s ns) → AreNamed mid.table ((all s named).names ++ s) (with_bound ns ps)
      inside s named = let_scope law mid.table s ns (after ns old mid s named (bound_trees s bs) (all s named).grows) bs (all s named).names ps (all s named).is once (all s named).bound

      pub let_builds : (t : Term) → Builds (with_bound ns ps) mid new body t → Builds ns old new binding t
      let_builds t h = λ s named. one_let s binding body at bs refl old.table mid.table new.table ps (all s named) once t (h ((all s named).names ++ s) (inside s named))

      pub let_stops : (why : Stop) → Stops (with_bound ns ps) mid new body why → Stops ns old new binding why
      let_stops why h = record {
        cause = λ s named. unbuilt_up (tree_of ((all s named).names ++ s) body) (tree_of s binding) new why
            (λ c x. let_inside s binding body at bs refl once (all s named).names (all s named).is ∙ x) (h.cause ((all s named).names ++ s) (inside s named));
        past = λ s named. let_past s binding body at bs refl old.table mid.table new.table ps (all s named) (h.past ((all s named).names ++ s) (inside s named));
      }

      pub let_built : (r : Result Term Stop) → IfOk r (Builds (with_bound ns ps) mid new body) → IfOk r (Builds ns old new binding)
      let_built (Ok t) h = let_builds t h
      let_built (Err why) h = tt

      pub let_refused : (r : Result Term Stop) → IfErr r (Stops (with_bound ns ps) mid new body) → IfErr r (Stops ns old new binding)
      let_refused (Ok t) h = tt
      let_refused (Err why) h = let_stops why h

-- what was built, or refused, as the answer of the whole
pub built_or : (ns : Named) (old new : State) (e : Expr) (r : Result Term Stop) → IfOk r (Builds ns old new e) → IfErr r (Stops ns old new e) → BuildsOr ns old e r new
built_or ns old new e (Ok t) h k = builds_ok ns old new e t h
built_or ns old new e (Err why) h k = k.cause

pub built_adds : (ns : Named) (old new : State) (e : Expr) (r : Result Term Stop) → IfOk r (Builds ns old new e) → IfErr r (Stops ns old new e) → ContextsStay old new → Adds ns old e new
built_adds ns old new e (Ok t) h k stay = adds_ok ns old new e t h stay
built_adds ns old new e (Err why) h k stay = adds_past ns old new e k.past stay
