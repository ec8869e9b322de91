-- A formula is asserted at the newest level.
use Rattle.std.proofs.Common.{◌≡◌, ◌∙◌, ℕ, ◌≤◌, zero, suc, ◌⊎◌, inl, inr, List, [], ◌∷◌, ◌++◌, map, length, take, drop, Some, None, Ok, refl, sym, ap, subst, arith, append-nil}
use Rattle.std.specs.Prelude.{slice_get}
use Rattle.std.proofs.lemmas.List.{map-append, length_push}
use Rattle.std.proofs.lemmas.Option.{same_Some}
use Rattle.term_shapes.specs.declared.handles.Term.{Term}
use Rattle.term_table.specs.World.{World, IsTable}
use Rattle.term_orders.specs.Orders.{IsIn}
use Rattle.term_build.specs.Building.{AreKnown}
use Rattle.yices_grammar.specs.Commands.{Expr}
use Rattle.yices_api.specs.State.{State as Environment}
use Rattle.expression_terms.specs.Building.{Builds, BuildsOr, Adds}
use Rattle.expression_terms.proofs.Truths.{IsPropositional}
use Rattle.yices_session.specs.State.{Formula, State, scope_of, stacked_terms, core_terms}
use Rattle.yices_session.specs.Steps.{Asserts, BuildsFor, added, with_lists}
use Rattle.yices_session.specs.Held.{Held, Stands, AreMarks, IsFormulaBuilt, levels_in, name_terms, terms_of_lists}
use Rattle.yices_session.specs.Answers.{Moves}
use Rattle.yices_session.proofs.Growing.{building_stands}
use Rattle.yices_session.proofs.Scoping.{each_pushed, in_front, in_back, in_either, in_one}
use Rattle.yices_session.proofs.NewNames.{truths_with}
use Rattle.yices_session.proofs.Defining.{names_in, built_here, built_closed, built_for}

-- one formula more on the newest level
drop_push : (m : ℕ) (ts : List Term) (t : Term) → m ≤ length ts → drop m (ts ++ t ∷ []) ≡ drop m ts ++ t ∷ []
drop_push zero ts t h = refl
drop_push (suc m) [] t h = absurd (omega (arith, h))
drop_push (suc m) (u ∷ ts) t h = drop_push m ts t (omega (arith, h))

take_push : (m : ℕ) (ts : List Term) (t : Term) → m ≤ length ts → take m (ts ++ t ∷ []) ≡ take m ts
take_push zero ts t h = refl
take_push (suc m) [] t h = absurd (omega (arith, h))
take_push (suc m) (u ∷ ts) t h = ap (λ z. u ∷ z) (take_push m ts t (omega (arith, h)))

-- the newest level with one term more
abbrev pushed : Term → List (List Term) → List (List Term)
pushed t [] = (t ∷ []) ∷ []
pushed t (ts ∷ lists) = (ts ++ t ∷ []) ∷ lists

levels_pushed : (ms : List ℕ) (ts : List Term) (t : Term) → AreMarks ms (length ts) → levels_in ms (ts ++ t ∷ []) ≡ pushed t (levels_in ms ts)
levels_pushed [] ts t h = refl
levels_pushed (m ∷ ms) ts t h = ap (λ z. z ∷ levels_in ms (take m (ts ++ t ∷ []))) (drop_push m ts t h.0) ∙ ap (λ z. (drop m ts ++ t ∷ []) ∷ levels_in ms z) (take_push m ts t h.0)

lists_pushed : (f : Formula) (lists : List (List Formula)) → terms_of_lists (added f lists) ≡ pushed f.term (terms_of_lists lists)
lists_pushed f [] = refl
lists_pushed f (fs ∷ lists) = ap (λ z. z ∷ terms_of_lists lists) (map-append (λ (g : Formula). g.term) fs (f ∷ []))

marks_pushed : (ms : List ℕ) (n m : ℕ) → n ≤ m → AreMarks ms n → AreMarks ms m
marks_pushed [] n m le h = tt
marks_pushed (k ∷ ms) n m le h = (omega (arith, le, h.0), h.1)

-- each formula was built for its tree
abbrev AreFormulasBuilt : World → List (List Formula) → Type 0
AreFormulasBuilt w lists = (i j : ℕ) (fs : List Formula) (f : Formula) → slice_get lists i ≡ Some fs → slice_get fs j ≡ Some f → IsFormulaBuilt w f

formulas_pushed : (w : World) (f : Formula) (lists : List (List Formula)) → AreFormulasBuilt w lists → IsFormulaBuilt w f → AreFormulasBuilt w (added f lists)
formulas_pushed w f [] h is zero j fs g at in_it = each_pushed (IsFormulaBuilt w) [] f (λ k x e. absurd (cc e)) is j g (ap (λ z. slice_get z j) (same_Some (f ∷ []) fs at) ∙ in_it)
formulas_pushed w f [] h is (suc i) j fs g at in_it = absurd (cc at)
formulas_pushed w f (gs ∷ lists) h is zero j fs g at in_it =
    each_pushed (IsFormulaBuilt w) gs f (λ k x e. h 0 k gs x refl e) is j g (ap (λ z. slice_get z j) (same_Some (gs ++ f ∷ []) fs at) ∙ in_it)
formulas_pushed w f (gs ∷ lists) h is (suc i) j fs g at in_it = h (suc i) j fs g at in_it

-- the terms of a list of formulas
abbrev terms_in : List Formula → List Term
terms_in fs = map (λ (f : Formula). f.term) fs

-- a term of the formulas, where one of these is new, is one of before or that one
stacked_cases : (f : Formula) (lists : List (List Formula)) (r : Term) → IsIn (stacked_terms (added f lists)) r → IsIn (stacked_terms lists) r ⊎ (r ≡ f.term)
stacked_cases f [] r is = inr (in_one f.term r is)
stacked_cases f (fs ∷ lists) r is = by (in_either (stacked_terms lists) (terms_in (fs ++ f ∷ [])) r is)
  where
    newest_by : IsIn (terms_in fs) r ⊎ IsIn (f.term ∷ []) r → IsIn (stacked_terms (fs ∷ lists)) r ⊎ (r ≡ f.term)
    newest_by (inl g) = inl (in_back (stacked_terms lists) (terms_in fs) r g)
    newest_by (inr g) = inr (in_one f.term r g)

    by : IsIn (stacked_terms lists) r ⊎ IsIn (terms_in (fs ++ f ∷ [])) r → IsIn (stacked_terms (fs ∷ lists)) r ⊎ (r ≡ f.term)
    by (inl h) = inl (in_front (stacked_terms lists) (terms_in fs) r h)
    by (inr h) = newest_by (in_either (terms_in fs) (f.term ∷ []) r (subst (λ z. IsIn z r) (map-append (λ (g : Formula). g.term) fs (f ∷ [])) h))

-- the session with the formula; what was found of the older ones is no longer kept
module _ (h : Held) (s : State) (st : Stands h s) (f : Formula) (is : IsFormulaBuilt s.table f) (closed : IsPropositional s.table f.term) where
  term_cases : (r : Term) → IsIn (name_terms s.names ++ (stacked_terms (added f s.lists) ++ [])) r → IsIn (name_terms s.names ++ (stacked_terms s.lists ++ core_terms s.core)) r ⊎ (r ≡ f.term)
  term_cases r at = by (in_either (name_terms s.names) (stacked_terms (added f s.lists) ++ []) r at)
    where
      older : IsIn (stacked_terms s.lists) r ⊎ (r ≡ f.term) → IsIn (name_terms s.names ++ (stacked_terms s.lists ++ core_terms s.core)) r ⊎ (r ≡ f.term)
      older (inl g) = inl (in_back (name_terms s.names) (stacked_terms s.lists ++ core_terms s.core) r (in_front (stacked_terms s.lists) (core_terms s.core) r g))
      older (inr e) = inr e

      by : IsIn (name_terms s.names) r ⊎ IsIn (stacked_terms (added f s.lists) ++ []) r → IsIn (name_terms s.names ++ (stacked_terms s.lists ++ core_terms s.core)) r ⊎ (r ≡ f.term)
      by (inl g) = inl (in_front (name_terms s.names) (stacked_terms s.lists ++ core_terms s.core) r g)
      by (inr g) = older (stacked_cases f s.lists r (subst (λ z. IsIn z r) (append-nil (stacked_terms (added f s.lists))) g))

  pub formula_stands : Stands (record h { formulas = h.formulas ++ f.term ∷ []; model = None; core = None }) (with_lists s s.table (added f s.lists))
  formula_stands = record {
    table = st.table;
    contexts = st.contexts;
    declared = st.declared;
    parts = st.parts;
    lists = lists_pushed f s.lists ∙ ap (pushed f.term) st.lists ∙ sym (levels_pushed h.marks h.formulas f.term st.marks);
    marks = marks_pushed h.marks (length h.formulas) (length (h.formulas ++ f.term ∷ [])) (omega (arith, length_push h.formulas f.term)) st.marks;
    model = tt;
    core = tt;
    named = st.named;
    trees = st.trees;
    names = st.names;
    meant = st.meant;
    live = st.live;
    formulas = formulas_pushed s.table f s.lists st.formulas is;
    truths = truths_with s.table (name_terms s.names ++ (stacked_terms s.lists ++ core_terms s.core)) (name_terms s.names ++ (stacked_terms (added f s.lists) ++ [])) f.term st.truths closed term_cases;
  }

-- a formula is built and asserted
module _ (h : Held) (env : Environment) (e : Expr) (t : Term) (table : IsTable h.env.table) (adds : Adds (names_in h.env.table) h.env e env) (laws : AreKnown) (after : IsTable env.table) (built : BuildsOr (names_in h.env.table) h.env e (Ok t) env) where
  abbrev pub asserted : Held
  asserted = record h { env = env; formulas = h.formulas ++ t ∷ []; model = None; core = None }

  module _ (s : State) (st : Stands h s) where
    abbrev its : Builds (scope_of s.names) e env t
    its = built_here h env e table adds laws after t built s st

    abbrev formula : Formula
    formula = record { tree = its.tree; term = t }

    abbrev next : State
    next = with_lists s env.table (added formula s.lists)

    builds : BuildsFor s e env.table its.tree t
    builds = built_for h env e table adds laws after t built s st

    stands : Stands asserted next
    stands =
        formula_stands (record h { env = env }) (record s { table = env.table }) (building_stands h s env table e adds st) formula builds.stands (built_closed h env e table adds laws after t built s st)

  pub asserted_moves : (new : Held) → new ≡ asserted → Moves (λ s says next. Asserts s e says next) h [] new
  asserted_moves new is = subst (Moves (λ s says next. Asserts s e says next) h []) (sym is) (record {
    turns = refl;
    each = λ s st. (next s st, record { built = env.table; formula = formula s st; builds = builds s st; silent = refl; after = refl }, stands s st);
  })
