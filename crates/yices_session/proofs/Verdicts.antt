-- What the verdict of a check says of the trees of formulas and assumptions, and what the session keeps of it.
use Rattle.std.proofs.Common.{◌≡◌, ◌∙◌, ◌<◌, ℕ, zero, suc, ◌⊎◌, inl, inr, ⊎_elim, Bool, true, false, not, ◌||◌, List, [], ◌∷◌, ◌++◌, map, Option, Some, None, codes, refl, sym, ap, subst, if◌then◌else◌}
use Rattle.std.specs.Prelude.{slice_get}
use Rattle.std.specs.List.{AllByRecursion, list_any}
use Rattle.std.proofs.lemmas.Option.{same_Some}
use Rattle.y_tree.specs.Tree.{Tree}
use Rattle.y_tree.specs.Values.{Value}
use Rattle.y_tree.specs.Meaning.{Assignment, meaning, truth_of, IsTrueUnder, Satisfies}
use Rattle.clause_search.specs.declared.Turns.{Turns}
use Rattle.term_shapes.specs.declared.handles.Term.{Term}
use Rattle.term_table.specs.World.{World, IsTable}
use Rattle.term_orders.specs.Orders.{IsIn, IsConstant}
use Rattle.term_build.proofs.Called.{tree_is}
use Rattle.term_sketches.specs.Sketches.{same_term}
use Rattle.term_sketches.proofs.Joins.{term_same}
use Rattle.theory_combine.specs.declared.Learned.{Learned}
use Rattle.term_checks.specs.Answers.{IsTrueAt, AreTrueAt, IsCore, assignment_by}
use Rattle.term_checks.specs.Answers as found
use Rattle.term_checks.specs.Problems.{IsLearned}
use Rattle.model_eval.specs.Models.{IsEntry, IsModel, assignment_of, number_of, numbered, terms_of}
use Rattle.expression_terms.specs.Standing.{StandsFor}
use Rattle.yices_session.specs.State.{Formula, Kept, Core, State, Holds, stacked_terms, core_terms}
use Rattle.yices_session.specs.Steps.{Assumed, FindsModel, FindsNone, FindsNoVerdict, assumed_trees, assumed_terms, blamed_among, core_of}
use Rattle.yices_session.specs.Held.{Held, Blamed, Stands, AreTruths, IsKeptModel, IsKeptCore, IsFormulaBuilt, name_terms}
use Rattle.yices_session.proofs.Cores.{without, term_self}
use Rattle.yices_session.proofs.Levels.{formulas_are, in_front, in_back, in_either}

-- things with a tree each, and with a term that stands for it
module _ {X : Type 0} (tree : X → Tree) (term : X → Term) where
  abbrev pub AreStanding : World → List X → Type 0
  AreStanding w xs = (i : ℕ) (x : X) → slice_get xs i ≡ Some x → StandsFor w (tree x) (term x)

  -- a term is true where its tree is
  module _ (w : World) (table : IsTable w) (a : Assignment) where
    true_tree : (d : Tree) (t : Term) → StandsFor w d t → IsTrueAt w a t → IsTrueUnder a d
    true_tree d t st at =
        ap truth_of (sym (st.same a)) ∙ ap (λ z. truth_of (meaning z a)) (sym (tree_is w table t st.kept st.keeps) ∙ tree_is w table t at.tree at.kept) ∙ at.true_there

    true_term : (d : Tree) (t : Term) → StandsFor w d t → IsTrueUnder a d → IsTrueAt w a t
    true_term d t st is = record { tree = st.kept; kept = st.keeps; true_there = ap truth_of (st.same a) ∙ is }

    pub satisfied : (xs : List X) → AreStanding w xs → ((t : Term) → IsIn (map term xs) t → IsTrueAt w a t) → Satisfies a (map tree xs)
    satisfied [] h k = tt
    satisfied (x ∷ xs) h k =
        (true_tree (tree x) (term x) (h 0 x refl) (k (term x) (record { place = 0; at = refl })), satisfied xs (λ i. h (suc i)) (λ t is. k t (record { place = suc is.place; at = is.at })))

    true_at : (xs : List X) → AreStanding w xs → Satisfies a (map tree xs) → (i : ℕ) (t : Term) → slice_get (map term xs) i ≡ Some t → IsTrueAt w a t
    true_at [] h k i t e = absurd (cc e)
    true_at (x ∷ xs) h k zero t e = subst (IsTrueAt w a) (same_Some (term x) t e) (true_term (tree x) (term x) (h 0 x refl) k.0)
    true_at (x ∷ xs) h k (suc i) t e = true_at xs (λ j. h (suc j)) k.1 i t e

    pub are_true : (xs : List X) → AreStanding w xs → Satisfies a (map tree xs) → (t : Term) → IsIn (map term xs) t → IsTrueAt w a t
    are_true xs h k t is = true_at xs h k is.place t is.at

-- formulas
abbrev pub AreFormulasBuilt : World → List (List Formula) → Type 0
AreFormulasBuilt w lists = (i j : ℕ) (fs : List Formula) (f : Formula) → slice_get lists i ≡ Some fs → slice_get fs j ≡ Some f → IsFormulaBuilt w f

abbrev formula_tree : Formula → Tree
formula_tree f = f.tree

abbrev formula_term : Formula → Term
formula_term f = f.term

-- assumptions
abbrev pub assumed_tree : Assumed → Tree
assumed_tree b = b.tree

abbrev pub assumed_term : Assumed → Term
assumed_term b = b.term

abbrev pub AreAssumptions : World → List Assumed → Type 0
AreAssumptions w as_ = AreStanding assumed_tree assumed_term w as_

module _ (w : World) (table : IsTable w) (a : Assignment) where
  -- formulas are true where their terms are
  pub holds_all : (lists : List (List Formula)) → AreFormulasBuilt w lists → AreTrueAt w a (stacked_terms lists) → Holds lists a
  holds_all [] built h = tt
  holds_all (fs ∷ lists) built h = (
    satisfied formula_tree formula_term w table a fs (λ j f at. built 0 j fs f refl at) (λ t is. h t (in_back (stacked_terms lists) (map formula_term fs) t is)),
    holds_all lists (λ i. built (suc i)) (λ t is. h t (in_front (stacked_terms lists) (map formula_term fs) t is)),
  )

  pub true_all : (lists : List (List Formula)) → AreFormulasBuilt w lists → Holds lists a → AreTrueAt w a (stacked_terms lists)
  true_all [] built h t is = absurd (cc is.at)
  true_all (fs ∷ lists) built h t is =
      ⊎_elim (λ (g : IsIn (stacked_terms lists) t). true_all lists (λ i. built (suc i)) h.1 t g)
      (λ g. are_true formula_tree formula_term w table a fs (λ j f at. built 0 j fs f refl at) h.0 t g) (in_either (stacked_terms lists) (map formula_term fs) t is)

  -- a term that another one is not stays in the list without that one
  stays_in : (u t : Term) (ts : List Term) (i : ℕ) → slice_get ts i ≡ Some t → same_term u t ≡ false → IsIn (without u ts) t
  stays_in u t [] i at other = absurd (cc at)
  stays_in u t (x ∷ ts) zero at other =
      let front : IsIn (x ∷ without u ts) t = record { place = 0; at = at } in
      subst (λ b. IsIn (if b then x ∷ without u ts else without u ts) t) (ap not (sym other ∙ ap (same_term u) (sym (same_Some x t at)))) front
  stays_in u t (x ∷ ts) (suc i) at other = by (not (same_term u x)) (stays_in u t ts i at other)
    where
      by : (b : Bool) → IsIn (without u ts) t → IsIn (if b then x ∷ without u ts else without u ts) t
      by true is = record { place = suc is.place; at = is.at }
      by false is = is

  -- a term that is in the list is found there
  or_right : (b : Bool) → (b || true) ≡ true
  or_right true = refl
  or_right false = refl

  any_here : (t : Term) (ts : List Term) (i : ℕ) → slice_get ts i ≡ Some t → list_any (same_term t) ts ≡ true
  any_here t [] i at = absurd (cc at)
  any_here t (x ∷ ts) zero at = ap (λ b. b || list_any (same_term t) ts) (ap (same_term t) (same_Some x t at) ∙ term_self t)
  any_here t (x ∷ ts) (suc i) at = ap (λ b. same_term t x || b) (any_here t ts i at) ∙ or_right (same_term t x)

  -- where the blamed assumptions are true, so is each term of the core
  pub core_true : (ts : List Term) (as_ : List Assumed) → AreAssumptions w as_ → Satisfies a (assumed_trees (blamed_among ts as_)) → (t : Term) → IsIn ts t → IsIn (assumed_terms as_) t → IsTrueAt w a t
  core_true ts [] h k t there is = absurd (cc is.at)
  core_true ts (b ∷ as_) h k t there is = by (λ us g within at. core_true us as_ (λ i. h (suc i)) g t within at) (list_any (same_term b.term) ts) refl k
    where
      here : (i : ℕ) → slice_get (b.term ∷ assumed_terms as_) i ≡ Some t → (b.term ≡ t) ⊎ IsIn (assumed_terms as_) t
      here zero e = inl (same_Some b.term t e)
      here (suc i) e = inr (record { place = i; at = e })

      itself : IsTrueUnder a b.tree → b.term ≡ t → IsTrueAt w a t
      itself is e = subst (IsTrueAt w a) e (true_term assumed_tree assumed_term w table a b.tree b.term (h 0 b refl) is)

      split : ((us : List Term) → Satisfies a (assumed_trees (blamed_among us as_)) → IsIn us t → IsIn (assumed_terms as_) t → IsTrueAt w a t) → (c : Bool) → same_term b.term t ≡ c → Satisfies a (b.tree ∷ assumed_trees (blamed_among (without b.term ts) as_)) → IsTrueAt w a t
      split again true e g = itself g.0 (term_same b.term t e)
      split again false e g = ⊎_elim (λ (same : b.term ≡ t). itself g.0 same) (λ at. again (without b.term ts) g.1 (stays_in b.term t ts there.place there.at e) at) (here is.place is.at)

      by : ((us : List Term) → Satisfies a (assumed_trees (blamed_among us as_)) → IsIn us t → IsIn (assumed_terms as_) t → IsTrueAt w a t) → (c : Bool) → list_any (same_term b.term) ts ≡ c → Satisfies a (assumed_trees (if c then b ∷ blamed_among (without b.term ts) as_ else blamed_among ts as_)) → IsTrueAt w a t
      by again true e g = split again (same_term b.term t) refl g
      by again false e g =
          ⊎_elim (λ (same : b.term ≡ t). absurd (cc (sym e ∙ ap (λ u. list_any (same_term u) ts) same ∙ any_here t ts there.place there.at))) (λ at. again ts g there at) (here is.place is.at)

-- the constants of a model were made
module _ (w : World) (table : IsTable w) where
  abbrev IsMadeNumber : ℕ × Value → Type 0
  IsMadeNumber e = e.0 < w.constants

  numbers_made : (es : List (Term × Value)) → ((i : ℕ) (e : Term × Value) → slice_get es i ≡ Some e → IsEntry w e) → AllByRecursion IsMadeNumber (numbered w es)
  unfolding numbered
  numbers_made [] h = tt
  numbers_made (e ∷ es) h =
      let x = h 0 e refl in
      subst (λ o. AllByRecursion IsMadeNumber (number_of w o e.1 ++ numbered w es)) (sym x.has) (table.constants e.0 x.number x.of x.has, numbers_made es (λ i. h (suc i)))

  pub constants_made : (m : List (Term × Value)) → IsModel w m → AllByRecursion IsMadeNumber (assignment_of w m).constants
  unfolding assignment_of
  constants_made m h = numbers_made m h.each

  pub no_variables : (m : List (Term × Value)) → (assignment_of w m).variables ≡ []
  unfolding assignment_of
  no_variables m = refl

  pub are_constants : (m : List (Term × Value)) → ((i : ℕ) (e : Term × Value) → slice_get m i ≡ Some e → IsEntry w e) → AllByRecursion (IsConstant w) (terms_of m)
  are_constants [] h = tt
  are_constants (e ∷ m) h = let x = h 0 e refl in (record { number = x.number; of = x.of; has = x.has }, are_constants m (λ i. h (suc i)))

-- the session with what was found
abbrev pub held_with : Held → Option (List (Term × Value)) → Option Blamed → Held
held_with h m c = record h { model = m; core = c }

pub found_stands : (h : Held) (s : State) → Stands h s → (m : Option (List (Term × Value))) (k : Option Kept) → IsKeptModel s.table m k → (b : Option Blamed) (c : Option Core) → IsKeptCore b c
    → AreTruths s.table (name_terms s.names ++ (stacked_terms s.lists ++ core_terms c)) → Stands (held_with h m b) (record s { model = k; core = c })
found_stands h s st m k is_model b c is_core truths = record {
  table = st.table;
  contexts = st.contexts;
  declared = st.declared;
  parts = st.parts;
  lists = st.lists;
  marks = st.marks;
  model = is_model;
  core = is_core;
  named = st.named;
  trees = st.trees;
  names = st.names;
  meant = st.meant;
  live = st.live;
  formulas = st.formulas;
  truths = truths;
}

-- a check of the formulas with assumptions
module _ (h : Held) (s : State) (st : Stands h s) (table : IsTable s.table) (as_ : List Assumed) (standing : AreAssumptions s.table as_) where
  -- it found a model
  module _ (values : List (Term × Bool)) (model : found.IsModel s.table h.formulas (assumed_terms as_) values) (m : List (Term × Value)) (is : IsModel s.table m) (same : assignment_of s.table m ≡ assignment_by s.table values) where
    abbrev pub kept : Kept
    kept = record { values = assignment_of s.table m; constants = terms_of m }

    makes : AreTrueAt s.table (assignment_of s.table m) (stacked_terms s.lists ++ assumed_terms as_)
    makes = subst (λ z. AreTrueAt s.table z (stacked_terms s.lists ++ assumed_terms as_)) (sym same)
        (subst (λ fs. AreTrueAt s.table (assignment_by s.table values) (fs ++ assumed_terms as_)) (sym (formulas_are h s st)) model.makes)

    pub finds_model : FindsModel s as_ (codes "sat\n") (record s { model = Some kept; core = None })
    finds_model = record {
      model = kept;
      holds = holds_all s.table table kept.values s.lists st.formulas (λ t at. makes t (in_front (stacked_terms s.lists) (assumed_terms as_) t at));
      assumptions = satisfied assumed_tree assumed_term s.table table kept.values as_ standing (λ t at. makes t (in_back (stacked_terms s.lists) (assumed_terms as_) t at));
      made = constants_made s.table table m is;
      no_variables = no_variables s.table table m;
      constants = are_constants s.table table m is.each;
      says = refl;
      after = refl;
    }

  -- it found that there is none
  pub finds_none : (b : Bool) (core : List Term) → IsCore s.table h.formulas (assumed_terms as_) core → FindsNone s b as_ (codes "unsat\n") (record s { model = None; core = core_of b core as_ })
  finds_none b core is = record {
    blamed = core;
    never = λ a holds k. is.never a (λ t at. true_all s.table table a s.lists st.formulas holds t (subst (λ fs. IsIn fs t) (sym (formulas_are h s st)) at))
        (λ t at. core_true s.table table a core as_ standing k t at (is.within t at));
    says = refl;
    after = refl;
  }

  -- it passed its limit
  pub finds_no_verdict : (turns : Turns) (learned : Learned) → IsLearned s.table h.formulas (assumed_terms as_) turns learned → FindsNoVerdict turns s as_ (codes "unknown\n") (record s { model = None; core = None })
  finds_no_verdict turns learned is = record {
    learned = learned;
    past = subst (λ fs. IsLearned s.table fs (assumed_terms as_) turns learned) (sym (formulas_are h s st)) is;
    says = refl;
    after = refl;
  }
