-- A check of the formulas, alone or with literals, and what the session keeps of it.
use Rattle.std.proofs.Common.{◌≡◌, ◌∙◌, ℕ, inl, inr, Bool, true, false, List, [], ◌++◌, map, length, Option, Some, None, codes, refl, sym, ap, subst}
use Rattle.stamped_slots.proofs.Lists.{map_length}
use Rattle.y_tree.specs.Values.{Value}
use Rattle.clause_search.specs.declared.Turns.{Turns}
use Rattle.term_shapes.specs.declared.handles.Term.{Term}
use Rattle.term_table.specs.World.{World, IsTable}
use Rattle.term_build.specs.Building.{AreKnown}
use Rattle.theory_combine.specs.declared.Learned.{Learned}
use Rattle.term_checks.specs.Answers.{IsCore, assignment_by}
use Rattle.term_checks.specs.Answers as found
use Rattle.term_checks.specs.Problems.{IsLearned}
use Rattle.term_checks.specs.declared.answers.TermVerdict.{TermVerdict}
use Rattle.term_checks.specs.declared.answers.TermVerdict.TheVariants.{Sat, Unsat, Unknown}
use Rattle.term_checks.specs.Verdicts.{IfSat, IfUnknown, IfUnsat}
use Rattle.model_eval.specs.Models.{IsModel, assignment_of}
use Rattle.yices_grammar.specs.Commands.{LitExpr}
use Rattle.yices_api.specs.State.{State as Environment, ContextsStay}
use Rattle.expression_terms.specs.declared.refusal.Stop.{Stop}
use Rattle.expression_terms.specs.declared.refusal.Stop.TheVariants as stop
use Rattle.yices_session.specs.State.{Literal, State, scope_of, stacked_terms, core_terms}
use Rattle.yices_session.specs.Replies.{core_text}
use Rattle.yices_session.specs.Steps.{Assumed, Checks, ChecksAssuming, assumed_terms, blamed_among, core_of, unknown_in}
use Rattle.yices_session.specs.Refusals.{IsRefused}
use Rattle.yices_session.specs.Held.{Held, Blamed, Stands, IsSession, AreTruths, IsKeptCore, name_terms}
use Rattle.yices_session.specs.Answers.{Moves, Halts}
use Rattle.yices_session.specs.Parts.{AssumesAll, literal_of}
use Rattle.yices_session.proofs.Growing.{same_stays}
use Rattle.yices_session.proofs.Levels.{formulas_are, none_in}
use Rattle.yices_session.proofs.Closed.{AreClosed, closed_truths, truths_closed, closed_front, closed_back, other_truths}
use Rattle.yices_session.proofs.Verdicts.{AreAssumptions, held_with, found_stands, kept, finds_model, finds_none, finds_no_verdict}
use Rattle.yices_session.proofs.Assuming.{grown, mid, its, mid_stands, mid_stays, are, standing, closed, grows, assumed_literals}

-- what was kept of the formulas is forgotten
pub forgotten_stands : (h : Held) (s : State) → Stands h s → Stands (held_with h None None) (record s { model = None; core = None })
forgotten_stands h s st = found_stands h s st None None tt None None tt (other_truths s.table (name_terms s.names) (stacked_terms s.lists) (core_terms s.core) [] st.truths (λ t is. absurd (none_in t is)))

-- a verdict on the formulas of a state with assumptions
module _ (h : Held) (s : State) (st : Stands h s) (table : IsTable s.table) (as_ : List Assumed) (standing : AreAssumptions s.table as_) (closed : AreClosed s.table (assumed_terms as_)) (turns : Turns) (b : Bool) where
  abbrev Found : Held → List ℕ → Type 0
  Found new reply = (next : State) × Checks turns s b as_ reply next × Stands new next

  pub sat_found : (values : List (Term × Bool)) → found.IsModel s.table h.formulas (assumed_terms as_) values → (m : List (Term × Value)) → IsModel s.table m → assignment_of s.table m ≡ assignment_by s.table values → Found (held_with h (Some m) None) (codes "sat\n")
  sat_found values model m is same =
      let k = kept h s st table as_ standing values model m is same in (
        record s { model = Some k; core = None },
        inl (finds_model h s st table as_ standing values model m is same),
        found_stands h s st (Some m) (Some k) (is, refl, refl) None None tt (other_truths s.table (name_terms s.names) (stacked_terms s.lists) (core_terms s.core) [] st.truths (λ t at. absurd (none_in t at))),
      )

  core_closed : (c : Bool) (core : List Term) → AreClosed s.table core → AreClosed s.table (core_terms (core_of c core as_))
  core_closed true core h = h
  core_closed false core h = λ t is. absurd (none_in t is)

  pub unsat_found : (core : List Term) → IsCore s.table h.formulas (assumed_terms as_) core → (line : Option Blamed) → IsKeptCore line (core_of b core as_) → Found (held_with h None line) (codes "unsat\n")
  unsat_found core is line keeps = (
    record s { model = None; core = core_of b core as_ },
    inr (inl (finds_none h s st table as_ standing b core is)),
    found_stands h s st None None tt line (core_of b core as_) keeps
        (other_truths s.table (name_terms s.names) (stacked_terms s.lists) (core_terms s.core) (core_terms (core_of b core as_)) st.truths (core_closed b core (λ t at. closed t (is.within t at)))),
  )

  pub unknown_found : (learned : Learned) → IsLearned s.table h.formulas (assumed_terms as_) turns learned → Found (held_with h None None) (codes "unknown\n")
  unknown_found learned is = (record s { model = None; core = None }, inr (inr (finds_no_verdict h s st table as_ standing turns learned is)), forgotten_stands h s st)

-- the formulas that are kept have truth values alone below them
pub session_formulas : (h : Held) (w : World) (fs : List Term) → w ≡ h.env.table → fs ≡ h.formulas → IsSession h → AreTruths w fs
session_formulas h w fs at are (s, st) =
    subst (λ z. AreTruths z fs) (st.table ∙ sym at)
    (subst (AreTruths s.table) (formulas_are h s st ∙ sym are)
    (closed_truths s.table (stacked_terms s.lists)
    (closed_front s.table (stacked_terms s.lists) (core_terms s.core) (closed_back s.table (name_terms s.names) (stacked_terms s.lists ++ core_terms s.core) (truths_closed s.table (name_terms s.names ++ (stacked_terms s.lists ++ core_terms s.core)) st.truths)))))

-- no assumptions
none_stand : (w : World) → AreAssumptions w []
none_stand w i x at = absurd (cc at)

none_closed : (w : World) → AreClosed w []
none_closed w t is = absurd (none_in t is)

-- a check of the formulas alone
abbrev pub Checked : Held → List ℕ → Held → Type 0
Checked h reply new = Moves (λ s says next. Checks h.turns s false [] says next) h reply new

pub checked_seen : (h seen : Held) (reply : List ℕ) (new : Held) → h ≡ seen → Checked h reply new → Checked seen reply new
checked_seen h seen reply new is x = subst (λ z. Checked z reply new) is x

module _ (h : Held) (table : IsTable h.env.table) (w : World) (fs : List Term) (at : w ≡ h.env.table) (are : fs ≡ h.formulas) (v : TermVerdict) where
  there : (s : State) → Stands h s → IsTable s.table
  there s st = subst IsTable (sym st.table) table

  -- what is known of the table and the formulas as the check saw them is known of those of the state
  carried : (P : World → List Term → Type 0) (s : State) → Stands h s → P w fs → P s.table h.formulas
  carried P s st x = subst (λ z. P z h.formulas) (at ∙ sym st.table) (subst (P w) are x)

  pub check_sat : (values : List (Term × Bool)) → v ≡ Sat values → IfSat v (found.IsModel w fs []) → (m : List (Term × Value)) → IsModel w m → assignment_of w m ≡ assignment_by w values → (new : Held) → new ≡ held_with h (Some m) None → Checked h (codes "sat\n") new
  check_sat values found_it model m is same new e = subst (Checked h (codes "sat\n")) (sym e) (record {
    turns = refl;
    each = λ s st.
        sat_found h s st (there s st) [] (none_stand s.table) (none_closed s.table) h.turns false values (carried (λ z gs. found.IsModel z gs [] values) s st (subst (λ x. IfSat x (found.IsModel w fs [])) found_it model)) m
        (carried (λ z gs. IsModel z m) s st is) (carried (λ z gs. assignment_of z m ≡ assignment_by z values) s st same);
  })

  pub check_unsat : (core : List Term) → v ≡ Unsat core → IfUnsat v (IsCore w fs []) → (new : Held) → new ≡ held_with h None None → Checked h (codes "unsat\n") new
  check_unsat core found_it is new e = subst (Checked h (codes "unsat\n")) (sym e) (record {
    turns = refl;
    each = λ s st. unsat_found h s st (there s st) [] (none_stand s.table) (none_closed s.table) h.turns false core (carried (λ z gs. IsCore z gs [] core) s st (subst (λ x. IfUnsat x (IsCore w fs [])) found_it is)) None tt;
  })

  pub check_unknown : (learned : Learned) → v ≡ Unknown learned → IfUnknown v (IsLearned w fs [] h.turns) → (new : Held) → new ≡ held_with h None None → Checked h (codes "unknown\n") new
  check_unknown learned found_it is new e = subst (Checked h (codes "unknown\n")) (sym e) (record {
    turns = refl;
    each = λ s st. unknown_found h s st (there s st) [] (none_stand s.table) (none_closed s.table) h.turns false learned (carried (λ z gs. IsLearned z gs [] h.turns learned) s st (subst (λ x. IfUnknown x (IsLearned w fs [] h.turns)) found_it is));
  })

-- memory was refused, and what was kept is forgotten
pub check_halts : (h : Held) (new : Held) (why : Stop) → new ≡ held_with h None None → why ≡ stop.NoMemory → Halts (λ s next. why ≡ stop.NoMemory) h new
check_halts h new why at is = subst (Halts (λ s next. why ≡ stop.NoMemory) h) (sym at) (record {
  turns = refl;
  each = λ s st. (record s { model = None; core = None }, is, record { names = refl; lists = refl; lasts = (same_stays s).lasts }, forgotten_stands h s st);
})

-- the line of a core, as it is said of slices of its terms
abbrev pub Says : List ℕ → List Term → List Term → List Literal → Type 0
Says line core us ls = (as_ : List Assumed) → map (λ (a : Assumed). a.literal) as_ ≡ ls → assumed_terms as_ ≡ us → line ≡ core_text (Some (record { terms = core; written = map (λ (a : Assumed). a.literal) (blamed_among core as_) }))

pub line_said : (line : List ℕ) (seen core us ts : List Term) (ls : List Literal) → seen ≡ core → us ≡ ts → Says line seen ts ls → Says line core us ls
line_said line seen core us ts ls is same says as_ literals terms =
    says as_ literals (terms ∙ same) ∙ ap (λ cs. core_text (Some (record { terms = cs; written = map (λ (a : Assumed). a.literal) (blamed_among cs as_) }))) is

-- a check with literals whose terms were built
abbrev pub CheckedSo : Held → List LitExpr → List ℕ → Held → Type 0
CheckedSo h ls reply new = Moves (λ s says next. ChecksAssuming h.turns s ls says next) h reply new

pub assumed_seen : (h seen : Held) (ls : List LitExpr) (reply : List ℕ) (new : Held) → h ≡ seen → CheckedSo h ls reply new → CheckedSo seen ls reply new
assumed_seen h seen ls reply new is x = subst (λ z. CheckedSo z ls reply new) is x

module _ (h : Held) (env : Environment) (ls : List LitExpr) (ts : List Term) (table : IsTable h.env.table) (after : IsTable env.table) (laws : AreKnown) (all : AssumesAll h.env.table env.table ls ts) (stay : ContextsStay h.env env) where
  abbrev more : Held
  more = grown h env ls ts table after laws all stay

  -- what is kept stands for a state with the grown table
  pub grown_session : IsSession h → IsSession more
  grown_session (s, st) = (mid h env ls ts table after laws all stay s st, mid_stands h env ls ts table after laws all stay s st)

  pub session_assumptions : (w : World) (us : List Term) → w ≡ env.table → us ≡ ts → IsSession h → AreTruths w us
  session_assumptions w us at are (s, st) =
      let x = its h env ls ts table after laws all stay s st in
      subst (λ z. AreTruths z us) (sym at) (subst (AreTruths env.table) (x.terms ∙ sym are) (closed_truths env.table (assumed_terms x.assumed) (closed h env ls ts table after laws all stay s st)))

  pub session_count : IsSession h → length ts ≡ length ls
  session_count (s, st) =
      let x = its h env ls ts table after laws all stay s st in
      ap length (sym x.terms) ∙ map_length (λ (a : Assumed). a.term) x.assumed ∙ sym (map_length (λ (a : Assumed). a.literal) x.assumed) ∙ ap length (assumed_literals (scope_of s.names) env.table ls x.assumed x.are) ∙ map_length literal_of ls

  module _ (s : State) (st : Stands h s) where
    abbrev here : List Assumed
    here = (its h env ls ts table after laws all stay s st).assumed

    abbrev terms_are : assumed_terms here ≡ ts
    terms_are = (its h env ls ts table after laws all stay s st).terms

    abbrev after_building : State
    after_building = mid h env ls ts table after laws all stay s st

    -- a check of the state with the grown table is one of the state
    checked : (reply : List ℕ) (new : Held) → (next : State) × Checks h.turns after_building true here reply next × Stands new next → (next : State) × ChecksAssuming h.turns s ls reply next × Stands new next
    checked reply new r = (
      r.0,
      record { built = env.table; assumed = here; are = are h env ls ts table after laws all stay s st; grows = grows h env ls ts table after laws all stay s st; checks = r.1 },
      r.2,
    )

  module _ (w : World) (fs us : List Term) (at : w ≡ env.table) (formulas : fs ≡ h.formulas) (assumptions : us ≡ ts) (v : TermVerdict) where
    -- what is known of the table and the terms as the check saw them
    carried_so : (P : World → List Term → List Term → Type 0) (s : State) (st : Stands h s) → P w fs us → P env.table h.formulas (assumed_terms (here s st))
    carried_so P s st x = subst (λ z. P z h.formulas (assumed_terms (here s st))) at (subst (λ z. P w z (assumed_terms (here s st))) formulas (subst (P w fs) (assumptions ∙ sym (terms_are s st)) x))

    pub assuming_sat : (values : List (Term × Bool)) → v ≡ Sat values → IfSat v (found.IsModel w fs us) → (m : List (Term × Value)) → IsModel w m → assignment_of w m ≡ assignment_by w values → (new : Held) → new ≡ held_with more (Some m) None → CheckedSo h ls (codes "sat\n") new
    assuming_sat values found_it model m is same new e = subst (CheckedSo h ls (codes "sat\n")) (sym e) (record {
      turns = refl;
      each = λ s st. checked s st (codes "sat\n") (held_with more (Some m) None)
          (sat_found more (after_building s st) (mid_stands h env ls ts table after laws all stay s st) after (here s st) (standing h env ls ts table after laws all stay s st) (closed h env ls ts table after laws all stay s st) h.turns true values
          (carried_so (λ z gs ks. found.IsModel z gs ks values) s st (subst (λ x. IfSat x (found.IsModel w fs us)) found_it model)) m (subst (λ z. IsModel z m) at is) (subst (λ z. assignment_of z m ≡ assignment_by z values) at same));
    })

    pub assuming_unsat : (core : List Term) → v ≡ Unsat core → IfUnsat v (IsCore w fs us) → (line : List ℕ) → Says line core us (map literal_of ls) → (new : Held) → new ≡ held_with more None (Some (record { terms = core; line = line })) → CheckedSo h ls (codes "unsat\n") new
    assuming_unsat core found_it is line says new e = subst (CheckedSo h ls (codes "unsat\n")) (sym e) (record {
      turns = refl;
      each = λ s st. checked s st (codes "unsat\n") (held_with more None (Some (record { terms = core; line = line })))
          (unsat_found more (after_building s st) (mid_stands h env ls ts table after laws all stay s st) after (here s st) (standing h env ls ts table after laws all stay s st) (closed h env ls ts table after laws all stay s st) h.turns true core
          (carried_so (λ z gs ks. IsCore z gs ks core) s st (subst (λ x. IfUnsat x (IsCore w fs us)) found_it is)) (Some (record { terms = core; line = line }))
          (refl, says (here s st) (assumed_literals (scope_of s.names) env.table ls (here s st) (its h env ls ts table after laws all stay s st).are) (terms_are s st ∙ sym assumptions)));
    })

    pub assuming_unknown : (learned : Learned) → v ≡ Unknown learned → IfUnknown v (IsLearned w fs us h.turns) → (new : Held) → new ≡ held_with more None None → CheckedSo h ls (codes "unknown\n") new
    assuming_unknown learned found_it is new e = subst (CheckedSo h ls (codes "unknown\n")) (sym e) (record {
      turns = refl;
      each = λ s st. checked s st (codes "unknown\n") (held_with more None None)
          (unknown_found more (after_building s st) (mid_stands h env ls ts table after laws all stay s st) after (here s st) (standing h env ls ts table after laws all stay s st) (closed h env ls ts table after laws all stay s st) h.turns true learned
          (carried_so (λ z gs ks. IsLearned z gs ks h.turns learned) s st (subst (λ x. IfUnknown x (IsLearned w fs us h.turns)) found_it is)));
    })

  -- memory was refused, and what was kept is forgotten
  pub assuming_memory : (new : Held) (why : Stop) → new ≡ held_with more None None → why ≡ stop.NoMemory → Halts (λ s next. IsRefused (unknown_in (scope_of s.names) ls) next why) h new
  assuming_memory new why at is = subst (Halts (λ s next. IsRefused (unknown_in (scope_of s.names) ls) next why) h) (sym at) (record {
    turns = refl;
    each = λ s st.
        let next : State = record (after_building s st) { model = None; core = None } in
        let stays = mid_stays h env ls ts table after laws all stay s st in
        (next, subst (λ z. IsRefused (unknown_in (scope_of s.names) ls) next z) (sym is) tt, record { names = stays.names; lists = stays.lists; lasts = stays.lasts }, forgotten_stands more (after_building s st) (mid_stands h env ls ts table after laws all stay s st));
  })
