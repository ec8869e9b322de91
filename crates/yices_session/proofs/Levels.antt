-- Lists of formulas and marks: what is pushed, taken away and cleared; and a command that leaves everything as it was.
use Rattle.std.proofs.Common.{◌≡◌, ◌∙◌, ◌<◌, ◌≤◌, ℕ, zero, suc, cond, ◌⊎◌, inl, inr, ⊎_elim, List, [], ◌∷◌, ◌++◌, map, Option, Some, None, length, reverse, take, drop, refl, sym, ap, subst, arith, append-nil}
use Rattle.std.specs.Prelude.{slice_get, nat_le, ◌==◌}
use Rattle.context_stack.proofs.Stacks.{reverse_push}
use Rattle.std.proofs.lemmas.List.{length-reverse, take_all, drop_all, take-append-drop, length-take-le}
use Rattle.std.proofs.lemmas.Bool.{eq-eqb, le-leb}
use Rattle.term_shapes.specs.declared.handles.Term.{Term}
use Rattle.term_table.specs.World.{World}
use Rattle.term_orders.specs.Orders.{IsIn}
use Rattle.yices_api.proofs.Tables.{extends_self}
use Rattle.yices_api.proofs.Lasting.{extends_last}
use Rattle.yices_grammar.specs.declared.Place.{Place}
use Rattle.yices_grammar.specs.Commands as command
use Rattle.expression_terms.specs.Trees.{Cause}
use Rattle.expression_terms.specs.declared.refusal.Refusal.TheVariants as refusal
use Rattle.expression_terms.specs.declared.refusal.Stop.TheVariants as stop
use Rattle.yices_session.specs.State.{Formula, State, stacked_terms, core_terms}
use Rattle.yices_session.specs.Steps.{level_of, with_lists, Pushes, Pops}
use Rattle.yices_session.specs.Refusals.{cause_of, refused_at, IsRefused}
use Rattle.yices_session.specs.Held.{Held, Stands, AreMarks, AreTruths, IsFormulaBuilt, levels_in, name_terms, terms_of_lists}
use Rattle.yices_session.specs.Answers.{Halts, Moves}

-- a term of two lists, one behind the other
front_at : (xs ys : List Term) (i : ℕ) (t : Term) → slice_get xs i ≡ Some t → slice_get (xs ++ ys) i ≡ Some t
front_at [] ys i t e = absurd (cc e)
front_at (x ∷ xs) ys zero t e = e
front_at (x ∷ xs) ys (suc i) t e = front_at xs ys i t e

pub in_front : (xs ys : List Term) (t : Term) → IsIn xs t → IsIn (xs ++ ys) t
in_front xs ys t h = record { place = h.place; at = front_at xs ys h.place t h.at }

pub in_back : (xs ys : List Term) (t : Term) → IsIn ys t → IsIn (xs ++ ys) t
in_back [] ys t h = h
in_back (x ∷ xs) ys t h = let r = in_back xs ys t h in record { place = suc r.place; at = r.at }

either_at : (xs ys : List Term) (i : ℕ) (t : Term) → slice_get (xs ++ ys) i ≡ Some t → IsIn xs t ⊎ IsIn ys t
either_at [] ys i t e = inr (record { place = i; at = e })
either_at (x ∷ xs) ys zero t e = inl (record { place = 0; at = e })
either_at (x ∷ xs) ys (suc i) t e = ⊎_elim (λ (h : IsIn xs t). inl (record { place = suc h.place; at = h.at })) inr (either_at xs ys i t e)

pub in_either : (xs ys : List Term) (t : Term) → IsIn (xs ++ ys) t → IsIn xs t ⊎ IsIn ys t
in_either xs ys t h = either_at xs ys h.place t h.at

pub none_in : (t : Term) → IsIn [] t → ⊥
none_in t h = cc h.at

-- what stands below some of the terms
pub truths_some : (w : World) (ts us : List Term) → ((t : Term) → IsIn us t → IsIn ts t) → AreTruths w ts → AreTruths w us
truths_some w ts us within h = record {
  sorts = λ t u. h.sorts t (record { root = u.root; listed = within u.root u.listed; below = u.below });
  closed = λ t u. h.closed t (record { root = u.root; listed = within u.root u.listed; below = u.below });
}

-- without the core, and with some of the formulas
pub fewer_truths : (w : World) (ns ts us cs : List Term) → ((t : Term) → IsIn us t → IsIn ts t) → AreTruths w (ns ++ (ts ++ cs)) → AreTruths w (ns ++ (us ++ []))
fewer_truths w ns ts us cs within = truths_some w (ns ++ (ts ++ cs)) (ns ++ (us ++ [])) by
  where
    by : (t : Term) → IsIn (ns ++ (us ++ [])) t → IsIn (ns ++ (ts ++ cs)) t
    by t h = ⊎_elim
        (λ n. in_front ns (ts ++ cs) t n)
        (λ k. in_back ns (ts ++ cs) t (in_front ts cs t (within t (subst (λ z. IsIn z t) (append-nil us) k))))
        (in_either ns (us ++ []) t h)

-- the terms of lists, those of the bottom level first
abbrev stacked : List (List Term) → List Term
stacked [] = []
stacked (ts ∷ lists) = stacked lists ++ ts

stacked_as : (lists : List (List Formula)) → stacked_terms lists ≡ stacked (terms_of_lists lists)
stacked_as [] = refl
stacked_as (fs ∷ lists) = ap (λ x. x ++ map (λ (f : Formula). f.term) fs) (stacked_as lists)

stacked_levels : (ms : List ℕ) (ts : List Term) → stacked (levels_in ms ts) ≡ ts
stacked_levels [] ts = refl
stacked_levels (m ∷ ms) ts = ap (λ x. x ++ drop m ts) (stacked_levels ms (take m ts)) ∙ take-append-drop m ts

-- the formulas that are kept are those of the state, in order
pub formulas_are : (h : Held) (s : State) → Stands h s → stacked_terms s.lists ≡ h.formulas
formulas_are h s st = stacked_as s.lists ∙ ap stacked st.lists ∙ stacked_levels h.marks h.formulas

-- there is a mark for each level that is open
length_lists : (lists : List (List Formula)) → length (terms_of_lists lists) ≡ length lists
length_lists [] = refl
length_lists (fs ∷ lists) = ap suc (length_lists lists)

length_levels : (ms : List ℕ) (ts : List Term) → length (levels_in ms ts) ≡ suc (length ms)
length_levels [] ts = refl
length_levels (m ∷ ms) ts = ap suc (length_levels ms (take m ts))

pub level_is : (h : Held) (s : State) → Stands h s → level_of s ≡ length h.marks
level_is h s st = omega (arith, length_lists s.lists, ap length st.lists, length_levels h.marks h.formulas)

-- the formulas of each list were built for their trees
abbrev pub AreFormulasBuilt : World → List (List Formula) → Type 0
AreFormulasBuilt w lists = (i j : ℕ) (fs : List Formula) (f : Formula) → slice_get lists i ≡ Some fs → slice_get fs j ≡ Some f → IsFormulaBuilt w f

-- an empty list has none
no_formula : (j : ℕ) (fs : List Formula) (f : Formula) → Some [] ≡ Some fs → slice_get fs j ≡ Some f → ⊥
no_formula j [] f e there = cc there
no_formula j (x ∷ fs) f e there = cc e

-- other formulas, with neither a model nor a core
abbrev pub relisted : Held → List Term → List ℕ → Held
relisted h ts ms = record h { formulas = ts; marks = ms; model = None; core = None }

pub stands_relisted : (h : Held) (s : State) → Stands h s → (ls : List (List Formula)) (ts : List Term) (ms : List ℕ)
    → terms_of_lists ls ≡ levels_in ms ts → AreMarks ms (length ts) → AreFormulasBuilt s.table ls → ((t : Term) → IsIn (stacked_terms ls) t → IsIn (stacked_terms s.lists) t)
    → Stands (relisted h ts ms) (with_lists s s.table ls)
stands_relisted h s st ls ts ms are fall built within = record {
  table = st.table;
  contexts = st.contexts;
  declared = st.declared;
  parts = st.parts;
  lists = are;
  marks = fall;
  model = tt;
  core = tt;
  named = st.named;
  trees = st.trees;
  names = st.names;
  meant = st.meant;
  live = st.live;
  formulas = built;
  truths = fewer_truths s.table (name_terms s.names) (stacked_terms s.lists) (stacked_terms ls) (core_terms s.core) within st.truths;
}

-- nothing changes, and there is a cause
pub halts_same : (why : State → State → Type 0) (h k : Held) → k ≡ h → ((s : State) → Stands h s → why s s) → Halts why h k
halts_same why h k is cause = subst (Halts why h) (sym is) (record {
  turns = refl;
  each = λ s st. (s, cause s st, record { names = refl; lists = refl; lasts = extends_last s.table s.table (extends_self s.table) }, st);
})

-- a level is opened
pub stands_pushed : (h : Held) (s : State) → Stands h s → Stands (relisted h h.formulas (length h.formulas ∷ h.marks)) (with_lists s s.table ([] ∷ s.lists))
stands_pushed h s st = stands_relisted h s st ([] ∷ s.lists) h.formulas (length h.formulas ∷ h.marks)
    (ap (λ (x : List (List Term)). [] ∷ x) st.lists ∙ ap (λ x. x ∷ levels_in h.marks h.formulas) (sym (drop_all (length h.formulas) h.formulas (omega arith)))
    ∙ ap (λ x. drop (length h.formulas) h.formulas ∷ levels_in h.marks x) (sym (take_all (length h.formulas) h.formulas (omega arith))))
    (omega arith, st.marks) built (λ t is. subst (λ z. IsIn z t) (append-nil (stacked_terms s.lists)) is)
  where
    built : AreFormulasBuilt s.table ([] ∷ s.lists)
    built zero j fs f at there = absurd (no_formula j fs f at there)
    built (suc i) j fs f at there = st.formulas i j fs f at there

pub pushed_at : (h k : Held) → length h.marks < 65536 → k ≡ relisted h h.formulas (length h.formulas ∷ h.marks) → Moves (λ s says next. Pushes s says next) h [] k
pushed_at h k room is = subst (Moves (λ s says next. Pushes s says next) h []) (sym is) (record {
  turns = refl;
  each = λ s st. (with_lists s s.table ([] ∷ s.lists), record { room = omega (arith, level_is h s st, room); silent = refl; after = refl }, stands_pushed h s st);
})

-- too many are open
deep : (n : ℕ) (at : Place) → 65536 ≤ n → cond {A = Option Cause} (nat_le 65536 n) (refused_at at refusal.TooDeep) None ≡ refused_at at refusal.TooDeep
deep n at h = ap (λ b. cond {A = Option Cause} b (refused_at at refusal.TooDeep) None) (le-leb 65536 n h)

pub too_deep : (h k : Held) (at : Place) → k ≡ h → 65536 ≤ length h.marks → Halts (λ s next. IsRefused (cause_of s at command.push) next (stop.Refused at refusal.TooDeep)) h k
too_deep h k at is many = halts_same (λ s next. IsRefused (cause_of s at command.push) next (stop.Refused at refusal.TooDeep)) h k is (λ s st. deep (level_of s) at (omega (arith, level_is h s st, many)))

-- the newest level is taken away
lists_popped : (m : ℕ) (ms : List ℕ) (ts : List Term) (lists : List (List Formula)) → terms_of_lists lists ≡ levels_in (m ∷ ms) ts → terms_of_lists (drop 1 lists) ≡ levels_in ms (take m ts)
lists_popped m ms ts [] e = absurd (cc e)
lists_popped m ms ts (fs ∷ lists) e = ap (drop 1) e

formulas_popped : (w : World) (lists : List (List Formula)) → AreFormulasBuilt w lists → AreFormulasBuilt w (drop 1 lists)
formulas_popped w [] built i j fs f at there = absurd (cc at)
formulas_popped w (x ∷ lists) built i j fs f at there = built (suc i) j fs f at there

stacked_popped : (lists : List (List Formula)) (t : Term) → IsIn (stacked_terms (drop 1 lists)) t → IsIn (stacked_terms lists) t
stacked_popped [] t is = is
stacked_popped (fs ∷ lists) t is = in_front (stacked_terms lists) (map (λ (f : Formula). f.term) fs) t is

pub stands_popped : (h : Held) (m : ℕ) (ms : List ℕ) (s : State) → h.marks ≡ m ∷ ms → Stands h s → Stands (relisted h (take m h.formulas) ms) (with_lists s s.table (drop 1 s.lists))
stands_popped h m ms s front st =
    let marks : AreMarks (m ∷ ms) (length h.formulas) = subst (λ ns. AreMarks ns (length h.formulas)) front st.marks in
    stands_relisted h s st (drop 1 s.lists) (take m h.formulas) ms
    (lists_popped m ms h.formulas s.lists (st.lists ∙ ap (λ ns. levels_in ns h.formulas) front))
    (subst (AreMarks ms) (sym (length-take-le m h.formulas marks.0)) marks.1)
    (formulas_popped s.table s.lists st.formulas) (stacked_popped s.lists)

pub popped_at : (h k : Held) (m : ℕ) (ms : List ℕ) → h.marks ≡ m ∷ ms → k ≡ relisted h (take m h.formulas) ms → Moves (λ s says next. Pops s says next) h [] k
popped_at h k m ms front is = subst (Moves (λ s says next. Pops s says next) h []) (sym is) (record {
  turns = refl;
  each = λ s st. (with_lists s s.table (drop 1 s.lists), record { above = omega (arith, level_is h s st, ap length front); silent = refl; after = refl }, stands_popped h m ms s front st);
})

-- none is open
low : (n : ℕ) (at : Place) → n ≡ 0 → cond {A = Option Cause} (n == 0) (refused_at at refusal.BottomLevel) None ≡ refused_at at refusal.BottomLevel
low n at h = ap (λ b. cond {A = Option Cause} b (refused_at at refusal.BottomLevel) None) (eq-eqb n 0 h)

pub at_the_bottom : (h k : Held) (at : Place) → k ≡ h → length h.marks ≡ 0 → Halts (λ s next. IsRefused (cause_of s at command.pop) next (stop.Refused at refusal.BottomLevel)) h k
at_the_bottom h k at is none_open = halts_same (λ s next. IsRefused (cause_of s at command.pop) next (stop.Refused at refusal.BottomLevel)) h k is (λ s st. low (level_of s) at (level_is h s st ∙ none_open))

-- all levels and formulas are taken away
pub stands_cleared : (h : Held) (s : State) → Stands h s → Stands (relisted h [] []) (with_lists s s.table ([] ∷ []))
stands_cleared h s st = stands_relisted h s st ([] ∷ []) [] [] refl tt built (λ t is. absurd (none_in t is))
  where
    built : AreFormulasBuilt s.table ([] ∷ [])
    built zero j fs f at there = absurd (no_formula j fs f at there)
    built (suc i) j fs f at there = absurd (cc at)

-- the marks as they are kept, the newest first, with one more and with one less
pub marks_more : (ms ns : List ℕ) (n : ℕ) → ns ≡ ms ++ n ∷ [] → reverse ns ≡ n ∷ reverse ms
marks_more ms ns n is = ap (λ z. reverse z) is ∙ reverse_push ms n

pub marks_count : (ms : List ℕ) (n : ℕ) → n ≡ length ms → length (reverse ms) ≡ n
marks_count ms n is = length-reverse ms ∙ sym is
