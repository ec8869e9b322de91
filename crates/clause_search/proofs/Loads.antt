-- A state made of the added clauses.
use Rattle.std.proofs.Common.{ℕ, zero, suc, ◌+◌, ◌++◌, List, [], ◌∷◌, ◌≡◌, ◌∙◌, Some, None, inl, refl, sym, ap, subst, length, take, drop}
use Rattle.std.specs.Prelude.{slice_get}
use Rattle.clause_logic.specs.declared.Lit.{Lit}
use Rattle.clause_logic.specs.Clauses.{In, Listed, IsRecord}
use Rattle.clause_logic.specs.Trails.{IsCore, FalseBefore}
use Rattle.clause_logic.proofs.Records.{record_none, derived_none}
use Rattle.clause_logic.proofs.Gets.{push_here, push_old, length_push}
use Rattle.clause_logic.proofs.Members.{get_from_in}
use Rattle.clause_trail.specs.Words.{AllFalse}
use Rattle.clause_trail.specs.View.{Lists, Sound}
use Rattle.clause_trail.specs.Changes.{Chosen}
use Rattle.clause_trail.specs.Analysis.{Rooted}
use Rattle.clause_trail.proofs.Cores.{core_refutes}
use Rattle.clause_trail.proofs.Settling.{rooted_of, false_on_trail}
use Rattle.clause_search.specs.Answers.{IsUnsatCore}
use Rattle.clause_search.specs.Loading.{IsRoot, Impossible}
use Rattle.clause_search.specs.declared.Turns.{Turns}
use Rattle.clause_search.specs.Solving.{Going, Recorded}
use Rattle.clause_search.proofs.Takes.{take_next}

-- at the root nothing is decided
pub root_chosen : (t : Lists) (assumed : List Lit) → Sound t → t.starts ≡ [] → Chosen t assumed
root_chosen t assumed sound root i l at none =
    let d = sound.base.decided i l at none in absurd (cc (sym d.1 ∙ ap (λ (xs : List ℕ). slice_get xs d.0) root))

pub root_rooted : (t : Lists) (assumed : List Lit) → Sound t → t.starts ≡ [] → Rooted t.order t.places t.reasons t.clauses assumed
root_rooted t assumed sound root =
    rooted_of t assumed sound (root_chosen t assumed sound root) (λ k s at all. absurd (cc (sym at ∙ ap (λ (xs : List ℕ). slice_get xs k) root)))

pub all_false_there : (t : Lists) (lits : List Lit) → Sound t → AllFalse t.values lits → (m : Lit) → In m lits → FalseBefore t.order (length t.order) m
all_false_there t lits sound all m i = let g = get_from_in lits m i in false_on_trail t sound.base m (all m (record { at = g.0; is = g.1 }))

pub impossible_with : (clauses : List (List Lit)) (order lits core : List Lit) → IsCore (Listed clauses) order [] lits core → Impossible (clauses ++ lits ∷ [])
impossible_with clauses order lits core is s models =
    core_refutes (Listed clauses) order [] lits core is s (λ d at. models d (at.0, push_old clauses lits d at.0 at.1)) (models lits (length clauses, push_here clauses lits)) (λ l i. absurd (is.assumptions l i))

get_front : {X : Type 0} → (n : ℕ) (xs : List X) (i : ℕ) (x : X) → slice_get (take n xs) i ≡ Some x → slice_get xs i ≡ Some x
get_front zero xs i x h = absurd (cc h)
get_front (suc n) [] i x h = h
get_front (suc n) (y ∷ xs) zero x h = h
get_front (suc n) (y ∷ xs) (suc i) x h = get_front n xs i x h

pub impossible_more : (added clauses : List (List Lit)) (i : ℕ) (lits : List Lit) → clauses ≡ take i added → slice_get added i ≡ Some lits → Impossible (clauses ++ lits ∷ []) → Impossible added
impossible_more added clauses i lits is at none s models =
    let e : clauses ++ lits ∷ [] ≡ take (suc i) added = ap (λ (xs : List (List Lit)). xs ++ lits ∷ []) is ∙ sym (take_next i added lits at) in
    none s (λ d there. models d (there.0, get_front (suc i) added there.0 d (ap (λ (xs : List (List Lit)). slice_get xs there.0) (sym e) ∙ there.1)))

pub root_more : (t u : Lists) (n i : ℕ) (added : List (List Lit)) (lits : List Lit) → IsRoot t n (take i added) → slice_get added i ≡ Some lits → Sound u → u.starts ≡ t.starts → length u.values ≡ length t.values → u.clauses ≡ t.clauses ++ lits ∷ [] → IsRoot u n (take (suc i) added)
root_more t u n i added lits root at sound starts vars is = record {
  sound = sound;
  starts = starts ∙ root.starts;
  vars = vars ∙ root.vars;
  clauses = is ∙ ap (λ (xs : List (List Lit)). xs ++ lits ∷ []) root.clauses ∙ sym (take_next i added lits at);
}

pub root_var : (t u : Lists) (n : ℕ) → IsRoot t n [] → Sound u → u.starts ≡ t.starts → u.values ≡ t.values ++ None ∷ [] → u.clauses ≡ t.clauses → IsRoot u (n + 1) []
root_var t u n root sound starts values clauses = record {
  sound = sound;
  starts = starts ∙ root.starts;
  vars = ap length values ∙ length_push t.values None ∙ ap (λ (k : ℕ). k + 1) root.vars;
  clauses = clauses ∙ root.clauses;
}

append_none : (xs : List (List Lit)) → xs ≡ xs ++ []
append_none [] = refl
append_none (x ∷ xs) = ap (λ ys. x ∷ ys) (append_none xs)

pub root_going : (t : Lists) (n : ℕ) (added : List (List Lit)) (stands : List Lit → Type 0) (assumed : List Lit) → IsRoot t n added → Going t added stands assumed
root_going t n added stands assumed root = record {
  sound = root.sound;
  learned = [];
  clauses = root.clauses ∙ append_none added;
  derived = derived_none (Listed added) stands;
  chosen = root_chosen t assumed root.sound root.starts;
}

append_end : (xs : List (List Lit)) → drop (length xs) xs ≡ []
append_end [] = refl
append_end (x ∷ xs) = append_end xs

pub root_recorded : (t : Lists) (n : ℕ) (added : List (List Lit)) (stands : List Lit → Type 0) (assumed : List Lit) (limit : Turns) → IsRoot t n added → Recorded t.clauses added stands assumed limit
root_recorded t n added stands assumed limit root k counted =
    subst (IsRecord (Listed added) stands assumed) (sym (ap (drop (length added)) root.clauses ∙ append_end added)) (record_none (Listed added) stands assumed)

pub impossible_core : (added : List (List Lit)) (stands : List Lit → Type 0) (assumed core : List Lit) → Impossible added → core ≡ [] → IsUnsatCore added stands assumed core
impossible_core added stands assumed core none is = record {
  assumptions = λ l i. absurd (subst (In l) is i);
  once = λ i j l at there. absurd (cc (sym at ∙ ap (λ (xs : List Lit). slice_get xs i) is));
  refuted = λ s models all. none s (λ d at. models d (inl at));
}
