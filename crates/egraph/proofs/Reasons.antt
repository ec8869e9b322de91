-- The merges that an explanation names.
use Rattle.std.proofs.Common.{◌≡◌, ◌∙◌, ◌+◌, ◌<◌, ◌≤◌, ◌++◌, ◌==◌, ℕ, zero, suc, true, List, [], ◌∷◌, Option, Some, None, length, refl, sym, ap, subst, inl, inr, ◌⊎◌, ⊎_elim, append_assoc, append-nil, arith}
use Rattle.std.specs.Prelude.{slice_get, IsPermutation}
use Rattle.std.specs.List.{cons_option}
use Rattle.std.proofs.lemmas.Bool.{cases_eq, eq-eqb}
use Rattle.std.proofs.lemmas.List.{map-append}
use Rattle.std.proofs.lemmas.Option.{same_Some, slice_get-get_or, slice_get_within, get_or_from_slice_get}
use Rattle.std.proofs.lemmas.List.Sorted.{All-permutation, IsPermutation-refl, IsPermutation-sym, IsPermutation-trans, IsPermutation-cons, IsPermutation-middle, IsPermutation-append_right}
use Rattle.egraph.specs.declared.Node.{Node}
use Rattle.egraph.specs.declared.Merge.{Merge}
use Rattle.egraph.specs.declared.Event.{Event}
use Rattle.egraph.specs.declared.Pair.{Pair}
use Rattle.egraph.specs.declared.Waiting.{Waiting}
use Rattle.egraph.specs.Congruence.{Equal, is_listed, named, reasons_of, IsExplanation}
use Rattle.egraph.specs.History.{class_after, past, moved, HasMerge}
use Rattle.egraph.specs.Explaining.{AllIn, IsUsed, Explains, Waits, WaitingEqual}
use Rattle.egraph.proofs.Explanations.{named_has, or_right}
use Rattle.egraph.proofs.Gets.{push_cases, push_old, push_here}

-- what was joined stays joined
module _ (events : List Event) (a b : ℕ) where
  after_one : (o : Option Event) (h : List Event) → class_after h a ≡ class_after h b → class_after (cons_option o h) a ≡ class_after (cons_option o h) b
  unfolding class_after
  after_one None h e = e
  after_one (Some x) h e = ap (moved x) e

  pub stays_joined : (m n : ℕ) → m ≤ n → class_after (past events m) a ≡ class_after (past events m) b → class_after (past events n) a ≡ class_after (past events n) b
  unfolding past
  stays_joined m zero less e = let none : m ≡ 0 = omega (arith, less) in subst (λ k. class_after (past events k) a ≡ class_after (past events k) b) none e
  stays_joined m (suc n) less e = ⊎_elim
      (λ d. subst (λ k. class_after (past events k) a ≡ class_after (past events k) b) d e)
      (λ d. after_one (slice_get events n) (past events n) (stays_joined m n (omega (arith, less, d)) e))
      (cases_eq m (suc n))

-- merges in another order
in_order : (xs ys : List Merge) → IsPermutation xs ys → AllIn xs ys
in_order xs ys moves k m at =
    let each = All-permutation (λ (x : Merge). HasMerge x ys) ys xs (IsPermutation-sym xs ys moves) (λ j d less. (j, slice_get-get_or ys j d less)) in
    subst (λ (x : Merge). HasMerge x ys) (get_or_from_slice_get xs k m m at) (each k m (slice_get_within xs k m at))

in_front : (xs ys : List Merge) → AllIn xs (xs ++ ys)
in_front [] ys k m at = absurd (cc at)
in_front (x ∷ xs) ys zero m at = (0, at)
in_front (x ∷ xs) ys (suc k) m at = let later = in_front xs ys k m at in (suc later.0, later.1)

in_either : (xs ys : List Merge) (k : ℕ) (m : Merge) → slice_get (xs ++ ys) k ≡ Some m → HasMerge m xs ⊎ HasMerge m ys
in_either [] ys k m at = inr (k, at)
in_either (x ∷ xs) ys zero m at = inl (0, at)
in_either (x ∷ xs) ys (suc k) m at = ⊎_elim (λ h. inl (suc h.0, h.1)) inr (in_either xs ys k m at)

-- one merge taken out
taken_out : (xs : List Merge) (k : ℕ) (m : Merge) → slice_get xs k ≡ Some m → (rest : List Merge) × IsPermutation xs (m ∷ rest)
taken_out [] k m at = absurd (cc at)
taken_out (x ∷ xs) zero m at = (xs, subst (λ (y : Merge). IsPermutation (x ∷ xs) (y ∷ xs)) (same_Some x m at) (IsPermutation-refl (x ∷ xs)))
taken_out (x ∷ xs) (suc k) m at =
    let later = taken_out xs k m at in
    (x ∷ later.0, IsPermutation-trans (x ∷ xs) (x ∷ m ∷ later.0) (m ∷ x ∷ later.0) (IsPermutation-cons x xs (m ∷ later.0) later.1) (IsPermutation-middle (x ∷ []) m later.0))

-- one merge more that is used
used_more : (merges used others : List Merge) (m : Merge) → IsPermutation merges (used ++ others) → HasMerge m merges → (HasMerge m used → ⊥) → (rest : List Merge) × IsPermutation merges ((used ++ m ∷ []) ++ rest)
used_more merges used others m moves here fresh =
    let among = in_order merges (used ++ others) moves here.0 m here.1 in
    let other : HasMerge m others = ⊎_elim (λ h. absurd (fresh h)) (λ h. h) (in_either used others among.0 m among.1) in
    let out = taken_out others other.0 m other.1 in
    (out.0, rw append_assoc (IsPermutation-trans merges (used ++ others) (used ++ m ∷ out.0) moves (IsPermutation-append_right used others (m ∷ out.0) out.1)))

-- the merges that are used so far, and the others: those used are joined by no event still to come
pub record Chosen (nodes : List Node) (merges : List Merge) (events : List Event) (count : ℕ) (waiting : List Waiting) (reasons : List ℕ) (a b : ℕ) : Type 0 where
  pub used : List Merge
  pub others : List Merge
  pub in_force : IsPermutation merges (used ++ others)
  pub in_turn : reasons ≡ reasons_of used
  pub apart : (k : ℕ) (m : Merge) → slice_get used k ≡ Some m → class_after (past events count) m.left ≡ class_after (past events count) m.right → ⊥
  pub enough : (given : List Merge) → AllIn used given → WaitingEqual nodes given waiting → Equal nodes given a b

pub none_chosen : (nodes : List Node) (merges : List Merge) (events : List Event) (count : ℕ) (older waiting : List Waiting) (reasons : List ℕ) (pair : Pair) → reasons ≡ [] → Waits events count older waiting pair → Chosen nodes merges events count waiting reasons pair.left pair.right
none_chosen nodes merges events count older waiting reasons pair none waits = record {
  used = [];
  others = merges;
  in_force = IsPermutation-refl merges;
  in_turn = none;
  apart = λ k m at. absurd (cc at);
  enough = λ given has g. (waits.equal nodes given g).1;
}

-- an event explained
pub more_chosen : (nodes : List Node) (merges : List Merge) (events : List Event) (count n : ℕ) (whole after : List Waiting) (pending newer : List Pair) (reasons more : List ℕ) (a b : ℕ) → n < count
    → Chosen nodes merges events count whole reasons a b → (explains : Explains nodes merges events n pending newer reasons more)
    → ((given : List Merge) → AllIn explains.fresh given → WaitingEqual nodes given after → WaitingEqual nodes given whole) → Chosen nodes merges events n after more a b
more_chosen nodes merges events count n whole after pending newer reasons more a b less is explains back = ⊎_elim none one explains.few
  where
    still_apart : (k : ℕ) (m : Merge) → slice_get is.used k ≡ Some m → class_after (past events n) m.left ≡ class_after (past events n) m.right → ⊥
    still_apart k m at e = is.apart k m at (stays_joined events m.left m.right n count (omega (arith, less)) e)

    none : explains.fresh ≡ [] → Chosen nodes merges events n after more a b
    none e = record {
      used = is.used;
      others = is.others;
      in_force = is.in_force;
      in_turn = explains.in_turn ∙ ap (λ ms. reasons ++ reasons_of ms) e ∙ append-nil reasons ∙ is.in_turn;
      apart = still_apart;
      enough = λ given has g. is.enough given has (back given (subst (λ ms. AllIn ms given) (sym e) (λ k m at. absurd (cc at))) g);
    }

    one : (m : Merge) × (explains.fresh ≡ m ∷ []) × IsUsed merges events n m → Chosen nodes merges events n after more a b
    one (m, e, joined) =
        let put = used_more merges is.used is.others m is.in_force joined.in_force (λ h. is.apart h.0 m h.1 (stays_joined events m.left m.right (n + 1) count (omega (arith, less)) joined.joined)) in
        record {
          used = is.used ++ m ∷ [];
          others = put.0;
          in_force = put.1;
          in_turn = explains.in_turn ∙ ap (λ ms. reasons ++ reasons_of ms) e ∙ ap (λ rs. rs ++ m.reason ∷ []) is.in_turn ∙ sym (map-append (λ (x : Merge). x.reason) is.used (m ∷ []));
          apart = λ k x at g. ⊎_elim (λ d. joined.apart (subst (λ (y : Merge). class_after (past events n) y.left ≡ class_after (past events n) y.right) (sym d.1) g)) (λ old. still_apart k x old g) (push_cases is.used m x k at);
          enough = λ given has g.
              is.enough given (λ k x at. has k x (push_old is.used m x k at))
              (back given (subst (λ ms. AllIn ms given) (sym e) (λ k x at. ⊎_elim (λ d. subst (λ (y : Merge). HasMerge y given) d.1 (has (length is.used) m (push_here is.used m))) (λ old. absurd (cc old)) (push_cases [] m x k at))) g);
        }

-- nothing waits
module _ (nodes : List Node) (merges : List Merge) (events : List Event) (count : ℕ) (waiting : List Waiting) (reasons : List ℕ) (a b : ℕ) (is : Chosen nodes merges events count waiting reasons a b) (none : (given : List Merge) → WaitingEqual nodes given waiting) where
  pub explanation : IsExplanation nodes merges reasons a b
  explanation = record { used = is.used; others = is.others; in_force = is.in_force; in_turn = is.in_turn; equal = is.enough is.used (λ k m at. (k, at)) (none is.used) }

  listed_at : (ms : List Merge) (k : ℕ) (m : Merge) → slice_get ms k ≡ Some m → is_listed (reasons_of ms) m.reason ≡ true
  listed_at [] k m at = absurd (cc at)
  listed_at (x ∷ ms) zero m at = rw (eq-eqb x.reason m.reason (ap (λ (y : Merge). y.reason) (same_Some x m at))) refl
  listed_at (x ∷ ms) (suc k) m at = or_right (x.reason == m.reason) (is_listed (reasons_of ms) m.reason) (listed_at ms k m at)

  pub equal_by_named : Equal nodes (named reasons merges) a b
  equal_by_named =
      is.enough (named reasons merges)
      (λ k m at.
      let here = in_order (is.used ++ is.others) merges (IsPermutation-sym merges (is.used ++ is.others) is.in_force) in
      let front = in_front is.used is.others k m at in
      let among = here front.0 m front.1 in
      named_has reasons merges among.0 m among.1 (subst (λ rs. is_listed rs m.reason ≡ true) (sym is.in_turn) (listed_at is.used k m at)))
      (none (named reasons merges))
