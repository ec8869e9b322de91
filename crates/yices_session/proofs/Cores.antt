-- The core that is kept: the blamed assumptions, and how they are printed.
use Rattle.std.proofs.Common.{◌≡◌, ◌∙◌, ℕ, ◌+◌, ◌<◌, ◌≤◌, Bool, true, false, not, ◌&&◌, ◌||◌, List, [], ◌∷◌, ◌++◌, cond, length, map, take, drop, filter, get_or, append_assoc, append-nil, refl, sym, ap, arith, if◌then◌else◌}
use Rattle.std.specs.Prelude.{codes, Some}
use Rattle.std.specs.List.{list_any}
use Rattle.std.specs.declared.cmp.Ordering.{Ordering}
use Rattle.std.specs.declared.cmp.Ordering.TheVariants.{Less, Equal, Greater}
use Rattle.std.specs.Ordering.{is_eq, nat_cmp, ordering_then}
use Rattle.std.proofs.lemmas.List.{take_more, take_all, drop_more, drop_all, get_or-map}
use Rattle.std.proofs.lemmas.List.Folds.{list_any-append}
use Rattle.std.proofs.lemmas.Map.Views.{any-filter_same}
use Rattle.term_shapes.specs.declared.handles.Term.{Term}
use Rattle.term_shapes.specs.contracts.handles.TermPartialEq.TheImpl as term
use Rattle.term_shapes.proofs.Same.{term_decides}
use Rattle.term_sketches.specs.Sketches.{same_term}
use Rattle.term_sketches.proofs.Joins.{term_same}
use Rattle.stamped_slots.proofs.Lists.{map_length}
use Rattle.yices_commands.specs.declared.command.LitExpr.{LitExpr}
use Rattle.yices_commands.specs.Plain.{plain_literal}
use Rattle.yices_session.specs.State.{Literal}
use Rattle.yices_session.specs.Replies.{literal_text, literals_text, core_text}
use Rattle.yices_session.specs.Steps.{Assumed, assumed_terms, blamed_among}
use Rattle.yices_session.specs.Parts.{literal_of, spaced}

-- the list but for a term
abbrev pub without : Term → List Term → List Term
without u ts = filter (λ t. not (same_term u t)) ts

-- the literals at the places of terms that are blamed, of those with one term the first alone
abbrev pub blamed_literals : List Term → List Term → List Literal → List Literal
blamed_literals ts [] ls = []
blamed_literals ts (u ∷ us) [] = []
blamed_literals ts (u ∷ us) (l ∷ ls) = if list_any (same_term u) ts then l ∷ blamed_literals (without u ts) us ls else blamed_literals ts us ls

abbrev pub literals_of : List Assumed → List Literal
literals_of as_ = map (λ (a : Assumed). a.literal) as_

-- how they are found
blamed_is : (ts : List Term) (as_ : List Assumed) → literals_of (blamed_among ts as_) ≡ blamed_literals ts (assumed_terms as_) (literals_of as_)
blamed_is ts [] = refl
blamed_is ts (a ∷ as_) = by (list_any (same_term a.term) ts) (blamed_is (without a.term ts) as_) (blamed_is ts as_)
  where
    by : (b : Bool) → literals_of (blamed_among (without a.term ts) as_) ≡ blamed_literals (without a.term ts) (assumed_terms as_) (literals_of as_) → literals_of (blamed_among ts as_) ≡ blamed_literals ts (assumed_terms as_) (literals_of as_)
        → literals_of (if b then a ∷ blamed_among (without a.term ts) as_ else blamed_among ts as_) ≡ (if b then a.literal ∷ blamed_literals (without a.term ts) (assumed_terms as_) (literals_of as_) else blamed_literals ts (assumed_terms as_) (literals_of as_))
    by true blames passes = ap (λ ls. a.literal ∷ ls) blames
    by false blames passes = passes

-- a term is the same as itself
nat_self : (n : ℕ) → is_eq (nat_cmp n n) ≡ true
nat_self n = grind (arith)

both_from : (o p : Ordering) → is_eq o ≡ true → is_eq p ≡ true → is_eq (ordering_then o p) ≡ true
both_from Less p h g = absurd (cc h)
both_from Equal p h g = g
both_from Greater p h g = absurd (cc h)

pub term_self : (t : Term) → same_term t t ≡ true
term_self t = both_from (nat_cmp t.slot t.slot) (nat_cmp t.stamp t.stamp) (nat_self t.slot) (nat_self t.stamp)

term_is : (t u : Term) → t ≡ u → same_term t u ≡ true
term_is t u e = ap (same_term t) (sym e) ∙ term_self t

-- the code's test of terms is that one
eq_same : (t u : Term) → term.eq-value.it t u ≡ same_term t u
eq_same t u = by (term.eq-value.it t u) (same_term t u) refl refl
  where
    by : (a b : Bool) → term.eq-value.it t u ≡ a → same_term t u ≡ b → a ≡ b
    by true true e f = refl
    by false false e f = refl
    by true false e f = sym (term_is t u ((term_decides t u).0 e)) ∙ f
    by false true e f = sym e ∙ (term_decides t u).1 (term_same t u f)

-- the set holds the terms of the list
abbrev pub HoldsTerms : List Term → List Term → Type 0
HoldsTerms ks ts = (q : Term) → list_any (term.eq-value.it q) ks ≡ list_any (same_term q) ts

swap_same : (t u : Term) → same_term t u ≡ same_term u t
swap_same t u = by (same_term t u) (same_term u t) refl refl
  where
    by : (a b : Bool) → same_term t u ≡ a → same_term u t ≡ b → a ≡ b
    by true true e f = refl
    by false false e f = refl
    by true false e f = sym (term_is u t (sym (term_same t u e))) ∙ f
    by false true e f = sym e ∙ term_is t u (sym (term_same u t f))

any_without : (u q : Term) (ts : List Term) → list_any (same_term q) (without u ts) ≡ (not (same_term u q) && list_any (same_term q) ts)
any_without u q ts = any-filter_same (same_term q) (λ t. not (same_term u t)) (not (same_term u q)) (λ k h. ap (λ x. not (same_term u x)) (sym (term_same q k h))) ts

-- nothing yet, one more, and one less
pub holds_none : (ks : List Term) → ks ≡ [] → (i : ℕ) → i ≡ 0 → (ts : List Term) → HoldsTerms ks (take i ts)
holds_none ks none i start ts q = ap (list_any (term.eq-value.it q)) none ∙ ap (λ n. list_any (same_term q) (take n ts)) (sym start)

pub holds_more : (ks us ts : List Term) (i : ℕ) (d : Term) → i < length ts → HoldsTerms ks (take i ts) → ((q : Term) → list_any (term.eq-value.it q) us ≡ cond (term.eq-value.it (get_or ts i d) q) true (list_any (term.eq-value.it q) ks)) → HoldsTerms us (take (i + 1) ts)
holds_more ks us ts i d below holds updates q =
    updates q ∙ by (term.eq-value.it (get_or ts i d) q) (eq_same (get_or ts i d) q ∙ swap_same (get_or ts i d) q) ∙ sym (list_any-append (same_term q) (take i ts) (get_or ts i d ∷ [])) ∙ ap (list_any (same_term q)) (sym (take_more ts i d below))
  where
    or_true : (b : Bool) → true ≡ (b || (true || false))
    or_true true = refl
    or_true false = refl

    or_false : (b : Bool) → b ≡ (b || (false || false))
    or_false true = refl
    or_false false = refl

    by : (b : Bool) → b ≡ same_term q (get_or ts i d) → cond b true (list_any (term.eq-value.it q) ks) ≡ (list_any (same_term q) (take i ts) || (same_term q (get_or ts i d) || false))
    by true e = or_true (list_any (same_term q) (take i ts)) ∙ ap (λ b. list_any (same_term q) (take i ts) || (b || false)) e
    by false e = holds q ∙ or_false (list_any (same_term q) (take i ts)) ∙ ap (λ b. list_any (same_term q) (take i ts) || (b || false)) e

pub holds_less : (ks us ts : List Term) (u : Term) → HoldsTerms ks ts → ((q : Term) → list_any (term.eq-value.it q) us ≡ cond (term.eq-value.it u q) false (list_any (term.eq-value.it q) ks)) → HoldsTerms us (without u ts)
holds_less ks us ts u holds updates q = updates q ∙ by (term.eq-value.it u q) (eq_same u q) ∙ sym (any_without u q ts)
  where
    by : (b : Bool) → b ≡ same_term u q → cond b false (list_any (term.eq-value.it q) ks) ≡ (not (same_term u q) && list_any (same_term q) ts)
    by true e = ap (λ b. not b && list_any (same_term q) ts) e
    by false e = holds q ∙ ap (λ b. not b && list_any (same_term q) ts) e

-- literals with spaces between them, one more at the end
abbrev pub is_none : List Literal → Bool
is_none [] = true
is_none (l ∷ ls) = false

literals_more : (ls : List Literal) (l : Literal) → literals_text (ls ++ l ∷ []) ≡ literals_text ls ++ spaced (is_none ls) (literal_text l)
literals_more [] l = refl
literals_more (x ∷ []) l = append_assoc (literal_text x) (codes " ") (literal_text l)
literals_more (x ∷ y ∷ ls) l =
    ap (λ text. literal_text x ++ codes " " ++ text) (literals_more (y ∷ ls) l) ∙ sym (append_assoc (literal_text x ++ codes " ") (literals_text (y ∷ ls)) (spaced false (literal_text l)))

-- the line so far, of the literals before the i-th one
pub record CoreSoFar (blamed us : List Term) (ls : List Literal) (i : ℕ) (ks : List Term) (line : List ℕ) (first : Bool) : Type 0 where
  pub others : List Term
  pub holds : HoldsTerms ks others
  pub done : List Literal
  pub is : blamed_literals blamed us ls ≡ done ++ blamed_literals others (drop i us) (drop i ls)
  pub says : line ≡ codes "(" ++ literals_text done
  pub none : first ≡ is_none done

pub core_start : (blamed us : List Term) (ls : List Literal) (ks : List Term) (i : ℕ) (line : List ℕ) → i ≡ length blamed → HoldsTerms ks (take i blamed) → line ≡ codes "(" → CoreSoFar blamed us ls 0 ks line true
core_start blamed us ls ks i line all holds says = record {
  others = blamed;
  holds = λ q. holds q ∙ ap (list_any (same_term q)) (take_all i blamed (omega (arith, all)));
  done = [];
  is = refl;
  says = says ∙ sym (append-nil (codes "("));
  none = refl;
}

is_none_more : (ls : List Literal) (l : Literal) → is_none (ls ++ l ∷ []) ≡ false
is_none_more [] l = refl
is_none_more (x ∷ ls) l = refl

module _ (blamed us : List Term) (ls : List Literal) (i : ℕ) (ks vs : List Term) (line : List ℕ) (first : Bool) (d : Term) (e : Literal) (so : CoreSoFar blamed us ls i ks line first) (here : i < length us) (there : i < length ls) where
  abbrev rest : List Term → List Literal
  rest ts = blamed_literals ts (drop (i + 1) us) (drop (i + 1) ls)

  next : blamed_literals so.others (drop i us) (drop i ls) ≡ (if list_any (same_term (get_or us i d)) so.others then get_or ls i e ∷ rest (without (get_or us i d) so.others) else rest so.others)
  next = ap (λ xs. blamed_literals so.others xs (drop i ls)) (drop_more us i d here) ∙ ap (λ ys. blamed_literals so.others (get_or us i d ∷ drop (i + 1) us) ys) (drop_more ls i e there)

  -- the term is blamed
  pub core_more : list_any (term.eq-value.it (get_or us i d)) ks ≡ true → ((q : Term) → list_any (term.eq-value.it q) vs ≡ cond (term.eq-value.it (get_or us i d) q) false (list_any (term.eq-value.it q) ks)) → (text : List ℕ)
      → text ≡ line ++ spaced first (literal_text (get_or ls i e)) → CoreSoFar blamed us ls (i + 1) vs text false
  core_more found updates text written = record {
    others = without (get_or us i d) so.others;
    holds = holds_less ks vs so.others (get_or us i d) so.holds updates;
    done = so.done ++ get_or ls i e ∷ [];
    is = so.is ∙ ap (λ xs. so.done ++ xs) (next ∙ ap (λ b. if b then get_or ls i e ∷ rest (without (get_or us i d) so.others) else rest so.others) (sym (so.holds (get_or us i d)) ∙ found))
        ∙ sym (append_assoc so.done (get_or ls i e ∷ []) (rest (without (get_or us i d) so.others)));
    says = written ∙ ap (λ x. x ++ spaced first (literal_text (get_or ls i e))) so.says ∙ append_assoc (codes "(") (literals_text so.done) (spaced first (literal_text (get_or ls i e)))
        ∙ ap (λ b. codes "(" ++ (literals_text so.done ++ spaced b (literal_text (get_or ls i e)))) so.none ∙ ap (λ x. codes "(" ++ x) (sym (literals_more so.done (get_or ls i e)));
    none = sym (is_none_more so.done (get_or ls i e));
  }

  -- it is not
  pub core_passes : list_any (term.eq-value.it (get_or us i d)) ks ≡ false → vs ≡ ks → CoreSoFar blamed us ls (i + 1) vs line first
  core_passes missing same = record {
    others = so.others;
    holds = λ q. ap (list_any (term.eq-value.it q)) same ∙ so.holds q;
    done = so.done;
    is = so.is ∙ ap (λ xs. so.done ++ xs) (next ∙ ap (λ b. if b then get_or ls i e ∷ rest (without (get_or us i d) so.others) else rest so.others) (sym (so.holds (get_or us i d)) ∙ missing));
    says = so.says;
    none = so.none;
  }

-- the literal at a place of the code's list
pub literal_at : (ls : List LitExpr) (i : ℕ) (x : LitExpr) (e : Literal) → i < length ls → x ≡ get_or ls i x → get_or (map literal_of (map plain_literal ls)) i e ≡ literal_of (plain_literal x)
literal_at ls i x e below is =
    get_or-map literal_of (map plain_literal ls) i (plain_literal x) e (omega (arith, below, map_length plain_literal ls)) ∙ ap literal_of (get_or-map plain_literal ls i x (plain_literal x) below) ∙ ap (λ y. literal_of (plain_literal y)) (sym is)

pub literals_count : (ls : List LitExpr) → length (map literal_of (map plain_literal ls)) ≡ length ls
literals_count ls = map_length literal_of (map plain_literal ls) ∙ map_length plain_literal ls

-- the whole line
pub core_all : (blamed us : List Term) (ls : List Literal) (i : ℕ) (ks : List Term) (line text : List ℕ) (first : Bool) → CoreSoFar blamed us ls i ks line first → length us ≤ i → text ≡ line ++ codes ")\n"
    → (as_ : List Assumed) → literals_of as_ ≡ ls → assumed_terms as_ ≡ us → text ≡ core_text (Some (record { terms = blamed; written = literals_of (blamed_among blamed as_) }))
core_all blamed us ls i ks line text first so past written as_ same_literals same_terms =
    let none_left : blamed_literals so.others (drop i us) (drop i ls) ≡ [] = ap (λ xs. blamed_literals so.others xs (drop i ls)) (drop_all i us past) in
    let whole : blamed_literals blamed us ls ≡ so.done = so.is ∙ ap (λ xs. so.done ++ xs) none_left ∙ append-nil so.done in
    let all : literals_of (blamed_among blamed as_) ≡ so.done = blamed_is blamed as_ ∙ ap (λ xs. blamed_literals blamed xs (literals_of as_)) same_terms ∙ ap (λ ys. blamed_literals blamed us ys) same_literals ∙ whole in
    written ∙ ap (λ x. x ++ codes ")\n") so.says ∙ ap (λ xs. codes "(" ++ literals_text xs ++ codes ")\n") (sym all)
