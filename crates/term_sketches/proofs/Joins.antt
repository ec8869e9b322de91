-- A conjunction or a disjunction of literals stays what it is where literals are put in order, repeated ones and neutral ones are dropped. One that makes the others useless decides it, and so do two that are opposite.
use Rattle.std.proofs.Common.{◌≡◌, ◌∙◌, ℕ, Bool, true, false, List, [], ◌∷◌, refl, sym, ap, if◌then◌else◌, cond, arith}
use Rattle.std.specs.declared.cmp.Ordering.{Ordering}
use Rattle.std.specs.declared.cmp.Ordering.TheVariants.{Less, Equal, Greater}
use Rattle.std.specs.Ordering.{match_ordering, is_eq, nat_cmp, bool_cmp, ordering_then}
use Rattle.std.specs.List.{list_any}
use Rattle.std.specs.BTreeSet.{insert_key}
use Rattle.std.specs.Set.{remove_key}
use Rattle.term_shapes.specs.declared.handles.Term.{Term}
use Rattle.term_sketches.specs.declared.items.Literal.{Literal}
use Rattle.term_sketches.specs.Sketches.{term_order, literal_order, same_term, same_literal, gathered, odd_atoms}
use Rattle.term_sketches.proofs.Gates.{gate, gate_all, gate_swap, gate_twice}

-- each of the list has it
abbrev pub Each : {X : Type 0} → (X → Type 0) → List X → Type 0
Each P [] = Unit {0}
Each P (x ∷ xs) = P x × Each P xs

nat_same : (m n : ℕ) → is_eq (nat_cmp m n) ≡ true → m ≡ n
nat_same m n h = grind (arith, h)

bool_same : (a b : Bool) → is_eq (bool_cmp a b) ≡ true → a ≡ b
bool_same true true h = refl
bool_same true false h = absurd (cc h)
bool_same false true h = absurd (cc h)
bool_same false false h = refl

both_equal : (o p : Ordering) → is_eq (ordering_then o p) ≡ true → (is_eq o ≡ true) × (is_eq p ≡ true)
both_equal Less p h = absurd (cc h)
both_equal Equal p h = (refl, h)
both_equal Greater p h = absurd (cc h)

pub term_same : (t u : Term) → same_term t u ≡ true → t ≡ u
term_same t u h =
    let p = both_equal (nat_cmp t.slot u.slot) (nat_cmp t.stamp u.stamp) h in
    ap (λ n. record { slot = n; stamp = t.stamp }) (nat_same t.slot u.slot p.0) ∙ ap (λ n. record { slot = u.slot; stamp = n }) (nat_same t.stamp u.stamp p.1)

pub literal_same : (l m : Literal) → same_literal l m ≡ true → l ≡ m
literal_same l m h =
    let p = both_equal (term_order l.atom m.atom) (bool_cmp l.negated m.negated) h in
    ap (λ t. record { atom = t; negated = l.negated }) (term_same l.atom m.atom p.0) ∙ ap (λ b. record { atom = m.atom; negated = b }) (bool_same l.negated m.negated p.1)

module _ {X : Type 0} (cmp : X → X → Ordering) (same : (x y : X) → is_eq (cmp x y) ≡ true → x ≡ y) where
  pub gate_inserted : (b : Bool) (m : X → Bool) (x : X) (xs : List X) → gate_all b m (insert_key cmp xs x) ≡ gate b (m x) (gate_all b m xs)
  gate_inserted b m x [] = refl
  gate_inserted b m x (y ∷ ys) =
      let go : (o : Ordering) → cmp x y ≡ o → gate_all b m (match_ordering o (x ∷ y ∷ ys) (y ∷ ys) (y ∷ insert_key cmp ys x)) ≡ gate b (m x) (gate b (m y) (gate_all b m ys)) =
      λ o. elim o as (λ o. cmp x y ≡ o → gate_all b m (match_ordering o (x ∷ y ∷ ys) (y ∷ ys) (y ∷ insert_key cmp ys x)) ≡ gate b (m x) (gate b (m y) (gate_all b m ys))) [
        | Less ↦ λ e. refl
        | Equal ↦ λ e. sym (ap (λ z. gate b (m z) (gate b (m y) (gate_all b m ys))) (same x y (ap is_eq e)) ∙ gate_twice b (m y) (gate_all b m ys))
        | Greater ↦ λ e. ap (gate b (m y)) (gate_inserted b m x ys) ∙ gate_swap b (m y) (m x) (gate_all b m ys)
      ]
      in go (cmp x y) refl

  pub each_inserted : (P : X → Type 0) (x : X) (xs : List X) → P x → Each P xs → Each P (insert_key cmp xs x)
  each_inserted P x [] p ps = (p, tt)
  each_inserted P x (y ∷ ys) p ps =
      elim (cmp x y) as (λ o. Each P (match_ordering o (x ∷ y ∷ ys) (y ∷ ys) (y ∷ insert_key cmp ys x)))
      [ Less ↦ (p, ps) | Equal ↦ ps | Greater ↦ (ps.0, each_inserted P x ys p ps.1) ]

pub each_gathered : (P : Literal → Type 0) (u : Literal) (ls : List Literal) → Each P ls → Each P (gathered u ls)
each_gathered P u [] p = tt
each_gathered P u (l ∷ ls) p =
    elim (same_literal l u) as (λ t. Each P (if t then gathered u ls else insert_key literal_order (gathered u ls) l))
    [ true ↦ each_gathered P u ls p.1 | false ↦ each_inserted literal_order literal_same P l (gathered u ls) p.0 (each_gathered P u ls p.1) ]

pub each_removed : (P : Term → Type 0) (p : Term → Bool) (ts : List Term) → Each P ts → Each P (remove_key p ts)
each_removed P p [] h = tt
each_removed P p (u ∷ us) h = elim (p u) as (λ b. Each P (cond b us (u ∷ remove_key p us))) [ true ↦ h.1 | false ↦ (h.0, each_removed P p us h.1) ]

pub each_odd : (P : Term → Type 0) (ls : List Literal) → Each (λ l. P l.atom) ls → Each P (odd_atoms ls)
each_odd P [] h = tt
each_odd P (l ∷ ls) h =
    elim (list_any (same_term l.atom) (odd_atoms ls)) as (λ b. Each P (if b then remove_key (same_term l.atom) (odd_atoms ls) else insert_key term_order (odd_atoms ls) l.atom)) [
      | true ↦ each_removed P (same_term l.atom) (odd_atoms ls) (each_odd P ls h.1)
      | false ↦ each_inserted term_order term_same P l.atom (odd_atoms ls) h.0 (each_odd P ls h.1)
    ]
