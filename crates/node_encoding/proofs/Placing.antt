-- Literals that are read at places, and numbers that differ.
use Rattle.std.proofs.Common.{◌≡◌, ◌∙◌, ◌+◌, ◌<◌, ◌++◌, ◌||◌, cond, ℕ, zero, suc, Bool, true, false, not, List, [], ◌∷◌, Option, Some, None, ◌⊎◌, ⊎_elim, length, map, take, get_or, refl, sym, ap, subst, arith}
use Rattle.std.specs.Prelude.{slice_get, unwrap_or, nat_eq}
use Rattle.std.specs.List.{list_any}
use Rattle.std.specs.Map.{lookup}
use Rattle.std.proofs.lemmas.Bool.{eq-eqb, eqb-true, eqb-false}
use Rattle.std.proofs.lemmas.List.{map-append}
use Rattle.std.proofs.lemmas.Option.{same_Some}
use Rattle.indexmap.specs.IndexSet.{insert_key}
use Rattle.clause_logic.specs.declared.Lit.{Lit}
use Rattle.clause_logic.specs.Clauses.{opposite}
use Rattle.node_encoding.specs.declared.Node.{Node}
use Rattle.node_encoding.specs.declared.Node.TheVariants as node_of
use Rattle.node_encoding.specs.declared.NodeLit.{NodeLit}
use Rattle.node_encoding.specs.Nodes.{number_of}
use Rattle.node_encoding.specs.Shapes.{true_at}
use Rattle.node_encoding.specs.Gates.{Differ}
use Rattle.node_encoding.specs.Encoding.{lit_at, turned, Found, AreConstants}
use Rattle.node_encoding.proofs.Gets.{get_mapped, push_cases, push_old, push_here}
use Rattle.node_encoding.proofs.Combining.{take_next}

-- what a list has where it ends
abbrev pub no_node_lit : NodeLit
no_node_lit = record { node = 0; positive = false }

pub read_lit : (lits : List Lit) (p : ℕ) (d : Lit) → p < length lits → get_or lits p d ≡ lit_at lits p
read_lit lits p d h = read lits p d (true_at p) h
  where
    read : (ls : List Lit) (p : ℕ) (d e : Lit) → p < length ls → get_or ls p d ≡ unwrap_or (slice_get ls p) e
    read [] p d e h = absurd (omega (arith, h))
    read (l ∷ ls) zero d e h = refl
    read (l ∷ ls) (suc p) d e h = read ls p d e (omega (arith, h))

pub slice_get_here : {X : Type 0} (xs : List X) (i : ℕ) (d : X) → i < length xs → slice_get xs i ≡ Some (get_or xs i d)
slice_get_here [] i d h = absurd (omega (arith, h))
slice_get_here (x ∷ xs) zero d h = refl
slice_get_here (x ∷ xs) (suc i) d h = slice_get_here xs i d (omega (arith, h))

pub turned_is : (b : Bool) (l m : Lit) → b ≡ true → m ≡ l → turned b l ≡ m
turned_is true l m e f = sym f
turned_is false l m e f = absurd (cc e)

pub turned_is_not : (b : Bool) (l m : Lit) → b ≡ false → m ≡ opposite l → turned b l ≡ m
turned_is_not true l m e f = absurd (cc e)
turned_is_not false l m e f = sym f

not_true : (b : Bool) → not b ≡ true → b ≡ false
not_true true e = absurd (cc e)
not_true false e = refl

-- a number that is found nowhere stands nowhere
absent : (ks : List ℕ) (x j : ℕ) → list_any (nat_eq x) ks ≡ false → slice_get ks j ≡ Some x → ⊥
absent [] x j e h = cc h
absent (k ∷ ks) x zero e h = front (nat_eq x k) _ (eq-eqb x k (sym (same_Some k x h))) e
  where
    front : (t r : Bool) → t ≡ true → (t || r) ≡ false → ⊥
    front true r f g = cc g
    front false r f g = cc f
absent (k ∷ ks) x (suc j) e h = absent ks x j (behind (nat_eq x k) _ e) h
  where
    behind : (t r : Bool) → (t || r) ≡ false → r ≡ false
    behind true r f = absurd (cc f)
    behind false r f = f

-- different numbers, and one that is none of them
differ_push : (ks : List ℕ) (x : ℕ) → Differ ks → list_any (nat_eq x) ks ≡ false → Differ (ks ++ x ∷ [])
differ_push ks x differ none i j l g h =
    ⊎_elim
    (λ p. ⊎_elim (λ q. p.0 ∙ sym q.0) (λ old. absurd (other l j p.1 old)) (cases j h))
    (λ old. ⊎_elim (λ q. absurd (other l i q.1 old)) (λ late. differ i j l old late) (cases j h))
    (cases i g)
  where
    cases : (k : ℕ) → slice_get (map true_at (ks ++ x ∷ [])) k ≡ Some l → ((k ≡ length (map true_at ks)) × (true_at x ≡ l)) ⊎ (slice_get (map true_at ks) k ≡ Some l)
    cases k e = push_cases (map true_at ks) (true_at x) l k (ap (λ w. slice_get w k) (sym (map-append true_at ks (x ∷ []))) ∙ e)

    other : (l : Lit) (k : ℕ) → true_at x ≡ l → slice_get (map true_at ks) k ≡ Some l → ⊥
    other l k is e = let one = get_mapped true_at ks k l e in absent ks x k none (one.1 ∙ ap (λ (w : Lit). Some w.var) (one.2 ∙ sym is))

-- numbers that were seen, and one more
pub seen_more : (args keys : List ℕ) (i x : ℕ) → keys ≡ take i args → Differ (take i args) → slice_get args i ≡ Some x → not (list_any (nat_eq x) keys) ≡ true
    → (insert_key nat_eq keys x ≡ take (i + 1) args) × Differ (take (i + 1) args)
seen_more args keys i x same differ here new =
    let none : list_any (nat_eq x) keys ≡ false = not_true (list_any (nat_eq x) keys) new in
    let more : take i args ++ x ∷ [] ≡ take (i + 1) args = sym (take_next args i x here) in (
      ap (λ b. cond {A = List ℕ} b keys (keys ++ x ∷ [])) none ∙ ap (λ w. w ++ x ∷ []) same ∙ more,
      subst Differ more (differ_push (take i args) x differ (ap (list_any (nat_eq x)) (sym same) ∙ none)),
    )

pub seen_none : (args : List ℕ) → Differ (take 0 args)
seen_none args i j l g h = absurd (cc g)

module _ (nodes : List Node) (lits : List Lit) (l : Lit) (k : ℕ) (at : k ≡ length lits) (table : List (ℕ × Lit)) (known : AreConstants nodes lits table) where
  found_kept : (number : ℕ) (o : Option Lit) → Found nodes lits number o → (slice_get nodes k ≡ Some (node_of.Const number) → ⊥) → Found nodes (lits ++ l ∷ []) number o
  found_kept number None none other = λ j m h g. ⊎_elim (λ q. other (ap (slice_get nodes) (at ∙ sym q.0) ∙ h)) (λ old. none j m h old) (push_cases lits l m j g)
  found_kept number (Some m) (j, here, has) other = (j, here, push_old lits l m j has)

  -- a node that is no constant
  pub constants_other : (n : Node) → slice_get nodes k ≡ Some n → ((number : ℕ) → n ≡ node_of.Const number → ⊥) → AreConstants nodes (lits ++ l ∷ []) table
  constants_other n here other = λ number. found_kept number (lookup (nat_eq number) table) (known number) (λ h. other number (same_Some n (node_of.Const number) (sym here ∙ h)))

  -- a constant, with its literal
  pub constants_one : (new : List (ℕ × Lit)) (number : ℕ) → slice_get nodes k ≡ Some (node_of.Const number)
      → ((q : ℕ) → lookup (nat_eq q) new ≡ cond {A = Option Lit} (nat_eq number q) (Some l) (lookup (nat_eq q) table)) → AreConstants nodes (lits ++ l ∷ []) new
  constants_one new number here updates q = subst (Found nodes (lits ++ l ∷ []) q) (sym (updates q)) (pick (nat_eq number q) refl)
    where
      pick : (t : Bool) → nat_eq number q ≡ t → Found nodes (lits ++ l ∷ []) q (cond {A = Option Lit} t (Some l) (lookup (nat_eq q) table))
      pick true e = (k, here ∙ ap (λ m. Some (node_of.Const m)) (eqb-true number q e), ap (slice_get (lits ++ l ∷ [])) at ∙ push_here lits l)
      pick false e = found_kept q (lookup (nat_eq q) table) (known q) (λ h. eqb-false number q e (same_Some number q (ap number_of (sym here ∙ h))))

pub constants_none : (nodes : List Node) → AreConstants nodes [] []
constants_none nodes number = λ k l h g. absurd (cc g)

pub read_name : (names : List ℕ) (v : ℕ) → v < length names → get_or names v 0 ≡ unwrap_or (slice_get names v) 0
read_name [] v h = absurd (omega (arith, h))
read_name (n ∷ names) zero h = refl
read_name (n ∷ names) (suc v) h = read_name names v (omega (arith, h))
