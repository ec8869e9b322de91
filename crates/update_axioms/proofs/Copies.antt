-- Values of the code one by one, and the last of some entries.
use Rattle.std.proofs.Common.{◌≡◌, ◌≢◌, ◌+◌, ◌-◌, ℕ, zero, suc, true, false, List, [], ◌∷◌, Option, Some, map, length, get_or, refl, sym, ap, subst, arith}
use Rattle.std.specs.declared.cmp.Ordering.TheVariants.{Equal}
use Rattle.std.proofs.lemmas.Option.{slice_get_read}
use Rattle.std.specs.Prelude.{slice_get, ◌==◌}
use Rattle.y_tree.specs.declared.values.Entry.{Entry}
use Rattle.y_tree.specs.Values.{equal}
use Rattle.y_tree.specs.Order.{order_keys}
use Rattle.y_tree.specs.Plain.{plain_entry}
use Rattle.y_tree.proofs.Equality.{equal_same}
use Rattle.y_tree.proofs.Ordering.{keys_law}
use Rattle.update_axioms.specs.declared.tabling.Step.TheVariants.{Behind, Again, Differs}
use Rattle.update_axioms.specs.Tables.{Point}
use Rattle.update_axioms.specs.Tabling.{last_of, IsStep}

last_item : (xs : List Entry) (i : ℕ) (x : Entry) → i + 1 ≡ length xs → slice_get xs i ≡ Some x → last_of (map plain_entry xs) ≡ Some (plain_entry x)
last_item [] i x e h = absurd cc
last_item (y ∷ []) zero x e h = let same : y ≡ x = cc in ap (λ z. Some (plain_entry z)) same
last_item (y ∷ []) (suc i) x e h = absurd cc
last_item (y ∷ z ∷ xs) zero x e h = absurd (omega arith)
last_item (y ∷ z ∷ xs) (suc i) x e h = last_item (z ∷ xs) i x (omega arith) h

-- the entry at the last place is the last
pub last_is : (xs : List Entry) (i : ℕ) (x : Entry) → i + 1 ≡ length xs → x ≡ get_or xs i x → last_of (map plain_entry xs) ≡ Some (plain_entry x)
last_is xs i x e h = last_item xs i x e (slice_get_read xs (length xs) i x refl (omega arith) h)

pub step_first : (xs : List Entry) (p : Point) → xs ≡ [] → IsStep Behind (last_of (map plain_entry xs)) p
step_first xs p e = subst (λ ys. IsStep Behind (last_of (map plain_entry ys)) p) (sym e) tt

pub step_again : (o : Option Point) (q p : Point) → o ≡ Some q → order_keys q.0 p.0 ≡ Equal → equal q.1 p.1 ≡ true → IsStep Again o p
step_again o q p e k v = subst (λ x. IsStep Again x p) (sym e) ((keys_law.1 q.0 p.0).0 k, equal_same q.1 p.1 v)

pub step_differs : (o : Option Point) (q p : Point) → o ≡ Some q → order_keys q.0 p.0 ≡ Equal → equal q.1 p.1 ≡ false → IsStep Differs o p
step_differs o q p e k v = subst (λ x. IsStep Differs x p) (sym e) ((keys_law.1 q.0 p.0).0 k, v)

pub step_behind : (o : Option Point) (q p : Point) → o ≡ Some q → order_keys q.0 p.0 ≢ Equal → IsStep Behind o p
step_behind o q p e k = subst (λ x. IsStep Behind x p) (sym e) k

-- a list with items has a last place
pub not_empty : {A : Type 0} (xs : List A) → false ≡ (length xs == 0) → length xs - 1 + 1 ≡ length xs
not_empty [] h = absurd cc
not_empty (x ∷ xs) h = omega arith
