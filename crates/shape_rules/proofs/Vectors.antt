-- Rows of operators on bit-vectors want bit-vectors.
use Rattle.std.proofs.Common.{◌≡◌, ℕ, zero, suc, [], ◌∷◌, Some, sym}
use Rattle.std.specs.Prelude.{slice_get}
use Rattle.std.proofs.lemmas.Option.{same_Some}
use Rattle.y_tree.specs.Typing.{BvForm, one, two, test, some, joined}
use Rattle.y_tree.specs.Misfits.{Wanted, a_bit_vector, bv_row}
use Rattle.y_tree.specs.Laws.{wanted_behind}

-- items of short lists
pub only_one : {X : Type 0} (x y : X) (i : ℕ) → slice_get (x ∷ []) i ≡ Some y → y ≡ x
only_one x y zero h = sym (same_Some x y h)
only_one x y (suc i) h = absurd (cc h)

pub one_of_two : {X : Type 0} (x y : X) (i : ℕ) → slice_get (x ∷ x ∷ []) i ≡ Some y → y ≡ x
one_of_two x y zero h = sym (same_Some x y h)
one_of_two x y (suc i) h = only_one x y i h

pub wants_vectors : (f : BvForm) (v : Wanted) (i : ℕ) → wanted_behind (bv_row f) i ≡ Some v → v ≡ a_bit_vector
wants_vectors one v i h = only_one a_bit_vector v i h
wants_vectors two v i h = one_of_two a_bit_vector v i h
wants_vectors test v i h = one_of_two a_bit_vector v i h
wants_vectors some v i h = sym (same_Some a_bit_vector v h)
wants_vectors joined v i h = sym (same_Some a_bit_vector v h)
