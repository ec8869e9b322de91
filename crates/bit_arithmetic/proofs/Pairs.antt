-- Two words of one width fit all operators but three.
use Rattle.std.proofs.Common.{◌≡◌, ◌∙◌, ℕ, Bool, true, false, ◌&&◌, List, [], ◌∷◌, Option, Some, None, map, refl, sym, ap}
use Rattle.std.specs.Prelude.{◌==◌}
use Rattle.std.specs.Cmp.{unsigned_Decides}
use Rattle.std.proofs.lemmas.Bool.{false≢true}
use Rattle.y_tree.specs.declared.BvOp.{BvOp}
use Rattle.y_tree.specs.declared.BvOp.TheVariants as bv
use Rattle.y_tree.specs.Sorts.{Sort, boolean, bit_vector}
use Rattle.y_tree.specs.Tree as tree
use Rattle.y_tree.specs.Typing.{BvForm, form_of, only_if, typed_form}
use Rattle.y_tree.specs.Typing as form
use Rattle.y_tree.proofs.Fits.{fits_are_typed}
use Rattle.bit_arithmetic.specs.declared.words.Word.{Word}
use Rattle.bit_arithmetic.proofs.Rows.{Takes}

-- the form takes two bit-vectors of one width
abbrev takes_even_pair : BvForm → Bool
takes_even_pair form.one = false
takes_even_pair form.two = true
takes_even_pair form.test = true
takes_even_pair form.some = true
takes_even_pair form.joined = false

typed_pair : (f : BvForm) (m n : ℕ) → m ≡ n → takes_even_pair f ≡ true → (s : Sort) × (typed_form f (m ∷ n ∷ []) ≡ Some s)
typed_pair form.one m n e h = absurd (false≢true h)
typed_pair form.joined m n e h = absurd (false≢true h)
typed_pair form.two m n e h = (bit_vector m, ap (λ (b : Bool). only_if b (bit_vector m)) ((unsigned_Decides m n).1 e))
typed_pair form.test m n e h = (boolean, ap (λ (b : Bool). only_if b boolean) ((unsigned_Decides m n).1 e))
typed_pair form.some m n e h = (bit_vector m, ap (λ (b : Bool). only_if (b && true) (bit_vector m)) ((unsigned_Decides n m).1 (sym e)))

others_even : (op : BvOp) → (op ≡ bv.Neg → ⊥) → (op ≡ bv.Not → ⊥) → (op ≡ bv.Concat → ⊥) → takes_even_pair (form_of op) ≡ true
others_even bv.Neg n i j = absurd (n refl)
others_even bv.Not n i j = absurd (i refl)
others_even bv.Concat n i j = absurd (j refl)
others_even op n i j = refl

pub takes_pair_of : (op : BvOp) (v w : Word) → v.width ≡ w.width → (op ≡ bv.Neg → ⊥) → (op ≡ bv.Not → ⊥) → (op ≡ bv.Concat → ⊥) → Takes op (v ∷ w ∷ [])
takes_pair_of op v w e n i j =
    (fits_are_typed (tree.bit_vector op) (bit_vector v.width ∷ bit_vector w.width ∷ []) refl).1 (typed_pair (form_of op) v.width w.width e (others_even op n i j))
