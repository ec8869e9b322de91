-- What an operator's type says of the types of its arguments.
use Rattle.std.proofs.Common.{◌≡◌, ◌∙◌, Bool, true, false, List, [], ◌∷◌, Some, length, refl, sym, ap}
use Rattle.std.specs.Prelude.{nat_lt}
use Rattle.std.specs.List.{list_all}
use Rattle.std.proofs.lemmas.Bool.{and_parts}
use Rattle.y_tree.specs.Sorts.{Sort, boolean, sorts, same_sort, same_sorts}
use Rattle.y_tree.specs.Typing.{only_if, are, are_some}
use Rattle.y_tree.specs.Laws.{SameSortIsEqual}
use Rattle.term_shapes.specs.declared.handles.Term.{Term}
use Rattle.term_sketches.specs.declared.items.Literal.{Literal}
use Rattle.term_sketches.specs.Valuing.{HaveTypes}
use Rattle.term_sketches.proofs.Joins.{Each}

pub only_where : (b : Bool) (r s : Sort) → only_if b r ≡ Some s → b ≡ true
only_where true r s h = refl
only_where false r s h = absurd (cc h)

pub some_all : (ks : List Sort) (s : Sort) → only_if (are_some boolean ks) boolean ≡ Some s → list_all (same_sort boolean) ks ≡ true
some_all ks s h = (and_parts (nat_lt 0 (length ks)) (list_all (same_sort boolean) ks) (only_where (are_some boolean ks) boolean s h)).1

are_one : (law : SameSortIsEqual) (ks : List Sort) (r : Sort) → are ks (r ∷ []) ≡ true → ks ≡ r ∷ []
unfolding same_sort
are_one law [] r h = absurd (cc h)
are_one law (a ∷ []) r h = ap (λ x. x ∷ []) ((law a r).0 (and_parts (same_sort a r) true h).0)
are_one law (a ∷ b ∷ ks) r h = absurd (cc ((and_parts (same_sort a r) false h).1))

are_two : (law : SameSortIsEqual) (ks : List Sort) (r q : Sort) → are ks (r ∷ q ∷ []) ≡ true → ks ≡ r ∷ q ∷ []
unfolding same_sort
are_two law [] r q h = absurd (cc h)
are_two law (a ∷ ks) r q h =
    let p = and_parts (same_sort a r) (same_sorts (sorts ks) (sorts (q ∷ []))) h in
    ap (λ x. x ∷ ks) ((law a r).0 p.0) ∙ ap (λ xs. r ∷ xs) (are_one law ks q p.1)

pub typed_one : (law : SameSortIsEqual) (ks : List Sort) (s : Sort) → only_if (are ks (boolean ∷ [])) boolean ≡ Some s → ks ≡ boolean ∷ []
typed_one law ks s h = are_one law ks boolean (only_where (are ks (boolean ∷ [])) boolean s h)

pub typed_two : (law : SameSortIsEqual) (ks : List Sort) (s : Sort) → only_if (are ks (boolean ∷ boolean ∷ [])) boolean ≡ Some s → ks ≡ boolean ∷ boolean ∷ []
typed_two law ks s h = are_two law ks boolean boolean (only_where (are ks (boolean ∷ boolean ∷ [])) boolean s h)

module _ (k : Term → Sort) (law : SameSortIsEqual) (r : Sort) where
  -- the literal has the type
  abbrev pub IsTyped : Literal → Type 0
  IsTyped l = (k l.atom ≡ r) × (l.negated ≡ true → r ≡ boolean)

  pub each_typed : (ls : List Literal) (ks : List Sort) → list_all (same_sort r) ks ≡ true → HaveTypes k ls ks → Each IsTyped ls
  each_typed [] [] h t = tt
  each_typed [] (s ∷ ks) h t = absurd t
  each_typed (l ∷ ls) [] h t = absurd t
  each_typed (l ∷ ls) (s ∷ ks) h t =
      let p = and_parts (same_sort r s) (list_all (same_sort r) ks) h in
      let e : s ≡ r = sym ((law r s).0 p.0) in
      ((t.0 ∙ e, λ n. sym e ∙ t.1 n), each_typed ls ks p.1 t.2)
