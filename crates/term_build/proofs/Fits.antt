-- The shapes of a sketch's terms have types.
use Rattle.std.proofs.Common.{◌≡◌, Bool, true, false, List, [], ◌∷◌, length, Some, refl, sym, ap, subst, arith}
use Rattle.std.specs.List.{list_all}
use Rattle.std.proofs.lemmas.Bool.{lt-ltb, and_from}
use Rattle.y_tree.specs.Sorts.{Sort, boolean, same_sort}
use Rattle.y_tree.specs.Typing.{only_if, are_some}
use Rattle.y_tree.specs.Laws.{SameSortIsEqual}
use Rattle.term_shapes.specs.declared.handles.Term.{Term}
use Rattle.term_shapes.specs.declared.handles.TypeId.{TypeId}
use Rattle.term_shapes.specs.declared.shapes.Shape.{Shape}
use Rattle.term_shapes.specs.declared.shapes.Shape.TheVariants as shape
use Rattle.term_table.specs.World.{World, HasShape, KeepsType, IsTable}
use Rattle.term_table.specs.Checking.{HasSort, HaveSorts, IsShape}
use Rattle.term_sketches.specs.declared.items.Literal.{Literal}
use Rattle.term_sketches.specs.Sketches.{the_truth, same_term}
use Rattle.term_sketches.specs.Valuing.{IsFilled}
use Rattle.term_build.specs.Building.{IsSigned, IsLiteral, AreLiterals, IsReadyLiteral, IsLiteralOf, AllAreOf, AllHaveSort}
use Rattle.term_build.proofs.Growing.{IsWider, not_is_shape, sort_stays, sorted_lives}
use Rattle.term_build.proofs.Kept.{shape_sort}

-- the shape has the type of truth values
abbrev pub IsTruthShape : World → Shape → Type 0
IsTruthShape w s = (of : TypeId) × IsShape w s of × KeepsType w of boolean

-- the first type
the_bool : TypeId
the_bool = record { slot = 0; stamp = 0 }

bool_kept : (w : World) → IsTable w → KeepsType w the_bool boolean
unfolding KeepsType the_bool
bool_kept w table = table.permanents.bool

like : Sort → List Term → List Sort
like s [] = []
like s (t ∷ ts) = s ∷ like s ts

all_sorts : (w : World) (s : Sort) (ts : List Term) → AllHaveSort w s ts → HaveSorts w ts (like s ts)
unfolding like
all_sorts w s [] h = tt
all_sorts w s (t ∷ ts) h = (h.0, all_sorts w s ts h.1)

all_like : (s : Sort) → same_sort s s ≡ true → (ts : List Term) → list_all (same_sort s) (like s ts) ≡ true
unfolding like
all_like s e [] = refl
all_like s e (t ∷ ts) = and_from _ _ e (all_like s e ts)

same_boolean : same_sort boolean boolean ≡ true
unfolding same_sort
same_boolean = refl

some_like : (t : Term) (ts : List Term) → are_some boolean (like boolean (t ∷ ts)) ≡ true
unfolding like
some_like t ts = and_from _ _ (lt-ltb 0 (length (like boolean (t ∷ ts))) (omega arith)) (all_like boolean same_boolean (t ∷ ts))

taken_some : (t : Term) (ts : List Term) → only_if (are_some boolean (like boolean (t ∷ ts))) boolean ≡ Some boolean
taken_some t ts = ap (λ b. only_if b boolean) (some_like t ts)

pub and_shape : (w : World) → IsTable w → (ts : List Term) → IsFilled ts → AllHaveSort w boolean ts → IsTruthShape w (shape.And ts)
and_shape w table [] f h = absurd f
and_shape w table (t ∷ ts) f h =
    (the_bool, record { operates = tt; sorts = like boolean (t ∷ ts); have = all_sorts w boolean (t ∷ ts) h; result = boolean; takes = taken_some t ts; gives = bool_kept w table }, bool_kept w table)

pub or_shape : (w : World) → IsTable w → (ts : List Term) → IsFilled ts → AllHaveSort w boolean ts → IsTruthShape w (shape.Or ts)
or_shape w table [] f h = absurd f
or_shape w table (t ∷ ts) f h =
    (the_bool, record { operates = tt; sorts = like boolean (t ∷ ts); have = all_sorts w boolean (t ∷ ts) h; result = boolean; takes = taken_some t ts; gives = bool_kept w table }, bool_kept w table)

pub xor_shape : (w : World) → IsTable w → (ts : List Term) → IsFilled ts → AllHaveSort w boolean ts → IsTruthShape w (shape.Xor ts)
xor_shape w table [] f h = absurd f
xor_shape w table (t ∷ ts) f h =
    (the_bool, record { operates = tt; sorts = like boolean (t ∷ ts); have = all_sorts w boolean (t ∷ ts) h; result = boolean; takes = taken_some t ts; gives = bool_kept w table }, bool_kept w table)

pub eq_shape : (law : SameSortIsEqual) (w : World) → IsTable w → (t u : Term) (s : Sort) → HasSort w t s → HasSort w u s → IsTruthShape w (shape.Eq t u)
eq_shape law w table t u s h g =
    (the_bool, record { operates = tt; sorts = s ∷ s ∷ []; have = (h, (g, tt)); result = boolean; takes = ap (λ b. only_if b boolean) ((law s s).1 refl); gives = bool_kept w table }, bool_kept w table)

pub distinct_truth : (law : SameSortIsEqual) (w : World) → IsTable w → (ts : List Term) (s : Sort) → IsFilled ts → AllHaveSort w s ts → IsTruthShape w (shape.Distinct ts)
unfolding like
distinct_truth law w table [] s f h = absurd f
distinct_truth law w table (t ∷ ts) s f h =
    (the_bool, record { operates = tt; sorts = like s (t ∷ ts); have = all_sorts w s (t ∷ ts) h; result = boolean; takes = ap (λ b. only_if b boolean) (all_like s ((law s s).1 refl) ts); gives = bool_kept w table }, bool_kept w table)

pub distinct_shape : (law : SameSortIsEqual) (w : World) → IsTable w → (ts : List Term) (s : Sort) → IsFilled ts → AllHaveSort w s ts → (of : TypeId) × IsShape w (shape.Distinct ts) of
distinct_shape law w table ts s f h = let p = distinct_truth law w table ts s f h in (p.0, p.1)

pub ite_typed : (law : SameSortIsEqual) (w : World) (c t u : Term) (s : Sort) → HasSort w c boolean → HasSort w t s → HasSort w u s → (of : TypeId) × IsShape w (shape.Ite c t u) of × KeepsType w of s
ite_typed law w c t u s hc h g =
    (h.0, record { operates = tt; sorts = boolean ∷ s ∷ s ∷ []; have = (hc, (h, (g, tt))); result = s; takes = ap (λ b. only_if b s) (and_from _ _ same_boolean ((law s s).1 refl)); gives = h.2 }, h.2)

pub ite_shape : (law : SameSortIsEqual) (w : World) (c t u : Term) (s : Sort) → HasSort w c boolean → HasSort w t s → HasSort w u s → (of : TypeId) × IsShape w (shape.Ite c t u) of
ite_shape law w c t u s hc h g = let p = ite_typed law w c t u s hc h g in (p.0, p.1)

false_shape : (w : World) → IsTable w → IsShape w shape.False the_bool
unfolding same_sort
false_shape w table = record { operates = tt; sorts = []; have = tt; result = boolean; takes = refl; gives = bool_kept w table }

pub not_type : (w : World) (table : IsTable w) (u : Term) (h : HasSort w u boolean) → KeepsType w (not_is_shape w table u h).0 boolean
unfolding not_is_shape KeepsType
not_type w table u h = table.permanents.bool

-- a literal's term has its sort
signed_sort : (w : World) → IsTable w → (t u : Term) (n c : Bool) (s : Sort) → IsSigned w t u n c → HasSort w u s → (n ≡ true → s ≡ boolean) → HasSort w t s
signed_sort w table t u false c s is h e = subst (λ z. HasSort w z s) (sym is) h
signed_sort w table t u true true s is h e =
    subst (HasSort w t) (sym (e refl)) (shape_sort w table t shape.False the_bool boolean (subst (λ z. HasShape w z shape.False) (sym is) table.permanents.falsity) (false_shape w table) (bool_kept w table))
signed_sort w table t u true false s is h e =
    let n = not_is_shape w table u (subst (HasSort w u) (e refl) h) in
    subst (HasSort w t) (sym (e refl)) (shape_sort w table t (shape.Not u) n.0 boolean is n.1 (not_type w table u (subst (HasSort w u) (e refl) h)))

pub literal_sort : (w : World) → IsTable w → (t : Term) (l : Literal) (s : Sort) → IsLiteral w t l → IsLiteralOf w s l → HasSort w t s
literal_sort w table t l s is of = signed_sort w table t l.atom l.negated (same_term l.atom the_truth) s is.1 of.0 of.1

pub literal_sorts : (old w : World) → IsWider old w → IsTable w → (ts : List Term) (ls : List Literal) → AreLiterals w ts ls → AllAreOf old boolean ls → AllHaveSort w boolean ts
literal_sorts old w m table [] [] is of = tt
literal_sorts old w m table [] (l ∷ ls) is of = absurd is
literal_sorts old w m table (t ∷ ts) [] is of = absurd is
literal_sorts old w m table (t ∷ ts) (l ∷ ls) is of =
    (literal_sort w table t l boolean is.0 (sort_stays old w m l.atom boolean of.0, λ n. refl), literal_sorts old w m table ts ls is.1 of.1)

pub literals_filled : (w : World) (ts : List Term) (ls : List Literal) → AreLiterals w ts ls → IsFilled ls → IsFilled ts
literals_filled w [] [] is f = f
literals_filled w [] (l ∷ ls) is f = absurd is
literals_filled w (t ∷ ts) ls is f = tt

pub ready_of : (w : World) (s : Sort) (l : Literal) → IsLiteralOf w s l → IsReadyLiteral w l
ready_of w s l h = (sorted_lives w l.atom s h.0, λ n. subst (HasSort w l.atom) (h.1 n) h.0)

pub literal_of_stays : (old new : World) → IsWider old new → (s : Sort) (l : Literal) → IsLiteralOf old s l → IsLiteralOf new s l
literal_of_stays old new m s l h = (sort_stays old new m l.atom s h.0, h.1)
