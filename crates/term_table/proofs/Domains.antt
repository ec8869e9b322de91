-- Function types: their parts, and the sorts that they stand for.
use Rattle.std.proofs.Common.{◌≡◌, ◌∙◌, ◌+◌, ◌<◌, ◌≤◌, ◌&&◌, ◌++◌, ⊎_elim, ℕ, zero, suc, Bool, true, false, List, [], ◌∷◌, Option, Some, None, length, refl, sym, ap, arith}
use Rattle.std.specs.Prelude.{slice_get, nat_le}
use Rattle.std.specs.Bool.{Decides}
use Rattle.std.proofs.lemmas.Option.{same_Some, slice_get_within}
use Rattle.std.proofs.lemmas.Bool.{false≢true, cases_eq}
use Rattle.y_tree.specs.Sorts.{Sort, Sorts, boolean, real, bit_vector, uninterpreted, function, count, is_sort, is_simple, are_simple}
use Rattle.y_tree.specs.Sorts as sort
use Rattle.stamped_slots.specs.Slots.{Adds, stamp_at}
use Rattle.stamped_slots.specs.Regular.{IsAt, IsRegular}
use Rattle.term_shapes.specs.declared.handles.TypeId.{TypeId}
use Rattle.term_shapes.specs.declared.shapes.TypeShape.{TypeShape}
use Rattle.term_shapes.specs.declared.shapes.TypeShape.TheVariants as type
use Rattle.shape_rules.specs.declared.errors.TableError.{TableError}
use Rattle.shape_rules.specs.declared.errors.TableError.TheVariants as error
use Rattle.term_table.specs.World.{World, type_shape_at, HasTypeShape, KeepsType, KeepsTypes, IsTable}
use Rattle.shape_rules.specs.Rules.{is_arity, is_function}
use Rattle.term_table.specs.Functions.{IsFirstWith, NoneHas, HasAt, IsDeadType, IsFunctionType, ArePartTypes, IsFunctionShape, RefusesType, RefusesFunction}
use Rattle.term_table.proofs.Held.{held_slot}
use Rattle.term_table.proofs.Atoms.{adds_type_sound, type_lasts, here_type}

module _ {X : Type 0} (P : X → Type 0) (xs : List X) where
  -- the first that has it
  pub first_with : (i : ℕ) (b : Bool) → b ≡ true → HasAt P xs i b → ((j : ℕ) (x : X) → j < i → slice_get xs j ≡ Some x → P x → ⊥) → IsFirstWith P xs (i + 1)
  first_with i true e (x, at, has) earlier = record { others = i; behind = refl; item = x; there = at; has = has; earlier = earlier }
  first_with i false e h earlier = absurd (false≢true e)

  pub none_step : (i : ℕ) (b : Bool) → b ≡ false → HasAt P xs i b → ((j : ℕ) (x : X) → j < i → slice_get xs j ≡ Some x → P x → ⊥) → (j : ℕ) (x : X) → j < i + 1 → slice_get xs j ≡ Some x → P x → ⊥
  none_step i true e h earlier j x low at = absurd (false≢true (sym e))
  none_step i false e h earlier j x low at =
      ⊎_elim (λ (k : j ≡ i). h x (sym (ap (slice_get xs) k) ∙ at)) (λ d. earlier j x (omega (arith, low, d)) at) (cases_eq j i)

  pub none_all : (n : ℕ) → length xs ≤ n → ((j : ℕ) (x : X) → j < n → slice_get xs j ≡ Some x → P x → ⊥) → NoneHas P xs
  none_all n e earlier i x at = earlier i x (omega (arith, slice_get_within xs i x at, e)) at

pub length_last : {X : Type 0} (xs : List X) (y : X) → length (xs ++ y ∷ []) ≡ length xs + 1
length_last [] y = refl
length_last (x ∷ xs) y = omega (arith, length_last xs y)

-- a shape of functions, and the others
pub function_shape : (s : TypeShape) → is_function s ≡ true → (ts : List TypeId) × (r : TypeId) × (s ≡ type.Fun ts r)
function_shape (type.Fun ts r) h = (ts, r, refl)
function_shape type.Bool h = absurd (false≢true h)
function_shape type.Real h = absurd (false≢true h)
function_shape (type.Bv n) h = absurd (false≢true h)
function_shape (type.Free n) h = absurd (false≢true h)

pub is_function_type : (w : World) (t : TypeId) (s : TypeShape) → HasTypeShape w t s → is_function s ≡ true → IsFunctionType w t
is_function_type w t s h f = let p = function_shape s f in (p.0, p.1, h ∙ ap Some p.2)

pub no_function_type : (w : World) (t : TypeId) (s : TypeShape) → HasTypeShape w t s → is_function s ≡ false → IsFunctionType w t → ⊥
no_function_type w t s h f (ts, r, g) = false≢true (sym f ∙ ap is_function (same_Some s (type.Fun ts r) (sym h ∙ g)))

simple_kept : (w : World) (t : TypeId) → (IsFunctionType w t → ⊥) → (k : Sort) → KeepsType w t k → is_sort k ≡ true → (l : Sort) × KeepsType w t l × (is_simple l ≡ true)
unfolding KeepsType
simple_kept w t simple boolean h e = (boolean, h, refl)
simple_kept w t simple real h e = (real, h, refl)
simple_kept w t simple (bit_vector n) h e = (bit_vector n, h, e)
simple_kept w t simple (uninterpreted n) h e = (uninterpreted n, h, refl)
simple_kept w t simple (function d r) (ts, q, has, rest, last) e = absurd (simple (ts, q, has))

module _ (w : World) (table : IsTable w) where
  -- a live type that is none of functions stands for a simple sort
  simple_sort : (t : TypeId) → (IsDeadType w t → ⊥) → (IsFunctionType w t → ⊥) → (k : Sort) × KeepsType w t k × (is_simple k ≡ true)
  simple_sort t live simple = by (type_shape_at w t) refl
    where
      by : (o : Option TypeShape) → type_shape_at w t ≡ o → (k : Sort) × KeepsType w t k × (is_simple k ≡ true)
      by None e = absurd (live e)
      by (Some s) e = let r = table.sorted t s e in simple_kept w t simple r.0 r.1 r.2

  domain_of : (ts : List TypeId) → ((i : ℕ) (t : TypeId) → slice_get ts i ≡ Some t → IsDeadType w t → ⊥) → ((i : ℕ) (t : TypeId) → slice_get ts i ≡ Some t → IsFunctionType w t → ⊥) → (d : Sorts) × KeepsTypes w ts d × (are_simple d ≡ true) × (count d ≡ length ts)
  unfolding KeepsTypes are_simple count
  domain_of [] live simple = (sort.none, tt, refl, refl)
  domain_of (t ∷ ts) live simple =
      let k = simple_sort t (live 0 t refl) (simple 0 t refl) in
      let d = domain_of ts (λ i. live (suc i)) (λ i. simple (suc i)) in
      (sort.more k.0 d.0, (k.1, d.1), ap (λ b. b && are_simple d.0) k.2 ∙ d.2, omega (arith, d.3))

  front_items : {X : Type 0} (xs : List X) (y x : X) (i : ℕ) → slice_get xs i ≡ Some x → slice_get (xs ++ y ∷ []) i ≡ Some x
  front_items [] y x i h = absurd (cc h)
  front_items (z ∷ xs) y x zero h = h
  front_items (z ∷ xs) y x (suc i) h = front_items xs y x i h

  last_item : {X : Type 0} (xs : List X) (y : X) → slice_get (xs ++ y ∷ []) (length xs) ≡ Some y
  last_item [] y = refl
  last_item (x ∷ xs) y = last_item xs y

  -- live types that are no functions make a function type within the limits
  pub function_shape_of : (ts : List TypeId) (r : TypeId) (s : TypeShape) → s ≡ type.Fun ts r → ArePartTypes w ts r → IsFunctionShape w s
  function_shape_of ts r s is parts =
      let d = domain_of ts (λ i t h. parts.live i t (front_items ts r t i h)) (λ i t h. parts.simple i t (front_items ts r t i h)) in
      let k = simple_sort r (parts.live (length ts) r (last_item ts r)) (parts.simple (length ts) r (last_item ts r)) in
      record {
        arguments = ts;
        value = r;
        is = is;
        domain = d.0;
        result = k.0;
        keeps_domain = d.1;
        keeps_result = k.1;
        within = limits (count d.0) (are_simple d.0) (is_simple k.0) (ap is_arity d.3 ∙ parts.number) d.2 k.2;
      }
    where
      limits : (n : ℕ) (b c : Bool) → (nat_le 1 n && nat_le n 16) ≡ true → b ≡ true → c ≡ true → (nat_le 1 n && nat_le n 16 && b && c) ≡ true
      limits n b c e f g = ap (λ z. z && b && c) e ∙ ap (λ z. z && c) f ∙ g

-- a type of functions is added
module _ (old new : World) (t : TypeId) (s : TypeShape) (table : IsTable old) (adds : Adds old.types new.types t.slot t.stamp s) (terms : new.terms ≡ old.terms)
    (constants : new.constants ≡ old.constants) (variables : new.variables ≡ old.variables) (kinds : old.kinds ≤ new.kinds) where
  types_last : (d : Sorts) (ts : List TypeId) → KeepsTypes old ts d → KeepsTypes new ts d
  unfolding KeepsTypes
  types_last sort.none [] h = tt
  types_last sort.none (u ∷ ts) h = absurd h
  types_last (sort.more k ks) [] h = absurd h
  types_last (sort.more k ks) (u ∷ ts) h = (type_lasts old new t s table adds terms constants variables kinds k u h.0, types_last ks ts h.1)

  keeps_function : (is : IsFunctionShape old s) → KeepsType new t (function is.domain is.result)
  unfolding KeepsType
  keeps_function is = (
    is.arguments,
    is.value,
    here_type old new t s table adds terms constants variables kinds ∙ ap Some is.is,
    types_last is.domain is.arguments is.keeps_domain,
    type_lasts old new t s table adds terms constants variables kinds is.result is.value is.keeps_result,
  )

  no_number : (is : IsFunctionShape old s) (n : ℕ) → s ≡ type.Free n → n < new.kinds
  no_number is n e = absurd (cc (sym is.is ∙ e))

  pub function_sound : IsFunctionShape old s → ((u : TypeId) → HasTypeShape old u s → ⊥) → IsRegular new.types → new.kinds ≤ old.kinds + 1 → new.term_names ≡ old.term_names → new.type_names ≡ old.type_names → IsTable new
  function_sound is absent regular more term_names type_names =
      adds_type_sound old new t s table adds terms constants variables kinds absent regular (function is.domain is.result) (keeps_function is) is.within (no_number is) more term_names type_names

-- a type as the slots tell
pub found_type : (eq : TypeShape → TypeShape → Bool) → ((a b : TypeShape) → Decides (eq a b) (a ≡ b)) → (w : World) (x : TypeShape) (i n : ℕ) → IsAt eq w.types x i → n ≡ stamp_at w.types i → HasTypeShape w (record { slot = i; stamp = n }) x
found_type eq decides w x i n (s, y, at, held, same) stamp = held_slot w.types i n s y at stamp held ∙ ap Some (sym ((decides x y).0 same))

-- the refusal of a slot is one of the call
pub refuses_function : (w : World) (ts : List TypeId) (r : TypeId) (e : TableError) → ArePartTypes w ts r → RefusesType w (type.Fun ts r) e → RefusesFunction w ts r e
refuses_function w ts r error.TableFull parts h = (parts, h)
refuses_function w ts r error.NoMemory parts h = parts
refuses_function w ts r (error.DeadType place) parts h = absurd h.0
refuses_function w ts r error.DeadTerm parts h = absurd h.0
refuses_function w ts r (error.BadWidth n) parts h = absurd h.0
refuses_function w ts r (error.BadArity n) parts h = absurd h.0
refuses_function w ts r (error.HigherOrder place) parts h = absurd h.0
refuses_function w ts r error.CountFull parts h = absurd h.0
refuses_function w ts r error.CountZero parts h = absurd h.0
