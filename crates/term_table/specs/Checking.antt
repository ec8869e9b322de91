-- Which shapes are those of terms, and why others are not: the operator at the sorts that the arguments' types stand for.
use Rattle.std.specs.Prelude.{◌≡◌, ℕ, ◌+◌, ◌<◌, List, [], ◌∷◌, Option, Some, None, IsSome, slice_get, Bool, true, false, ◌==◌}
use Rattle.y_tree.specs.Sorts.{Sort, bit_vector, function, count}
use Rattle.y_tree.specs.Typing.{typed}
use Rattle.y_tree.specs.Misfits.{Misfit, bad_arity, wrong_type, widths_differ, bad_width, bad_range, misfit_of, Row, fits, is_bit_vector, a_boolean, a_real, a_bit_vector, a_function, of_sort, anything}
use Rattle.y_tree.specs.Laws.{wanted_behind, IsMisfit}
use Rattle.y_tree.specs.Misfits as misfit
use Rattle.term_shapes.specs.declared.handles.Term.{Term}
use Rattle.term_shapes.specs.declared.handles.TypeId.{TypeId}
use Rattle.term_shapes.specs.declared.shapes.Shape.{Shape}
use Rattle.term_shapes.specs.Shapes.{args_of}
use Rattle.shape_rules.specs.declared.errors.Wanted.{Wanted}
use Rattle.shape_rules.specs.declared.errors.Wanted.TheVariants as wanted
use Rattle.shape_rules.specs.declared.errors.ShapeError.{ShapeError}
use Rattle.shape_rules.specs.declared.errors.ShapeError.TheVariants as refusal
use Rattle.term_table.specs.World.{World, node_at, HasType, KeepsType}
use Rattle.shape_rules.specs.Rules.{IsOperator}
pub use Rattle.shape_rules.specs.Rules.{IsAtom, operator}
use Rattle.term_table.specs.Changes.{AddsTerm}

-- the term is live, and its type stands for that sort
abbrev pub HasSort : World → Term → Sort → Type 0
HasSort w t k = (of : TypeId) × HasType w t of × KeepsType w of k

-- the terms have these sorts, in order
abbrev pub HaveSorts : World → List Term → List Sort → Type 0
HaveSorts w [] [] = Unit {0}
HaveSorts w (t ∷ ts) (k ∷ ks) = HasSort w t k × HaveSorts w ts ks
HaveSorts w [] (k ∷ ks) = ⊥
HaveSorts w (t ∷ ts) [] = ⊥

-- each of the terms is live
abbrev pub AreLive : World → List Term → Type 0
AreLive w ts = (i : ℕ) (t : Term) → slice_get ts i ≡ Some t → IsSome (node_at w t)

-- the term at that place, from 1 on, is dead, and those before it are live
pub record IsFirstDead (w : World) (ts : List Term) (place : ℕ) : Type 0 where
  pub others : ℕ
  pub behind : place ≡ others + 1
  pub term : Term
  pub there : slice_get ts others ≡ Some term
  pub dead : node_at w term ≡ None
  pub earlier : (i : ℕ) (t : Term) → i < others → slice_get ts i ≡ Some t → IsSome (node_at w t)

-- what is wanted of a type is what is wanted of its sort
abbrev pub Wants : World → Wanted → misfit.Wanted → Type 0
Wants w wanted.Bool v = v ≡ a_boolean
Wants w wanted.Real v = v ≡ a_real
Wants w wanted.AnyBv v = v ≡ a_bit_vector
Wants w wanted.AnyFun v = v ≡ a_function
Wants w (wanted.Same t) v = (k : Sort) × KeepsType w t k × (v ≡ of_sort k)

-- a kind of types is wanted, and not one type
abbrev pub IsKind : Wanted → Type 0
IsKind (wanted.Same t) = ⊥
IsKind _ = Unit {0}

-- the refusal says of types what the misfit says of their sorts
abbrev pub Tells : World → Misfit → ShapeError → Type 0
Tells w m (refusal.BadArity n) = m ≡ bad_arity n
Tells w m (refusal.WrongType place want found) = (v : misfit.Wanted) × (k : Sort) × Wants w want v × KeepsType w found k × (m ≡ wrong_type place v k)
Tells w m (refusal.WidthsDiffer place left right) = m ≡ widths_differ place left right
Tells w m (refusal.BadWidth n) = m ≡ bad_width n
Tells w m refusal.BadRange = m ≡ bad_range
Tells w m refusal.Atom = ⊥
Tells w m (refusal.DeadTerm place) = ⊥

-- the arguments have sorts at which the first misfit of the operator is the one that is told
pub record IsMisfitting (w : World) (s : Shape) (e : ShapeError) : Type 0 where
  pub operates : IsOperator s
  pub sorts : List Sort
  pub have : HaveSorts w (args_of s) sorts
  pub misfit : Misfit
  pub is : misfit_of (operator s) sorts ≡ Some misfit
  pub tells : Tells w misfit e

-- why the shape is none of a term: an atom, then the first dead argument, then the first misfit
abbrev pub RefusesShape : World → Shape → ShapeError → Type 0
RefusesShape w s refusal.Atom = IsAtom s
RefusesShape w s (refusal.DeadTerm place) = IsOperator s × IsFirstDead w (args_of s) place
RefusesShape w s e = IsMisfitting w s e

-- the arguments have sorts at which the operator has one, and the type stands for it
pub record IsShape (w : World) (s : Shape) (of : TypeId) : Type 0 where
  pub operates : IsOperator s
  pub sorts : List Sort
  pub have : HaveSorts w (args_of s) sorts
  pub result : Sort
  pub takes : typed (operator s) sorts ≡ Some result
  pub gives : KeepsType w of result

-- the handle stands for the shape, with the type that it gives: it was there and nothing changes, or it is new
abbrev pub AddsShape : World → World → Shape → Term → Type 0
AddsShape old new s t = (of : TypeId) × IsShape old s of × AddsTerm old new t (record { shape = s; of = of })

-- what is wanted is told, or there is nothing that isn't
abbrev pub WantsHere : World → Option Wanted → misfit.Wanted → Type 0
WantsHere w None v = v ≡ anything
WantsHere w (Some want) v = Wants w want v

-- the type is there, and stands for that sort
abbrev pub IsKept : World → Option TypeId → Sort → Type 0
IsKept w None k = ⊥
IsKept w (Some of) k = KeepsType w of k

-- the refusal tells the misfit, or neither is there
abbrev pub ToldBy : World → Option Misfit → Option ShapeError → Type 0
ToldBy w None None = Unit {0}
ToldBy w (Some m) (Some e) = Tells w m e
ToldBy w None (Some e) = ⊥
ToldBy w (Some m) None = ⊥

-- each argument is what the row wants in its place
abbrev pub AllFit : Row → List Sort → Type 0
AllFit r ks = (i : ℕ) (v : misfit.Wanted) (k : Sort) → wanted_behind r i ≡ Some v → slice_get ks i ≡ Some k → fits v k ≡ true

-- each bit-vector has that width
abbrev pub AllWide : ℕ → List Sort → Type 0
AllWide n ks = (i m : ℕ) → slice_get ks i ≡ Some (bit_vector m) → n ≡ m

-- each sort is one of bit-vectors
abbrev pub AllVectors : List Sort → Type 0
AllVectors ks = (i : ℕ) (k : Sort) → slice_get ks i ≡ Some k → is_bit_vector k ≡ true

-- a misfit of the shape's operator at these sorts, and the refusal that tells it
pub record IsTold (w : World) (s : Shape) (ks : List Sort) (e : ShapeError) : Type 0 where
  pub misfit : Misfit
  pub is : IsMisfit (operator s) ks misfit
  pub tells : Tells w misfit e

-- a function takes so many arguments, and what is none takes any
abbrev pub takes_number : Sort → ℕ → Bool
takes_number (function domain result) n = count domain == n
takes_number _ n = true

-- whether the term at i is dead
abbrev pub IsDeadAt : World → List Term → ℕ → Bool → Type 0
IsDeadAt w ts i true = (t : Term) × (slice_get ts i ≡ Some t) × (node_at w t ≡ None)
IsDeadAt w ts i false = (t : Term) → slice_get ts i ≡ Some t → IsSome (node_at w t)

-- the argument at that place isn't what the row wants there and the refusal tells it, or it is and there is none
abbrev pub ToldAt : World → Row → List Sort → ℕ → Option ShapeError → Type 0
ToldAt w r ks i None = (v : misfit.Wanted) (k : Sort) → wanted_behind r i ≡ Some v → slice_get ks i ≡ Some k → fits v k ≡ true
ToldAt w r ks i (Some e) = (v : misfit.Wanted) (k : Sort) → wanted_behind r i ≡ Some v → slice_get ks i ≡ Some k → (fits v k ≡ false) × Tells w (wrong_type (i + 1) v k) e
