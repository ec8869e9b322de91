-- What a constructor answers: a live term with the meaning of its operator over the arguments, made as its sketch says, or the first thing that is wrong.
use Rattle.std.specs.Prelude.{◌≡◌, ℕ, suc, ◌+◌, ◌≤◌, ◌⊎◌, Bool, true, false, List, [], ◌∷◌, Option, Some, None, IsSome, length, map, ◌==◌, nat_le}
use Rattle.y_tree.specs.Sorts.{Sort, boolean}
use Rattle.y_tree.specs.Tree.{Op, conjunction, disjunction, parity, constant, variable, Tree, Trees, node, none, more, count}
use Rattle.y_tree.specs.Meaning.{Assignment, meaning}
use Rattle.y_tree.specs.Misfits.{Misfit, misfit_of}
use Rattle.y_tree.specs.Laws.{FitsAreTyped, SameSortIsEqual, TreeHasASort, MeaningHasItsSort}
use Rattle.stamped_slots.specs.Slots.{taken}
use Rattle.term_shapes.specs.declared.handles.Term.{Term}
use Rattle.term_shapes.specs.declared.shapes.Shape.{Shape}
use Rattle.term_shapes.specs.declared.shapes.Shape.TheVariants as shape
use Rattle.term_shapes.specs.declared.shapes.TypeShape.{TypeShape}
use Rattle.term_shapes.specs.declared.shapes.TypeShape.TheVariants as type
use Rattle.term_shapes.specs.declared.shapes.Node.{Node}
use Rattle.term_shapes.specs.Shapes.{args_of}
use Rattle.term_table.specs.World.{World, node_at, shape_at, HasShape, Keeps, KeepsAll}
use Rattle.term_table.specs.Changes.{AddsNode, IsOperator}
use Rattle.term_table.specs.Checking.{operator, HasSort, HaveSorts, IsFirstDead, Tells}
use Rattle.term_orders.specs.Orders.{IsBelow, IsUnder}
use Rattle.shape_rules.specs.declared.errors.ShapeError.TheVariants as shape_refusal
use Rattle.term_sketches.specs.declared.items.Literal.{Literal}
use Rattle.term_sketches.specs.declared.items.Sketch.{Sketch}
use Rattle.term_sketches.specs.declared.items.Sketch.TheVariants as sketch
use Rattle.term_sketches.specs.declared.items.Operator.{Operator}
use Rattle.term_sketches.specs.declared.items.Operator.TheVariants as constructor
use Rattle.term_sketches.specs.Sketches.{the_truth, sketch_of, same_term, operator_of}
use Rattle.term_sketches.specs.Valuing.{call_sort, are_truths, IsFilled, SketchesMean, SketchesHaveTypes, SketchesAreSmall, SketchesAreMadeOf}
use Rattle.term_build.specs.declared.errors.BuildError.{BuildError}
use Rattle.term_build.specs.declared.errors.BuildError.TheVariants as refusal

-- the permanent term of falsity
abbrev pub the_falsity : Term
the_falsity = record { slot = 1; stamp = 0 }

-- a term of that shape as a literal: a negation is the opposite of its argument, falsity that of truth
abbrev pub literal_of : Term → Option Shape → Literal
literal_of t (Some (shape.Not u)) = record { atom = u; negated = true }
literal_of t (Some shape.False) = record { atom = the_truth; negated = true }
literal_of t _ = record { atom = t; negated = false }

-- the term as a literal
abbrev pub literal_at : World → Term → Literal
literal_at w t = literal_of t (shape_at w t)

-- with the sign, and whether the atom is truth
abbrev pub IsSigned : World → Term → Term → Bool → Bool → Type 0
IsSigned w t u false b = t ≡ u
IsSigned w t u true true = t ≡ the_falsity
IsSigned w t u true false = HasShape w t (shape.Not u)

-- the live term is that of the literal
abbrev pub IsLiteral : World → Term → Literal → Type 0
IsLiteral w t l = IsSome (node_at w t) × IsSigned w t l.atom l.negated (same_term l.atom the_truth)

-- the terms are those of the literals, in order
abbrev pub AreLiterals : World → List Term → List Literal → Type 0
AreLiterals w [] [] = Unit {0}
AreLiterals w (t ∷ ts) (l ∷ ls) = IsLiteral w t l × AreLiterals w ts ls
AreLiterals w [] (l ∷ ls) = ⊥
AreLiterals w (t ∷ ts) [] = ⊥

-- the term has the shape, or is the negation of one that has it
abbrev pub IsFlagged : World → Term → Bool → Shape → Type 0
IsFlagged w t false s = HasShape w t s
IsFlagged w t true s = (u : Term) × HasShape w u s × HasShape w t (shape.Not u)

-- the term is what the sketch says
abbrev pub IsMade : World → Term → Sketch → Type 0
IsMade w t (sketch.OneLiteral l) = IsLiteral w t l
IsMade w t (sketch.AllOf ls) = (ts : List Term) × HasShape w t (shape.And ts) × AreLiterals w ts ls
IsMade w t (sketch.AnyOf ls) = (ts : List Term) × HasShape w t (shape.Or ts) × AreLiterals w ts ls
IsMade w t (sketch.OddOf b us) = IsFlagged w t b (shape.Xor us)
IsMade w t (sketch.OneOf x a b) = (u : Term) × (v : Term) × HasShape w t (shape.Ite x u v) × IsLiteral w u a × IsLiteral w v b
IsMade w t (sketch.Equal b x y) = IsFlagged w t b (shape.Eq x y)
IsMade w t (sketch.Apart us) = HasShape w t (shape.Distinct us)

-- the table is the old one with at most so many new terms, and nothing else
pub data AddsAtMost : ℕ → World → World → Type 0 where
  no_more : (n : ℕ) (w : World) → AddsAtMost n w w
  one_more : (n : ℕ) (old mid new : World) (t : Term) (x : Node) → AddsNode old mid t x → AddsAtMost n mid new → AddsAtMost (suc n) old new

-- each new term is the term itself, or below one of its arguments
pub record AddsBelow (old new : World) (t : Term) : Type 0 where
  pub each : (u : Term) → IsSome (node_at new u) → node_at old u ≡ None → IsBelow new u t

-- each new term is below one of the list
pub record AddsUnder (old new : World) (ts : List Term) : Type 0 where
  pub each : (u : Term) → IsSome (node_at new u) → node_at old u ≡ None → IsUnder new ts u

-- what is wrong with the arguments of a call: what its operator's row says, but that a conjunction, a disjunction and a parity may have none
abbrev pub call_misfit : Op → List Sort → Option Misfit
call_misfit conjunction [] = None
call_misfit disjunction [] = None
call_misfit parity [] = None
call_misfit op ks = misfit_of op ks

-- the arguments are live, with sorts that the call takes
pub record AreFit (w : World) (op : Op) (ts : List Term) : Type 0 where
  pub sorts : List Sort
  pub have : HaveSorts w ts sorts
  pub fit : call_misfit op sorts ≡ None

-- a tree is in another
mutual
  pub data IsIn : Tree → Tree → Type 0 where
    itself : (a : Tree) → IsIn a a
    below : (a : Tree) (op : Op) (bs : Trees) → IsInSome a bs → IsIn a (node op bs)

  pub data IsInSome : Tree → Trees → Type 0 where
    first : (a b : Tree) (bs : Trees) → IsIn a b → IsInSome a (more b bs)
    later : (a b : Tree) (bs : Trees) → IsInSome a bs → IsInSome a (more b bs)

-- a tree stands in the list
abbrev pub IsAmong : Tree → List Tree → Type 0
IsAmong a [] = ⊥
IsAmong a (b ∷ bs) = (a ≡ b) ⊎ IsAmong a bs

-- every subtree of the tree is one of the arguments', or among so many others, none of which is a constant or a variable
pub record IsNearly (bound : ℕ) (whole : Tree) (args : Trees) : Type 0 where
  pub others : List Tree
  pub few : length others ≤ bound
  pub each : (a : Tree) → IsIn a whole → IsInSome a args ⊎ IsAmong a others
  pub no_constant : (n : ℕ) (k : Sort) → IsAmong (node (constant n k) none) others → ⊥
  pub no_variable : (n : ℕ) (k : Sort) → IsAmong (node (variable n k) none) others → ⊥

-- the tree that the term stands for has under every assignment the meaning of the operator over the arguments' trees, and few subtrees that these have not
pub record MeansCall (new : World) (op : Op) (args : Trees) (t : Term) : Type 0 where
  pub tree : Tree
  pub kept : Keeps new t tree
  pub same : (a : Assignment) → meaning tree a ≡ meaning (node op args) a
  pub near : IsNearly (4 + count args) tree args

-- the answer of a constructor
pub record IsBuilt (old new : World) (o : Operator) (ts : List Term) (t : Term) : Type 0 where
  pub fit : AreFit old (operator_of o) ts
  pub means : (args : Trees) → KeepsAll old ts args → MeansCall new (operator_of o) args t
  pub made : (ks : List Sort) → HaveSorts old ts ks → IsMade new t (sketch_of o (are_truths ks) (map (literal_at old) ts))
  pub gives : (ks : List Sort) (k : Sort) → HaveSorts old ts ks → call_sort (operator_of o) ks ≡ Some k → HasSort new t k

-- what a constructor's refusal says of a misfit
abbrev pub TellsCall : World → Misfit → BuildError → Type 0
TellsCall w m (refusal.BadArity n) = Tells w m (shape_refusal.BadArity n)
TellsCall w m (refusal.WrongType place want found) = Tells w m (shape_refusal.WrongType place want found)
TellsCall w m (refusal.WidthsDiffer place left right) = Tells w m (shape_refusal.WidthsDiffer place left right)
TellsCall w m (refusal.BadWidth n) = Tells w m (shape_refusal.BadWidth n)
TellsCall w m refusal.BadRange = Tells w m shape_refusal.BadRange
TellsCall w m _ = ⊥

-- the arguments are live with sorts that the call doesn't take, and the refusal tells the first misfit
pub record IsUnfit (w : World) (op : Op) (ts : List Term) (e : BuildError) : Type 0 where
  pub sorts : List Sort
  pub have : HaveSorts w ts sorts
  pub misfit : Misfit
  pub is : call_misfit op sorts ≡ Some misfit
  pub tells : TellsCall w misfit e

-- why a call is refused: the first dead argument, then the first misfit, then no slot is left as it returns, or memory is refused
abbrev pub RefusesCall : World → World → Op → List Term → BuildError → Type 0
RefusesCall old new op ts (refusal.DeadTerm place) = IsFirstDead old ts place
RefusesCall old new op ts refusal.TableFull = AreFit old op ts × (taken new.terms ≡ 4194304)
RefusesCall old new op ts refusal.NoMemory = Unit {0}
RefusesCall old new op ts e = IsUnfit old op ts e

-- the refusal may come after new terms were made
abbrev pub MayAdd : BuildError → Type 0
MayAdd refusal.TableFull = Unit {0}
MayAdd refusal.NoMemory = Unit {0}
MayAdd _ = ⊥

-- a shape with the call's row: it has these arguments, and what is wrong with them is what is wrong with the call's
pub record IsRowShape (op : Op) (ts : List Term) (s : Shape) : Type 0 where
  pub operates : IsOperator s
  pub args : args_of s ≡ ts
  pub row : (ks : List Sort) → length ks ≡ length ts → misfit_of (operator s) ks ≡ call_misfit op ks

-- a conjunction, a disjunction or a parity of nothing
abbrev pub IsEmptyCall : Op → List Term → Type 0
IsEmptyCall conjunction [] = Unit {0}
IsEmptyCall disjunction [] = Unit {0}
IsEmptyCall parity [] = Unit {0}
IsEmptyCall op ts = ⊥

-- the constructor takes so many arguments, or none where it is a conjunction, a disjunction or a parity
abbrev pub takes_count : Operator → ℕ → Bool
takes_count constructor.Not n = 1 == n
takes_count constructor.And n = nat_le 1 n
takes_count constructor.Or n = nat_le 1 n
takes_count constructor.Xor n = nat_le 1 n
takes_count constructor.Implies n = 2 == n
takes_count constructor.Iff n = 2 == n
takes_count constructor.Ite n = 3 == n
takes_count constructor.Eq n = 2 == n
takes_count constructor.Neq n = 2 == n
takes_count constructor.Distinct n = nat_le 1 n

-- why no term was made: no slot is left, or memory is refused
abbrev pub RefusesNew : World → BuildError → Type 0
RefusesNew w refusal.TableFull = taken w.terms ≡ 4194304
RefusesNew w refusal.NoMemory = Unit {0}
RefusesNew w _ = ⊥

-- the literal's atom is live, and a truth value where it is negated
abbrev pub IsReadyLiteral : World → Literal → Type 0
IsReadyLiteral w l = IsSome (node_at w l.atom) × (l.negated ≡ true → HasSort w l.atom boolean)

-- so is each of the list
abbrev pub AreReady : World → List Literal → Type 0
AreReady w [] = Unit {0}
AreReady w (l ∷ ls) = IsReadyLiteral w l × AreReady w ls

-- each term of the list has the sort
abbrev pub AllHaveSort : World → Sort → List Term → Type 0
AllHaveSort w s [] = Unit {0}
AllHaveSort w s (t ∷ ts) = HasSort w t s × AllHaveSort w s ts

-- the atom of each literal has the sort
abbrev pub AllAreOf : World → Sort → List Literal → Type 0
AllAreOf w s [] = Unit {0}
AllAreOf w s (l ∷ ls) = HasSort w l.atom s × AllAreOf w s ls

-- the literal has the sort
abbrev pub IsLiteralOf : World → Sort → Literal → Type 0
IsLiteralOf w s l = HasSort w l.atom s × (l.negated ≡ true → s ≡ boolean)

-- what the sketch is made of is live, with sorts that it takes
abbrev pub IsReady : World → Sketch → Type 0
IsReady w (sketch.OneLiteral l) = IsReadyLiteral w l
IsReady w (sketch.AllOf ls) = IsFilled ls × AllAreOf w boolean ls
IsReady w (sketch.AnyOf ls) = IsFilled ls × AllAreOf w boolean ls
IsReady w (sketch.OddOf b ts) = IsFilled ts × AllHaveSort w boolean ts
IsReady w (sketch.OneOf x a b) = HasSort w x boolean × ((s : Sort) × IsLiteralOf w s a × IsLiteralOf w s b)
IsReady w (sketch.Equal b t u) = (s : Sort) × HasSort w t s × HasSort w u s
IsReady w (sketch.Apart ts) = IsFilled ts × ((s : Sort) × AllHaveSort w s ts)

-- the shape is that of the type of truth values
abbrev pub is_bool_shape : TypeShape → Bool
is_bool_shape type.Bool = true
is_bool_shape _ = false

-- the laws of trees and of sketches that a constructor rests on
pub record AreKnown : Type 0 where
  pub typed : FitsAreTyped
  pub decided : SameSortIsEqual
  pub limits : TreeHasASort
  pub meant : MeaningHasItsSort
  pub means : SketchesMean
  pub types : SketchesHaveTypes
  pub small : SketchesAreSmall
  pub made : SketchesAreMadeOf
