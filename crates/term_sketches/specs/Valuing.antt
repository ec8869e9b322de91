-- What a sketch means where its atoms have values, and what it is made of.
use Rattle.std.specs.Prelude.{◌≡◌, suc, ◌≤◌, ◌⊎◌, Bool, true, false, not, List, [], ◌∷◌, Option, Some, length, map, if◌then◌else◌}
use Rattle.std.specs.List.{list_any, list_all}
use Rattle.y_tree.specs.Sorts.{Sort, boolean, same_sort, is_sort}
use Rattle.y_tree.specs.Tree.{Op, conjunction, disjunction, parity}
use Rattle.y_tree.specs.Typing.{typed}
use Rattle.y_tree.specs.Values.{Value, truth, has_sort, same_value}
use Rattle.y_tree.specs.Laws.{first_of}
use Rattle.y_tree.specs.Meaning.{Assignment, apply, is_odd, are_distinct, truth_of}
use Rattle.term_shapes.specs.declared.handles.Term.{Term}
use Rattle.term_sketches.specs.declared.items.Literal.{Literal}
use Rattle.term_sketches.specs.declared.items.Sketch.{Sketch}
use Rattle.term_sketches.specs.declared.items.Sketch.TheVariants as sketch
use Rattle.term_sketches.specs.declared.items.Operator.{Operator}
use Rattle.term_sketches.specs.Sketches.{the_truth, plain, operator_of, sketch_of}

-- each term has a value of its type, and truth is true
pub record IsValuation (v : Term → Value) (k : Term → Sort) : Type 0 where
  pub typed : (t : Term) → has_sort (v t) (k t) ≡ true
  pub limits : (t : Term) → is_sort (k t) ≡ true
  pub true_value : v the_truth ≡ truth true
  pub true_sort : k the_truth ≡ boolean

-- the value with its sign
abbrev pub signed : Bool → Value → Value
signed false x = x
signed true x = truth (not (truth_of x))

-- the value of a literal
abbrev pub literal_value : (Term → Value) → Literal → Value
literal_value v l = signed l.negated (v l.atom)

-- the truth value of a literal
abbrev pub literal_truth : (Term → Value) → Literal → Bool
literal_truth v l = truth_of (literal_value v l)

-- the truth value with its sign
abbrev pub flagged : Bool → Bool → Bool
flagged false b = b
flagged true b = not b

-- the value of a sketch
abbrev pub sketch_value : (Term → Value) → (Term → Sort) → Sketch → Value
sketch_value v k (sketch.OneLiteral l) = literal_value v l
sketch_value v k (sketch.AllOf ls) = truth (list_all (literal_truth v) ls)
sketch_value v k (sketch.AnyOf ls) = truth (list_any (literal_truth v) ls)
sketch_value v k (sketch.OddOf b ts) = truth (flagged b (is_odd (map (λ t. truth_of (v t)) ts)))
sketch_value v k (sketch.OneOf x a b) = if truth_of (v x) then literal_value v a else literal_value v b
sketch_value v k (sketch.Equal b t u) = truth (flagged b (same_value (k t) (v t) (v u)))
sketch_value v k (sketch.Apart []) = truth true
sketch_value v k (sketch.Apart (t ∷ ts)) = truth (are_distinct (k t) (map v (t ∷ ts)))

-- the literals have these types, and what is negated is a truth value
abbrev pub HaveTypes : (Term → Sort) → List Literal → List Sort → Type 0
HaveTypes k [] [] = Unit {0}
HaveTypes k (l ∷ ls) (s ∷ ss) = (k l.atom ≡ s) × (l.negated ≡ true → s ≡ boolean) × HaveTypes k ls ss
HaveTypes k [] (s ∷ ss) = ⊥
HaveTypes k (l ∷ ls) [] = ⊥

-- the type of what a call gives: that of its operator, but that a conjunction, a disjunction and a parity may have no arguments
abbrev pub call_sort : Op → List Sort → Option Sort
call_sort conjunction [] = Some boolean
call_sort disjunction [] = Some boolean
call_sort parity [] = Some boolean
call_sort op ks = typed op ks

-- the first type is that of truth values
abbrev pub are_truths : List Sort → Bool
are_truths [] = false
are_truths (k ∷ ks) = same_sort boolean k

-- a sketch means what its operator makes of the literals' values
abbrev pub SketchesMean : Type 0
SketchesMean =
    (v : Term → Value) (k : Term → Sort) → IsValuation v k → (o : Operator) (ls : List Literal) (ks : List Sort) (s : Sort) (a : Assignment) → HaveTypes k ls ks → call_sort (operator_of o) ks ≡ Some s
    → sketch_value v k (sketch_of o (are_truths ks) ls) ≡ apply (operator_of o) (first_of ks) (map (literal_value v) ls) a

-- what a sketch is made of
abbrev pub parts_of : Sketch → List Literal
parts_of (sketch.OneLiteral l) = l ∷ []
parts_of (sketch.AllOf ls) = ls
parts_of (sketch.AnyOf ls) = ls
parts_of (sketch.OddOf b ts) = map plain ts
parts_of (sketch.OneOf x a b) = plain x ∷ a ∷ b ∷ []
parts_of (sketch.Equal b t u) = plain t ∷ plain u ∷ []
parts_of (sketch.Apart ts) = map plain ts

-- the term is truth, or the atom of one of the literals
abbrev pub IsAtomOf : List Literal → Term → Type 0
IsAtomOf [] t = t ≡ the_truth
IsAtomOf (l ∷ ls) t = (t ≡ l.atom) ⊎ IsAtomOf ls t

-- so is each atom of the list
abbrev pub AreAtomsOf : List Literal → List Literal → Type 0
AreAtomsOf ls [] = Unit {0}
AreAtomsOf ls (m ∷ ms) = IsAtomOf ls m.atom × AreAtomsOf ls ms

-- a sketch has no more parts than there are literals, and one; and no other atoms
abbrev pub SketchesAreSmall : Type 0
SketchesAreSmall = (o : Operator) (truths : Bool) (ls : List Literal) → length (parts_of (sketch_of o truths ls)) ≤ suc (length ls)

abbrev pub SketchesAreMadeOf : Type 0
SketchesAreMadeOf = (o : Operator) (truths : Bool) (ls : List Literal) → AreAtomsOf ls (parts_of (sketch_of o truths ls))

-- each term of the list has the type
abbrev pub AreOf : (Term → Sort) → Sort → List Term → Type 0
AreOf k s [] = Unit {0}
AreOf k s (t ∷ ts) = (k t ≡ s) × AreOf k s ts

-- each literal of the list is a truth value
abbrev pub AreTruths : (Term → Sort) → List Literal → Type 0
AreTruths k [] = Unit {0}
AreTruths k (l ∷ ls) = (k l.atom ≡ boolean) × AreTruths k ls

-- something stands in the list
abbrev pub IsFilled : {X : Type 0} → List X → Type 0
IsFilled [] = ⊥
IsFilled (x ∷ xs) = Unit {0}

-- the literal has the type, and what is negated is a truth value
abbrev pub HasType : (Term → Sort) → Literal → Sort → Type 0
HasType k l s = (k l.atom ≡ s) × (l.negated ≡ true → s ≡ boolean)

-- what the sketch is made of has types that it takes, and it gives that one
abbrev pub HasSketchType : (Term → Sort) → Sketch → Sort → Type 0
HasSketchType k (sketch.OneLiteral l) s = HasType k l s
HasSketchType k (sketch.AllOf ls) s = (s ≡ boolean) × IsFilled ls × AreTruths k ls
HasSketchType k (sketch.AnyOf ls) s = (s ≡ boolean) × IsFilled ls × AreTruths k ls
HasSketchType k (sketch.OddOf b ts) s = (s ≡ boolean) × IsFilled ts × AreOf k boolean ts
HasSketchType k (sketch.OneOf x a b) s = (k x ≡ boolean) × HasType k a s × HasType k b s
HasSketchType k (sketch.Equal b t u) s = (s ≡ boolean) × (k t ≡ k u)
HasSketchType k (sketch.Apart ts) s = (s ≡ boolean) × IsFilled ts × ((r : Sort) × AreOf k r ts)

-- a sketch of literals that a call takes has the type that the call gives
abbrev pub SketchesHaveTypes : Type 0
SketchesHaveTypes =
    (k : Term → Sort) → k the_truth ≡ boolean → (o : Operator) (ls : List Literal) (ks : List Sort) (s : Sort) → HaveTypes k ls ks → call_sort (operator_of o) ks ≡ Some s
    → HasSketchType k (sketch_of o (are_truths ks) ls) s
