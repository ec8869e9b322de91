-- What a check answers of formulas and assumptions: values under which they are true, or assumptions that can't be.
use Rattle.std.specs.Prelude.{◌≡◌, ℕ, ◌<◌, ◌++◌, Bool, List, [], ◌∷◌, Option, Some, None, map, slice_get}
use Rattle.y_tree.specs.Tree.{Tree}
use Rattle.y_tree.specs.Values.{truth}
use Rattle.y_tree.specs.Meaning.{Assignment, meaning, IsTrueUnder}
use Rattle.term_shapes.specs.declared.handles.Term.{Term}
use Rattle.term_shapes.specs.declared.shapes.Shape.{Shape}
use Rattle.term_shapes.specs.declared.shapes.Shape.TheVariants as shape
use Rattle.term_table.specs.World.{World, shape_at, Keeps}
use Rattle.term_orders.specs.Orders.{IsIn, AreConstants}
use Rattle.node_encoding.specs.Nodes.{entry_of, booleans}
use Rattle.term_checks.specs.Listing.{IsFirstAt}

-- the tree that the term stands for is true under the assignment
pub record IsTrueAt (w : World) (s : Assignment) (t : Term) : Type 0 where
  pub tree : Tree
  pub kept : Keeps w t tree
  pub true_there : IsTrueUnder s tree

-- and so is that of each of the list
abbrev pub AreTrueAt : World → Assignment → List Term → Type 0
AreTrueAt w s ts = (t : Term) → IsIn ts t → IsTrueAt w s t

-- the number of the constant that has that shape
abbrev pub constant_number : Option Shape → Option ℕ
constant_number (Some (shape.Const n of)) = Some n
constant_number _ = None

-- truth values of constants, by the constants' numbers
abbrev pub numbered : World → List (Term × Bool) → List (ℕ × Bool)
numbered w [] = []
numbered w (e ∷ es) = entry_of (constant_number (shape_at w e.0)) e.1 ++ numbered w es

-- the assignment that they make
abbrev pub assignment_by : World → List (Term × Bool) → Assignment
assignment_by w values = booleans (numbered w values)

-- the constant stands for a tree that means the value under the assignment
pub record IsValueAt (w : World) (s : Assignment) (e : Term × Bool) : Type 0 where
  pub tree : Tree
  pub kept : Keeps w e.0 tree
  pub value : meaning tree s ≡ truth e.1

-- truth values under which the formulas and the assumptions are true
pub record IsModel (w : World) (formulas assumed : List Term) (values : List (Term × Bool)) : Type 0 where
  -- each constant below them has one, and nothing else has
  pub constants : AreConstants w (formulas ++ assumed) (map (λ (e : Term × Bool). e.0) values)
  -- each constant means its value
  pub agree : (i : ℕ) (e : Term × Bool) → slice_get values i ≡ Some e → IsValueAt w (assignment_by w values) e
  pub makes : AreTrueAt w (assignment_by w values) (formulas ++ assumed)

-- assumptions that no assignment makes true together with the formulas
pub record IsCore (w : World) (formulas assumed core : List Term) : Type 0 where
  pub within : (t : Term) → IsIn core t → IsIn assumed t
  -- no assumption stands twice
  pub once : (i j : ℕ) (t : Term) → slice_get core i ≡ Some t → slice_get core j ≡ Some t → i ≡ j
  -- they stand in the order of their first places
  pub rising : (i j p q : ℕ) (t u : Term) → i < j → slice_get core i ≡ Some t → slice_get core j ≡ Some u → IsFirstAt assumed p t → IsFirstAt assumed q u → p < q
  pub never : (s : Assignment) → AreTrueAt w s formulas → AreTrueAt w s core → ⊥
