use Rattle.std.proofs.Common.{◌≡◌, ◌∙◌, refl, ap}
use Rattle.std.proofs.lemmas.Option.{same_Some}
use Rattle.y_tree.specs.Sorts.{Sort, boolean, real, bit_vector, uninterpreted, function, same_sort}
use Rattle.term_shapes.specs.declared.handles.TypeId.{TypeId}
use Rattle.term_shapes.specs.declared.shapes.TypeShape.{TypeShape}
use Rattle.term_shapes.specs.declared.shapes.TypeShape.TheVariants as type
use Rattle.term_table.specs.World.{World, HasTypeShape, KeepsType}
use Rattle.term_build.specs.Building.{is_bool_shape}
use Rattle.term_build.proofs.building.is_bool.Goals as goal

-- the shape of a type that stands for a sort
kept_shape : (w : World) (of : TypeId) (k : Sort) → KeepsType w of k → (s : TypeShape) × HasTypeShape w of s × (is_bool_shape s ≡ same_sort boolean k)
unfolding KeepsType same_sort
kept_shape w of boolean h = (type.Bool, h, refl)
kept_shape w of real h = (type.Real, h, refl)
kept_shape w of (bit_vector n) h = (type.Bv n, h, refl)
kept_shape w of (uninterpreted n) h = (type.Free n, h, refl)
kept_shape w of (function d r) (ts, q, has, us, p) = (type.Fun ts q, has, refl)

pub returns-in-Some : goal.returns-in-Some
returns-in-Some c = λ k h.
    let p = kept_shape c.args.table.now c.args.of k h in
    c.is_bool_shape.ensures ∙ ap is_bool_shape (same_Some c.in-Some.shape.now p.0 (c.in-Some.ensures ∙ p.1)) ∙ p.2

pub returns-in-None : goal.returns-in-None
returns-in-None c = λ k h.
    let p = kept_shape c.args.table.now c.args.of k h in absurd (cc (c.in-None.ensures ∙ p.1))
