-- The texts of types, and of what is wanted of arguments.
use Rattle.std.proofs.Common.{◌≡◌, ◌∙◌, [], Some, codes, refl, sym}
use Rattle.y_tree.specs.Sorts.{Sort, boolean, real, bit_vector, uninterpreted, function}
use Rattle.term_shapes.specs.declared.handles.TypeId.{TypeId}
use Rattle.term_shapes.specs.declared.shapes.TypeShape.TheVariants as type
use Rattle.term_table.specs.World.{World, KeepsType, type_shape_at}
use Rattle.expression_terms.specs.Trees.{sort_text}

module _ (w : World) (of : TypeId) where
  -- the type of truth values
  pub bool_text : (k : Sort) → type_shape_at w of ≡ Some type.Bool → KeepsType w of k → codes "bool" ≡ sort_text k
  unfolding KeepsType
  bool_text boolean h keeps = refl
  bool_text real h keeps = absurd (cc (sym h ∙ keeps))
  bool_text (bit_vector n) h keeps = absurd (cc (sym h ∙ keeps))
  bool_text (uninterpreted n) h keeps = absurd (cc (sym h ∙ keeps))
  bool_text (function domain value) h keeps = absurd (cc (sym h ∙ keeps.2))

  -- any other type
  pub other_text : (k : Sort) → (type_shape_at w of ≡ Some type.Bool → ⊥) → KeepsType w of k → [] ≡ sort_text k
  unfolding KeepsType
  other_text boolean h keeps = absurd (h keeps)
  other_text real h keeps = refl
  other_text (bit_vector n) h keeps = refl
  other_text (uninterpreted n) h keeps = refl
  other_text (function domain value) h keeps = refl
