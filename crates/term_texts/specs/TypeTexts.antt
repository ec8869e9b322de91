-- How types are printed.
use Rattle.std.specs.Prelude.{ℕ, Bool, ◌&&◌, ◌==◌, List, [], ◌∷◌, ◌++◌, map, codes, decimal, Option, Some, None}
use Rattle.name_stacks.specs.Names.{oldest_name}
use Rattle.term_shapes.specs.declared.handles.TypeId.{TypeId}
use Rattle.term_shapes.specs.declared.shapes.TypeShape.{TypeShape}
use Rattle.term_shapes.specs.declared.shapes.TypeShape.TheVariants as type
use Rattle.term_table.specs.World.{World, type_shape_at}

-- a space before each text
abbrev pub spaced : List (List ℕ) → List ℕ
spaced [] = []
spaced (x ∷ xs) = codes " " ++ x ++ spaced xs

-- the name, or else the mark and the number
abbrev pub name_or : Option (List ℕ) → List ℕ → ℕ → List ℕ
name_or None mark n = mark ++ decimal n
name_or (Some name) mark n = name

-- the handles are one
abbrev pub same_type : TypeId → TypeId → Bool
same_type t u = (t.slot == u.slot) && (t.stamp == u.stamp)

-- the name of a type: that of its oldest meaning
abbrev pub type_name : World → TypeId → Option (List ℕ)
type_name w t = oldest_name same_type t w.type_names

-- the text of a type of that shape which is none of functions
abbrev pub part_text_of : World → TypeId → Option TypeShape → List ℕ
part_text_of w t (Some type.Bool) = codes "bool"
part_text_of w t (Some type.Real) = codes "real"
part_text_of w t (Some (type.Bv n)) = codes "(bitvector " ++ decimal n ++ codes ")"
part_text_of w t (Some (type.Free k)) = name_or (type_name w t) (codes "t!") k
part_text_of w t (Some (type.Fun ts r)) = []
part_text_of w t None = []

-- the text of a part of a type of functions: each part is live, and none of functions
abbrev pub part_text : World → TypeId → List ℕ
part_text w t = part_text_of w t (type_shape_at w t)

-- the text of a type of that shape
abbrev pub type_text_of : World → TypeId → Option TypeShape → List ℕ
type_text_of w t (Some (type.Fun ts r)) = codes "(->" ++ spaced (map (part_text w) (ts ++ r ∷ [])) ++ codes ")"
type_text_of w t s = part_text_of w t s

-- the text of a live type
abbrev pub type_text : World → TypeId → List ℕ
type_text w t = type_text_of w t (type_shape_at w t)
