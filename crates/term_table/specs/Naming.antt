-- What the calls on names say.
use Rattle.std.specs.Prelude.{◌≡◌, ℕ, List, [], ◌∷◌, ◌++◌, IsSome, IsNone, is_some}
use Rattle.std.specs.List.{filter}
use Rattle.name_stacks.specs.Names.{without_newest}
use Rattle.term_shapes.specs.declared.handles.Term.{Term}
use Rattle.term_shapes.specs.declared.handles.TypeId.{TypeId}
use Rattle.shape_rules.specs.declared.errors.TableError.{TableError}
use Rattle.shape_rules.specs.declared.errors.TableError.TheVariants as error
pub use Rattle.table_slots.specs.Nodes.{any_at, meant_terms, meant_types, meant_marked}
use Rattle.term_table.specs.World.{World, node_at, type_shape_at}

-- the table where the term is the newest meaning of the name
abbrev pub term_named : World → List ℕ → Term → World
term_named w name t = record w { term_names = w.term_names ++ (name, t) ∷ [] }

-- the table where the type is the newest meaning of the name
abbrev pub type_named : World → List ℕ → TypeId → World
type_named w name t = record w { type_names = w.type_names ++ (name, t) ∷ [] }

-- the table where the older meaning of the name is back
abbrev pub term_unnamed : World → List ℕ → World
term_unnamed w name = record w { term_names = without_newest name w.term_names }

-- the table where the older meaning of the name is back, for types
abbrev pub type_unnamed : World → List ℕ → World
type_unnamed w name = record w { type_names = without_newest name w.type_names }

-- the term is dead, or memory is refused
abbrev pub RefusesName : World → Term → TableError → Type 0
RefusesName w t error.DeadTerm = IsNone (node_at w t)
RefusesName w t error.NoMemory = IsSome (node_at w t)
RefusesName w t _ = ⊥

-- the type is dead, or memory is refused
abbrev pub RefusesTypeName : World → TypeId → TableError → Type 0
RefusesTypeName w t (error.DeadType place) = (place ≡ 1) × IsNone (type_shape_at w t)
RefusesTypeName w t error.NoMemory = IsSome (type_shape_at w t)
RefusesTypeName w t _ = ⊥

-- the pairs whose terms are live in the table
abbrev pub live_names : World → List (List ℕ × Term) → List (List ℕ × Term)
live_names w ps = filter (λ (p : List ℕ × Term). is_some (node_at w p.1)) ps

-- the pairs whose types are live in the table
abbrev pub live_type_names : World → List (List ℕ × TypeId) → List (List ℕ × TypeId)
live_type_names w ps = filter (λ (p : List ℕ × TypeId). is_some (type_shape_at w p.1)) ps

-- the table after each meaning of each name was marked
abbrev pub names_marked : World → World
names_marked w = record w { terms = meant_marked (meant_terms w.term_names) w.terms; types = meant_marked (meant_types w.type_names) w.types }
