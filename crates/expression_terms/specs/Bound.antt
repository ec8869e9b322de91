-- What `let` binds.
use Rattle.std.specs.Prelude.{◌≡◌, ℕ, false, List, [], ◌∷◌, Option, Some, map, slice_get}
use Rattle.std.specs.Str.{bytes_eq}
use Rattle.y_tree.specs.Tree.{Tree}
use Rattle.term_shapes.specs.declared.handles.Term.{Term}
use Rattle.term_table.specs.World.{World}
use Rattle.yices_commands.specs.declared.command.Bind.{Bind}
use Rattle.yices_commands.specs.Plain.{plain_bind}
use Rattle.expression_terms.specs.Trees.{Scope}
use Rattle.expression_terms.specs.Standing.{IsBuiltFor}

-- the names that are bound, each with a term that was built for its tree
abbrev pub AreBound : World → Scope → List (List ℕ × Term) → Type 0
AreBound w [] [] = Unit {0}
AreBound w (n ∷ ns) (p ∷ ps) = (p.0 ≡ n.0) × IsBuiltFor w n.1 p.1 × AreBound w ns ps
AreBound w [] (p ∷ ps) = ⊥
AreBound w (n ∷ ns) [] = ⊥

-- the names of a scope
abbrev pub scope_names : Scope → List (List ℕ)
scope_names ns = map (λ (n : List ℕ × Tree). n.0) ns

-- none of the names is that one
abbrev pub IsAbsent : List ℕ → List (List ℕ) → Type 0
IsAbsent name [] = Unit {0}
IsAbsent name (w ∷ ws) = (bytes_eq w name ≡ false) × IsAbsent name ws

-- no name stands twice
abbrev pub AreOnce : List (List ℕ) → Type 0
AreOnce [] = Unit {0}
AreOnce (w ∷ ws) = IsAbsent w ws × AreOnce ws

-- the names of bindings of the code
abbrev pub binding_names : List Bind → List (List ℕ)
binding_names bs = map (λ (b : Bind). (plain_bind b).name) bs

-- the name of the binding at that place is the one
abbrev pub IsBoundBy : List Bind → ℕ → Option (List ℕ) → Type 0
IsBoundBy bs i o = (b : Bind) × (slice_get bs i ≡ Some b) × (o ≡ Some (plain_bind b).name)
