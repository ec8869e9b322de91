use Rattle.std.proofs.Common.{◌≡◌, ℕ, ◌-◌, List, ◌++◌, map, take}
use Rattle.term_shapes.specs.declared.handles.Term.{Term}
use Rattle.expression_terms.specs.Bound.{binding_names}
use Rattle.expression_terms.proofs.names.unbind_first.Given as goal

-- the names that were not taken away are bound still
abbrev pub invariant-loop-i : goal.invariant-loop-i
invariant-loop-i l = (before ps : List (List ℕ × Term)) → l.fn.names ≡ before ++ ps → map (λ (p : List ℕ × Term). p.0) ps ≡ take l.count (binding_names l.binds) → l.names ≡ before ++ take (l.count - l.i) ps
