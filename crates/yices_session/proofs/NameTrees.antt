-- The trees of names have truth values alone in them, and the term of each name stands for its tree.
use Rattle.std.proofs.Common.{◌≡◌, ◌∙◌, ℕ, List, [], ◌∷◌, ◌++◌, map, Some, refl, sym, ap, subst}
use Rattle.std.specs.Prelude.{slice_get}
use Rattle.y_tree.specs.Sorts.{boolean}
use Rattle.term_shapes.specs.declared.handles.Term.{Term}
use Rattle.term_table.specs.World.{World, IsTable}
use Rattle.term_build.specs.Building.{AreKnown}
use Rattle.term_build.specs.Building as build
use Rattle.expression_terms.specs.Standing.{StandsFor}
use Rattle.expression_terms.proofs.Keeping.{within_built}
use Rattle.expression_terms.proofs.Stands.{tree_stands}
use Rattle.expression_terms.proofs.Truths.{IsAllBoolean}
use Rattle.yices_session.specs.declared.session.Declared.{Declared}
use Rattle.yices_session.specs.Held.{AreDeclared, AreTruths, IsNameBuilt, name_terms}
use Rattle.yices_session.specs.Held as held
use Rattle.yices_session.specs.State.{Named}
use Rattle.yices_session.proofs.Closed.{closed_front, closed_truths, truths_closed}
use Rattle.yices_session.proofs.Viewing.{plain_name}

-- whatever is in the tree of each name is a truth value
abbrev pub AreTruthTrees : List Named → Type 0
AreTruthTrees ns = (i : ℕ) (n : Named) → slice_get ns i ≡ Some n → IsAllBoolean n.tree

-- the term of each name stands for its tree
pub names_stand : AreKnown → (w : World) → IsTable w → (kept : List Term) (ns : List Named) → AreTruthTrees ns → ((i : ℕ) (n : Named) → slice_get ns i ≡ Some n → IsNameBuilt w kept n) → (i : ℕ) (n : Named) → slice_get ns i ≡ Some n
    → StandsFor w n.tree n.term
names_stand laws w table kept ns trees built i n e =
    (tree_stands laws w table n.tree n.term boolean (trees i n e n.tree (build.itself n.tree)) (within_built w kept n.tree n.term (built i n e))).stands

-- the terms of names that are declared are those of the state
declared_terms : (ds : List Declared) (ns : List Named) → AreDeclared (map plain_name ds) ns → map (λ (d : Declared). d.term) ds ≡ name_terms ns
declared_terms [] [] h = refl
declared_terms [] (n ∷ ns) h = absurd h
declared_terms (d ∷ ds) [] h = absurd h
declared_terms (d ∷ ds) (n ∷ ns) h = ap (λ (z : held.Declared). z.term ∷ map (λ (x : Declared). x.term) ds) h.0 ∙ ap (λ ts. n.term ∷ ts) (declared_terms ds ns h.2)

-- they have truth values alone below them
pub declared_truths : (w : World) (ds : List Declared) (ns : List Named) (us : List Term) → AreDeclared (map plain_name ds) ns → AreTruths w (name_terms ns ++ us) → AreTruths w (map (λ (d : Declared). d.term) ds)
declared_truths w ds ns us are truths = subst (AreTruths w) (sym (declared_terms ds ns are)) (closed_truths w (name_terms ns) (closed_front w (name_terms ns) us (truths_closed w (name_terms ns ++ us) truths)))
