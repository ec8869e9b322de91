-- Terms of two tables that stand for the same trees, and what is said of the ones is said of the others.
use Rattle.std.specs.Prelude.{◌≡◌, Bool, List, map}
use Rattle.clause_search.specs.declared.Turns.{Turns}
use Rattle.y_tree.specs.Tree.{Tree, Trees}
use Rattle.term_shapes.specs.declared.handles.Term.{Term}
use Rattle.term_table.specs.World.{World, Keeps, KeepsAll, IsTable}
use Rattle.theory_combine.specs.declared.Learned.{Learned}
use Rattle.term_checks.specs.Formulas.{AreFormulas, HasOtherSort}
use Rattle.term_checks.specs.Answers.{IsModel, IsCore}
use Rattle.term_checks.specs.Problems.{IsLearned}

-- place by place, the terms of both lists stand for the same trees
pub record AreAlike (v w : World) (ts us : List Term) : Type 0 where
  pub trees : Trees
  pub left : KeepsAll v ts trees
  pub right : KeepsAll w us trees

-- a term stands for one tree
abbrev pub OneTreeEach : Type 0
OneTreeEach = (w : World) (t : Term) (a b : Tree) → Keeps w t a → Keeps w t b → a ≡ b

-- what stands for the trees of formulas is formulas
abbrev pub FormulasLast : Type 0
FormulasLast = (v w : World) (ts us : List Term) → IsTable v → IsTable w → AreAlike v w ts us → AreFormulas v ts → AreFormulas w us

-- the values of one table's constants are those of another's, for formulas and assumptions with the same trees
abbrev pub ModelsLast : Type 0
ModelsLast =
    (v w : World) (formulas others assumed supposed : List Term) (values found : List (Term × Bool)) → IsTable v → IsTable w → AreAlike v w formulas others → AreAlike v w assumed supposed
    → AreAlike v w (map (λ (e : Term × Bool). e.0) values) (map (λ (e : Term × Bool). e.0) found) → map (λ (e : Term × Bool). e.1) values ≡ map (λ (e : Term × Bool). e.1) found
    → IsModel v formulas assumed values → IsModel w others supposed found

-- and so is a core
abbrev pub CoresLast : Type 0
CoresLast =
    (v w : World) (formulas others assumed supposed core blamed : List Term) → IsTable v → IsTable w → AreAlike v w formulas others → AreAlike v w assumed supposed → AreAlike v w core blamed
    → IsCore v formulas assumed core → IsCore w others supposed blamed

-- and what was learned
abbrev pub LearnedLasts : Type 0
LearnedLasts =
    (v w : World) (formulas others assumed supposed : List Term) (turns : Turns) (learned : Learned) → IsTable v → IsTable w → AreAlike v w formulas others → AreAlike v w assumed supposed
    → IsLearned v formulas assumed turns learned → IsLearned w others supposed turns learned

-- and where another sort is below the ones, it is below the others
abbrev pub OtherSortsLast : Type 0
OtherSortsLast = (v w : World) (ts us : List Term) → IsTable v → IsTable w → AreAlike v w ts us → HasOtherSort v ts → HasOtherSort w us
