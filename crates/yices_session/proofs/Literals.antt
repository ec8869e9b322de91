-- A literal as an expression: a name, or its negation.
use Rattle.std.proofs.Common.{◌≡◌, ◌∙◌, Bool, true, false, [], ◌∷◌, Some, Result, Ok, Err, codes, refl, ap, if◌then◌else◌}
use Rattle.y_tree.specs.Sorts.{same_sort}
use Rattle.y_tree.specs.Tree.{negation, Tree, node}
use Rattle.y_tree.specs.Tree as tree
use Rattle.y_tree.specs.Meaning.{or_boolean}
use Rattle.y_tree.specs.Misfits.{misfit_of}
use Rattle.yices_grammar.specs.Commands.{Expr, expr_at, no_exprs, more_exprs, name, operation, LitExpr}
use Rattle.expression_terms.specs.Trees.{Scope, Cause, tree_named, known, join, over, unless_misfit, tree_of}
use Rattle.expression_terms.specs.Building.{AreBoolean, signed, literal_tree}
use Rattle.expression_terms.proofs.Keeping.{name_known}

abbrev atom : LitExpr → Expr
atom l = expr_at l.name_place (name l.name)

abbrev negated : LitExpr → Expr
negated l = expr_at l.name_place (operation (codes "not") (more_exprs (atom l) no_exprs))

abbrev pub as_expression : LitExpr → Expr
as_expression l = if l.positive then atom l else negated l

module _ (s : Scope) (truths : AreBoolean s) (l : LitExpr) (d : Tree) where
  abbrev looked_up : Result Tree Cause
  looked_up = known l.name_place l.name (tree_named s l.name)

  atom_is : tree_of s (atom l) ≡ looked_up
  unfolding tree_of
  atom_is = refl

  abbrev opposite : Tree → Tree
  opposite m = node negation (tree.more m tree.none)

  negated_is : (m : Tree) → looked_up ≡ Ok m → tree_of s (negated l) ≡ Ok (opposite m)
  unfolding tree_of same_sort
  negated_is m is =
      ap (λ r. over l.name_place (Some negation) (join r (Ok tree.none))) is
      ∙ ap (λ o. unless_misfit l.name_place (opposite m) (misfit_of negation (or_boolean o ∷ []))) (truths l.name m (name_known l.name_place l.name (tree_named s l.name) m is))

  by : (b : Bool) (r : Result Tree Cause) → looked_up ≡ r → signed b r ≡ Ok d → tree_of s (if b then atom l else negated l) ≡ Ok d
  by true (Ok m) is e = atom_is ∙ is ∙ e
  by false (Ok m) is e = negated_is m is ∙ e
  by true (Err c) is e = absurd (cc e)
  by false (Err c) is e = absurd (cc e)

  -- the literal's tree is that of the expression
  pub literal_expression : literal_tree s l ≡ Ok d → tree_of s (as_expression l) ≡ Ok d
  literal_expression e = by l.positive looked_up refl e
