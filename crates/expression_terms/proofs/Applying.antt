-- An application is refused where each name stands for a truth value, for nothing is a function.
use Rattle.std.proofs.Common.{◌≡◌, ◌∙◌, suc, List, ◌∷◌, ◌++◌, length, Some, Ok, Err, sym, ap, subst, arith}
use Rattle.std.proofs.lemmas.Bool.{le-leb}
use Rattle.y_tree.specs.Sorts.{Sort, boolean}
use Rattle.y_tree.specs.Tree.{Op, application, update, Tree, Trees, node}
use Rattle.y_tree.specs.Tree as tree
use Rattle.y_tree.specs.Meaning.{or_boolean}
use Rattle.y_tree.specs.Misfits.{wrong_type, a_function, bad_arity, misfit_of, or_else, unless, wrong_in, uneven_in, out_in, row_of}
use Rattle.y_tree.specs.Laws.{FitsAreTyped}
use Rattle.term_table.specs.World.{World}
use Rattle.yices_grammar.specs.declared.Place.{Place}
use Rattle.yices_grammar.specs.Commands.{Expr, expr_at, Exprs, apply}
use Rattle.yices_grammar.specs.Commands as form
use Rattle.expression_terms.specs.Trees.{Scope, Cause, sorts_of, told, wrong, join, unless_misfit, over, tree_of, trees_of, trees_before}
use Rattle.expression_terms.specs.Growth.{if_there, written_trees, all_trees}
use Rattle.expression_terms.specs.Fresh.{AreAmong, GrowsPast}
use Rattle.expression_terms.proofs.Enough.{past_among, among_back}
use Rattle.expression_terms.specs.Building.{AreBoolean}
use Rattle.expression_terms.proofs.Booleans.{tree_boolean}

-- a truth value is no function
no_function : (ks : List Sort) → misfit_of application (boolean ∷ ks) ≡ Some (wrong_type 1 a_function boolean)
no_function ks =
    ap (λ b. or_else (unless b (bad_arity (length (boolean ∷ ks)))) (or_else (wrong_in (row_of application (boolean ∷ ks)) (boolean ∷ ks)) (or_else (uneven_in (row_of application (boolean ∷ ks)) (boolean ∷ ks)) (out_in application (boolean ∷ ks)))))
    (le-leb 1 (suc (length ks)) (omega arith))

no_updated : (ks : List Sort) → misfit_of update (boolean ∷ ks) ≡ Some (wrong_type 1 a_function boolean)
no_updated ks =
    ap (λ b. or_else (unless b (bad_arity (length (boolean ∷ ks)))) (or_else (wrong_in (row_of update (boolean ∷ ks)) (boolean ∷ ks)) (or_else (uneven_in (row_of update (boolean ∷ ks)) (boolean ∷ ks)) (out_in update (boolean ∷ ks)))))
    (le-leb 1 (suc (length ks)) (omega arith))

module _ (s : Scope) (e f : Expr) (at : Place) (es : Exprs) (is_apply : e ≡ expr_at at (apply f es)) where
  applied : tree_of s e ≡ over at (Some application) (join (tree_of s f) (trees_of s es))
  unfolding tree_of
  applied = ap (tree_of s) is_apply

  -- what is wrong with the function is wrong first
  pub apply_wrong : (c : Cause) → tree_of s f ≡ Err c → tree_of s e ≡ Err c
  apply_wrong c h = applied ∙ ap (λ r. over at (Some application) (join r (trees_of s es))) h

  -- then what is wrong with the arguments
  pub arguments_wrong : (d : Tree) (c : Cause) → tree_of s f ≡ Ok d → trees_of s es ≡ Err c → tree_of s e ≡ Err c
  arguments_wrong d c is h = applied ∙ ap (λ r. over at (Some application) (join r (trees_of s es))) is ∙ ap (λ r. over at (Some application) (join (Ok d) r)) h

  -- then that it is no function
  pub apply_told : FitsAreTyped → AreBoolean s → (d : Tree) (ds : Trees) → tree_of s f ≡ Ok d → trees_of s es ≡ Ok ds → tree_of s e ≡ wrong at (told (wrong_type 1 a_function boolean))
  apply_told law scope d ds is are =
      applied ∙ ap (λ r. over at (Some application) (join r (trees_of s es))) is ∙ ap (λ r. over at (Some application) (join (Ok d) r)) are
      ∙ ap (λ k. unless_misfit at (node application (tree.more d ds)) (misfit_of application (or_boolean k ∷ sorts_of ds))) (tree_boolean law s scope f d is)
      ∙ ap (unless_misfit at (node application (tree.more d ds))) (no_function (sorts_of ds))

  apply_trees : written_trees s e ≡ if_there (tree_of s e) ++ (written_trees s f ++ all_trees s es)
  unfolding written_trees
  apply_trees = ap (written_trees s) is_apply ∙ ap (λ x. if_there (tree_of s x) ++ (written_trees s f ++ all_trees s es)) (sym is_apply)

  pub apply_past : (old new : World) → GrowsPast (written_trees s f ++ all_trees s es) old new → GrowsPast (written_trees s e) old new
  apply_past old new g =
      past_among (written_trees s f ++ all_trees s es) (written_trees s e) old new
      (subst (AreAmong (written_trees s f ++ all_trees s es)) (sym apply_trees) (among_back (if_there (tree_of s e)) (written_trees s f ++ all_trees s es))) g

module _ (s : Scope) (e f v : Expr) (at : Place) (es : Exprs) (is_update : e ≡ expr_at at (form.update f es v)) where
  updated : tree_of s e ≡ over at (Some update) (join (tree_of s f) (trees_before s es (tree_of s v)))
  unfolding tree_of
  updated = ap (tree_of s) is_update

  pub update_wrong : (c : Cause) → tree_of s f ≡ Err c → tree_of s e ≡ Err c
  update_wrong c h = updated ∙ ap (λ r. over at (Some update) (join r (trees_before s es (tree_of s v)))) h

  pub behind_wrong : (d : Tree) (c : Cause) → tree_of s f ≡ Ok d → trees_before s es (tree_of s v) ≡ Err c → tree_of s e ≡ Err c
  behind_wrong d c is h = updated ∙ ap (λ r. over at (Some update) (join r (trees_before s es (tree_of s v)))) is ∙ ap (λ r. over at (Some update) (join (Ok d) r)) h

  pub update_told : FitsAreTyped → AreBoolean s → (d : Tree) (ds : Trees) → tree_of s f ≡ Ok d → trees_before s es (tree_of s v) ≡ Ok ds → tree_of s e ≡ wrong at (told (wrong_type 1 a_function boolean))
  update_told law scope d ds is are =
      updated ∙ ap (λ r. over at (Some update) (join r (trees_before s es (tree_of s v)))) is ∙ ap (λ r. over at (Some update) (join (Ok d) r)) are
      ∙ ap (λ k. unless_misfit at (node update (tree.more d ds)) (misfit_of update (or_boolean k ∷ sorts_of ds))) (tree_boolean law s scope f d is)
      ∙ ap (unless_misfit at (node update (tree.more d ds))) (no_updated (sorts_of ds))

  update_trees : written_trees s e ≡ if_there (tree_of s e) ++ (written_trees s f ++ (all_trees s es ++ written_trees s v))
  unfolding written_trees
  update_trees = ap (written_trees s) is_update ∙ ap (λ x. if_there (tree_of s x) ++ (written_trees s f ++ (all_trees s es ++ written_trees s v))) (sym is_update)

  pub update_past : (old new : World) → GrowsPast (written_trees s f ++ (all_trees s es ++ written_trees s v)) old new → GrowsPast (written_trees s e) old new
  update_past old new g =
      past_among (written_trees s f ++ (all_trees s es ++ written_trees s v)) (written_trees s e) old new
      (subst (AreAmong (written_trees s f ++ (all_trees s es ++ written_trees s v))) (sym update_trees) (among_back (if_there (tree_of s e)) (written_trees s f ++ (all_trees s es ++ written_trees s v)))) g
