-- The terms of names and of their negations.
use Rattle.std.proofs.Common.{◌≡◌, ◌∙◌, inl, inr, ℕ, Bool, true, false, List, [], ◌∷◌, ◌++◌, Some, Result, Ok, Err, codes, refl, sym, ap, subst}
use Rattle.std.specs.Prelude.{IfOk, IfErr, OnErr}
use Rattle.y_tree.specs.Sorts.{boolean, same_sort}
use Rattle.y_tree.specs.Tree.{negation, Tree, node}
use Rattle.y_tree.specs.Tree as tree
use Rattle.y_tree.specs.Typing.{sort_of}
use Rattle.y_tree.specs.Meaning.{or_boolean}
use Rattle.y_tree.specs.Misfits.{misfit_of}
use Rattle.term_shapes.specs.declared.handles.Term.{Term}
use Rattle.term_table.specs.World.{World}
use Rattle.term_sketches.specs.declared.items.Operator.TheVariants as operator
use Rattle.term_sketches.specs.Sketches.{operator_of}
use Rattle.term_build.specs.Building.{IsIn, below, first, IsAmong}
use Rattle.yices_grammar.specs.Commands.{Expr, expr_at, Exprs, no_exprs, more_exprs, name, operation, LitExpr}
use Rattle.yices_api.specs.State.{State, ContextsStay}
use Rattle.expression_terms.specs.declared.refusal.Stop.{Stop}
use Rattle.expression_terms.specs.Trees.{Scope, Cause, op_in, operator_words, tree_named, join, over, unless_misfit, tree_of}
use Rattle.expression_terms.specs.Growth.{if_there, written_trees, AreSubtrees, GrowsFor}
use Rattle.expression_terms.specs.Fresh.{IsThere, GrowsBy, GrowsPast}
use Rattle.expression_terms.specs.Building.{Named, term_named, AreBoolean, AreNamed, cause_in, IsUnbuilt, IsMissing, signed, literal_tree, BuildsLiteralOr, AddsLiteral}
use Rattle.expression_terms.specs.Parts.{BuildsOne, BuildsAll}
use Rattle.expression_terms.specs.Outcomes.{Builds, BuildsEach}
use Rattle.expression_terms.proofs.Grown.{grows_none}
use Rattle.expression_terms.proofs.Enough.{grows_enough, past_enough}
use Rattle.expression_terms.proofs.Promised.{unbuilt_up}
use Rattle.expression_terms.proofs.Keeping.{name_known}
use Rattle.expression_terms.proofs.Outcomes.{contexts_same, builds_name, stops_name, first_start, first_more, first_all}

-- an unknown name has no negation
signed_wrong : (b : Bool) (c : Cause) → signed b (Err c) ≡ Err c
signed_wrong true c = refl
signed_wrong false c = refl

-- a tree is written with its negation
module _ (d : Tree) where
  abbrev opposite : Tree
  opposite = node negation (tree.more d tree.none)

  subtrees_both : (ds : List Tree) → AreSubtrees ds (opposite ∷ []) → AreSubtrees ds (opposite ∷ d ∷ [])
  subtrees_both ds h = record {
    once = h.once;
    every = λ a t among is. by a t among is;
    only = λ a among. front a (h.only a among);
  }
    where
      by : (a t : Tree) → IsAmong t (opposite ∷ d ∷ []) → IsIn a t → IsAmong a ds
      by a t (inl e) is = h.every a t (inl e) is
      by a t (inr (inl e)) is = h.every a opposite (inl refl) (below a negation (tree.more d tree.none) (first a d tree.none (subst (IsIn a) e is)))
      by a t (inr (inr e)) is = absurd e

      front : (a : Tree) → (t : Tree) × IsAmong t (opposite ∷ []) × IsIn a t → (t : Tree) × IsAmong t (opposite ∷ d ∷ []) × IsIn a t
      front a (t, inl e, is) = (t, inl e, is)
      front a (t, inr e, is) = absurd e

-- the tree, where it is there
abbrev tree_or : Tree → Result Tree Cause → Tree
tree_or d (Ok t) = t
tree_or d (Err e) = d

-- what was there before is not fresh
fresh_alone : (d e : Tree) (old new : World) → IsThere old e → GrowsBy (d ∷ e ∷ []) old new → GrowsBy (d ∷ []) old new
fresh_alone d e old new there g = record { trees = g.trees; adds = g.adds; fresh = g.fresh; listed = λ a among. by a among (g.listed a among) }
  where
    by : (a : Tree) → IsAmong a g.trees → IsAmong a (d ∷ e ∷ []) → IsAmong a (d ∷ [])
    by a among (inl is) = inl is
    by a among (inr (inl is)) = absurd (g.fresh.unbuilt a among (subst (IsThere old) (sym is) there))
    by a among (inr (inr nowhere)) = absurd nowhere

-- a literal, whose name is an expression
module _ (l : LitExpr) (ns : Named) (old : State) where
  abbrev atom : Expr
  atom = expr_at l.name_place (name l.name)

  literal_is : (s : Scope) → literal_tree s l ≡ signed l.positive (tree_of s atom)
  unfolding tree_of
  literal_is s = refl

  -- the name stands for nothing
  pub literal_missing : (why : Stop) → IsMissing ns l.name_place l.name why → BuildsLiteralOr ns old l (Err why) old
  literal_missing why h s named =
      unbuilt_up (tree_of s atom) (literal_tree s l) old why (λ c is. literal_is s ∙ ap (signed l.positive) is ∙ signed_wrong l.positive c) ((stops_name ns old atom l.name_place l.name why refl h).cause s named)

  -- nothing was added
  pub literal_unchanged : AddsLiteral ns old l old
  literal_unchanged = record {
    grows = λ s named. grows_enough (if_there (literal_tree s l)) old.table old.table (grows_none (if_there (literal_tree s l)) old.table);
    contexts = contexts_same old;
  }

  module _ (t : Term) (found : term_named ns l.name ≡ Some t) where
    one : Builds ns old old atom t
    one = builds_name ns old atom l.name_place l.name t refl found

    -- the name itself
    pub literal_plain : l.positive ≡ true → BuildsLiteralOr ns old l (Ok t) old
    literal_plain sign = λ s named.
        let b = one s named in
        record { tree = b.tree; is = literal_is s ∙ ap (λ p. signed p (tree_of s atom)) sign ∙ ap (signed true) b.is; built = b.built; grows = grows_none (b.tree ∷ []) old.table }

    -- its negation is a call over one argument
    abbrev single : Exprs
    single = more_exprs atom no_exprs

    abbrev negated : Expr
    negated = expr_at l.name_place (operation (codes "not") single)

    arguments : BuildsEach ns old old single (t ∷ [])
    arguments = first_all ns old old single no_exprs (t ∷ []) refl (first_more ns ns old old old single single no_exprs atom [] refl refl (first_start ns old single) t one)

    module _ (no : l.positive ≡ false) where
      -- the tree that the name stands for, and the call's
      module _ (s : Scope) (named : AreNamed old.table s ns) where
        abbrev meant : Tree
        meant = (one s named).tree

        truth : sort_of meant ≡ Some boolean
        unfolding tree_of
        truth = named.truths l.name meant (name_known l.name_place l.name (tree_named s l.name) meant (one s named).is)

        negated_is : tree_of s negated ≡ Ok (opposite meant)
        unfolding tree_of same_sort
        negated_is =
            ap (λ r. over l.name_place (Some negation) (join r (Ok tree.none))) (one s named).is
            ∙ ap (λ o. unless_misfit l.name_place (opposite meant) (misfit_of negation (or_boolean o ∷ []))) truth

        literal_same : literal_tree s l ≡ tree_of s negated
        literal_same = literal_is s ∙ ap (λ p. signed p (tree_of s atom)) no ∙ ap (signed false) (one s named).is ∙ sym negated_is

        both_written : written_trees s negated ≡ opposite meant ∷ meant ∷ []
        unfolding written_trees
        both_written = ap (λ r. if_there r ++ ((if_there (tree_of s atom) ++ []) ++ [])) negated_is ∙ ap (λ r. opposite meant ∷ ((if_there r ++ []) ++ [])) (one s named).is

        literal_grows : (new : World) → GrowsFor (written_trees s negated) old.table new → GrowsFor (if_there (literal_tree s l)) old.table new
        literal_grows new g ds subtrees =
            g ds (subst (AreSubtrees ds) (sym both_written) (subtrees_both meant ds (subst (AreSubtrees ds) (ap if_there (literal_same ∙ negated_is)) subtrees)))

      -- the constructor's answer
      abbrev Answered : State → Term → Type 0
      Answered new u =
          (s : Scope) (w : List ℕ) (es : Exprs) (start : World) → op_in operator_words w ≡ Some (operator_of operator.Not) → AreBoolean s → BuildsAll s start old.table es (t ∷ []) → BuildsOne s start new.table (expr_at l.name_place (operation w es)) u

      abbrev Refused : State → Stop → Type 0
      Refused new why =
          (s : Scope) (w : List ℕ) (es : Exprs) (start : World) → op_in operator_words w ≡ Some (operator_of operator.Not) → AreBoolean s → BuildsAll s start old.table es (t ∷ [])
          → IsUnbuilt (cause_in (tree_of s (expr_at l.name_place (operation w es)))) new why

      abbrev Past : State → Type 0
      Past new =
          (s : Scope) (w : List ℕ) (es : Exprs) (start : World) → op_in operator_words w ≡ Some (operator_of operator.Not) → AreBoolean s → BuildsAll s start old.table es (t ∷ [])
          → GrowsPast (written_trees s (expr_at l.name_place (operation w es))) start new.table

      pub negated_or : (new : State) (r : Result Term Stop) → IfOk r (Answered new) → IfErr r (Refused new) → BuildsLiteralOr ns old l r new
      negated_or new (Ok u) h k = λ s named.
          let b = h s (codes "not") single old.table refl named.truths (arguments s named) in
          let is : b.tree ≡ opposite (meant s named) = ap (tree_or b.tree) (sym b.is ∙ negated_is s named) in
          let grown : GrowsBy (opposite (meant s named) ∷ meant s named ∷ []) old.table new.table = subst (λ ds. GrowsBy ds old.table new.table) (both_written s named) b.grows in
          record {
            tree = b.tree;
            is = literal_same s named ∙ b.is;
            built = b.built;
            grows = subst (λ d. GrowsBy (d ∷ []) old.table new.table) (sym is) (fresh_alone (opposite (meant s named)) (meant s named) old.table new.table (t, (one s named).built) grown);
          }
      negated_or new (Err why) h k = λ s named.
          subst (λ (x : Result Tree Cause). IsUnbuilt (cause_in x) new why) (sym (literal_same s named)) (k s (codes "not") single old.table refl named.truths (arguments s named))

      pub negated_adds : (new : State) (r : Result Term Stop) → IfOk r (Answered new) → OnErr r (Past new) → ContextsStay old new → AddsLiteral ns old l new
      negated_adds new (Ok u) h k stay = record {
        grows = λ s named.
            literal_grows s named new.table (grows_enough (written_trees s negated) old.table new.table (h s (codes "not") single old.table refl named.truths (arguments s named)).grows);
        contexts = stay;
      }
      negated_adds new (Err why) h k stay = record {
        grows = λ s named. literal_grows s named new.table (past_enough (written_trees s negated) old.table new.table (k s (codes "not") single old.table refl named.truths (arguments s named)));
        contexts = stay;
      }
