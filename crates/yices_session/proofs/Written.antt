-- Each tree of an expression that is written over truth values is a truth value, and the terms of such trees stand for them.
use Rattle.std.proofs.Common.{◌≡◌, suc, inl, inr, List, [], ◌∷◌, ◌++◌, Result, Ok, Err, refl, sym, subst}
use Rattle.std.specs.List.{AllByRecursion}
use Rattle.y_tree.specs.Sorts.{boolean}
use Rattle.y_tree.specs.Tree.{Tree}
use Rattle.y_tree.specs.Laws.{FitsAreTyped}
use Rattle.term_shapes.specs.declared.handles.Term.{Term}
use Rattle.term_table.specs.World.{World, IsTable}
use Rattle.term_table.specs.Checking.{AreLive}
use Rattle.term_orders.specs.Orders.{IsIn}
use Rattle.term_build.specs.Building.{IsAmong, AreKnown}
use Rattle.yices_grammar.specs.Commands.{Expr, expr_at, Exprs, no_exprs, more_exprs, Binds, no_binds, more_binds, true_word, false_word, name, operation, let_in, apply}
use Rattle.yices_grammar.specs.Commands as form
use Rattle.expression_terms.specs.Trees.{Scope, Cause, tree_of, bindings_of}
use Rattle.expression_terms.specs.Standing.{StandsFor, IsBuiltFor, IsBoolean}
use Rattle.expression_terms.specs.Growth.{if_there, where_bound, written_trees, inner_trees, all_trees, bound_trees}
use Rattle.expression_terms.specs.Building.{AreBoolean, AreNamed, Named}
use Rattle.expression_terms.specs.Keeping.{AddsParts}
use Rattle.expression_terms.proofs.Booleans.{tree_boolean, let_boolean}
use Rattle.expression_terms.proofs.Live.{built_live}
use Rattle.expression_terms.proofs.Stands.{tree_stands}
use Rattle.yices_session.specs.Steps.{ArePartsOf}

-- each tree of the list is a truth value
abbrev AreTruthValues : List Tree → Type 0
AreTruthValues ds = (d : Tree) → IsAmong d ds → IsBoolean d

no_trees : AreTruthValues []
no_trees d h = absurd h

both_trees : (ds es : List Tree) → AreTruthValues ds → AreTruthValues es → AreTruthValues (ds ++ es)
both_trees [] es a b d h = b d h
both_trees (x ∷ ds) es a b d (inl e) = a d (inl e)
both_trees (x ∷ ds) es a b d (inr h) = both_trees ds es (λ y g. a y (inr g)) b d h

there_trees : (r : Result Tree Cause) → ((d : Tree) → r ≡ Ok d → IsBoolean d) → AreTruthValues (if_there r)
there_trees (Ok t) h d (inl e) = subst IsBoolean (sym e) (h t refl)
there_trees (Ok t) h d (inr g) = absurd g
there_trees (Err e) h d g = absurd g

bound_in : (r : Result Scope Cause) (inside : Scope → List Tree) → ((ns : Scope) → r ≡ Ok ns → AreTruthValues (inside ns)) → AreTruthValues (where_bound r inside)
bound_in (Ok ns) inside h d g = h ns refl d g
bound_in (Err e) inside h d g = absurd g

module _ (law : FitsAreTyped) where
  mutual
    unfolding written_trees

    pub written_boolean : (s : Scope) → AreBoolean s → (e : Expr) → AreTruthValues (written_trees s e)
    written_boolean s scope (expr_at at f) =
        both_trees (if_there (tree_of s (expr_at at f))) (inner_trees s f) (there_trees (tree_of s (expr_at at f)) (λ d is. tree_boolean law s scope (expr_at at f) d is)) (inner_boolean s scope f)

    inner_boolean : (s : Scope) → AreBoolean s → (f : form.ExprForm) → AreTruthValues (inner_trees s f)
    inner_boolean s scope true_word = no_trees
    inner_boolean s scope false_word = no_trees
    inner_boolean s scope (name v) = no_trees
    inner_boolean s scope (form.number v) = no_trees
    inner_boolean s scope (form.binary v) = no_trees
    inner_boolean s scope (form.hex v) = no_trees
    inner_boolean s scope (operation v es) = all_boolean s scope es
    inner_boolean s scope (form.mk_bv v x) = no_trees
    inner_boolean s scope (form.extract v x e) = no_trees
    inner_boolean s scope (form.counted v e x) = no_trees
    inner_boolean s scope (form.update f es v) =
        both_trees (written_trees s f) (all_trees s es ++ written_trees s v) (written_boolean s scope f) (both_trees (all_trees s es) (written_trees s v) (all_boolean s scope es) (written_boolean s scope v))
    inner_boolean s scope (let_in bs e) =
        both_trees (bound_trees s bs) (where_bound (bindings_of s bs) (λ ns. written_trees (ns ++ s) e)) (bound_boolean s scope bs)
        (bound_in (bindings_of s bs) (λ ns. written_trees (ns ++ s) e) (λ ns is. written_boolean (ns ++ s) (let_boolean law s scope bs ns is) e))
    inner_boolean s scope (form.forall_in ds e) = no_trees
    inner_boolean s scope (apply f es) = both_trees (written_trees s f) (all_trees s es) (written_boolean s scope f) (all_boolean s scope es)

    all_boolean : (s : Scope) → AreBoolean s → (es : Exprs) → AreTruthValues (all_trees s es)
    all_boolean s scope no_exprs = no_trees
    all_boolean s scope (more_exprs e es) = both_trees (written_trees s e) (all_trees s es) (written_boolean s scope e) (all_boolean s scope es)

    bound_boolean : (s : Scope) → AreBoolean s → (bs : Binds) → AreTruthValues (bound_trees s bs)
    bound_boolean s scope no_binds = no_trees
    bound_boolean s scope (more_binds v e bs) = both_trees (written_trees s e) (bound_trees s bs) (written_boolean s scope e) (bound_boolean s scope bs)

-- what holds of each place of a list holds of all
each_all : (P : Term → Type 0) (ts : List Term) → ((t : Term) → IsIn ts t → P t) → AllByRecursion P ts
each_all P [] h = tt
each_all P (t ∷ ts) h = (h t (record { place = 0; at = refl }), each_all P ts (λ u is. h u (record { place = suc is.place; at = is.at })))

-- the parts that were added for an expression stand for trees that are written, and are live
module _ (laws : AreKnown) (names : Named) (old new : World) (table : IsTable new) (e : Expr) (ps : List Term) (parts : AddsParts names old new e [] ps) (s : Scope) (named : AreNamed old s names) where
  each_part : (t : Term) → IsIn ps t → (d : Tree) × IsAmong d (written_trees s e) × IsBuiltFor new d t
  each_part t is = parts.each s named t (subst (λ z. IsIn z t) parts.is is)

  pub are_parts : ArePartsOf new (written_trees s e) ps
  are_parts = each_all (λ t. (part : Tree) × IsAmong part (written_trees s e) × StandsFor new part t) ps stand
    where
      stand : (t : Term) → IsIn ps t → (part : Tree) × IsAmong part (written_trees s e) × StandsFor new part t
      stand t is = let p = each_part t is in (p.0, p.1, (tree_stands laws new table p.0 t boolean (written_boolean laws.typed s named.truths e p.0 p.1) p.2).stands)

  pub parts_live : AreLive new ps
  parts_live i t at = let p = each_part t (record { place = i; at = at }) in built_live new p.0 t p.2
