-- What is built of the language: a command that holds anything else is refused.
use Rattle.std.specs.Prelude.{ℕ, Bool, true, false, ◌&&◌, List, map}
use Rattle.yices_grammar.specs.Words.{is_among}
use Rattle.yices_grammar.specs.Commands.{TypeExpr, type_at, bool, Expr, expr_at, Exprs, no_exprs, more_exprs, Binds, no_binds, more_binds, true_word, false_word, name, operation, let_in, apply, Action, declare, define, assert, check, check_assuming, show_unsat_assumptions, push, pop, reset, show_model, eval, echo, exit, Command}
use Rattle.yices_grammar.specs.Commands as form
use Rattle.expression_terms.specs.Trees.{operator_words}

-- the type is built
abbrev pub is_built_type : TypeExpr → Bool
is_built_type (type_at at bool) = true
is_built_type (type_at at _) = false

-- the word of an operator is built
abbrev pub is_built_word : List ℕ → Bool
is_built_word w = is_among (map (λ o. o.0) operator_words) w

-- the expression is built, with all its parts
unfoldable mutual
  pub is_built_expr : Expr → Bool
  is_built_expr (expr_at at true_word) = true
  is_built_expr (expr_at at false_word) = true
  is_built_expr (expr_at at (name w)) = true
  is_built_expr (expr_at at (operation w es)) = is_built_word w && are_built es
  is_built_expr (expr_at at (let_in bs e)) = binds_built bs && is_built_expr e
  is_built_expr (expr_at at (apply f es)) = is_built_expr f && are_built es
  is_built_expr (expr_at at (form.update f es e)) = is_built_expr f && (are_built es && is_built_expr e)
  is_built_expr (expr_at at _) = false

  pub are_built : Exprs → Bool
  are_built no_exprs = true
  are_built (more_exprs e es) = is_built_expr e && are_built es

  pub binds_built : Binds → Bool
  binds_built no_binds = true
  binds_built (more_binds w e bs) = is_built_expr e && binds_built bs

-- what a command does is built, with all its parts
abbrev pub is_built_action : Action → Bool
is_built_action (declare w of) = is_built_type of
is_built_action (define w of e) = is_built_type of && is_built_expr e
is_built_action (assert e) = is_built_expr e
is_built_action check = true
is_built_action (check_assuming ls) = true
is_built_action show_unsat_assumptions = true
is_built_action push = true
is_built_action pop = true
is_built_action reset = true
is_built_action show_model = true
is_built_action (eval e) = is_built_expr e
is_built_action (echo bytes) = true
is_built_action exit = true
is_built_action _ = false

-- the command is built
abbrev pub is_built : Command → Bool
is_built c = is_built_action c.action
