-- What a command of the code says.
use Rattle.std.specs.Prelude.{map}
use Rattle.yices_grammar.specs.Commands as grammar
use Rattle.yices_grammar.specs.Commands.{types, exprs, binds}
use Rattle.yices_commands.specs.declared.command.TypeExpr.{TypeExpr, fold-TypeExpr}
use Rattle.yices_commands.specs.declared.command.TypeForm.{TypeForm, fold-TypeForm}
use Rattle.yices_commands.specs.declared.command.TypeForm.TheOpen.{TypeExpr-F, TypeForm-F}
use Rattle.yices_commands.specs.declared.command.Expr.{Expr, fold-Expr}
use Rattle.yices_commands.specs.declared.command.ExprForm.{ExprForm, fold-ExprForm}
use Rattle.yices_commands.specs.declared.command.Bind.{Bind, fold-Bind}
use Rattle.yices_commands.specs.declared.command.ExprForm.TheOpen.{Expr-F, ExprForm-F, Bind-F}
use Rattle.yices_commands.specs.declared.command.Decl.{Decl}
use Rattle.yices_commands.specs.declared.command.LitExpr.{LitExpr}
use Rattle.yices_commands.specs.declared.command.Action.{Action}
use Rattle.yices_commands.specs.declared.command.Action.TheVariants as action
use Rattle.yices_commands.specs.declared.command.Command.{Command}

-- one layer of a type, where its parts are given as what they say
abbrev pub type_form_layer : TypeForm-F grammar.TypeForm grammar.TypeExpr → grammar.TypeForm
type_form_layer TypeForm-F.Bool = grammar.bool
type_form_layer TypeForm-F.Real = grammar.real
type_form_layer (TypeForm-F.Named w) = grammar.named w
type_form_layer (TypeForm-F.Bitvector n) = grammar.bitvector n
type_form_layer (TypeForm-F.Arrow ts t) = grammar.arrow (types ts) t

-- a type over its form
abbrev pub type_layer : TypeExpr-F grammar.TypeForm grammar.TypeExpr → grammar.TypeExpr
type_layer t = grammar.type_at t.place t.form

-- a type of the code as one of the grammar
unfoldable pub plain_type : TypeExpr → grammar.TypeExpr
plain_type = fold-TypeExpr grammar.TypeForm grammar.TypeExpr type_form_layer type_layer

-- what a type of the code is
unfoldable pub plain_type_form : TypeForm → grammar.TypeForm
plain_type_form = fold-TypeForm grammar.TypeForm grammar.TypeExpr type_form_layer type_layer

-- a declaration of the code as one of the grammar
abbrev pub plain_decl : Decl → grammar.Decl
plain_decl d = record { name = d.name; of = plain_type d.of }

-- one layer of an expression, where its parts are given as what they say
abbrev pub form_layer : ExprForm-F grammar.ExprForm grammar.Bind grammar.Expr → grammar.ExprForm
form_layer ExprForm-F.True = grammar.true_word
form_layer ExprForm-F.False = grammar.false_word
form_layer (ExprForm-F.Name w) = grammar.name w
form_layer (ExprForm-F.Number w) = grammar.number w
form_layer (ExprForm-F.Binary w) = grammar.binary w
form_layer (ExprForm-F.Hex w) = grammar.hex w
form_layer (ExprForm-F.Op w es) = grammar.operation w (exprs es)
form_layer (ExprForm-F.MkBv n k) = grammar.mk_bv n k
form_layer (ExprForm-F.Extract i j e) = grammar.extract i j e
form_layer (ExprForm-F.Counted w e k) = grammar.counted w e k
form_layer (ExprForm-F.Update f es e) = grammar.update f (exprs es) e
form_layer (ExprForm-F.Let bs e) = grammar.let_in (binds bs) e
form_layer (ExprForm-F.Forall ds e) = grammar.forall_in (map plain_decl ds) e
form_layer (ExprForm-F.Apply f es) = grammar.apply f (exprs es)

-- a binding over its expression
abbrev pub bind_layer : Bind-F grammar.ExprForm grammar.Bind grammar.Expr → grammar.Bind
bind_layer b = record { name = b.name; expr = b.expr }

-- an expression over its form
abbrev pub expr_layer : Expr-F grammar.ExprForm grammar.Bind grammar.Expr → grammar.Expr
expr_layer e = grammar.expr_at e.place e.form

-- an expression of the code as one of the grammar
unfoldable pub plain : Expr → grammar.Expr
plain = fold-Expr grammar.ExprForm grammar.Bind grammar.Expr form_layer bind_layer expr_layer

-- what an expression of the code is
unfoldable pub plain_form : ExprForm → grammar.ExprForm
plain_form = fold-ExprForm grammar.ExprForm grammar.Bind grammar.Expr form_layer bind_layer expr_layer

-- a binding of the code as one of the grammar
unfoldable pub plain_bind : Bind → grammar.Bind
plain_bind = fold-Bind grammar.ExprForm grammar.Bind grammar.Expr form_layer bind_layer expr_layer

-- a literal of the code as one of the grammar
abbrev pub plain_literal : LitExpr → grammar.LitExpr
plain_literal l = record { place = l.place; name_place = l.name_place; name = l.name; positive = l.positive }

-- an action of the code as one of the grammar
abbrev pub plain_action : Action → grammar.Action
plain_action (action.DefineType w) = grammar.define_type w
plain_action (action.DefineTypeAs w of) = grammar.define_type_as w (plain_type of)
plain_action (action.Declare w of) = grammar.declare w (plain_type of)
plain_action (action.Define w of e) = grammar.define w (plain_type of) (plain e)
plain_action (action.Assert e) = grammar.assert (plain e)
plain_action action.Check = grammar.check
plain_action (action.CheckAssuming ls) = grammar.check_assuming (map plain_literal ls)
plain_action action.ShowUnsatAssumptions = grammar.show_unsat_assumptions
plain_action action.Push = grammar.push
plain_action action.Pop = grammar.pop
plain_action action.Reset = grammar.reset
plain_action action.ShowModel = grammar.show_model
plain_action (action.Eval e) = grammar.eval (plain e)
plain_action action.ShowImplicant = grammar.show_implicant
plain_action action.EfSolve = grammar.ef_solve
plain_action (action.Echo bytes) = grammar.echo bytes
plain_action (action.Include bytes) = grammar.include bytes
plain_action action.Exit = grammar.exit

-- a command of the code as one of the grammar
abbrev pub plain_command : Command → grammar.Command
plain_command c = record { place = c.place; action = plain_action c.action }
