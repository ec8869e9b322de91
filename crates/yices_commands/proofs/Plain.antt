-- What expressions and types of the code say, form by form.
use Rattle.std.proofs.Common.{◌≡◌, ◌∙◌, ℕ, List, map, sym, ap}
use Rattle.yices_grammar.specs.declared.Place.{Place}
use Rattle.yices_grammar.specs.Commands as grammar
use Rattle.yices_grammar.specs.Commands.{types, exprs, binds}
use Rattle.yices_commands.specs.declared.command.TypeExpr.{TypeExpr, fold-roll-TypeExpr, roll-TypeExpr}
use Rattle.yices_commands.specs.declared.command.TypeForm.{TypeForm, fold-TypeForm, fold-roll-TypeForm}
use Rattle.yices_commands.specs.declared.command.TypeForm.TheVariants as type_form
use Rattle.yices_commands.specs.declared.command.TypeForm.TheOpen.{TypeForm-F}
use Rattle.yices_commands.specs.declared.command.Expr.{Expr, fold-roll-Expr, roll-Expr}
use Rattle.yices_commands.specs.declared.command.ExprForm.{ExprForm, fold-ExprForm, fold-roll-ExprForm}
use Rattle.yices_commands.specs.declared.command.ExprForm.TheVariants as form
use Rattle.yices_commands.specs.declared.command.ExprForm.TheOpen.{ExprForm-F}
use Rattle.yices_commands.specs.declared.command.Bind.{Bind, fold-roll-Bind, roll-Bind}
use Rattle.yices_commands.specs.declared.command.Decl.{Decl}
use Rattle.yices_commands.specs.Plain.{type_form_layer, type_layer, plain_type, plain_type_form, plain_decl, form_layer, bind_layer, expr_layer, plain, plain_form, plain_bind}

-- the expression of a form at a place
pub plain-roll : (p : Place) (f : ExprForm) → plain (roll-Expr (record { place = p; form = f })) ≡ grammar.expr_at p (plain_form f)
unfolding plain plain_form
plain-roll p f = fold-roll-Expr grammar.ExprForm grammar.Bind grammar.Expr form_layer bind_layer expr_layer (record { place = p; form = f })

pub plain-roll-bind : (w : List ℕ) (e : Expr) → plain_bind (roll-Bind (record { name = w; expr = e })) ≡ record { name = w; expr = plain e }
unfolding plain plain_bind
plain-roll-bind w e = fold-roll-Bind grammar.ExprForm grammar.Bind grammar.Expr form_layer bind_layer expr_layer (record { name = w; expr = e })

pub plain-roll-type : (p : Place) (f : TypeForm) → plain_type (roll-TypeExpr (record { place = p; form = f })) ≡ grammar.type_at p (plain_type_form f)
unfolding plain_type plain_type_form
plain-roll-type p f = fold-roll-TypeExpr grammar.TypeForm grammar.TypeExpr type_form_layer type_layer (record { place = p; form = f })

abbrev layered : ExprForm → grammar.ExprForm
layered = fold-ExprForm grammar.ExprForm grammar.Bind grammar.Expr form_layer bind_layer expr_layer

abbrev layered_type : TypeForm → grammar.TypeForm
layered_type = fold-TypeForm grammar.TypeForm grammar.TypeExpr type_form_layer type_layer

pub form-True : plain_form form.True ≡ grammar.true_word
unfolding plain_form
form-True = ap layered (sym form.rolls-True) ∙ fold-roll-ExprForm grammar.ExprForm grammar.Bind grammar.Expr form_layer bind_layer expr_layer ExprForm-F.True

pub form-False : plain_form form.False ≡ grammar.false_word
unfolding plain_form
form-False = ap layered (sym form.rolls-False) ∙ fold-roll-ExprForm grammar.ExprForm grammar.Bind grammar.Expr form_layer bind_layer expr_layer ExprForm-F.False

pub form-Name : (w : List ℕ) → plain_form (form.Name w) ≡ grammar.name w
unfolding plain_form plain plain_bind
form-Name w = ap layered (sym (form.rolls-Name w)) ∙ fold-roll-ExprForm grammar.ExprForm grammar.Bind grammar.Expr form_layer bind_layer expr_layer (ExprForm-F.Name w)

pub form-Number : (w : List ℕ) → plain_form (form.Number w) ≡ grammar.number w
unfolding plain_form plain plain_bind
form-Number w = ap layered (sym (form.rolls-Number w)) ∙ fold-roll-ExprForm grammar.ExprForm grammar.Bind grammar.Expr form_layer bind_layer expr_layer (ExprForm-F.Number w)

pub form-Binary : (w : List ℕ) → plain_form (form.Binary w) ≡ grammar.binary w
unfolding plain_form plain plain_bind
form-Binary w = ap layered (sym (form.rolls-Binary w)) ∙ fold-roll-ExprForm grammar.ExprForm grammar.Bind grammar.Expr form_layer bind_layer expr_layer (ExprForm-F.Binary w)

pub form-Hex : (w : List ℕ) → plain_form (form.Hex w) ≡ grammar.hex w
unfolding plain_form plain plain_bind
form-Hex w = ap layered (sym (form.rolls-Hex w)) ∙ fold-roll-ExprForm grammar.ExprForm grammar.Bind grammar.Expr form_layer bind_layer expr_layer (ExprForm-F.Hex w)

pub form-Op : (w : List ℕ) (es : List Expr) → plain_form (form.Op w es) ≡ grammar.operation w (exprs (map plain es))
unfolding plain_form plain plain_bind
form-Op w es = ap layered (sym (form.rolls-Op w es)) ∙ fold-roll-ExprForm grammar.ExprForm grammar.Bind grammar.Expr form_layer bind_layer expr_layer (ExprForm-F.Op w es)

pub form-MkBv : (n k : List ℕ) → plain_form (form.MkBv n k) ≡ grammar.mk_bv n k
unfolding plain_form plain plain_bind
form-MkBv n k = ap layered (sym (form.rolls-MkBv n k)) ∙ fold-roll-ExprForm grammar.ExprForm grammar.Bind grammar.Expr form_layer bind_layer expr_layer (ExprForm-F.MkBv n k)

pub form-Extract : (i j : List ℕ) (e : Expr) → plain_form (form.Extract i j e) ≡ grammar.extract i j (plain e)
unfolding plain_form plain plain_bind
form-Extract i j e = ap layered (sym (form.rolls-Extract i j e)) ∙ fold-roll-ExprForm grammar.ExprForm grammar.Bind grammar.Expr form_layer bind_layer expr_layer (ExprForm-F.Extract i j e)

pub form-Counted : (w : List ℕ) (e : Expr) (k : List ℕ) → plain_form (form.Counted w e k) ≡ grammar.counted w (plain e) k
unfolding plain_form plain plain_bind
form-Counted w e k = ap layered (sym (form.rolls-Counted w e k)) ∙ fold-roll-ExprForm grammar.ExprForm grammar.Bind grammar.Expr form_layer bind_layer expr_layer (ExprForm-F.Counted w e k)

pub form-Update : (f : Expr) (es : List Expr) (e : Expr) → plain_form (form.Update f es e) ≡ grammar.update (plain f) (exprs (map plain es)) (plain e)
unfolding plain_form plain plain_bind
form-Update f es e = ap layered (sym (form.rolls-Update f es e)) ∙ fold-roll-ExprForm grammar.ExprForm grammar.Bind grammar.Expr form_layer bind_layer expr_layer (ExprForm-F.Update f es e)

pub form-Let : (bs : List Bind) (e : Expr) → plain_form (form.Let bs e) ≡ grammar.let_in (binds (map plain_bind bs)) (plain e)
unfolding plain_form plain plain_bind
form-Let bs e = ap layered (sym (form.rolls-Let bs e)) ∙ fold-roll-ExprForm grammar.ExprForm grammar.Bind grammar.Expr form_layer bind_layer expr_layer (ExprForm-F.Let bs e)

pub form-Forall : (ds : List Decl) (e : Expr) → plain_form (form.Forall ds e) ≡ grammar.forall_in (map plain_decl ds) (plain e)
unfolding plain_form plain plain_bind
form-Forall ds e = ap layered (sym (form.rolls-Forall ds e)) ∙ fold-roll-ExprForm grammar.ExprForm grammar.Bind grammar.Expr form_layer bind_layer expr_layer (ExprForm-F.Forall ds e)

pub form-Apply : (f : Expr) (es : List Expr) → plain_form (form.Apply f es) ≡ grammar.apply (plain f) (exprs (map plain es))
unfolding plain_form plain plain_bind
form-Apply f es = ap layered (sym (form.rolls-Apply f es)) ∙ fold-roll-ExprForm grammar.ExprForm grammar.Bind grammar.Expr form_layer bind_layer expr_layer (ExprForm-F.Apply f es)

pub type-Bool : plain_type_form (type_form.Bool) ≡ grammar.bool
unfolding plain_type_form plain_type
type-Bool = ap layered_type (sym (type_form.rolls-Bool)) ∙ fold-roll-TypeForm grammar.TypeForm grammar.TypeExpr type_form_layer type_layer (TypeForm-F.Bool)

pub type-Real : plain_type_form (type_form.Real) ≡ grammar.real
unfolding plain_type_form plain_type
type-Real = ap layered_type (sym (type_form.rolls-Real)) ∙ fold-roll-TypeForm grammar.TypeForm grammar.TypeExpr type_form_layer type_layer (TypeForm-F.Real)

pub type-Named : (w : List ℕ) → plain_type_form (type_form.Named w) ≡ grammar.named w
unfolding plain_type_form plain_type
type-Named w = ap layered_type (sym (type_form.rolls-Named w)) ∙ fold-roll-TypeForm grammar.TypeForm grammar.TypeExpr type_form_layer type_layer (TypeForm-F.Named w)

pub type-Bitvector : (n : List ℕ) → plain_type_form (type_form.Bitvector n) ≡ grammar.bitvector n
unfolding plain_type_form plain_type
type-Bitvector n = ap layered_type (sym (type_form.rolls-Bitvector n)) ∙ fold-roll-TypeForm grammar.TypeForm grammar.TypeExpr type_form_layer type_layer (TypeForm-F.Bitvector n)

pub type-Arrow : (ts : List TypeExpr) (t : TypeExpr) → plain_type_form (type_form.Arrow ts t) ≡ grammar.arrow (types (map plain_type ts)) (plain_type t)
unfolding plain_type_form plain_type
type-Arrow ts t = ap layered_type (sym (type_form.rolls-Arrow ts t)) ∙ fold-roll-TypeForm grammar.TypeForm grammar.TypeExpr type_form_layer type_layer (TypeForm-F.Arrow ts t)
