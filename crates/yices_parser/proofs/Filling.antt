-- What an expression leads to in the form in which it was due.
use Rattle.std.proofs.Common.{◌≡◌, ◌∙◌, ℕ, List, [], ◌∷◌, ◌++◌, map, refl, sym, ap, subst, append_assoc}
use Rattle.std.proofs.Math.Path.{fun_ext}
use Rattle.std.proofs.lemmas.List.{map-append}
use Rattle.yices_grammar.specs.declared.Place.{Place}
use Rattle.yices_grammar.specs.Commands as grammar
use Rattle.yices_grammar.specs.Commands.{expr_at, operation, update, apply, let_in, exprs, binds}
use Rattle.yices_grammar.specs.Parts.{closing, expression, binding, sign, part, many}
use Rattle.yices_commands.specs.declared.command.Expr.{Expr}
use Rattle.yices_commands.specs.declared.command.Bind.{Bind, roll-Bind}
use Rattle.yices_commands.specs.declared.command.Decl.{Decl}
use Rattle.yices_commands.specs.declared.command.ExprForm.TheVariants as form
use Rattle.yices_commands.specs.declared.state.Opened.{Opened}
use Rattle.yices_commands.specs.declared.state.Opened.TheVariants as opened
use Rattle.yices_commands.specs.declared.state.Due.{Due}
use Rattle.yices_commands.specs.declared.state.Due.TheVariants as due
use Rattle.yices_commands.specs.declared.state.Filled.{Filled}
use Rattle.yices_commands.specs.declared.state.Filled.TheVariants as filled_form
use Rattle.yices_commands.specs.Plain.{plain, plain_bind}
use Rattle.yices_parser.specs.States.{Hole, leaves, form_hole, form_due, token_due}
use Rattle.yices_parser.specs.Steps.{filled, filled_left, Fills}
use Rattle.yices_commands.proofs.Plain.{form-Extract, form-Update, form-Let, form-Forall, plain-roll-bind}

-- one item more, before the others
pub more_items : {A B : Type 0} (f : A → B) (xs ys : List A) (x : A) → ys ≡ xs ++ x ∷ [] → ◌≡◌ {A = List B → List B} (λ zs. map f ys ++ zs) (λ zs. map f xs ++ f x ∷ zs)
more_items f xs ys x h = fun_ext (λ zs. ap (λ us. map f us ++ zs) h ∙ ap (λ us. us ++ zs) (map-append f xs (x ∷ [])) ∙ append_assoc (map f xs) (f x ∷ []) zs)

by_form : (o n : Opened) (e : grammar.Expr) (f : Filled) → o ≡ n → ((q : Place) (rest : Hole grammar.Expr) → filled_left f q rest ≡ filled (form_hole n q rest) e) → Fills o e f
by_form o n e f h g = subst (λ x. Fills x e f) (sym h) (record { left_is = g })

ends_form : (o n : Opened) (e : grammar.Expr) (d f : Due) → o ≡ n → d ≡ f → ((q : Place) (rest : Hole grammar.Expr) → token_due f q rest ≡ filled (form_hole n q rest) e) → Fills o e (filled_form.Due d)
ends_form o n e d f h k g = subst (λ x. Fills o e (filled_form.Due x)) (sym k) (by_form o n e (filled_form.Due f) h g)

pub fills_op : (o : Opened) (w : List ℕ) (es ys : List Expr) (e : Expr) → o ≡ opened.Op w es → ys ≡ es ++ e ∷ [] → Fills o (plain e) (filled_form.Opened (opened.Op w ys))
fills_op o w es ys e h k = by_form o (opened.Op w es) (plain e) (filled_form.Opened (opened.Op w ys)) h (λ q rest.
    ap (λ (g : List grammar.Expr → List grammar.Expr). leaves (many expression ∷ sign closing ∷ rest.items) (λ xs. rest.make (expr_at q (operation w (exprs (g xs)))))) (more_items plain es ys e k))

pub fills_extract : (o : Opened) (i j : List ℕ) (e : Expr) (d : Due) → o ≡ opened.Extract i j → d ≡ due.End (form.Extract i j e) → Fills o (plain e) (filled_form.Due d)
fills_extract o i j e d h k = ends_form o (opened.Extract i j) (plain e) d (due.End (form.Extract i j e)) h k (λ q rest. ap (λ f. leaves (sign closing ∷ rest.items) (rest.make (expr_at q f))) (form-Extract i j e))

pub fills_counted : (o : Opened) (w : List ℕ) (e : Expr) → o ≡ opened.Counted w → Fills o (plain e) (filled_form.Due (due.Count w e))
fills_counted o w e h = by_form o (opened.Counted w) (plain e) (filled_form.Due (due.Count w e)) h (λ q rest. refl)

pub fills_update : (o : Opened) (e : Expr) → o ≡ opened.Update → Fills o (plain e) (filled_form.Due (due.Arguments e))
fills_update o e h = by_form o opened.Update (plain e) (filled_form.Due (due.Arguments e)) h (λ q rest. refl)

arguments_due : (f : Expr) (es ys : List Expr) (e : Expr) (q : Place) (rest : Hole grammar.Expr) → ys ≡ es ++ e ∷ []
    → form_due (opened.Arguments f ys) q rest ≡ leaves (many expression ∷ sign closing ∷ part expression ∷ sign closing ∷ rest.items) (λ xs v. rest.make (expr_at q (update (plain f) (exprs (map plain ys ++ xs)) v)))
arguments_due f [] ys e q rest h = subst (λ zs. form_due (opened.Arguments f zs) q rest
    ≡ leaves (many expression ∷ sign closing ∷ part expression ∷ sign closing ∷ rest.items) (λ xs v. rest.make (expr_at q (update (plain f) (exprs (map plain zs ++ xs)) v)))) (sym h) refl
arguments_due f (x ∷ es) ys e q rest h = subst (λ zs. form_due (opened.Arguments f zs) q rest
    ≡ leaves (many expression ∷ sign closing ∷ part expression ∷ sign closing ∷ rest.items) (λ xs v. rest.make (expr_at q (update (plain f) (exprs (map plain zs ++ xs)) v)))) (sym h) refl

pub fills_arguments : (o : Opened) (f : Expr) (es ys : List Expr) (e : Expr) → o ≡ opened.Arguments f es → ys ≡ es ++ e ∷ [] → Fills o (plain e) (filled_form.Opened (opened.Arguments f ys))
fills_arguments o f es ys e h k = by_form o (opened.Arguments f es) (plain e) (filled_form.Opened (opened.Arguments f ys)) h (λ q rest.
    arguments_due f es ys e q rest k
    ∙ ap (λ (g : List grammar.Expr → List grammar.Expr). leaves (many expression ∷ sign closing ∷ part expression ∷ sign closing ∷ rest.items) (λ xs v. rest.make (expr_at q (update (plain f) (exprs (g xs)) v)))) (more_items plain es ys e k))

pub fills_value : (o : Opened) (f : Expr) (es : List Expr) (e : Expr) (d : Due) → o ≡ opened.Value f es → d ≡ due.End (form.Update f es e) → Fills o (plain e) (filled_form.Due d)
fills_value o f es e d h k = ends_form o (opened.Value f es) (plain e) d (due.End (form.Update f es e)) h k (λ q rest. ap (λ x. leaves (sign closing ∷ rest.items) (rest.make (expr_at q x))) (form-Update f es e))

pub fills_bind : (o : Opened) (bs : List Bind) (w : List ℕ) (e : Expr) → o ≡ opened.Bind bs w → Fills o (plain e) (filled_form.Due (due.BindingEnd bs (roll-Bind (record { name = w; expr = e }))))
fills_bind o bs w e h = by_form o (opened.Bind bs w) (plain e) (filled_form.Due (due.BindingEnd bs (roll-Bind (record { name = w; expr = e })))) h (λ q rest.
    ap (λ b. leaves (sign closing ∷ many binding ∷ sign closing ∷ part expression ∷ sign closing ∷ rest.items) (λ ys v. rest.make (expr_at q (let_in (binds (map plain_bind bs ++ b ∷ ys)) v)))) (plain-roll-bind w e))

pub fills_let : (o : Opened) (bs : List Bind) (e : Expr) (d : Due) → o ≡ opened.Let bs → d ≡ due.End (form.Let bs e) → Fills o (plain e) (filled_form.Due d)
fills_let o bs e d h k = ends_form o (opened.Let bs) (plain e) d (due.End (form.Let bs e)) h k (λ q rest. ap (λ f. leaves (sign closing ∷ rest.items) (rest.make (expr_at q f))) (form-Let bs e))

pub fills_forall : (o : Opened) (ds : List Decl) (e : Expr) (d : Due) → o ≡ opened.Forall ds → d ≡ due.End (form.Forall ds e) → Fills o (plain e) (filled_form.Due d)
fills_forall o ds e d h k = ends_form o (opened.Forall ds) (plain e) d (due.End (form.Forall ds e)) h k (λ q rest. ap (λ f. leaves (sign closing ∷ rest.items) (rest.make (expr_at q f))) (form-Forall ds e))

apply_due : (f : Expr) (es ys : List Expr) (e : Expr) (q : Place) (rest : Hole grammar.Expr) → ys ≡ es ++ e ∷ []
    → form_due (opened.Apply f ys) q rest ≡ leaves (many expression ∷ sign closing ∷ rest.items) (λ xs. rest.make (expr_at q (apply (plain f) (exprs (map plain ys ++ xs)))))
apply_due f [] ys e q rest h =
    subst (λ zs. form_due (opened.Apply f zs) q rest ≡ leaves (many expression ∷ sign closing ∷ rest.items) (λ xs. rest.make (expr_at q (apply (plain f) (exprs (map plain zs ++ xs)))))) (sym h) refl
apply_due f (x ∷ es) ys e q rest h =
    subst (λ zs. form_due (opened.Apply f zs) q rest ≡ leaves (many expression ∷ sign closing ∷ rest.items) (λ xs. rest.make (expr_at q (apply (plain f) (exprs (map plain zs ++ xs)))))) (sym h) refl

pub fills_apply : (o : Opened) (f : Expr) (es ys : List Expr) (e : Expr) → o ≡ opened.Apply f es → ys ≡ es ++ e ∷ [] → Fills o (plain e) (filled_form.Opened (opened.Apply f ys))
fills_apply o f es ys e h k = by_form o (opened.Apply f es) (plain e) (filled_form.Opened (opened.Apply f ys)) h (λ q rest.
    apply_due f es ys e q rest k
    ∙ ap (λ (g : List grammar.Expr → List grammar.Expr). leaves (many expression ∷ sign closing ∷ rest.items) (λ xs. rest.make (expr_at q (apply (plain f) (exprs (g xs)))))) (more_items plain es ys e k))

pub fills_head : (o : Opened) (es : List Expr) (e : Expr) → o ≡ opened.Head → es ≡ [] → Fills o (plain e) (filled_form.Opened (opened.Apply e es))
fills_head o es e h k = subst (λ xs. Fills o (plain e) (filled_form.Opened (opened.Apply e xs))) (sym k) (by_form o opened.Head (plain e) (filled_form.Opened (opened.Apply e [])) h (λ q rest. refl))
