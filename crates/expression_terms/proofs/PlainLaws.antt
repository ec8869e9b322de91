-- What expressions and bindings of the code say, by their forms.
use Rattle.std.proofs.Common.{◌≡◌, ◌∙◌, ℕ, ◌<◌, ◌≤◌, ◌+◌, List, [], ◌∷◌, suc, length, map, drop, get_or, refl, sym, ap}
use Rattle.std.proofs.lemmas.List.{at_drop_more, at_drop_all}
use Rattle.yices_grammar.specs.Commands as grammar
use Rattle.yices_grammar.specs.Commands.{exprs, binds, no_exprs, more_exprs, no_binds, more_binds}
use Rattle.yices_commands.specs.declared.command.Expr.{Expr, out-Expr, fold_out-Expr}
use Rattle.yices_commands.specs.declared.command.Bind.{Bind, out-Bind, fold_out-Bind}
use Rattle.yices_commands.specs.declared.command.Decl.{Decl}
use Rattle.yices_commands.specs.declared.command.ExprForm.{ExprForm}
use Rattle.yices_commands.specs.declared.command.ExprForm.TheVariants as form
use Rattle.yices_commands.specs.Plain.{form_layer, bind_layer, expr_layer, plain, plain_form, plain_bind, plain_decl}
use Rattle.yices_commands.proofs.Plain.{form-True, form-False, form-Name, form-Number, form-Binary, form-Hex, form-Op, form-MkBv, form-Extract, form-Counted, form-Update, form-Let, form-Forall, form-Apply}
use Rattle.expression_terms.specs.Bound.{binding_names}
use Rattle.expression_terms.specs.Trees.{names_of}

-- an expression is its form at its place
plain_out : (e : Expr) → plain e ≡ grammar.expr_at (out-Expr e).place (plain_form (out-Expr e).form)
unfolding plain plain_form
plain_out e = fold_out-Expr grammar.ExprForm grammar.Bind grammar.Expr form_layer bind_layer expr_layer e

-- a binding is its name and its expression
pub plain_bound : (b : Bind) → plain_bind b ≡ record { name = (out-Bind b).name; expr = plain (out-Bind b).expr }
unfolding plain plain_bind
plain_bound b = fold_out-Bind grammar.ExprForm grammar.Bind grammar.Expr form_layer bind_layer expr_layer b

pub plain_bound_name : (b : Bind) → (plain_bind b).name ≡ (out-Bind b).name
plain_bound_name b = ap (λ (x : grammar.Bind). x.name) (plain_bound b)

-- an expression of a form
plain_at : (e : Expr) (f : ExprForm) (g : grammar.ExprForm) → (out-Expr e).form ≡ f → plain_form f ≡ g → plain e ≡ grammar.expr_at (out-Expr e).place g
plain_at e f g is says = plain_out e ∙ ap (λ h. grammar.expr_at (out-Expr e).place h) (ap plain_form is ∙ says)

pub plain_true : (e : Expr) → (out-Expr e).form ≡ form.True → plain e ≡ grammar.expr_at (out-Expr e).place grammar.true_word
plain_true e is = plain_at e form.True grammar.true_word is form-True

pub plain_false : (e : Expr) → (out-Expr e).form ≡ form.False → plain e ≡ grammar.expr_at (out-Expr e).place grammar.false_word
plain_false e is = plain_at e form.False grammar.false_word is form-False

pub plain_name : (e : Expr) (w : List ℕ) → (out-Expr e).form ≡ form.Name w → plain e ≡ grammar.expr_at (out-Expr e).place (grammar.name w)
plain_name e w is = plain_at e (form.Name w) (grammar.name w) is (form-Name w)

-- an expression of a form with parts, which are those that are handed on
pub plain_op : (e : Expr) (w : List ℕ) (xs ys : List Expr) → (out-Expr e).form ≡ form.Op w xs → ys ≡ xs → plain e ≡ grammar.expr_at (out-Expr e).place (grammar.operation w (exprs (map plain ys)))
plain_op e w xs ys is same =
    plain_at e (form.Op w xs) (grammar.operation w (exprs (map plain xs))) is (form-Op w xs) ∙ ap (λ zs. grammar.expr_at (out-Expr e).place (grammar.operation w (exprs (map plain zs)))) (sym same)

pub plain_let : (e : Expr) (xs ys : List Bind) (a b : Expr) → (out-Expr e).form ≡ form.Let xs a → ys ≡ xs → b ≡ a → plain e ≡ grammar.expr_at (out-Expr e).place (grammar.let_in (binds (map plain_bind ys)) (plain b))
plain_let e xs ys a b is same body =
    plain_at e (form.Let xs a) (grammar.let_in (binds (map plain_bind xs)) (plain a)) is (form-Let xs a)
    ∙ ap (λ zs. grammar.expr_at (out-Expr e).place (grammar.let_in (binds (map plain_bind zs)) (plain a))) (sym same)
    ∙ ap (λ z. grammar.expr_at (out-Expr e).place (grammar.let_in (binds (map plain_bind ys)) (plain z))) (sym body)

pub plain_apply : (e a f : Expr) (xs ys : List Expr) → (out-Expr e).form ≡ form.Apply a xs → f ≡ a → ys ≡ xs → plain e ≡ grammar.expr_at (out-Expr e).place (grammar.apply (plain f) (exprs (map plain ys)))
plain_apply e a f xs ys is function same =
    plain_at e (form.Apply a xs) (grammar.apply (plain a) (exprs (map plain xs))) is (form-Apply a xs)
    ∙ ap (λ z. grammar.expr_at (out-Expr e).place (grammar.apply (plain z) (exprs (map plain xs)))) (sym function)
    ∙ ap (λ zs. grammar.expr_at (out-Expr e).place (grammar.apply (plain f) (exprs (map plain zs)))) (sym same)

pub plain_update : (e a f : Expr) (xs ys : List Expr) (u v : Expr) → (out-Expr e).form ≡ form.Update a xs u → f ≡ a → ys ≡ xs → v ≡ u
    → plain e ≡ grammar.expr_at (out-Expr e).place (grammar.update (plain f) (exprs (map plain ys)) (plain v))
plain_update e a f xs ys u v is function same value =
    plain_at e (form.Update a xs u) (grammar.update (plain a) (exprs (map plain xs)) (plain u)) is (form-Update a xs u)
    ∙ ap (λ z. grammar.expr_at (out-Expr e).place (grammar.update (plain z) (exprs (map plain xs)) (plain u))) (sym function)
    ∙ ap (λ zs. grammar.expr_at (out-Expr e).place (grammar.update (plain f) (exprs (map plain zs)) (plain u))) (sym same)
    ∙ ap (λ z. grammar.expr_at (out-Expr e).place (grammar.update (plain f) (exprs (map plain ys)) (plain z))) (sym value)

-- forms that aren't built
pub plain_number : (e : Expr) (w : List ℕ) → (out-Expr e).form ≡ form.Number w → plain e ≡ grammar.expr_at (out-Expr e).place (grammar.number w)
plain_number e w is = plain_at e (form.Number w) (grammar.number w) is (form-Number w)

pub plain_binary : (e : Expr) (w : List ℕ) → (out-Expr e).form ≡ form.Binary w → plain e ≡ grammar.expr_at (out-Expr e).place (grammar.binary w)
plain_binary e w is = plain_at e (form.Binary w) (grammar.binary w) is (form-Binary w)

pub plain_hex : (e : Expr) (w : List ℕ) → (out-Expr e).form ≡ form.Hex w → plain e ≡ grammar.expr_at (out-Expr e).place (grammar.hex w)
plain_hex e w is = plain_at e (form.Hex w) (grammar.hex w) is (form-Hex w)

pub plain_mk_bv : (e : Expr) (n k : List ℕ) → (out-Expr e).form ≡ form.MkBv n k → plain e ≡ grammar.expr_at (out-Expr e).place (grammar.mk_bv n k)
plain_mk_bv e n k is = plain_at e (form.MkBv n k) (grammar.mk_bv n k) is (form-MkBv n k)

pub plain_extract : (e : Expr) (i j : List ℕ) (of : Expr) → (out-Expr e).form ≡ form.Extract i j of → plain e ≡ grammar.expr_at (out-Expr e).place (grammar.extract i j (plain of))
plain_extract e i j of is = plain_at e (form.Extract i j of) (grammar.extract i j (plain of)) is (form-Extract i j of)

pub plain_counted : (e : Expr) (w : List ℕ) (of : Expr) (k : List ℕ) → (out-Expr e).form ≡ form.Counted w of k → plain e ≡ grammar.expr_at (out-Expr e).place (grammar.counted w (plain of) k)
plain_counted e w of k is = plain_at e (form.Counted w of k) (grammar.counted w (plain of) k) is (form-Counted w of k)

pub plain_forall : (e : Expr) (ds : List Decl) (body : Expr) → (out-Expr e).form ≡ form.Forall ds body → plain e ≡ grammar.expr_at (out-Expr e).place (grammar.forall_in (map plain_decl ds) (plain body))
plain_forall e ds body is = plain_at e (form.Forall ds body) (grammar.forall_in (map plain_decl ds) (plain body)) is (form-Forall ds body)

-- what is left from index i on begins with what is there
pub left_at : (xs : List Expr) (i : ℕ) (x : Expr) → i < length xs → x ≡ get_or xs i x → exprs (map plain (drop i xs)) ≡ more_exprs (plain x) (exprs (map plain (drop (i + 1) xs)))
left_at xs i x h is = at_drop_more (λ r. exprs (map plain r)) xs i x h ∙ ap (λ y. more_exprs (plain y) (exprs (map plain (drop (i + 1) xs)))) (sym is)

pub none_left : (xs : List Expr) (i : ℕ) → length xs ≤ i → exprs (map plain (drop i xs)) ≡ no_exprs
none_left xs i h = at_drop_all (λ r. exprs (map plain r)) xs i h

pub bound_at : (xs : List Bind) (i : ℕ) (d : Bind) → i < length xs
    → binds (map plain_bind (drop i xs)) ≡ more_binds (out-Bind (get_or xs i d)).name (plain (out-Bind (get_or xs i d)).expr) (binds (map plain_bind (drop (i + 1) xs)))
bound_at xs i d h =
    at_drop_more (λ r. binds (map plain_bind r)) xs i d h ∙ ap (λ (y : grammar.Bind). more_binds y.name y.expr (binds (map plain_bind (drop (i + 1) xs)))) (plain_bound (get_or xs i d))

pub none_bound : (xs : List Bind) (i : ℕ) → length xs ≤ i → binds (map plain_bind (drop i xs)) ≡ no_binds
none_bound xs i h = at_drop_all (λ r. binds (map plain_bind r)) xs i h

-- the names that the code's bindings bind
pub names_same : (xs : List Bind) → names_of (binds (map plain_bind xs)) ≡ binding_names xs
names_same [] = refl
names_same (x ∷ xs) = ap (λ ws. (plain_bind x).name ∷ ws) (names_same xs)

pub names_count : (xs : List Bind) → length (binding_names xs) ≡ length xs
names_count [] = refl
names_count (x ∷ xs) = ap suc (names_count xs)
