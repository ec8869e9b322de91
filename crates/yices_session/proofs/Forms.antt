-- Which forms of types and expressions are built.
use Rattle.std.proofs.Common.{◌≡◌, ◌∙◌, ◌<◌, ◌≤◌, ◌+◌, ℕ, Bool, true, false, List, map, drop, length, get_or, refl, sym, ap}
use Rattle.std.specs.Prelude.{◌&&◌}
use Rattle.yices_grammar.specs.Commands as grammar
use Rattle.yices_grammar.specs.Commands.{exprs, binds}
use Rattle.yices_commands.specs.declared.command.TypeExpr.{TypeExpr, out-TypeExpr}
use Rattle.yices_commands.specs.declared.command.TypeForm.TheVariants as type_form
use Rattle.yices_commands.specs.declared.command.Expr.{Expr, out-Expr}
use Rattle.yices_commands.specs.declared.command.ExprForm.TheVariants as form
use Rattle.yices_commands.specs.declared.command.Bind.{Bind, out-Bind}
use Rattle.yices_commands.specs.declared.command.Decl.{Decl}
use Rattle.yices_commands.specs.Plain.{plain_type, plain, plain_bind}
use Rattle.yices_commands.proofs.Plain.{type-Bool, type-Real, type-Named, type-Bitvector, type-Arrow}
use Rattle.expression_terms.proofs.PlainLaws.{plain_true, plain_false, plain_name, plain_op, plain_let, plain_apply, plain_update, plain_number, plain_binary, plain_hex, plain_mk_bv, plain_extract, plain_counted, plain_forall, left_at, none_left, bound_at, none_bound}
use Rattle.yices_session.specs.Built.{is_built_type, is_built_word, is_built_expr, are_built, binds_built}
use Rattle.yices_session.proofs.PlainLaws.{type_of}

-- types
pub bool_type : (t : TypeExpr) → (out-TypeExpr t).form ≡ type_form.Bool → true ≡ is_built_type (plain_type t)
bool_type t is = sym (ap is_built_type (type_of t type_form.Bool grammar.bool is type-Bool))

pub real_type : (t : TypeExpr) → (out-TypeExpr t).form ≡ type_form.Real → false ≡ is_built_type (plain_type t)
real_type t is = sym (ap is_built_type (type_of t type_form.Real grammar.real is type-Real))

pub named_type : (t : TypeExpr) (w : List ℕ) → (out-TypeExpr t).form ≡ type_form.Named w → false ≡ is_built_type (plain_type t)
named_type t w is = sym (ap is_built_type (type_of t (type_form.Named w) (grammar.named w) is (type-Named w)))

pub bitvector_type : (t : TypeExpr) (w : List ℕ) → (out-TypeExpr t).form ≡ type_form.Bitvector w → false ≡ is_built_type (plain_type t)
bitvector_type t w is = sym (ap is_built_type (type_of t (type_form.Bitvector w) (grammar.bitvector w) is (type-Bitvector w)))

pub arrow_type : (t : TypeExpr) (us : List TypeExpr) (u : TypeExpr) → (out-TypeExpr t).form ≡ type_form.Arrow us u → false ≡ is_built_type (plain_type t)
arrow_type t us u is =
    sym (ap is_built_type (type_of t (type_form.Arrow us u) (grammar.arrow (grammar.types (map plain_type us)) (plain_type u)) is (type-Arrow us u)))

-- expressions without parts that are built
pub true_built : (e : Expr) → (out-Expr e).form ≡ form.True → true ≡ is_built_expr (plain e)
unfolding is_built_expr
true_built e is = sym (ap is_built_expr (plain_true e is))

pub false_built : (e : Expr) → (out-Expr e).form ≡ form.False → true ≡ is_built_expr (plain e)
unfolding is_built_expr
false_built e is = sym (ap is_built_expr (plain_false e is))

pub name_built : (e : Expr) (w : List ℕ) → (out-Expr e).form ≡ form.Name w → true ≡ is_built_expr (plain e)
unfolding is_built_expr
name_built e w is = sym (ap is_built_expr (plain_name e w is))

-- expressions that aren't
pub number_unbuilt : (e : Expr) (w : List ℕ) → (out-Expr e).form ≡ form.Number w → false ≡ is_built_expr (plain e)
unfolding is_built_expr
number_unbuilt e w is = sym (ap is_built_expr (plain_number e w is))

pub binary_unbuilt : (e : Expr) (w : List ℕ) → (out-Expr e).form ≡ form.Binary w → false ≡ is_built_expr (plain e)
unfolding is_built_expr
binary_unbuilt e w is = sym (ap is_built_expr (plain_binary e w is))

pub hex_unbuilt : (e : Expr) (w : List ℕ) → (out-Expr e).form ≡ form.Hex w → false ≡ is_built_expr (plain e)
unfolding is_built_expr
hex_unbuilt e w is = sym (ap is_built_expr (plain_hex e w is))

pub mk_bv_unbuilt : (e : Expr) (n k : List ℕ) → (out-Expr e).form ≡ form.MkBv n k → false ≡ is_built_expr (plain e)
unfolding is_built_expr
mk_bv_unbuilt e n k is = sym (ap is_built_expr (plain_mk_bv e n k is))

pub extract_unbuilt : (e : Expr) (i j : List ℕ) (of : Expr) → (out-Expr e).form ≡ form.Extract i j of → false ≡ is_built_expr (plain e)
unfolding is_built_expr
extract_unbuilt e i j of is = sym (ap is_built_expr (plain_extract e i j of is))

pub counted_unbuilt : (e : Expr) (w : List ℕ) (of : Expr) (k : List ℕ) → (out-Expr e).form ≡ form.Counted w of k → false ≡ is_built_expr (plain e)
unfolding is_built_expr
counted_unbuilt e w of k is = sym (ap is_built_expr (plain_counted e w of k is))

pub forall_unbuilt : (e : Expr) (ds : List Decl) (body : Expr) → (out-Expr e).form ≡ form.Forall ds body → false ≡ is_built_expr (plain e)
unfolding is_built_expr
forall_unbuilt e ds body is = sym (ap is_built_expr (plain_forall e ds body is))

-- two tests one after another: the second decides where the first holds, and else the first
both_then : (a b x y : Bool) → a ≡ x → a ≡ true → b ≡ y → b ≡ (x && y)
both_then a b x y first holds second = second ∙ sym (ap (λ z. z && y) (sym first ∙ holds))

both_else : (a x y : Bool) → a ≡ x → a ≡ false → a ≡ (x && y)
both_else a x y first fails = fails ∙ sym (ap (λ z. z && y) (sym first ∙ fails))

three : (x y z : Bool) → (x && y) && z ≡ x && (y && z)
three true y z = refl
three false y z = refl

-- the operator's word, and then its arguments
operation_built : (e : Expr) (w : List ℕ) (xs ys : List Expr) → (out-Expr e).form ≡ form.Op w xs → ys ≡ xs → is_built_expr (plain e) ≡ (is_built_word w && are_built (exprs (map plain ys)))
unfolding is_built_expr
operation_built e w xs ys is same = ap is_built_expr (plain_op e w xs ys is same)

pub operation_then : (e : Expr) (w : List ℕ) (xs ys : List Expr) (a b : Bool) → (out-Expr e).form ≡ form.Op w xs → ys ≡ xs → a ≡ is_built_word w → a ≡ true
    → b ≡ are_built (exprs (map plain ys)) → b ≡ is_built_expr (plain e)
operation_then e w xs ys a b is same known holds all = both_then a b _ _ known holds all ∙ sym (operation_built e w xs ys is same)

pub operation_else : (e : Expr) (w : List ℕ) (xs : List Expr) (a : Bool) → (out-Expr e).form ≡ form.Op w xs → a ≡ is_built_word w → a ≡ false → a ≡ is_built_expr (plain e)
operation_else e w xs a is known fails = both_else a _ _ known fails ∙ sym (operation_built e w xs xs is refl)

-- what names are bound to, and then the expression in which they are
let_built : (e : Expr) (xs ys : List Bind) (u v : Expr) → (out-Expr e).form ≡ form.Let xs u → ys ≡ xs → v ≡ u → is_built_expr (plain e) ≡ (binds_built (binds (map plain_bind ys)) && is_built_expr (plain v))
unfolding is_built_expr
let_built e xs ys u v is same body = ap is_built_expr (plain_let e xs ys u v is same body)

pub let_then : (e : Expr) (xs ys : List Bind) (u v : Expr) (a b : Bool) → (out-Expr e).form ≡ form.Let xs u → ys ≡ xs → v ≡ u → a ≡ binds_built (binds (map plain_bind ys)) → a ≡ true
    → b ≡ is_built_expr (plain v) → b ≡ is_built_expr (plain e)
let_then e xs ys u v a b is same body known holds inner = both_then a b _ _ known holds inner ∙ sym (let_built e xs ys u v is same body)

pub let_else : (e : Expr) (xs ys : List Bind) (u : Expr) (a : Bool) → (out-Expr e).form ≡ form.Let xs u → ys ≡ xs → a ≡ binds_built (binds (map plain_bind ys)) → a ≡ false → a ≡ is_built_expr (plain e)
let_else e xs ys u a is same known fails = both_else a _ _ known fails ∙ sym (let_built e xs ys u u is same refl)

-- a function, and then its arguments
apply_built : (e u f : Expr) (xs ys : List Expr) → (out-Expr e).form ≡ form.Apply u xs → f ≡ u → ys ≡ xs → is_built_expr (plain e) ≡ (is_built_expr (plain f) && are_built (exprs (map plain ys)))
unfolding is_built_expr
apply_built e u f xs ys is function same = ap is_built_expr (plain_apply e u f xs ys is function same)

pub apply_then : (e u f : Expr) (xs ys : List Expr) (a b : Bool) → (out-Expr e).form ≡ form.Apply u xs → f ≡ u → ys ≡ xs → a ≡ is_built_expr (plain f) → a ≡ true
    → b ≡ are_built (exprs (map plain ys)) → b ≡ is_built_expr (plain e)
apply_then e u f xs ys a b is function same known holds all = both_then a b _ _ known holds all ∙ sym (apply_built e u f xs ys is function same)

pub apply_else : (e u f : Expr) (xs : List Expr) (a : Bool) → (out-Expr e).form ≡ form.Apply u xs → f ≡ u → a ≡ is_built_expr (plain f) → a ≡ false → a ≡ is_built_expr (plain e)
apply_else e u f xs a is function known fails = both_else a _ _ known fails ∙ sym (apply_built e u f xs xs is function refl)

-- a function, its arguments, and then its new value there
update_built : (e u f : Expr) (xs ys : List Expr) (v n : Expr) → (out-Expr e).form ≡ form.Update u xs v → f ≡ u → ys ≡ xs → n ≡ v
    → is_built_expr (plain e) ≡ ((is_built_expr (plain f) && are_built (exprs (map plain ys))) && is_built_expr (plain n))
unfolding is_built_expr
update_built e u f xs ys v n is function same value = ap is_built_expr (plain_update e u f xs ys v n is function same value) ∙ sym (three (is_built_expr (plain f)) (are_built (exprs (map plain ys))) (is_built_expr (plain n)))

pub call_then : (f : Expr) (xs ys : List Expr) (a b d : Bool) → ys ≡ xs → a ≡ is_built_expr (plain f) → a ≡ true → b ≡ are_built (exprs (map plain ys)) → d ≡ b
    → d ≡ (is_built_expr (plain f) && are_built (exprs (map plain xs)))
call_then f xs ys a b d same known holds all is = is ∙ both_then a b _ _ known holds (all ∙ ap (λ zs. are_built (exprs (map plain zs))) same)

pub call_else : (f : Expr) (xs : List Expr) (a d : Bool) → a ≡ is_built_expr (plain f) → a ≡ false → d ≡ a → d ≡ (is_built_expr (plain f) && are_built (exprs (map plain xs)))
call_else f xs a d known fails is = is ∙ both_else a _ _ known fails

pub update_then : (e u f : Expr) (xs : List Expr) (v n : Expr) (a b : Bool) → (out-Expr e).form ≡ form.Update u xs v → f ≡ u → n ≡ v → a ≡ (is_built_expr (plain f) && are_built (exprs (map plain xs))) → a ≡ true
    → b ≡ is_built_expr (plain n) → b ≡ is_built_expr (plain e)
update_then e u f xs v n a b is function value known holds inner = both_then a b _ _ known holds inner ∙ sym (update_built e u f xs xs v n is function refl value)

pub update_else : (e u f : Expr) (xs : List Expr) (v : Expr) (a : Bool) → (out-Expr e).form ≡ form.Update u xs v → f ≡ u → a ≡ (is_built_expr (plain f) && are_built (exprs (map plain xs))) → a ≡ false
    → a ≡ is_built_expr (plain e)
update_else e u f xs v a is function known fails = both_else a _ _ known fails ∙ sym (update_built e u f xs xs v v is function refl refl)

-- lists of expressions
pub built_more : (xs : List Expr) (i : ℕ) (x : Expr) → i < length xs → x ≡ get_or xs i x → true ≡ is_built_expr (plain x)
    → are_built (exprs (map plain (drop i xs))) ≡ are_built (exprs (map plain (drop (i + 1) xs)))
unfolding are_built
built_more xs i x h is holds = ap are_built (left_at xs i x h is) ∙ ap (λ b. b && are_built (exprs (map plain (drop (i + 1) xs)))) (sym holds)

pub built_stop : (xs : List Expr) (i : ℕ) (x : Expr) → i < length xs → x ≡ get_or xs i x → false ≡ is_built_expr (plain x)
    → are_built (exprs (map plain xs)) ≡ are_built (exprs (map plain (drop i xs))) → false ≡ are_built (exprs (map plain xs))
unfolding are_built
built_stop xs i x h is fails known =
    sym (known ∙ ap are_built (left_at xs i x h is) ∙ ap (λ b. b && are_built (exprs (map plain (drop (i + 1) xs)))) (sym fails))

pub built_all : (xs : List Expr) (i : ℕ) → length xs ≤ i → are_built (exprs (map plain xs)) ≡ are_built (exprs (map plain (drop i xs))) → true ≡ are_built (exprs (map plain xs))
unfolding are_built
built_all xs i h known = sym (known ∙ ap are_built (none_left xs i h))

-- lists of bindings
pub bound_more : (xs : List Bind) (i : ℕ) (d : Bind) → i < length xs → true ≡ is_built_expr (plain (out-Bind (get_or xs i d)).expr)
    → binds_built (binds (map plain_bind (drop i xs))) ≡ binds_built (binds (map plain_bind (drop (i + 1) xs)))
unfolding binds_built
bound_more xs i d h holds = ap binds_built (bound_at xs i d h) ∙ ap (λ b. b && binds_built (binds (map plain_bind (drop (i + 1) xs)))) (sym holds)

pub bound_stop : (xs : List Bind) (i : ℕ) (d : Bind) → i < length xs → false ≡ is_built_expr (plain (out-Bind (get_or xs i d)).expr)
    → binds_built (binds (map plain_bind xs)) ≡ binds_built (binds (map plain_bind (drop i xs))) → false ≡ binds_built (binds (map plain_bind xs))
unfolding binds_built
bound_stop xs i d h fails known =
    sym (known ∙ ap binds_built (bound_at xs i d h) ∙ ap (λ b. b && binds_built (binds (map plain_bind (drop (i + 1) xs)))) (sym fails))

pub bound_all : (xs : List Bind) (i : ℕ) → length xs ≤ i → binds_built (binds (map plain_bind xs)) ≡ binds_built (binds (map plain_bind (drop i xs))) → true ≡ binds_built (binds (map plain_bind xs))
unfolding binds_built
bound_all xs i h known = sym (known ∙ ap binds_built (none_bound xs i h))
