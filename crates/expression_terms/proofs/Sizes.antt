-- How many parts an expression has: each part has fewer than the whole.
use Rattle.std.proofs.Common.{◌≡◌, ℕ, zero, suc, ◌<◌, ◌+◌, List, [], ◌∷◌, length, map, get_or, sym, ap, arith}
use Rattle.yices_grammar.specs.Commands.{Expr, expr_at, Exprs, no_exprs, more_exprs, Binds, no_binds, more_binds, operation, let_in, apply, exprs, binds}
use Rattle.yices_grammar.specs.Commands as form
use Rattle.yices_commands.specs.declared.command.Expr as code
use Rattle.yices_commands.specs.declared.command.Expr.{out-Expr}
use Rattle.yices_commands.specs.declared.command.Bind.{Bind, out-Bind}
use Rattle.yices_commands.specs.declared.command.ExprForm.TheVariants.{Op, Let, Apply, Update}
use Rattle.yices_commands.specs.Plain.{plain, plain_bind}
use Rattle.expression_terms.proofs.PlainLaws.{plain_bound, plain_op, plain_let, plain_apply, plain_update}

mutual
  pub size : Expr → ℕ
  size (expr_at at (operation w es)) = 2 + sizes es
  size (expr_at at (let_in bs e)) = 2 + bound_sizes bs + size e
  size (expr_at at (apply f es)) = 2 + size f + sizes es
  size (expr_at at (form.update f es v)) = 2 + size f + sizes es + size v
  size (expr_at at _) = 1

  pub sizes : Exprs → ℕ
  sizes no_exprs = 0
  sizes (more_exprs e es) = 1 + size e + sizes es

  pub bound_sizes : Binds → ℕ
  bound_sizes no_binds = 0
  bound_sizes (more_binds w e bs) = 1 + size e + bound_sizes bs

-- how many the parts of a form have together, with one more
abbrev pub call_size : List code.Expr → ℕ
call_size es = 1 + sizes (exprs (map plain es))

abbrev pub let_size : List Bind → code.Expr → ℕ
let_size bs e = 1 + bound_sizes (binds (map plain_bind bs)) + size (plain e)

abbrev pub apply_size : code.Expr → List code.Expr → ℕ
apply_size f es = 1 + size (plain f) + sizes (exprs (map plain es))

abbrev pub update_size : code.Expr → List code.Expr → code.Expr → ℕ
update_size f es v = 1 + size (plain f) + sizes (exprs (map plain es)) + size (plain v)

pub size_call : (e : code.Expr) (w : List ℕ) (xs ys : List code.Expr) → (out-Expr e).form ≡ Op w xs → ys ≡ xs → call_size ys < size (plain e)
unfolding size
size_call e w xs ys is same =
    let whole : size (plain e) ≡ 2 + sizes (exprs (map plain ys)) = ap size (plain_op e w xs ys is same) in
    omega (arith, whole)

pub size_let : (e : code.Expr) (xs ys : List Bind) (a b : code.Expr) → (out-Expr e).form ≡ Let xs a → ys ≡ xs → b ≡ a → let_size ys b < size (plain e)
unfolding size
size_let e xs ys a b is same body =
    let whole : size (plain e) ≡ 2 + bound_sizes (binds (map plain_bind ys)) + size (plain b) = ap size (plain_let e xs ys a b is same body) in
    omega (arith, whole)

pub size_apply : (e a f : code.Expr) (xs ys : List code.Expr) → (out-Expr e).form ≡ Apply a xs → f ≡ a → ys ≡ xs → apply_size f ys < size (plain e)
unfolding size
size_apply e a f xs ys is function same =
    let whole : size (plain e) ≡ 2 + size (plain f) + sizes (exprs (map plain ys)) = ap size (plain_apply e a f xs ys is function same) in
    omega (arith, whole)

pub size_update : (e a f : code.Expr) (xs ys : List code.Expr) (u v : code.Expr) → (out-Expr e).form ≡ Update a xs u → f ≡ a → ys ≡ xs → v ≡ u → update_size f ys v < size (plain e)
unfolding size
size_update e a f xs ys u v is function same value =
    let whole : size (plain e) ≡ 2 + size (plain f) + sizes (exprs (map plain ys)) + size (plain v) = ap size (plain_update e a f xs ys u v is function same value) in
    omega (arith, whole)

-- each expression has fewer than all
pub size_at : (xs : List code.Expr) (i : ℕ) (x : code.Expr) → i < length xs → x ≡ get_or xs i x → size (plain x) < sizes (exprs (map plain xs))
unfolding size
size_at [] i x h is = absurd (omega (arith, h))
size_at (y ∷ xs) zero x h is = omega (arith, ap (λ z. size (plain z)) is)
size_at (y ∷ xs) (suc i) x h is = omega (arith, size_at xs i x (omega (arith, h)) is)

bound_size : (b : Bind) → size (plain (out-Bind b).expr) ≡ size (plain_bind b).expr
bound_size b = ap (λ (z : form.Bind). size z.expr) (sym (plain_bound b))

pub bound_size_at : (xs : List Bind) (i : ℕ) (d : Bind) → i < length xs → size (plain (out-Bind (get_or xs i d)).expr) < bound_sizes (binds (map plain_bind xs))
unfolding size
bound_size_at [] i d h = absurd (omega (arith, h))
bound_size_at (y ∷ xs) zero d h = omega (arith, bound_size y)
bound_size_at (y ∷ xs) (suc i) d h = omega (arith, bound_size_at xs i d (omega (arith, h)))
