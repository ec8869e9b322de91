-- The closing brackets of lists of expressions.
use Rattle.std.proofs.Common.{◌≡◌, ◌∙◌, ℕ, Some, None, List, [], ◌∷◌, ◌++◌, map, refl, sym, ap, append-nil}
use Rattle.std.specs.Prelude.{reverse}
use Rattle.std.proofs.lemmas.List.{reverse-append}
use Rattle.yices_grammar.specs.declared.Place.{Place}
use Rattle.yices_grammar.specs.Tokens.{close_bracket}
use Rattle.yices_grammar.specs.Commands.{expr_at, operation, update, apply, exprs}
use Rattle.yices_grammar.specs.Parts.{closing, expression, sign, part}
use Rattle.yices_grammar.specs.Machine.{step}
use Rattle.yices_commands.specs.declared.command.Expr.{Expr, roll-Expr}
use Rattle.yices_commands.specs.declared.command.ExprForm.TheVariants as form
use Rattle.yices_commands.specs.declared.state.Frame.{Frame}
use Rattle.yices_commands.specs.declared.state.Opened.{Opened}
use Rattle.yices_commands.specs.declared.state.Opened.TheVariants as opened
use Rattle.yices_commands.specs.declared.state.Around.{Around}
use Rattle.yices_commands.specs.declared.state.Point.{Point}
use Rattle.yices_commands.specs.declared.state.Point.TheVariants as point
use Rattle.yices_commands.specs.Plain.{plain, plain_form}
use Rattle.yices_parser.specs.States.{leaves, command_hole, around_hole, frames_due, left_at}
use Rattle.yices_parser.specs.Steps.{token_at, step_at, step_of, filled, filled_at, opened_at, opened_step}
use Rattle.yices_commands.proofs.Plain.{plain-roll, form-Op, form-Apply}

module _ (p : Place) (a : Around) (q : Place) (t : Place) where
  pub closes_op : (w : List ℕ) (es : List Expr) (x : Point) → left_at p x ≡ filled_at p a (plain (roll-Expr (record { place = q; form = form.Op w es })))
      → opened_step p a q (opened.Op w es) (token_at t close_bracket) ≡ Some (left_at p x)
  unfolding step filled_at opened_step
  closes_op w es x k =
      ap (λ xs. Some (filled (around_hole p a) (expr_at q (operation w (exprs xs))))) (append-nil (map plain es))
      ∙ ap (λ f. Some (filled (around_hole p a) (expr_at q f))) (sym (form-Op w es)) ∙ ap (λ e. Some (filled (around_hole p a) e)) (sym (plain-roll q (form.Op w es))) ∙ ap Some (sym k)

  pub closes_apply : (g h : Expr) (es : List Expr) (x : Point) → (es ≡ [] → ⊥) → h ≡ g
      → left_at p x ≡ filled_at p a (plain (roll-Expr (record { place = q; form = form.Apply h es }))) → opened_step p a q (opened.Apply g es) (token_at t close_bracket) ≡ Some (left_at p x)
  unfolding step filled_at opened_step
  closes_apply g h [] x n e k = absurd (n refl)
  closes_apply g h (y ∷ es) x n e k =
      ap (λ xs. Some (filled (around_hole p a) (expr_at q (apply (plain g) (exprs xs))))) (append-nil (map plain (y ∷ es)))
      ∙ ap (λ f. Some (filled (around_hole p a) (expr_at q f))) (sym (form-Apply g (y ∷ es)))
      ∙ ap (λ v. Some (filled (around_hole p a) (expr_at q (plain_form (form.Apply v (y ∷ es)))))) (sym e)
      ∙ ap (λ v. Some (filled (around_hole p a) v)) (sym (plain-roll q (form.Apply h (y ∷ es)))) ∙ ap Some (sym k)

  pub closes_apply_none : (g : Expr) (es : List Expr) → es ≡ [] → opened_step p a q (opened.Apply g es) (token_at t close_bracket) ≡ None
  unfolding step opened_step
  closes_apply_none g es h = ap (λ v. opened_step p a q (opened.Apply g v) (token_at t close_bracket)) h

  pub closes_arguments : (g : Expr) (es : List Expr) (x : Point) → (es ≡ [] → ⊥) → left_at p x ≡ opened_at p a q (opened.Value g es)
      → opened_step p a q (opened.Arguments g es) (token_at t close_bracket) ≡ Some (left_at p x)
  unfolding step opened_at opened_step
  closes_arguments g [] x n k = absurd (n refl)
  closes_arguments g (e ∷ es) x n k =
      ap (λ xs. Some (leaves (part expression ∷ sign closing ∷ (around_hole p a).items) (λ v. (around_hole p a).make (expr_at q (update (plain g) (exprs xs) v))))) (append-nil (map plain (e ∷ es))) ∙ ap Some (sym k)

  pub closes_no_arguments : (g : Expr) (es : List Expr) → es ≡ [] → opened_step p a q (opened.Arguments g es) (token_at t close_bracket) ≡ None
  unfolding step opened_step
  closes_no_arguments g es h = ap (λ v. opened_step p a q (opened.Arguments g v) (token_at t close_bracket)) h

  pub closes_no_list : (o : Opened) → ((w : List ℕ) (es : List Expr) → o ≡ opened.Op w es → ⊥) → ((g : Expr) (es : List Expr) → o ≡ opened.Arguments g es → ⊥) → ((g : Expr) (es : List Expr) → o ≡ opened.Apply g es → ⊥)
      → opened_step p a q o (token_at t close_bracket) ≡ None
  unfolding step opened_step
  closes_no_list (opened.Op w es) h i j = absurd (h w es refl)
  closes_no_list (opened.Arguments g es) h i j = absurd (i g es refl)
  closes_no_list (opened.Apply g es) h i j = absurd (j g es refl)
  closes_no_list o h i j = refl

-- the innermost form
pub innermost : (p : Place) (a : Around) (fs : List Frame) (q : Place) (o : Opened) (t : Place) → a.frames ≡ fs ++ record { place = q; form = o } ∷ []
    → step_at p (point.Expr a) (token_at t close_bracket) ≡ opened_step p (record { purpose = a.purpose; frames = fs }) q o (token_at t close_bracket)
unfolding step_at left_at opened_step
innermost p a fs q o t h = ap (λ x. step_of (frames_due (command_hole p a.purpose) x) (token_at t close_bracket)) (ap reverse h ∙ reverse-append fs (record { place = q; form = o } ∷ []))

pub closes_whole : (p : Place) (a : Around) (t : Place) → a.frames ≡ [] → step_at p (point.Expr a) (token_at t close_bracket) ≡ None
unfolding step_at left_at step
closes_whole p a t h = ap (λ x. step_of (frames_due (command_hole p a.purpose) (reverse x)) (token_at t close_bracket)) h
