-- The tokens that are due in forms.
use Rattle.std.proofs.Common.{◌≡◌, ◌∙◌, ℕ, true, false, Some, None, List, [], ◌∷◌, ◌++◌, map, refl, sym, ap, append-nil}
use Rattle.yices_grammar.specs.declared.Place.{Place}
use Rattle.yices_grammar.specs.Tokens.{open_bracket, close_bracket, typing_mark, word}
use Rattle.yices_grammar.specs.Words.{is_name, is_whole}
use Rattle.yices_grammar.specs.Commands as grammar
use Rattle.yices_grammar.specs.Commands.{expr_at, let_in, forall_in, binds, Command}
use Rattle.yices_grammar.specs.Parts.{closing, expression, binding, sign, part, many}
use Rattle.yices_grammar.specs.Machine.{step}
use Rattle.yices_commands.specs.declared.command.Expr.{Expr, roll-Expr}
use Rattle.yices_commands.specs.declared.command.Bind.{Bind}
use Rattle.yices_commands.specs.declared.command.Decl.{Decl}
use Rattle.yices_commands.specs.declared.command.ExprForm.{ExprForm}
use Rattle.yices_commands.specs.declared.command.ExprForm.TheVariants as form
use Rattle.yices_commands.specs.declared.state.Opened.TheVariants as opened
use Rattle.yices_commands.specs.declared.state.Due.{Due}
use Rattle.yices_commands.specs.declared.state.Due.TheVariants as due
use Rattle.yices_commands.specs.declared.state.Around.{Around}
use Rattle.yices_commands.specs.declared.state.Arrow.{Arrow}
use Rattle.yices_commands.specs.declared.state.TypePurpose.TheVariants as type_purpose
use Rattle.yices_commands.specs.declared.state.Point.{Point}
use Rattle.yices_commands.specs.declared.state.Point.TheVariants as point
use Rattle.yices_commands.specs.Plain.{plain, plain_bind, plain_decl}
use Rattle.yices_parser.specs.States.{leaves, around_hole, left_at}
use Rattle.yices_parser.specs.Steps.{token_at, step_at, filled, filled_at, opened_at}
use Rattle.yices_lexer.proofs.Cutting.{cond_yes, cond_no}
use Rattle.yices_commands.proofs.Plain.{plain-roll, form-MkBv, form-Counted}
use Rattle.yices_parser.proofs.Entering.{or_none}
use Rattle.yices_parser.proofs.Filling.{more_items}

module _ (p : Place) (a : Around) (q : Place) where
  pub width_some : (t : Place) (z w : List ℕ) → is_whole z ≡ true → w ≡ z → step_at p (point.Token a q due.Width) (token_at t (word z)) ≡ Some (left_at p (point.Token a q (due.Number w)))
  unfolding step_at left_at step
  width_some t z w h e = cond_yes (is_whole z) _ _ h ∙ ap (λ v. Some (left_at p (point.Token a q (due.Number v)))) (sym e)

  pub width_none : (t : Place) (z : List ℕ) → is_whole z ≡ false → step_at p (point.Token a q due.Width) (token_at t (word z)) ≡ None
  unfolding step_at left_at step
  width_none t z h = cond_no (is_whole z) _ _ h

  pub number_some : (t : Place) (n z w : List ℕ) → is_whole z ≡ true → w ≡ z → step_at p (point.Token a q (due.Number n)) (token_at t (word z)) ≡ Some (left_at p (point.Token a q (due.End (form.MkBv n w))))
  unfolding step_at left_at step
  number_some t n z w h e =
      cond_yes (is_whole z) _ _ h ∙ ap (λ f. Some (leaves (sign closing ∷ (around_hole p a).items) ((around_hole p a).make (expr_at q f)))) (sym (form-MkBv n z))
      ∙ ap (λ v. Some (left_at p (point.Token a q (due.End (form.MkBv n v))))) (sym e)

  pub number_none : (t : Place) (n z : List ℕ) → is_whole z ≡ false → step_at p (point.Token a q (due.Number n)) (token_at t (word z)) ≡ None
  unfolding step_at left_at step
  number_none t n z h = cond_no (is_whole z) _ _ h

  pub high_some : (t : Place) (z w : List ℕ) → is_whole z ≡ true → w ≡ z → step_at p (point.Token a q due.High) (token_at t (word z)) ≡ Some (left_at p (point.Token a q (due.Low w)))
  unfolding step_at left_at step
  high_some t z w h e = cond_yes (is_whole z) _ _ h ∙ ap (λ v. Some (left_at p (point.Token a q (due.Low v)))) (sym e)

  pub high_none : (t : Place) (z : List ℕ) → is_whole z ≡ false → step_at p (point.Token a q due.High) (token_at t (word z)) ≡ None
  unfolding step_at left_at step
  high_none t z h = cond_no (is_whole z) _ _ h

  pub low_some : (t : Place) (i z w : List ℕ) (x : Point) → is_whole z ≡ true → w ≡ z → left_at p x ≡ opened_at p a q (opened.Extract i w)
      → step_at p (point.Token a q (due.Low i)) (token_at t (word z)) ≡ Some (left_at p x)
  unfolding step_at left_at step opened_at
  low_some t i z w x h e k = cond_yes (is_whole z) _ _ h ∙ ap (λ v. Some (opened_at p a q (opened.Extract i v))) (sym e) ∙ ap Some (sym k)

  pub low_none : (t : Place) (i z : List ℕ) → is_whole z ≡ false → step_at p (point.Token a q (due.Low i)) (token_at t (word z)) ≡ None
  unfolding step_at left_at step
  low_none t i z h = cond_no (is_whole z) _ _ h

  pub count_some : (t : Place) (o : List ℕ) (e b : Expr) (z w : List ℕ) → is_whole z ≡ true → w ≡ z → b ≡ e
      → step_at p (point.Token a q (due.Count o e)) (token_at t (word z)) ≡ Some (left_at p (point.Token a q (due.End (form.Counted o b w))))
  unfolding step_at left_at step
  count_some t o e b z w h k l =
      cond_yes (is_whole z) _ _ h ∙ ap (λ f. Some (leaves (sign closing ∷ (around_hole p a).items) ((around_hole p a).make (expr_at q f)))) (sym (form-Counted o e z))
      ∙ ap (λ v. Some (left_at p (point.Token a q (due.End (form.Counted o e v))))) (sym k) ∙ ap (λ v. Some (left_at p (point.Token a q (due.End (form.Counted o v w))))) (sym l)

  pub count_none : (t : Place) (o : List ℕ) (e : Expr) (z : List ℕ) → is_whole z ≡ false → step_at p (point.Token a q (due.Count o e)) (token_at t (word z)) ≡ None
  unfolding step_at left_at step
  count_none t o e z h = cond_no (is_whole z) _ _ h

  pub binding_name_some : (t : Place) (bs : List Bind) (z w : List ℕ) (x : Point) → is_name z ≡ true → w ≡ z → left_at p x ≡ opened_at p a q (opened.Bind bs w)
      → step_at p (point.Token a q (due.BindingName bs)) (token_at t (word z)) ≡ Some (left_at p x)
  unfolding step_at left_at step opened_at
  binding_name_some t bs z w x h e k = cond_yes (is_name z) _ _ h ∙ ap (λ v. Some (opened_at p a q (opened.Bind bs v))) (sym e) ∙ ap Some (sym k)

  pub binding_name_none : (t : Place) (bs : List Bind) (z : List ℕ) → is_name z ≡ false → step_at p (point.Token a q (due.BindingName bs)) (token_at t (word z)) ≡ None
  unfolding step_at left_at step
  binding_name_none t bs z h = cond_no (is_name z) _ _ h

  pub declaration_some : (t : Place) (ds : List Decl) (z w : List ℕ) → is_name z ≡ true → w ≡ z → step_at p (point.Token a q (due.Declaration ds)) (token_at t (word z)) ≡ Some (left_at p (point.Token a q (due.DeclarationMark ds w)))
  unfolding step_at left_at step
  declaration_some t [] z w h e = cond_yes (is_name z) _ _ h ∙ ap (λ v. Some (left_at p (point.Token a q (due.DeclarationMark [] v)))) (sym e)
  declaration_some t (d ∷ ds) z w h e = or_none _ ∙ cond_yes (is_name z) _ _ h ∙ ap (λ v. Some (left_at p (point.Token a q (due.DeclarationMark (d ∷ ds) v)))) (sym e)

  pub declaration_none : (t : Place) (ds : List Decl) (z : List ℕ) → is_name z ≡ false → step_at p (point.Token a q (due.Declaration ds)) (token_at t (word z)) ≡ None
  unfolding step_at left_at step
  declaration_none t [] z h = cond_no (is_name z) _ _ h
  declaration_none t (d ∷ ds) z h = or_none _ ∙ cond_no (is_name z) _ _ h

  -- opening brackets
  pub arguments_open : (t : Place) (f : Expr) (es : List Expr) (x : Point) → es ≡ [] → left_at p x ≡ opened_at p a q (opened.Arguments f es) → step_at p (point.Token a q (due.Arguments f)) (token_at t open_bracket) ≡ Some (left_at p x)
  unfolding step_at left_at step opened_at
  arguments_open t f es x e k = ap (λ v. Some (opened_at p a q (opened.Arguments f v))) (sym e) ∙ ap Some (sym k)

  pub bindings_open : (t : Place) (bs : List Bind) → bs ≡ [] → step_at p (point.Token a q due.Bindings) (token_at t open_bracket) ≡ Some (left_at p (point.Token a q (due.Binding bs)))
  unfolding step_at left_at step
  bindings_open t bs e = ap (λ v. Some (left_at p (point.Token a q (due.Binding v)))) (sym e)

  pub binding_open : (t : Place) (bs : List Bind) → step_at p (point.Token a q (due.Binding bs)) (token_at t open_bracket) ≡ Some (left_at p (point.Token a q (due.BindingName bs)))
  unfolding step_at left_at step
  binding_open t [] = refl
  binding_open t (b ∷ bs) = refl

  pub declarations_open : (t : Place) (ds : List Decl) → ds ≡ [] → step_at p (point.Token a q due.Declarations) (token_at t open_bracket) ≡ Some (left_at p (point.Token a q (due.Declaration ds)))
  unfolding step_at left_at step
  declarations_open t ds e = ap (λ v. Some (left_at p (point.Token a q (due.Declaration v)))) (sym e)

  -- closing brackets
  pub end_close : (t : Place) (f : ExprForm) (x : Point) → left_at p x ≡ filled_at p a (plain (roll-Expr (record { place = q; form = f }))) → step_at p (point.Token a q (due.End f)) (token_at t close_bracket) ≡ Some (left_at p x)
  unfolding step_at left_at step filled_at
  end_close t f x k = ap (λ e. Some (filled (around_hole p a) e)) (sym (plain-roll q f)) ∙ ap Some (sym k)

  pub binding_close : (t : Place) (bs : List Bind) (x : Point) → (bs ≡ [] → ⊥) → left_at p x ≡ opened_at p a q (opened.Let bs) → step_at p (point.Token a q (due.Binding bs)) (token_at t close_bracket) ≡ Some (left_at p x)
  unfolding step_at left_at step opened_at
  binding_close t [] x h k = absurd (h refl)
  binding_close t (b ∷ bs) x h k =
      ap (λ ys. Some (leaves (part expression ∷ sign closing ∷ (around_hole p a).items) (λ v. (around_hole p a).make (expr_at q (let_in (binds ys) v))))) (append-nil (map plain_bind (b ∷ bs))) ∙ ap Some (sym k)

  pub binding_close_none : (t : Place) (bs : List Bind) → bs ≡ [] → step_at p (point.Token a q (due.Binding bs)) (token_at t close_bracket) ≡ None
  unfolding step_at left_at step
  binding_close_none t bs h = ap (λ v. step_at p (point.Token a q (due.Binding v)) (token_at t close_bracket)) h

  pub declaration_close : (t : Place) (ds : List Decl) (x : Point) → (ds ≡ [] → ⊥) → left_at p x ≡ opened_at p a q (opened.Forall ds) → step_at p (point.Token a q (due.Declaration ds)) (token_at t close_bracket) ≡ Some (left_at p x)
  unfolding step_at left_at step opened_at
  declaration_close t [] x h k = absurd (h refl)
  declaration_close t (d ∷ ds) x h k =
      ap (λ ys. Some (leaves (part expression ∷ sign closing ∷ (around_hole p a).items) (λ v. (around_hole p a).make (expr_at q (forall_in ys v))))) (append-nil (map plain_decl (d ∷ ds))) ∙ ap Some (sym k)

  pub declaration_close_none : (t : Place) (ds : List Decl) → ds ≡ [] → step_at p (point.Token a q (due.Declaration ds)) (token_at t close_bracket) ≡ None
  unfolding step_at left_at step
  declaration_close_none t ds h = ap (λ v. step_at p (point.Token a q (due.Declaration v)) (token_at t close_bracket)) h

  bindings_due : (bs ys : List Bind) (b : Bind) → ys ≡ bs ++ b ∷ []
      → left_at p (point.Token a q (due.Binding ys)) ≡ leaves (many binding ∷ sign closing ∷ part expression ∷ sign closing ∷ (around_hole p a).items) (λ zs v. (around_hole p a).make (expr_at q (let_in (binds (map plain_bind ys ++ zs)) v)))
  unfolding left_at
  bindings_due [] ys b h = rw h refl
  bindings_due (c ∷ bs) ys b h = rw h refl

  pub binding_end : (t : Place) (bs ys : List Bind) (b : Bind) → ys ≡ bs ++ b ∷ [] → step_at p (point.Token a q (due.BindingEnd bs b)) (token_at t close_bracket) ≡ Some (left_at p (point.Token a q (due.Binding ys)))
  unfolding step_at left_at step
  binding_end t bs ys b h =
      ap Some (sym (bindings_due bs ys b h
      ∙ ap (λ (g : List grammar.Bind → List grammar.Bind). leaves (many binding ∷ sign closing ∷ part expression ∷ sign closing ∷ (around_hole p a).items) (λ zs v. (around_hole p a).make (expr_at q (let_in (binds (g zs)) v)))) (more_items plain_bind bs ys b h)))

-- nothing else begins with an opening bracket
pub no_open : (p : Place) (a : Around) (q t : Place) (d : Due) → ((f : Expr) → d ≡ due.Arguments f → ⊥) → (d ≡ due.Bindings → ⊥) → ((bs : List Bind) → d ≡ due.Binding bs → ⊥) → (d ≡ due.Declarations → ⊥)
    → step_at p (point.Token a q d) (token_at t open_bracket) ≡ None
unfolding step_at left_at step
no_open p a q t (due.Arguments f) h i j k = absurd (h f refl)
no_open p a q t due.Bindings h i j k = absurd (i refl)
no_open p a q t (due.Binding bs) h i j k = absurd (j bs refl)
no_open p a q t due.Declarations h i j k = absurd (k refl)
no_open p a q t due.Width h i j k = refl
no_open p a q t (due.Number n) h i j k = refl
no_open p a q t due.High h i j k = refl
no_open p a q t (due.Low n) h i j k = refl
no_open p a q t (due.Count w e) h i j k = refl
no_open p a q t (due.BindingName bs) h i j k = refl
no_open p a q t (due.BindingEnd bs b) h i j k = refl
no_open p a q t (due.Declaration []) h i j k = refl
no_open p a q t (due.Declaration (d ∷ ds)) h i j k = refl
no_open p a q t (due.DeclarationMark ds w) h i j k = refl
no_open p a q t (due.End f) h i j k = refl

-- the typing mark
pub mark_due : (p : Place) (a : Around) (q t : Place) (ds : List Decl) (w : List ℕ) (bs : List Arrow) → bs ≡ []
    → step_at p (point.Token a q (due.DeclarationMark ds w)) (token_at t typing_mark) ≡ Some (left_at p (point.Type (record { purpose = type_purpose.Variable a q ds w; arrows = bs })))
unfolding step_at left_at step
mark_due p a q t ds w bs h = ap (λ v. Some (left_at p (point.Type (record { purpose = type_purpose.Variable a q ds w; arrows = v })))) (sym h)

pub no_mark : (p : Place) (a : Around) (q t : Place) (d : Due) → ((ds : List Decl) (w : List ℕ) → d ≡ due.DeclarationMark ds w → ⊥) → step_at p (point.Token a q d) (token_at t typing_mark) ≡ None
unfolding step_at left_at step
no_mark p a q t (due.DeclarationMark ds w) h = absurd (h ds w refl)
no_mark p a q t (due.Binding []) h = refl
no_mark p a q t (due.Binding (b ∷ bs)) h = refl
no_mark p a q t (due.Declaration []) h = refl
no_mark p a q t (due.Declaration (d ∷ ds)) h = refl
no_mark p a q t d h = refl

-- nothing else begins with a word
pub no_word : (p : Place) (a : Around) (q t : Place) (d : Due) (z : List ℕ) → (d ≡ due.Width → ⊥) → ((n : List ℕ) → d ≡ due.Number n → ⊥) → (d ≡ due.High → ⊥) → ((n : List ℕ) → d ≡ due.Low n → ⊥)
    → ((w : List ℕ) (e : Expr) → d ≡ due.Count w e → ⊥) → ((bs : List Bind) → d ≡ due.BindingName bs → ⊥) → ((ds : List Decl) → d ≡ due.Declaration ds → ⊥) → step_at p (point.Token a q d) (token_at t (word z)) ≡ None
unfolding step_at left_at step
no_word p a q t due.Width z h i j k l m n = absurd (h refl)
no_word p a q t (due.Number v) z h i j k l m n = absurd (i v refl)
no_word p a q t due.High z h i j k l m n = absurd (j refl)
no_word p a q t (due.Low v) z h i j k l m n = absurd (k v refl)
no_word p a q t (due.Count w e) z h i j k l m n = absurd (l w e refl)
no_word p a q t (due.BindingName bs) z h i j k l m n = absurd (m bs refl)
no_word p a q t (due.Declaration ds) z h i j k l m n = absurd (n ds refl)
no_word p a q t (due.Binding []) z h i j k l m n = refl
no_word p a q t (due.Binding (b ∷ bs)) z h i j k l m n = refl
no_word p a q t d z h i j k l m n = refl

-- nothing else ends with a closing bracket
pub no_close : (p : Place) (a : Around) (q t : Place) (d : Due) → ((bs : List Bind) → d ≡ due.Binding bs → ⊥) → ((bs : List Bind) (b : Bind) → d ≡ due.BindingEnd bs b → ⊥) → ((ds : List Decl) → d ≡ due.Declaration ds → ⊥)
    → ((f : ExprForm) → d ≡ due.End f → ⊥) → step_at p (point.Token a q d) (token_at t close_bracket) ≡ None
unfolding step_at left_at step
no_close p a q t (due.Binding bs) h i j k = absurd (h bs refl)
no_close p a q t (due.BindingEnd bs b) h i j k = absurd (i bs b refl)
no_close p a q t (due.Declaration ds) h i j k = absurd (j ds refl)
no_close p a q t (due.End f) h i j k = absurd (k f refl)
no_close p a q t d h i j k = refl
