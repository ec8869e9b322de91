-- The tokens with which expressions begin.
use Rattle.std.proofs.Common.{◌≡◌, ◌∙◌, ℕ, Bool, true, false, Option, Some, None, List, [], ◌∷◌, ◌++◌, refl, sym, ap}
use Rattle.std.specs.Prelude.{codes, if◌then◌else◌, option_map, reverse}
use Rattle.std.proofs.lemmas.List.{reverse-append}
use Rattle.std.specs.Str.{bytes_eq}
use Rattle.yices_grammar.specs.declared.Place.{Place}
use Rattle.yices_grammar.specs.Tokens.{open_bracket, word}
use Rattle.yices_grammar.specs.Words.{is_name, is_number, is_binary, is_hex, is_operator, is_among, count_operators}
use Rattle.yices_grammar.specs.Commands as grammar
use Rattle.yices_grammar.specs.Commands.{expr_at, true_word, false_word, name, number, binary, hex, Command}
use Rattle.yices_grammar.specs.Parts.{expression, expression_form, Item, part, Maker}
use Rattle.yices_grammar.specs.Grammar.{rules}
use Rattle.yices_grammar.specs.Machine.{Left, left, or_else, enter, step}
use Rattle.yices_commands.specs.declared.command.Expr.{Expr, roll-Expr}
use Rattle.yices_commands.specs.declared.command.ExprForm.{ExprForm}
use Rattle.yices_commands.specs.declared.command.ExprForm.TheVariants as form
use Rattle.yices_commands.specs.declared.state.Opened.{Opened}
use Rattle.yices_commands.specs.declared.state.Opened.TheVariants as opened
use Rattle.yices_commands.specs.declared.state.Due.TheVariants as due
use Rattle.yices_commands.specs.declared.state.Frame.{Frame}
use Rattle.yices_commands.specs.declared.state.Around.{Around}
use Rattle.yices_commands.specs.declared.state.Point.{Point}
use Rattle.yices_commands.specs.declared.state.Point.TheVariants as point
use Rattle.yices_commands.specs.Plain.{plain, plain_form}
use Rattle.yices_parser.specs.States.{Hole, leaves, command_hole, form_hole, form_due, frames_hole, frames_due, around_hole, left_at}
use Rattle.yices_parser.specs.Steps.{token_at, step_at, step_of, filled, filled_at, opened_at, word_form}
use Rattle.yices_commands.proofs.Plain.{plain-roll, form-Name}

pub or_none : {A : Type 0} (o : Option A) → or_else o None ≡ o
or_none None = refl
or_none (Some x) = refl

-- a chain of choices, each with a function
map_chain : {X Y : Type 0} (g : X → Y) (a b c d e f : Bool) (t u v w x y : X)
    → (if a then Some (g t) else if b then Some (g u) else if c then Some (g v) else if d then Some (g w) else if e then Some (g x) else if f then Some (g y) else None)
    ≡ option_map g (if a then Some t else if b then Some u else if c then Some v else if d then Some w else if e then Some x else if f then Some y else None)
map_chain g true b c d e f t u v w x y = refl
map_chain g false true c d e f t u v w x y = refl
map_chain g false false true d e f t u v w x y = refl
map_chain g false false false true e f t u v w x y = refl
map_chain g false false false false true f t u v w x y = refl
map_chain g false false false false false true t u v w x y = refl
map_chain g false false false false false false t u v w x y = refl

module _ (rest : List Item) (make : grammar.Expr → Maker rest Command) (q : Place) where
  -- a word where an expression is due
  pub expression_word : (z : List ℕ) → enter Command (rules expression) rest make (token_at q (word z)) ≡ option_map (λ f. left Command rest (make (expr_at q f))) (word_form z)
  unfolding word_form
  expression_word z =
      map_chain (λ f. left Command rest (make (expr_at q f))) (bytes_eq z (codes "true")) (bytes_eq z (codes "false")) (is_name z) (is_number z) (is_binary z) (is_hex z) true_word false_word (name z) (number z) (binary z) (hex z)

  -- an opening bracket
  pub expression_open : enter Command (rules expression) rest make (token_at q open_bracket) ≡ Some (left Command (part expression_form ∷ rest) (λ f. make (expr_at q f)))
  expression_open = refl

-- a word where an expression is due, or the end of a list
form_due_word : (o : Opened) (p : Place) (rest : Hole grammar.Expr) (q : Place) (z : List ℕ)
    → step_of (form_due o p rest) (token_at q (word z)) ≡ option_map (λ f. filled (form_hole o p rest) (expr_at q f)) (word_form z)
unfolding step
form_due_word (opened.Op w es) p rest q z = or_none _ ∙ expression_word (form_hole (opened.Op w es) p rest).items (form_hole (opened.Op w es) p rest).make q z
form_due_word (opened.Arguments f []) p rest q z = expression_word (form_hole (opened.Arguments f []) p rest).items (form_hole (opened.Arguments f []) p rest).make q z
form_due_word (opened.Arguments f (e ∷ es)) p rest q z = or_none _ ∙ expression_word (form_hole (opened.Arguments f (e ∷ es)) p rest).items (form_hole (opened.Arguments f (e ∷ es)) p rest).make q z
form_due_word (opened.Apply f []) p rest q z = expression_word (form_hole (opened.Apply f []) p rest).items (form_hole (opened.Apply f []) p rest).make q z
form_due_word (opened.Apply f (e ∷ es)) p rest q z = or_none _ ∙ expression_word (form_hole (opened.Apply f (e ∷ es)) p rest).items (form_hole (opened.Apply f (e ∷ es)) p rest).make q z
form_due_word o p rest q z = expression_word (form_hole o p rest).items (form_hole o p rest).make q z

form_due_open : (o : Opened) (p : Place) (rest : Hole grammar.Expr) (q : Place)
    → step_of (form_due o p rest) (token_at q open_bracket) ≡ Some (leaves (part expression_form ∷ (form_hole o p rest).items) (λ f. (form_hole o p rest).make (expr_at q f)))
unfolding step
form_due_open (opened.Arguments f []) p rest q = refl
form_due_open (opened.Arguments f (e ∷ es)) p rest q = refl
form_due_open (opened.Apply f []) p rest q = refl
form_due_open (opened.Apply f (e ∷ es)) p rest q = refl
form_due_open o p rest q = refl

pub due_word : (rest : Hole grammar.Expr) (fs : List Frame) (q : Place) (z : List ℕ) → step_of (frames_due rest fs) (token_at q (word z)) ≡ option_map (λ f. filled (frames_hole rest fs) (expr_at q f)) (word_form z)
unfolding step
due_word rest [] q z = expression_word rest.items rest.make q z
due_word rest (f ∷ fs) q z = form_due_word f.form f.place (frames_hole rest fs) q z

pub due_open : (rest : Hole grammar.Expr) (fs : List Frame) (q : Place) → step_of (frames_due rest fs) (token_at q open_bracket) ≡ Some (leaves (part expression_form ∷ (frames_hole rest fs).items) (λ f. (frames_hole rest fs).make (expr_at q f)))
unfolding step
due_open rest [] q = refl
due_open rest (f ∷ fs) q = form_due_open f.form f.place (frames_hole rest fs) q

-- a word where an expression is due
pub expr_word_some : (p : Place) (a : Around) (q : Place) (z : List ℕ) (f : ExprForm) (x : Point) → word_form z ≡ Some (plain_form f) → left_at p x ≡ filled_at p a (plain (roll-Expr (record { place = q; form = f })))
    → step_at p (point.Expr a) (token_at q (word z)) ≡ Some (left_at p x)
unfolding step_at left_at filled_at
expr_word_some p a q z f x h k =
    due_word (command_hole p a.purpose) (reverse a.frames) q z ∙ ap (option_map (λ g. filled (around_hole p a) (expr_at q g))) h
    ∙ ap (λ e. Some (filled (around_hole p a) e)) (sym (plain-roll q f)) ∙ ap Some (sym k)

pub expr_word_none : (p : Place) (a : Around) (q : Place) (z : List ℕ) → word_form z ≡ None → step_at p (point.Expr a) (token_at q (word z)) ≡ None
unfolding step_at left_at
expr_word_none p a q z h = due_word (command_hole p a.purpose) (reverse a.frames) q z ∙ ap (option_map (λ g. filled (around_hole p a) (expr_at q g))) h

pub expr_open : (p : Place) (a : Around) (q : Place) → step_at p (point.Expr a) (token_at q open_bracket) ≡ Some (left_at p (point.Form a q))
unfolding step_at left_at
expr_open p a q = due_open (command_hole p a.purpose) (reverse a.frames) q

-- the word of a form
module _ {X : Type 0} (a b c d e f g h : Bool) (r s t u v w x y : X) where
  pub forms : Option X
  forms = if a then Some r else if b then Some s else if c then Some t else if d then Some u else if e then Some v else if f then Some w else if g then Some x else if h then Some y else None

  pub forms_1 : a ≡ true → forms ≡ Some r
  unfolding forms
  forms_1 i = rw i refl

  pub forms_2 : a ≡ false → b ≡ true → forms ≡ Some s
  unfolding forms
  forms_2 i j = rw (i, j) refl

  pub forms_3 : a ≡ false → b ≡ false → c ≡ true → forms ≡ Some t
  unfolding forms
  forms_3 i j k = rw (i, j, k) refl

  pub forms_4 : a ≡ false → b ≡ false → c ≡ false → d ≡ true → forms ≡ Some u
  unfolding forms
  forms_4 i j k l = rw (i, j, k, l) refl

  pub forms_5 : a ≡ false → b ≡ false → c ≡ false → d ≡ false → e ≡ true → forms ≡ Some v
  unfolding forms
  forms_5 i j k l m = rw (i, j, k, l, m) refl

  pub forms_6 : a ≡ false → b ≡ false → c ≡ false → d ≡ false → e ≡ false → f ≡ true → forms ≡ Some w
  unfolding forms
  forms_6 i j k l m n = rw (i, j, k, l, m, n) refl

  pub forms_7 : a ≡ false → b ≡ false → c ≡ false → d ≡ false → e ≡ false → f ≡ false → g ≡ true → forms ≡ Some x
  unfolding forms
  forms_7 i j k l m n o = rw (i, j, k, l, m, n, o) refl

  pub forms_8 : a ≡ false → b ≡ false → c ≡ false → d ≡ false → e ≡ false → f ≡ false → g ≡ false → h ≡ true → forms ≡ Some y
  unfolding forms
  forms_8 i j k l m n o q = rw (i, j, k, l, m, n, o, q) refl

  pub forms_none : a ≡ false → b ≡ false → c ≡ false → d ≡ false → e ≡ false → f ≡ false → g ≡ false → h ≡ false → forms ≡ None
  unfolding forms
  forms_none i j k l m n o q = rw (i, j, k, l, m, n, o, q) refl

module _ (p : Place) (a : Around) (q : Place) (t : Place) (z : List ℕ) where
  -- what is left behind the word of a form
  pub all_forms : Option (Left Command)
  all_forms =
      forms (is_operator z) (bytes_eq z (codes "mk-bv")) (bytes_eq z (codes "bv-extract")) (is_among count_operators z) (bytes_eq z (codes "update")) (bytes_eq z (codes "let")) (bytes_eq z (codes "forall")) (is_name z)
      (opened_at p a q (opened.Op z [])) (left_at p (point.Token a q due.Width)) (left_at p (point.Token a q due.High)) (opened_at p a q (opened.Counted z)) (opened_at p a q opened.Update)
      (left_at p (point.Token a q due.Bindings)) (left_at p (point.Token a q due.Declarations)) (opened_at p a q (opened.Apply (roll-Expr (record { place = t; form = form.Name z })) []))

  pub form_word : step_at p (point.Form a q) (token_at t (word z)) ≡ all_forms
  unfolding step_at left_at step all_forms forms opened_at
  form_word = rw (plain-roll t (form.Name z), form-Name z) refl

  pub form_op : (w : List ℕ) (es : List Expr) (x : Point) → is_operator z ≡ true → w ≡ z → es ≡ [] → left_at p x ≡ opened_at p a q (opened.Op w es) → step_at p (point.Form a q) (token_at t (word z)) ≡ Some (left_at p x)
  unfolding all_forms
  form_op w es x i u v h = form_word ∙ forms_1 (is_operator z) (bytes_eq z (codes "mk-bv")) (bytes_eq z (codes "bv-extract")) (is_among count_operators z) (bytes_eq z (codes "update")) (bytes_eq z (codes "let")) (bytes_eq z (codes "forall")) (is_name z) (opened_at p a q (opened.Op z [])) (left_at p (point.Token a q due.Width)) (left_at p (point.Token a q due.High)) (opened_at p a q (opened.Counted z)) (opened_at p a q opened.Update) (left_at p (point.Token a q due.Bindings)) (left_at p (point.Token a q due.Declarations)) (opened_at p a q (opened.Apply (roll-Expr (record { place = t; form = form.Name z })) [])) i ∙ ap Some (sym (h ∙ ap (λ y. opened_at p a q (opened.Op y es)) u ∙ ap (λ y. opened_at p a q (opened.Op z y)) v))

  pub form_width : (x : Point) → is_operator z ≡ false → bytes_eq z (codes "mk-bv") ≡ true → x ≡ point.Token a q due.Width → step_at p (point.Form a q) (token_at t (word z)) ≡ Some (left_at p x)
  unfolding all_forms
  form_width x i j h = form_word ∙ forms_2 (is_operator z) (bytes_eq z (codes "mk-bv")) (bytes_eq z (codes "bv-extract")) (is_among count_operators z) (bytes_eq z (codes "update")) (bytes_eq z (codes "let")) (bytes_eq z (codes "forall")) (is_name z) (opened_at p a q (opened.Op z [])) (left_at p (point.Token a q due.Width)) (left_at p (point.Token a q due.High)) (opened_at p a q (opened.Counted z)) (opened_at p a q opened.Update) (left_at p (point.Token a q due.Bindings)) (left_at p (point.Token a q due.Declarations)) (opened_at p a q (opened.Apply (roll-Expr (record { place = t; form = form.Name z })) [])) i j ∙ ap Some (sym (ap (left_at p) h))

  pub form_high : (x : Point) → is_operator z ≡ false → bytes_eq z (codes "mk-bv") ≡ false → bytes_eq z (codes "bv-extract") ≡ true → x ≡ point.Token a q due.High → step_at p (point.Form a q) (token_at t (word z)) ≡ Some (left_at p x)
  unfolding all_forms
  form_high x i j k h = form_word ∙ forms_3 (is_operator z) (bytes_eq z (codes "mk-bv")) (bytes_eq z (codes "bv-extract")) (is_among count_operators z) (bytes_eq z (codes "update")) (bytes_eq z (codes "let")) (bytes_eq z (codes "forall")) (is_name z) (opened_at p a q (opened.Op z [])) (left_at p (point.Token a q due.Width)) (left_at p (point.Token a q due.High)) (opened_at p a q (opened.Counted z)) (opened_at p a q opened.Update) (left_at p (point.Token a q due.Bindings)) (left_at p (point.Token a q due.Declarations)) (opened_at p a q (opened.Apply (roll-Expr (record { place = t; form = form.Name z })) [])) i j k ∙ ap Some (sym (ap (left_at p) h))

  pub form_counted : (w : List ℕ) (x : Point) → is_operator z ≡ false → bytes_eq z (codes "mk-bv") ≡ false → bytes_eq z (codes "bv-extract") ≡ false → is_among count_operators z ≡ true → w ≡ z → left_at p x ≡ opened_at p a q (opened.Counted w) → step_at p (point.Form a q) (token_at t (word z)) ≡ Some (left_at p x)
  unfolding all_forms
  form_counted w x i j k l u h = form_word ∙ forms_4 (is_operator z) (bytes_eq z (codes "mk-bv")) (bytes_eq z (codes "bv-extract")) (is_among count_operators z) (bytes_eq z (codes "update")) (bytes_eq z (codes "let")) (bytes_eq z (codes "forall")) (is_name z) (opened_at p a q (opened.Op z [])) (left_at p (point.Token a q due.Width)) (left_at p (point.Token a q due.High)) (opened_at p a q (opened.Counted z)) (opened_at p a q opened.Update) (left_at p (point.Token a q due.Bindings)) (left_at p (point.Token a q due.Declarations)) (opened_at p a q (opened.Apply (roll-Expr (record { place = t; form = form.Name z })) [])) i j k l ∙ ap Some (sym (h ∙ ap (λ y. opened_at p a q (opened.Counted y)) u))

  pub form_update : (x : Point) → is_operator z ≡ false → bytes_eq z (codes "mk-bv") ≡ false → bytes_eq z (codes "bv-extract") ≡ false → is_among count_operators z ≡ false → bytes_eq z (codes "update") ≡ true → left_at p x ≡ opened_at p a q opened.Update → step_at p (point.Form a q) (token_at t (word z)) ≡ Some (left_at p x)
  unfolding all_forms
  form_update x i j k l m h = form_word ∙ forms_5 (is_operator z) (bytes_eq z (codes "mk-bv")) (bytes_eq z (codes "bv-extract")) (is_among count_operators z) (bytes_eq z (codes "update")) (bytes_eq z (codes "let")) (bytes_eq z (codes "forall")) (is_name z) (opened_at p a q (opened.Op z [])) (left_at p (point.Token a q due.Width)) (left_at p (point.Token a q due.High)) (opened_at p a q (opened.Counted z)) (opened_at p a q opened.Update) (left_at p (point.Token a q due.Bindings)) (left_at p (point.Token a q due.Declarations)) (opened_at p a q (opened.Apply (roll-Expr (record { place = t; form = form.Name z })) [])) i j k l m ∙ ap Some (sym (h))

  pub form_let : (x : Point) → is_operator z ≡ false → bytes_eq z (codes "mk-bv") ≡ false → bytes_eq z (codes "bv-extract") ≡ false → is_among count_operators z ≡ false → bytes_eq z (codes "update") ≡ false → bytes_eq z (codes "let") ≡ true → x ≡ point.Token a q due.Bindings → step_at p (point.Form a q) (token_at t (word z)) ≡ Some (left_at p x)
  unfolding all_forms
  form_let x i j k l m n h = form_word ∙ forms_6 (is_operator z) (bytes_eq z (codes "mk-bv")) (bytes_eq z (codes "bv-extract")) (is_among count_operators z) (bytes_eq z (codes "update")) (bytes_eq z (codes "let")) (bytes_eq z (codes "forall")) (is_name z) (opened_at p a q (opened.Op z [])) (left_at p (point.Token a q due.Width)) (left_at p (point.Token a q due.High)) (opened_at p a q (opened.Counted z)) (opened_at p a q opened.Update) (left_at p (point.Token a q due.Bindings)) (left_at p (point.Token a q due.Declarations)) (opened_at p a q (opened.Apply (roll-Expr (record { place = t; form = form.Name z })) [])) i j k l m n ∙ ap Some (sym (ap (left_at p) h))

  pub form_forall : (x : Point) → is_operator z ≡ false → bytes_eq z (codes "mk-bv") ≡ false → bytes_eq z (codes "bv-extract") ≡ false → is_among count_operators z ≡ false → bytes_eq z (codes "update") ≡ false → bytes_eq z (codes "let") ≡ false → bytes_eq z (codes "forall") ≡ true → x ≡ point.Token a q due.Declarations → step_at p (point.Form a q) (token_at t (word z)) ≡ Some (left_at p x)
  unfolding all_forms
  form_forall x i j k l m n o h = form_word ∙ forms_7 (is_operator z) (bytes_eq z (codes "mk-bv")) (bytes_eq z (codes "bv-extract")) (is_among count_operators z) (bytes_eq z (codes "update")) (bytes_eq z (codes "let")) (bytes_eq z (codes "forall")) (is_name z) (opened_at p a q (opened.Op z [])) (left_at p (point.Token a q due.Width)) (left_at p (point.Token a q due.High)) (opened_at p a q (opened.Counted z)) (opened_at p a q opened.Update) (left_at p (point.Token a q due.Bindings)) (left_at p (point.Token a q due.Declarations)) (opened_at p a q (opened.Apply (roll-Expr (record { place = t; form = form.Name z })) [])) i j k l m n o ∙ ap Some (sym (ap (left_at p) h))

  pub form_apply : (x : Point) → is_operator z ≡ false → bytes_eq z (codes "mk-bv") ≡ false → bytes_eq z (codes "bv-extract") ≡ false → is_among count_operators z ≡ false → bytes_eq z (codes "update") ≡ false → bytes_eq z (codes "let") ≡ false → bytes_eq z (codes "forall") ≡ false → is_name z ≡ true → left_at p x ≡ opened_at p a q (opened.Apply (roll-Expr (record { place = t; form = form.Name z })) []) → step_at p (point.Form a q) (token_at t (word z)) ≡ Some (left_at p x)
  unfolding all_forms
  form_apply x i j k l m n o r h = form_word ∙ forms_8 (is_operator z) (bytes_eq z (codes "mk-bv")) (bytes_eq z (codes "bv-extract")) (is_among count_operators z) (bytes_eq z (codes "update")) (bytes_eq z (codes "let")) (bytes_eq z (codes "forall")) (is_name z) (opened_at p a q (opened.Op z [])) (left_at p (point.Token a q due.Width)) (left_at p (point.Token a q due.High)) (opened_at p a q (opened.Counted z)) (opened_at p a q opened.Update) (left_at p (point.Token a q due.Bindings)) (left_at p (point.Token a q due.Declarations)) (opened_at p a q (opened.Apply (roll-Expr (record { place = t; form = form.Name z })) [])) i j k l m n o r ∙ ap Some (sym h)

  pub form_none : is_operator z ≡ false → bytes_eq z (codes "mk-bv") ≡ false → bytes_eq z (codes "bv-extract") ≡ false → is_among count_operators z ≡ false → bytes_eq z (codes "update") ≡ false → bytes_eq z (codes "let") ≡ false → bytes_eq z (codes "forall") ≡ false → is_name z ≡ false → step_at p (point.Form a q) (token_at t (word z)) ≡ None
  unfolding all_forms
  form_none i j k l m n o r = form_word ∙ forms_none (is_operator z) (bytes_eq z (codes "mk-bv")) (bytes_eq z (codes "bv-extract")) (is_among count_operators z) (bytes_eq z (codes "update")) (bytes_eq z (codes "let")) (bytes_eq z (codes "forall")) (is_name z) (opened_at p a q (opened.Op z [])) (left_at p (point.Token a q due.Width)) (left_at p (point.Token a q due.High)) (opened_at p a q (opened.Counted z)) (opened_at p a q opened.Update) (left_at p (point.Token a q due.Bindings)) (left_at p (point.Token a q due.Declarations)) (opened_at p a q (opened.Apply (roll-Expr (record { place = t; form = form.Name z })) [])) i j k l m n o r

-- an opening bracket in its place: a form that is applied
pub form_open : (p : Place) (a : Around) (q t : Place) (fs : List Frame) → fs ≡ a.frames ++ record { place = q; form = opened.Head } ∷ []
    → step_at p (point.Form a q) (token_at t open_bracket) ≡ Some (left_at p (point.Form (record { purpose = a.purpose; frames = fs }) t))
unfolding step_at left_at step
form_open p a q t fs h =
    ap (λ x. Some (leaves (part expression_form ∷ (frames_hole (command_hole p a.purpose) x).items) (λ f. (frames_hole (command_hole p a.purpose) x).make (expr_at t f))))
    (sym (ap reverse h ∙ reverse-append a.frames (record { place = q; form = opened.Head } ∷ [])))

-- a name before its arguments
pub applies : (p : Place) (a : Around) (q t : Place) (z w : List ℕ) (es : List Expr) (x : Point) → w ≡ z → es ≡ [] → left_at p x ≡ opened_at p a q (opened.Apply (roll-Expr (record { place = t; form = form.Name w })) es)
    → left_at p x ≡ opened_at p a q (opened.Apply (roll-Expr (record { place = t; form = form.Name z })) [])
applies p a q t z w es x u v h =
    h ∙ ap (λ y. opened_at p a q (opened.Apply (roll-Expr (record { place = t; form = form.Name y })) es)) u ∙ ap (λ y. opened_at p a q (opened.Apply (roll-Expr (record { place = t; form = form.Name z })) y)) v
