-- Which tokens are due at no point, and what a step inside a command is.
use Rattle.std.proofs.Common.{◌≡◌, ◌∙◌, ℕ, Some, None, List, [], ◌∷◌, map, refl, sym, ap, append-nil}
use Rattle.std.specs.Prelude.{reverse}
use Rattle.yices_grammar.specs.declared.Place.{Place}
use Rattle.yices_grammar.specs.Tokens.{Lexeme, open_bracket, close_bracket, typing_mark, word, string, content_bytes}
use Rattle.yices_grammar.specs.Commands as grammar
use Rattle.yices_grammar.specs.Commands.{check_assuming, Command}
use Rattle.yices_grammar.specs.Machine as machine
use Rattle.yices_grammar.specs.Machine.{Left, left, step, settled, after, take_token}
use Rattle.yices_commands.specs.declared.command.TypeExpr.{TypeExpr}
use Rattle.yices_commands.specs.declared.command.LitExpr.{LitExpr}
use Rattle.yices_commands.specs.declared.command.Action.{Action}
use Rattle.yices_commands.specs.declared.command.Action.TheVariants as action
use Rattle.yices_commands.specs.declared.state.Around.{Around}
use Rattle.yices_commands.specs.declared.state.AroundType.{AroundType}
use Rattle.yices_commands.specs.declared.state.Due.{Due}
use Rattle.yices_commands.specs.declared.state.Due.TheVariants as due
use Rattle.yices_commands.specs.declared.state.Frame.{Frame}
use Rattle.yices_commands.specs.declared.state.Arrow.{Arrow}
use Rattle.yices_commands.specs.declared.state.Opened.{Opened}
use Rattle.yices_commands.specs.declared.state.Opened.TheVariants as opened
use Rattle.yices_commands.specs.declared.state.Point.{Point}
use Rattle.yices_commands.specs.declared.state.Point.TheVariants as point
use Rattle.yices_commands.specs.declared.state.State.TheVariants as state
use Rattle.yices_commands.specs.declared.state.Step.TheVariants as made
use Rattle.yices_commands.specs.declared.state.Next.TheVariants as next
use Rattle.yices_commands.specs.Plain.{plain_literal}
use Rattle.yices_parser.specs.States.{Hole, at, command_hole, frames_hole, frames_due, form_due, purpose_hole, arrows_hole, arrow_due, type_due, left_at, next_left, plain_state, plain_step}
use Rattle.yices_parser.specs.Steps.{token_at, step_at, step_of}

-- a word
pub no_word : (p : Place) (x : Point) (t : Place) (z : List ℕ) → (x ≡ point.Word → ⊥) → (x ≡ point.TypeName → ⊥) → ((w : List ℕ) → x ≡ point.TypeOrEnd w → ⊥) → (x ≡ point.Name → ⊥)
    → ((w : List ℕ) (of : TypeExpr) → x ≡ point.ExprOrEnd w of → ⊥) → ((ls : List LitExpr) → x ≡ point.Literal ls → ⊥) → ((ls : List LitExpr) (q : Place) → x ≡ point.LiteralNot ls q → ⊥)
    → ((ls : List LitExpr) (q : Place) → x ≡ point.LiteralName ls q → ⊥) → ((a : AroundType) → x ≡ point.Type a → ⊥) → ((a : AroundType) (q : Place) → x ≡ point.TypeForm a q → ⊥)
    → ((a : AroundType) (q : Place) → x ≡ point.TypeWidth a q → ⊥) → ((a : Around) → x ≡ point.Expr a → ⊥) → ((a : Around) (q : Place) → x ≡ point.Form a q → ⊥)
    → ((a : Around) (q : Place) (d : Due) → x ≡ point.Token a q d → ⊥) → step_at p x (token_at t (word z)) ≡ None
unfolding step_at left_at step
no_word p point.Word t z a b c d e f g h i j k l m n = absurd (a refl)
no_word p point.TypeName t z a b c d e f g h i j k l m n = absurd (b refl)
no_word p (point.TypeOrEnd w) t z a b c d e f g h i j k l m n = absurd (c w refl)
no_word p point.Name t z a b c d e f g h i j k l m n = absurd (d refl)
no_word p (point.ExprOrEnd w of) t z a b c d e f g h i j k l m n = absurd (e w of refl)
no_word p (point.Literal ls) t z a b c d e f g h i j k l m n = absurd (f ls refl)
no_word p (point.LiteralNot ls q) t z a b c d e f g h i j k l m n = absurd (g ls q refl)
no_word p (point.LiteralName ls q) t z a b c d e f g h i j k l m n = absurd (h ls q refl)
no_word p (point.Type x) t z a b c d e f g h i j k l m n = absurd (i x refl)
no_word p (point.TypeForm x q) t z a b c d e f g h i j k l m n = absurd (j x q refl)
no_word p (point.TypeWidth x q) t z a b c d e f g h i j k l m n = absurd (k x q refl)
no_word p (point.Expr x) t z a b c d e f g h i j k l m n = absurd (l x refl)
no_word p (point.Form x q) t z a b c d e f g h i j k l m n = absurd (m x q refl)
no_word p (point.Token x q y) t z a b c d e f g h i j k l m n = absurd (n x q y refl)
no_word p (point.Mark w) t z a b c d e f g h i j k l m n = refl
no_word p (point.LiteralEnd ls x) t z a b c d e f g h i j k l m n = refl
no_word p point.Echo t z a b c d e f g h i j k l m n = refl
no_word p point.Include t z a b c d e f g h i j k l m n = refl
no_word p (point.End x) t z a b c d e f g h i j k l m n = refl
no_word p (point.TypeEnd x q y) t z a b c d e f g h i j k l m n = refl

-- an opening bracket
pub no_open : (p : Place) (x : Point) (t : Place) → ((w : List ℕ) → x ≡ point.TypeOrEnd w → ⊥) → ((w : List ℕ) (of : TypeExpr) → x ≡ point.ExprOrEnd w of → ⊥) → ((ls : List LitExpr) → x ≡ point.Literal ls → ⊥)
    → ((a : AroundType) → x ≡ point.Type a → ⊥) → ((a : Around) → x ≡ point.Expr a → ⊥) → ((a : Around) (q : Place) → x ≡ point.Form a q → ⊥) → ((a : Around) (q : Place) (d : Due) → x ≡ point.Token a q d → ⊥)
    → step_at p x (token_at t open_bracket) ≡ None
unfolding step_at left_at step
no_open p (point.TypeOrEnd w) t a b c d e f g = absurd (a w refl)
no_open p (point.ExprOrEnd w of) t a b c d e f g = absurd (b w of refl)
no_open p (point.Literal ls) t a b c d e f g = absurd (c ls refl)
no_open p (point.Type x) t a b c d e f g = absurd (d x refl)
no_open p (point.Expr x) t a b c d e f g = absurd (e x refl)
no_open p (point.Form x q) t a b c d e f g = absurd (f x q refl)
no_open p (point.Token x q y) t a b c d e f g = absurd (g x q y refl)
no_open p x t a b c d e f g = refl

-- a closing bracket
pub no_close : (p : Place) (x : Point) (t : Place) → ((w : List ℕ) → x ≡ point.TypeOrEnd w → ⊥) → ((w : List ℕ) (of : TypeExpr) → x ≡ point.ExprOrEnd w of → ⊥) → ((ls : List LitExpr) → x ≡ point.Literal ls → ⊥)
    → ((a : Action) → x ≡ point.End a → ⊥) → ((ls : List LitExpr) (l : LitExpr) → x ≡ point.LiteralEnd ls l → ⊥) → ((a : AroundType) → x ≡ point.Type a → ⊥)
    → ((a : AroundType) (q : Place) (n : List ℕ) → x ≡ point.TypeEnd a q n → ⊥) → ((a : Around) → x ≡ point.Expr a → ⊥) → ((a : Around) (q : Place) (d : Due) → x ≡ point.Token a q d → ⊥)
    → step_at p x (token_at t close_bracket) ≡ None
unfolding step_at left_at step
no_close p (point.TypeOrEnd w) t a b c d e f g h i = absurd (a w refl)
no_close p (point.ExprOrEnd w of) t a b c d e f g h i = absurd (b w of refl)
no_close p (point.Literal ls) t a b c d e f g h i = absurd (c ls refl)
no_close p (point.End x) t a b c d e f g h i = absurd (d x refl)
no_close p (point.LiteralEnd ls l) t a b c d e f g h i = absurd (e ls l refl)
no_close p (point.Type x) t a b c d e f g h i = absurd (f x refl)
no_close p (point.TypeEnd x q n) t a b c d e f g h i = absurd (g x q n refl)
no_close p (point.Expr x) t a b c d e f g h i = absurd (h x refl)
no_close p (point.Token x q y) t a b c d e f g h i = absurd (i x q y refl)
no_close p x t a b c d e f g h i = refl

-- the typing mark, and a string, where a type is due
arrow_mark : (ts : List TypeExpr) (p : Place) (rest : Hole grammar.TypeExpr) (q : Place) → step_of (arrow_due ts p rest) (token_at q typing_mark) ≡ None
unfolding step
arrow_mark [] p rest q = refl
arrow_mark (t ∷ []) p rest q = refl
arrow_mark (t ∷ u ∷ us) p rest q = refl

arrow_string : (ts : List TypeExpr) (p : Place) (rest : Hole grammar.TypeExpr) (q : Place) (s : List ℕ) → step_of (arrow_due ts p rest) (token_at q (string s)) ≡ None
unfolding step
arrow_string [] p rest q s = refl
arrow_string (t ∷ []) p rest q s = refl
arrow_string (t ∷ u ∷ us) p rest q s = refl

type_mark : (rest : Hole grammar.TypeExpr) (bs : List Arrow) (q : Place) → step_of (type_due rest bs) (token_at q typing_mark) ≡ None
unfolding step
type_mark rest [] q = refl
type_mark rest (b ∷ bs) q = arrow_mark b.types b.place (arrows_hole rest bs) q

type_string : (rest : Hole grammar.TypeExpr) (bs : List Arrow) (q : Place) (s : List ℕ) → step_of (type_due rest bs) (token_at q (string s)) ≡ None
unfolding step
type_string rest [] q s = refl
type_string rest (b ∷ bs) q s = arrow_string b.types b.place (arrows_hole rest bs) q s

-- where an expression is due
form_mark : (o : Opened) (p : Place) (rest : Hole grammar.Expr) (q : Place) → step_of (form_due o p rest) (token_at q typing_mark) ≡ None
unfolding step
form_mark (opened.Arguments f []) p rest q = refl
form_mark (opened.Arguments f (e ∷ es)) p rest q = refl
form_mark (opened.Apply f []) p rest q = refl
form_mark (opened.Apply f (e ∷ es)) p rest q = refl
form_mark o p rest q = refl

form_string : (o : Opened) (p : Place) (rest : Hole grammar.Expr) (q : Place) (s : List ℕ) → step_of (form_due o p rest) (token_at q (string s)) ≡ None
unfolding step
form_string (opened.Arguments f []) p rest q s = refl
form_string (opened.Arguments f (e ∷ es)) p rest q s = refl
form_string (opened.Apply f []) p rest q s = refl
form_string (opened.Apply f (e ∷ es)) p rest q s = refl
form_string o p rest q s = refl

expr_mark : (rest : Hole grammar.Expr) (fs : List Frame) (q : Place) → step_of (frames_due rest fs) (token_at q typing_mark) ≡ None
unfolding step
expr_mark rest [] q = refl
expr_mark rest (f ∷ fs) q = form_mark f.form f.place (frames_hole rest fs) q

expr_string : (rest : Hole grammar.Expr) (fs : List Frame) (q : Place) (s : List ℕ) → step_of (frames_due rest fs) (token_at q (string s)) ≡ None
unfolding step
expr_string rest [] q s = refl
expr_string rest (f ∷ fs) q s = form_string f.form f.place (frames_hole rest fs) q s

-- a string in a form
token_string : (p : Place) (a : Around) (q t : Place) (d : Due) (s : List ℕ) → step_at p (point.Token a q d) (token_at t (string s)) ≡ None
unfolding step_at left_at step
token_string p a q t (due.Binding []) s = refl
token_string p a q t (due.Binding (b ∷ bs)) s = refl
token_string p a q t (due.Declaration []) s = refl
token_string p a q t (due.Declaration (d ∷ ds)) s = refl
token_string p a q t d s = refl

pub no_mark : (p : Place) (x : Point) (t : Place) → ((w : List ℕ) → x ≡ point.Mark w → ⊥) → ((a : Around) (q : Place) (d : Due) → x ≡ point.Token a q d → ⊥) → step_at p x (token_at t typing_mark) ≡ None
unfolding step_at left_at step
no_mark p (point.Mark w) t a b = absurd (a w refl)
no_mark p (point.Token x q d) t a b = absurd (b x q d refl)
no_mark p (point.Type x) t a b = type_mark (purpose_hole p x.purpose) (reverse x.arrows) t
no_mark p (point.Expr x) t a b = expr_mark (command_hole p x.purpose) (reverse x.frames) t
no_mark p x t a b = refl

pub no_string : (p : Place) (x : Point) (t : Place) (s : List ℕ) → (x ≡ point.Echo → ⊥) → (x ≡ point.Include → ⊥) → step_at p x (token_at t (string s)) ≡ None
unfolding step_at left_at step
no_string p point.Echo t s a b = absurd (a refl)
no_string p point.Include t s a b = absurd (b refl)
no_string p (point.Type x) t s a b = type_string (purpose_hole p x.purpose) (reverse x.arrows) t s
no_string p (point.Expr x) t s a b = expr_string (command_hole p x.purpose) (reverse x.frames) t s
no_string p (point.Token x q d) t s a b = token_string p x q t d s
no_string p x t s a b = refl

-- strings
pub echo_string : (p t : Place) (s bytes : List ℕ) → bytes ≡ content_bytes s → step_at p point.Echo (token_at t (string s)) ≡ Some (left_at p (point.End (action.Echo bytes)))
unfolding step_at left_at step
echo_string p t s bytes h = ap (λ v. Some (left_at p (point.End (action.Echo v)))) (sym h)

pub include_string : (p t : Place) (s bytes : List ℕ) → bytes ≡ content_bytes s → step_at p point.Include (token_at t (string s)) ≡ Some (left_at p (point.End (action.Include bytes)))
unfolding step_at left_at step
include_string p t s bytes h = ap (λ v. Some (left_at p (point.End (action.Include v)))) (sym h)

-- ends of commands
pub ends_type_name : (p t : Place) (w : List ℕ) → step_at p (point.TypeOrEnd w) (token_at t close_bracket) ≡ Some (next_left p (next.Complete (action.DefineType w)))
unfolding step_at left_at step
ends_type_name p t w = refl

pub ends_name : (p t : Place) (w : List ℕ) (of : TypeExpr) → step_at p (point.ExprOrEnd w of) (token_at t close_bracket) ≡ Some (next_left p (next.Complete (action.Declare w of)))
unfolding step_at left_at step
ends_name p t w of = refl

pub ends_literals : (p t : Place) (ls : List LitExpr) → step_at p (point.Literal ls) (token_at t close_bracket) ≡ Some (next_left p (next.Complete (action.CheckAssuming ls)))
unfolding step_at left_at step
ends_literals p t ls = ap (λ ms. Some (left Command [] (at p (check_assuming ms)))) (append-nil (map plain_literal ls))

pub ends_action : (p t : Place) (x : Action) → step_at p (point.End x) (token_at t close_bracket) ≡ Some (next_left p (next.Complete x))
unfolding step_at left_at step
ends_action p t x = refl

-- what is left at a point is not nothing
settled_form : (o : Opened) (p : Place) (rest : Hole grammar.Expr) → settled (form_due o p rest).items (form_due o p rest).make ≡ record { state = machine.inside (form_due o p rest); commands = [] }
settled_form (opened.Arguments f []) p rest = refl
settled_form (opened.Arguments f (e ∷ es)) p rest = refl
settled_form (opened.Apply f []) p rest = refl
settled_form (opened.Apply f (e ∷ es)) p rest = refl
settled_form o p rest = refl

settled_frames : (rest : Hole grammar.Expr) (fs : List Frame) → settled (frames_due rest fs).items (frames_due rest fs).make ≡ record { state = machine.inside (frames_due rest fs); commands = [] }
settled_frames rest [] = refl
settled_frames rest (f ∷ fs) = settled_form f.form f.place (frames_hole rest fs)

settled_arrow : (ts : List TypeExpr) (p : Place) (rest : Hole grammar.TypeExpr) → settled (arrow_due ts p rest).items (arrow_due ts p rest).make ≡ record { state = machine.inside (arrow_due ts p rest); commands = [] }
settled_arrow [] p rest = refl
settled_arrow (t ∷ []) p rest = refl
settled_arrow (t ∷ u ∷ us) p rest = refl

settled_type : (rest : Hole grammar.TypeExpr) (bs : List Arrow) → settled (type_due rest bs).items (type_due rest bs).make ≡ record { state = machine.inside (type_due rest bs); commands = [] }
settled_type rest [] = refl
settled_type rest (b ∷ bs) = settled_arrow b.types b.place (arrows_hole rest bs)

settled_token : (p : Place) (a : Around) (q : Place) (d : Due) → settled (left_at p (point.Token a q d)).items (left_at p (point.Token a q d)).make ≡ record { state = machine.inside (left_at p (point.Token a q d)); commands = [] }
unfolding left_at
settled_token p a q (due.Binding []) = refl
settled_token p a q (due.Binding (b ∷ bs)) = refl
settled_token p a q (due.Declaration []) = refl
settled_token p a q (due.Declaration (d ∷ ds)) = refl
settled_token p a q d = refl

settled_at : (p : Place) (x : Point) → settled (left_at p x).items (left_at p x).make ≡ record { state = machine.inside (left_at p x); commands = [] }
unfolding left_at
settled_at p (point.Type x) = settled_type (purpose_hole p x.purpose) (reverse x.arrows)
settled_at p (point.Expr x) = settled_frames (command_hole p x.purpose) (reverse x.frames)
settled_at p (point.Token a q d) = settled_token p a q d
settled_at p x = refl

-- a step inside a command
pub step_goes : (p : Place) (x y : Point) (t : Place) (l : Lexeme) → step_at p x (token_at t l) ≡ Some (left_at p y) → take_token (plain_state (state.Inside p x)) (token_at t l) ≡ Some (plain_step (made.Goes (state.Inside p y)))
unfolding take_token step_at
step_goes p x y t l h = ap (λ o. after o (λ m. Some (settled m.items m.make))) h ∙ ap Some (settled_at p y)

pub step_completes : (p : Place) (x : Point) (a : Action) (t : Place) (l : Lexeme) → step_at p x (token_at t l) ≡ Some (next_left p (next.Complete a))
    → take_token (plain_state (state.Inside p x)) (token_at t l) ≡ Some (plain_step (made.Complete (record { place = p; action = a })))
unfolding take_token step_at
step_completes p x a t l h = ap (λ o. after o (λ m. Some (settled m.items m.make))) h

pub step_none : (p : Place) (x : Point) (t : Place) (l : Lexeme) → step_at p x (token_at t l) ≡ None → take_token (plain_state (state.Inside p x)) (token_at t l) ≡ None
unfolding take_token step_at
step_none p x t l h = ap (λ o. after o (λ m. Some (settled m.items m.make))) h

-- the opening bracket of a command
pub begins : (t : Place) → take_token machine.between (token_at t open_bracket) ≡ Some (plain_step (made.Goes (state.Inside t point.Word)))
unfolding take_token step left_at
begins t = refl

pub no_begin : (t : Place) (l : Lexeme) → (l ≡ open_bracket → ⊥) → take_token machine.between (token_at t l) ≡ None
unfolding take_token step
no_begin t open_bracket h = absurd (h refl)
no_begin t close_bracket h = refl
no_begin t typing_mark h = refl
no_begin t (word w) h = refl
no_begin t (string s) h = refl
