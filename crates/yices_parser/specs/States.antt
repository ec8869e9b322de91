-- What is left of a command in each state of the code.
use Rattle.std.specs.Prelude.{false, List, [], ◌∷◌, ◌++◌, map, reverse}
use Rattle.yices_grammar.specs.declared.Place.{Place}
use Rattle.yices_grammar.specs.Commands.{TypeExpr, type_at, arrow, bitvector, Expr, expr_at, ExprForm, operation, mk_bv, extract, counted, update, let_in, forall_in, apply, exprs, binds, Action, define_type_as, define, assert, check_assuming, eval, Command}
use Rattle.yices_grammar.specs.Commands as grammar
use Rattle.yices_grammar.specs.Tokens.{content_bytes}
use Rattle.yices_grammar.specs.Parts.{opening, closing, typing, text, the, a_name, a_type_name, a_whole, command_form, literal, type, type_form, expression, expression_form, binding, declaration, Item, sign, one, part, optional, many, some, Maker, written}
use Rattle.yices_grammar.specs.Grammar.{type_defined, defined, arrow_of}
use Rattle.yices_grammar.specs.Machine as machine
use Rattle.yices_grammar.specs.Machine.{Left, left}
use Rattle.std.specs.Prelude.{codes}
use Rattle.yices_commands.specs.declared.command.TypeExpr as code_type
use Rattle.yices_commands.specs.declared.state.Frame.{Frame}
use Rattle.yices_commands.specs.declared.state.Opened.{Opened}
use Rattle.yices_commands.specs.declared.state.Opened.TheVariants as opened
use Rattle.yices_commands.specs.declared.state.Purpose.{Purpose}
use Rattle.yices_commands.specs.declared.state.Purpose.TheVariants as purpose
use Rattle.yices_commands.specs.declared.state.Around.{Around}
use Rattle.yices_commands.specs.declared.state.Due.{Due}
use Rattle.yices_commands.specs.declared.state.Due.TheVariants as due
use Rattle.yices_commands.specs.declared.state.TypePurpose.{TypePurpose}
use Rattle.yices_commands.specs.declared.state.TypePurpose.TheVariants as type_purpose
use Rattle.yices_commands.specs.declared.state.Arrow.{Arrow}
use Rattle.yices_commands.specs.declared.state.AroundType.{AroundType}
use Rattle.yices_commands.specs.declared.state.Point.{Point}
use Rattle.yices_commands.specs.declared.state.Point.TheVariants as point
use Rattle.yices_commands.specs.declared.state.State.{State}
use Rattle.yices_commands.specs.declared.state.State.TheVariants as state
use Rattle.yices_commands.specs.declared.state.Next.{Next}
use Rattle.yices_commands.specs.declared.state.Next.TheVariants as next
use Rattle.yices_commands.specs.declared.state.Step.{Step}
use Rattle.yices_commands.specs.declared.state.Step.TheVariants as made
use Rattle.yices_commands.specs.Plain.{plain_type, plain_decl, plain, plain_form, plain_bind, plain_literal, plain_action, plain_command}

-- these items are left of a command
abbrev pub leaves : (items : List Item) → Maker items Command → Left Command
leaves items make = left Command items make

-- what is left behind a part that is due, and what both make
pub record Hole (A : Type 0) : Type 0 where
  pub items : List Item
  pub make : A → Maker items Command

abbrev pub hole : {A : Type 0} (items : List Item) → (A → Maker items Command) → Hole A
hole items make = record { items = items; make = make }

-- a command at that place
abbrev pub at : Place → Action → Command
at p a = record { place = p; action = a }

-- behind the expression of a command
abbrev pub command_hole : Place → Purpose → Hole Expr
command_hole p (purpose.Define w of) = hole (sign closing ∷ []) (λ e. at p (define w (plain_type of) e))
command_hole p purpose.Assert = hole (sign closing ∷ []) (λ e. at p (assert e))
command_hole p purpose.Eval = hole (sign closing ∷ []) (λ e. at p (eval e))

-- behind an expression in a form that stands at that place, where the rest is left behind the form
abbrev pub form_hole : Opened → Place → Hole Expr → Hole Expr
form_hole (opened.Op w es) p rest = hole (many expression ∷ sign closing ∷ rest.items) (λ x xs. rest.make (expr_at p (operation w (exprs (map plain es ++ x ∷ xs)))))
form_hole (opened.Extract i j) p rest = hole (sign closing ∷ rest.items) (λ x. rest.make (expr_at p (extract i j x)))
form_hole (opened.Counted w) p rest = hole (one a_whole ∷ sign closing ∷ rest.items) (λ x k. rest.make (expr_at p (counted w x (written k))))
form_hole opened.Update p rest = hole (sign opening ∷ some expression ∷ sign closing ∷ part expression ∷ sign closing ∷ rest.items) (λ x xs v. rest.make (expr_at p (update x (exprs xs) v)))
form_hole (opened.Arguments f es) p rest =
    hole (many expression ∷ sign closing ∷ part expression ∷ sign closing ∷ rest.items) (λ x xs v. rest.make (expr_at p (update (plain f) (exprs (map plain es ++ x ∷ xs)) v)))
form_hole (opened.Value f es) p rest = hole (sign closing ∷ rest.items) (λ x. rest.make (expr_at p (update (plain f) (exprs (map plain es)) x)))
form_hole (opened.Bind bs w) p rest =
    hole (sign closing ∷ many binding ∷ sign closing ∷ part expression ∷ sign closing ∷ rest.items)
    (λ x ys v. rest.make (expr_at p (let_in (binds (map plain_bind bs ++ record { name = w; expr = x } ∷ ys)) v)))
form_hole (opened.Let bs) p rest = hole (sign closing ∷ rest.items) (λ x. rest.make (expr_at p (let_in (binds (map plain_bind bs)) x)))
form_hole (opened.Forall ds) p rest = hole (sign closing ∷ rest.items) (λ x. rest.make (expr_at p (forall_in (map plain_decl ds) x)))
form_hole (opened.Apply f es) p rest = hole (many expression ∷ sign closing ∷ rest.items) (λ x xs. rest.make (expr_at p (apply (plain f) (exprs (map plain es ++ x ∷ xs)))))
form_hole opened.Head p rest = hole (some expression ∷ sign closing ∷ rest.items) (λ x xs. rest.make (expr_at p (apply x (exprs xs))))

-- behind an expression, the innermost form first
abbrev pub frames_hole : Hole Expr → List Frame → Hole Expr
frames_hole rest [] = rest
frames_hole rest (f ∷ fs) = form_hole f.form f.place (frames_hole rest fs)

-- behind an expression with this around it
abbrev pub around_hole : Place → Around → Hole Expr
around_hole p a = frames_hole (command_hole p a.purpose) (reverse a.frames)

-- where an expression is due in a form, or the end of a list of them
abbrev pub form_due : Opened → Place → Hole Expr → Left Command
form_due (opened.Op w es) p rest = leaves (many expression ∷ sign closing ∷ rest.items) (λ xs. rest.make (expr_at p (operation w (exprs (map plain es ++ xs)))))
form_due (opened.Arguments f []) p rest =
    leaves (some expression ∷ sign closing ∷ part expression ∷ sign closing ∷ rest.items) (λ xs v. rest.make (expr_at p (update (plain f) (exprs xs) v)))
form_due (opened.Arguments f (e ∷ es)) p rest =
    leaves (many expression ∷ sign closing ∷ part expression ∷ sign closing ∷ rest.items) (λ xs v. rest.make (expr_at p (update (plain f) (exprs (map plain (e ∷ es) ++ xs)) v)))
form_due (opened.Apply f []) p rest = leaves (some expression ∷ sign closing ∷ rest.items) (λ xs. rest.make (expr_at p (apply (plain f) (exprs xs))))
form_due (opened.Apply f (e ∷ es)) p rest = leaves (many expression ∷ sign closing ∷ rest.items) (λ xs. rest.make (expr_at p (apply (plain f) (exprs (map plain (e ∷ es) ++ xs)))))
form_due o p rest = leaves (part expression ∷ (form_hole o p rest).items) (form_hole o p rest).make

-- the same in the innermost of the forms
abbrev pub frames_due : Hole Expr → List Frame → Left Command
frames_due rest [] = leaves (part expression ∷ rest.items) rest.make
frames_due rest (f ∷ fs) = form_due f.form f.place (frames_hole rest fs)

-- where a token is due in a form that stands at that place
abbrev pub token_due : Due → Place → Hole Expr → Left Command
token_due due.Width p rest = leaves (one a_whole ∷ one a_whole ∷ sign closing ∷ rest.items) (λ n k. rest.make (expr_at p (mk_bv (written n) (written k))))
token_due (due.Number n) p rest = leaves (one a_whole ∷ sign closing ∷ rest.items) (λ k. rest.make (expr_at p (mk_bv n (written k))))
token_due due.High p rest = leaves (one a_whole ∷ one a_whole ∷ part expression ∷ sign closing ∷ rest.items) (λ i j x. rest.make (expr_at p (extract (written i) (written j) x)))
token_due (due.Low i) p rest = leaves (one a_whole ∷ part expression ∷ sign closing ∷ rest.items) (λ j x. rest.make (expr_at p (extract i (written j) x)))
token_due (due.Count w e) p rest = leaves (one a_whole ∷ sign closing ∷ rest.items) (λ k. rest.make (expr_at p (counted w (plain e) (written k))))
token_due (due.Arguments f) p rest =
    leaves (sign opening ∷ some expression ∷ sign closing ∷ part expression ∷ sign closing ∷ rest.items) (λ xs v. rest.make (expr_at p (update (plain f) (exprs xs) v)))
token_due due.Bindings p rest = leaves (sign opening ∷ some binding ∷ sign closing ∷ part expression ∷ sign closing ∷ rest.items) (λ ys v. rest.make (expr_at p (let_in (binds ys) v)))
token_due (due.Binding []) p rest = leaves (some binding ∷ sign closing ∷ part expression ∷ sign closing ∷ rest.items) (λ ys v. rest.make (expr_at p (let_in (binds ys) v)))
token_due (due.Binding (b ∷ bs)) p rest =
    leaves (many binding ∷ sign closing ∷ part expression ∷ sign closing ∷ rest.items) (λ ys v. rest.make (expr_at p (let_in (binds (map plain_bind (b ∷ bs) ++ ys)) v)))
token_due (due.BindingName bs) p rest =
    leaves (one a_name ∷ part expression ∷ sign closing ∷ many binding ∷ sign closing ∷ part expression ∷ sign closing ∷ rest.items)
    (λ w x ys v. rest.make (expr_at p (let_in (binds (map plain_bind bs ++ record { name = written w; expr = x } ∷ ys)) v)))
token_due (due.BindingEnd bs b) p rest =
    leaves (sign closing ∷ many binding ∷ sign closing ∷ part expression ∷ sign closing ∷ rest.items) (λ ys v. rest.make (expr_at p (let_in (binds (map plain_bind bs ++ plain_bind b ∷ ys)) v)))
token_due due.Declarations p rest = leaves (sign opening ∷ some declaration ∷ sign closing ∷ part expression ∷ sign closing ∷ rest.items) (λ ys v. rest.make (expr_at p (forall_in ys v)))
token_due (due.Declaration []) p rest = leaves (some declaration ∷ sign closing ∷ part expression ∷ sign closing ∷ rest.items) (λ ys v. rest.make (expr_at p (forall_in ys v)))
token_due (due.Declaration (d ∷ ds)) p rest =
    leaves (many declaration ∷ sign closing ∷ part expression ∷ sign closing ∷ rest.items) (λ ys v. rest.make (expr_at p (forall_in (map plain_decl (d ∷ ds) ++ ys) v)))
token_due (due.DeclarationMark ds w) p rest =
    leaves (sign typing ∷ part type ∷ many declaration ∷ sign closing ∷ part expression ∷ sign closing ∷ rest.items)
    (λ t ys v. rest.make (expr_at p (forall_in (map plain_decl ds ++ record { name = w; of = t } ∷ ys) v)))
token_due (due.End f) p rest = leaves (sign closing ∷ rest.items) (rest.make (expr_at p (plain_form f)))

-- behind the type that is for something
abbrev pub purpose_hole : Place → TypePurpose → Hole TypeExpr
purpose_hole p (type_purpose.DefineType w) = hole (sign closing ∷ []) (λ t. at p (define_type_as w t))
purpose_hole p (type_purpose.Define w) = hole (optional expression ∷ sign closing ∷ []) (λ t e. at p (defined w t e))
purpose_hole p (type_purpose.Variable around q ds w) =
    let rest = around_hole p around in
    hole (many declaration ∷ sign closing ∷ part expression ∷ sign closing ∷ rest.items) (λ t ys v. rest.make (expr_at q (forall_in (map plain_decl ds ++ record { name = w; of = t } ∷ ys) v)))

-- behind a type in a function type at that place
abbrev pub arrow_hole : List code_type.TypeExpr → Place → Hole TypeExpr → Hole TypeExpr
arrow_hole [] p rest = hole (part type ∷ many type ∷ sign closing ∷ rest.items) (λ t u us. rest.make (type_at p (arrow_of (t ∷ []) u us)))
arrow_hole (t ∷ []) p rest = hole (many type ∷ sign closing ∷ rest.items) (λ u us. rest.make (type_at p (arrow_of (plain_type t ∷ []) u us)))
arrow_hole (t ∷ u ∷ us) p rest = hole (many type ∷ sign closing ∷ rest.items) (λ x xs. rest.make (type_at p (arrow_of (plain_type t ∷ []) (plain_type u) (map plain_type us ++ x ∷ xs))))

-- behind a type, the innermost function type first
abbrev pub arrows_hole : Hole TypeExpr → List Arrow → Hole TypeExpr
arrows_hole rest [] = rest
arrows_hole rest (a ∷ as_) = arrow_hole a.types a.place (arrows_hole rest as_)

-- behind a type with this around it
abbrev pub type_hole : Place → AroundType → Hole TypeExpr
type_hole p a = arrows_hole (purpose_hole p a.purpose) (reverse a.arrows)

-- where a type is due in a function type, or the end of it
abbrev pub arrow_due : List code_type.TypeExpr → Place → Hole TypeExpr → Left Command
arrow_due [] p rest = leaves (part type ∷ part type ∷ many type ∷ sign closing ∷ rest.items) (λ t u us. rest.make (type_at p (arrow_of (t ∷ []) u us)))
arrow_due (t ∷ []) p rest = leaves (part type ∷ many type ∷ sign closing ∷ rest.items) (λ u us. rest.make (type_at p (arrow_of (plain_type t ∷ []) u us)))
arrow_due (t ∷ u ∷ us) p rest = leaves (many type ∷ sign closing ∷ rest.items) (λ xs. rest.make (type_at p (arrow_of (plain_type t ∷ []) (plain_type u) (map plain_type us ++ xs))))

-- the same in the innermost of the function types
abbrev pub type_due : Hole TypeExpr → List Arrow → Left Command
type_due rest [] = leaves (part type ∷ rest.items) rest.make
type_due rest (a ∷ as_) = arrow_due a.types a.place (arrows_hole rest as_)

-- what is left of a command that begins at that place
unfoldable pub left_at : Place → Point → Left Command
left_at p point.Word = leaves (part command_form ∷ []) (λ a. at p a)
left_at p point.TypeName = leaves (one a_type_name ∷ optional type ∷ sign closing ∷ []) (λ w of. at p (type_defined (written w) of))
left_at p (point.TypeOrEnd w) = leaves (optional type ∷ sign closing ∷ []) (λ of. at p (type_defined w of))
left_at p point.Name = leaves (one a_name ∷ sign typing ∷ part type ∷ optional expression ∷ sign closing ∷ []) (λ w of e. at p (defined (written w) of e))
left_at p (point.Mark w) = leaves (sign typing ∷ part type ∷ optional expression ∷ sign closing ∷ []) (λ of e. at p (defined w of e))
left_at p (point.ExprOrEnd w of) = leaves (optional expression ∷ sign closing ∷ []) (λ e. at p (defined w (plain_type of) e))
left_at p (point.Literal ls) = leaves (many literal ∷ sign closing ∷ []) (λ ms. at p (check_assuming (map plain_literal ls ++ ms)))
left_at p (point.LiteralNot ls q) =
    leaves (sign (the (codes "not")) ∷ one a_name ∷ sign closing ∷ many literal ∷ sign closing ∷ [])
    (λ w ms. at p (check_assuming (map plain_literal ls ++ record { place = q; name_place = w.place; name = written w; positive = false } ∷ ms)))
left_at p (point.LiteralName ls q) =
    leaves (one a_name ∷ sign closing ∷ many literal ∷ sign closing ∷ [])
    (λ w ms. at p (check_assuming (map plain_literal ls ++ record { place = q; name_place = w.place; name = written w; positive = false } ∷ ms)))
left_at p (point.LiteralEnd ls l) = leaves (sign closing ∷ many literal ∷ sign closing ∷ []) (λ ms. at p (check_assuming (map plain_literal ls ++ plain_literal l ∷ ms)))
left_at p point.Echo = leaves (one text ∷ sign closing ∷ []) (λ s. at p (grammar.echo (content_bytes (written s))))
left_at p point.Include = leaves (one text ∷ sign closing ∷ []) (λ s. at p (grammar.include (content_bytes (written s))))
left_at p (point.End a) = leaves (sign closing ∷ []) (at p (plain_action a))
left_at p (point.Type a) = type_due (purpose_hole p a.purpose) (reverse a.arrows)
left_at p (point.TypeForm a q) = leaves (part type_form ∷ (type_hole p a).items) (λ f. (type_hole p a).make (type_at q f))
left_at p (point.TypeWidth a q) = leaves (one a_whole ∷ sign closing ∷ (type_hole p a).items) (λ n. (type_hole p a).make (type_at q (bitvector (written n))))
left_at p (point.TypeEnd a q n) = leaves (sign closing ∷ (type_hole p a).items) ((type_hole p a).make (type_at q (bitvector n)))
left_at p (point.Expr a) = frames_due (command_hole p a.purpose) (reverse a.frames)
left_at p (point.Form a q) = leaves (part expression_form ∷ (around_hole p a).items) (λ f. (around_hole p a).make (expr_at q f))
left_at p (point.Token a q d) = token_due d q (around_hole p a)

-- a state of the code as one of the machine
abbrev pub plain_state : State → machine.State
plain_state state.Between = machine.between
plain_state (state.Inside p x) = machine.inside (left_at p x)

-- what is left behind a token of a command
abbrev pub next_left : Place → Next → Left Command
next_left p (next.Goes x) = left_at p x
next_left p (next.Complete a) = leaves [] (at p (plain_action a))

-- a step of the code as one of the machine
abbrev pub plain_step : Step → machine.Moved
plain_step (made.Goes s) = record { state = plain_state s; commands = [] }
plain_step (made.Complete c) = record { state = machine.between; commands = plain_command c ∷ [] }
