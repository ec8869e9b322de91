-- What the steps of the code answer.
use Rattle.std.specs.Prelude.{◌≡◌, ℕ, Option, Some, None, Result, Ok, Err, List, [], codes, if◌then◌else◌}
use Rattle.std.specs.Str.{bytes_eq}
use Rattle.std.specs.declared.alloc.AllocError.{AllocError}
use Rattle.yices_grammar.specs.declared.Place.{Place}
use Rattle.yices_grammar.specs.Tokens.{Lexeme, Token}
use Rattle.yices_grammar.specs.Words.{is_name, is_number, is_binary, is_hex, is_type_name}
use Rattle.yices_grammar.specs.Commands as grammar
use Rattle.yices_grammar.specs.Commands.{true_word, false_word, name, number, binary, hex, bool, real, named, Command}
use Rattle.yices_grammar.specs.Machine.{Left, left, step, Moved}
use Rattle.yices_commands.specs.declared.command.ExprForm.{ExprForm}
use Rattle.yices_commands.specs.declared.command.TypeForm.{TypeForm}
use Rattle.yices_commands.specs.declared.state.Point.{Point}
use Rattle.yices_commands.specs.declared.state.Point.TheVariants as point
use Rattle.yices_commands.specs.declared.command.Action.TheVariants as action
use Rattle.yices_commands.specs.declared.state.Next.{Next}
use Rattle.yices_commands.specs.declared.state.Step.{Step}
use Rattle.yices_commands.specs.Plain.{plain_form, plain_type_form}
use Rattle.yices_commands.specs.declared.state.Around.{Around}
use Rattle.yices_commands.specs.declared.state.Purpose.{Purpose}
use Rattle.yices_commands.specs.declared.state.Purpose.TheVariants as purpose
use Rattle.yices_commands.specs.declared.state.Opened.{Opened}
use Rattle.yices_commands.specs.declared.state.Filled.{Filled}
use Rattle.yices_commands.specs.declared.state.Filled.TheVariants as filled_form
use Rattle.yices_commands.specs.declared.command.TypeExpr.{TypeExpr}
use Rattle.yices_commands.specs.declared.state.TypePurpose.{TypePurpose}
use Rattle.yices_commands.specs.declared.state.AroundType.{AroundType}
use Rattle.yices_parser.specs.States.{Hole, command_hole, form_hole, around_hole, form_due, token_due, purpose_hole, type_hole, arrow_due, left_at, next_left, plain_step}

-- a token of that kind at that place
abbrev pub token_at : Place → Lexeme → Token
token_at p l = record { place = p; lexeme = l }

-- what is left behind a token, if what is left can begin with it
abbrev pub step_of : Left Command → Token → Option (Left Command)
step_of m t = step Command m.items m.make t

-- what is left behind a token at a point of a command that begins at that place
unfoldable pub step_at : Place → Point → Token → Option (Left Command)
step_at p x t = step Command (left_at p x).items (left_at p x).make t

-- what is left behind the part that is due
abbrev pub filled : {A : Type 0} → Hole A → A → Left Command
filled h x = left Command h.items (h.make x)

-- what is left behind an expression with this around it
unfoldable pub filled_at : Place → Around → grammar.Expr → Left Command
filled_at p a e = filled (around_hole p a) e

-- what is left in a form that stands in these
unfoldable pub opened_at : Place → Around → Place → Opened → Left Command
opened_at p a q o = form_due o q (around_hole p a)

-- what is left behind the expression of a command
unfoldable pub ended_at : Place → Purpose → grammar.Expr → Left Command
ended_at p g e = filled (command_hole p g) e

-- what is left behind a token in a form that stands in these
unfoldable pub opened_step : Place → Around → Place → Opened → Token → Option (Left Command)
opened_step p a q o t = step_of (form_due o q (around_hole p a)) t

-- what is left behind a type with this around it
unfoldable pub type_filled_at : Place → AroundType → grammar.TypeExpr → Left Command
type_filled_at p a t = filled (type_hole p a) t

-- what is left behind the type that is for something
unfoldable pub typed_at : Place → TypePurpose → grammar.TypeExpr → Left Command
typed_at p g t = filled (purpose_hole p g) t

-- what is left in a function type that stands in these
unfoldable pub arrow_at : Place → AroundType → Place → List TypeExpr → Left Command
arrow_at p a q ts = arrow_due ts q (type_hole p a)

-- what is left behind a token in a function type that stands in these
unfoldable pub arrow_step : Place → AroundType → Place → List TypeExpr → Token → Option (Left Command)
arrow_step p a q ts t = step_of (arrow_due ts q (type_hole p a)) t

-- what is left in a form behind an expression that was due, where the rest stands behind the form
abbrev pub filled_left : Filled → Place → Hole grammar.Expr → Left Command
filled_left (filled_form.Opened o) q rest = form_due o q rest
filled_left (filled_form.Due d) q rest = token_due d q rest

-- the form goes on so behind the expression, whatever stands behind the form
pub record Fills (o : Opened) (e : grammar.Expr) (f : Filled) : Type 0 where
  pub left_is : (q : Place) (rest : Hole grammar.Expr) → filled_left f q rest ≡ filled (form_hole o q rest) e

-- the point behind the step that is taken, if one is
abbrev pub Takes : Place → Option (Left Command) → Result (Option Point) AllocError → Type 0
Takes p o (Ok (Some x)) = o ≡ Some (left_at p x)
Takes p o (Ok None) = o ≡ None
Takes p o (Err e) = Unit {0}

-- the same, where the command may be complete
abbrev pub TakesNext : Place → Option (Left Command) → Result (Option Next) AllocError → Type 0
TakesNext p o (Ok (Some x)) = o ≡ Some (next_left p x)
TakesNext p o (Ok None) = o ≡ None
TakesNext p o (Err e) = Unit {0}

-- the point at which that is left
abbrev pub Leaves : Place → Left Command → Result Point AllocError → Type 0
Leaves p m (Ok x) = left_at p x ≡ m
Leaves p m (Err e) = Unit {0}

-- a word as an expression
unfoldable pub word_form : List ℕ → Option grammar.ExprForm
word_form w =
    if bytes_eq w (codes "true") then Some true_word
    else if bytes_eq w (codes "false") then Some false_word
    else if is_name w then Some (name w)
    else if is_number w then Some (number w)
    else if is_binary w then Some (binary w)
    else if is_hex w then Some (hex w)
    else None

-- a word as a type
unfoldable pub word_type : List ℕ → Option grammar.TypeForm
word_type w =
    if is_type_name w then Some (named w)
    else if bytes_eq w (codes "bool") then Some bool
    else if bytes_eq w (codes "real") then Some real
    else None

-- the word is that expression, or is none
abbrev pub IsWordForm : List ℕ → Result (Option ExprForm) AllocError → Type 0
IsWordForm w (Ok (Some f)) = word_form w ≡ Some (plain_form f)
IsWordForm w (Ok None) = word_form w ≡ None
IsWordForm w (Err e) = Unit {0}

-- the word is that type, or is none
abbrev pub IsWordType : List ℕ → Result (Option TypeForm) AllocError → Type 0
IsWordType w (Ok (Some f)) = word_type w ≡ Some (plain_type_form f)
IsWordType w (Ok None) = word_type w ≡ None
IsWordType w (Err e) = Unit {0}

-- the point behind the last words of commands
abbrev pub later_point : List ℕ → Option Point
later_point w =
    if bytes_eq w (codes "reset") then Some (point.End action.Reset)
    else if bytes_eq w (codes "show-model") then Some (point.End action.ShowModel)
    else if bytes_eq w (codes "eval") then Some (point.Expr (record { purpose = purpose.Eval; frames = [] }))
    else if bytes_eq w (codes "show-implicant") then Some (point.End action.ShowImplicant)
    else if bytes_eq w (codes "ef-solve") then Some (point.End action.EfSolve)
    else if bytes_eq w (codes "echo") then Some point.Echo
    else if bytes_eq w (codes "include") then Some point.Include
    else if bytes_eq w (codes "exit") then Some (point.End action.Exit)
    else None

-- the point behind the word of a command
abbrev pub command_point : List ℕ → Option Point
command_point w =
    if bytes_eq w (codes "define-type") then Some point.TypeName
    else if bytes_eq w (codes "define") then Some point.Name
    else if bytes_eq w (codes "assert") then Some (point.Expr (record { purpose = purpose.Assert; frames = [] }))
    else if bytes_eq w (codes "check") then Some (point.End action.Check)
    else if bytes_eq w (codes "check-assuming") then Some (point.Literal [])
    else if bytes_eq w (codes "show-unsat-assumptions") then Some (point.End action.ShowUnsatAssumptions)
    else if bytes_eq w (codes "push") then Some (point.End action.Push)
    else if bytes_eq w (codes "pop") then Some (point.End action.Pop)
    else later_point w

-- the step that is taken in a command, if one is
abbrev pub TakesStep : Option Moved → Result (Option Step) AllocError → Type 0
TakesStep o (Ok (Some s)) = o ≡ Some (plain_step s)
TakesStep o (Ok None) = o ≡ None
TakesStep o (Err e) = Unit {0}
