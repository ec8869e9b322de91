-- Forms that are opened, and expressions that end a command.
use Rattle.std.proofs.Common.{◌≡◌, ◌∙◌, ℕ, List, [], ◌∷◌, ◌++◌, sym, ap}
use Rattle.std.specs.Prelude.{reverse}
use Rattle.std.proofs.lemmas.List.{reverse-append}
use Rattle.yices_grammar.specs.declared.Place.{Place}
use Rattle.yices_commands.specs.declared.command.Expr.{Expr}
use Rattle.yices_commands.specs.declared.command.TypeExpr.{TypeExpr}
use Rattle.yices_commands.specs.declared.command.Action.TheVariants as action
use Rattle.yices_commands.specs.declared.state.Frame.{Frame}
use Rattle.yices_commands.specs.declared.state.Opened.{Opened}
use Rattle.yices_commands.specs.declared.state.Around.{Around}
use Rattle.yices_commands.specs.declared.state.Due.{Due}
use Rattle.yices_commands.specs.declared.state.Filled.TheVariants as filled_form
use Rattle.yices_commands.specs.declared.state.Purpose.{Purpose}
use Rattle.yices_commands.specs.declared.state.Purpose.TheVariants as purpose
use Rattle.yices_commands.specs.declared.state.Point.TheVariants as point
use Rattle.yices_commands.specs.Plain.{plain}
use Rattle.yices_parser.specs.States.{left_at, command_hole, frames_hole, frames_due}
use Rattle.yices_parser.specs.Steps.{filled, filled_at, opened_at, ended_at, Fills}

-- a form more
pub opens : (p : Place) (a : Around) (fs : List Frame) (q : Place) (o : Opened) → fs ≡ a.frames ++ record { place = q; form = o } ∷ []
    → left_at p (point.Expr (record { purpose = a.purpose; frames = fs })) ≡ opened_at p a q o
unfolding left_at opened_at
opens p a fs q o h = ap (frames_due (command_hole p a.purpose)) (ap reverse h ∙ reverse-append a.frames (record { place = q; form = o } ∷ []))

pub ends_define : (p : Place) (g : Purpose) (w : List ℕ) (t : TypeExpr) (e : Expr) → g ≡ purpose.Define w t → left_at p (point.End (action.Define w t e)) ≡ ended_at p g (plain e)
unfolding left_at ended_at
ends_define p g w t e h = ap (λ x. ended_at p x (plain e)) (sym h)

pub ends_assert : (p : Place) (g : Purpose) (e : Expr) → g ≡ purpose.Assert → left_at p (point.End (action.Assert e)) ≡ ended_at p g (plain e)
unfolding left_at ended_at
ends_assert p g e h = ap (λ x. ended_at p x (plain e)) (sym h)

pub ends_eval : (p : Place) (g : Purpose) (e : Expr) → g ≡ purpose.Eval → left_at p (point.End (action.Eval e)) ≡ ended_at p g (plain e)
unfolding left_at ended_at
ends_eval p g e h = ap (λ x. ended_at p x (plain e)) (sym h)

-- the innermost form is taken away, and the expression is what was due in it
around_push : (p : Place) (a : Around) (fs : List Frame) (q : Place) (o : Opened) (e : Expr) → a.frames ≡ fs ++ record { place = q; form = o } ∷ []
    → filled_at p a (plain e) ≡ filled (frames_hole (command_hole p a.purpose) (record { place = q; form = o } ∷ reverse fs)) (plain e)
unfolding filled_at
around_push p a fs q o e h = ap (λ x. filled (frames_hole (command_hole p a.purpose) x) (plain e)) (ap reverse h ∙ reverse-append fs (record { place = q; form = o } ∷ []))

pub attaches_opened : (p : Place) (a : Around) (fs : List Frame) (q : Place) (o n : Opened) (e : Expr) → a.frames ≡ fs ++ record { place = q; form = o } ∷ [] → Fills o (plain e) (filled_form.Opened n)
    → opened_at p (record { purpose = a.purpose; frames = fs }) q n ≡ filled_at p a (plain e)
unfolding opened_at
attaches_opened p a fs q o n e h f = f.left_is q (frames_hole (command_hole p a.purpose) (reverse fs)) ∙ sym (around_push p a fs q o e h)

pub attaches_due : (p : Place) (a : Around) (fs : List Frame) (q : Place) (o : Opened) (d : Due) (e : Expr) → a.frames ≡ fs ++ record { place = q; form = o } ∷ [] → Fills o (plain e) (filled_form.Due d)
    → left_at p (point.Token (record { purpose = a.purpose; frames = fs }) q d) ≡ filled_at p a (plain e)
unfolding left_at
attaches_due p a fs q o d e h f = f.left_is q (frames_hole (command_hole p a.purpose) (reverse fs)) ∙ sym (around_push p a fs q o e h)

pub attaches_none : (p : Place) (a : Around) (e : Expr) → a.frames ≡ [] → ended_at p a.purpose (plain e) ≡ filled_at p a (plain e)
unfolding ended_at filled_at
attaches_none p a e h = ap (λ x. filled (frames_hole (command_hole p a.purpose) (reverse x)) (plain e)) (sym h)
