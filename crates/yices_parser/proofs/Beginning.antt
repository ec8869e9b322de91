-- The words of commands, the names that they define, and literals.
use Rattle.std.proofs.Common.{◌≡◌, ◌∙◌, ℕ, Bool, true, false, Option, Some, None, Ok, List, [], ◌∷◌, ◌++◌, map, refl, sym, ap}
use Rattle.std.specs.Prelude.{codes, if◌then◌else◌, option_map}
use Rattle.std.specs.Str.{bytes_eq}
use Rattle.yices_grammar.specs.declared.Place.{Place}
use Rattle.yices_grammar.specs.Tokens.{open_bracket, close_bracket, typing_mark, word}
use Rattle.yices_grammar.specs.Words.{is_name, is_type_name}
use Rattle.yices_grammar.specs.Commands as grammar
use Rattle.yices_grammar.specs.Commands.{check_assuming, Command}
use Rattle.yices_grammar.specs.Parts.{closing, literal, sign, many}
use Rattle.yices_grammar.specs.Machine.{Left, step}
use Rattle.yices_commands.specs.declared.command.TypeExpr.{TypeExpr}
use Rattle.yices_commands.specs.declared.command.LitExpr.{LitExpr}
use Rattle.yices_commands.specs.declared.command.Action.TheVariants as action
use Rattle.yices_commands.specs.declared.state.Frame.{Frame}
use Rattle.yices_commands.specs.declared.state.Arrow.{Arrow}
use Rattle.yices_commands.specs.declared.state.Purpose.TheVariants as purpose
use Rattle.yices_commands.specs.declared.state.TypePurpose.TheVariants as type_purpose
use Rattle.yices_commands.specs.declared.state.Point.{Point}
use Rattle.yices_commands.specs.declared.state.Point.TheVariants as point
use Rattle.yices_commands.specs.Plain.{plain_literal}
use Rattle.yices_parser.specs.States.{leaves, at, left_at}
use Rattle.yices_parser.specs.Steps.{token_at, step_at, Takes, command_point}
use Rattle.yices_lexer.proofs.Cutting.{cond_yes, cond_no}
use Rattle.yices_parser.proofs.Entering.{or_none}
use Rattle.yices_parser.proofs.Filling.{more_items}

-- one choice more, each with a function
map_if : {X Y : Type 0} (g : X → Y) (b : Bool) (x : X) (o : Option X) (r : Option Y) → r ≡ option_map g o → (if b then Some (g x) else r) ≡ option_map g (if b then Some x else o)
map_if g true x o r h = refl
map_if g false x o r h = h

pub takes_point : (p : Place) (o : Option (Left Command)) (r : Option Point) → o ≡ option_map (left_at p) r → Takes p o (Ok r)
takes_point p o None h = h
takes_point p o (Some x) h = h

-- the word of a command
pub command_word : (p t : Place) (z : List ℕ) → step_at p point.Word (token_at t (word z)) ≡ option_map (left_at p) (command_point z)
unfolding step_at left_at step
command_word p t z =
    let g : Point → Left Command = left_at p in
    map_if g (bytes_eq z (codes "define-type")) point.TypeName _ _
    (map_if g (bytes_eq z (codes "define")) point.Name _ _
    (map_if g (bytes_eq z (codes "assert")) (point.Expr (record { purpose = purpose.Assert; frames = [] })) _ _
    (map_if g (bytes_eq z (codes "check")) (point.End action.Check) _ _
    (map_if g (bytes_eq z (codes "check-assuming")) (point.Literal []) _ _
    (map_if g (bytes_eq z (codes "show-unsat-assumptions")) (point.End action.ShowUnsatAssumptions) _ _
    (map_if g (bytes_eq z (codes "push")) (point.End action.Push) _ _
    (map_if g (bytes_eq z (codes "pop")) (point.End action.Pop) _ _
    (map_if g (bytes_eq z (codes "reset")) (point.End action.Reset) _ _
    (map_if g (bytes_eq z (codes "show-model")) (point.End action.ShowModel) _ _
    (map_if g (bytes_eq z (codes "eval")) (point.Expr (record { purpose = purpose.Eval; frames = [] })) _ _
    (map_if g (bytes_eq z (codes "show-implicant")) (point.End action.ShowImplicant) _ _
    (map_if g (bytes_eq z (codes "ef-solve")) (point.End action.EfSolve) _ _
    (map_if g (bytes_eq z (codes "echo")) point.Echo _ _
    (map_if g (bytes_eq z (codes "include")) point.Include _ _
    (map_if g (bytes_eq z (codes "exit")) (point.End action.Exit) None None refl)))))))))))))))

module _ (p t : Place) (z : List ℕ) where
  -- names
  pub type_name_some : (w : List ℕ) → is_type_name z ≡ true → w ≡ z → step_at p point.TypeName (token_at t (word z)) ≡ Some (left_at p (point.TypeOrEnd w))
  unfolding step_at left_at step
  type_name_some w h e = cond_yes (is_type_name z) _ _ h ∙ ap (λ v. Some (left_at p (point.TypeOrEnd v))) (sym e)

  pub type_name_none : is_type_name z ≡ false → step_at p point.TypeName (token_at t (word z)) ≡ None
  unfolding step_at left_at step
  type_name_none h = cond_no (is_type_name z) _ _ h

  pub name_some : (w : List ℕ) → is_name z ≡ true → w ≡ z → step_at p point.Name (token_at t (word z)) ≡ Some (left_at p (point.Mark w))
  unfolding step_at left_at step
  name_some w h e = cond_yes (is_name z) _ _ h ∙ ap (λ v. Some (left_at p (point.Mark v))) (sym e)

  pub name_none : is_name z ≡ false → step_at p point.Name (token_at t (word z)) ≡ None
  unfolding step_at left_at step
  name_none h = cond_no (is_name z) _ _ h

  -- literals
  literals_more : (ls ms : List LitExpr) (l : LitExpr) → ms ≡ ls ++ l ∷ [] → left_at p (point.Literal ms) ≡ leaves (many literal ∷ sign closing ∷ []) (λ ns. at p (check_assuming (map plain_literal ls ++ plain_literal l ∷ ns)))
  unfolding left_at
  literals_more ls ms l h =
      ap (λ (g : List grammar.LitExpr → List grammar.LitExpr). leaves (many literal ∷ sign closing ∷ []) (λ ns. at p (check_assuming (g ns)))) (more_items plain_literal ls ms l h)

  pub literal_some : (ls ms : List LitExpr) (w : List ℕ) → is_name z ≡ true → w ≡ z → ms ≡ ls ++ record { place = t; name_place = t; name = w; positive = true } ∷ []
      → step_at p (point.Literal ls) (token_at t (word z)) ≡ Some (left_at p (point.Literal ms))
  unfolding step_at left_at step
  literal_some ls ms w h e k =
      or_none _ ∙ cond_yes (is_name z) _ _ h
      ∙ ap (λ v. Some (leaves (many literal ∷ sign closing ∷ []) (λ ns. at p (check_assuming (map plain_literal ls ++ record { place = t; name_place = t; name = v; positive = true } ∷ ns))))) (sym e)
      ∙ ap Some (sym (literals_more ls ms (record { place = t; name_place = t; name = w; positive = true }) k))

  pub literal_none : (ls : List LitExpr) → is_name z ≡ false → step_at p (point.Literal ls) (token_at t (word z)) ≡ None
  unfolding step_at left_at step
  literal_none ls h = or_none _ ∙ cond_no (is_name z) _ _ h

  pub not_some : (ls : List LitExpr) (q : Place) → bytes_eq z (codes "not") ≡ true → step_at p (point.LiteralNot ls q) (token_at t (word z)) ≡ Some (left_at p (point.LiteralName ls q))
  unfolding step_at left_at step
  not_some ls q h = cond_yes (bytes_eq z (codes "not")) _ _ h

  pub not_none : (ls : List LitExpr) (q : Place) → bytes_eq z (codes "not") ≡ false → step_at p (point.LiteralNot ls q) (token_at t (word z)) ≡ None
  unfolding step_at left_at step
  not_none ls q h = cond_no (bytes_eq z (codes "not")) _ _ h

  pub negated_some : (ls : List LitExpr) (q : Place) (w : List ℕ) → is_name z ≡ true → w ≡ z
      → step_at p (point.LiteralName ls q) (token_at t (word z)) ≡ Some (left_at p (point.LiteralEnd ls (record { place = q; name_place = t; name = w; positive = false })))
  unfolding step_at left_at step
  negated_some ls q w h e = cond_yes (is_name z) _ _ h ∙ ap (λ v. Some (left_at p (point.LiteralEnd ls (record { place = q; name_place = t; name = v; positive = false })))) (sym e)

  pub negated_none : (ls : List LitExpr) (q : Place) → is_name z ≡ false → step_at p (point.LiteralName ls q) (token_at t (word z)) ≡ None
  unfolding step_at left_at step
  negated_none ls q h = cond_no (is_name z) _ _ h

pub literal_end : (p t : Place) (ls ms : List LitExpr) (l : LitExpr) → ms ≡ ls ++ l ∷ [] → step_at p (point.LiteralEnd ls l) (token_at t close_bracket) ≡ Some (left_at p (point.Literal ms))
unfolding step_at left_at step
literal_end p t ls ms l h = ap Some (sym (literals_more p t [] ls ms l h))

pub literal_open : (p t : Place) (ls : List LitExpr) → step_at p (point.Literal ls) (token_at t open_bracket) ≡ Some (left_at p (point.LiteralNot ls t))
unfolding step_at left_at step
literal_open p t ls = refl

-- a type, or the end
pub type_or_end_word : (p t : Place) (z w : List ℕ) (bs : List Arrow) → bs ≡ [] → step_at p (point.TypeOrEnd w) (token_at t (word z)) ≡ step_at p (point.Type (record { purpose = type_purpose.DefineType w; arrows = bs })) (token_at t (word z))
unfolding step_at left_at step
type_or_end_word p t z w bs h = or_none _ ∙ ap (λ v. step_at p (point.Type (record { purpose = type_purpose.DefineType w; arrows = v })) (token_at t (word z))) (sym h)

pub type_or_end_open : (p t : Place) (w : List ℕ) (bs : List Arrow) → bs ≡ [] → step_at p (point.TypeOrEnd w) (token_at t open_bracket) ≡ Some (left_at p (point.TypeForm (record { purpose = type_purpose.DefineType w; arrows = bs }) t))
unfolding step_at left_at step
type_or_end_open p t w bs h = ap (λ v. Some (left_at p (point.TypeForm (record { purpose = type_purpose.DefineType w; arrows = v }) t))) (sym h)

-- an expression, or the end
pub expr_or_end_word : (p t : Place) (z w : List ℕ) (of : TypeExpr) (fs : List Frame) → fs ≡ [] → step_at p (point.ExprOrEnd w of) (token_at t (word z)) ≡ step_at p (point.Expr (record { purpose = purpose.Define w of; frames = fs })) (token_at t (word z))
unfolding step_at left_at step
expr_or_end_word p t z w of fs h = or_none _ ∙ ap (λ v. step_at p (point.Expr (record { purpose = purpose.Define w of; frames = v })) (token_at t (word z))) (sym h)

pub expr_or_end_open : (p t : Place) (w : List ℕ) (of : TypeExpr) (fs : List Frame) → fs ≡ [] → step_at p (point.ExprOrEnd w of) (token_at t open_bracket) ≡ Some (left_at p (point.Form (record { purpose = purpose.Define w of; frames = fs }) t))
unfolding step_at left_at step
expr_or_end_open p t w of fs h = ap (λ v. Some (left_at p (point.Form (record { purpose = purpose.Define w of; frames = v }) t))) (sym h)

-- the typing mark behind a name
pub name_mark : (p t : Place) (w : List ℕ) (bs : List Arrow) → bs ≡ [] → step_at p (point.Mark w) (token_at t typing_mark) ≡ Some (left_at p (point.Type (record { purpose = type_purpose.Define w; arrows = bs })))
unfolding step_at left_at step
name_mark p t w bs h = ap (λ v. Some (left_at p (point.Type (record { purpose = type_purpose.Define w; arrows = v })))) (sym h)
