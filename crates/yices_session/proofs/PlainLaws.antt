-- What types of the code say, by their forms.
use Rattle.std.proofs.Common.{◌≡◌, ◌∙◌, ap}
use Rattle.yices_grammar.specs.Commands as grammar
use Rattle.yices_commands.specs.declared.command.TypeExpr.{TypeExpr, out-TypeExpr, fold_out-TypeExpr}
use Rattle.yices_commands.specs.declared.command.TypeForm.{TypeForm}
use Rattle.yices_commands.specs.Plain.{type_form_layer, type_layer, plain_type, plain_type_form}

-- a type is its form at its place
type_out : (t : TypeExpr) → plain_type t ≡ grammar.type_at (out-TypeExpr t).place (plain_type_form (out-TypeExpr t).form)
unfolding plain_type plain_type_form
type_out t = fold_out-TypeExpr grammar.TypeForm grammar.TypeExpr type_form_layer type_layer t

-- a type of a form
pub type_of : (t : TypeExpr) (f : TypeForm) (g : grammar.TypeForm) → (out-TypeExpr t).form ≡ f → plain_type_form f ≡ g → plain_type t ≡ grammar.type_at (out-TypeExpr t).place g
type_of t f g is says = type_out t ∙ ap (λ h. grammar.type_at (out-TypeExpr t).place h) (ap plain_type_form is ∙ says)
