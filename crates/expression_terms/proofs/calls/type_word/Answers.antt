use Rattle.std.proofs.Common.{◌∙◌, Some, sym, ap}
use Rattle.std.specs.Option.{option_copied}
use Rattle.std.proofs.lemmas.Option.{same_Some}
use Rattle.expression_terms.proofs.Words.{bool_text, other_text}
use Rattle.expression_terms.proofs.calls.type_word.Goals as goal

pub returns-in_default : goal.returns-in_default
returns-in_default c k = other_text c.args.table.now c.args.of k (λ h. absurd (cc (sym (ap option_copied c.in_default.is) ∙ c.type_shape.ensures ∙ h)))

pub returns-in-Bool : goal.returns-in-Bool
returns-in-Bool c k = bool_text c.args.table.now c.args.of k (sym c.type_shape.ensures ∙ ap option_copied c.in-Some.is ∙ ap Some c.in-Bool.is)

pub returns-in_default-shape : goal.returns-in_default-shape
returns-in_default-shape c k =
    other_text c.args.table.now c.args.of k (λ h. c.in_default-shape.not-Bool (same_Some _ _ (sym (ap option_copied c.in-Some.is) ∙ c.type_shape.ensures ∙ h)))
