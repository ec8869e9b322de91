use Rattle.std.proofs.Common.{◌∙◌, sym, ap}
use Rattle.std.specs.Map.{lookup}
use Rattle.model_eval.specs.Known.{same_term}
use Rattle.model_eval.specs.Models.{plain_items, terms_of}
use Rattle.model_eval.proofs.model.Model.own_value.Goals as goal

pub value_in-requires : goal.value_in-requires
value_in-requires c = c.self.invariant.0 ∙ ap (λ es. terms_of (plain_items es)) (sym c.as_slice.ensures.value)

pub returns : goal.returns
returns c = rw (← c.self.view_is) (c.value_in.ensures ∙ ap (λ es. lookup (same_term c.args.t) (plain_items es)) c.as_slice.ensures.value)
