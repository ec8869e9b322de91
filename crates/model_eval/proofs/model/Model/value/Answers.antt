use Rattle.std.proofs.Common.{◌∙◌, sym}
use Rattle.model_eval.proofs.Passes.{none_of}
use Rattle.model_eval.proofs.model.Model.value.Goals as goal

pub returns-then-not-is_live-clause-refused : goal.returns-then-not-is_live-clause-refused
returns-then-not-is_live-clause-refused c = none_of _ c.is_live.result c.is_live.ensures c.if-not-is_live.true

pub first_variable-requires : goal.first_variable-requires
first_variable-requires c = sym c.is_live.ensures ∙ c.if-not-is_live.false
