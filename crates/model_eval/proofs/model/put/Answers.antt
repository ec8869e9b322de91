use Rattle.std.proofs.Common.{◌∙◌, sym}
use Rattle.model_eval.proofs.Entries.{put_new}
use Rattle.model_eval.proofs.model.put.Goals as goal

pub returns-clause-new : goal.returns-clause-new
returns-clause-new c = λ e. (
  λ h. cc (sym (c.is_placed.ensures.1 h) ∙ c.if-is_placed.false),
  put_new c.args.places.now.keys c.insert.new.self.keys c.args.t c.in_ok-insert.ensures.keys (λ h. cc (sym (c.is_placed.ensures.1 h) ∙ c.if-is_placed.false)),
)
