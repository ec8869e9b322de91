use Rattle.std.proofs.Common.{Err, ap}
use Rattle.script_session.proofs.Texts.{short_refusal}
use Rattle.script_session.proofs.session.ScriptSession.refuse.Goals as goal

pub unreachable-requires : goal.unreachable-requires
unreachable-requires c = short_refusal c.self.inside.env.table c.args.why c.requires (c.in-Err-TooLong.ensures.long (ap Err c.in-Err-TooLong.field-0-is))
