use Rattle.std.proofs.Common.{Err, ap, refl}
use Rattle.std.proofs.lemmas.Result.{err_from_is_err_and}
use Rattle.script_session.specs.State.{Script}
use Rattle.script_session.proofs.Doings.{done_too_long, done_without_memory, told_and_kept}
use Rattle.script_session.proofs.session.ScriptSession.do_call.Goals as goal

pub returns-in_err-tell-in-Ok-clause-after : goal.returns-in_err-tell-in-Ok-clause-after
returns-in_err-tell-in-Ok-clause-after c =
    let p = err_from_is_err_and c.from_residual.result c.from_residual.ensures.1 in
    rw (p.1, p.2)
    (done_without_memory c.args.self.now c.self.inside.env c.step-reply.new.env c.self.inside.given.items c.tell.new.self c.args.call.now c.step-reply.result c.self.view_is c.step-reply.ensures.step c.step-reply.ensures.world c.in_err-tell-in-Ok.ensures.err)

pub returns-in-Ok-clause-done : goal.returns-in-Ok-clause-done
returns-in-Ok-clause-done c =
    told_and_kept c.args.self.now c.self.inside.env c.step-reply.new.env c.self.inside.given.items c.tell.new.self c.args.call.now c.step-reply.result _ c.deref.result.now _ c.kept_of.result
    c.self.view_is c.step-reply.ensures.step c.step-reply.ensures.world c.in-Ok.ensures.text c.in-Ok.ensures.fits c.deref.ensures c.in_ok-tell-in-Ok.ensures.told c.kept_of.ensures c.in_ok-tell-in-Ok.ensures.ok

pub returns-in-Err-TooLong-clause-stopped : goal.returns-in-Err-TooLong-clause-stopped
returns-in-Err-TooLong-clause-stopped c =
    done_too_long c.args.self.now c.self.inside.env c.step-reply.new.env c.self.inside.given.items c.args.call.now c.step-reply.result c.place.result c.line_number-line.result c.args.column
    c.self.view_is c.step-reply.ensures.step c.step-reply.ensures.world (c.in-Err-TooLong.ensures.long (ap Err c.in-Err-TooLong.field-0-is)) c.line_number-line.ensures c.place.ensures

pub returns-clause-after : goal.returns-clause-after
returns-clause-after c =
    done_without_memory c.args.self.now c.self.inside.env c.step-reply.new.env c.self.inside.given.items _ c.args.call.now c.step-reply.result c.self.view_is c.step-reply.ensures.step c.step-reply.ensures.world refl

pub returns-in-Err-TooLong-clause-after : goal.returns-in-Err-TooLong-clause-after
returns-in-Err-TooLong-clause-after c =
    done_without_memory c.args.self.now c.self.inside.env c.step-reply.new.env c.self.inside.given.items _ c.args.call.now c.step-reply.result c.self.view_is c.step-reply.ensures.step c.step-reply.ensures.world refl
