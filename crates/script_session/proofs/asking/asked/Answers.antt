use Rattle.std.proofs.Common.{◌∙◌, sym, ap}
use Rattle.script_session.specs.Asking.{meaning}
use Rattle.script_session.proofs.Forms.{must_be_made}
use Rattle.script_session.proofs.asking.asked.Goals as goal

pub unreachable-requires : goal.unreachable-requires
unreachable-requires c =
    must_be_made (meaning c.args.given.now) c.args.word _ c.in_ok-ms.ms.items c.deref.result.now c.deref-in-None.result.now c.in_ok-call-in-None.field-0
    c.requires c.in_ok-ms.ensures.ok c.in-None.ensures.fit c.deref.ensures.value c.deref-in-None.ensures.value c.in_ok-call-in-None.ensures c.in-None-2.is
