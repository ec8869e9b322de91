use Rattle.yices_text.proofs.Holding.{sound_finished}
use Rattle.yices_text.proofs.reader.Reader.finish.Goals as goal

pub invariant_of-self : goal.invariant_of-self
invariant_of-self c = sound_finished c.self.inside c.self.invariant
