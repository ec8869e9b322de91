use Rattle.node_encoding.proofs.Completing.{sound, shaped, complete, strong}
use Rattle.node_encoding.proofs.encodings.Goals as goal

pub returns : goal.returns
returns c = record { sound = sound; shaped = shaped; complete = complete; strong = strong }
