use Rattle.yices_text.proofs.Piecing.{commands_stay, one_list, faults_stay}
use Rattle.yices_text.proofs.Unique.{one_fault}
use Rattle.yices_text.proofs.laws.pieces_are_alike.Goals as goal

pub returns : goal.returns
returns c = record { commands = commands_stay; one_list = one_list; fault = faults_stay; one_fault = one_fault }
