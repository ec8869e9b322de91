use Rattle.call_script.specs.Scanned.{plain_piece}
use Rattle.call_script.proofs.Pieces.{piece_within, all_left}
use Rattle.call_script.proofs.scanning.next_piece.Goals as goal

pub returns-clause-within : goal.returns-clause-within
returns-clause-within c =
    piece_within c.args.end _ c.args.here c.separators_length-n.result c.args.bytes.now _ (plain_piece c.piece_at.result) c.separators_length-n.ensures.within
    (all_left c.separators_length-n.result c.args.bytes.now) c.piece_at.ensures
