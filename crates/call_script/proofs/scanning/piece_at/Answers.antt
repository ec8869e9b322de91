use Rattle.std.proofs.Common.{◌∙◌, ap, sym}
use Rattle.std.specs.List.{prefix_len}
use Rattle.call_script.specs.Tokens.{is_name_byte}
use Rattle.call_script.specs.Judging.{name_piece}
use Rattle.call_script.proofs.FirstBytes.{all_behind, name_first}
use Rattle.call_script.proofs.scanning.piece_at.Goals as goal

pub returns-then-first-eq34 : goal.returns-then-first-eq34
returns-then-first-eq34 c =
    c.name_piece.ensures ∙ ap (λ bs. name_piece c.args.here bs (prefix_len is_name_byte bs)) (all_behind c.args.bytes.now)
    ∙ sym (name_first c.args.end c.args.free c.args.here c.args.bytes.now c.in-len1-up.len_at_least c.if-first-eq34.true c.if-not-free.false)
