use Rattle.std.proofs.Common.{◌∙◌, ◌+◌, ap}
use Rattle.std.specs.List.{swap}
use Rattle.simplex_table.proofs.Entries.{flip-swap}
use Rattle.simplex_table.proofs.row.Row.flip.Goals as goal

pub returns : goal.returns
returns c = c.swap.ensures.items ∙ ap (λ xs. swap xs c.args.column (c.args.column + 1)) c.self.view_is ∙ flip-swap c.args.self.now c.args.column c.requires
