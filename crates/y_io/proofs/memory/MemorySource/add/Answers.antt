use Rattle.std.proofs.Common.{ap}
use Rattle.std.specs.Option.{option_map}
use Rattle.y_io.proofs.NameOrder.{is_at-false}
use Rattle.y_io.proofs.memory.MemorySource.add.Goals as goal

pub returns-clause-others : goal.returns-clause-others
returns-clause-others c n other =
    ap (option_map (λ text. text.items)) (c.in_ok-insert.ensures.updates.2 n (is_at-false c.args.name n other))
