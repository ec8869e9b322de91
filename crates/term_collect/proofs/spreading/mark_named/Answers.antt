use Rattle.std.proofs.Common.{rules}
use Rattle.term_collect.proofs.Handles.{marks_asked, marks_unasked}
use Rattle.term_collect.proofs.spreading.mark_named.Goals as goal

pub returns-then-not-keep_named : goal.returns-then-not-keep_named
returns-then-not-keep_named c = marks_unasked c.args.table.now c.args.keep_named (search rules)

pub returns : goal.returns
returns c =
    marks_asked c.args.table.now c.mark_named.new.self c.args.keep_named (search rules) c.is_table.ensures c.mark_named.ensures
