use Rattle.term_collect.proofs.Keeping.{keeping_types}
use Rattle.term_collect.proofs.collecting.Collection.keep_types.Goals as goal

pub returns-clause-keeps : goal.returns-clause-keeps
returns-clause-keeps c old ts us kept =
    keeping_types old c.args.self.now.table.now c.mark_types.new.table ts us c.args.roots.now kept c.mark_types.ensures
