use Rattle.term_collect.proofs.Keeping.{keeping_terms}
use Rattle.term_collect.proofs.collecting.Collection.keep.Goals as goal

pub returns-clause-keeps : goal.returns-clause-keeps
returns-clause-keeps c old ts us kept =
    keeping_terms old c.args.self.now.table.now c.mark_terms.new.table ts c.args.roots.now us kept c.mark_terms.ensures
