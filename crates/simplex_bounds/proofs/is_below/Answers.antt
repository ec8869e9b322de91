use Rattle.std.proofs.Common.{sym, ◌∙◌}
use Rattle.simplex_table.specs.View.{delta_of}
use Rattle.simplex_bounds.proofs.RangeLemmas.{below_of, not_below_equal, not_below_greater}
use Rattle.simplex_bounds.proofs.is_below.Goals as goal

pub returns-in-Less-clause-yes : goal.returns-in-Less-clause-yes
returns-in-Less-clause-yes c = below_of (delta_of c.args.a.now) (delta_of c.args.b.now) (sym c.cmp.ensures ∙ c.in-Less.is)

pub returns-in-Equal-clause-no : goal.returns-in-Equal-clause-no
returns-in-Equal-clause-no c = not_below_equal (delta_of c.args.a.now) (delta_of c.args.b.now) (sym c.cmp.ensures ∙ c.in-Equal.is)

pub returns-in-Greater-clause-no : goal.returns-in-Greater-clause-no
returns-in-Greater-clause-no c = not_below_greater (delta_of c.args.a.now) (delta_of c.args.b.now) (sym c.cmp.ensures ∙ c.in-Greater.is)
