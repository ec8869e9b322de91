use Rattle.std.proofs.Common.{◌≡◌, ◌++◌, map, take}
use Rattle.term_table.specs.declared.table.Marked.TheVariants as marked
use Rattle.yices_session.proofs.session.collecting.add_roots.Given as goal

-- the handles so far
abbrev pub invariant-loop-t : goal.invariant-loop-t
invariant-loop-t l = l.roots ≡ l.fn.roots ++ map marked.Term (take l.t-index l.terms)
