use Rattle.std.proofs.Common.{◌≡◌, ◌++◌, take}
use Rattle.yices_session.proofs.session.lists.append_all.Given as goal

abbrev pub invariant-loop-t : goal.invariant-loop-t
invariant-loop-t l = l.terms.items ≡ l.fn.terms.items ++ take l.t-index l.more
