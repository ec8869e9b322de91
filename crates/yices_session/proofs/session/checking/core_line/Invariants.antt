use Rattle.std.proofs.Common.{map, string_bytes, take}
use Rattle.yices_commands.specs.Plain.{plain_literal}
use Rattle.yices_session.specs.Parts.{literal_of}
use Rattle.yices_session.proofs.Cores.{HoldsTerms, CoreSoFar}
use Rattle.yices_session.proofs.session.checking.core_line.Given as goal

-- the blamed terms so far
abbrev pub invariant-loop-t : goal.invariant-loop-t
invariant-loop-t l = HoldsTerms l.left.keys (take l.t-index l.blamed)

-- the line so far, and the blamed terms that are left
abbrev pub invariant-loop-i : goal.invariant-loop-i
invariant-loop-i l = CoreSoFar l.blamed l.assumed (map literal_of (map plain_literal l.literals)) l.i l.left.keys (string_bytes l.line) l.is_first
