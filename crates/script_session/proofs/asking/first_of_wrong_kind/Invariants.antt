use Rattle.std.proofs.Common.{◌≡◌, ◌<◌, ℕ, true, Some}
use Rattle.std.specs.Prelude.{slice_get}
use Rattle.call_script.specs.Calls.{kind_at}
use Rattle.script_session.specs.declared.meant.Meant.{Meant}
use Rattle.script_session.specs.Asking.{is_of_kind}
use Rattle.script_session.proofs.asking.first_of_wrong_kind.Given as goal

abbrev pub invariant-loop-i : goal.invariant-loop-i
invariant-loop-i l = (k : ℕ) (m : Meant) → k < l.i → slice_get l.ms k ≡ Some m → is_of_kind (kind_at l.word k) m ≡ true
