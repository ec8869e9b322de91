use Rattle.model_eval.specs.Models.{assignment_of}
use Rattle.std.proofs.Common.{string_bytes}
use Rattle.yices_session.proofs.Showing.{AreLines}
use Rattle.yices_session.proofs.session.models.show_names.Given as goal

-- the lines so far, and those of the names that are left
abbrev pub invariant-loop-name : goal.invariant-loop-name
invariant-loop-name l = AreLines l.table (assignment_of l.table l.model) l.declared l.name-index (string_bytes l.text)
