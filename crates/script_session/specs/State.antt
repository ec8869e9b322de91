-- What contracts see of a script: its environment, and what each line gave.
use Rattle.std.specs.Prelude.{◌≡◌, ℕ, ◌+◌, List, [], length}
use Rattle.yices_api.specs.declared.replies.Reply.{Reply}
use Rattle.yices_api.specs.declared.replies.Reply.TheVariants as reply
use Rattle.yices_api.specs.State.{State}
use Rattle.yices_api.specs.Runs.{IsEmpty, IsWorld}
use Rattle.script_session.specs.declared.meant.Handle.TheVariants as handle
use Rattle.script_session.specs.declared.meant.Gave.{Gave}
use Rattle.script_session.specs.declared.meant.Gave.TheVariants as gave

-- the environment; what line i gave at index i - 1, nothing where the line has no call, was refused, or its reply is neither a handle nor a list
pub record Script : Type 0 where
  pub env : State
  pub given : List Gave

-- an empty environment, and no line
pub record IsStart (s : Script) : Type 0 where
  pub empty : IsEmpty s.env
  pub world : IsWorld s.env
  pub lines : s.given ≡ []

-- the number of the next line, from 1 on
abbrev pub line_number : Script → ℕ
line_number s = length s.given + 1

-- what a reply gives to later lines
abbrev pub given_by : Reply → Gave
given_by (reply.TypeId t) = gave.Handle (handle.TypeId t)
given_by (reply.Term t) = gave.Handle (handle.Term t)
given_by (reply.Context c) = gave.Handle (handle.Context c)
given_by (reply.Terms ts) = gave.Terms ts
given_by _ = gave.Nothing
