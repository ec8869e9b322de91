-- Lines one after another.
use Rattle.std.specs.Prelude.{◌≡◌, ℕ, List, [], ◌∷◌, Option, Some, None}
use Rattle.call_script.specs.declared.lines.LineEnd.{LineEnd}
use Rattle.yices_api.specs.declared.calls.Call.{Call}
use Rattle.yices_api.specs.declared.replies.Reply.{Reply}
use Rattle.script_session.specs.State.{Script}
use Rattle.script_session.specs.Steps.{Answers}

-- a line of a script, without its byte 10
pub record ScriptLine : Type 0 where
  pub bytes : List ℕ
  pub end : LineEnd

-- the lines in order do these calls, and these texts are said
abbrev pub Run : Script → List ScriptLine → List (Option (Call × Reply)) → List (List ℕ) → Script → Type 0
Run first [] [] [] last = last ≡ first
Run first (l ∷ ls) (d ∷ ds) (t ∷ ts) last = (mid : Script) × Answers first l.end l.bytes d t mid × Run mid ls ds ts last
Run first _ _ _ last = ⊥

-- the calls that were done, in order
abbrev pub calls_of : List (Option (Call × Reply)) → List Call
calls_of [] = []
calls_of (None ∷ ds) = calls_of ds
calls_of (Some d ∷ ds) = d.0 ∷ calls_of ds

-- their replies
abbrev pub replies_of : List (Option (Call × Reply)) → List Reply
replies_of [] = []
replies_of (None ∷ ds) = replies_of ds
replies_of (Some d ∷ ds) = d.1 ∷ replies_of ds
