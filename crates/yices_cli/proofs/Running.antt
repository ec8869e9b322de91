-- A script's run: it begins, and goes on by a line.
use Rattle.std.proofs.Common.{ℕ, List, [], ◌∷◌, ◌++◌, Option, Result, Ok, Err, refl, sym, subst}
use Rattle.std.specs.Prelude.{OnOk}
use Rattle.y_io.specs.Outside.{Grows}
use Rattle.yices_api.specs.declared.calls.Call.{Call}
use Rattle.yices_api.specs.declared.replies.Reply.{Reply}
use Rattle.yices_api.specs.declared.handles.ContextId.{ContextId}
use Rattle.yices_api.specs.State.{State, IsFreedContext}
use Rattle.yices_api.specs.Runs.{IsWorld, Lasts, Runs}
use Rattle.script_session.specs.State.{IsStart, Script}
use Rattle.script_session.specs.Steps.{Answers}
use Rattle.script_session.specs.Runs.{ScriptLine, Run, calls_of, replies_of}
use Rattle.yices_cli.specs.Seen.{joined}
use Rattle.yices_cli.specs.Scripts.{HasRun, HandlesLast}
use Rattle.yices_cli.specs.Lines.{GoesOn}
use Rattle.yices_cli.proofs.Growing.{grows_same, grows_on, joined-push}

-- the calls of a run of lines are a run of the environment
abbrev pub RunsLaw : Type 0
RunsLaw = (first last : Script) (ls : List ScriptLine) (ds : List (Option (Call × Reply))) (texts : List (List ℕ)) → Run first ls ds texts last → Runs first.env (calls_of ds) (replies_of ds) last.env

-- a run goes on by one line
abbrev pub OneMoreLaw : Type 0
OneMoreLaw = (first mid last : Script) (ls : List ScriptLine) (ds : List (Option (Call × Reply))) (texts : List (List ℕ)) (l : ScriptLine) (d : Option (Call × Reply)) (text : List ℕ)
    → Run first ls ds texts mid → Answers mid l.end l.bytes d text last → Run first (ls ++ l ∷ []) (ds ++ d ∷ []) (texts ++ text ∷ []) last

-- what a handle stood for before a run of the environment it stands for, or it was freed
abbrev pub LastsLaw : Type 0
LastsLaw = (first last : State) (cs : List Call) (rs : List Reply) → IsWorld first → Runs first cs rs last → Lasts first.table last.table

-- a freed context stays freed
abbrev pub FreedLaw : Type 0
FreedLaw = (first last : State) (cs : List Call) (rs : List Reply) (h : ContextId) → Runs first cs rs last → IsFreedContext first h → IsFreedContext last h

-- what always holds of an environment holds behind a run
world_behind : (first last : State) (cs : List Call) (rs : List Reply) → IsWorld first → Runs first cs rs last → IsWorld last
world_behind first last [] [] world runs = subst IsWorld (sym runs) world
world_behind first last [] (r ∷ rs) world runs = absurd runs
world_behind first last (c ∷ cs) [] world runs = absurd runs
world_behind first last (c ∷ cs) (r ∷ rs) world (mid, reaches, runs) = world_behind mid last cs rs reaches.world runs

-- what handles stand for lasts through a run
pub handles_keep : RunsLaw → LastsLaw → FreedLaw → (first last : Script) → IsStart first → HandlesLast first last
handles_keep runs lasts freed first last start = λ front back done doing said saying mid before behind. record {
  table = lasts mid.env last.env _ _ (world_behind first.env mid.env _ _ start.world (runs first mid front done said before)) (runs mid last back doing saying behind);
  contexts = λ h. freed mid.env last.env _ _ h (runs mid last back doing saying behind);
}

-- no line was answered yet
pub run_begins : ((first last : Script) → IsStart first → HandlesLast first last) → (w : Option (List ℕ)) (s : Script) → IsStart s → HasRun w w [] s
run_begins handles w s start = record { first = s; start = start; done = []; said = []; run = refl; history = refl; handles = handles s s start; written = grows_same w }

-- a line more was answered
pub run_goes_on : RunsLaw → OneMoreLaw → ((first last : Script) → IsStart first → HandlesLast first last)
    → (s t : Script) (l : ScriptLine) (mid new : Option (List ℕ)) (text : List ℕ) → (d : Option (Call × Reply)) × Answers s l.end l.bytes d text t → Grows mid new text → GoesOn s l mid new t
run_goes_on runs more handles s t l mid new text (d, step) grows = λ old front h.
    let run = more h.first s t front h.done h.said l d text h.run step in record {
      first = h.first;
      start = h.start;
      done = h.done ++ d ∷ [];
      said = h.said ++ text ∷ [];
      run = run;
      history = runs h.first t _ _ _ run;
      handles = handles h.first t h.start;
      written = rw (joined-push h.said text) (grows_on old mid new (joined h.said) text h.written grows);
    }

-- so it is where it was written
pub line_goes_on : {E : Type 0} → RunsLaw → OneMoreLaw → ((first last : Script) → IsStart first → HandlesLast first last)
    → (s t : Script) (l : ScriptLine) (mid new : Option (List ℕ)) (text : List ℕ) → (d : Option (Call × Reply)) × Answers s l.end l.bytes d text t
    → (r : Result (Unit {0}) E) → OnOk r (Grows mid new text) → OnOk r (GoesOn s l mid new t)
line_goes_on runs more handles s t l mid new text step (Ok u) grows = run_goes_on runs more handles s t l mid new text step grows
line_goes_on runs more handles s t l mid new text step (Err e) grows = tt
