-- Lines one after another are calls one after another.
use Rattle.std.proofs.Common.{◌≡◌, ◌∙◌, ◌++◌, ℕ, List, [], ◌∷◌, Option, Some, None, refl, sym, ap, subst, ◌⊎◌, inl, inr, ⊎_elim}
use Rattle.call_script.specs.declared.lines.LineEnd.{LineEnd}
use Rattle.call_script.specs.declared.lines.LineEnd.TheVariants as line_end
use Rattle.call_script.specs.declared.words.CallWord.{CallWord}
use Rattle.call_script.specs.Lines.{Written, Says, nothing, called}
use Rattle.yices_api.specs.declared.calls.Call.{Call}
use Rattle.yices_api.specs.declared.replies.Reply.{Reply}
use Rattle.yices_api.specs.Runs.{IsWorld, Runs}
use Rattle.script_session.specs.State.{Script}
use Rattle.script_session.specs.Steps.{Answers}
use Rattle.script_session.specs.Runs.{ScriptLine, Run, calls_of, replies_of}

-- a line that did nothing in the environment left it as it was
same_env : (old new : Script) (end : LineEnd) (bytes said : List ℕ) → Answers old end bytes None said new → new.env ≡ old.env
same_env old new end bytes said a = ⊎_elim (λ p. ap (λ (s : Script). s.env) p.after) (λ b. ⊎_elim (λ w. ap (λ (s : Script). s.env) w.same) (λ r. ap (λ (s : Script). s.env) r.answers.after) b) a

-- the calls that lines do are a run of the environment
pub run_runs : (first last : Script) (ls : List ScriptLine) (ds : List (Option (Call × Reply))) (texts : List (List ℕ)) → Run first ls ds texts last → Runs first.env (calls_of ds) (replies_of ds) last.env
run_runs first last [] [] [] r = ap (λ (s : Script). s.env) r
run_runs first last (l ∷ ls) (None ∷ ds) (t ∷ texts) r =
    subst (λ e. Runs e (calls_of ds) (replies_of ds) last.env) (same_env first r.0 l.end l.bytes t r.1) (run_runs r.0 last ls ds texts r.2)
run_runs first last (l ∷ ls) (Some d ∷ ds) (t ∷ texts) r = (r.0.env, r.1.answers.replies.reaches, run_runs r.0 last ls ds texts r.2)
run_runs first last [] [] (t ∷ texts) r = absurd r
run_runs first last [] (d ∷ ds) texts r = absurd r
run_runs first last (l ∷ ls) [] texts r = absurd r
run_runs first last (l ∷ ls) (d ∷ ds) [] r = absurd r

-- what always holds of an environment holds after a run
pub run_world : (first last : Script) (ls : List ScriptLine) (ds : List (Option (Call × Reply))) (texts : List (List ℕ)) → IsWorld first.env → Run first ls ds texts last → IsWorld last.env
run_world first last [] [] [] w r = subst (λ (s : Script). IsWorld s.env) (sym r) w
run_world first last (l ∷ ls) (None ∷ ds) (t ∷ texts) w r =
    run_world r.0 last ls ds texts (subst (λ e. IsWorld e) (sym (same_env first r.0 l.end l.bytes t r.1)) w) r.2
run_world first last (l ∷ ls) (Some d ∷ ds) (t ∷ texts) w r = run_world r.0 last ls ds texts r.1.answers.replies.reaches.world r.2
run_world first last [] [] (t ∷ texts) w r = absurd r
run_world first last [] (d ∷ ds) texts w r = absurd r
run_world first last (l ∷ ls) [] texts w r = absurd r
run_world first last (l ∷ ls) (d ∷ ds) [] w r = absurd r

-- one line more
pub run_more : (first mid last : Script) (ls : List ScriptLine) (ds : List (Option (Call × Reply))) (texts : List (List ℕ)) (l : ScriptLine) (d : Option (Call × Reply)) (text : List ℕ) → Run first ls ds texts mid → Answers mid l.end l.bytes d text last
    → Run first (ls ++ l ∷ []) (ds ++ d ∷ []) (texts ++ text ∷ []) last
run_more first mid last [] [] [] l d text r a = (last, subst (λ s. Answers s l.end l.bytes d text last) r a, refl)
run_more first mid last (m ∷ ls) (e ∷ ds) (t ∷ texts) l d text r a = (r.0, r.1, run_more r.0 mid last ls ds texts l d text r.2 a)
run_more first mid last [] [] (t ∷ texts) l d text r a = absurd r
run_more first mid last [] (e ∷ ds) texts l d text r a = absurd r
run_more first mid last (m ∷ ls) [] texts l d text r a = absurd r
run_more first mid last (m ∷ ls) (e ∷ ds) [] l d text r a = absurd r

-- an open line says no call, and isn't without one
no_nothing : (bytes : List ℕ) → Says line_end.Open bytes nothing → ⊥
no_nothing bytes (ts, tail, cut, means) = means.0 refl

no_call : (bytes : List ℕ) (column : ℕ) (w : CallWord) (args : List Written) → Says line_end.Open bytes (called column w args) → ⊥
no_call bytes column w args (ts, tail, cut, means) = means.0 refl

-- so it waits
pub open_waits : (old new : Script) (bytes said : List ℕ) (d : Option (Call × Reply)) → Answers old line_end.Open bytes d said new → (d ≡ None) × (said ≡ []) × (new ≡ old)
open_waits old new bytes said None a =
    ⊎_elim (λ p. absurd (no_nothing bytes p.says)) (λ b. ⊎_elim (λ w. (refl, w.silent, w.same)) (λ c. absurd (no_call bytes c.column c.word c.arguments c.says)) b) a
open_waits old new bytes said (Some e) a = absurd (no_call bytes a.column a.word a.arguments a.says)
