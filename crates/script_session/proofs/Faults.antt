-- A line has one reading, so a fault is told exactly where it is.
use Rattle.std.proofs.Common.{◌≡◌, ◌∙◌, ℕ, List, Option, Some, None, refl, sym, ap, ⊎_elim}
use Rattle.yices_grammar.specs.declared.Place.{Place}
use Rattle.call_script.specs.declared.lines.LineEnd.{LineEnd}
use Rattle.call_script.specs.declared.words.CallWord.{CallWord}
use Rattle.call_script.specs.Lines.{Written, Reading, Says, nothing, called, unfinished, FaultKind, fault, not_built}
use Rattle.call_script.specs.Laws.{SaysOne}
use Rattle.yices_api.specs.declared.calls.Call.{Call}
use Rattle.yices_api.specs.declared.replies.Reply.{Reply}
use Rattle.script_session.specs.declared.stop.ScriptStop.{ScriptStop}
use Rattle.script_session.specs.declared.stop.ScriptStop.TheVariants as stop
use Rattle.script_session.specs.declared.stop.SyntaxFault.{SyntaxFault}
use Rattle.script_session.specs.declared.stop.SyntaxFault.TheVariants as told
use Rattle.script_session.specs.State.{Script, line_number}
use Rattle.script_session.specs.Steps.{Answers, IsFault, Stops, IsHere, fault_of}

-- what an answered line says, or one whose reply is too long
data Reads : Reading → Type 0 where
  as_nothing : Reads nothing
  as_unfinished : Reads unfinished
  as_call : (column : ℕ) (w : CallWord) (args : List Written) → Reads (called column w args)

reads_no_fault : (r : Reading) (k : FaultKind) (column : ℕ) → Reads r → r ≡ fault k column → ⊥
reads_no_fault _ k column as_nothing e = cc e
reads_no_fault _ k column as_unfinished e = cc e
reads_no_fault _ k column (as_call c w args) e = cc e

reads_built : (r : Reading) (column : ℕ) → Reads r → r ≡ not_built column → ⊥
reads_built _ column as_nothing e = cc e
reads_built _ column as_unfinished e = cc e
reads_built _ column (as_call c w args) e = cc e

-- places on one line
same_place : (s : Script) (c d : ℕ) (p q : Place) → IsHere s c p → IsHere s d q → c ≡ d → p ≡ q
same_place s c d p q h k e = both (h.0 ∙ sym k.0) (h.1 ∙ e ∙ sym k.1)
  where
    both : p.line ≡ q.line → p.column ≡ q.column → p ≡ q
    both a b =
        ap (λ (n : ℕ). let r : Place = record { line = n; column = p.column } in r) a
        ∙ ap (λ (n : ℕ). let r : Place = record { line = q.line; column = n } in r) b

-- faults that are told by different words differ
same_fault : (a b : SyntaxFault) → fault_of a ≡ fault_of b → a ≡ b
same_fault told.BadByte told.BadByte e = refl
same_fault told.BadByte told.Unexpected e = absurd (cc e)
same_fault told.BadByte told.EndOfInput e = absurd (cc e)
same_fault told.Unexpected told.BadByte e = absurd (cc e)
same_fault told.Unexpected told.Unexpected e = refl
same_fault told.Unexpected told.EndOfInput e = absurd (cc e)
same_fault told.EndOfInput told.BadByte e = absurd (cc e)
same_fault told.EndOfInput told.Unexpected e = absurd (cc e)
same_fault told.EndOfInput told.EndOfInput e = refl

module _ (one_reading : SaysOne) (old : Script) (end : LineEnd) (bytes : List ℕ) where
  -- what such a line says is no fault
  read_or_fault : (r : Reading) (s : ScriptStop) → Says end bytes r → Reads r → IsFault s → Stops old end bytes s → ⊥
  read_or_fault r (stop.Syntax kind place) says reads f (column, is, here) = reads_no_fault r (fault_of kind) column reads (one_reading end bytes r (fault (fault_of kind) column) says is)
  read_or_fault r (stop.NotBuilt place) says reads f (column, is, here) = reads_built r column reads (one_reading end bytes r (not_built column) says is)
  read_or_fault r (stop.TooLong place) says reads f h = f
  read_or_fault r stop.NoMemory says reads f h = f

  pub not_answered : (new : Script) (said : List ℕ) (d : Option (Call × Reply)) (s : ScriptStop) → IsFault s → Stops old end bytes s → Answers old end bytes d said new → ⊥
  not_answered new said None s f h a =
      ⊎_elim
      (λ p. read_or_fault nothing s p.says as_nothing f h)
      (λ b. ⊎_elim (λ w. read_or_fault unfinished s w.says as_unfinished f h) (λ c. read_or_fault (called c.column c.word c.arguments) s c.says (as_call c.column c.word c.arguments) f h) b)
      a
  not_answered new said (Some e) s f h a = read_or_fault (called a.column a.word a.arguments) s a.says (as_call a.column a.word a.arguments) f h

  pub not_too_long : (s : ScriptStop) (place : Place) → IsFault s → Stops old end bytes s → Stops old end bytes (stop.TooLong place) → ⊥
  not_too_long s place f h (column, w, args, says, here, long) = read_or_fault (called column w args) s says (as_call column w args) f h

  pub one_fault : (s t : ScriptStop) → IsFault s → IsFault t → Stops old end bytes s → Stops old end bytes t → s ≡ t
  one_fault (stop.Syntax j p) (stop.Syntax k q) f g (c, a, here) (d, b, there) = both (parts (one_reading end bytes _ _ a b))
    where
      parts : fault (fault_of j) c ≡ fault (fault_of k) d → (fault_of j ≡ fault_of k) × (c ≡ d)
      parts e = (cc e, cc e)

      both : (fault_of j ≡ fault_of k) × (c ≡ d) → stop.Syntax j p ≡ stop.Syntax k q
      both (e, i) = ap (λ z. stop.Syntax z p) (same_fault j k e) ∙ ap (stop.Syntax k) (same_place old c d p q here there i)
  one_fault (stop.Syntax j p) (stop.NotBuilt q) f g (c, a, here) (d, b, there) = absurd (wrong (one_reading end bytes _ _ a b))
    where
      wrong : fault (fault_of j) c ≡ not_built d → ⊥
      wrong e = cc e
  one_fault (stop.NotBuilt p) (stop.Syntax k q) f g (c, a, here) (d, b, there) = absurd (wrong (one_reading end bytes _ _ a b))
    where
      wrong : not_built c ≡ fault (fault_of k) d → ⊥
      wrong e = cc e
  one_fault (stop.NotBuilt p) (stop.NotBuilt q) f g (c, a, here) (d, b, there) = ap stop.NotBuilt (same_place old c d p q here there (same (one_reading end bytes _ _ a b)))
    where
      same : not_built c ≡ not_built d → c ≡ d
      same e = cc e
  one_fault (stop.TooLong p) t f g h k = absurd f
  one_fault stop.NoMemory t f g h k = absurd f
  one_fault (stop.Syntax j p) (stop.TooLong q) f g h k = absurd g
  one_fault (stop.Syntax j p) stop.NoMemory f g h k = absurd g
  one_fault (stop.NotBuilt p) (stop.TooLong q) f g h k = absurd g
  one_fault (stop.NotBuilt p) stop.NoMemory f g h k = absurd g
