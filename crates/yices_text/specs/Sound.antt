-- What a reader holds.
use Rattle.std.specs.Prelude.{◌≡◌, ℕ, ◌≤◌, ◌^◌, Bool, Option, Some, None, List, length}
use Rattle.yices_grammar.specs.Commands.{Command}
use Rattle.yices_grammar.specs.Texts.{BeginsWith}
use Rattle.yices_text.specs.declared.error.ReadError.{ReadError}
use Rattle.yices_text.specs.declared.error.ReadError.TheVariants.{NoMemory}
use Rattle.yices_text.specs.declared.reader.Reader.TheInside.{Inside}
use Rattle.yices_text.specs.declared.scanner.Scanner.{Scanner}
use Rattle.yices_text.specs.Waiting.{IsFaultOf}
use Rattle.yices_text.specs.Progress.{IsAt, Stops}
use Rattle.yices_text.specs.View.{Reading, says}

-- what contracts see of a reader
abbrev pub reading_of : Inside → Reading
reading_of r = record { fed = r.fed.value; answered = r.answered.value; finished = r.finished; failure = r.failure }

-- all bytes were read, or the text has that fault behind the commands that were
abbrev pub Works : Bool → List ℕ → List Command → Scanner → Option ReadError → Type 0
Works finished fed answered c None = IsAt finished fed answered c
Works finished fed answered c (Some e) = Stops finished fed answered c e

-- what was answered is what the text begins with; an error that lasts is a fault of it, and without want of memory all was read
pub record IsSound (r : Inside) : Type 0 where
  pub begins : BeginsWith r.fed.value (says r.answered.value)
  pub small : length r.fed.value ≤ 2 ^ 63
  pub works : (r.failure ≡ Some NoMemory → ⊥) → Works r.finished r.fed.value (says r.answered.value) r.scanner r.fault
  pub faulty : (e : ReadError) → r.failure ≡ Some e → IsFaultOf r.finished r.fed.value (says r.answered.value) e
