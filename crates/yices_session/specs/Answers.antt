-- How the session of the code answers a command, for whatever state it stands for.
use Rattle.std.specs.Prelude.{◌≡◌, ℕ, List}
use Rattle.yices_grammar.specs.Commands.{Command}
use Rattle.expression_terms.specs.declared.refusal.Stop.{Stop}
use Rattle.yices_session.specs.State.{State}
use Rattle.yices_session.specs.Steps.{Step}
use Rattle.yices_session.specs.Refusals.{IsStopped, Stays}
use Rattle.yices_session.specs.Held.{Held, Stands}

-- it replies so, and stands for the state behind a step of that kind
pub record Moves (how : State → List ℕ → State → Type 0) (old : Held) (reply : List ℕ) (new : Held) : Type 0 where
  pub turns : new.turns ≡ old.turns
  pub each : (s : State) → Stands old s → (next : State) × how s reply next × Stands new next

-- it has no reply for a cause of that kind; whatever was declared and asserted stays
pub record Halts (why : State → State → Type 0) (old new : Held) : Type 0 where
  pub turns : new.turns ≡ old.turns
  pub each : (s : State) → Stands old s → (next : State) × why s next × Stays s next × Stands new next

-- it answers the command by a step of the session
abbrev pub Answers : Command → Held → List ℕ → Held → Type 0
Answers c old reply new = Moves (λ s says next. Step old.turns s c says next) old reply new

-- it stops at the command for a cause that the command has there
abbrev pub Refuses : Command → Held → Stop → Held → Type 0
Refuses c old why new = Halts (λ s next. IsStopped s c why next) old new
