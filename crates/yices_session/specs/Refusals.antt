-- Why a command is refused, and what stays.
use Rattle.std.specs.Prelude.{◌≡◌, ℕ, List, Option, Some, None, is_some, nat_le, ◌==◌, if◌then◌else◌}
use Rattle.stamped_slots.specs.Slots.{taken}
use Rattle.yices_grammar.specs.declared.Place.{Place}
use Rattle.yices_grammar.specs.Commands.{Action, declare, define, assert, check, check_assuming, show_unsat_assumptions, push, pop, reset, show_model, eval, echo, exit, Command}
use Rattle.yices_api.specs.Runs.{Lasts}
use Rattle.expression_terms.specs.declared.refusal.Refusal.{Refusal}
use Rattle.expression_terms.specs.declared.refusal.Refusal.TheVariants as refusal
use Rattle.expression_terms.specs.declared.refusal.Stop.{Stop}
use Rattle.expression_terms.specs.declared.refusal.Stop.TheVariants as stop
use Rattle.expression_terms.specs.Trees.{Cause, tree_named, tree_of}
use Rattle.expression_terms.specs.Building.{cause_in}
use Rattle.yices_session.specs.Built.{is_built}
use Rattle.yices_session.specs.State.{State, scope_of}
use Rattle.yices_session.specs.Steps.{level_of, unknown_in}

-- it is refused there for that
abbrev pub refused_at : Place → Refusal → Option Cause
refused_at at why = Some (record { place = at; refusal = why })

-- a name that is in use comes before what is wrong otherwise
abbrev pub unless_used : State → Place → List ℕ → Option Cause → Option Cause
unless_used s at w otherwise = if is_some (tree_named (scope_of s.names) w) then refused_at at (refusal.NameInUse w) else otherwise

-- what is wrong with an action of a command at that place, if anything is
abbrev pub cause_of : State → Place → Action → Option Cause
cause_of s at (declare w of) = unless_used s at w None
cause_of s at (define w of e) = unless_used s at w (cause_in (tree_of (scope_of s.names) e))
cause_of s at (assert e) = cause_in (tree_of (scope_of s.names) e)
cause_of s at check = None
cause_of s at (check_assuming ls) = unknown_in (scope_of s.names) ls
cause_of s at show_unsat_assumptions = None
cause_of s at push = if nat_le 65536 (level_of s) then refused_at at refusal.TooDeep else None
cause_of s at pop = if level_of s == 0 then refused_at at refusal.BottomLevel else None
cause_of s at reset = None
cause_of s at show_model = None
cause_of s at (eval e) = cause_in (tree_of (scope_of s.names) e)
cause_of s at (echo bytes) = None
cause_of s at exit = None
cause_of s at _ = refused_at at refusal.NotBuilt

-- why the session refuses the command, if it does: what isn't built comes before all else
abbrev pub refusal_of : State → Command → Option Cause
refusal_of s c = if is_built c then cause_of s c.place c.action else refused_at c.place refusal.NotBuilt

-- no slot for terms is left as the command ends, for want of which it is refused; or memory is refused; or this is wrong first
abbrev pub IsRefused : Option Cause → State → Stop → Type 0
IsRefused cause new (stop.Refused at refusal.TableFull) = taken new.table.terms ≡ 4194304
IsRefused cause new (stop.Refused at why) = cause ≡ refused_at at why
IsRefused cause new stop.NoMemory = Unit {0}

-- why a command has no reply
abbrev pub IsStopped : State → Command → Stop → State → Type 0
IsStopped old c why new = IsRefused (refusal_of old c) new why

-- whatever was declared and asserted stays, and terms last; what was kept of a check may be dropped where memory is refused
pub record Stays (old new : State) : Type 0 where
  pub names : new.names ≡ old.names
  pub lists : new.lists ≡ old.lists
  pub lasts : Lasts old.table new.table
