-- How a command ends where it isn't answered, and what stands for a state afterwards.
use Rattle.std.proofs.Common.{◌≡◌, ◌∙◌, ℕ, List, Option, None, is_some, sym, ap, subst, if◌then◌else◌}
use Rattle.stamped_slots.specs.Slots.{taken}
use Rattle.y_tree.specs.Tree.{Tree}
use Rattle.term_table.specs.World.{World}
use Rattle.yices_grammar.specs.declared.Place.{Place}
use Rattle.yices_api.specs.State.{State as Environment}
use Rattle.expression_terms.specs.declared.refusal.Refusal.TheVariants as refusal
use Rattle.expression_terms.specs.declared.refusal.Stop.{Stop}
use Rattle.expression_terms.specs.declared.refusal.Stop.TheVariants as stop
use Rattle.expression_terms.specs.Trees.{Cause, tree_named}
use Rattle.expression_terms.specs.Building.{IsUnbuilt}
use Rattle.yices_session.specs.State.{State, scope_of}
use Rattle.yices_session.specs.Refusals.{IsRefused, Stays, refused_at, unless_used}
use Rattle.yices_session.specs.Held.{Held, Stands, IsSession}
use Rattle.yices_session.specs.Answers.{Halts, Moves}

-- what was kept of a state stands for another one afterwards
pub moved_session : (how : State → List ℕ → State → Type 0) (old : Held) (reply : List ℕ) (new : Held) → Moves how old reply new → IsSession old → IsSession new
moved_session how old reply new moves session = let r = moves.each session.0 session.1 in (r.0, r.2)

pub halted_session : (why : State → State → Type 0) (old new : Held) → Halts why old new → IsSession old → IsSession new
halted_session why old new halts session = let r = halts.each session.0 session.1 in (r.0, r.3)

-- as it is seen
pub moves_seen : (how : State → List ℕ → State → Type 0) (h seen : Held) (reply : List ℕ) (new : Held) → h ≡ seen → Moves how h reply new → Moves how seen reply new
moves_seen how h seen reply new is moves = subst (λ x. Moves how x reply new) is moves

pub halts_seen : (why : State → State → Type 0) (h seen new : Held) → h ≡ seen → Halts why h new → Halts why seen new
halts_seen why h seen new is halts = subst (λ x. Halts why x new) is halts

-- for each state there is one that stays, and stands for what is kept
abbrev pub Leaves : Held → Held → Type 0
Leaves old new = (s : State) → Stands old s → (next : State) × Stays s next × Stands new next

-- memory is refused
pub out_of_memory : (cause : State → Option Cause) (old new : Held) (why : Stop) → why ≡ stop.NoMemory → new.turns ≡ old.turns → Leaves old new → Halts (λ s next. IsRefused (cause s) next why) old new
out_of_memory cause old new why is turns each = record {
  turns = turns;
  each = λ s stands. let r = each s stands in (r.0, subst (λ z. IsRefused (cause s) r.0 z) (sym is) tt, r.1, r.2);
}

-- what is wrong otherwise is told of a name that isn't
pub unused_as : (s : State) (place : Place) (w : List ℕ) (otherwise : Option Cause) → tree_named (scope_of s.names) w ≡ None → unless_used s place w otherwise ≡ otherwise
unused_as s place w otherwise unused = ap (λ (o : Option Tree). if is_some o then refused_at place (refusal.NameInUse w) else otherwise) unused

-- an expression isn't built
unbuilt_refused : (cause : Option Cause) (next : State) (env : Environment) (why : Stop) → next.table ≡ env.table → IsUnbuilt cause env why → IsRefused cause next why
unbuilt_refused cause next env stop.NoMemory same h = tt
unbuilt_refused cause next env (stop.Refused at refusal.TableFull) same h = ap (λ (w : World). taken w.terms) same ∙ h
unbuilt_refused cause next env (stop.Refused at (refusal.UnknownName w)) same h = h
unbuilt_refused cause next env (stop.Refused at (refusal.NameInUse w)) same h = h
unbuilt_refused cause next env (stop.Refused at (refusal.BoundTwice w)) same h = h
unbuilt_refused cause next env (stop.Refused at (refusal.BadArity n)) same h = h
unbuilt_refused cause next env (stop.Refused at (refusal.WrongType place want found)) same h = h
unbuilt_refused cause next env (stop.Refused at refusal.BottomLevel) same h = h
unbuilt_refused cause next env (stop.Refused at refusal.TooDeep) same h = h
unbuilt_refused cause next env (stop.Refused at refusal.NotBuilt) same h = h

pub unbuilt_as : (cause was : Option Cause) (next : State) (env : Environment) (why : Stop) → next.table ≡ env.table → cause ≡ was → IsUnbuilt was env why → IsRefused cause next why
unbuilt_as cause was next env why same is h = subst (λ z. IsRefused z next why) (sym is) (unbuilt_refused was next env why same h)
