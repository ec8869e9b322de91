-- What was built, or refused, is what building promises.
use Rattle.std.proofs.Common.{◌≡◌, Some, Result, Ok, Err, refl, ap}
use Rattle.std.proofs.lemmas.Option.{same_Some}
use Rattle.term_shapes.specs.declared.handles.Term.{Term}
use Rattle.yices_grammar.specs.declared.Place.{Place}
use Rattle.yices_grammar.specs.Commands.{Expr}
use Rattle.yices_api.specs.State.{State, ContextsStay}
use Rattle.expression_terms.specs.declared.refusal.Refusal.{Refusal}
use Rattle.expression_terms.specs.declared.refusal.Refusal.TheVariants as refusal
use Rattle.expression_terms.specs.declared.refusal.Stop.{Stop}
use Rattle.expression_terms.specs.declared.refusal.Stop.TheVariants as stop
use Rattle.expression_terms.specs.Trees.{Scope, Cause, wrong}
use Rattle.expression_terms.specs.Growth.{written_trees}
use Rattle.expression_terms.specs.Fresh.{GrowsPast}
use Rattle.expression_terms.specs.Building.{Named, AreNamed, BuildsOr, Adds, cause_in, IsUnbuilt}
use Rattle.expression_terms.specs.Parts.{BuildsOne}
use Rattle.expression_terms.proofs.Enough.{grows_enough, past_enough}

module _ (names : Named) (old new : State) (e : Expr) where
  -- the answer's term
  pub builds_ok : (t : Term) → ((s : Scope) → AreNamed old.table s names → BuildsOne s old.table new.table e t) → BuildsOr names old e (Ok t) new
  builds_ok t h = λ s named. let b = h s named in record { tree = b.tree; is = b.is; built = b.built }

  pub adds_ok : (t : Term) → ((s : Scope) → AreNamed old.table s names → BuildsOne s old.table new.table e t) → ContextsStay old new → Adds names old e new
  adds_ok t h stay = record { grows = λ s named. grows_enough (written_trees s e) old.table new.table (h s named).grows; contexts = stay }

  -- where building was given up
  pub adds_past : ((s : Scope) → AreNamed old.table s names → GrowsPast (written_trees s e) old.table new.table) → ContextsStay old new → Adds names old e new
  adds_past h stay = record { grows = λ s named. past_enough (written_trees s e) old.table new.table (h s named); contexts = stay }

cause_of : {A : Type 0} (r : Result A Cause) (c : Cause) → cause_in r ≡ Some c → r ≡ Err c
cause_of (Ok x) c h = absurd (cc h)
cause_of (Err d) c h = ap Err (same_Some d c h)

-- what is wrong with a part is wrong with the whole, where it is there that it is told
pub unbuilt_up : {A B : Type 0} (part : Result A Cause) (whole : Result B Cause) (new : State) (why : Stop) → ((c : Cause) → part ≡ Err c → whole ≡ Err c) → IsUnbuilt (cause_in part) new why → IsUnbuilt (cause_in whole) new why
unbuilt_up part whole new stop.NoMemory up h = tt
unbuilt_up part whole new (stop.Refused at refusal.TableFull) up h = h
unbuilt_up part whole new (stop.Refused at (refusal.UnknownName w)) up h = ap cause_in (up _ (cause_of part _ h))
unbuilt_up part whole new (stop.Refused at (refusal.NameInUse w)) up h = ap cause_in (up _ (cause_of part _ h))
unbuilt_up part whole new (stop.Refused at (refusal.BoundTwice w)) up h = ap cause_in (up _ (cause_of part _ h))
unbuilt_up part whole new (stop.Refused at (refusal.BadArity n)) up h = ap cause_in (up _ (cause_of part _ h))
unbuilt_up part whole new (stop.Refused at (refusal.WrongType place want found)) up h = ap cause_in (up _ (cause_of part _ h))
unbuilt_up part whole new (stop.Refused at refusal.BottomLevel) up h = ap cause_in (up _ (cause_of part _ h))
unbuilt_up part whole new (stop.Refused at refusal.TooDeep) up h = ap cause_in (up _ (cause_of part _ h))
unbuilt_up part whole new (stop.Refused at refusal.NotBuilt) up h = ap cause_in (up _ (cause_of part _ h))

-- a refusal that tells what is wrong
pub unbuilt_wrong : {A : Type 0} (whole : Result A Cause) (new : State) (at : Place) (why : Refusal) → (why ≡ refusal.TableFull → ⊥) → whole ≡ wrong at why → IsUnbuilt (cause_in whole) new (stop.Refused at why)
unbuilt_wrong whole new at refusal.TableFull other h = absurd (other refl)
unbuilt_wrong whole new at (refusal.UnknownName w) other h = ap cause_in h
unbuilt_wrong whole new at (refusal.NameInUse w) other h = ap cause_in h
unbuilt_wrong whole new at (refusal.BoundTwice w) other h = ap cause_in h
unbuilt_wrong whole new at (refusal.BadArity n) other h = ap cause_in h
unbuilt_wrong whole new at (refusal.WrongType place want found) other h = ap cause_in h
unbuilt_wrong whole new at refusal.BottomLevel other h = ap cause_in h
unbuilt_wrong whole new at refusal.TooDeep other h = ap cause_in h
unbuilt_wrong whole new at refusal.NotBuilt other h = ap cause_in h
