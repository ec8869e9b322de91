-- What of a reply is printed by what it stands for: types, and variables.
use Rattle.std.specs.Prelude.{IsSome}
use Rattle.shape_rules.specs.declared.errors.Wanted.{Wanted}
use Rattle.shape_rules.specs.declared.errors.Wanted.TheVariants as wanted
use Rattle.term_table.specs.World.{World, node_at, type_shape_at}
use Rattle.yices_api.specs.declared.replies.CallError.{CallError}
use Rattle.yices_api.specs.declared.replies.CallError.TheVariants as error
use Rattle.yices_api.specs.declared.replies.Reply.{Reply}
use Rattle.yices_api.specs.declared.replies.Reply.TheVariants as reply
use Rattle.yices_api.specs.State.{State}

-- a kind of types is wanted, or a live type
abbrev pub IsWantedLive : World → Wanted → Type 0
IsWantedLive w (wanted.Same t) = IsSome (type_shape_at w t)
IsWantedLive w _ = Unit {0}

-- the types and the variable that a refusal names are live
abbrev pub IsRefusalLive : World → CallError → Type 0
IsRefusalLive w (error.WrongType place want found) = IsWantedLive w want × IsSome (type_shape_at w found)
IsRefusalLive w (error.HasVariable v) = IsSome (node_at w v)
IsRefusalLive w _ = Unit {0}

-- a replied type is live, and so is what a refusal names
abbrev pub IsPrintable : State → Reply → Type 0
IsPrintable s (reply.TypeId t) = IsSome (type_shape_at s.table t)
IsPrintable s (reply.Refused e) = IsRefusalLive s.table e
IsPrintable s _ = Unit {0}
