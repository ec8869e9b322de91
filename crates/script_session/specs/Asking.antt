-- From a call as written to the call that is asked: what references stand for, and how a call is refused for them.
use Rattle.std.specs.Prelude.{◌≡◌, ℕ, zero, suc, ◌<◌, ◌+◌, Bool, true, false, ◌||◌, List, [], ◌∷◌, map, Option, Some, None, IsSome, slice_get, slice_index_or}
use Rattle.std.specs.Option.{option_map}
use Rattle.call_script.specs.declared.words.CallWord.{CallWord}
use Rattle.call_script.specs.declared.words.ArgumentKind.{ArgumentKind}
use Rattle.call_script.specs.declared.words.ArgumentKind.TheVariants as kind
use Rattle.call_script.specs.Calls.{kind_at}
use Rattle.call_script.specs.Lines.{Written, reference, entry, flag, limit, quoted}
use Rattle.yices_api.specs.declared.calls.Call.{Call}
use Rattle.yices_api.specs.declared.replies.CallError.{CallError}
use Rattle.yices_api.specs.declared.replies.CallError.TheVariants as error
use Rattle.script_session.specs.declared.meant.Handle.{Handle}
use Rattle.script_session.specs.declared.meant.Handle.TheVariants as handle
use Rattle.clause_search.specs.declared.Turns.{Turns}
use Rattle.clause_search.specs.declared.Turns.TheVariants as turns
use Rattle.script_session.specs.declared.meant.Gave.{Gave}
use Rattle.script_session.specs.declared.meant.Gave.TheVariants as gave
use Rattle.script_session.specs.declared.meant.Meant.{Meant}
use Rattle.script_session.specs.declared.meant.Meant.TheVariants as meant
use Rattle.script_session.specs.declared.asking.NotAsked.{NotAsked}
use Rattle.script_session.specs.declared.asking.NotAsked.TheVariants as not_asked
use Rattle.script_session.specs.CallTable.{call_of}

-- what line k gave; nothing where it is no earlier line
abbrev pub given_by_line : List Gave → ℕ → Gave
given_by_line given zero = gave.Nothing
given_by_line given (suc i) = slice_index_or given i gave.Nothing

-- the handle that a line gave; a list is none
abbrev pub handle_in : Gave → Option Handle
handle_in (gave.Handle h) = Some h
handle_in _ = None

-- an entry, from 1 on, of a list that a line gave
abbrev pub entry_in : Gave → ℕ → Option Handle
entry_in (gave.Terms ts) (suc i) = option_map handle.Term (slice_get ts i)
entry_in _ _ = None

-- the limit of turns
abbrev pub turns_of : Option ℕ → Turns
turns_of None = turns.Whole
turns_of (Some n) = turns.Counted n

-- what an argument stands for
abbrev pub meaning : List Gave → Written → Option Meant
meaning given (reference k) = option_map meant.Handle (handle_in (given_by_line given k))
meaning given (entry k i) = option_map meant.Handle (entry_in (given_by_line given k) i)
meaning given (flag b) = Some (meant.Flag b)
meaning given (limit n) = Some (meant.Turns (turns_of n))
meaning given (quoted s) = Some (meant.Name s)

-- each argument stands for that, in order
abbrev pub AllMean : List Gave → List Written → List Meant → Type 0
AllMean given arguments ms = map (meaning given) arguments ≡ map Some ms

-- an argument stands for a type, for a term, for a context, for a flag, for a limit of turns, for a name
abbrev pub is_type : Meant → Bool
is_type (meant.Handle (handle.TypeId t)) = true
is_type _ = false

abbrev pub is_term : Meant → Bool
is_term (meant.Handle (handle.Term t)) = true
is_term _ = false

abbrev pub is_context : Meant → Bool
is_context (meant.Handle (handle.Context c)) = true
is_context _ = false

abbrev pub is_flag : Meant → Bool
is_flag (meant.Flag b) = true
is_flag _ = false

abbrev pub is_limit : Meant → Bool
is_limit (meant.Turns k) = true
is_limit _ = false

abbrev pub is_name : Meant → Bool
is_name (meant.Name s) = true
is_name _ = false

-- it is of that kind; where no argument may stand, none is
abbrev pub is_of_kind : Option ArgumentKind → Meant → Bool
is_of_kind (Some kind.Type) m = is_type m
is_of_kind (Some kind.Term) m = is_term m
is_of_kind (Some kind.Context) m = is_context m
is_of_kind (Some kind.TypeOrTerm) m = is_type m || is_term m
is_of_kind (Some kind.Flag) m = is_flag m
is_of_kind (Some kind.Turns) m = is_limit m
is_of_kind (Some kind.Name) m = is_name m
is_of_kind None m = false

-- all arguments have a result, and each is of the kind that the call takes at its place
pub record AllFit (given : List Gave) (word : CallWord) (arguments : List Written) (ms : List Meant) : Type 0 where
  pub all : AllMean given arguments ms
  pub kinds : (i : ℕ) (m : Meant) → slice_get ms i ≡ Some m → is_of_kind (kind_at word i) m ≡ true

-- the least place, from 1 on, of an argument that has no result
pub record IsWithoutResult (given : List Gave) (arguments : List Written) (place : ℕ) : Type 0 where
  pub index : ℕ
  pub counted : place ≡ index + 1
  pub argument : Written
  pub there : slice_get arguments index ≡ Some argument
  pub none : meaning given argument ≡ None
  pub earlier : (i : ℕ) (a : Written) → i < index → slice_get arguments i ≡ Some a → IsSome (meaning given a)

-- the first argument, by its index, that isn't of the kind that the call takes there
pub record IsFirstOfWrongKind (word : CallWord) (ms : List Meant) (index : ℕ) : Type 0 where
  pub argument : Meant
  pub there : slice_get ms index ≡ Some argument
  pub wrong : is_of_kind (kind_at word index) argument ≡ false
  pub earlier : (i : ℕ) (m : Meant) → i < index → slice_get ms i ≡ Some m → is_of_kind (kind_at word i) m ≡ true

-- all arguments have a result, and this is the least place, from 1 on, of one of a wrong kind
pub record IsOfWrongKind (given : List Gave) (word : CallWord) (arguments : List Written) (place : ℕ) : Type 0 where
  pub meanings : List Meant
  pub all : AllMean given arguments meanings
  pub index : ℕ
  pub counted : place ≡ index + 1
  pub first : IsFirstOfWrongKind word meanings index

-- the refusal of a call for what its arguments stand for
abbrev pub IsRefusedAsWritten : List Gave → CallWord → List Written → CallError → Type 0
IsRefusedAsWritten given word arguments (error.NoResult place) = IsWithoutResult given arguments place
IsRefusedAsWritten given word arguments (error.WrongKind place) = IsOfWrongKind given word arguments place
IsRefusedAsWritten given word arguments _ = ⊥

-- why not all arguments have a result; memory may be refused at any time
abbrev pub RefusesMeaning : List Gave → List Written → NotAsked → Type 0
RefusesMeaning given arguments (not_asked.Refused (error.NoResult place)) = IsWithoutResult given arguments place
RefusesMeaning given arguments (not_asked.Refused _) = ⊥
RefusesMeaning given arguments not_asked.NoMemory = Unit {0}

-- the call that is asked: each argument has a result of its kind
pub record AsksFor (given : List Gave) (word : CallWord) (arguments : List Written) (c : Call) : Type 0 where
  pub meanings : List Meant
  pub fit : AllFit given word arguments meanings
  pub is : call_of word meanings ≡ Some c

-- why no call is asked; memory may be refused at any time
abbrev pub RefusesAsking : List Gave → CallWord → List Written → NotAsked → Type 0
RefusesAsking given word arguments (not_asked.Refused e) = IsRefusedAsWritten given word arguments e
RefusesAsking given word arguments not_asked.NoMemory = Unit {0}
