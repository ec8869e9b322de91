-- How the refusals of the calls below are told.
use Rattle.std.specs.Prelude.{ℕ, List, Option, Some, None}
use Rattle.term_shapes.specs.declared.handles.Term.{Term}
use Rattle.term_shapes.specs.declared.handles.TypeId.{TypeId}
use Rattle.shape_rules.specs.declared.errors.TableError.{TableError}
use Rattle.shape_rules.specs.declared.errors.TableError.TheVariants as table_error
use Rattle.term_build.specs.declared.errors.BuildError.{BuildError}
use Rattle.term_build.specs.declared.errors.BuildError.TheVariants as build_error
use Rattle.context_stack.specs.declared.errors.ContextError.{ContextError}
use Rattle.context_stack.specs.declared.errors.ContextError.TheVariants as context_error
use Rattle.context_stack.specs.declared.checks.Checked.{Checked}
use Rattle.context_stack.specs.declared.checks.Checked.TheVariants as checked
use Rattle.context_stack.specs.Checks.{status_of}
use Rattle.yices_api.specs.Calls.{Handle, of_term, of_type, of_context}
use Rattle.yices_api.specs.declared.replies.CallError.{CallError}
use Rattle.yices_api.specs.declared.replies.CallError.TheVariants as error
use Rattle.yices_api.specs.declared.replies.Reply.{Reply}
use Rattle.yices_api.specs.declared.replies.Reply.TheVariants as reply

-- the refusal of a dead handle
abbrev pub dead_at : ℕ → Handle → CallError
dead_at place (of_term t) = error.DeadTerm place
dead_at place (of_type t) = error.DeadType place
dead_at place (of_context c) = error.DeadContext place

-- the refusal of a constructor
abbrev pub told_build : BuildError → Reply
told_build (build_error.DeadTerm place) = reply.Refused (error.DeadTerm place)
told_build (build_error.BadArity n) = reply.Refused (error.BadArity n)
told_build (build_error.WrongType place want found) = reply.Refused (error.WrongType place want found)
told_build (build_error.WidthsDiffer place left right) = reply.Refused (error.WidthsDiffer place left right)
told_build (build_error.BadWidth n) = reply.Refused (error.BadWidth n)
told_build build_error.BadRange = reply.Refused error.BadRange
told_build build_error.TableFull = reply.Refused error.TableFull
told_build build_error.NoMemory = reply.NoMemory

-- the refusal of the table, where the handle's place is this
abbrev pub told_table : ℕ → TableError → Reply
told_table place (table_error.DeadType n) = reply.Refused (error.DeadType place)
told_table place table_error.DeadTerm = reply.Refused (error.DeadTerm place)
told_table place table_error.CountFull = reply.Refused error.CountFull
told_table place table_error.CountZero = reply.Refused error.CountZero
told_table place table_error.TableFull = reply.Refused error.TableFull
told_table place _ = reply.NoMemory

-- the refusal of a context, where its term's place is this
abbrev pub told_context : ℕ → ContextError → Reply
told_context place (context_error.DeadTerm n) = reply.Refused (error.DeadTerm place)
told_context place (context_error.NotBool n) = reply.Refused (error.NotBool n)
told_context place (context_error.HasVariable v) = reply.Refused (error.HasVariable v)
told_context place context_error.TooDeep = reply.Refused error.TooDeep
told_context place context_error.BottomLevel = reply.Refused error.BottomLevel
told_context place context_error.NoMemory = reply.NoMemory

-- the answer of a check: its verdict, or why there is none
abbrev pub told_check : Checked → Reply
told_check checked.NotBuilt = reply.Refused error.NotBuilt
told_check checked.NoMemory = reply.NoMemory
told_check found = reply.Status (status_of found)

-- a term that may be there, a type that may be there, a text that may be there
abbrev pub term_or_nothing : Option Term → Reply
term_or_nothing None = reply.Nothing
term_or_nothing (Some t) = reply.Term t

abbrev pub type_or_nothing : Option TypeId → Reply
type_or_nothing None = reply.Nothing
type_or_nothing (Some t) = reply.TypeId t

abbrev pub text_or_nothing : Option (List ℕ) → Reply
text_or_nothing None = reply.Nothing
text_or_nothing (Some text) = reply.Text text
