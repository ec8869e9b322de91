-- The call of a word with what its arguments stand for.
use Rattle.std.specs.Prelude.{ℕ, Bool, List, [], ◌∷◌, Option, Some, None}
use Rattle.std.specs.Option.{option_map}
use Rattle.term_shapes.specs.declared.handles.Term.{Term}
use Rattle.term_shapes.specs.declared.handles.TypeId.{TypeId}
use Rattle.term_table.specs.declared.table.Marked.{Marked}
use Rattle.term_table.specs.declared.table.Marked.TheVariants as marked
use Rattle.call_script.specs.declared.words.CallWord.{CallWord}
use Rattle.call_script.specs.declared.words.CallWord.TheVariants as word
use Rattle.clause_search.specs.declared.Turns.{Turns}
use Rattle.yices_api.specs.declared.handles.ContextId.{ContextId}
use Rattle.yices_api.specs.declared.calls.Call.{Call}
use Rattle.yices_api.specs.declared.calls.Call.TheVariants as call
use Rattle.script_session.specs.declared.meant.Handle.TheVariants as handle
use Rattle.script_session.specs.declared.meant.Meant.{Meant}
use Rattle.script_session.specs.declared.meant.Meant.TheVariants as meant

-- the call, where there is no argument
abbrev pub bare : Call → List Meant → Option Call
bare c [] = Some c
bare c _ = None

-- the only argument: a term, a type, a context, a name
abbrev pub one_term : List Meant → Option Term
one_term (meant.Handle (handle.Term t) ∷ []) = Some t
one_term _ = None

abbrev pub one_type : List Meant → Option TypeId
one_type (meant.Handle (handle.TypeId t) ∷ []) = Some t
one_type _ = None

abbrev pub one_context : List Meant → Option ContextId
one_context (meant.Handle (handle.Context c) ∷ []) = Some c
one_context _ = None

abbrev pub one_name : List Meant → Option (List ℕ)
one_name (meant.Name s ∷ []) = Some s
one_name _ = None

-- the only two arguments: terms, a name and a term, a name and a type, a context and a term
abbrev pub two_terms : List Meant → Option (Term × Term)
two_terms (meant.Handle (handle.Term a) ∷ meant.Handle (handle.Term b) ∷ []) = Some (a, b)
two_terms _ = None

abbrev pub named_term : List Meant → Option (List ℕ × Term)
named_term (meant.Name s ∷ meant.Handle (handle.Term t) ∷ []) = Some (s, t)
named_term _ = None

abbrev pub named_type : List Meant → Option (List ℕ × TypeId)
named_type (meant.Name s ∷ meant.Handle (handle.TypeId t) ∷ []) = Some (s, t)
named_type _ = None

abbrev pub formula_in : List Meant → Option (ContextId × Term)
formula_in (meant.Handle (handle.Context c) ∷ meant.Handle (handle.Term t) ∷ []) = Some (c, t)
formula_in _ = None

-- the only three arguments, terms
abbrev pub three_terms : List Meant → Option (Term × Term × Term)
three_terms (meant.Handle (handle.Term a) ∷ meant.Handle (handle.Term b) ∷ meant.Handle (handle.Term c) ∷ []) = Some (a, b, c)
three_terms _ = None

-- all arguments, terms
abbrev pub all_terms : List Meant → Option (List Term)
all_terms [] = Some []
all_terms (meant.Handle (handle.Term t) ∷ ms) = option_map (λ ts. t ∷ ts) (all_terms ms)
all_terms (_ ∷ ms) = None

-- a context and a limit of turns, the only two arguments; and terms behind them
abbrev pub context_and_turns : List Meant → Option (ContextId × Turns)
context_and_turns (meant.Handle (handle.Context c) ∷ meant.Turns k ∷ []) = Some (c, k)
context_and_turns _ = None

abbrev pub check_and_terms : List Meant → Option (ContextId × Turns × List Term)
check_and_terms (meant.Handle (handle.Context c) ∷ meant.Turns k ∷ ms) = option_map (λ ts. (c, k, ts)) (all_terms ms)
check_and_terms _ = None

-- all arguments, types and terms
abbrev pub all_marked : List Meant → Option (List Marked)
all_marked [] = Some []
all_marked (meant.Handle (handle.Term t) ∷ ms) = option_map (λ rs. marked.Term t ∷ rs) (all_marked ms)
all_marked (meant.Handle (handle.TypeId t) ∷ ms) = option_map (λ rs. marked.TypeId t ∷ rs) (all_marked ms)
all_marked (_ ∷ ms) = None

-- a flag, and types and terms behind it
abbrev pub flag_and_marked : List Meant → Option (Bool × List Marked)
flag_and_marked (meant.Flag b ∷ ms) = option_map (λ rs. (b, rs)) (all_marked ms)
flag_and_marked _ = None

-- the call of a word
abbrev pub call_of : CallWord → List Meant → Option Call
call_of word.BoolType ms = bare call.BoolType ms
call_of word.True ms = bare call.True ms
call_of word.False ms = bare call.False ms
call_of word.NewUninterpretedTerm ms = option_map call.NewUninterpretedTerm (one_type ms)
call_of word.NewVariable ms = option_map call.NewVariable (one_type ms)
call_of word.Not ms = option_map call.Not (one_term ms)
call_of word.And ms = option_map call.And (all_terms ms)
call_of word.Or ms = option_map call.Or (all_terms ms)
call_of word.Xor ms = option_map call.Xor (all_terms ms)
call_of word.Implies ms = option_map (λ p. call.Implies p.0 p.1) (two_terms ms)
call_of word.Iff ms = option_map (λ p. call.Iff p.0 p.1) (two_terms ms)
call_of word.Ite ms = option_map (λ p. call.Ite p.0 p.1 p.2) (three_terms ms)
call_of word.Eq ms = option_map (λ p. call.Eq p.0 p.1) (two_terms ms)
call_of word.Neq ms = option_map (λ p. call.Neq p.0 p.1) (two_terms ms)
call_of word.Distinct ms = option_map call.Distinct (all_terms ms)
call_of word.TypeOfTerm ms = option_map call.TypeOfTerm (one_term ms)
call_of word.PpTerm ms = option_map call.PpTerm (one_term ms)
call_of word.IncrefTerm ms = option_map call.IncrefTerm (one_term ms)
call_of word.DecrefTerm ms = option_map call.DecrefTerm (one_term ms)
call_of word.IncrefType ms = option_map call.IncrefType (one_type ms)
call_of word.DecrefType ms = option_map call.DecrefType (one_type ms)
call_of word.NumTerms ms = bare call.NumTerms ms
call_of word.NumTypes ms = bare call.NumTypes ms
call_of word.GarbageCollect ms = option_map (λ p. call.GarbageCollect p.0 p.1) (flag_and_marked ms)
call_of word.SetTermName ms = option_map (λ p. call.SetTermName p.0 p.1) (named_term ms)
call_of word.SetTypeName ms = option_map (λ p. call.SetTypeName p.0 p.1) (named_type ms)
call_of word.GetTermByName ms = option_map call.GetTermByName (one_name ms)
call_of word.GetTypeByName ms = option_map call.GetTypeByName (one_name ms)
call_of word.GetTermName ms = option_map call.GetTermName (one_term ms)
call_of word.GetTypeName ms = option_map call.GetTypeName (one_type ms)
call_of word.RemoveTermName ms = option_map call.RemoveTermName (one_name ms)
call_of word.RemoveTypeName ms = option_map call.RemoveTypeName (one_name ms)
call_of word.NewContext ms = bare call.NewContext ms
call_of word.FreeContext ms = option_map call.FreeContext (one_context ms)
call_of word.ResetContext ms = option_map call.ResetContext (one_context ms)
call_of word.Push ms = option_map call.Push (one_context ms)
call_of word.Pop ms = option_map call.Pop (one_context ms)
call_of word.ContextStatus ms = option_map call.ContextStatus (one_context ms)
call_of word.AssertFormula ms = option_map (λ p. call.AssertFormula p.0 p.1) (formula_in ms)
call_of word.CheckContext ms = option_map (λ p. call.CheckContext p.0 p.1) (context_and_turns ms)
call_of word.CheckContextWithAssumptions ms = option_map (λ p. call.CheckContextWithAssumptions p.0 p.1 p.2) (check_and_terms ms)
call_of word.GetUnsatCore ms = option_map call.GetUnsatCore (one_context ms)
