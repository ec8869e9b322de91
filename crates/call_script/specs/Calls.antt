-- The calls of a script: the word of each, and the kinds of its arguments.
use Rattle.std.specs.Prelude.{ℕ, suc, zero, ◌≤◌, Bool, true, false, Option, Some, None, List, [], ◌∷◌, length, codes}
use Rattle.call_script.specs.declared.words.CallWord.{CallWord}
use Rattle.call_script.specs.declared.words.CallWord.TheVariants as call
use Rattle.call_script.specs.declared.words.ArgumentKind.{ArgumentKind}
use Rattle.call_script.specs.declared.words.ArgumentKind.TheVariants as kind

-- how a call is written: its word, the kinds of its first arguments, and the kind of any number of further ones, if they may come
pub record Form : Type 0 where
  pub text : List ℕ
  pub fixed : List ArgumentKind
  pub repeated : Option ArgumentKind

-- a call of these arguments and no more
abbrev pub takes : List ℕ → List ArgumentKind → Form
takes text kinds = record { text = text; fixed = kinds; repeated = None }

-- a call of these arguments, and any number of one kind behind them
abbrev pub takes_any : List ℕ → List ArgumentKind → ArgumentKind → Form
takes_any text kinds k = record { text = text; fixed = kinds; repeated = Some k }

-- the form of each call
abbrev pub form_of : CallWord → Form
form_of call.BoolType = takes (codes "bool_type") []
form_of call.True = takes (codes "true") []
form_of call.False = takes (codes "false") []
form_of call.NewUninterpretedTerm = takes (codes "new_uninterpreted_term") (kind.Type ∷ [])
form_of call.NewVariable = takes (codes "new_variable") (kind.Type ∷ [])
form_of call.Not = takes (codes "not") (kind.Term ∷ [])
form_of call.And = takes_any (codes "and") [] kind.Term
form_of call.Or = takes_any (codes "or") [] kind.Term
form_of call.Xor = takes_any (codes "xor") [] kind.Term
form_of call.Implies = takes (codes "implies") (kind.Term ∷ kind.Term ∷ [])
form_of call.Iff = takes (codes "iff") (kind.Term ∷ kind.Term ∷ [])
form_of call.Ite = takes (codes "ite") (kind.Term ∷ kind.Term ∷ kind.Term ∷ [])
form_of call.Eq = takes (codes "eq") (kind.Term ∷ kind.Term ∷ [])
form_of call.Neq = takes (codes "neq") (kind.Term ∷ kind.Term ∷ [])
form_of call.Distinct = takes_any (codes "distinct") [] kind.Term
form_of call.TypeOfTerm = takes (codes "type_of_term") (kind.Term ∷ [])
form_of call.PpTerm = takes (codes "pp_term") (kind.Term ∷ [])
form_of call.IncrefTerm = takes (codes "incref_term") (kind.Term ∷ [])
form_of call.DecrefTerm = takes (codes "decref_term") (kind.Term ∷ [])
form_of call.IncrefType = takes (codes "incref_type") (kind.Type ∷ [])
form_of call.DecrefType = takes (codes "decref_type") (kind.Type ∷ [])
form_of call.NumTerms = takes (codes "num_terms") []
form_of call.NumTypes = takes (codes "num_types") []
form_of call.GarbageCollect = takes_any (codes "garbage_collect") (kind.Flag ∷ []) kind.TypeOrTerm
form_of call.SetTermName = takes (codes "set_term_name") (kind.Name ∷ kind.Term ∷ [])
form_of call.SetTypeName = takes (codes "set_type_name") (kind.Name ∷ kind.Type ∷ [])
form_of call.GetTermByName = takes (codes "get_term_by_name") (kind.Name ∷ [])
form_of call.GetTypeByName = takes (codes "get_type_by_name") (kind.Name ∷ [])
form_of call.GetTermName = takes (codes "get_term_name") (kind.Term ∷ [])
form_of call.GetTypeName = takes (codes "get_type_name") (kind.Type ∷ [])
form_of call.RemoveTermName = takes (codes "remove_term_name") (kind.Name ∷ [])
form_of call.RemoveTypeName = takes (codes "remove_type_name") (kind.Name ∷ [])
form_of call.NewContext = takes (codes "new_context") []
form_of call.FreeContext = takes (codes "free_context") (kind.Context ∷ [])
form_of call.ResetContext = takes (codes "reset_context") (kind.Context ∷ [])
form_of call.Push = takes (codes "push") (kind.Context ∷ [])
form_of call.Pop = takes (codes "pop") (kind.Context ∷ [])
form_of call.ContextStatus = takes (codes "context_status") (kind.Context ∷ [])
form_of call.AssertFormula = takes (codes "assert_formula") (kind.Context ∷ kind.Term ∷ [])
form_of call.CheckContext = takes (codes "check_context") (kind.Context ∷ kind.Turns ∷ [])
form_of call.CheckContextWithAssumptions = takes_any (codes "check_context_with_assumptions") (kind.Context ∷ kind.Turns ∷ []) kind.Term
form_of call.GetUnsatCore = takes (codes "get_unsat_core") (kind.Context ∷ [])

-- the words of the calls that aren't built
abbrev pub later_words : List (List ℕ)
later_words =
    codes "real_type" ∷ codes "new_uninterpreted_type" ∷ codes "bv_type" ∷ codes "function_type" ∷ codes "neg" ∷ codes "add" ∷ codes "sub"
    ∷ codes "application" ∷ codes "update" ∷ codes "parse_rational" ∷ codes "scale"
    ∷ codes "arith_geq_atom" ∷ codes "arith_gt_atom" ∷ codes "arith_leq_atom" ∷ codes "arith_lt_atom"
    ∷ codes "bvconst" ∷ codes "bvnot" ∷ codes "bvneg" ∷ codes "bvadd" ∷ codes "bvsub" ∷ codes "bvmul" ∷ codes "bvdiv" ∷ codes "bvrem"
    ∷ codes "bvsdiv" ∷ codes "bvsrem" ∷ codes "bvsmod" ∷ codes "bvshl" ∷ codes "bvlshr" ∷ codes "bvashr"
    ∷ codes "bvand" ∷ codes "bvor" ∷ codes "bvxor" ∷ codes "bvconcat"
    ∷ codes "shift_left0" ∷ codes "shift_right0" ∷ codes "sign_extend" ∷ codes "zero_extend" ∷ codes "bvextract"
    ∷ codes "bvge_atom" ∷ codes "bvgt_atom" ∷ codes "bvle_atom" ∷ codes "bvlt_atom"
    ∷ codes "bvsge_atom" ∷ codes "bvsgt_atom" ∷ codes "bvsle_atom" ∷ codes "bvslt_atom"
    ∷ codes "get_model" ∷ codes "model_from_map"
    ∷ codes "free_model" ∷ codes "get_value" ∷ codes "implicant_for_formulas" ∷ []

-- the kind of the argument at a place, from 0, where the first ones and the further ones have these kinds
abbrev pub kind_among : List ArgumentKind → Option ArgumentKind → ℕ → Option ArgumentKind
kind_among [] repeated place = repeated
kind_among (k ∷ ks) repeated zero = Some k
kind_among (k ∷ ks) repeated (suc place) = kind_among ks repeated place

-- the kind of the call's argument at a place, from 0; none where no argument may stand
abbrev pub kind_at : CallWord → ℕ → Option ArgumentKind
kind_at w place = kind_among (form_of w).fixed (form_of w).repeated place

-- so many arguments are enough
abbrev pub IsEnough : CallWord → ℕ → Type 0
IsEnough w count = length (form_of w).fixed ≤ count

-- the kind is one of references
abbrev pub is_reference_kind : ArgumentKind → Bool
is_reference_kind kind.Type = true
is_reference_kind kind.Term = true
is_reference_kind kind.Context = true
is_reference_kind kind.TypeOrTerm = true
is_reference_kind kind.Flag = false
is_reference_kind kind.Turns = false
is_reference_kind kind.Name = false
