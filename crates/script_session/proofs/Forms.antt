-- Arguments of the form of a word make its call.
use Rattle.std.proofs.Common.{◌≡◌, ◌≢◌, ◌∙◌, ℕ, zero, suc, ◌+◌, Bool, true, false, ◌||◌, List, [], ◌∷◌, map, Option, Some, None, refl, sym, ap, ◌⊎◌, inl, inr}
use Rattle.std.specs.Prelude.{IsSome, slice_get}
use Rattle.std.specs.Option.{option_map}
use Rattle.term_shapes.specs.declared.handles.Term.{Term}
use Rattle.term_shapes.specs.declared.handles.TypeId.{TypeId}
use Rattle.term_table.specs.declared.table.Marked.{Marked}
use Rattle.term_table.specs.declared.table.Marked.TheVariants as marked
use Rattle.call_script.specs.declared.words.CallWord.{CallWord}
use Rattle.call_script.specs.declared.words.CallWord.TheVariants as word
use Rattle.call_script.specs.declared.words.ArgumentKind.{ArgumentKind}
use Rattle.call_script.specs.declared.words.ArgumentKind.TheVariants as kind
use Rattle.call_script.specs.Calls.{form_of, kind_at, kind_among}
use Rattle.call_script.specs.Lines.{Written, HasForm, HaveKinds, IsOfKind}
use Rattle.clause_search.specs.declared.Turns.{Turns}
use Rattle.yices_api.specs.declared.handles.ContextId.{ContextId}
use Rattle.yices_api.specs.declared.calls.Call.{Call}
use Rattle.yices_api.specs.declared.calls.Call.TheVariants as call
use Rattle.script_session.specs.declared.meant.Handle.{Handle}
use Rattle.script_session.specs.declared.meant.Handle.TheVariants as handle
use Rattle.script_session.specs.declared.meant.Meant.{Meant}
use Rattle.script_session.specs.declared.meant.Meant.TheVariants as meant
use Rattle.script_session.specs.CallTable.{bare, one_term, one_type, one_context, one_name, two_terms, named_term, named_type, formula_in, three_terms, all_terms, all_marked, flag_and_marked, context_and_turns, check_and_terms, call_of}
use Rattle.script_session.specs.Asking.{meaning, AllMean, is_of_kind}

-- what arguments stand for has these kinds, in order, and those behind them the repeated one
abbrev pub Fit : List ArgumentKind → Option ArgumentKind → List Meant → Type 0
Fit [] None [] = Unit {0}
Fit [] None (m ∷ ms) = ⊥
Fit [] (Some k) [] = Unit {0}
Fit [] (Some k) (m ∷ ms) = (is_of_kind (Some k) m ≡ true) × Fit [] (Some k) ms
Fit (k ∷ ks) repeated [] = ⊥
Fit (k ∷ ks) repeated (m ∷ ms) = (is_of_kind (Some k) m ≡ true) × Fit ks repeated ms

-- each is of the kind at its place
abbrev Each : List ArgumentKind → Option ArgumentKind → List Meant → Type 0
Each ks repeated ms = (i : ℕ) (m : Meant) → slice_get ms i ≡ Some m → is_of_kind (kind_among ks repeated i) m ≡ true

fits : (f : Written → Option Meant) (ks : List ArgumentKind) (repeated : Option ArgumentKind) (args : List Written) (ms : List Meant) → HaveKinds ks repeated args → map f args ≡ map Some ms → Each ks repeated ms → Fit ks repeated ms
fits f [] None [] [] h e k = tt
fits f [] None [] (m ∷ ms) h e k = absurd (cc e)
fits f [] None (a ∷ args) ms h e k = absurd h
fits f [] (Some r) [] [] h e k = tt
fits f [] (Some r) [] (m ∷ ms) h e k = absurd (cc e)
fits f [] (Some r) (a ∷ args) [] h e k = absurd (cc e)
fits f [] (Some r) (a ∷ args) (m ∷ ms) h e k = (k 0 m refl, fits f [] (Some r) args ms h.1 (rest e) (λ i n g. k (suc i) n g))
  where
    rest : f a ∷ map f args ≡ Some m ∷ map Some ms → map f args ≡ map Some ms
    rest q = cc q
fits f (r ∷ ks) repeated [] ms h e k = absurd h
fits f (r ∷ ks) repeated (a ∷ args) [] h e k = absurd (cc e)
fits f (r ∷ ks) repeated (a ∷ args) (m ∷ ms) h e k = (k 0 m refl, fits f ks repeated args ms h.1 (rest e) (λ i n g. k (suc i) n g))
  where
    rest : f a ∷ map f args ≡ Some m ∷ map Some ms → map f args ≡ map Some ms
    rest q = cc q

-- an argument of a kind
term_is : (m : Meant) → is_of_kind (Some kind.Term) m ≡ true → (t : Term) × (m ≡ meant.Handle (handle.Term t))
term_is (meant.Handle (handle.Term t)) h = (t, refl)
term_is (meant.Handle (handle.TypeId t)) h = absurd (cc h)
term_is (meant.Handle (handle.Context c)) h = absurd (cc h)
term_is (meant.Flag b) h = absurd (cc h)
term_is (meant.Name s) h = absurd (cc h)
term_is (meant.Turns n) h = absurd (cc h)

type_is : (m : Meant) → is_of_kind (Some kind.Type) m ≡ true → (t : TypeId) × (m ≡ meant.Handle (handle.TypeId t))
type_is (meant.Handle (handle.TypeId t)) h = (t, refl)
type_is (meant.Handle (handle.Term t)) h = absurd (cc h)
type_is (meant.Handle (handle.Context c)) h = absurd (cc h)
type_is (meant.Flag b) h = absurd (cc h)
type_is (meant.Name s) h = absurd (cc h)
type_is (meant.Turns n) h = absurd (cc h)

context_is : (m : Meant) → is_of_kind (Some kind.Context) m ≡ true → (c : ContextId) × (m ≡ meant.Handle (handle.Context c))
context_is (meant.Handle (handle.Context c)) h = (c, refl)
context_is (meant.Handle (handle.Term t)) h = absurd (cc h)
context_is (meant.Handle (handle.TypeId t)) h = absurd (cc h)
context_is (meant.Flag b) h = absurd (cc h)
context_is (meant.Name s) h = absurd (cc h)
context_is (meant.Turns n) h = absurd (cc h)

name_is : (m : Meant) → is_of_kind (Some kind.Name) m ≡ true → (s : List ℕ) × (m ≡ meant.Name s)
name_is (meant.Name s) h = (s, refl)
name_is (meant.Handle (handle.Term t)) h = absurd (cc h)
name_is (meant.Handle (handle.TypeId t)) h = absurd (cc h)
name_is (meant.Handle (handle.Context c)) h = absurd (cc h)
name_is (meant.Flag b) h = absurd (cc h)
name_is (meant.Turns n) h = absurd (cc h)

flag_is : (m : Meant) → is_of_kind (Some kind.Flag) m ≡ true → (b : Bool) × (m ≡ meant.Flag b)
flag_is (meant.Flag b) h = (b, refl)
flag_is (meant.Handle (handle.Term t)) h = absurd (cc h)
flag_is (meant.Handle (handle.TypeId t)) h = absurd (cc h)
flag_is (meant.Handle (handle.Context c)) h = absurd (cc h)
flag_is (meant.Name s) h = absurd (cc h)
flag_is (meant.Turns n) h = absurd (cc h)

turns_is : (m : Meant) → is_of_kind (Some kind.Turns) m ≡ true → (n : Turns) × (m ≡ meant.Turns n)
turns_is (meant.Turns n) h = (n, refl)
turns_is (meant.Handle (handle.Term t)) h = absurd (cc h)
turns_is (meant.Handle (handle.TypeId t)) h = absurd (cc h)
turns_is (meant.Handle (handle.Context c)) h = absurd (cc h)
turns_is (meant.Flag b) h = absurd (cc h)
turns_is (meant.Name s) h = absurd (cc h)

-- a mapped option has a value where the option has one
mapped : {A B : Type 0} (f : A → B) (o : Option A) → IsSome o → IsSome (option_map f o)
mapped f (Some x) h = refl
mapped f None h = absurd (cc h)

-- the forms
for_bare : (c : Call) (ms : List Meant) → Fit [] None ms → IsSome (bare c ms)
for_bare c [] h = refl
for_bare c (m ∷ ms) h = absurd h

for_term : (ms : List Meant) → Fit (kind.Term ∷ []) None ms → IsSome (one_term ms)
for_term [] h = absurd h
for_term (m ∷ []) h = let t = term_is m h.0 in rw t.1
for_term (m ∷ n ∷ ms) h = absurd h.1

for_type : (ms : List Meant) → Fit (kind.Type ∷ []) None ms → IsSome (one_type ms)
for_type [] h = absurd h
for_type (m ∷ []) h = let t = type_is m h.0 in rw t.1
for_type (m ∷ n ∷ ms) h = absurd h.1

for_context : (ms : List Meant) → Fit (kind.Context ∷ []) None ms → IsSome (one_context ms)
for_context [] h = absurd h
for_context (m ∷ []) h = let t = context_is m h.0 in rw t.1
for_context (m ∷ n ∷ ms) h = absurd h.1

for_name : (ms : List Meant) → Fit (kind.Name ∷ []) None ms → IsSome (one_name ms)
for_name [] h = absurd h
for_name (m ∷ []) h = let t = name_is m h.0 in rw t.1
for_name (m ∷ n ∷ ms) h = absurd h.1

for_two_terms : (ms : List Meant) → Fit (kind.Term ∷ kind.Term ∷ []) None ms → IsSome (two_terms ms)
for_two_terms [] h = absurd h
for_two_terms (m ∷ []) h = absurd h.1
for_two_terms (m ∷ n ∷ []) h = let t = term_is m h.0 in let u = term_is n h.1.0 in rw (t.1, u.1)
for_two_terms (m ∷ n ∷ o ∷ ms) h = absurd h.1.1

for_named_term : (ms : List Meant) → Fit (kind.Name ∷ kind.Term ∷ []) None ms → IsSome (named_term ms)
for_named_term [] h = absurd h
for_named_term (m ∷ []) h = absurd h.1
for_named_term (m ∷ n ∷ []) h = let t = name_is m h.0 in let u = term_is n h.1.0 in rw (t.1, u.1)
for_named_term (m ∷ n ∷ o ∷ ms) h = absurd h.1.1

for_named_type : (ms : List Meant) → Fit (kind.Name ∷ kind.Type ∷ []) None ms → IsSome (named_type ms)
for_named_type [] h = absurd h
for_named_type (m ∷ []) h = absurd h.1
for_named_type (m ∷ n ∷ []) h = let t = name_is m h.0 in let u = type_is n h.1.0 in rw (t.1, u.1)
for_named_type (m ∷ n ∷ o ∷ ms) h = absurd h.1.1

for_formula : (ms : List Meant) → Fit (kind.Context ∷ kind.Term ∷ []) None ms → IsSome (formula_in ms)
for_formula [] h = absurd h
for_formula (m ∷ []) h = absurd h.1
for_formula (m ∷ n ∷ []) h = let t = context_is m h.0 in let u = term_is n h.1.0 in rw (t.1, u.1)
for_formula (m ∷ n ∷ o ∷ ms) h = absurd h.1.1

for_three_terms : (ms : List Meant) → Fit (kind.Term ∷ kind.Term ∷ kind.Term ∷ []) None ms → IsSome (three_terms ms)
for_three_terms [] h = absurd h
for_three_terms (m ∷ []) h = absurd h.1
for_three_terms (m ∷ n ∷ []) h = absurd h.1.1
for_three_terms (m ∷ n ∷ o ∷ []) h = let t = term_is m h.0 in let u = term_is n h.1.0 in let v = term_is o h.1.1.0 in rw (t.1, u.1, v.1)
for_three_terms (m ∷ n ∷ o ∷ p ∷ ms) h = absurd h.1.1.1

for_terms : (ms : List Meant) → Fit [] (Some kind.Term) ms → IsSome (all_terms ms)
for_terms [] h = refl
for_terms (meant.Handle (handle.Term t) ∷ ms) h = mapped (λ ts. t ∷ ts) (all_terms ms) (for_terms ms h.1)
for_terms (meant.Handle (handle.TypeId t) ∷ ms) h = absurd (cc h.0)
for_terms (meant.Handle (handle.Context c) ∷ ms) h = absurd (cc h.0)
for_terms (meant.Flag b ∷ ms) h = absurd (cc h.0)
for_terms (meant.Name s ∷ ms) h = absurd (cc h.0)
for_terms (meant.Turns n ∷ ms) h = absurd (cc h.0)

for_marked : (ms : List Meant) → Fit [] (Some kind.TypeOrTerm) ms → IsSome (all_marked ms)
for_marked [] h = refl
for_marked (meant.Handle (handle.Term t) ∷ ms) h = mapped (λ rs. marked.Term t ∷ rs) (all_marked ms) (for_marked ms h.1)
for_marked (meant.Handle (handle.TypeId t) ∷ ms) h = mapped (λ rs. marked.TypeId t ∷ rs) (all_marked ms) (for_marked ms h.1)
for_marked (meant.Handle (handle.Context c) ∷ ms) h = absurd (cc h.0)
for_marked (meant.Flag b ∷ ms) h = absurd (cc h.0)
for_marked (meant.Name s ∷ ms) h = absurd (cc h.0)
for_marked (meant.Turns n ∷ ms) h = absurd (cc h.0)

for_roots : (ms : List Meant) → Fit (kind.Flag ∷ []) (Some kind.TypeOrTerm) ms → IsSome (flag_and_marked ms)
for_roots [] h = absurd h
for_roots (meant.Flag b ∷ ms) h = mapped (λ rs. (b, rs)) (all_marked ms) (for_marked ms h.1)
for_roots (meant.Handle x ∷ ms) h = let t = flag_is (meant.Handle x) h.0 in absurd (cc t.1)
for_roots (meant.Name s ∷ ms) h = absurd (cc h.0)
for_roots (meant.Turns n ∷ ms) h = absurd (cc h.0)

for_check : (ms : List Meant) → Fit (kind.Context ∷ kind.Turns ∷ []) None ms → IsSome (context_and_turns ms)
for_check [] h = absurd h
for_check (m ∷ []) h = absurd h.1
for_check (m ∷ n ∷ []) h = let t = context_is m h.0 in let u = turns_is n h.1.0 in rw (t.1, u.1)
for_check (m ∷ n ∷ o ∷ ms) h = absurd h.1.1

for_assumed : (ms : List Meant) → Fit (kind.Context ∷ kind.Turns ∷ []) (Some kind.Term) ms → IsSome (check_and_terms ms)
for_assumed [] h = absurd h
for_assumed (m ∷ []) h = absurd h.1
for_assumed (m ∷ n ∷ ms) h = let t = context_is m h.0 in let u = turns_is n h.1.0 in rw (t.1, u.1) (mapped (λ ts. (t.0, u.0, ts)) (all_terms ms) (for_terms ms h.1.1))

-- each word has its call
for_word : (w : CallWord) (ms : List Meant) → Fit (form_of w).fixed (form_of w).repeated ms → IsSome (call_of w ms)
for_word word.BoolType ms h = for_bare call.BoolType ms h
for_word word.True ms h = for_bare call.True ms h
for_word word.False ms h = for_bare call.False ms h
for_word word.NewUninterpretedTerm ms h = mapped call.NewUninterpretedTerm (one_type ms) (for_type ms h)
for_word word.NewVariable ms h = mapped call.NewVariable (one_type ms) (for_type ms h)
for_word word.Not ms h = mapped call.Not (one_term ms) (for_term ms h)
for_word word.And ms h = mapped call.And (all_terms ms) (for_terms ms h)
for_word word.Or ms h = mapped call.Or (all_terms ms) (for_terms ms h)
for_word word.Xor ms h = mapped call.Xor (all_terms ms) (for_terms ms h)
for_word word.Implies ms h = mapped (λ p. call.Implies p.0 p.1) (two_terms ms) (for_two_terms ms h)
for_word word.Iff ms h = mapped (λ p. call.Iff p.0 p.1) (two_terms ms) (for_two_terms ms h)
for_word word.Ite ms h = mapped (λ p. call.Ite p.0 p.1 p.2) (three_terms ms) (for_three_terms ms h)
for_word word.Eq ms h = mapped (λ p. call.Eq p.0 p.1) (two_terms ms) (for_two_terms ms h)
for_word word.Neq ms h = mapped (λ p. call.Neq p.0 p.1) (two_terms ms) (for_two_terms ms h)
for_word word.Distinct ms h = mapped call.Distinct (all_terms ms) (for_terms ms h)
for_word word.TypeOfTerm ms h = mapped call.TypeOfTerm (one_term ms) (for_term ms h)
for_word word.PpTerm ms h = mapped call.PpTerm (one_term ms) (for_term ms h)
for_word word.IncrefTerm ms h = mapped call.IncrefTerm (one_term ms) (for_term ms h)
for_word word.DecrefTerm ms h = mapped call.DecrefTerm (one_term ms) (for_term ms h)
for_word word.IncrefType ms h = mapped call.IncrefType (one_type ms) (for_type ms h)
for_word word.DecrefType ms h = mapped call.DecrefType (one_type ms) (for_type ms h)
for_word word.NumTerms ms h = for_bare call.NumTerms ms h
for_word word.NumTypes ms h = for_bare call.NumTypes ms h
for_word word.GarbageCollect ms h = mapped (λ p. call.GarbageCollect p.0 p.1) (flag_and_marked ms) (for_roots ms h)
for_word word.SetTermName ms h = mapped (λ p. call.SetTermName p.0 p.1) (named_term ms) (for_named_term ms h)
for_word word.SetTypeName ms h = mapped (λ p. call.SetTypeName p.0 p.1) (named_type ms) (for_named_type ms h)
for_word word.GetTermByName ms h = mapped call.GetTermByName (one_name ms) (for_name ms h)
for_word word.GetTypeByName ms h = mapped call.GetTypeByName (one_name ms) (for_name ms h)
for_word word.GetTermName ms h = mapped call.GetTermName (one_term ms) (for_term ms h)
for_word word.GetTypeName ms h = mapped call.GetTypeName (one_type ms) (for_type ms h)
for_word word.RemoveTermName ms h = mapped call.RemoveTermName (one_name ms) (for_name ms h)
for_word word.RemoveTypeName ms h = mapped call.RemoveTypeName (one_name ms) (for_name ms h)
for_word word.NewContext ms h = for_bare call.NewContext ms h
for_word word.FreeContext ms h = mapped call.FreeContext (one_context ms) (for_context ms h)
for_word word.ResetContext ms h = mapped call.ResetContext (one_context ms) (for_context ms h)
for_word word.Push ms h = mapped call.Push (one_context ms) (for_context ms h)
for_word word.Pop ms h = mapped call.Pop (one_context ms) (for_context ms h)
for_word word.ContextStatus ms h = mapped call.ContextStatus (one_context ms) (for_context ms h)
for_word word.AssertFormula ms h = mapped (λ p. call.AssertFormula p.0 p.1) (formula_in ms) (for_formula ms h)
for_word word.CheckContext ms h = mapped (λ p. call.CheckContext p.0 p.1) (context_and_turns ms) (for_check ms h)
for_word word.CheckContextWithAssumptions ms h = mapped (λ p. call.CheckContextWithAssumptions p.0 p.1 p.2) (check_and_terms ms) (for_assumed ms h)
for_word word.GetUnsatCore ms h = mapped call.GetUnsatCore (one_context ms) (for_context ms h)

-- arguments of a word's form, each of the kind that is taken there, make a call
pub call_made : (f : Written → Option Meant) (w : CallWord) (args : List Written) (ms : List Meant) → HasForm w args → map f args ≡ map Some ms → ((i : ℕ) (m : Meant) → slice_get ms i ≡ Some m → is_of_kind (kind_at w i) m ≡ true) → IsSome (call_of w ms)
call_made f w args ms form all kinds = for_word w ms (fits f (form_of w).fixed (form_of w).repeated args ms form all kinds)

no_value : {A : Type 0} (o : Option A) → IsSome o → o ≡ None → ⊥
no_value None h e = cc h
no_value (Some x) h e = cc e

-- so it can't be that there is none
pub must_be_made : (f : Written → Option Meant) (w : CallWord) (args : List Written) (ms ns os : List Meant) (o : Option Call) → HasForm w args → map f args ≡ map Some ms → ((i : ℕ) (m : Meant) → slice_get ns i ≡ Some m → is_of_kind (kind_at w i) m ≡ true) → ns ≡ ms → os ≡ ms → o ≡ call_of w os → o ≡ None → ⊥
must_be_made f w args ms ns os o form all kinds e g made none =
    no_value (call_of w ms) (call_made f w args ms form all (λ i m h. kinds i m (ap (λ z. slice_get z i) e ∙ h))) (ap (call_of w) (sym g) ∙ sym made ∙ none)
