-- The words of the calls are different.
use Rattle.std.proofs.Common.{◌≡◌, ◌∙◌, ℕ, true, false, cond, Some, List, [], ◌∷◌, refl, sym, ap}
use Rattle.std.specs.Str.{bytes_eq}
use Rattle.std.proofs.lemmas.Slice.Eq.{bytes_eq-Decides}
use Rattle.yices_grammar.specs.Words.{is_among}
use Rattle.call_script.specs.declared.words.CallWord.{CallWord}
use Rattle.call_script.specs.declared.words.CallWord.TheVariants as call
use Rattle.call_script.specs.Calls.{form_of, later_words}
use Rattle.call_script.specs.Judging.{named_among, call_named, all_calls}

named_is : (cs : List CallWord) (w : List ℕ) (c : CallWord) → named_among cs w ≡ Some c → w ≡ (form_of c).text
named_is [] w c h = absurd (cc h)
named_is (d ∷ cs) w c h =
    elim (bytes_eq (form_of d).text w) as (λ v. bytes_eq (form_of d).text w ≡ v → cond v (Some d) (named_among cs w) ≡ Some c → w ≡ (form_of c).text) [
      | true ↦ λ e k. sym ((bytes_eq-Decides (form_of d).text w).0 e) ∙ ap (λ x. (form_of x).text) (some_is d c k)
      | false ↦ λ e k. named_is cs w c k
    ] refl h
  where
    some_is : (x y : CallWord) → Some x ≡ Some y → x ≡ y
    some_is x y k = cc k

-- the word of a call names it
pub call_word : (w : List ℕ) (c : CallWord) → call_named w ≡ Some c → w ≡ (form_of c).text
unfolding call_named
call_word w c h = named_is all_calls w c h

pub word_named : (c : CallWord) → call_named (form_of c).text ≡ Some c
unfolding call_named
word_named call.BoolType = refl
word_named call.True = refl
word_named call.False = refl
word_named call.NewUninterpretedTerm = refl
word_named call.NewVariable = refl
word_named call.Not = refl
word_named call.And = refl
word_named call.Or = refl
word_named call.Xor = refl
word_named call.Implies = refl
word_named call.Iff = refl
word_named call.Ite = refl
word_named call.Eq = refl
word_named call.Neq = refl
word_named call.Distinct = refl
word_named call.TypeOfTerm = refl
word_named call.PpTerm = refl
word_named call.IncrefTerm = refl
word_named call.DecrefTerm = refl
word_named call.IncrefType = refl
word_named call.DecrefType = refl
word_named call.NumTerms = refl
word_named call.NumTypes = refl
word_named call.GarbageCollect = refl
word_named call.SetTermName = refl
word_named call.SetTypeName = refl
word_named call.GetTermByName = refl
word_named call.GetTypeByName = refl
word_named call.GetTermName = refl
word_named call.GetTypeName = refl
word_named call.RemoveTermName = refl
word_named call.RemoveTypeName = refl
word_named call.NewContext = refl
word_named call.FreeContext = refl
word_named call.ResetContext = refl
word_named call.Push = refl
word_named call.Pop = refl
word_named call.ContextStatus = refl
word_named call.AssertFormula = refl
word_named call.CheckContext = refl
word_named call.CheckContextWithAssumptions = refl
word_named call.GetUnsatCore = refl

-- and it is no word of a call that isn't built
pub word_built : (c : CallWord) → is_among later_words (form_of c).text ≡ false
word_built call.BoolType = refl
word_built call.True = refl
word_built call.False = refl
word_built call.NewUninterpretedTerm = refl
word_built call.NewVariable = refl
word_built call.Not = refl
word_built call.And = refl
word_built call.Or = refl
word_built call.Xor = refl
word_built call.Implies = refl
word_built call.Iff = refl
word_built call.Ite = refl
word_built call.Eq = refl
word_built call.Neq = refl
word_built call.Distinct = refl
word_built call.TypeOfTerm = refl
word_built call.PpTerm = refl
word_built call.IncrefTerm = refl
word_built call.DecrefTerm = refl
word_built call.IncrefType = refl
word_built call.DecrefType = refl
word_built call.NumTerms = refl
word_built call.NumTypes = refl
word_built call.GarbageCollect = refl
word_built call.SetTermName = refl
word_built call.SetTypeName = refl
word_built call.GetTermByName = refl
word_built call.GetTypeByName = refl
word_built call.GetTermName = refl
word_built call.GetTypeName = refl
word_built call.RemoveTermName = refl
word_built call.RemoveTypeName = refl
word_built call.NewContext = refl
word_built call.FreeContext = refl
word_built call.ResetContext = refl
word_built call.Push = refl
word_built call.Pop = refl
word_built call.ContextStatus = refl
word_built call.AssertFormula = refl
word_built call.CheckContext = refl
word_built call.CheckContextWithAssumptions = refl
word_built call.GetUnsatCore = refl

pub words_differ : (c d : CallWord) → (form_of c).text ≡ (form_of d).text → c ≡ d
words_differ c d h = some_is c d (sym (word_named c) ∙ ap call_named h ∙ word_named d)
  where
    some_is : (x y : CallWord) → Some x ≡ Some y → x ≡ y
    some_is x y k = cc k
