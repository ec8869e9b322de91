-- Each call as written asks one thing, and each reply has one text.
use Rattle.std.proofs.Common.{◌≡◌, ◌≢◌, ◌∙◌, ◌++◌, ◌<◌, ◌≤◌, ◌+◌, ℕ, zero, suc, Bool, true, false, List, [], ◌∷◌, map, Option, Some, None, refl, sym, ap, subst, ◌⊎◌, inl, inr, ⊎_elim, arith}
use Rattle.std.specs.Prelude.{IsSome, slice_get, codes}
use Rattle.std.proofs.lemmas.Bool.{cases_lt}
use Rattle.term_shapes.specs.declared.handles.Term.{Term}
use Rattle.context_stack.specs.declared.errors.Status.TheVariants as status
use Rattle.term_table.specs.World.{World, node_at}
use Rattle.term_texts.specs.TermTexts.{Writes}
use Rattle.call_script.specs.declared.words.CallWord.{CallWord}
use Rattle.call_script.specs.Calls.{kind_at}
use Rattle.call_script.specs.Lines.{Written}
use Rattle.yices_api.specs.declared.calls.Call.{Call}
use Rattle.yices_api.specs.declared.replies.CallError.{CallError}
use Rattle.yices_api.specs.declared.replies.CallError.TheVariants as refusal
use Rattle.yices_api.specs.declared.replies.Reply.{Reply}
use Rattle.yices_api.specs.declared.replies.Reply.TheVariants as reply
use Rattle.yices_api.specs.Printing.{IsPrintable, IsRefusalLive}
use Rattle.yices_api.specs.State.{State}
use Rattle.script_session.specs.declared.meant.Gave.{Gave}
use Rattle.script_session.specs.declared.meant.Meant.{Meant}
use Rattle.script_session.specs.CallTable.{call_of}
use Rattle.script_session.specs.Asking.{meaning, AllMean, is_of_kind, IsWithoutResult, IsFirstOfWrongKind, IsOfWrongKind, IsRefusedAsWritten, AsksFor}
use Rattle.script_session.specs.Replies.{Prints, PrintsRefusal}

-- lists of values that are one as lists of options
same_some : {A : Type 0} (xs ys : List A) → map Some xs ≡ map Some ys → xs ≡ ys
same_some [] [] e = refl
same_some [] (y ∷ ys) e = absurd (cc e)
same_some (x ∷ xs) [] e = absurd (cc e)
same_some (x ∷ xs) (y ∷ ys) e = both (parts e).0 (same_some xs ys (parts e).1)
  where
    parts : Some x ∷ map Some xs ≡ Some y ∷ map Some ys → (x ≡ y) × (map Some xs ≡ map Some ys)
    parts q = (cc q, cc q)

    both : x ≡ y → xs ≡ ys → x ∷ xs ≡ y ∷ ys
    both p q = cc (p, q)

-- each item has a value where all have
all_have : {A B : Type 0} (f : A → Option B) (xs : List A) (ys : List B) → map f xs ≡ map Some ys → (i : ℕ) (x : A) → slice_get xs i ≡ Some x → f x ≡ None → ⊥
all_have f [] ys e i x at none = cc at
all_have f (z ∷ xs) [] e i x at none = cc e
all_have f (z ∷ xs) (y ∷ ys) e zero x at none = wrong (head e) (same at)
  where
    head : f z ∷ map f xs ≡ Some y ∷ map Some ys → f z ≡ Some y
    head q = cc q

    same : Some z ≡ Some x → z ≡ x
    same q = cc q

    wrong : f z ≡ Some y → z ≡ x → ⊥
    wrong p q = cc (p, q, none)
all_have f (z ∷ xs) (y ∷ ys) e (suc i) x at none = all_have f xs ys (tail e) i x at none
  where
    tail : f z ∷ map f xs ≡ Some y ∷ map Some ys → map f xs ≡ map Some ys
    tail q = cc q

-- two least indices are one
least : (i j : ℕ) → (i < j → ⊥) → (j < i → ⊥) → i ≡ j
least i j a b = ⊎_elim (λ h. absurd (a h)) (λ h. ⊎_elim (λ k. absurd (b k)) (λ k. omega arith) (cases_lt j i)) (cases_lt i j)

is_some_not : {A : Type 0} (o : Option A) → o ≡ None → IsSome o → ⊥
is_some_not None e h = cc h
is_some_not (Some x) e h = cc e

module _ (given : List Gave) (w : CallWord) (args : List Written) where
  one_without : (p q : ℕ) → IsWithoutResult given args p → IsWithoutResult given args q → p ≡ q
  one_without p q a b = a.counted ∙ ap (λ n. n + 1) (least a.index b.index (λ h. is_some_not _ a.none (b.earlier a.index a.argument h a.there)) (λ h. is_some_not _ b.none (a.earlier b.index b.argument h b.there))) ∙ sym b.counted

  without_or_all : (p : ℕ) (ms : List Meant) → IsWithoutResult given args p → AllMean given args ms → ⊥
  without_or_all p ms a all = all_have (meaning given) args ms all a.index a.argument a.there a.none

  one_meaning : (ms ns : List Meant) → AllMean given args ms → AllMean given args ns → ms ≡ ns
  one_meaning ms ns a b = same_some ms ns (sym a ∙ b)

  first_before : (ms : List Meant) (i j : ℕ) → IsFirstOfWrongKind w ms i → IsFirstOfWrongKind w ms j → i < j → ⊥
  first_before ms i j a b h = cc (sym a.wrong ∙ b.earlier i a.argument h a.there)

  one_wrong : (p q : ℕ) → IsOfWrongKind given w args p → IsOfWrongKind given w args q → p ≡ q
  one_wrong p q a b =
      let same : b.meanings ≡ a.meanings = one_meaning b.meanings a.meanings b.all a.all in
      let first : IsFirstOfWrongKind w a.meanings b.index = subst (λ ms. IsFirstOfWrongKind w ms b.index) same b.first in
      a.counted ∙ ap (λ n. n + 1) (least a.index b.index (first_before a.meanings a.index b.index a.first first) (first_before a.meanings b.index a.index first a.first)) ∙ sym b.counted

  -- one refusal
  pub one_refusal : (d e : CallError) → IsRefusedAsWritten given w args d → IsRefusedAsWritten given w args e → d ≡ e
  one_refusal (refusal.NoResult p) (refusal.NoResult q) a b = ap refusal.NoResult (one_without p q a b)
  one_refusal (refusal.NoResult p) (refusal.WrongKind q) a b = absurd (without_or_all p b.meanings a b.all)
  one_refusal (refusal.WrongKind p) (refusal.NoResult q) a b = absurd (without_or_all q a.meanings b a.all)
  one_refusal (refusal.WrongKind p) (refusal.WrongKind q) a b = ap refusal.WrongKind (one_wrong p q a b)
  one_refusal (refusal.NoResult p) e a b = absurd b
  one_refusal (refusal.WrongKind p) e a b = absurd b
  one_refusal d e a b = absurd a

  -- one call
  pub one_call : (c d : Call) → AsksFor given w args c → AsksFor given w args d → c ≡ d
  one_call c d a b = same_call (sym a.is ∙ ap (call_of w) (one_meaning a.meanings b.meanings a.fit.all b.fit.all) ∙ b.is)
    where
      same_call : Some c ≡ Some d → c ≡ d
      same_call q = cc q

  -- a refusal or a call, not both
  pub not_both : (e : CallError) (c : Call) → IsRefusedAsWritten given w args e → AsksFor given w args c → ⊥
  not_both (refusal.NoResult p) c a b = without_or_all p b.meanings a b.fit.all
  not_both (refusal.WrongKind p) c a b =
      let same : a.meanings ≡ b.meanings = one_meaning a.meanings b.meanings a.all b.fit.all in
      let first : IsFirstOfWrongKind w b.meanings a.index = subst (λ ms. IsFirstOfWrongKind w ms a.index) same a.first in
      cc (sym first.wrong ∙ b.fit.kinds a.index first.argument first.there)
  not_both e c a b = absurd a

-- a refusal's text is one, where a term's is
module _ (w : World) (one : (t : Term) (x y : List ℕ) → Writes w t x → Writes w t y → x ≡ y) where
  refusal_text : (e : CallError) (x y : List ℕ) → PrintsRefusal w e x → PrintsRefusal w e y → x ≡ y
  refusal_text (refusal.HasVariable v) x y a b = a.2 ∙ ap (λ z. codes "HasVariable " ++ z) (one v a.0 b.0 a.1 b.1) ∙ sym b.2
  refusal_text e x y a b = a ∙ sym b

  -- a reply's text is one
  pub reply_text : (r : Reply) (x y : List ℕ) → Prints w r x → Prints w r y → x ≡ y
  reply_text (reply.Refused e) x y a b = a.2 ∙ ap (λ z. codes "refused " ++ z) (refusal_text e a.0 b.0 a.1 b.1) ∙ sym b.2
  reply_text (reply.Flag true) x y a b = a ∙ sym b
  reply_text (reply.Flag false) x y a b = a ∙ sym b
  reply_text (reply.Status status.Idle) x y a b = a ∙ sym b
  reply_text (reply.Status status.Sat) x y a b = a ∙ sym b
  reply_text (reply.Status status.Unsat) x y a b = a ∙ sym b
  reply_text (reply.Status status.Unknown) x y a b = a ∙ sym b
  reply_text reply.NoMemory x y a b = absurd a
  reply_text r x y a b = a ∙ sym b

-- where what a reply names is live, it has a text, unless memory was refused
module _ (s : State) (has : (t : Term) → IsSome (node_at s.table t) → (text : List ℕ) × Writes s.table t text) where
  refusal_has : (e : CallError) → IsRefusalLive s.table e → (text : List ℕ) × PrintsRefusal s.table e text
  refusal_has (refusal.HasVariable v) live = let name = has v live in (codes "HasVariable " ++ name.0, (name.0, name.1, refl))
  refusal_has e live = (_, refl)

  pub reply_has : (r : Reply) → IsPrintable s r → (r ≡ reply.NoMemory → ⊥) → (text : List ℕ) × Prints s.table r text
  reply_has (reply.Refused e) live some = let values = refusal_has e live in (codes "refused " ++ values.0, (values.0, values.1, refl))
  reply_has (reply.Flag true) live some = (_, refl)
  reply_has (reply.Flag false) live some = (_, refl)
  reply_has (reply.Status status.Idle) live some = (_, refl)
  reply_has (reply.Status status.Sat) live some = (_, refl)
  reply_has (reply.Status status.Unsat) live some = (_, refl)
  reply_has (reply.Status status.Unknown) live some = (_, refl)
  reply_has reply.NoMemory live some = absurd (some refl)
  reply_has r live some = (_, refl)
