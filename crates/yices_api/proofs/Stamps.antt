-- Contexts under their handles, and what always holds of an environment.
use Rattle.std.proofs.Common.{◌≡◌, ◌∙◌, ◌<◌, ◌≤◌, ◌==◌, ℕ, zero, suc, cond, [], ◌∷◌, ◌++◌, length, Option, Some, None, is_some, refl, sym, ap, subst, inl, inr, ◌⊎◌, ⊎_elim, append_assoc, append-nil, arith}
use Rattle.std.specs.Prelude.{slice_index_or, slice_set, IsSome}
use Rattle.std.proofs.lemmas.Bool.{cases_eq, eq-eqb, eqb-true, ne_eqb}
use Rattle.std.proofs.lemmas.List.{get_or-set_same, get_or-set_other, set-get_or}
use Rattle.std.proofs.lemmas.Option.{same_Some, cond_some}
use Rattle.term_shapes.specs.declared.handles.Term.{Term}
use Rattle.term_table.specs.World.{World, IsTable}
use Rattle.term_checks.specs.Formulas.{IsFormula, AreFormulas}
use Rattle.context_stack.specs.States.{ContextState, held_terms}
use Rattle.yices_api.specs.declared.handles.ContextId.{ContextId}
use Rattle.yices_api.specs.declared.held.Held.{Held}
use Rattle.yices_api.specs.State.{State, Contexts, context_under, context_in, HasContext, IsEnvironment, OthersStay, Puts, Loses}
use Rattle.yices_api.specs.Steps.{Alters, Finds}
use Rattle.yices_api.proofs.Tables.{Extends}
use Rattle.yices_api.proofs.Staying.{formulas_extend}

-- the state of these parts
abbrev pub state : World → Contexts → ℕ → State
state w cs m = record { table = w; contexts = cs; made = m }

pub context_is : (a b : ContextId) → a.key ≡ b.key → a.stamp ≡ b.stamp → a ≡ b
context_is a b e k =
    let first : a ≡ record { key = b.key; stamp = a.stamp } = ap (λ n. let r : ContextId = record { key = n; stamp = a.stamp } in r) e in
    let second : record { key = b.key; stamp = a.stamp } ≡ b = ap (λ n. let r : ContextId = record { key = b.key; stamp = n } in r) k in
    first ∙ second

-- the two are one, or they differ in key or stamp
pub context_cases : (a b : ContextId) → (a ≡ b) ⊎ (a ≡ b → ⊥)
context_cases a b = ⊎_elim
    (λ (e : a.key ≡ b.key). ⊎_elim
    (λ (k : a.stamp ≡ b.stamp). inl (context_is a b e k))
    (λ d. inr (λ (q : a ≡ b). d (ap (λ (z : ContextId). z.stamp) q)))
    (cases_eq a.stamp b.stamp))
    (λ d. inr (λ (q : a ≡ b). d (ap (λ (z : ContextId). z.key) q)))
    (cases_eq a.key b.key)

-- what is under its own stamp, and under another
pub under_own : (n : ℕ) (h : Held) → h.stamp ≡ n → context_under n (Some h) ≡ Some h.context
under_own n h e = ap (λ b. cond b (Some h.context) None) (eq-eqb h.stamp n e)

pub under_other : (n : ℕ) (h : Held) → (n ≡ h.stamp → ⊥) → context_under n (Some h) ≡ None
under_other n h d = ap (λ b. cond b (Some h.context) None) (ne_eqb h.stamp n (λ e. d (sym e)))

-- what is held under a stamp
pub held_under : (n : ℕ) (o : Option Held) (x : ContextState) → context_under n o ≡ Some x → (h : Held) × (o ≡ Some h) × (h.stamp ≡ n) × (h.context ≡ x)
held_under n None x e = absurd (cc e)
held_under n (Some h) x e = let r = cond_some (h.stamp == n) h.context x e in (h, refl, eqb-true h.stamp n r.0, r.1)

-- a key holds something else now: the others stay, where nothing else was under it
pub others_stay : (old new : Contexts) (c : ContextId) → ((k : ℕ) → (k ≡ c.key → ⊥) → slice_index_or new k None ≡ slice_index_or old k None) → ((n : ℕ) → (n ≡ c.stamp → ⊥) → context_under n (slice_index_or old c.key None) ≡ None) → ((n : ℕ) → (n ≡ c.stamp → ⊥) → context_under n (slice_index_or new c.key None) ≡ None) → OthersStay old new c
others_stay old new c stay was is other d = ⊎_elim
    (λ (e : other.key ≡ c.key).
    let ne : other.stamp ≡ c.stamp → ⊥ = λ k. d (context_is other c e k) in
    ap (λ k. context_under other.stamp (slice_index_or new k None)) e ∙ is other.stamp ne ∙ sym (was other.stamp ne) ∙ sym (ap (λ k. context_under other.stamp (slice_index_or old k None)) e))
    (λ ne. ap (context_under other.stamp) (stay other.key ne))
    (cases_eq other.key c.key)

-- a key that holds something is one
pub key_within : (cs : Contexts) (k : ℕ) (h : Held) → slice_index_or cs k None ≡ Some h → k < length cs
key_within [] k h at = absurd (cc at)
key_within (o ∷ cs) zero h at = omega arith
key_within (o ∷ cs) (suc k) h at = omega (arith, key_within cs k h at)

-- what the key of a live context holds
module _ (cs : Contexts) (c : ContextId) (h : Held) (at : slice_index_or cs c.key None ≡ Some h) (live : IsSome (context_in cs c)) where
  own_stamp : h.stamp ≡ c.stamp
  own_stamp = found (context_under c.stamp (Some h)) refl (subst (λ o. IsSome (context_under c.stamp o)) at live)
    where
      found : (o : Option ContextState) → context_under c.stamp (Some h) ≡ o → IsSome o → h.stamp ≡ c.stamp
      found None e k = absurd (cc k)
      found (Some x) e k = eqb-true h.stamp c.stamp (cond_some (h.stamp == c.stamp) h.context x e).0

  pub own_context : HasContext cs c h.context
  own_context = ap (context_under c.stamp) at ∙ under_own c.stamp h own_stamp

  pub finds : (how : ContextState → Type 0) → how h.context → Finds how c cs
  finds how so = record { context = h.context; has = own_context; so = so }

  -- what is found of it is so
  pub found_here : (how : ContextState → Type 0) → Finds how c cs → how h.context
  found_here how found = subst how (same_Some found.context h.context (sym found.has ∙ own_context)) found.so

  -- it is written
  pub altered : (how : ContextState → ContextState → Type 0) (x : ContextState) → how h.context x → Alters how c cs (slice_set cs c.key (Some (record { stamp = h.stamp; context = x })))
  altered how x changes = record {
    before = h.context;
    was = own_context;
    after = x;
    changed = changes;
    puts = record {
      here = ap (context_under c.stamp) here ∙ under_own c.stamp now own_stamp;
      others = others_stay cs (slice_set cs c.key (Some now)) c (λ k d. get_or-set_other cs c.key k (Some now) None d)
          (λ n d. ap (context_under n) at ∙ under_other n h (λ e. d (e ∙ own_stamp)))
          (λ n d. ap (context_under n) here ∙ under_other n now (λ e. d (e ∙ own_stamp)));
    };
  }
    where
      now : Held
      now = record { stamp = h.stamp; context = x }

      here : slice_index_or (slice_set cs c.key (Some now)) c.key None ≡ Some now
      here = get_or-set_same cs c.key (Some now) None (key_within cs c.key h at)

  -- or written back
  pub written_back : (x : ContextState) → x ≡ h.context → slice_set cs c.key (Some (record { stamp = h.stamp; context = x })) ≡ cs
  written_back x e =
      ap (λ (z : ContextState). let held : Held = record { stamp = h.stamp; context = z } in slice_set cs c.key (Some held)) e ∙ ap (slice_set cs c.key) (sym at) ∙ set-get_or cs c.key None

-- the key of a live context holds something
pub no_key : (cs : Contexts) (c : ContextId) → slice_index_or cs c.key None ≡ None → IsSome (context_in cs c) → ⊥
no_key cs c at live = cc (sym live ∙ ap (λ o. is_some (context_under c.stamp o)) at)

-- what a live context holds is formulas
pub found_formulas : (w : World) (cs : Contexts) (m : ℕ) (c : ContextId) → IsEnvironment (state w cs m) → IsSome (context_in cs c) → Finds (λ x. AreFormulas w (held_terms x)) c cs
found_formulas w cs m c env live = by (context_in cs c) refl live
  where
    by : (o : Option ContextState) → context_in cs c ≡ o → IsSome o → Finds (λ x. AreFormulas w (held_terms x)) c cs
    by None e h = absurd (cc h)
    by (Some x) e h = record { context = x; has = e; so = env.formulas c x e }

-- no context is there at first
pub empty_environment : (w : World) (cs : Contexts) → cs ≡ [] → IsEnvironment (state w cs 0)
empty_environment w cs e = record {
  formulas = λ c x has. absurd (cc (ap (λ z. context_in z c) (sym e) ∙ has));
  given = λ c x has. absurd (cc (ap (λ z. context_in z c) (sym e) ∙ has));
  few = omega arith;
}

-- what always holds stays so where a context changes
module _ (w : World) (old new : Contexts) (m n : ℕ) (env : IsEnvironment (state w old m)) where
  pub put_environment : (c : ContextId) (x : ContextState) → Puts old new c x → AreFormulas w (held_terms x) → c.stamp < n → m ≤ n → n ≤ 4294967296 → IsEnvironment (state w new n)
  put_environment c x puts formulas below up few = record { formulas = formulas_in; given = given_in; few = few }
    where
      is : (a : ContextId) (y : ContextState) → HasContext new a y → a ≡ c → y ≡ x
      is a y has e = same_Some y x (sym has ∙ ap (context_in new) e ∙ puts.here)

      formulas_in : (a : ContextId) (y : ContextState) → HasContext new a y → AreFormulas w (held_terms y)
      formulas_in a y has = ⊎_elim
          (λ (e : a ≡ c). subst (λ (z : ContextState). AreFormulas w (held_terms z)) (sym (is a y has e)) formulas)
          (λ d. env.formulas a y (sym (puts.others a d) ∙ has))
          (context_cases a c)

      given_in : (a : ContextId) (y : ContextState) → HasContext new a y → a.stamp < n
      given_in a y has = ⊎_elim
          (λ (e : a ≡ c). omega (arith, below, ap (λ (z : ContextId). z.stamp) e))
          (λ d. omega (arith, up, env.given a y (sym (puts.others a d) ∙ has)))
          (context_cases a c)

  pub lost_environment : (c : ContextId) → Loses old new c → n ≡ m → IsEnvironment (state w new n)
  lost_environment c loses e = record { formulas = λ a y has. env.formulas a y (back a y has); given = λ a y has. omega (arith, e, env.given a y (back a y has)); few = omega (arith, e, env.few) }
    where
      back : (a : ContextId) (y : ContextState) → HasContext new a y → HasContext old a y
      back a y has = ⊎_elim
          (λ (q : a ≡ c). absurd (cc (sym has ∙ ap (context_in new) q ∙ loses.gone)))
          (λ d. sym (loses.others a d) ∙ has)
          (context_cases a c)

-- and where the table changes, and what was live stays
pub extended_environment : (w x : World) (cs : Contexts) (m : ℕ) → IsTable w → IsEnvironment (state w cs m) → Extends w x → IsEnvironment (state x cs m)
extended_environment w x cs m table env ext = record {
  formulas = λ c y has. formulas_extend w x table ext (held_terms y) (env.formulas c y has);
  given = env.given;
  few = env.few;
}
