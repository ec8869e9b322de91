-- Why a clause that analysis derives is new.
use Rattle.std.proofs.Common.{List, ◌≡◌, ◌∙◌, inl, inr, ⊎_elim, refl, sym, subst}
use Rattle.clause_logic.specs.declared.Lit.{Lit}
use Rattle.clause_logic.specs.Clauses.{opposite, In, Reached, given, unit, Clash, Others, New, Same, Complete}
use Rattle.clause_logic.proofs.Lits.{lit_cases}

module _ (clauses : List Lit → Type 0) (P : Lit → Type 0) (consistent : (l : Lit) → P l → P (opposite l) → ⊥) (complete : Complete P clauses) where
  -- a complete set is closed under unit propagation
  closed : (c : List Lit) (l : Lit) → clauses c → In l c → ((m : Lit) → In m c → (m ≡ l → ⊥) → P (opposite m)) → P l
  closed c l d i others =
      ⊎_elim
      (λ t. ⊎_elim (λ e. subst P e t.2) (λ n. absurd (consistent t.0 t.2 (others t.0 t.1 n))) (lit_cases t.0 l))
      (λ q. ⊎_elim
      (λ e. absurd (q.6 (others q.1 q.3 (λ f. q.4 (e ∙ sym f)))))
      (λ n. absurd (q.5 (others q.0 q.2 n)))
      (lit_cases q.0 l))
      (complete c d)

  no_conflict : (c : List Lit) → clauses c → ((m : Lit) → In m c → P (opposite m)) → ⊥
  no_conflict c d others =
      ⊎_elim (λ t. consistent t.0 t.2 (others t.0 t.1)) (λ q. q.5 (others q.0 q.2)) (complete c d)

  pub reached_in : (start : Lit → Type 0) → ((l : Lit) → start l → P l) → (l : Lit) → Reached clauses start l → P l
  reached_in start inside x (given l s) = inside l s
  reached_in start inside x (unit c l d i others) =
      closed c l d i (λ m k n. reached_in start inside (opposite m) (others m k n))

  pub no_clash : (start : Lit → Type 0) → ((l : Lit) → start l → P l) → Clash clauses start → ⊥
  no_clash start inside clash =
      ⊎_elim
      (λ t. consistent t.0 (reached_in start inside t.0 t.1) (reached_in start inside (opposite t.0) t.2))
      (λ t. no_conflict t.0 t.1 (λ m k. reached_in start inside (opposite m) (t.2 m k)))
      clash

  -- the main theorem: all other literals false in a complete set, and one open there
  pub new_clause : (c : List Lit) (l : Lit) → In l c → ((m : Lit) → In m c → (m ≡ l → ⊥) → P (opposite m)) → (P l → ⊥) → (P (opposite l) → ⊥) → New clauses c
  new_clause c l i others open_true open_false =
      let inside : (m : Lit) → Others c l m → P m = λ m o. subst P (sym o.3) (others o.0 o.1 o.2) in
      (l, i, no_clash (Others c l) inside, (λ r. open_true (reached_in (Others c l) inside l r)), (λ r. open_false (reached_in (Others c l) inside (opposite l) r)))

-- unit propagation over fewer clauses reaches less
pub reached_fewer : (less more : List Lit → Type 0) (start : Lit → Type 0) → ((c : List Lit) → less c → more c) → (l : Lit) → Reached less start l → Reached more start l
reached_fewer less more start sub x (given l s) = given l s
reached_fewer less more start sub x (unit c l d i others) =
    unit c l (sub c d) i (λ m k n. reached_fewer less more start sub (opposite m) (others m k n))

-- what is new over more clauses is new over fewer
pub new_fewer : (less more : List Lit → Type 0) (c : List Lit) → ((d : List Lit) → less d → more d) → New more c → New less c
new_fewer less more c sub (l, i, clash, reaches, misses) =
    let go : (x : Lit) → Reached less (Others c l) x → Reached more (Others c l) x = reached_fewer less more (Others c l) sub in (
      l,
      i,
      (λ t. clash (⊎_elim (λ a. inl (a.0, go a.0 a.1, go (opposite a.0) a.2)) (λ a. inr (a.0, sub a.0 a.1, (λ m k. go (opposite m) (a.2 m k)))) t)),
      (λ r. reaches (go l r)),
      (λ r. misses (go (opposite l) r)),
    )

-- what is new differs from each clause that there is
pub new_differs : (clauses : List Lit → Type 0) (c d : List Lit) → New clauses c → clauses d → Same d c → ⊥
new_differs clauses c d (l, i, clash, reaches, misses) there same =
    reaches (unit d l there ((same l).1 i) (λ m k n. given (opposite m) (m, (same m).0 k, n, refl)))
