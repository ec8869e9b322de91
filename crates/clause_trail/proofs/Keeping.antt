-- Why a derived clause can be kept where the search goes back to.
use Rattle.std.proofs.Common.{ℕ, ◌<◌, ◌≤◌, ◌+◌, ◌-◌, ◌++◌, List, [], ◌∷◌, ◌≡◌, ◌∙◌, ◌⊎◌, Option, Some, None, inl, inr, ⊎_elim, refl, sym, ap, subst, length, arith, get_or, min, take, Bool}
use Rattle.std.specs.Prelude.{slice_get}
use Rattle.std.proofs.lemmas.Option.{same_Some, slice_get_within, get_or_from_slice_get}
use Rattle.std.proofs.lemmas.List.{take_at}
use Rattle.std.proofs.lemmas.Bool.{cases_lt}
use Rattle.clause_logic.specs.declared.Lit.{Lit}
use Rattle.clause_logic.specs.Clauses.{opposite, In}
use Rattle.clause_logic.specs.Trails.{FalseBefore}
use Rattle.clause_trail.specs.Words.{Has, False, Open}
use Rattle.clause_trail.specs.View.{Lists, Sound}
use Rattle.clause_trail.specs.Changes.{Backed, Asserts, LastStart}
use Rattle.clause_trail.specs.Levels.{IsTop}
use Rattle.clause_logic.proofs.Gets.{get_in, push_here, length_push}
use Rattle.clause_logic.proofs.Lits.{opposite_same}
use Rattle.clause_logic.proofs.Members.{get_from_in, in_from_get, in_last, in_push, in_push_cases}
use Rattle.clause_trail.proofs.Settling.{front_keeps}

pub lower_is : (clause lower : List Lit) (l : Lit) (n : ℕ) → clause ≡ lower ++ l ∷ [] → n ≡ length clause → take (n - 1) clause ≡ lower
lower_is clause lower l n is e =
    ap (take (n - 1)) is ∙ take_at lower (l ∷ []) (n - 1) (omega (arith, e, ap length is, length_push lower l))

pub last_is : (clause lower : List Lit) (l d : Lit) (n : ℕ) → clause ≡ lower ++ l ∷ [] → n ≡ length clause → get_or clause (n - 1) d ≡ l
last_is clause lower l d n is e =
    let at : n - 1 ≡ length lower = omega (arith, e, ap length is, length_push lower l) in
    get_or_from_slice_get clause (n - 1) l d (ap (slice_get clause) at ∙ ap (λ (c : List Lit). slice_get c (length lower)) is ∙ push_here lower l)

pub some_length : (clause lower : List Lit) (l : Lit) → clause ≡ lower ++ l ∷ [] → 0 < length clause
some_length clause lower l is = omega (arith, ap length is, length_push lower l)

module _ (t u : Lists) (s top level : ℕ) (lower clause : List Lit) (first second : Lit) (sound : Sound t) (backed : Backed t u level) (count : length u.starts ≡ min level (length t.starts))
    (last : LastStart t s) (is : clause ≡ lower ++ first ∷ []) (low : (m : Lit) → In m lower → FalseBefore t.order s m) (high : (p : ℕ) × (s ≤ p) × (slice_get t.order p ≡ Some (opposite first)))
    (so : IsTop t.order s lower top) (none : top ≡ 0 → second ≡ first) (some : (q : ℕ) → q + 1 ≡ top → slice_get t.order q ≡ Some (opposite second))
    (bound : level ≤ length t.starts) (below : (k n : ℕ) → k < level → slice_get t.starts k ≡ Some n → n < top) (above : (x : ℕ) → slice_get t.starts level ≡ Some x → top ≤ x) where
  -- a level is taken away
  small : level < length t.starts
  small = ⊎_elim
      (λ h. h)
      (λ h. absurd (omega (arith, so.bound, below last.0 s (omega (arith, h, last.2)) last.1)))
      (cases_lt level (length t.starts))

  next : (x : ℕ) × (slice_get t.starts level ≡ Some x)
  next = get_in t.starts level small

  left : length u.order ≡ next.0
  left = backed.front next.0 (ap (slice_get t.starts) (let e : length u.starts ≡ level = omega (arith, count, small) in e) ∙ next.1)

  next_early : next.0 ≤ s
  next_early = sound.base.starts_rise level last.0 next.0 s (omega (arith, small, last.2)) next.1 last.1

  long : top ≤ length u.order
  long = omega (arith, left, above next.0 next.1)

  one_place : (p q : ℕ) (a b : Lit) → slice_get t.order p ≡ Some a → slice_get t.order q ≡ Some b → a.var ≡ b.var → p ≡ q
  one_place p q a b h k e = sound.base.once p q a b h k e

  lower_false : (m : Lit) → In m lower → False u.values m
  lower_false m i =
      let f = so.before m i in
      backed.sound.base.true_there f.0 (opposite m) (front_keeps t u backed.shrunk f.0 (opposite m) (omega (arith, f.1, long)) f.2)

  first_known : first.var < length u.values
  first_known = omega (arith, backed.shrunk.vars, slice_get_within t.values first.var _ (sound.base.true_there high.0 (opposite first) high.2))

  free : Open u.values first
  free =
      let x = get_in u.values first.var first_known in
      cases x.0 x.1
    where
      cases : (o : Option Bool) → slice_get u.values first.var ≡ Some o → Open u.values first
      cases None h = h
      cases (Some b) h =
          let p = backed.sound.base.placed first.var b h in
          let e : p.0 ≡ high.0 = one_place p.0 high.0 _ (opposite first) (backed.shrunk.order p.0 _ p.1) high.2 refl in
          absurd (omega (arith, e, high.1, slice_get_within u.order p.0 _ p.1, left, next_early))

  clause_cases : (m : Lit) → Has clause m → (first ≡ m) ⊎ In m lower
  clause_cases m h = in_push_cases lower first m (subst (In m) is (in_from_get clause h.at m h.is))

  known : (m : Lit) → Has clause m → m.var < length u.values
  known m h =
      ⊎_elim
      (λ e. subst (λ (x : Lit). x.var < length u.values) e first_known)
      (λ i. slice_get_within u.values m.var _ (lower_false m i))
      (clause_cases m h)

  has : (m : Lit) → In m (lower ++ first ∷ []) → Has clause m
  has m i = let g = get_from_in clause m (subst (In m) (sym is) i) in record { at = g.0; is = g.1 }

  -- the second watched literal
  newest : (top ≡ 0) ⊎ (In second lower × ((q : ℕ) × (q + 1 ≡ top) × (slice_get t.order q ≡ Some (opposite second))))
  newest =
      ⊎_elim
      inl
      (λ r.
      let e : r.0 ≡ second = opposite_same r.0 second (same_Some (opposite r.0) (opposite second) (sym r.3 ∙ some r.1 r.4)) in
      inr (subst (λ (x : Lit). In x lower) e r.2, (r.1, r.4, some r.1 r.4)))
      so.highest

  pub keep_asserts : Asserts u clause (record { first = first; second = second })
  keep_asserts = record {
    formed = record {
      known = known;
      first = has first (in_last lower first);
      second = ⊎_elim (λ z. subst (Has clause) (sym (none z)) (has first (in_last lower first))) (λ n. has second (in_push lower first second n.0)) newest;
    };
    free = free;
    others = λ m h apart. ⊎_elim (λ e. absurd (apart (sym e))) (lower_false m) (clause_cases m h);
    latest = λ n x at.
        let old : slice_get t.starts n ≡ Some x = backed.starts n x at in
        let under : x < top = below n x (omega (arith, count, small, slice_get_within u.starts n x at)) old in
        ⊎_elim
        (λ z. absurd (omega (arith, z, under)))
        (λ r. let q = r.1 in (
          (λ e. let same : q.0 ≡ high.0 = one_place q.0 high.0 (opposite second) (opposite first) q.2 high.2 (ap (λ (l : Lit). l.var) (sym e)) in omega (arith, same, q.1, so.bound, high.1)),
          (λ b. let same : b.at ≡ q.0 = one_place b.at q.0 (opposite second) (opposite second) (backed.shrunk.order b.at (opposite second) b.is) q.2 refl in omega (arith, same, b.below, under, q.1)),
        ))
        newest;
  }
