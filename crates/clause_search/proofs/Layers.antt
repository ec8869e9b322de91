-- Contents put on one another and taken away.
use Rattle.std.proofs.Common.{ℕ, zero, suc, ◌<◌, ◌≤◌, ◌++◌, List, [], ◌∷◌, ◌≡◌, ◌∙◌, Some, ⊎_elim, refl, sym, ap, subst, length, arith, take, map, Bool}
use Rattle.std.specs.Prelude.{slice_get}
use Rattle.std.proofs.lemmas.List.{take-append-le, length-take}
use Rattle.std.proofs.lemmas.Option.{slice_get_within}
use Rattle.clause_logic.specs.declared.Lit.{Lit}
use Rattle.clause_logic.specs.Clauses.{In}
use Rattle.clause_logic.proofs.Gets.{push_here, push_old, push_cases, length_push}
use Rattle.clause_search.specs.declared.search.Mark.{Mark}
use Rattle.clause_search.specs.Content.{Content, Stacked, AllKnown}
use Rattle.clause_search.specs.Layout.{saved_at, IsLaidOut}
use Rattle.clause_search.proofs.Takes.{take_whole}

map_same : (f g : Mark → Content) (ms : List Mark) → ((i : ℕ) (m : Mark) → slice_get ms i ≡ Some m → f m ≡ g m) → map f ms ≡ map g ms
map_same f g [] same = refl
map_same f g (m ∷ ms) same = ap (λ (c : Content). c ∷ map f ms) (same zero m refl) ∙ ap (λ (cs : List Content). g m ∷ cs) (map_same f g ms (λ i x at. same (suc i) x at))

map_push : (f : Mark → Content) (ms : List Mark) (m : Mark) → map f (ms ++ m ∷ []) ≡ map f ms ++ f m ∷ []
map_push f [] m = refl
map_push f (x ∷ ms) m = ap (λ (cs : List Content). f x ∷ cs) (map_push f ms m)

abbrev content : ℕ → List (List Lit) → Content
content n cs = record { vars = n; clauses = cs }

abbrev stacked : ℕ → List (List Lit) → List Content → Stacked
stacked n cs saved = record { content = content n cs; saved = saved }

known_more : (n : ℕ) (cs : List (List Lit)) (lits : List Lit) → AllKnown n cs → ((l : Lit) → In l lits → l.var < n) → AllKnown n (cs ++ lits ∷ [])
known_more n cs lits known new c xs l at i =
    ⊎_elim (λ e. new l (subst (In l) (sym e.1) i)) (λ k. known c xs l k i) (push_cases cs lits xs c at)

-- a clause more
module _ (n : ℕ) (cs : List (List Lit)) (ms : List Mark) (lits : List Lit) (laid : IsLaidOut n cs ms) where
  take_same : (i : ℕ) (m : Mark) → slice_get ms i ≡ Some m → take m.clauses (cs ++ lits ∷ []) ≡ take m.clauses cs
  take_same i m at = take-append-le m.clauses cs (lits ∷ []) (laid.clauses_below i m at)

  pub added_laid : (new : List (List Lit)) → new ≡ cs ++ lits ∷ [] → ((l : Lit) → In l lits → l.var < n) → IsLaidOut n new ms
  added_laid new is known = subst (λ (xs : List (List Lit)). IsLaidOut n xs ms) (sym is) (record {
    known = known_more n cs lits laid.known known;
    vars_below = laid.vars_below;
    clauses_below = λ i m at. omega (arith, laid.clauses_below i m at, length_push cs lits);
    known_at = λ i m at. subst (AllKnown m.vars) (sym (take_same i m at)) (laid.known_at i m at);
    vars_rise = laid.vars_rise;
    clauses_rise = laid.clauses_rise;
  })

  pub added_stacked : (new : List (List Lit)) (old : Stacked) → new ≡ cs ++ lits ∷ [] → stacked n cs (map (saved_at cs) ms) ≡ old
      → stacked n new (map (saved_at new) ms) ≡ stacked old.content.vars (old.content.clauses ++ lits ∷ []) old.saved
  added_stacked new old is view =
      subst (λ (o : Stacked). stacked n new (map (saved_at new) ms) ≡ stacked o.content.vars (o.content.clauses ++ lits ∷ []) o.saved) view
      (ap (λ (xs : List (List Lit)). stacked n xs (map (saved_at xs) ms)) is
      ∙ ap (stacked n (cs ++ lits ∷ [])) (map_same (saved_at (cs ++ lits ∷ [])) (saved_at cs) ms (λ i m at. ap (content m.vars) (take_same i m at))))

-- a mark more
pub pushed_laid : (n v k : ℕ) (cs : List (List Lit)) (ms new : List Mark) → IsLaidOut n cs ms → v ≡ n → k ≡ length cs → new ≡ ms ++ record { vars = v; clauses = k } ∷ [] → IsLaidOut n cs new
pushed_laid n v k cs ms new laid ev ek is = subst (IsLaidOut n cs) (sym is) (record {
  known = laid.known;
  vars_below = λ i m at. ⊎_elim (λ e. let f = ap (λ (x : Mark). x.vars) e.1 in omega (arith, f, ev)) (λ g. laid.vars_below i m g) (push_cases ms last m i at);
  clauses_below = λ i m at. ⊎_elim (λ e. let f = ap (λ (x : Mark). x.clauses) e.1 in omega (arith, f, ek)) (λ g. laid.clauses_below i m g) (push_cases ms last m i at);
  known_at = λ i m at. ⊎_elim (λ e. subst (λ (x : Mark). AllKnown x.vars (take x.clauses cs)) e.1 whole) (λ g. laid.known_at i m g) (push_cases ms last m i at);
  vars_rise = λ i j a b h at there.
      ⊎_elim
      (λ e. let f = ap (λ (x : Mark). x.vars) e.1 in
      ⊎_elim
      (λ d. let g = ap (λ (x : Mark). x.vars) d.1 in omega (arith, f, g))
      (λ d. omega (arith, f, ev, laid.vars_below i a d))
      (push_cases ms last a i at))
      (λ g. ⊎_elim
      (λ d. absurd (omega (arith, d.0, h, slice_get_within ms j b g)))
      (λ d. laid.vars_rise i j a b h d g)
      (push_cases ms last a i at))
      (push_cases ms last b j there);
  clauses_rise = λ i j a b h at there.
      ⊎_elim
      (λ e. let f = ap (λ (x : Mark). x.clauses) e.1 in
      ⊎_elim
      (λ d. let g = ap (λ (x : Mark). x.clauses) d.1 in omega (arith, f, g))
      (λ d. omega (arith, f, ek, laid.clauses_below i a d))
      (push_cases ms last a i at))
      (λ g. ⊎_elim
      (λ d. absurd (omega (arith, d.0, h, slice_get_within ms j b g)))
      (λ d. laid.clauses_rise i j a b h d g)
      (push_cases ms last a i at))
      (push_cases ms last b j there);
})
  where
    last : Mark
    last = record { vars = v; clauses = k }

    whole : AllKnown v (take k cs)
    whole = rw (ev, take_whole k cs (omega (arith, ek))) laid.known

take_twice : {X : Type 0} → (n m : ℕ) (xs : List X) → n ≤ m → take n (take m xs) ≡ take n xs
take_twice zero m xs h = refl
take_twice (suc n) zero xs h = absurd (omega (arith, h))
take_twice (suc n) (suc m) [] h = refl
take_twice (suc n) (suc m) (x ∷ xs) h = ap (λ ys. x ∷ ys) (take_twice n m xs (omega (arith, h)))

-- a mark taken away
module _ (n v : ℕ) (cs : List (List Lit)) (all ms : List Mark) (m : Mark) (laid : IsLaidOut n cs all) (is : all ≡ ms ++ m ∷ []) (count : v ≡ m.vars) where
  here : slice_get all (length ms) ≡ Some m
  here = ap (λ (xs : List Mark). slice_get xs (length ms)) is ∙ push_here ms m

  there : (i : ℕ) (x : Mark) → slice_get ms i ≡ Some x → slice_get all i ≡ Some x
  there i x at = ap (λ (xs : List Mark). slice_get xs i) is ∙ push_old ms m x i at

  earlier : (i : ℕ) (x : Mark) → slice_get ms i ≡ Some x → x.clauses ≤ m.clauses
  earlier i x at = laid.clauses_rise i (length ms) x m (omega (arith, slice_get_within ms i x at)) (there i x at) here

  pub popped_laid : (new : List (List Lit)) → new ≡ take m.clauses cs → IsLaidOut v new ms
  popped_laid new same = rw (same, count) (record {
    known = laid.known_at (length ms) m here;
    vars_below = λ i x at. laid.vars_rise i (length ms) x m (omega (arith, slice_get_within ms i x at)) (there i x at) here;
    clauses_below = λ i x at. omega (arith, earlier i x at, length-take m.clauses cs, laid.clauses_below (length ms) m here);
    known_at = λ i x at. subst (AllKnown x.vars) (sym (take_twice x.clauses m.clauses cs (earlier i x at))) (laid.known_at i x (there i x at));
    vars_rise = λ i j a b h at late. laid.vars_rise i j a b h (there i a at) (there j b late);
    clauses_rise = λ i j a b h at late. laid.clauses_rise i j a b h (there i a at) (there j b late);
  })

  pub popped_stacked : (new : List (List Lit)) (old : Stacked) → new ≡ take m.clauses cs → stacked n cs (map (saved_at cs) all) ≡ old → old.saved ≡ map (saved_at new) ms ++ content v new ∷ []
  popped_stacked new old same view =
      sym (ap (λ (o : Stacked). o.saved) view) ∙ ap (map (saved_at cs)) is ∙ map_push (saved_at cs) ms m
      ∙ ap (λ (xs : List Content). xs ++ saved_at cs m ∷ []) (map_same (saved_at cs) (saved_at new) ms (λ i x at. ap (content x.vars) (sym (ap (take x.clauses) same ∙ take_twice x.clauses m.clauses cs (earlier i x at)))))
      ∙ ap (λ (c : Content). map (saved_at new) ms ++ c ∷ []) (ap (content m.vars) (sym same) ∙ ap (λ (k : ℕ). content k new) (sym count))

pub vars_left : (phases left : List Bool) (n : ℕ) → left ≡ take n phases → n ≤ length phases → length left ≡ n
vars_left phases left n is h = ap length is ∙ omega (arith, length-take n phases, h)

pub last_vars : (n : ℕ) (cs : List (List Lit)) (all ms : List Mark) (m : Mark) → IsLaidOut n cs all → all ≡ ms ++ m ∷ [] → m.vars ≤ n
last_vars n cs all ms m laid is = laid.vars_below (length ms) m (ap (λ (xs : List Mark). slice_get xs (length ms)) is ∙ push_here ms m)
