-- A simplex through its calls.
use Rattle.std.proofs.Common.{◌≡◌, ℕ, zero, suc, ◌+◌, ◌<◌, ◌≤◌, Bool, true, false, cond, List, [], ◌∷◌, ◌++◌, ◌⊎◌, inl, inr, length, get_or, take, map, Option, Some, None, Result, Ok, Err, refl, sym, ap, ◌∙◌, subst, arith}
use Rattle.std.specs.Prelude.{Contains, OnOk, OnErr, IsSome}
use Rattle.std.proofs.lemmas.List.{take-append-le, length-take, length-append, get_or_append_left}
use Rattle.std.proofs.lemmas.List.Elements.{Contains-append_cases}
use Rattle.rationals.specs.Rational.{zero_ℚ}
use Rattle.rationals.specs.Delta.{Delta, of_ℚ}
use Rattle.fraction128.specs.declared.infinitesimal.Delta.{Delta as Fractions}
use Rattle.simplex_logic.specs.Forms.{Form, row_of, Below}
use Rattle.simplex_logic.specs.Quantities.{In}
use Rattle.simplex_core.specs.Wides.{values_of}
use Rattle.simplex_table.specs.View.{State, delta_at}
use Rattle.simplex_bounds.specs.declared.Bound.{Bound}
use Rattle.simplex_core.specs.Content.{Content}
use Rattle.simplex_core.specs.Inside.{saved_of, Rising}
use Rattle.simplex_core.specs.Solving.{IsFound}

-- ---- bounds of variables that there are
pub known_more : (bounds : List Bound) (n m : ℕ) → n ≤ m → ((b : Bound) → Contains bounds b → b.variable < n) → (b : Bound) → Contains bounds b → b.variable < m
known_more bounds n m l h b i = let k = h b i in omega arith

only_one : (b d : Bound) → Contains (b ∷ []) d → b ≡ d
only_one b d (zero, h, e) = e
only_one b d (suc k, h, e) = absurd (omega arith)

pub known_given : (bounds bounds' : List Bound) (b : Bound) (n : ℕ) → bounds' ≡ bounds ++ b ∷ [] → b.variable < n → ((d : Bound) → Contains bounds d → d.variable < n) → (d : Bound) → Contains bounds' d → d.variable < n
known_given bounds bounds' b n e l h d i = elim (Contains-append_cases bounds (b ∷ []) d (subst (λ bs. Contains bs d) e i)) [
  | inl p ↦ h d p
  | inr p ↦ subst (λ (z : Bound). z.variable < n) (only_one b d p) l
]

in_take : (m : ℕ) (bounds : List Bound) (d : Bound) (k : ℕ) → k < length (take m bounds) → get_or (take m bounds) k d ≡ d → Contains bounds d
in_take zero bounds d k h e = absurd (omega arith)
in_take (suc m) [] d k h e = absurd (omega arith)
in_take (suc m) (b ∷ bs) d zero h e = (0, omega arith, e)
in_take (suc m) (b ∷ bs) d (suc k) h e = let r = in_take m bs d k (omega arith) e in let l = r.1 in (suc r.0, omega (arith, l), r.2)

pub known_taken : (bounds bounds' : List Bound) (m n : ℕ) → bounds' ≡ take m bounds → ((d : Bound) → Contains bounds d → d.variable < n) → (d : Bound) → Contains bounds' d → d.variable < n
known_taken bounds bounds' m n e h d i = let j = subst (λ bs. Contains bs d) e i in h d (in_take m bounds d j.0 j.1 j.2)

-- ---- marks
pub rising_more : (marks : List ℕ) (n m : ℕ) → n ≤ m → Rising marks n → Rising marks m
rising_more marks n m l h = record { rise = h.rise; below = λ i p. let k = h.below i p in omega arith }

last_ℕ : (cs : List ℕ) (c : ℕ) → get_or (cs ++ c ∷ []) (length cs) 0 ≡ c
last_ℕ [] c = refl
last_ℕ (d ∷ cs) c = last_ℕ cs c

below_or_last : (k n : ℕ) → k < n + 1 → (k < n) ⊎ (k ≡ n)
below_or_last zero zero h = inr refl
below_or_last zero (suc n) h = inl (omega arith)
below_or_last (suc k) zero h = absurd (omega arith)
below_or_last (suc k) (suc n) h = elim (below_or_last k n (omega arith)) [ inl p ↦ inl (omega arith) | inr e ↦ inr (ap suc e) ]

pub rising_mark : (marks : List ℕ) (n : ℕ) → Rising marks n → Rising (marks ++ n ∷ []) n
rising_mark marks n h = record {
  rise = λ i j p q. elim (below_or_last j (length marks) (omega (arith, length-append marks (n ∷ [])))) [
    | inl l ↦ let a = h.rise i j p l in omega (arith, get_or_append_left marks (n ∷ []) 0 i (omega arith), get_or_append_left marks (n ∷ []) 0 j l)
    | inr e ↦ let a = h.below i (omega arith) in omega (arith, get_or_append_left marks (n ∷ []) 0 i (omega arith), ap (λ z. get_or (marks ++ n ∷ []) z 0) e, last_ℕ marks n)
  ];
  below = λ i q. elim (below_or_last i (length marks) (omega (arith, length-append marks (n ∷ [])))) [
    | inl l ↦ let a = h.below i l in omega (arith, get_or_append_left marks (n ∷ []) 0 i l)
    | inr e ↦ omega (arith, ap (λ z. get_or (marks ++ n ∷ []) z 0) e, last_ℕ marks n)
  ];
}

take_twice : {X : Type 0} → (n m : ℕ) (xs : List X) → n ≤ m → take n (take m xs) ≡ take n xs
take_twice zero m xs h = refl
take_twice (suc n) zero xs h = absurd (omega arith)
take_twice (suc n) (suc m) [] h = refl
take_twice (suc n) (suc m) (x ∷ xs) h = ap (λ ys. x ∷ ys) (take_twice n m xs (omega arith))

map_same : (f g : ℕ → List Bound) (ms : List ℕ) → ((i : ℕ) → i < length ms → f (get_or ms i 0) ≡ g (get_or ms i 0)) → map f ms ≡ map g ms
map_same f g [] h = refl
map_same f g (m ∷ ms) h = ap (λ (x : List Bound). x ∷ map f ms) (h zero (omega arith)) ∙ ap (λ (xs : List (List Bound)). g m ∷ xs) (map_same f g ms (λ i p. h (suc i) (omega arith)))

map_push : (f : ℕ → List Bound) (ms : List ℕ) (m : ℕ) → map f (ms ++ m ∷ []) ≡ map f ms ++ f m ∷ []
map_push f [] m = refl
map_push f (x ∷ ms) m = ap (λ (xs : List (List Bound)). f x ∷ xs) (map_push f ms m)

pub saved_given : (bounds bounds' : List Bound) (b : Bound) (marks : List ℕ) → bounds' ≡ bounds ++ b ∷ [] → Rising marks (length bounds) → saved_of bounds' marks ≡ saved_of bounds marks
saved_given bounds bounds' b marks e h = map_same (λ m. take m bounds') (λ m. take m bounds) marks (λ i p. ap (take (get_or marks i 0)) e ∙ take-append-le (get_or marks i 0) bounds (b ∷ []) (h.below i p))

pub saved_mark : (bounds : List Bound) (marks marks' : List ℕ) → marks' ≡ marks ++ length bounds ∷ [] → saved_of bounds marks' ≡ saved_of bounds marks ++ bounds ∷ []
saved_mark bounds marks marks' e = ap (saved_of bounds) e ∙ map_push (λ m. take m bounds) marks (length bounds) ∙ ap (λ (x : List Bound). saved_of bounds marks ++ x ∷ []) (whole bounds)
  where
    whole : (xs : List Bound) → take (length xs) xs ≡ xs
    whole [] = refl
    whole (x ∷ xs) = ap (λ ys. x ∷ ys) (whole xs)

module _ (bounds bounds' : List Bound) (marks marks' : List ℕ) (m : ℕ) (h : Rising marks (length bounds)) (e : marks ≡ marks' ++ m ∷ []) (f : bounds' ≡ take m bounds) where
  long : length marks ≡ length marks' + 1
  long = ap length e ∙ omega (arith, length-append marks' (m ∷ []))

  here : get_or marks (length marks') 0 ≡ m
  here = ap (λ ms. get_or ms (length marks') 0) e ∙ last_ℕ marks' m

  there : (i : ℕ) → i < length marks' → get_or marks' i 0 ≡ get_or marks i 0
  there i p = sym (get_or_append_left marks' (m ∷ []) 0 i p) ∙ ap (λ ms. get_or ms i 0) (sym e)

  m_below : m ≤ length bounds
  m_below = let a = h.below (length marks') (omega (arith, long)) in omega (arith, here)

  before : (i : ℕ) → i < length marks' → get_or marks' i 0 ≤ m
  before i p = let a = h.rise i (length marks') p (omega (arith, long)) in omega (arith, here, there i p)

  pub rising_back : Rising marks' (length bounds')
  rising_back = record {
    rise = λ i j p q. let a = h.rise i j p (omega (arith, long)) in omega (arith, there i (omega arith), there j q);
    below = λ i p. omega (arith, before i p, ap length f, length-take m bounds, m_below);
  }

  pub saved_back : saved_of bounds marks ≡ saved_of bounds' marks' ++ bounds' ∷ []
  saved_back =
      ap (saved_of bounds) e ∙ map_push (λ k. take k bounds) marks' m ∙ ap (λ (x : List Bound). saved_of bounds marks' ++ x ∷ []) (sym f)
      ∙ ap (λ xs. xs ++ bounds' ∷ []) (map_same (λ k. take k bounds) (λ k. take k bounds') marks' (λ i p. sym (ap (take (get_or marks' i 0)) f ∙ take_twice (get_or marks' i 0) m bounds (before i p))))

-- ---- a variable more
row_more : (rows : List (Option Form)) (v : ℕ) → row_of (rows ++ None ∷ []) v ≡ row_of rows v
row_more [] zero = refl
row_more [] (suc v) = refl
row_more (r ∷ rs) zero = refl
row_more (r ∷ rs) (suc v) = row_more rs v

at_end : (values : List Fractions) (k : ℕ) → length values ≤ k → delta_at values k ≡ of_ℚ zero_ℚ
at_end [] k h = refl
at_end (v ∷ vs) zero h = absurd (omega arith)
at_end (v ∷ vs) (suc k) h = at_end vs k (omega arith)

below_more_rows : (m k : ℕ) (g : Form) → m ≤ k → Below m g → Below k g
below_more_rows m k [] l h = tt
below_more_rows m k (x ∷ g) l h = (omega (arith, h.0), below_more_rows m k g l h.1)

pub found_more : (s s' : State) (bounds : List Bound) (values : List Fractions) → s'.rows ≡ s.rows ++ None ∷ [] → s'.columns ≡ s.columns ++ length s.rows ∷ [] → IsFound s bounds values → IsFound s' bounds values
found_more s s' bounds values e f h = record {
  long = omega (arith, h.long, ap length e, length-append s.rows (None ∷ []));
  known = λ v g q.
      let k = h.known v g (sym (row_more s.rows v) ∙ ap (λ (rs : List (Option Form)). row_of rs v) (sym e) ∙ q) in
      let l : length s.rows ≤ length s'.rows = omega (arith, ap length e, length-append s.rows (None ∷ [])) in
      (omega (arith, k.0), below_more_rows (length s.rows) (length s'.rows) g l k.1);
  solution = record {
    solves = (λ v g q. h.solution.solves.0 v g (sym (row_more s.rows v) ∙ ap (λ (rs : List (Option Form)). row_of rs v) (sym e) ∙ q), λ v g q. h.solution.solves.1 v g (sym (row_more s.rows v) ∙ ap (λ (rs : List (Option Form)). row_of rs v) (sym e) ∙ q));
    met = h.solution.met;
  };
  stands = λ k p. elim (below_or_last k (length s.columns) (omega (arith, ap length f, length-append s.columns (length s.rows ∷ [])))) [
    | inl q ↦ subst (λ c. let d = delta_at values c in (d ≡ of_ℚ zero_ℚ) ⊎ In d (values_of bounds)) (sym (ap (λ cs. get_or cs k 0) f ∙ get_or_append_left s.columns (length s.rows ∷ []) 0 k q)) (h.stands k q)
    | inr q ↦ inl (ap (delta_at values) (ap (λ cs. get_or cs k 0) f ∙ ap (λ z. get_or (s.columns ++ length s.rows ∷ []) z 0) q ∙ last_ℕ s.columns (length s.rows)) ∙ at_end values (length s.rows) h.long)
  ];
}

pub longer_rows : {E : Type 0} (r : Result ℕ E) (s s' : State) → OnOk r (s'.rows ≡ s.rows ++ None ∷ []) → OnErr r (s' ≡ s) → length s.rows ≤ length s'.rows
longer_rows (Ok v) s s' e f = omega (arith, ap length e, length-append s.rows (None ∷ []))
longer_rows (Err x) s s' e f = omega (arith, ap (λ (z : State). length z.rows) f)

pub found_after : {E : Type 0} (r : Result ℕ E) (s s' : State) (bounds : List Bound) (values : List Fractions) → OnOk r (s'.rows ≡ s.rows ++ None ∷ []) → OnOk r (s'.columns ≡ s.columns ++ length s.rows ∷ []) → OnErr r (s' ≡ s)
    → IsFound s bounds values → IsFound s' bounds values
found_after (Ok v) s s' bounds values e g f h = found_more s s' bounds values e g h
found_after (Err x) s s' bounds values e g f h = subst (λ z. IsFound z bounds values) (sym f) h

abbrev pub content : List (Option Form) → List Bound → List (List Bound) → Option (List Delta) → Content
content rows bounds saved found = record { rows = rows; bounds = bounds; saved = saved; found = found }

pub given_content : (rows : List (Option Form)) (bs bs' : List Bound) (ss ss' : List (List Bound)) → bs ≡ bs' → ss ≡ ss' → content rows bs ss None ≡ content rows bs' ss' None
given_content rows bs bs' ss ss' e f = ap (λ x. content rows x ss None) e ∙ ap (λ x. content rows bs' x None) f

pub known_rows : (bounds : List Bound) (rows rows' : List (Option Form)) → rows' ≡ rows → ((b : Bound) → Contains bounds b → b.variable < length rows) → (b : Bound) → Contains bounds b → b.variable < length rows'
known_rows bounds rows rows' e h = subst (λ (rs : List (Option Form)). (b : Bound) → Contains bounds b → b.variable < length rs) (sym e) h

pub current_of : (b : Bool) (vs : List Delta) → IsSome (cond b (Some vs) None) → b ≡ true
current_of true vs h = refl
current_of false vs h = h
