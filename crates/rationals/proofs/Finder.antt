-- Finds the multipliers of a certificate, by elimination. Nothing is proved of it: `refutes` tests what it finds.
use Rattle.std.proofs.Common.{ℕ, zero, suc, true, false, T, List, [], ◌∷◌, ◌++◌, max}
use Rattle.rationals.proofs.Ring.{CommRing, Coefs, Ex, ◌⊝◌, Poly, end, term, ev, norm, mono_eq, add_poly, scale}
use Rattle.rationals.proofs.Linear.{Ordered, Signs, Atom, ◌≼◌, ◌≺◌, ◌≈◌, refutes, Given, refute, prove_le, prove_lt}

-- a sum of the hypotheses' differences: 0 if it is equal to 0, 1 if it is at least 0, 2 if it is above 0; its polynomial; its multipliers
pub record Row (C : Type 0) : Type 0 where
  pub kind : ℕ
  pub poly : Poly C
  pub by : List C

module _ {A C : Type 0} {R : CommRing A} {K : Coefs R C} {O : Ordered R} (S : Signs O K) where
  -- the numeral 0
  abbrev zero_c : C
  zero_c = K.cadd K.cone (K.cneg K.cone)

  -- the sum of two lists, place by place
  abbrev plus : List C → List C → List C
  plus [] ys = ys
  plus (x ∷ xs) [] = x ∷ xs
  plus (x ∷ xs) (y ∷ ys) = K.cadd x y ∷ plus xs ys

  -- each of a list times a number
  abbrev times : C → List C → List C
  times c [] = []
  times c (x ∷ xs) = K.cmul c x ∷ times c xs

  -- each hypothesis, with `before` zeros in front of its own 1
  abbrev rows : List C → List (Atom C) → List (Row C)
  rows before [] = []
  rows before ((l ≼ r) ∷ hs) = record { kind = 1; poly = norm K (r ⊝ l); by = before ++ (K.cone ∷ []) } ∷ rows (zero_c ∷ before) hs
  rows before ((l ≺ r) ∷ hs) = record { kind = 2; poly = norm K (r ⊝ l); by = before ++ (K.cone ∷ []) } ∷ rows (zero_c ∷ before) hs
  rows before ((l ≈ r) ∷ hs) = record { kind = 0; poly = norm K (r ⊝ l); by = before ++ (K.cone ∷ []) } ∷ rows (zero_c ∷ before) hs

  -- the coefficient of a product of variables
  abbrev coeff : List ℕ → Poly C → C
  coeff m end = zero_c
  coeff m (term n c p) = elim (mono_eq m n) [ true ↦ c | false ↦ coeff m p ]

  -- two rows, each times a number, added up
  abbrev combine : C → Row C → C → Row C → Row C
  combine a r b s = record {
    kind = max r.kind s.kind;
    poly = add_poly K (scale K [] a r.poly) (scale K [] b s.poly);
    by = plus (times a r.by) (times b s.by);
  }

  -- the first product of variables whose coefficient is not 0
  abbrev first_in : Poly C → List ℕ
  first_in end = []
  first_in (term [] c p) = first_in p
  first_in (term (v ∷ m) c p) = elim (K.is_zero c) [ true ↦ first_in p | false ↦ v ∷ m ]

  -- the same in the first row that has one
  abbrev first_of_rows : List (Row C) → List ℕ
  first_of_rows [] = []
  first_of_rows (r ∷ rs) = elim (first_in r.poly) [ [] ↦ first_of_rows rs | v ∷ m ↦ v ∷ m ]

  -- the equations with m, the rows where m's coefficient is positive, negative and 0
  abbrev equations : List ℕ → List (Row C) → List (Row C)
  equations m [] = []
  equations m (r ∷ rs) = elim r.kind [
    | zero ↦ elim (K.is_zero (coeff m r.poly)) [ true ↦ equations m rs | false ↦ r ∷ equations m rs ]
    | suc k ↦ equations m rs
  ]

  -- the rows with a positive coefficient of m
  abbrev rising : List ℕ → List (Row C) → List (Row C)
  rising m [] = []
  rising m (r ∷ rs) = elim (S.above_zero (coeff m r.poly)) [ true ↦ r ∷ rising m rs | false ↦ rising m rs ]

  -- the rows with a negative coefficient of m
  abbrev falling : List ℕ → List (Row C) → List (Row C)
  falling m [] = []
  falling m (r ∷ rs) = elim (S.at_least_zero (coeff m r.poly)) [ true ↦ falling m rs | false ↦ r ∷ falling m rs ]

  -- the rows without m
  abbrev without : List ℕ → List (Row C) → List (Row C)
  without m [] = []
  without m (r ∷ rs) = elim (K.is_zero (coeff m r.poly)) [ true ↦ r ∷ without m rs | false ↦ without m rs ]

  -- r with m taken out by the equation e
  abbrev solve_by : List ℕ → Row C → Row C → Row C
  solve_by m e r =
      let a = coeff m e.poly in
      elim (S.above_zero a) [
        | true ↦ combine a r (K.cneg (coeff m r.poly)) e
        | false ↦ combine (K.cneg a) r (coeff m r.poly) e
      ]

  -- the same in each row
  abbrev solve_all : List ℕ → Row C → List (Row C) → List (Row C)
  solve_all m e [] = []
  solve_all m e (r ∷ rs) = solve_by m e r ∷ solve_all m e rs

  -- the rows that r makes with each of a list, with m taken out
  abbrev pair_with : List ℕ → Row C → List (Row C) → List (Row C) → List (Row C)
  pair_with m r [] rest = rest
  pair_with m r (s ∷ ss) rest = combine (K.cneg (coeff m s.poly)) r (coeff m r.poly) s ∷ pair_with m r ss rest

  -- the rows that each rising row makes with each falling one
  abbrev pairs : List ℕ → List (Row C) → List (Row C) → List (Row C) → List (Row C)
  pairs m [] ss rest = rest
  pairs m (r ∷ rs) ss rest = pair_with m r ss (pairs m rs ss rest)

  -- the rows with m taken out
  abbrev eliminate : List ℕ → List (Row C) → List (Row C)
  eliminate m rs = elim (equations m rs) [
    | [] ↦ pairs m (rising m rs) (falling m rs) (without m rs)
    | e ∷ es ↦ solve_all m e rs
  ]

  -- the multipliers of a row that no values meet
  abbrev found : List (Row C) → List C
  found [] = []
  found (r ∷ rs) =
      let c = coeff [] r.poly in
      let next = found rs in
      elim r.kind [
        | zero ↦ elim (K.is_zero c) [ true ↦ next | false ↦ elim (S.above_zero c) [ true ↦ times (K.cneg K.cone) r.by | false ↦ r.by ] ]
        | suc k ↦ elim (S.above_zero c) [
          | true ↦ next
          | false ↦ elim k [ zero ↦ elim (K.is_zero c) [ true ↦ next | false ↦ r.by ] | suc j ↦ r.by ]
        ]
      ]

  -- the multipliers after at most n eliminations
  abbrev run : ℕ → List (Row C) → List C
  run zero rs = found rs
  run (suc n) rs = elim (first_of_rows rs) [ [] ↦ found rs | v ∷ m ↦ run n (eliminate (v ∷ m) rs) ]

  -- the multipliers for these hypotheses
  abbrev pub find : List (Atom C) → List C
  find hs = run 24 (rows [] hs)

  -- hypotheses that contradict each other
  pub lin_false : (ρ : List A) (hs : List (Atom C)) → T (refutes S hs (find hs)) → Given S ρ hs → ⊥
  lin_false ρ hs t g = refute S ρ hs (find hs) t g

  -- an inequality that follows
  pub lin_le : (ρ : List A) (l r : Ex C) (hs : List (Atom C)) → T (refutes S ((r ≺ l) ∷ hs) (find ((r ≺ l) ∷ hs))) → Given S ρ hs → O.◌≤◌ (ev K ρ l) (ev K ρ r)
  lin_le ρ l r hs t g = prove_le S ρ l r hs (find ((r ≺ l) ∷ hs)) t g

  -- a strict inequality that follows
  pub lin_lt : (ρ : List A) (l r : Ex C) (hs : List (Atom C)) → T (refutes S ((r ≼ l) ∷ hs) (find ((r ≼ l) ∷ hs))) → Given S ρ hs → O.◌<◌ (ev K ρ l) (ev K ρ r)
  lin_lt ρ l r hs t g = prove_lt S ρ l r hs (find ((r ≼ l) ∷ hs)) t g
