-- The conflict of a row that no column repairs, and that of two bounds of one variable.
use Rattle.std.proofs.Common.{◌≡◌, ℕ, suc, ◌+◌, ◌<◌, ◌≤◌, Bool, true, false, List, [], ◌∷◌, ◌++◌, inl, inr, length, get_or, take, Option, Some, None, pos, refl, sym, ap, ◌∙◌, subst, arith}
use Rattle.std.specs.Prelude.{not, Contains, IfSome}
use Rattle.std.proofs.lemmas.List.{take_more, take_all, length-take}
use Rattle.rationals.specs.Rational.{ℚ, zero_ℚ, one_ℚ, neg_ℚ, ◌+ℚ◌, ◌*ℚ◌, ◌<ℚ◌}
use Rattle.rationals.specs.Delta.{Delta, d_add, d_neg, of_ℚ, ◌≤Δ◌, ◌<Δ◌}
use Rattle.rationals.proofs.Ring.{ring, var, con, ◌⊕◌, ◌⊗◌, minus}
use Rattle.rationals.proofs.RingQ.{coef, ring-ℚ}
use Rattle.rationals.proofs.Linear.{◌≼◌, ◌≺◌}
use Rattle.rationals.proofs.OrderQ as O
use Rattle.rationals.proofs.Delta as D
use Rattle.rationals.proofs.Delta.{signs_Δ}
use Rattle.rationals.proofs.Finder.{lin_le, lin_lt}
use Rattle.simplex_logic.specs.Forms.{Rows, Solves_Δ}
use Rattle.simplex_logic.specs.Tables.{Tabled}
use Rattle.simplex_logic.specs.Limits.{Limits, Stuck, Full, Empty, turned}
use Rattle.simplex_logic.specs.Vectors.{at}
use Rattle.simplex_logic.specs.Contradictions.{Part, times, Contradiction, Meets, side_Δ, Stop, stop_none, stop_high, stop_low, Stops, first_part}
use Rattle.simplex_logic.proofs.Bland.{weighted, of_neg}
use Rattle.simplex_logic.proofs.Step.{turned_row, row_value}
use Rattle.simplex_logic.proofs.Certificate.{refuted, contradiction_up, contradiction_down}
use Rattle.simplex_table.specs.View.{delta_of}
use Rattle.simplex_bounds.specs.declared.Bound.{Bound}
use Rattle.simplex_bounds.specs.declared.Range.{Range}
use Rattle.simplex_bounds.specs.Ranges.{range_at, limit_of, limits_of, OnSide, Holds, Ranged, Crosses}
use Rattle.simplex_core.specs.Conflicts.{Named, Names, IsConflict, HasTag, ConflictsRefute, IsStop, no_stop, open_up, open_low, Certificate, Certifies, CertifiesTo, IsPair}
use Rattle.simplex_core.specs.Conflicts as C

-- ---- the stop of a column
stop_up_at : (r : Range) (q : ℚ) (m : Option (ℕ × ℚ)) (o : Option Bound) → r.up ≡ o → zero_ℚ <ℚ q → IfSome o (λ b. m ≡ Some (b.tag, q)) → IsStop r q m
stop_up_at r q m None e p h = open_up p e
stop_up_at r q m (Some b) e p h = C.stop_up b p e h

pub stop_up_is : (r : Range) (q : ℚ) (m : Option (ℕ × ℚ)) → zero_ℚ <ℚ q → IfSome r.up (λ b. m ≡ Some (b.tag, q)) → IsStop r q m
stop_up_is r q m p h = stop_up_at r q m r.up refl p h

stop_low_at : (r : Range) (q : ℚ) (m : Option (ℕ × ℚ)) (o : Option Bound) → r.low ≡ o → q <ℚ zero_ℚ → IfSome o (λ b. m ≡ Some (b.tag, neg_ℚ q)) → IsStop r q m
stop_low_at r q m None e p h = open_low p e
stop_low_at r q m (Some b) e p h = C.stop_low b p e h

pub stop_low_is : (r : Range) (q : ℚ) (m : Option (ℕ × ℚ)) → q <ℚ zero_ℚ → IfSome r.low (λ b. m ≡ Some (b.tag, neg_ℚ q)) → IsStop r q m
stop_low_is r q m p h = stop_low_at r q m r.low refl p h

-- ---- no values meet the bounds of a conflict
on_side : (u : Bool) (l x : Delta) → OnSide u l x → of_ℚ zero_ℚ ≤Δ d_add (side_Δ u x) (d_neg (side_Δ u l))
on_side true l x h = lin_le signs_Δ (l ∷ x ∷ []) (con (coef (pos 0) 0)) (minus (var 1) ⊕ minus (minus (var 0))) ((var 1 ≼ var 0) ∷ []) tt (h, tt)
on_side false l x h = lin_le signs_Δ (l ∷ x ∷ []) (con (coef (pos 0) 0)) (var 1 ⊕ minus (var 0)) ((var 0 ≼ var 1) ∷ []) tt (h, tt)

part_met : (bounds : List Bound) (w : ℕ → Delta) (m : ℕ × ℚ) (p : Part) (n : Named bounds m p) → Holds w n.bound → of_ℚ zero_ℚ ≤Δ d_add (side_Δ p.upper (w p.variable)) (d_neg (side_Δ p.upper p.bound))
part_met bounds w m p n h =
    on_side p.upper p.bound (w p.variable)
    (subst (λ x. OnSide p.upper p.bound (w x)) (sym n.variable) (subst (λ d. OnSide p.upper d (w n.bound.variable)) (sym n.value) (subst (λ u. OnSide u (delta_of n.bound.value) (w n.bound.variable)) (sym n.upper) h)))

all_met : (bounds : List Bound) (w : ℕ → Delta) (ms : List (ℕ × ℚ)) (ps : List Part) → Names bounds ms ps → ((b : Bound) → Contains bounds b → HasTag b.tag ms → Holds w b) → Meets w ps
all_met bounds w [] [] n h = tt
all_met bounds w [] (p ∷ ps) n h = absurd n
all_met bounds w (m ∷ ms) [] n h = absurd n
all_met bounds w (m ∷ ms) (p ∷ ps) n h = (
  part_met bounds w m p n.0 (h n.0.bound n.0.listed (inl n.0.tag)),
  all_met bounds w ms ps n.1 (λ b i t. h b i (inr t)),
)

pub conflicts_refute_is : ConflictsRefute
conflicts_refute_is rows bounds ms w c g h = refuted rows c.parts w c.contradiction g (all_met bounds w ms c.parts c.named h)

-- ---- one multiplier more
pub names_more : (bounds : List Bound) (ms : List (ℕ × ℚ)) (ps : List Part) (m : ℕ × ℚ) (p : Part) → Names bounds ms ps → Named bounds m p → Names bounds (ms ++ m ∷ []) (ps ++ p ∷ [])
names_more bounds [] [] m p n h = (h, tt)
names_more bounds [] (q ∷ ps) m p n h = absurd n
names_more bounds (k ∷ ms) [] m p n h = absurd n
names_more bounds (k ∷ ms) (q ∷ ps) m p n h = (n.0, names_more bounds ms ps m p n.1 h)

stop_more : (L : Limits) (v : ℕ → Delta) (q : ℚ) (c : ℕ) (ps rest more : List Part) → Stop L v q c ps rest → Stop L v q c (ps ++ more) (rest ++ more)
stop_more L v q c ps rest more (stop_none e f) = stop_none e (ap (λ l. l ++ more) f)
stop_more L v q c ps rest more (stop_high b p e k f) = stop_high b p e k (ap (λ l. l ++ more) f)
stop_more L v q c ps rest more (stop_low b p e k f) = stop_low b p e k (ap (λ l. l ++ more) f)

pub stops_more : (L : Limits) (v : ℕ → Delta) (qs : List ℚ) (cols : List ℕ) (ps : List Part) (q : ℚ) (c : ℕ) (more : List Part) → length qs ≡ length cols → Stops L v qs cols ps → Stop L v q c more []
    → Stops L v (qs ++ q ∷ []) (cols ++ c ∷ []) (ps ++ more)
stops_more L v [] [] ps q c more l s h = ([], subst (λ x. Stop L v q c (x ++ more) []) (sym s) h, refl)
stops_more L v [] (d ∷ cols) ps q c more l s h = absurd (omega arith)
stops_more L v (r ∷ qs) [] ps q c more l s h = absurd (omega arith)
stops_more L v (r ∷ qs) (d ∷ cols) ps q c more l s h = (s.0 ++ more, stop_more L v r d ps s.0 more s.1, stops_more L v qs cols s.0 q c more (omega arith) s.2 h)

turned_more : (up : Bool) (qs : List ℚ) (q : ℚ) → turned_row up (qs ++ q ∷ []) ≡ turned_row up qs ++ turned up q ∷ []
turned_more up [] q = refl
turned_more up (r ∷ qs) q = ap (λ l. turned up r ∷ l) (turned_more up qs q)

length-turned : (up : Bool) (qs : List ℚ) → length (turned_row up qs) ≡ length qs
length-turned up [] = refl
length-turned up (q ∷ qs) = ap suc (length-turned up qs)

names_append : (bounds : List Bound) (ms ns : List (ℕ × ℚ)) (ps qs : List Part) → Names bounds ms ps → Names bounds ns qs → Names bounds (ms ++ ns) (ps ++ qs)
names_append bounds [] ns [] qs n h = h
names_append bounds [] ns (p ∷ ps) qs n h = absurd n
names_append bounds (m ∷ ms) ns [] qs n h = absurd n
names_append bounds (m ∷ ms) ns (p ∷ ps) qs n h = (n.0, names_append bounds ms ns ps qs n.1 h)

-- what the stop of one column adds
record More (bounds : List Bound) (L : Limits) (v : ℕ → Delta) (q : ℚ) (c : ℕ) (ms : List (ℕ × ℚ)) : Type 0 where
  parts : List Part
  named : Names bounds ms parts
  stop : Stop L v q c parts []

abbrev pub listed : Option (ℕ × ℚ) → List (ℕ × ℚ)
listed None = []
listed (Some m) = m ∷ []

full_at : (o : Option Bound) (b : Bound) (x : Delta) → o ≡ Some b → Full (limit_of o) x → delta_of b.value ≤Δ x
full_at o b x e h = subst (λ z. Full (limit_of z) x) e h

empty_at : (o : Option Bound) (b : Bound) (x : Delta) → o ≡ Some b → Empty (limit_of o) x → x ≤Δ delta_of b.value
empty_at o b x e h = subst (λ z. Empty (limit_of z) x) e h

module _ (n : ℕ) (bounds : List Bound) (ranges : List Range) (v : ℕ → Delta) (g : Ranged n bounds ranges) where
  abbrev L : Limits
  L = limits_of ranges

  more_of : (q : ℚ) (c : ℕ) (m : Option (ℕ × ℚ)) → Stuck q (L.low c) (L.up c) (v c) → IsStop (range_at ranges c) q m → More bounds L v q c (listed m)
  more_of q c m s (no_stop e f) = subst (λ o. More bounds L v q c (listed o)) (sym f) (record { parts = []; named = tt; stop = stop_none e refl })
  more_of q c m s (C.stop_up b p e f) =
      let i = g.up c b e in
      subst (λ o. More bounds L v q c (listed o)) (sym f) (record {
        parts = record { variable = c; upper = true; bound = delta_of b.value; by = q } ∷ [];
        named = (record { bound = b; listed = i.listed; tag = refl; multiplier = refl; variable = sym i.variable; upper = sym i.side; value = refl }, tt);
        stop = stop_high (delta_of b.value) p (ap limit_of e) (full_at (range_at ranges c).up b (v c) e (s.rise p)) refl;
      })
  more_of q c m s (C.stop_low b p e f) =
      let i = g.low c b e in
      subst (λ o. More bounds L v q c (listed o)) (sym f) (record {
        parts = record { variable = c; upper = false; bound = delta_of b.value; by = neg_ℚ q } ∷ [];
        named = (record { bound = b; listed = i.listed; tag = refl; multiplier = refl; variable = sym i.variable; upper = sym i.side; value = refl }, tt);
        stop = stop_low (delta_of b.value) p (ap limit_of e) (empty_at (range_at ranges c).low b (v c) e (s.fall p)) refl;
      })
  more_of q c m s (open_up p e) = absurd (subst (λ o. Full (limit_of o) (v c)) e (s.rise p))
  more_of q c m s (open_low p e) = absurd (subst (λ o. Empty (limit_of o) (v c)) e (s.fall p))

  cert_more : (b : Bound) (row row' : List ℚ) (columns columns' : List ℕ) (ms : List (ℕ × ℚ)) (q : ℚ) (c : ℕ) (m : Option (ℕ × ℚ)) → length row ≡ length columns → row' ≡ row ++ q ∷ [] → columns' ≡ columns ++ c ∷ []
      → Stuck (turned (not b.upper) q) (L.low c) (L.up c) (v c) → IsStop (range_at ranges c) (turned (not b.upper) q) m → Certificate bounds L v b row columns ms → Certificate bounds L v b row' columns' (ms ++ listed m)
  cert_more b row row' columns columns' ms q c m l e f s i k =
      let t = more_of (turned (not b.upper) q) c m s i in
      record {
        parts = k.parts ++ t.parts;
        named = names_append bounds ms (listed m) (first_part (not b.upper) b.variable (delta_of b.value) ∷ k.parts) t.parts k.named t.named;
        stops = subst (λ cs. Stops L v (turned_row (not b.upper) row') cs (k.parts ++ t.parts)) (sym f)
            (subst (λ qs. Stops L v qs (columns ++ c ∷ []) (k.parts ++ t.parts)) (sym (ap (turned_row (not b.upper)) e ∙ turned_more (not b.upper) row q))
            (stops_more L v (turned_row (not b.upper) row) columns k.parts (turned (not b.upper) q) c t.parts (length-turned (not b.upper) row ∙ l) k.stops t.stop));
      }

same_side : (u : Bool) → elim (not u) [ true ↦ false | false ↦ true ] ≡ u
same_side true = refl
same_side false = refl

first_named : (bounds : List Bound) (b : Bound) → Contains bounds b → Named bounds (b.tag, one_ℚ) (first_part (not b.upper) b.variable (delta_of b.value))
first_named bounds b i = record { bound = b; listed = i; tag = refl; multiplier = refl; variable = refl; upper = same_side b.upper; value = refl }

pub certifies_none : (ranges : List Range) (b : Bound) (row : List ℚ) (columns : List ℕ) (ms : List (ℕ × ℚ)) → ms ≡ (b.tag, one_ℚ) ∷ [] → CertifiesTo 0 ranges b row columns ms
certifies_none ranges b row columns ms e n bounds v g i s =
    subst (λ x. Certificate bounds (limits_of ranges) v b [] [] x) (sym e) (record { parts = []; named = (first_named bounds b i, tt); stops = refl })

pub certifies_next : (k : ℕ) (ranges : List Range) (b : Bound) (row : List ℚ) (columns : List ℕ) (ms ms' : List (ℕ × ℚ)) (m : Option (ℕ × ℚ)) → k < length columns → length row ≡ length columns
    → IsStop (range_at ranges (get_or columns k 0)) (turned (not b.upper) (at row k)) m → ms' ≡ ms ++ listed m → CertifiesTo k ranges b row columns ms → CertifiesTo (k + 1) ranges b row columns ms'
certifies_next k ranges b row columns ms ms' m h w i e f n bounds v g j s =
    subst (λ x. Certificate bounds (limits_of ranges) v b (take (k + 1) row) (take (k + 1) columns) x) (sym e)
    (cert_more n bounds ranges v g b (take k row) (take (k + 1) row) (take k columns) (take (k + 1) columns) ms (at row k) (get_or columns k 0) m
    (omega (arith, length-take k row, length-take k columns)) (take_more row k zero_ℚ (omega arith)) (take_more columns k 0 h) (s k h) i (f n bounds v g j s))

pub certifies_all : (k : ℕ) (ranges : List Range) (b : Bound) (row : List ℚ) (columns : List ℕ) (ms : List (ℕ × ℚ)) → length columns ≤ k → length row ≡ length columns → CertifiesTo k ranges b row columns ms → Certifies ranges b row columns ms
certifies_all k ranges b row columns ms h w f n bounds v g j s =
    subst (λ cs. Certificate bounds (limits_of ranges) v b row cs ms) (take_all k columns h)
    (subst (λ r. Certificate bounds (limits_of ranges) v b r (take k columns) ms) (take_all k row (omega arith)) (f n bounds v g j s))

-- ---- the conflict
neg_step : (q : ℚ) (x y : Delta) → d_add (times (neg_ℚ q) x) (d_neg y) ≡ d_neg (d_add (times q x) y)
neg_step q x y = ap (λ z. d_add (D.d_mul z x) (d_neg y)) (of_neg q) ∙ ring D.coefs_Δ (of_ℚ q ∷ x ∷ y ∷ []) (minus (var 0) ⊗ var 1 ⊕ minus (var 2)) (minus (var 0 ⊗ var 1 ⊕ var 2)) tt

neg_none : of_ℚ zero_ℚ ≡ d_neg (of_ℚ zero_ℚ)
neg_none = D.ext D.neg-zero D.neg-zero

weighted_down : (qs : List ℚ) (cols : List ℕ) (v : ℕ → Delta) → weighted (turned_row false qs) cols v ≡ d_neg (weighted qs cols v)
weighted_down [] cols v = neg_none
weighted_down (q ∷ qs) [] v = neg_none
weighted_down (q ∷ qs) (c ∷ cols) v = ap (λ z. d_add (times (neg_ℚ q) (v c)) z) (weighted_down qs cols v) ∙ neg_step q (v c) (weighted qs cols v)

turned_up : (qs : List ℚ) → turned_row true qs ≡ qs
turned_up [] = refl
turned_up (q ∷ qs) = ap (λ l. q ∷ l) (turned_up qs)

-- a value on the wrong side of a bound
abbrev pub Wrong : Bool → Delta → Delta → Type 0
Wrong true limit x = limit <Δ x
Wrong false limit x = x <Δ limit

module _ (rows : Rows) (n : ℕ) (cols : List ℕ) (tab : ℕ → List ℚ) (t : Tabled rows n cols tab) (L : Limits) (v : ℕ → Delta) (now : Solves_Δ rows v) (s : ℕ) (hs : s < n) (b : Delta) (ps : List Part) where
  row_contradicts : (u : Bool) → Wrong u b (v s) → Stops L v (turned_row (not u) (tab s)) cols ps → Contradiction rows (first_part (not u) s b ∷ ps)
  row_contradicts false h k = contradiction_up rows n cols tab L v s b ps t hs (row_value rows n cols tab v s t hs now) h (subst (λ qs. Stops L v qs cols ps) (turned_up (tab s)) k)
  row_contradicts true h k = contradiction_down rows n cols tab L v s b ps t hs (ap d_neg (row_value rows n cols tab v s t hs now) ∙ sym (weighted_down (tab s) cols v)) h k

pub row_conflict : (rows : Rows) (n : ℕ) (cols : List ℕ) (tab : ℕ → List ℚ) (bounds : List Bound) (L : Limits) (v : ℕ → Delta) (b : Bound) (ms : List (ℕ × ℚ)) → Tabled rows n cols tab → Solves_Δ rows v → b.variable < n
    → Wrong b.upper (delta_of b.value) (v b.variable) → Certificate bounds L v b (tab b.variable) cols ms → IsConflict rows bounds ms
row_conflict rows n cols tab bounds L v b ms t now h w k = record {
  parts = first_part (not b.upper) b.variable (delta_of b.value) ∷ k.parts;
  named = k.named;
  contradiction = row_contradicts rows n cols tab t L v now b.variable h (delta_of b.value) k.parts b.upper w k.stops;
}

one_pos : zero_ℚ <ℚ one_ℚ
one_pos = lin_lt O.signs_ℚ [] (con (coef (pos 0) 0)) (con (coef (pos 1) 0)) [] tt tt

pair_cancels : (x : ℚ) → one_ℚ *ℚ x +ℚ (one_ℚ *ℚ neg_ℚ x +ℚ zero_ℚ) ≡ zero_ℚ
pair_cancels x = ring-ℚ (x ∷ []) (con (coef (pos 1) 0) ⊗ var 0 ⊕ (con (coef (pos 1) 0) ⊗ minus (var 0) ⊕ con (coef (pos 0) 0))) (con (coef (pos 0) 0)) tt

pub pair_conflict : (rows : Rows) (n : ℕ) (bounds : List Bound) (ranges : List Range) (x : ℕ) (a b : Bound) (ms : List (ℕ × ℚ)) → Ranged n bounds ranges → Crosses (range_at ranges x) a b → IsPair a b ms → IsConflict rows bounds ms
pair_conflict rows n bounds ranges x a b ms g c e =
    let i = g.low x a c.low in let j = g.up x b c.up in
    subst (λ z. IsConflict rows bounds z) (sym e) (record {
      parts = record { variable = x; upper = false; bound = delta_of a.value; by = one_ℚ } ∷ record { variable = x; upper = true; bound = delta_of b.value; by = one_ℚ } ∷ [];
      named = (
        record { bound = a; listed = i.listed; tag = refl; multiplier = refl; variable = sym i.variable; upper = sym i.side; value = refl },
        (record { bound = b; listed = j.listed; tag = refl; multiplier = refl; variable = sym j.variable; upper = sym j.side; value = refl }, tt),
      );
      contradiction = record {
        positive = (one_pos, (one_pos, tt));
        cancels = λ σ h. pair_cancels (σ x);
        negative =
            lin_lt signs_Δ (delta_of a.value ∷ delta_of b.value ∷ []) (con (coef (pos 1) 0) ⊗ minus (var 0) ⊕ (con (coef (pos 1) 0) ⊗ minus (minus (var 1)) ⊕ con (coef (pos 0) 0))) (con (coef (pos 0) 0))
            ((var 1 ≺ var 0) ∷ []) tt (c.apart, tt);
      };
    })
