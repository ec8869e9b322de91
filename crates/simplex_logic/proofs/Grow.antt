-- The table through an exchange of neighbouring columns, a new variable and a new row.
use Rattle.std.proofs.Common.{◌≡◌, ℕ, zero, suc, ◌<◌, ◌⊎◌, inl, inr, List, [], ◌∷◌, ◌++◌, length, get_or, Some, refl, sym, ap, ◌∙◌, subst, arith}
use native.Mathlib.Decide.{ℕ_discrete}
use Rattle.rationals.specs.Rational.{ℚ, zero_ℚ, one_ℚ, ◌+ℚ◌, ◌*ℚ◌}
use Rattle.rationals.proofs.RingQ as Q
use Rattle.rationals.proofs.RingQ.{ring-ℚ}
use Rattle.rationals.proofs.Ring.{var, ◌⊕◌, ◌⊗◌}
use Rattle.rationals.proofs.Delta.{zero-mul}
use Rattle.simplex_logic.specs.Forms.{Form, value, Rows, Solves, Below}
use Rattle.simplex_logic.specs.Vectors.{dot, at, scale_row, add_rows, read, flip, summed, zeros}
use Rattle.simplex_logic.proofs.Dense.{dot-scale, dot-add, length-scale}
use Rattle.simplex_logic.proofs.Table.{length-read, length_add}
use Rattle.simplex_logic.proofs.Pivot.{value_same, read_same}
use Rattle.simplex_logic.specs.Tables.{Tabled}

-- ---- neighbours exchanged
pub flip_flip : {A : Type 0} (k : ℕ) (xs : List A) → flip k (flip k xs) ≡ xs
flip_flip zero (a ∷ b ∷ xs) = refl
flip_flip zero (a ∷ []) = refl
flip_flip zero [] = refl
flip_flip (suc k) (x ∷ xs) = ap (λ l. x ∷ l) (flip_flip k xs)
flip_flip (suc k) [] = refl

pub length-flip : {A : Type 0} (k : ℕ) (xs : List A) → length (flip k xs) ≡ length xs
length-flip zero (a ∷ b ∷ xs) = refl
length-flip zero (a ∷ []) = refl
length-flip zero [] = refl
length-flip (suc k) (x ∷ xs) = ap suc (length-flip k xs)
length-flip (suc k) [] = refl

pub read-flip : (σ : ℕ → ℚ) (k : ℕ) (cs : List ℕ) → read σ (flip k cs) ≡ flip k (read σ cs)
read-flip σ zero (a ∷ b ∷ cs) = refl
read-flip σ zero (a ∷ []) = refl
read-flip σ zero [] = refl
read-flip σ (suc k) (c ∷ cs) = ap (λ l. σ c ∷ l) (read-flip σ k cs)
read-flip σ (suc k) [] = refl

pub dot-flip : (k : ℕ) (xs ys : List ℚ) → length xs ≡ length ys → dot (flip k xs) ys ≡ dot xs (flip k ys)
dot-flip zero (a ∷ b ∷ xs) (c ∷ d ∷ ys) h = ring-ℚ (a ∷ b ∷ c ∷ d ∷ dot xs ys ∷ []) (var 1 ⊗ var 2 ⊕ (var 0 ⊗ var 3 ⊕ var 4)) (var 0 ⊗ var 3 ⊕ (var 1 ⊗ var 2 ⊕ var 4)) tt
dot-flip zero (a ∷ b ∷ xs) (c ∷ []) h = absurd (omega arith)
dot-flip zero (a ∷ b ∷ xs) [] h = absurd (omega arith)
dot-flip zero (a ∷ []) (c ∷ d ∷ ys) h = absurd (omega arith)
dot-flip zero (a ∷ []) (c ∷ []) h = refl
dot-flip zero (a ∷ []) [] h = absurd (omega arith)
dot-flip zero [] (c ∷ ys) h = absurd (omega arith)
dot-flip zero [] [] h = refl
dot-flip (suc k) (x ∷ xs) (y ∷ ys) h = ap (λ v. x *ℚ y +ℚ v) (dot-flip k xs ys (omega arith))
dot-flip (suc k) (x ∷ xs) [] h = absurd (omega arith)
dot-flip (suc k) [] (y ∷ ys) h = absurd (omega arith)
dot-flip (suc k) [] [] h = refl

below-flip : (n k : ℕ) (cs : List ℕ) → ((i : ℕ) → i < length cs → get_or cs i 0 < n) → (i : ℕ) → i < length (flip k cs) → get_or (flip k cs) i 0 < n
below-flip n zero (a ∷ b ∷ cs) h zero p = h 1 (omega arith)
below-flip n zero (a ∷ b ∷ cs) h (suc zero) p = h 0 (omega arith)
below-flip n zero (a ∷ b ∷ cs) h (suc (suc i)) p = h (suc (suc i)) p
below-flip n zero (a ∷ []) h i p = h i p
below-flip n zero [] h i p = h i p
below-flip n (suc k) (c ∷ cs) h zero p = h 0 (omega arith)
below-flip n (suc k) (c ∷ cs) h (suc i) p = below-flip n k cs (λ i q. h (suc i) (omega arith)) i (omega arith)
below-flip n (suc k) [] h i p = h i p

module _ (rows : Rows) (n : ℕ) (cols : List ℕ) (tab : ℕ → List ℚ) (t : Tabled rows n cols tab) where
  abbrev flipped : ℕ → ℕ → List ℚ
  flipped k v = flip k (tab v)

  at_flip : (k v : ℕ) (y : List ℚ) → v < n → length y ≡ length cols → dot (flipped k v) y ≡ dot (tab v) (flip k y)
  at_flip k v y h l = dot-flip k (tab v) y (t.width v h ∙ sym l)

  pub flip_tabled : (k : ℕ) → Tabled rows n (flip k cols) (flipped k)
  flip_tabled k = let lc = length-flip k cols in record {
    known = t.known;
    named = below-flip n k cols t.named;
    width = λ v h. length-flip k (tab v) ∙ t.width v h ∙ sym lc;
    own = λ y l.
        read-flip (λ c. dot (flipped k c) y) k cols
        ∙ ap (flip k) (read_same (λ c. dot (flipped k c) y) (λ c. dot (tab c) (flip k y)) cols (λ i h. at_flip k (get_or cols i 0) y (t.named i h) (l ∙ lc)) ∙ t.own (flip k y) (length-flip k y ∙ l ∙ lc))
        ∙ flip_flip k y;
    linear = λ y l v f e.
        let b = t.known v f e in
        at_flip k v y b.0 (l ∙ lc) ∙ t.linear (flip k y) (length-flip k y ∙ l ∙ lc) v f e
        ∙ value_same (λ x. dot (tab x) (flip k y)) (λ x. dot (flipped k x) y) n f b.1 (λ x h. sym (at_flip k x y h (l ∙ lc)));
    expressed = λ σ g v h.
        t.expressed σ g v h ∙ ap (λ y. dot (tab v) y) (sym (flip_flip k (read σ cols)))
        ∙ sym (at_flip k v (flip k (read σ cols)) h (length-flip k (read σ cols) ∙ length-read σ cols)) ∙ ap (λ y. dot (flipped k v) y) (sym (read-flip σ k cols));
  }

-- ---- a new row: the sum of its variables' rows, each times its coefficient
pub length-zeros : (n : ℕ) → length (zeros n) ≡ n
length-zeros zero = refl
length-zeros (suc n) = ap suc (length-zeros n)

pub dot-zeros : (n : ℕ) (y : List ℚ) → dot (zeros n) y ≡ zero_ℚ
dot-zeros zero y = refl
dot-zeros (suc n) [] = refl
dot-zeros (suc n) (y ∷ ys) = ap (λ v. zero_ℚ *ℚ y +ℚ v) (dot-zeros n ys) ∙ Q.add-zero (zero_ℚ *ℚ y) ∙ zero-mul y

pub length-summed : (tab : ℕ → List ℚ) (acc : List ℚ) (n m : ℕ) (f : Form) → length acc ≡ m → Below n f → ((v : ℕ) → v < n → length (tab v) ≡ m) → length (summed tab acc f) ≡ m
length-summed tab acc n m [] h b w = h
length-summed tab acc n m (t ∷ f) h b w =
    let l = length-scale t.by (tab t.of) ∙ w t.of b.0 in
    length-summed tab (add_rows acc (scale_row t.by (tab t.of))) n m f (length_add acc (scale_row t.by (tab t.of)) (h ∙ sym l) ∙ h) b.1 w

dot-summed : (tab : ℕ → List ℚ) (acc : List ℚ) (n m : ℕ) (f : Form) (y : List ℚ) → length acc ≡ m → Below n f → ((v : ℕ) → v < n → length (tab v) ≡ m) → dot (summed tab acc f) y ≡ dot acc y +ℚ value (λ x. dot (tab x) y) f
dot-summed tab acc n m [] y h b w = sym (Q.add-zero (dot acc y))
dot-summed tab acc n m (t ∷ f) y h b w =
    let r = scale_row t.by (tab t.of) in
    let l = length-scale t.by (tab t.of) ∙ w t.of b.0 in
    dot-summed tab (add_rows acc r) n m f y (length_add acc r (h ∙ sym l) ∙ h) b.1 w
    ∙ ap (λ v. v +ℚ value (λ x. dot (tab x) y) f) (dot-add acc r y (h ∙ sym l) ∙ ap (λ v. dot acc y +ℚ v) (dot-scale t.by (tab t.of) y))
    ∙ Q.add_assoc (dot acc y) (t.by *ℚ dot (tab t.of) y) (value (λ x. dot (tab x) y) f)

zero_add : (q : ℚ) → zero_ℚ +ℚ q ≡ q
zero_add q = Q.add_comm zero_ℚ q ∙ Q.add-zero q

module _ (rows rows' : Rows) (n : ℕ) (cols : List ℕ) (tab tab' : ℕ → List ℚ) (f : Form) (t : Tabled rows n cols tab) (b : Below n f)
    (new : rows' n ≡ Some f) (old : (v : ℕ) → (v ≡ n → ⊥) → rows' v ≡ rows v)
    (new_row : tab' n ≡ summed tab (zeros (length cols)) f) (old_row : (v : ℕ) → v < n → tab' v ≡ tab v) where
  less_apart : (m n : ℕ) → m < n → m ≡ n → ⊥
  less_apart m n h e = omega arith

  least : (v : ℕ) → v < suc n → (v ≡ n → ⊥) → v < n
  least v h d = elim (split v n h) [ inl p ↦ p | inr e ↦ absurd (d e) ]
    where
      split : (v n : ℕ) → v < suc n → (v < n) ⊎ (v ≡ n)
      split zero zero h = inr refl
      split zero (suc n) h = inl (omega arith)
      split (suc v) zero h = absurd (omega arith)
      split (suc v) (suc n) h = elim (split v n (omega arith)) [ inl p ↦ inl (omega arith) | inr e ↦ inr (ap suc e) ]

  grow_below : (m : ℕ) (g : Form) → Below m g → Below (suc m) g
  grow_below m [] h = tt
  grow_below m (x ∷ g) h = (omega (arith, h.0), grow_below m g h.1)

  same_form : (g : Form) → Some g ≡ Some f → g ≡ f
  same_form g e = cc

  known_then : (v : ℕ) (g : Form) → Dec (v ≡ n) → rows' v ≡ Some g → (v < suc n) × Below n g
  known_then v g (yes e) r = (omega arith, subst (λ h. Below n h) (sym (same_form g (sym r ∙ ap rows' e ∙ new))) b)
  known_then v g (no d) r = let k = t.known v g (sym (old v d) ∙ r) in (omega (arith, k.0), k.1)

  old_solves : (σ : ℕ → ℚ) → Solves rows' σ → Solves rows σ
  old_solves σ g v h r = g v h (old v (less_apart v n (t.known v h r).0) ∙ r)

  dot_old : (v : ℕ) (y : List ℚ) → v < n → dot (tab' v) y ≡ dot (tab v) y
  dot_old v y h = ap (λ l. dot l y) (old_row v h)

  dot_new : (y : List ℚ) → dot (tab' n) y ≡ value (λ x. dot (tab x) y) f
  dot_new y =
      ap (λ l. dot l y) new_row ∙ dot-summed tab (zeros (length cols)) n (length cols) f y (length-zeros (length cols)) b t.width
      ∙ ap (λ v. v +ℚ value (λ x. dot (tab x) y) f) (dot-zeros (length cols) y) ∙ zero_add (value (λ x. dot (tab x) y) f)

  width_then : (v : ℕ) → Dec (v ≡ n) → v < suc n → length (tab' v) ≡ length cols
  width_then v (yes e) h = ap (λ z. length (tab' z)) e ∙ ap length new_row ∙ length-summed tab (zeros (length cols)) n (length cols) f (length-zeros (length cols)) b t.width
  width_then v (no d) h = let k = least v h d in ap length (old_row v k) ∙ t.width v k

  linear_new : (y : List ℚ) → length y ≡ length cols → (v : ℕ) (g : Form) → Dec (v ≡ n) → rows' v ≡ Some g → dot (tab' v) y ≡ value (λ x. dot (tab' x) y) g
  linear_new y l v g (yes e) r =
      ap (λ z. dot (tab' z) y) e ∙ dot_new y ∙ value_same (λ x. dot (tab x) y) (λ x. dot (tab' x) y) n f b (λ x h. sym (dot_old x y h))
      ∙ ap (value (λ x. dot (tab' x) y)) (sym (same_form g (sym r ∙ ap rows' e ∙ new)))
  linear_new y l v g (no d) r =
      let q = sym (old v d) ∙ r in let k = t.known v g q in
      dot_old v y k.0 ∙ t.linear y l v g q ∙ value_same (λ x. dot (tab x) y) (λ x. dot (tab' x) y) n g k.1 (λ x h. sym (dot_old x y h))

  expressed_new : (σ : ℕ → ℚ) → Solves rows' σ → (v : ℕ) → Dec (v ≡ n) → v < suc n → σ v ≡ dot (tab' v) (read σ cols)
  expressed_new σ g v (yes e) h =
      ap σ e ∙ g n f new ∙ value_same σ (λ x. dot (tab x) (read σ cols)) n f b (λ x k. t.expressed σ (old_solves σ g) x k)
      ∙ sym (dot_new (read σ cols)) ∙ ap (λ z. dot (tab' z) (read σ cols)) (sym e)
  expressed_new σ g v (no d) h = let k = least v h d in t.expressed σ (old_solves σ g) v k ∙ sym (dot_old v (read σ cols) k)

  up : (m : ℕ) → m < n → m < suc n
  up m h = omega arith

  pub row_tabled : Tabled rows' (suc n) cols tab'
  row_tabled = record {
    known = λ v g r. let k = known_then v g (ℕ_discrete v n) r in (k.0, grow_below n g k.1);
    named = λ k h. up (get_or cols k 0) (t.named k h);
    width = λ v h. width_then v (ℕ_discrete v n) h;
    own = λ y l. read_same (λ c. dot (tab' c) y) (λ c. dot (tab c) y) cols (λ k h. dot_old (get_or cols k 0) y (t.named k h)) ∙ t.own y l;
    linear = λ y l v g r. linear_new y l v g (ℕ_discrete v n) r;
    expressed = λ σ g v h. expressed_new σ g v (ℕ_discrete v n) h;
  }

-- ---- a new variable with no row: a column of its own
abbrev pub front : ℕ → List ℚ → List ℚ
front zero ys = []
front (suc m) [] = []
front (suc m) (y ∷ ys) = y ∷ front m ys

length-front : (m : ℕ) (ys : List ℚ) → length ys ≡ suc m → length (front m ys) ≡ m
length-front zero ys h = refl
length-front (suc m) [] h = absurd (omega arith)
length-front (suc m) (y ∷ ys) h = ap suc (length-front m ys (omega arith))

dot-front : (xs ys : List ℚ) → dot xs ys ≡ dot xs (front (length xs) ys)
dot-front [] ys = refl
dot-front (x ∷ xs) [] = refl
dot-front (x ∷ xs) (y ∷ ys) = ap (λ v. x *ℚ y +ℚ v) (dot-front xs ys)

dot-last : (xs ys : List ℚ) (a : ℚ) → length ys ≡ suc (length xs) → dot (xs ++ a ∷ []) ys ≡ dot xs ys +ℚ a *ℚ at ys (length xs)
dot-last [] [] a h = absurd (omega arith)
dot-last [] (y ∷ ys) a h = Q.add_comm (a *ℚ y) zero_ℚ
dot-last (x ∷ xs) [] a h = absurd (omega arith)
dot-last (x ∷ xs) (y ∷ ys) a h = ap (λ v. x *ℚ y +ℚ v) (dot-last xs ys a (omega arith)) ∙ sym (Q.add_assoc (x *ℚ y) (dot xs ys) (a *ℚ at ys (length xs)))

read-last : (σ : ℕ → ℚ) (cs : List ℕ) (c : ℕ) → read σ (cs ++ c ∷ []) ≡ read σ cs ++ σ c ∷ []
read-last σ [] c = refl
read-last σ (d ∷ cs) c = ap (λ l. σ d ∷ l) (read-last σ cs c)

split_last : (m : ℕ) (ys : List ℚ) → length ys ≡ suc m → front m ys ++ at ys m ∷ [] ≡ ys
split_last m [] h = absurd (omega arith)
split_last zero (y ∷ []) h = refl
split_last zero (y ∷ z ∷ ys) h = absurd (omega arith)
split_last (suc m) (y ∷ ys) h = ap (λ l. y ∷ l) (split_last m ys (omega arith))

front-last : (xs : List ℚ) (a : ℚ) → front (length xs) (xs ++ a ∷ []) ≡ xs
front-last [] a = refl
front-last (x ∷ xs) a = ap (λ l. x ∷ l) (front-last xs a)

at-last : (xs : List ℚ) (a : ℚ) → at (xs ++ a ∷ []) (length xs) ≡ a
at-last [] a = refl
at-last (x ∷ xs) a = at-last xs a

pub length-last : {A : Type 0} (xs : List A) (a : A) → length (xs ++ a ∷ []) ≡ suc (length xs)
length-last [] a = refl
length-last (x ∷ xs) a = ap suc (length-last xs a)

get-last : (cs : List ℕ) (n k : ℕ) → ((i : ℕ) → i < length cs → get_or cs i 0 < n) → k < length (cs ++ n ∷ []) → get_or (cs ++ n ∷ []) k 0 < suc n
get-last [] n zero h p = omega arith
get-last [] n (suc k) h p = absurd (omega arith)
get-last (c ∷ cs) n zero h p = omega (arith, h 0 (omega arith))
get-last (c ∷ cs) n (suc k) h p = get-last cs n k (λ i q. h (suc i) (omega arith)) (omega arith)

zero_more : (d z : ℚ) → d +ℚ zero_ℚ *ℚ z ≡ d
zero_more d z = ap (λ v. d +ℚ v) (zero-mul z) ∙ Q.add-zero d

only_last : (z : ℚ) → zero_ℚ +ℚ one_ℚ *ℚ z ≡ z
only_last z = zero_add (one_ℚ *ℚ z) ∙ Q.mul_comm_ℚ one_ℚ z ∙ Q.mul-one z

module _ (rows : Rows) (n : ℕ) (cols : List ℕ) (tab tab' : ℕ → List ℚ) (t : Tabled rows n cols tab)
    (new_row : tab' n ≡ zeros (length cols) ++ one_ℚ ∷ []) (old_row : (v : ℕ) → v < n → tab' v ≡ tab v ++ zero_ℚ ∷ []) where
  dot_was : (v : ℕ) (y : List ℚ) → v < n → length y ≡ suc (length cols) → dot (tab' v) y ≡ dot (tab v) (front (length cols) y)
  dot_was v y h l =
      let w = t.width v h in
      ap (λ r. dot r y) (old_row v h) ∙ dot-last (tab v) y zero_ℚ (l ∙ ap suc (sym w)) ∙ zero_more (dot (tab v) y) (at y (length (tab v)))
      ∙ dot-front (tab v) y ∙ ap (λ m. dot (tab v) (front m y)) w

  dot_made : (y : List ℚ) → length y ≡ suc (length cols) → dot (tab' n) y ≡ at y (length cols)
  dot_made y l =
      ap (λ r. dot r y) new_row ∙ dot-last (zeros (length cols)) y one_ℚ (l ∙ ap suc (sym (length-zeros (length cols))))
      ∙ ap (λ d. d +ℚ one_ℚ *ℚ at y (length (zeros (length cols)))) (dot-zeros (length cols) y)
      ∙ only_last (at y (length (zeros (length cols)))) ∙ ap (at y) (length-zeros (length cols))

  low_or_n : (v : ℕ) → v < suc n → (v ≡ n → ⊥) → v < n
  low_or_n v h d = under v n h d
    where
      under : (v n : ℕ) → v < suc n → (v ≡ n → ⊥) → v < n
      under zero zero h d = absurd (d refl)
      under zero (suc n) h d = omega arith
      under (suc v) zero h d = absurd (omega arith)
      under (suc v) (suc n) h d = let k = under v n (omega arith) (λ e. d (ap suc e)) in omega arith

  wide : (v : ℕ) → Dec (v ≡ n) → v < suc n → length (tab' v) ≡ suc (length cols)
  wide v (yes e) h = ap (λ z. length (tab' z)) e ∙ ap length new_row ∙ length-last (zeros (length cols)) one_ℚ ∙ ap suc (length-zeros (length cols))
  wide v (no d) h = let k = low_or_n v h d in ap length (old_row v k) ∙ length-last (tab v) zero_ℚ ∙ ap suc (t.width v k)

  expressed_wide : (σ : ℕ → ℚ) → Solves rows σ → (v : ℕ) → Dec (v ≡ n) → v < suc n → σ v ≡ dot (tab' v) (read σ (cols ++ n ∷ []))
  expressed_wide σ g v (yes e) h =
      let ys = read σ cols in
      ap σ e ∙ sym (at-last ys (σ n)) ∙ ap (at (ys ++ σ n ∷ [])) (length-read σ cols)
      ∙ sym (dot_made (ys ++ σ n ∷ []) (length-last ys (σ n) ∙ ap suc (length-read σ cols)))
      ∙ ap (λ y. dot (tab' n) y) (sym (read-last σ cols n)) ∙ ap (λ z. dot (tab' z) (read σ (cols ++ n ∷ []))) (sym e)
  expressed_wide σ g v (no d) h =
      let ys = read σ cols in let k = low_or_n v h d in
      t.expressed σ g v k ∙ ap (λ y. dot (tab v) y) (sym (front-last ys (σ n)) ∙ ap (λ m. front m (ys ++ σ n ∷ [])) (length-read σ cols))
      ∙ sym (dot_was v (ys ++ σ n ∷ []) k (length-last ys (σ n) ∙ ap suc (length-read σ cols))) ∙ ap (λ y. dot (tab' v) y) (sym (read-last σ cols n))

  more_known : (v : ℕ) (f : Form) → rows v ≡ Some f → (v < suc n) × Below (suc n) f
  more_known v f e = let k = t.known v f e in (omega (arith, k.0), grow_form n f k.1)
    where
      grow_form : (m : ℕ) (g : Form) → Below m g → Below (suc m) g
      grow_form m [] h = tt
      grow_form m (x ∷ g) h = (omega (arith, h.0), grow_form m g h.1)

  pub variable_tabled : Tabled rows (suc n) (cols ++ n ∷ []) tab'
  variable_tabled = let lc = length-last cols n in record {
    known = more_known;
    named = λ k h. get-last cols n k t.named h;
    width = λ v h. wide v (ℕ_discrete v n) h ∙ sym lc;
    own = λ y l.
        let m = l ∙ lc in
        read-last (λ c. dot (tab' c) y) cols n
        ∙ ap (λ r. r ++ dot (tab' n) y ∷ [])
        (read_same (λ c. dot (tab' c) y) (λ c. dot (tab c) (front (length cols) y)) cols (λ k h. dot_was (get_or cols k 0) y (t.named k h) m) ∙ t.own (front (length cols) y) (length-front (length cols) y m))
        ∙ ap (λ d. front (length cols) y ++ d ∷ []) (dot_made y m) ∙ split_last (length cols) y m;
    linear = λ y l v f e.
        let m = l ∙ lc in let b = t.known v f e in
        dot_was v y b.0 m ∙ t.linear (front (length cols) y) (length-front (length cols) y m) v f e
        ∙ value_same (λ x. dot (tab x) (front (length cols) y)) (λ x. dot (tab' x) y) n f b.1 (λ x h. sym (dot_was x y h m));
    expressed = λ σ g v h. expressed_wide σ g v (ℕ_discrete v n) h;
  }
