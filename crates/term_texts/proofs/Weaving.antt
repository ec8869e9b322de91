-- The text of a shape is what its gaps and the texts of its arguments weave.
use Rattle.std.proofs.Common.{◌≡◌, ◌∙◌, ℕ, suc, ◌+◌, ◌<◌, Bool, true, false, List, [], ◌∷◌, ◌++◌, codes, length, Some, None, refl, sym, ap, arith, append_assoc, append-nil, cond}
use Rattle.std.specs.Prelude.{nat_lt, decimal, slice_get, if◌then◌else◌}
use Rattle.std.proofs.lemmas.Bool.{eq-eqb, ne_eqb, le-ltb, lt-ltb}
use Rattle.std.proofs.lemmas.List.{length-map, length-append}
use Rattle.rationals.specs.Rational.{ℚ}
use Rattle.y_tree.specs.declared.BvAtOp.{BvAtOp}
use Rattle.y_tree.specs.declared.BvAtOp.TheVariants as at
use Rattle.y_tree.specs.Values.{number}
use Rattle.value_texts.specs.Texts.{value_text}
use Rattle.term_shapes.specs.declared.handles.Term.{Term}
use Rattle.term_shapes.specs.declared.lists.Monomial.{Monomial}
use Rattle.term_shapes.specs.declared.shapes.Shape.{Shape}
use Rattle.term_shapes.specs.declared.shapes.Shape.TheVariants as shape
use Rattle.term_shapes.specs.Shapes.{args_of}
use Rattle.term_table.specs.World.{World}
use Rattle.term_texts.specs.TypeTexts.{spaced}
use Rattle.term_texts.specs.TermTexts.{op_word, at_word, form, joined, behind_keys, keys_and_value, is_one, is_zero, part, parts, sum_text, at_text, shape_text}
use Rattle.term_texts.specs.Gaps.{form_gap, application_gap, update_gap, bound_gap, opened, closed, earlier, is_wrapped, sum_start, sum_end, sum_gap, at_gap, gap, woven}

-- where all gaps but the last are spaces
tail : (g : ℕ → List ℕ) (close : List ℕ) (n : ℕ) → ((j : ℕ) → 0 < j → j < n → g j ≡ codes " ") → g n ≡ close → (i : ℕ) (xs : List (List ℕ)) → 0 < i → i + length xs ≡ n → woven g i xs ≡ spaced xs ++ close
tail g close n mid end i [] p e = ap g (omega (arith, e)) ∙ end
tail g close n mid end i (x ∷ xs) p e =
    ap (λ z. z ++ x ++ woven g (i + 1) xs) (mid i p (omega (arith, e)))
    ∙ ap (λ z. codes " " ++ x ++ z) (tail g close n mid end (i + 1) xs (omega arith) (omega (arith, e)))
    ∙ sym (append_assoc (codes " " ++ x) (spaced xs) close)

regroup : (p a x s c : List ℕ) → ((p ++ a) ++ x) ++ (s ++ c) ≡ (p ++ ((a ++ x) ++ s)) ++ c
regroup p a x s c = simp append_assoc

-- ---- a word with its arguments
form_mid : (word : List ℕ) (n j : ℕ) → 0 < j → j < n → form_gap word n j ≡ codes " "
form_mid word n j p l = rw (ne_eqb j 0 (λ e. omega (arith, e, p)), ne_eqb j n (λ e. omega (arith, e, l))) refl

form_end : (word : List ℕ) (n : ℕ) → 0 < n → form_gap word n n ≡ codes ")"
form_end word n p = rw (ne_eqb n 0 (λ e. omega (arith, e, p)), eq-eqb n n refl) refl

form_text : (word : List ℕ) (n : ℕ) (xs : List (List ℕ)) → length xs ≡ n → woven (form_gap word n) 0 xs ≡ form word xs
form_text word n [] e = rw (eq-eqb 0 n e) (ap (λ z. z ++ codes ")") (sym (append-nil (codes "(" ++ word))))
form_text word n (x ∷ xs) e =
    ap (λ b. (((codes "(" ++ word) ++ cond b (codes ")") (codes " ")) ++ x) ++ woven (form_gap word n) 1 xs) (ne_eqb 0 n (λ f. omega (arith, e, f)))
    ∙ ap (λ z. (((codes "(" ++ word) ++ codes " ") ++ x) ++ z) (tail (form_gap word n) (codes ")") n (form_mid word n) (form_end word n (omega (arith, e))) 1 xs (omega arith) (omega (arith, e)))
    ∙ regroup (codes "(" ++ word) (codes " ") x (spaced xs) (codes ")")

-- ---- an application
app_mid : (n j : ℕ) → 0 < j → j < n → application_gap n j ≡ codes " "
app_mid n j p l = rw (ne_eqb j 0 (λ e. omega (arith, e, p)), ne_eqb j n (λ e. omega (arith, e, l))) refl

app_end : (n : ℕ) → 0 < n → application_gap n n ≡ codes ")"
app_end n p = rw (ne_eqb n 0 (λ e. omega (arith, e, p)), eq-eqb n n refl) refl

app_text : (n : ℕ) (xs : List (List ℕ)) → 0 < n → length xs ≡ n → woven (application_gap n) 0 xs ≡ codes "(" ++ joined xs ++ codes ")"
app_text n [] p e = absurd (omega (arith, p, e))
app_text n (x ∷ xs) p e =
    ap (λ z. codes "(" ++ x ++ z) (tail (application_gap n) (codes ")") n (app_mid n) (app_end n p) 1 xs (omega arith) (omega (arith, e)))
    ∙ ap (λ z. codes "(" ++ z) (sym (append_assoc x (spaced xs) (codes ")")))

-- ---- a comparison with 0
bound_text : (xs : List (List ℕ)) → length xs ≡ 1 → woven bound_gap 0 xs ≡ codes "(>=" ++ spaced xs ++ codes " 0)"
bound_text [] e = absurd (omega (arith, e))
bound_text (x ∷ []) e = ap (λ z. codes "(>= " ++ z ++ codes " 0)") (sym (append-nil x))
bound_text (x ∷ y ∷ ys) e = absurd (omega (arith, e))

-- ---- an operator on one bit-vector with numbers
regroup_extract : (o i s j x c : List ℕ) → (((((o ++ i) ++ s) ++ j) ++ s) ++ x) ++ c ≡ ((((o ++ i) ++ s) ++ j) ++ ((s ++ x) ++ [])) ++ c
regroup_extract o i s j x c = simp (append_assoc, append-nil)

regroup_at : (o s x k c : List ℕ) → ((o ++ s) ++ x) ++ ((s ++ k) ++ c) ≡ (((o ++ ((s ++ x) ++ [])) ++ s) ++ k) ++ c
regroup_at o s x k c = simp (append_assoc, append-nil)

at_woven : (op : BvAtOp) (i j : ℕ) (xs : List (List ℕ)) → length xs ≡ 1 → woven (at_gap op i j) 0 xs ≡ at_text op i j xs
at_woven op i j [] e = absurd (omega (arith, e))
at_woven op i j (x ∷ y ∷ ys) e = absurd (omega (arith, e))
at_woven at.Extract i j (x ∷ []) e = regroup_extract (codes "(bv-extract ") (decimal i) (codes " ") (decimal j) x (codes ")")
at_woven at.ShiftLeft0 k j (x ∷ []) e = regroup_at (codes "(" ++ at_word at.ShiftLeft0) (codes " ") x (decimal k) (codes ")")
at_woven at.ShiftRight0 k j (x ∷ []) e = regroup_at (codes "(" ++ at_word at.ShiftRight0) (codes " ") x (decimal k) (codes ")")
at_woven at.SignExtend k j (x ∷ []) e = regroup_at (codes "(" ++ at_word at.SignExtend) (codes " ") x (decimal k) (codes ")")
at_woven at.ZeroExtend k j (x ∷ []) e = regroup_at (codes "(" ++ at_word at.ZeroExtend) (codes " ") x (decimal k) (codes ")")

-- ---- an update
up_first : (n : ℕ) → 1 < n → update_gap n 1 ≡ codes " ("
up_first n l = rw (le-ltb n 1 (omega (arith, l)), ne_eqb 1 n (λ e. omega (arith, e, l))) refl

up_mid : (n i : ℕ) → 1 < i → i < n → update_gap n i ≡ codes " "
up_mid n i p l = rw (ne_eqb i 0 (λ e. omega (arith, e, p)), le-ltb n i (omega (arith, l)), ne_eqb i n (λ e. omega (arith, e, l)), ne_eqb i 1 (λ e. omega (arith, e, p))) refl

up_last : (n i : ℕ) → 1 < i → i ≡ n → update_gap n i ≡ codes ") "
up_last n i p l = rw (ne_eqb i 0 (λ e. omega (arith, e, p)), le-ltb n i (omega (arith, l)), eq-eqb i n l, ne_eqb i 1 (λ e. omega (arith, e, p))) refl

up_end : (n i : ℕ) → n < i → update_gap n i ≡ codes ")"
up_end n i l = rw (ne_eqb i 0 (λ e. omega (arith, e, l)), lt-ltb n i l) refl

up_rest : (n i : ℕ) (x : List ℕ) (xs : List (List ℕ)) → 1 < i → i + length xs ≡ n → woven (update_gap n) i (x ∷ xs) ≡ behind_keys x xs ++ codes ")"
up_rest n i x [] p e = ap (λ z. z ++ x ++ update_gap n (i + 1)) (up_last n i p (omega (arith, e))) ∙ ap (λ z. codes ") " ++ x ++ z) (up_end n (i + 1) (omega (arith, e)))
up_rest n i x (y ∷ ys) p e =
    ap (λ z. z ++ x ++ woven (update_gap n) (i + 1) (y ∷ ys)) (up_mid n i p (omega (arith, e)))
    ∙ ap (λ z. codes " " ++ x ++ z) (up_rest n (i + 1) y ys (omega (arith, p)) (omega (arith, e)))
    ∙ sym (append_assoc (codes " " ++ x) (behind_keys y ys) (codes ")"))

up_keys : (n : ℕ) (xs : List (List ℕ)) → 0 < n → length xs ≡ n → woven (update_gap n) 1 xs ≡ keys_and_value xs ++ codes ")"
up_keys n [] p e = absurd (omega (arith, p, e))
up_keys n (x ∷ []) p e = ap (λ m. woven (update_gap m) 1 (x ∷ [])) (sym e)
up_keys n (x ∷ y ∷ ys) p e =
    ap (λ z. z ++ x ++ woven (update_gap n) 2 (y ∷ ys)) (up_first n (omega (arith, e)))
    ∙ ap (λ z. codes " (" ++ x ++ z) (up_rest n 2 y ys (omega arith) (omega (arith, e)))
    ∙ sym (append_assoc (codes " (" ++ x) (behind_keys y ys) (codes ")"))

up_text : (n : ℕ) (x : List ℕ) (xs : List (List ℕ)) → 0 < n → length xs ≡ n → woven (update_gap n) 0 (x ∷ xs) ≡ codes "(update " ++ x ++ keys_and_value xs ++ codes ")"
up_text n x xs p e = ap (λ z. codes "(update " ++ x ++ z) (up_keys n xs p e) ∙ sym (append_assoc (codes "(update " ++ x) (keys_and_value xs) (codes ")"))

-- ---- a sum
-- the monomials from place i on
abbrev Follows : List Monomial → ℕ → List Monomial → Type 0
Follows ms i rest = (j : ℕ) → slice_get ms (i + j) ≡ slice_get rest j

follows_on : (ms : List Monomial) (i : ℕ) (m : Monomial) (rest : List Monomial) → Follows ms i (m ∷ rest) → Follows ms (i + 1) rest
follows_on ms i m rest h j = ap (slice_get ms) (omega arith) ∙ h (suc j)

follows_first : (m : Monomial) (ms : List Monomial) → Follows (m ∷ ms) 1 ms
follows_first m ms j = let e : 1 + j ≡ suc j = omega arith in ap (slice_get (m ∷ ms)) e

here : (ms : List Monomial) (i : ℕ) (rest : List Monomial) → Follows ms i rest → slice_get ms i ≡ slice_get rest 0
here ms i rest h = ap (slice_get ms) (omega arith) ∙ h 0

before : (ms : List Monomial) (i : ℕ) (p : Monomial) → slice_get ms i ≡ Some p → earlier ms (i + 1) ≡ Some p
before ms i p h = rw (ne_eqb (i + 1) 0 (λ e. omega (arith, e))) (ap (slice_get ms) (omega arith) ∙ h)

part_by : (m : Monomial) (x : List ℕ) → part m.factor x ≡ (opened (Some m) ++ x) ++ closed (Some m)
part_by m x = by (is_one m.factor)
  where
    by : (b : Bool) → cond b x (codes "(* " ++ value_text (number m.factor) ++ codes " " ++ x ++ codes ")") ≡ (cond b [] (codes "(* " ++ value_text (number m.factor) ++ codes " ") ++ x) ++ cond b [] (codes ")")
    by true = sym (append-nil x)
    by false = refl

constant_end : (b : Bool) (v : List ℕ) → spaced (cond b [] (v ∷ [])) ≡ cond b [] (codes " " ++ v)
constant_end true v = refl
constant_end false v = append-nil (codes " " ++ v)

-- whether there are more parts
abbrev is_more : List (List ℕ) → Bool
is_more [] = false
is_more (x ∷ xs) = true

abbrev wrap_end : Bool → List ℕ
wrap_end b = if b then codes ")" else []

regroup_sum : (c s o x k r w : List ℕ) → (((c ++ s) ++ o) ++ x) ++ (k ++ (r ++ w)) ≡ c ++ (((s ++ ((o ++ x) ++ k)) ++ r) ++ w)
regroup_sum c s o x k r w = simp append_assoc

sum_last : (ms : List Monomial) (q : ℚ) (i : ℕ) (p : Monomial) → 0 < i → earlier ms i ≡ Some p → slice_get ms i ≡ None → i ≡ length ms
    → sum_gap ms q i ≡ closed (Some p) ++ (spaced (parts [] [] q) ++ wrap_end (is_wrapped (length ms) q))
sum_last ms q i p l before none e =
    rw (before, none, ne_eqb (length ms) 0 (λ f. omega (arith, e, f, l)), ne_eqb i 0 (λ f. omega (arith, f, l)), eq-eqb i (length ms) e)
    (append-nil (closed (Some p) ++ sum_end (length ms) q) ∙ ap (λ z. closed (Some p) ++ (z ++ wrap_end (is_wrapped (length ms) q))) (sym (constant_end (is_zero q) (value_text (number q)))))

sum_mid : (ms : List Monomial) (q : ℚ) (i : ℕ) (p m : Monomial) → 0 < i → earlier ms i ≡ Some p → slice_get ms i ≡ Some m → i < length ms → sum_gap ms q i ≡ (closed (Some p) ++ codes " ") ++ opened (Some m)
sum_mid ms q i p m l before here e =
    rw (before, here, ne_eqb (length ms) 0 (λ f. omega (arith, e, f, l)), ne_eqb i 0 (λ f. omega (arith, f, l)), ne_eqb i (length ms) (λ f. omega (arith, e, f))) refl

sum_tail : (ms : List Monomial) (q : ℚ) (i : ℕ) (p : Monomial) (rest : List Monomial) (xs : List (List ℕ)) → 0 < i → earlier ms i ≡ Some p → Follows ms i rest → i + length rest ≡ length ms → length xs ≡ length rest
    → woven (sum_gap ms q) i xs ≡ closed (Some p) ++ (spaced (parts rest xs q) ++ wrap_end (is_wrapped (length ms) q))
sum_tail ms q i p [] [] l b f e n = sum_last ms q i p l b (here ms i [] f) (omega (arith, e))
sum_tail ms q i p [] (x ∷ xs) l b f e n = absurd (omega (arith, n))
sum_tail ms q i p (m ∷ rest) [] l b f e n = absurd (omega (arith, n))
sum_tail ms q i p (m ∷ rest) (x ∷ xs) l b f e n =
    let there = here ms i (m ∷ rest) f in
    ap (λ z. (z ++ x) ++ woven (sum_gap ms q) (i + 1) xs) (sum_mid ms q i p m l b there (omega (arith, e)))
    ∙ ap (λ z. (((closed (Some p) ++ codes " ") ++ opened (Some m)) ++ x) ++ z) (sum_tail ms q (i + 1) m rest xs (omega arith) (before ms i m there) (follows_on ms i m rest f) (omega (arith, e)) (omega (arith, n)))
    ∙ regroup_sum (closed (Some p)) (codes " ") (opened (Some m)) x (closed (Some m)) (spaced (parts rest xs q)) (wrap_end (is_wrapped (length ms) q))
    ∙ ap (λ z. closed (Some p) ++ (((codes " " ++ z) ++ spaced (parts rest xs q)) ++ wrap_end (is_wrapped (length ms) q))) (sym (part_by m x))

no_parts : (b : Bool) (v : List ℕ) (q : ℚ) → v ≡ value_text (number q) → v ≡ sum_text (cond b [] (v ∷ [])) q
no_parts true v q e = e
no_parts false v q e = refl

starts : (b : Bool) (x : List ℕ) (ps : List (List ℕ)) (q : ℚ) → b ≡ is_more ps → (sum_start b ++ x) ++ (spaced ps ++ wrap_end b) ≡ sum_text (x ∷ ps) q
starts true x [] q e = absurd (cc e)
starts false x [] q e = append-nil x
starts true x (y ∷ ys) q e = ap (λ z. codes "(+ " ++ z) (sym (append_assoc x (spaced (y ∷ ys)) (codes ")")))
starts false x (y ∷ ys) q e = absurd (cc e)

wraps : (m : Monomial) (ms : List Monomial) (xs : List (List ℕ)) (q : ℚ) → length xs ≡ length ms → is_wrapped (suc (length ms)) q ≡ is_more (parts ms xs q)
wraps m [] [] q e = by (is_zero q)
  where
    by : (b : Bool) → cond b (nat_lt 1 1) (nat_lt 0 1) ≡ is_more (cond b [] (value_text (number q) ∷ []))
    by true = refl
    by false = refl
wraps m [] (x ∷ xs) q e = absurd (omega (arith, e))
wraps m (n ∷ ms) [] q e = absurd (omega (arith, e))
wraps m (n ∷ ms) (x ∷ xs) q e = rw (lt-ltb 1 (suc (suc (length ms))) (omega arith), lt-ltb 0 (suc (suc (length ms))) (omega arith)) (by (is_zero q))
  where
    by : (b : Bool) → cond b true true ≡ true
    by true = refl
    by false = refl

regroup_first : (s o x k r w : List ℕ) → ((s ++ o) ++ x) ++ (k ++ (r ++ w)) ≡ (s ++ ((o ++ x) ++ k)) ++ (r ++ w)
regroup_first s o x k r w = simp append_assoc

sum_first : (m : Monomial) (ms : List Monomial) (q : ℚ) → sum_gap (m ∷ ms) q 0 ≡ sum_start (is_wrapped (suc (length ms)) q) ++ opened (Some m)
sum_first m ms q = rw (ne_eqb (suc (length ms)) 0 (λ f. omega (arith, f))) refl

sum_woven : (ms : List Monomial) (q : ℚ) (xs : List (List ℕ)) → length xs ≡ length ms → woven (sum_gap ms q) 0 xs ≡ sum_text (parts ms xs q) q
sum_woven [] q [] e = append-nil (value_text (number q)) ∙ no_parts (is_zero q) (value_text (number q)) q refl
sum_woven [] q (x ∷ xs) e = absurd (omega (arith, e))
sum_woven (m ∷ ms) q [] e = absurd (omega (arith, e))
sum_woven (m ∷ ms) q (x ∷ xs) e =
    let b = is_wrapped (suc (length ms)) q in
    ap (λ z. (z ++ x) ++ woven (sum_gap (m ∷ ms) q) 1 xs) (sum_first m ms q)
    ∙ ap (λ z. ((sum_start b ++ opened (Some m)) ++ x) ++ z) (sum_tail (m ∷ ms) q 1 m ms xs (omega arith) (before (m ∷ ms) 0 m refl) (follows_first m ms) (omega arith) (omega (arith, e)))
    ∙ regroup_first (sum_start b) (opened (Some m)) x (closed (Some m)) (spaced (parts ms xs q)) (wrap_end b)
    ∙ ap (λ z. (sum_start b ++ z) ++ (spaced (parts ms xs q) ++ wrap_end b)) (sym (part_by m x))
    ∙ starts b (part m.factor x) (parts ms xs q) q (wraps m ms xs q (omega (arith, e)))

-- ---- all shapes
leaf : (x : List ℕ) (xs : List (List ℕ)) → length xs ≡ 0 → woven (λ i. x) 0 xs ≡ x
leaf x [] e = refl
leaf x (y ∷ ys) e = absurd (omega (arith, e))

pub shape_woven : (w : World) (t : Term) (s : Shape) (xs : List (List ℕ)) → length xs ≡ length (args_of s) → woven (gap w t s) 0 xs ≡ shape_text w t s xs
shape_woven w t shape.True xs e = leaf (gap w t shape.True 0) xs e
shape_woven w t shape.False xs e = leaf (gap w t shape.False 0) xs e
shape_woven w t (shape.Const n of) xs e = leaf (gap w t (shape.Const n of) 0) xs e
shape_woven w t (shape.Var n of) xs e = leaf (gap w t (shape.Var n of) 0) xs e
shape_woven w t (shape.Number q) xs e = leaf (gap w t (shape.Number q) 0) xs e
shape_woven w t (shape.Bits n a) xs e = leaf (gap w t (shape.Bits n a) 0) xs e
shape_woven w t (shape.Not a) xs e = form_text (codes "not") 1 xs e
shape_woven w t (shape.And ts) xs e = form_text (codes "and") (length ts) xs e
shape_woven w t (shape.Or ts) xs e = form_text (codes "or") (length ts) xs e
shape_woven w t (shape.Xor ts) xs e = form_text (codes "xor") (length ts) xs e
shape_woven w t (shape.Ite a b c) xs e = form_text (codes "ite") 3 xs e
shape_woven w t (shape.Eq a b) xs e = form_text (codes "=") 2 xs e
shape_woven w t (shape.Distinct ts) xs e = form_text (codes "distinct") (length ts) xs e
shape_woven w t (shape.App f ts) xs e = app_text (length ts + 1) xs (omega arith) (omega (arith, e))
shape_woven w t (shape.Update f ts v) [] e = absurd (omega (arith, e))
shape_woven w t (shape.Update f ts v) (x ∷ xs) e = up_text (length ts + 1) x xs (omega arith) (omega (arith, e, length-append ts (v ∷ [])))
shape_woven w t (shape.Sum ms q) xs e = sum_woven ms q xs (e ∙ length-map ms (λ (m : Monomial). m.of))
shape_woven w t (shape.NonNeg a) xs e = bound_text xs e
shape_woven w t (shape.Bv op ts) xs e = form_text (op_word op) (length ts) xs e
shape_woven w t (shape.BvAt op i j a) xs e = at_woven op i j xs e
