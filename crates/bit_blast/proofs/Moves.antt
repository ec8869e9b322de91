-- Shifts, stage by stage.
use Rattle.std.proofs.Common.{◌≡◌, ◌∙◌, ℕ, zero, suc, ◌+◌, ◌-◌, ◌*◌, ◌/◌, ◌%◌, ◌^◌, ◌<◌, ◌≤◌, Bool, true, false, not, cond, eqb, List, [], ◌∷◌, ◌++◌, length, map, take, drop, replicate, get_or, refl, sym, ap, ap₂, subst, ⊎_elim, arith}
use Rattle.std.proofs.lemmas.Bool.{cases_lt, le-leb, lt-leb, ne_eqb}
use Rattle.std.proofs.lemmas.List.{length-take-le, length-map, length-drop, length-append, length-replicate, map-append, take-map, drop-map, take_rest}
use Rattle.std.proofs.lemmas.Nat.{pow-add, mod-pow-add, shl-shr, shr-shr, one_shl, mul-mod_first}
use Rattle.std.proofs.Math.Nat.{mul-mod_left, mod-eq_of_lt, div-one, div-eq_of_lt, mul_assoc, mul-le-mul_right}
use Rattle.std.proofs.Math.Pow.{pow_mono}
use Rattle.clause_logic.specs.declared.Lit.{Lit}
use Rattle.clause_search.specs.Content.{Content}
use Rattle.clause_gates.specs.Built.{Built}
use Rattle.y_tree.specs.BitVectors.{differ, wrap, complement}
use Rattle.bit_blast.specs.declared.shifting.Way.{Way}
use Rattle.bit_blast.specs.declared.shifting.Way.TheVariants as way
use Rattle.clause_gates.specs.Bits.{value_under}
use Rattle.bit_blast.specs.Bits.{values_under, bit, number, number_under}
use Rattle.bit_blast.specs.Bitwise.{pairwise}
use Rattle.bit_blast.specs.Shifts.{moved, shift_plain, shift_filled, flipped_number}
use Rattle.clause_gates.specs.Circuits.{Satisfies, Grows, Computes, AllBelow}
use Rattle.bit_blast.specs.Circuits.{IsBits, IsWord}
use Rattle.clause_gates.proofs.Growth.{satisfies_old}
use Rattle.bit_blast.proofs.Numbers.{number_append, number_below, number_not, number_take, number_drop, number_zeros}
use Rattle.bit_blast.proofs.Lists.{below_append, below_replicate, below_take, below_drop, under_more}
use Rattle.bit_blast.proofs.Quotients.{choose_bits, under_split}

-- a shift without a case for large amounts
abbrev plain : Way → ℕ → ℕ → ℕ → ℕ
plain way.Up n x k = wrap n (x * 2 ^ k)
plain way.Down n x k = x / 2 ^ k

gone_up : (n x p : ℕ) → n ≤ p → wrap n (x * 2 ^ p) ≡ 0
gone_up n x p h =
    let e : p ≡ p - n + n = omega arith in
    ap (λ q. x * 2 ^ q % 2 ^ n) e ∙ ap (λ m. x * m % 2 ^ n) (pow-add 2 (p - n) n) ∙ ap (λ m. m % 2 ^ n) (sym (mul_assoc x (2 ^ (p - n)) (2 ^ n))) ∙ mul-mod_left (x * 2 ^ (p - n)) (2 ^ n)

gone_down : (n x p : ℕ) → x < 2 ^ n → n ≤ p → x / 2 ^ p ≡ 0
gone_down n x p h k = let m : 2 ^ n ≤ 2 ^ p = pow_mono k in div-eq_of_lt (omega (arith, m, h))

plain_is : (w : Way) (n x p : ℕ) → x < 2 ^ n → shift_plain w n x p ≡ plain w n x p
plain_is way.Up n x p h =
    ⊎_elim
    (λ (k : p < n). rw (lt-leb n p k) refl)
    (λ (k : n ≤ p). rw (le-leb n p k) (sym (gone_up n x p k)))
    (cases_lt p n)
plain_is way.Down n x p h =
    ⊎_elim
    (λ (k : p < n). rw (lt-leb n p k) refl)
    (λ (k : n ≤ p). rw (le-leb n p k) (sym (gone_down n x p h k)))
    (cases_lt p n)

plain_plain : (w : Way) (n x p q : ℕ) → plain w n (plain w n x p) q ≡ plain w n x (p + q)
plain_plain way.Up n x p q =
    mul-mod_first (x * 2 ^ p) (2 ^ q) (2 ^ n) ∙ ap (λ m. m % 2 ^ n) (mul_assoc x (2 ^ p) (2 ^ q)) ∙ ap (λ m. x * m % 2 ^ n) (sym (pow-add 2 p q))
plain_plain way.Down n x p q = shr-shr x p q

moved_number : (w : Way) (k : ℕ) (xs : List Bool) → k ≤ length xs → number (moved w false k xs) ≡ plain w (length xs) (number xs) k
moved_number way.Up k xs h =
    let e : length xs ≡ length xs - k + k = omega arith in
    let up : number (replicate k false ++ take (length xs - k) xs) ≡ 2 ^ k * (number xs % 2 ^ (length xs - k)) =
    number_append (replicate k false) (take (length xs - k) xs) ∙ ap₂ (λ z n. z + 2 ^ n * number (take (length xs - k) xs)) (number_zeros k) (length-replicate k false)
    ∙ ap (λ n. 0 + 2 ^ k * n) (number_take (length xs - k) xs) ∙ omega arith in
    let down : wrap (length xs) (number xs * 2 ^ k) ≡ number xs % 2 ^ (length xs - k) * 2 ^ k + 0 =
    ap (λ n. number xs * 2 ^ k % 2 ^ n) e ∙ mod-pow-add (number xs * 2 ^ k) (length xs - k) k
    ∙ ap₂ (λ x y. x % 2 ^ (length xs - k) * 2 ^ k + y) (shl-shr (number xs) k) (mul-mod_left (number xs) (2 ^ k)) in
    up ∙ omega (arith, down)
moved_number way.Down k xs h =
    number_append (drop k xs) (replicate k false) ∙ ap₂ (λ x y. x + 2 ^ length (drop k xs) * y) (number_drop k xs) (number_zeros k) ∙ omega arith

map-replicate : {X Y : Type 0} (g : X → Y) (n : ℕ) (x : X) → map g (replicate n x) ≡ replicate n (g x)
map-replicate g zero x = refl
map-replicate g (suc n) x = ap (λ r. g x ∷ r) (map-replicate g n x)

moved-map : {X Y : Type 0} (g : X → Y) (w : Way) (x : X) (k : ℕ) (xs : List X) → map g (moved w x k xs) ≡ moved w (g x) k (map g xs)
moved-map g way.Up x k xs =
    map-append g (replicate k x) (take (length xs - k) xs)
    ∙ ap₂ (λ ys zs. ys ++ zs) (map-replicate g k x) (sym (take-map g (length xs - k) xs) ∙ ap (λ n. take (n - k) (map g xs)) (sym (length-map xs g)))
moved-map g way.Down x k xs =
    map-append g (drop k xs) (replicate k x) ∙ ap₂ (λ ys zs. ys ++ zs) (sym (drop-map g k xs)) (map-replicate g k x)

differ_self : (b : Bool) → differ b b ≡ false
differ_self true = refl
differ_self false = refl

flipped_length : (s : ℕ → Bool) (fill : Lit) (ls : List Lit) → length (map (differ (value_under s fill)) (values_under s ls)) ≡ length ls
flipped_length s fill ls = length-map (values_under s ls) (differ (value_under s fill)) ∙ length-map ls (value_under s)

pub flipped_small : (s : ℕ → Bool) (fill : Lit) (ls : List Lit) → flipped_number s fill ls < 2 ^ length ls
flipped_small s fill ls = subst (λ n. flipped_number s fill ls < 2 ^ n) (flipped_length s fill ls) (number_below (map (differ (value_under s fill)) (values_under s ls)))

flipped_moved : (s : ℕ → Bool) (w : Way) (fill : Lit) (k : ℕ) (ls : List Lit) → k ≤ length ls → flipped_number s fill (moved w fill k ls) ≡ plain w (length ls) (flipped_number s fill ls) k
flipped_moved s w fill k ls h =
    ap (λ xs. number (map (differ (value_under s fill)) xs)) (moved-map (value_under s) w fill k ls)
    ∙ ap number (moved-map (differ (value_under s fill)) w (value_under s fill) k (values_under s ls))
    ∙ ap (λ x. number (moved w x k (map (differ (value_under s fill)) (values_under s ls)))) (differ_self (value_under s fill))
    ∙ moved_number w k (map (differ (value_under s fill)) (values_under s ls)) (omega (arith, flipped_length s fill ls))
    ∙ ap (λ n. plain w n (flipped_number s fill ls) k) (flipped_length s fill ls)

moved_length : {X : Type 0} (w : Way) (x : X) (k : ℕ) (xs : List X) → k ≤ length xs → length (moved w x k xs) ≡ length xs
moved_length way.Up x k xs h = length-append (replicate k x) (take (length xs - k) xs) ∙ omega (arith, length-replicate k x, length-take-le (length xs - k) xs (omega arith))
moved_length way.Down x k xs h = length-append (drop k xs) (replicate k x) ∙ omega (arith, length-replicate k x, length-drop k xs)

moved_below : (vars : ℕ) (w : Way) (x : Lit) (k : ℕ) (xs : List Lit) → x.var < vars → AllBelow vars xs → AllBelow vars (moved w x k xs)
moved_below vars way.Up x k xs h all = below_append vars (replicate k x) (take (length xs - k) xs) (below_replicate vars k x h) (below_take vars (length xs - k) xs all)
moved_below vars way.Down x k xs h all = below_append vars (drop k xs) (replicate k x) (below_drop vars k xs all) (below_replicate vars k x h)

pub shifted_known : (vars : ℕ) (w : Way) (x : Lit) (k : ℕ) (xs ys : List Lit) → x.var < vars → AllBelow vars xs → ys ≡ moved w x k xs → AllBelow vars ys
shifted_known vars w x k xs ys h all e = rw e (moved_below vars w x k xs h all)

pub shifted_length : (w : Way) (x : Lit) (k : ℕ) (xs ys : List Lit) → k ≤ length xs → ys ≡ moved w x k xs → length ys ≡ length xs
shifted_length w x k xs ys h e = ap length e ∙ moved_length w x k xs h

flipped_choose : (s : ℕ → Bool) (fill : Lit) (c : Bool) (xs ys zs : List Lit) → length xs ≡ length ys → values_under s zs ≡ pairwise (λ x y. cond c x y) (values_under s xs) (values_under s ys)
    → flipped_number s fill zs ≡ cond c (flipped_number s fill xs) (flipped_number s fill ys)
flipped_choose s fill c xs ys zs h e =
    ap (λ bs. number (map (differ (value_under s fill)) bs)) (e ∙ choose_bits c (values_under s xs) (values_under s ys) (length-map xs (value_under s) ∙ h ∙ sym (length-map ys (value_under s))))
    ∙ elim c as (λ b. number (map (differ (value_under s fill)) (cond b (values_under s xs) (values_under s ys))) ≡ cond b (flipped_number s fill xs) (flipped_number s fill ys)) [ true ↦ refl | false ↦ refl ]

stage_number : (w : Way) (n f p q : ℕ) (c : Bool) → f < 2 ^ n → cond c (plain w n (shift_plain w n f p) q) (shift_plain w n f p) ≡ shift_plain w n f (p + q * bit c)
stage_number w n f p q true h =
    let e : p + q ≡ p + q * 1 = omega arith in
    ap (λ x. plain w n x q) (plain_is w n f p h) ∙ plain_plain w n f p q ∙ sym (plain_is w n f (p + q) h) ∙ ap (shift_plain w n f) e
stage_number w n f p q false h = let e : p ≡ p + q * 0 = omega arith in ap (shift_plain w n f) e

-- one more stage
pub stage_more : {old new : Built} {m : ℕ} (w : Way) (fill : Lit) (a b word shifted next : List Lit) (j amount : ℕ) (d : Lit) → Grows old new m → j < length b → 2 ^ j < length a → amount ≡ 2 ^ j
    → length word ≡ length a → shifted ≡ moved w fill amount word
    → ((s : ℕ → Bool) → Satisfies s old.content → flipped_number s fill word ≡ shift_plain w (length a) (flipped_number s fill a) (number_under s (take j b)))
    → IsBits new.content (length shifted) next (λ s. pairwise (λ x y. cond (value_under s (get_or b j d)) x y) (values_under s shifted) (values_under s word))
    → (s : ℕ → Bool) → Satisfies s new.content → flipped_number s fill next ≡ shift_plain w (length a) (flipped_number s fill a) (number_under s (take (j + 1) b))
stage_more w fill a b word shifted next j amount d grows hj small ea count es before bits s h =
    let fits : amount ≤ length word = omega (arith, ea, count, small) in
    flipped_choose s fill (value_under s (get_or b j d)) shifted word next (shifted_length w fill amount word shifted fits es) (bits.is s h)
    ∙ ap (λ x. cond (value_under s (get_or b j d)) x (flipped_number s fill word)) (ap (flipped_number s fill) es ∙ flipped_moved s w fill amount word fits ∙ ap₂ (λ n k. plain w n (flipped_number s fill word) k) count ea)
    ∙ ap (λ x. cond (value_under s (get_or b j d)) (plain w (length a) x (2 ^ j)) x) (before s (satisfies_old grows s h))
    ∙ stage_number w (length a) (flipped_number s fill a) (number_under s (take j b)) (2 ^ j) (value_under s (get_or b j d)) (flipped_small s fill a)
    ∙ ap (shift_plain w (length a) (flipped_number s fill a)) (sym (under_more s b j d hj))

-- no stage yet
plain_zero : (w : Way) (n x : ℕ) → x < 2 ^ n → shift_plain w n x 0 ≡ x
plain_zero w n x h = plain_is w n x 0 h ∙ none w
  where
    none : (v : Way) → plain v n x 0 ≡ x
    none way.Up = let e : x * 1 ≡ x = omega arith in ap (λ m. m % 2 ^ n) e ∙ mod-eq_of_lt h
    none way.Down = div-one x

pub stage_none : (s : ℕ → Bool) (w : Way) (fill : Lit) (a word : List Lit) (b : List Lit) → word ≡ a → flipped_number s fill word ≡ shift_plain w (length a) (flipped_number s fill a) (number_under s (take 0 b))
stage_none s w fill a word b e = ap (flipped_number s fill) e ∙ sym (plain_zero w (length a) (flipped_number s fill a) (flipped_small s fill a))

-- all bits are the fill
flipped_gone : (s : ℕ → Bool) (fill : Lit) (n : ℕ) (ls : List Lit) → ls ≡ replicate n fill → flipped_number s fill ls ≡ 0
flipped_gone s fill n ls e =
    ap (flipped_number s fill) e
    ∙ ap (λ xs. number (map (differ (value_under s fill)) xs)) (map-replicate (value_under s) n fill)
    ∙ ap number (map-replicate (differ (value_under s fill)) n (value_under s fill) ∙ ap (replicate n) (differ_self (value_under s fill)))
    ∙ number_zeros n

gone_shift : (w : Way) (n f p : ℕ) → n ≤ p → shift_plain w n f p ≡ 0
gone_shift way.Up n f p h = rw (le-leb n p h) refl
gone_shift way.Down n f p h = rw (le-leb n p h) refl

whole_number : (w : Way) (n f low p high : ℕ) → n ≤ p → cond (not (eqb high 0)) 0 (shift_plain w n f low) ≡ shift_plain w n f (low + p * high)
whole_number w n f low p zero h = let e : low ≡ low + p * 0 = omega arith in ap (shift_plain w n f) e
whole_number w n f low p (suc high) h =
    rw (ne_eqb (suc high) 0 (λ e. omega (arith, e))) (sym (gone_shift w n f (low + p * suc high) (omega (arith, h))))

unflip : (f : Bool) (xs : List Bool) → number xs ≡ cond f (complement (length xs) (number (map (differ f) xs))) (number (map (differ f) xs))
unflip true xs = omega (arith, number_not xs)
unflip false xs = ap number (sym (same xs))
  where
    same : (xs : List Bool) → map (differ false) xs ≡ xs
    same [] = refl
    same (x ∷ xs) = ap (λ r. x ∷ r) (same xs)

flip_number : (f : Bool) (xs : List Bool) → number (map (differ f) xs) ≡ cond f (complement (length xs) (number xs)) (number xs)
flip_number true xs = omega (arith, number_not xs)
flip_number false xs = sym (unflip false xs)

filled_number : (w : Way) (f : Bool) (n b : ℕ) (xs rs : List Bool) → length xs ≡ n → length rs ≡ n → number (map (differ f) rs) ≡ shift_plain w n (number (map (differ f) xs)) b → number rs ≡ shift_filled w f n (number xs) b
filled_number w true n b xs rs ha hr e =
    unflip true rs ∙ ap₂ complement hr (e ∙ ap (λ x. shift_plain w n x b) (flip_number true xs ∙ ap (λ m. complement m (number xs)) ha))
filled_number w false n b xs rs ha hr e =
    unflip false rs ∙ e ∙ ap (λ x. shift_plain w n x b) (flip_number false xs)

-- the whole shift
pub shift_is : {one two three : Built} {m k : ℕ} (w : Way) (fill far : Lit) (a b near gone r : List Lit) (low : ℕ) → Grows one two m → Grows two three k → low ≤ length b → length a ≤ 2 ^ low
    → length near ≡ length a → gone ≡ replicate (length a) fill
    → ((s : ℕ → Bool) → Satisfies s one.content → flipped_number s fill near ≡ shift_plain w (length a) (flipped_number s fill a) (number_under s (take low b)))
    → Computes two.content far (λ s. not (eqb (number_under s (drop low b)) 0))
    → IsBits three.content (length gone) r (λ s. pairwise (λ x y. cond (value_under s far) x y) (values_under s gone) (values_under s near))
    → IsWord three.content (length a) r (λ s. shift_filled w (value_under s fill) (length a) (number_under s a) (number_under s b))
shift_is w fill far a b near gone r low f g hb enough hn eg near_is far_is bits =
    let n : length gone ≡ length a = ap length eg ∙ length-replicate (length a) fill in
    record {
      count = bits.count ∙ n;
      known = bits.known;
      is = λ s h.
          let mid = satisfies_old g s h in
          let flipped : flipped_number s fill r ≡ shift_plain w (length a) (flipped_number s fill a) (number_under s b) =
          flipped_choose s fill (value_under s far) gone near r (n ∙ sym hn) (bits.is s h)
          ∙ ap₂ (λ x y. cond (value_under s far) x y) (flipped_gone s fill (length a) gone eg) (near_is s (satisfies_old f s mid))
          ∙ ap (λ c. cond c 0 (shift_plain w (length a) (flipped_number s fill a) (number_under s (take low b)))) (far_is.is s mid)
          ∙ whole_number w (length a) (flipped_number s fill a) (number_under s (take low b)) (2 ^ low) (number_under s (drop low b)) enough
          ∙ ap (shift_plain w (length a) (flipped_number s fill a)) (sym (under_split s low b hb)) in
          filled_number w (value_under s fill) (length a) (number_under s b) (values_under s a) (values_under s r) (length-map a (value_under s)) (length-map r (value_under s) ∙ bits.count ∙ n) flipped;
    }

pub amount_is : (j : ℕ) → j < 7 → (1 * 2 ^ j) % 2 ^ 64 ≡ 2 ^ j
amount_is j h = one_shl j 64 (omega arith)

pub second_as : (c : Content) (n : ℕ) (r : List Lit) (f : (ℕ → Bool) → Bool → Bool → Bool) (xs ys zs : List Lit) → IsBits c n r (λ s. pairwise (f s) (values_under s xs) (values_under s ys)) → ys ≡ zs → IsBits c n r (λ s. pairwise (f s) (values_under s xs) (values_under s zs))
second_as c n r f xs ys zs h e = subst (λ (l : List Lit). IsBits c n r (λ s. pairwise (f s) (values_under s xs) (values_under s l))) e h

pub stage_room : (j n b w : ℕ) → j < b → w ≡ n → j * n + w ≤ b * n
stage_room j n b w h e = omega (arith, e, mul-le-mul_right n h)

pub near_room : (a b : List Lit) (low : ℕ) → low ≤ 7 → low ≤ length b → length (take low b) * length a ≤ 7 * length a
near_room a b low h k = mul-le-mul_right (length a) (omega (arith, length-take-le low b k, h))

pub rest_length : (b : List Lit) (low : ℕ) → length (take (length b - low) (drop low b)) ≤ length b
rest_length b low = omega (arith, ap length (take_rest b low), length-drop low b)
