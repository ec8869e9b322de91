-- The first rows of a table changed, one more at a time.
use Rattle.std.proofs.Common.{◌≡◌, ℕ, zero, suc, ◌+◌, ◌<◌, ◌≤◌, true, false, Result, Ok, Err, OnOk, is_err, List, [], ◌∷◌, ◌++◌, length, get_or, set, take, map, refl, sym, ap, ◌∙◌, subst, arith}
use Rattle.std.proofs.lemmas.List.{take_more, take_all}
use Rattle.rationals.specs.Rational.{ℚ, zero_ℚ}
use Rattle.simplex_table.specs.Columns.{map_first, with_zero, HaveLength}

pub length-map_first : (f : List ℚ → List ℚ) (k : ℕ) (bs : List (List ℚ)) → length (map_first f k bs) ≡ length bs
length-map_first f zero bs = refl
length-map_first f (suc k) [] = refl
length-map_first f (suc k) (b ∷ bs) = ap suc (length-map_first f k bs)

-- an item by any default
pub any_default : (bs : List (List ℚ)) (k : ℕ) (d e : List ℚ) → k < length bs → get_or bs k d ≡ get_or bs k e
any_default [] k d e h = absurd (omega arith)
any_default (b ∷ bs) zero d e h = refl
any_default (b ∷ bs) (suc k) d e h = any_default bs k d e (omega arith)

-- the next row is as it was
pub get-map_first : (f : List ℚ → List ℚ) (k : ℕ) (bs : List (List ℚ)) (d : List ℚ) → get_or (map_first f k bs) k d ≡ get_or bs k d
get-map_first f zero bs d = refl
get-map_first f (suc k) [] d = refl
get-map_first f (suc k) (b ∷ bs) d = get-map_first f k bs d

-- the last of the changed rows
pub last-map_first : (f : List ℚ → List ℚ) (k : ℕ) (bs : List (List ℚ)) (d : List ℚ) → k < length bs → get_or (map_first f (suc k) bs) k d ≡ f (get_or bs k d)
last-map_first f k [] d h = absurd (omega arith)
last-map_first f zero (b ∷ bs) d h = refl
last-map_first f (suc k) (b ∷ bs) d h = last-map_first f k bs d (omega arith)

set_more : (f : List ℚ → List ℚ) (k : ℕ) (bs : List (List ℚ)) (d : List ℚ) → k < length bs → set (map_first f k bs) k (f (get_or bs k d)) ≡ map_first f (suc k) bs
set_more f k [] d h = absurd (omega arith)
set_more f zero (b ∷ bs) d h = refl
set_more f (suc k) (b ∷ bs) d h = ap (λ l. f b ∷ l) (set_more f k bs d (omega arith))

-- one row more
pub first_more : (f : List ℚ → List ℚ) (k : ℕ) (start bs bs' : List (List ℚ)) (b b' : List ℚ) → k < length start → bs ≡ map_first f k start → b ≡ get_or bs k b → b' ≡ f b → bs' ≡ set bs k b' → bs' ≡ map_first f (k + 1) start
first_more f k start bs bs' b b' h e r g s =
    s ∙ ap (λ x. set bs k x) (g ∙ ap f (r ∙ ap (λ l. get_or l k b) e ∙ get-map_first f k start b)) ∙ ap (λ l. set l k (f (get_or start k b))) e ∙ set_more f k start b h ∙ ap (λ n. map_first f n start) (suc_is k)
  where
    suc_is : (k : ℕ) → suc k ≡ k + 1
    suc_is k = omega arith

-- all rows
pub first_all : (f : List ℚ → List ℚ) (k : ℕ) (bs : List (List ℚ)) → length bs ≤ k → map_first f k bs ≡ map f bs
first_all f zero [] h = refl
first_all f zero (b ∷ bs) h = absurd (omega arith)
first_all f (suc k) [] h = refl
first_all f (suc k) (b ∷ bs) h = ap (λ l. f b ∷ l) (first_all f k bs (omega arith))

-- and back, one row less
pub set_back : (f : List ℚ → List ℚ) (k : ℕ) (bs : List (List ℚ)) (d : List ℚ) → k < length bs → set (map_first f (suc k) bs) k (get_or bs k d) ≡ map_first f k bs
set_back f k [] d h = absurd (omega arith)
set_back f zero (b ∷ bs) d h = refl
set_back f (suc k) (b ∷ bs) d h = ap (λ l. f b ∷ l) (set_back f k bs d (omega arith))

-- a row that failed to change
pub set_same : (bs : List (List ℚ)) (k : ℕ) (b b' : List ℚ) → b ≡ get_or bs k b → b' ≡ b → set bs k b' ≡ bs
set_same [] k b b' e f = refl
set_same (c ∷ bs) zero b b' e f = ap (λ x. x ∷ bs) (f ∙ e)
set_same (c ∷ bs) (suc k) b b' e f = ap (λ l. c ∷ l) (set_same bs k b b' e f)

-- ---- the rows' length
pub length_of : (n : ℕ) (bs : List (List ℚ)) (i : ℕ) (b : List ℚ) → HaveLength n bs → i < length bs → b ≡ get_or bs i b → length b ≡ n
length_of n bs i b w h e = ap length (e ∙ any_default bs i b [] h) ∙ w i h

-- ---- a list of changed items, one more at a time
get-map : {A B : Type 0} (f : A → B) (xs : List A) (k : ℕ) (d : A) → k < length xs → get_or (map f xs) k (f d) ≡ f (get_or xs k d)
get-map f [] k d h = absurd (omega arith)
get-map f (x ∷ xs) zero d h = refl
get-map f (x ∷ xs) (suc k) d h = get-map f xs k d (omega arith)

pub length-map : {A B : Type 0} (f : A → B) (xs : List A) → length (map f xs) ≡ length xs
length-map f [] = refl
length-map f (x ∷ xs) = ap suc (length-map f xs)

pub mapped_more : {A B : Type 0} (f : A → B) (xs : List A) (out : List B) (k : ℕ) (x : A) (y : B) → k < length xs → out ≡ take k (map f xs) → x ≡ get_or xs k x → y ≡ f x → out ++ y ∷ [] ≡ take (k + 1) (map f xs)
mapped_more f xs out k x y h e r g =
    ap (λ o. o ++ y ∷ []) e ∙ ap (λ z. take k (map f xs) ++ z ∷ []) (g ∙ ap f r ∙ sym (get-map f xs k x h)) ∙ sym (take_more (map f xs) k (f x) (subst (λ n. k < n) (sym (length-map f xs)) h))

pub mapped_all : {A B : Type 0} (f : A → B) (xs : List A) (out : List B) (k : ℕ) → length xs ≤ k → out ≡ take k (map f xs) → out ≡ map f xs
mapped_all f xs out k h e = e ∙ take_all k (map f xs) (subst (λ n. n ≤ k) (sym (length-map f xs)) h)

-- a changed item, by any default
pub get_mapped_or : {A B : Type 0} (f : A → B) (xs : List A) (k : ℕ) (d : A) (e : B) → k < length xs → get_or (map f xs) k e ≡ f (get_or xs k d)
get_mapped_or f [] k d e h = absurd (omega arith)
get_mapped_or f (x ∷ xs) zero d e h = refl
get_mapped_or f (x ∷ xs) (suc k) d e h = get_mapped_or f xs k d e (omega arith)

-- a changed row
pub get_mapped : (f : List ℚ → List ℚ) (bs : List (List ℚ)) (k : ℕ) → k < length bs → get_or (map f bs) k [] ≡ f (get_or bs k [])
get_mapped f bs k h = get_mapped_or f bs k [] [] h

-- rows that were changed alike have one length
pub HaveLength-map : (f : List ℚ → List ℚ) (n m : ℕ) (bs : List (List ℚ)) → HaveLength n bs → ((b : List ℚ) → length b ≡ n → length (f b) ≡ m) → HaveLength m (map f bs)
HaveLength-map f n m bs h g i p = let k : i < length bs = subst (λ x. i < x) (length-map f bs) p in ap length (get_mapped f bs i k) ∙ g (get_or bs i []) (h i k)

-- a fact of success
pub on_ok : {A E P : Type 0} (r : Result A E) → is_err r ≡ false → OnOk r P → P
on_ok (Ok x) e p = p
on_ok (Err x) e p = absurd_err e
  where
    absurd_err : {P : Type 0} → true ≡ false → P
    absurd_err e = cc

-- the last of the first v rows loses its last entry
pub one_back : (rows bs start : List (List ℚ)) (count v k : ℕ) (b b' : List ℚ) → v ≡ suc k → v ≤ count → count ≤ length start → start ≡ map_first with_zero count rows → bs ≡ map_first with_zero v rows → b ≡ get_or bs k b
    → ((entry : ℚ) (rest : List ℚ) → b ≡ rest ++ entry ∷ [] → b' ≡ rest) → set bs k b' ≡ map_first with_zero k rows
one_back rows bs start count v k b b' p q r e f g h =
    let l = length-map_first with_zero count rows in
    let i : k < length rows = subst (λ n. k < n) (ap length e ∙ l) (omega arith) in
    let w : bs ≡ map_first with_zero (suc k) rows = f ∙ ap (λ n. map_first with_zero n rows) p in
    let z : b ≡ get_or rows k b ++ zero_ℚ ∷ [] = g ∙ ap (λ x. get_or x k b) w ∙ last-map_first with_zero k rows b i in
    ap (λ x. set bs k x) (h zero_ℚ (get_or rows k b) z) ∙ ap (λ x. set x k (get_or rows k b)) w ∙ set_back with_zero k rows b i
