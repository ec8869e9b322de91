-- What was written, one piece after another.
use Rattle.std.proofs.Common.{ℕ, ◌≡◌, ◌∙◌, List, [], ◌∷◌, ◌++◌, Option, Some, None, Result, Ok, Err, length, take, refl, sym, ap, append_assoc, append-nil}
use Rattle.std.specs.Prelude.{OnOk, OnErr}
use Rattle.std.proofs.lemmas.Option.{same_Some}
use Rattle.y_io.specs.Outside.{Grows, GrowsByPart}
use Rattle.yices_cli.specs.Seen.{joined}

-- nothing was written
pub grows_same : (w : Option (List ℕ)) → Grows w w []
grows_same None = refl
grows_same (Some w) = ap Some (sym (append-nil w))

-- one piece, and then another
pub grows_on : (a b c : Option (List ℕ)) (x y : List ℕ) → Grows a b x → Grows b c y → Grows a c (x ++ y)
grows_on None b c x y h k = ap (λ (o : Option (List ℕ)). o) (grows_none b c y h k)
  where
    grows_none : (b c : Option (List ℕ)) (y : List ℕ) → b ≡ None → Grows b c y → c ≡ None
    grows_none None c y h k = k
    grows_none (Some w) c y h k = absurd (cc h)
grows_on (Some w) None c x y h k = absurd (cc h)
grows_on (Some w) (Some v) c x y h k = k ∙ ap (λ z. Some (z ++ y)) (same_Some v (w ++ x) h) ∙ ap Some (append_assoc w x y)

-- all of the bytes
pub take_own : (x : List ℕ) → take (length x) x ≡ x
take_own [] = refl
take_own (b ∷ x) = ap (λ z. b ∷ z) (take_own x)

-- all or a part
pub some_part : {E : Type 0} (r : Result (Unit {0}) E) (a b : Option (List ℕ)) (x : List ℕ) → OnOk r (Grows a b x) → OnErr r (GrowsByPart a b x) → (n : ℕ) × Grows a b (take n x)
some_part (Ok u) a b x ok err = (length x, rw (take_own x) ok)
some_part (Err e) a b x ok err = (err.0, err.2)

pub joined-push : (rs : List (List ℕ)) (r : List ℕ) → joined (rs ++ r ∷ []) ≡ joined rs ++ r
joined-push [] r = append-nil r
joined-push (x ∷ rs) r = ap (λ y. x ++ y) (joined-push rs r) ∙ sym (append_assoc x (joined rs) r)

-- three words with a space between them, and the end of the line behind the last
pub three_ended : (a b c : List ℕ) → (a ++ 32 ∷ (b ++ 32 ∷ c)) ++ 10 ∷ [] ≡ a ++ 32 ∷ (b ++ 32 ∷ (c ++ 10 ∷ []))
three_ended a b c = append_assoc a (32 ∷ (b ++ 32 ∷ c)) (10 ∷ []) ∙ ap (λ r. a ++ 32 ∷ r) (append_assoc b (32 ∷ c) (10 ∷ []))
