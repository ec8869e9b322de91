-- How what was written grows, step by step.
use Rattle.std.proofs.Common.{ℕ, List, ◌++◌, ◌+◌, ◌-◌, Option, Some, None, ◌∙◌, ap, sym, subst, append_assoc, length, take, drop}
use Rattle.std.proofs.Math.Seq.{take-add}
use Rattle.std.proofs.lemmas.List.{take_rest}
use Rattle.y_io.specs.Outside.{Grows}

-- two growths, one after the other
pub Grows-append : (old mid new : Option (List ℕ)) (xs ys : List ℕ) → Grows old mid xs → Grows mid new ys → Grows old new (xs ++ ys)
Grows-append None mid new xs ys first second = subst (λ m. Grows m new ys) first second
Grows-append (Some written) mid new xs ys first second =
    subst (λ m. Grows m new ys) first second ∙ ap Some (append_assoc written xs ys)

-- a growth by the first bytes of a list, and then by the first of its rest
pub Grows-take : (old mid new : Option (List ℕ)) (done n : ℕ) (bytes : List ℕ) → Grows old mid (take done bytes) → Grows mid new (take n (take (length bytes - done) (drop done bytes))) → Grows old new (take (done + n) bytes)
Grows-take old mid new done n bytes first second =
    subst (λ xs. Grows old new xs) (sym (take-add done n bytes))
    (Grows-append old mid new (take done bytes) (take n (drop done bytes)) first (subst (λ xs. Grows mid new (take n xs)) (take_rest bytes done) second))
