-- Lists of literals under an assignment.
use Rattle.std.proofs.Common.{◌≡◌, ◌∙◌, ℕ, zero, suc, ◌+◌, ◌*◌, ◌^◌, ◌<◌, ◌≤◌, Bool, not, List, [], ◌∷◌, ◌++◌, length, map, take, drop, replicate, get_or, refl, ap, subst, inl, inr, ⊎_elim, arith}
use Rattle.std.proofs.lemmas.List.{map-append, length-map, length-take-le, take_more}
use Rattle.clause_logic.specs.declared.Lit.{Lit}
use Rattle.clause_logic.specs.Clauses.{opposite, In}
use Rattle.clause_logic.proofs.Members.{in_at, in_push_cases}
use Rattle.clause_gates.specs.Bits.{value_under}
use Rattle.bit_blast.specs.Bits.{values_under, bit, number, number_under}
use Rattle.clause_gates.specs.Built.{Built}
use Rattle.clause_gates.specs.Circuits.{AllBelow, Grows}
use Rattle.clause_gates.proofs.Truths.{value_opposite}
use Rattle.bit_blast.proofs.Numbers.{number_push}

pub below_at : (vars : ℕ) (ls : List Lit) (i : ℕ) (d : Lit) → AllBelow vars ls → i < length ls → (get_or ls i d).var < vars
below_at vars ls i d h k = h (get_or ls i d) (in_at ls i d k)

pub below_more : (vars new : ℕ) (ls : List Lit) → AllBelow vars ls → vars ≤ new → AllBelow new ls
below_more vars new ls h k l i = omega (arith, h l i)

pub below_push : (vars : ℕ) (ls : List Lit) (l : Lit) → AllBelow vars ls → l.var < vars → AllBelow vars (ls ++ l ∷ [])
below_push vars ls l h k m i = ⊎_elim (λ (e : l ≡ m). subst (λ (x : Lit). x.var < vars) e k) (λ j. h m j) (in_push_cases ls l m i)

pub below_at_on : {old now : Built} {most : ℕ} (ls : List Lit) (i : ℕ) (d : Lit) → Grows old now most → AllBelow old.content.vars ls → i < length ls → (get_or ls i d).var < now.content.vars
below_at_on ls i d g h k = omega (arith, below_at _ ls i d h k, g.vars)

pub below_on : {old now : Built} {most : ℕ} (ls : List Lit) → Grows old now most → AllBelow old.content.vars ls → AllBelow now.content.vars ls
below_on {old} {now} ls g h = below_more old.content.vars now.content.vars ls h g.vars

pub below_nil : (vars : ℕ) → AllBelow vars []
below_nil vars l i = absurd i

in_take : (k : ℕ) (ls : List Lit) (l : Lit) → In l (take k ls) → In l ls
in_take zero ls l i = absurd i
in_take (suc k) [] l i = absurd i
in_take (suc k) (x ∷ ls) l i = ⊎_elim inl (λ j. inr (in_take k ls l j)) i

in_drop : (k : ℕ) (ls : List Lit) (l : Lit) → In l (drop k ls) → In l ls
in_drop zero ls l i = i
in_drop (suc k) [] l i = absurd i
in_drop (suc k) (x ∷ ls) l i = inr (in_drop k ls l i)

pub below_take : (vars k : ℕ) (ls : List Lit) → AllBelow vars ls → AllBelow vars (take k ls)
below_take vars k ls h l i = h l (in_take k ls l i)

pub below_drop : (vars k : ℕ) (ls : List Lit) → AllBelow vars ls → AllBelow vars (drop k ls)
below_drop vars k ls h l i = h l (in_drop k ls l i)

pub below_cons : (vars : ℕ) (x : Lit) (ls : List Lit) → x.var < vars → AllBelow vars ls → AllBelow vars (x ∷ ls)
below_cons vars x ls k h l i = ⊎_elim (λ (e : x ≡ l). subst (λ (y : Lit). y.var < vars) e k) (h l) i

pub below_append : (vars : ℕ) (xs ys : List Lit) → AllBelow vars xs → AllBelow vars ys → AllBelow vars (xs ++ ys)
below_append vars [] ys h k = k
below_append vars (x ∷ xs) ys h k = below_cons vars x (xs ++ ys) (h x (inl refl)) (below_append vars xs ys (λ l i. h l (inr i)) k)

pub below_opposite : (vars : ℕ) (ls : List Lit) → AllBelow vars ls → AllBelow vars (map opposite ls)
below_opposite vars [] h l i = absurd i
below_opposite vars (x ∷ ls) h l i = below_cons vars (opposite x) (map opposite ls) (h x (inl refl)) (below_opposite vars ls (λ m j. h m (inr j))) l i

pub below_replicate : (vars n : ℕ) (x : Lit) → x.var < vars → AllBelow vars (replicate n x)
below_replicate vars zero x h l i = absurd i
below_replicate vars (suc n) x h l i = below_cons vars x (replicate n x) h (below_replicate vars n x h) l i

pub under_push : (s : ℕ → Bool) (ls : List Lit) (l : Lit) → number_under s (ls ++ l ∷ []) ≡ number_under s ls + 2 ^ length ls * bit (value_under s l)
under_push s ls l =
    ap number (map-append (value_under s) ls (l ∷ [])) ∙ number_push (values_under s ls) (value_under s l)
    ∙ ap (λ n. number_under s ls + 2 ^ n * bit (value_under s l)) (length-map ls (value_under s))

pub under_more : (s : ℕ → Bool) (ls : List Lit) (i : ℕ) (d : Lit) → i < length ls
    → number_under s (take (i + 1) ls) ≡ number_under s (take i ls) + 2 ^ i * bit (value_under s (get_or ls i d))
under_more s ls i d h =
    ap (number_under s) (take_more ls i d h) ∙ under_push s (take i ls) (get_or ls i d)
    ∙ ap (λ n. number_under s (take i ls) + 2 ^ n * bit (value_under s (get_or ls i d))) (length-take-le i ls (omega arith))

pub under_opposite : (s : ℕ → Bool) (ls : List Lit) → values_under s (map opposite ls) ≡ map not (values_under s ls)
under_opposite s [] = refl
under_opposite s (l ∷ ls) = rw (value_opposite s l, under_opposite s ls) refl

pub below_opposite_is : (vars : ℕ) (ls inv : List Lit) → AllBelow vars ls → inv ≡ map opposite ls → AllBelow vars inv
below_opposite_is vars ls inv h e = rw e (below_opposite vars ls h)

pub below_replicate_is : (vars n : ℕ) (x : Lit) (ls : List Lit) → x.var < vars → ls ≡ replicate n x → AllBelow vars ls
below_replicate_is vars n x ls h e = rw e (below_replicate vars n x h)

pub below_as : (vars : ℕ) (ls ms : List Lit) → AllBelow vars ls → ms ≡ ls → AllBelow vars ms
below_as vars ls ms h e = rw e h
