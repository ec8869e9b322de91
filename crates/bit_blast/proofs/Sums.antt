-- One more bit of a sum.
use Rattle.std.proofs.Common.{◌≡◌, ◌∙◌, ℕ, ◌+◌, ◌*◌, ◌^◌, ◌<◌, Bool, true, false, List, [], ◌∷◌, ◌++◌, length, take, get_or, sym, ap, arith}
use Rattle.std.proofs.lemmas.List.{length-take-le, length_push}
use Rattle.std.proofs.Math.Nat.{pow-suc}
use Rattle.clause_logic.specs.declared.Lit.{Lit}
use Rattle.clause_gates.specs.Built.{Built}
use Rattle.y_tree.specs.BitVectors.{differ}
use Rattle.clause_gates.specs.Bits.{value_under, majority}
use Rattle.bit_blast.specs.Bits.{bit, number_under}
use Rattle.clause_gates.specs.Circuits.{Grows, Computes}
use Rattle.bit_blast.specs.Circuits.{IsSum}
use Rattle.clause_gates.proofs.Growth.{satisfies_old}
use Rattle.bit_blast.proofs.Lists.{below_push, below_more, under_push, under_more}

pub adder_step : (p o a b k : ℕ) (x y c : Bool) → o + p * bit c ≡ a + b + k
    → o + p * bit (differ (differ x y) c) + p * 2 * bit (majority x y c) ≡ a + p * bit x + (b + p * bit y) + k
adder_step p o a b k true true true h = omega (arith, h)
adder_step p o a b k true true false h = omega (arith, h)
adder_step p o a b k true false true h = omega (arith, h)
adder_step p o a b k true false false h = omega (arith, h)
adder_step p o a b k false true true h = omega (arith, h)
adder_step p o a b k false true false h = omega (arith, h)
adder_step p o a b k false false true h = omega (arith, h)
adder_step p o a b k false false false h = omega (arith, h)

pub sum_more : {old mid new : Built} {m k : ℕ} (a b : List Lit) (i : ℕ) (d first carry sum next : Lit) (bits longer : List Lit) → Grows old mid m → Grows mid new k
    → IsSum old.content (take i a) (take i b) first bits carry
    → Computes mid.content sum (λ s. differ (differ (value_under s (get_or a i d)) (value_under s (get_or b i d))) (value_under s carry))
    → Computes new.content next (λ s. majority (value_under s (get_or a i d)) (value_under s (get_or b i d)) (value_under s carry))
    → i < length a → i < length b → longer ≡ bits ++ sum ∷ []
    → IsSum new.content (take (i + 1) a) (take (i + 1) b) first longer next
sum_more {old} {mid} {new} a b i d first carry sum next bits longer f g is one two ha hb e =
    let na : length (take i a) ≡ i = length-take-le i a (omega arith) in
    let na' : length (take (i + 1) a) ≡ i + 1 = length-take-le (i + 1) a (omega arith) in
    record {
      count = ap length e ∙ length_push bits sum ∙ omega (arith, is.count, na, na');
      bits_known = rw e (below_push new.content.vars bits sum (below_more old.content.vars new.content.vars bits is.bits_known (omega (arith, f.vars, g.vars))) (omega (arith, one.known, g.vars)));
      carry_known = two.known;
      is = λ s m.
          let mm = satisfies_old g s m in
          let mo = satisfies_old f s mm in
          let pow : 2 ^ length (take (i + 1) a) ≡ 2 ^ i * 2 = ap (λ n. 2 ^ n) (na' ∙ omega arith) ∙ pow-suc 2 i in
          let before : number_under s bits + 2 ^ i * bit (value_under s carry) ≡ number_under s (take i a) + number_under s (take i b) + bit (value_under s first) =
          ap (λ n. number_under s bits + 2 ^ n * bit (value_under s carry)) (sym na) ∙ is.is s mo in
          let step = adder_step (2 ^ i) (number_under s bits) (number_under s (take i a)) (number_under s (take i b)) (bit (value_under s first)) (value_under s (get_or a i d)) (value_under s (get_or b i d)) (value_under s carry) before in
          rw (e, under_push s bits sum, is.count ∙ na, pow, one.is s mm, two.is s m, under_more s a i d ha, under_more s b i d hb) step;
    }
