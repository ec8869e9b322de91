-- The divisor that words find is that of the whole sum.
use Rattle.std.proofs.Common.{◌≡◌, ◌*◌, ◌/◌, ◌<◌, sym, subst, rules, to_z, of_z}
use Rattle.std.proofs.lemmas.Int.{to_z-of_z}
use mir.Syntax.{w64}
use Rattle.rationals.specs.Gcd.{gcd}
use Rattle.fraction128.specs.Exact.{common, left_over, right_over}
use Rattle.fraction128.proofs.Exactly.{common_pos}
use Rattle.fraction128.proofs.Narrow.{sum_back, sum_divides, sum_result}
use Rattle.fraction128.proofs.number.Frac.narrow_sum.Goals as goal

pub divided-requires-clause-positive : goal.divided-requires-clause-positive
divided-requires-clause-positive c =
    let e : c.den_word-b.result / c.gcd_word-shared.result * c.den_word-d.result ≡ common c.args.self c.args.other = cc in
    subst (λ k. 0 < k) (sym e) (common_pos c.args.self c.args.other)

pub divided-requires-clause-common : goal.divided-requires-clause-common
divided-requires-clause-common c =
    let e : c.den_word-b.result / c.gcd_word-shared.result * c.den_word-d.result ≡ common c.args.self c.args.other = cc in
    let g : c.gcd_word-shared.result ≡ gcd c.args.self.den c.args.other.den = cc in
    let a : to_z w64 (of_z w64 c.num_word.result) ≡ c.num_word.result = to_z-of_z w64 c.num_word.result (search rules) in
    let b : to_z w64 (of_z w64 c.num_word-2.result) ≡ c.num_word-2.result = to_z-of_z w64 c.num_word-2.result (search rules) in
    let l : c.word_product-left.result ≡ left_over c.args.self c.args.other = cc in
    let r : c.word_product-right.result ≡ right_over c.args.self c.args.other = cc in
    sum_divides c.args.self c.args.other _ c.unsigned_abs.result c.gcd_word-shared.result _ c.gcd_mixed-divisor.result
    (sum_back c.word_product-left.result c.word_product-right.result _ _ c.word_product-left.ensures.bound c.word_product-right.ensures.bound l r)
    c.unsigned_abs.ensures.value g e c.gcd_mixed-divisor.ensures

pub returns : goal.returns
returns c =
    let e : c.den_word-b.result / c.gcd_word-shared.result * c.den_word-d.result ≡ common c.args.self c.args.other = cc in
    let a : to_z w64 (of_z w64 c.num_word.result) ≡ c.num_word.result = to_z-of_z w64 c.num_word.result (search rules) in
    let b : to_z w64 (of_z w64 c.num_word-2.result) ≡ c.num_word-2.result = to_z-of_z w64 c.num_word-2.result (search rules) in
    let l : c.word_product-left.result ≡ left_over c.args.self c.args.other = cc in
    let r : c.word_product-right.result ≡ right_over c.args.self c.args.other = cc in
    sum_result c.args.self c.args.other c.divided.result _ _
    (sum_back c.word_product-left.result c.word_product-right.result _ _ c.word_product-left.ensures.bound c.word_product-right.ensures.bound l r)
    e c.divided.ensures
