-- A divisor with 1 is 1, and one turn of Euclid's algorithm keeps the divisor.
use Rattle.std.proofs.Common.{sym, ap, ◌∙◌}
use Rattle.rationals.specs.Gcd.{gcd}
use Rattle.fraction128.proofs.Parts.{gcd-step}
use Rattle.fraction128.proofs.Narrow.{gcd-one}
use Rattle.fraction128.proofs.euclid.gcd_mixed.Goals as goal

pub returns-then-b-eq1 : goal.returns-then-b-eq1
returns-then-b-eq1 c = sym (ap (gcd c.args.a) c.if-b-eq1.true ∙ gcd-one c.args.a)

pub returns : goal.returns
returns c = c.gcd_word.ensures.value ∙ sym (gcd-step c.args.a c.args.b)
