use Rattle.std.proofs.Common.{◌∙◌, ap, pos, of_z}
use Rattle.std.specs.Int.{w128}
use Rattle.rationals.specs.Rational.{ℚ}
use Rattle.value_texts.proofs.Fractions.{made_cast, same_made}
use Rattle.value_texts.proofs.numbers.in_lowest_terms.Goals as goal
use Rattle.value_texts.proofs.numbers.in_lowest_terms.Goals.{in_default-via-in-Ok+then-numer-num+else-denom-den, in_default-via-in-Ok+else-numer-num, in_default-via-in_default}

pub returns-in_default : goal.returns-in_default
returns-in_default c q num den =
    let made = made_cast c.args.num c.args.den q c.new.result c.new.ensures c.requires.num c.requires.den num den in
    elim c.in_default.branch [
      | in_default-via-in-Ok+then-numer-num+else-denom-den w ↦
          w.if-denom-den.false (ap (of_z w128) (w.denom.ensures ∙ ap (λ (p : ℚ). pos p.den) (same_made c.new.result w.in-Ok.q q w.in-Ok.is made) ∙ den))
      | in_default-via-in-Ok+else-numer-num w ↦
          w.if-numer-num.false (ap (of_z w128) (w.numer.ensures ∙ ap (λ (p : ℚ). p.num) (same_made c.new.result w.in-Ok.q q w.in-Ok.is made) ∙ num))
      | in_default-via-in_default w ↦ w.in_default.not-Ok q made
    ]
