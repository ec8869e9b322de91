-- The numerator of a narrow fraction is in a word's range.
use Rattle.std.proofs.Common.{◌<◌, ◌^◌, ◌∙◌, sym, subst, to_z, of_z, unsigned_abs}
use Rattle.std.proofs.lemmas.Int.{to_z-of_z}
use mir.Syntax.{w64, w128}
use Rattle.fraction128.proofs.Parts.{num_back}
use Rattle.fraction128.proofs.Narrow.{narrow_num, word_fits}
use Rattle.fraction128.proofs.number.Frac.num_word.Goals as goal

pub overflow_cast-result : goal.overflow_cast-result
overflow_cast-result c =
    word_fits _ c.args.self (num_back c.self.inside.num c.self.inside.den c.args.self c.self.invariant c.self.view_is) c.requires

pub returns-clause-value : goal.returns-clause-value
returns-clause-value c =
    to_z-of_z w64 (to_z w128 (of_z w128 c.self.inside.num)) (overflow_cast-result c)
    ∙ num_back c.self.inside.num c.self.inside.den c.args.self c.self.invariant c.self.view_is

pub returns-clause-bound : goal.returns-clause-bound
returns-clause-bound c = subst (λ z. unsigned_abs z < 2 ^ 62) (sym (returns-clause-value c)) (narrow_num c.args.self c.requires)
