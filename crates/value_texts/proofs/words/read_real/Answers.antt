use Rattle.std.proofs.Common.{refl, subst, ap, ◌∙◌}
use Rattle.y_tree.specs.Sorts.{real}
use Rattle.y_tree.specs.Values.{number}
use Rattle.rationals.specs.Rational.{zero_ℚ}
use Rattle.value_texts.specs.Pieces.{IsNumber}
use Rattle.y_tree.proofs.Shapes.{plain_real}
use Rattle.value_texts.proofs.WordForms.{number_word, wide_word, no_real, word_at}
use Rattle.value_texts.proofs.words.read_real.Goals as goal

pub returns-in_err-number : goal.returns-in_err-number
returns-in_err-number c = rw c.from_residual.ensures (no_real c.args.text.now c.in_err-number.ensures)

pub returns-in-Exact : goal.returns-in-Exact
returns-in-Exact c =
    word_at real real (number c.in-Exact.number) _ c.args.text.now _ refl (plain_real c.in-Exact.number)
    (number_word c.args.text.now c.in-Exact.number (subst (IsNumber c.args.text.now) c.in-Exact.is c.in_ok-number.ensures))

pub returns-in-Wide : goal.returns-in-Wide
returns-in-Wide c =
    word_at real real (number zero_ℚ) _ c.args.text.now _ refl (plain_real c.zero.result ∙ ap number c.zero.ensures)
    (wide_word c.args.text.now (subst (IsNumber c.args.text.now) c.in-Wide.is c.in_ok-number.ensures))
