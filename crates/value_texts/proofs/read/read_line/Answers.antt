use Rattle.std.proofs.Common.{◌||◌, ◌≤◌, subst, drop, length, length-drop, arith}
use Rattle.std.proofs.lemmas.List.{drop-drop}
use Rattle.std.proofs.lemmas.Result.{err_from_is_err_and}
use Rattle.y_tree.specs.Plain.{plain_sort, plain_sorts, plain_value, plain_values}
use Rattle.value_texts.specs.Pieces.{NoFront, IsFront, IsLine}
use Rattle.value_texts.proofs.Splitting.{to_end}
use Rattle.value_texts.proofs.EntryTexts.{line_is, no_line_keys, no_line_value}
use Rattle.value_texts.proofs.FunctionTexts.{fails_of}
use Rattle.value_texts.proofs.read.read_line.Goals as goal

pub returns-in_err-keys : goal.returns-in_err-keys
returns-in_err-keys c =
    let p = err_from_is_err_and c.from_residual.result c.from_residual.ensures.1 in
    rw (p.1, p.2) (fails_of c.in_err-keys.field-0.0 (no_line_keys (plain_sorts c.args.domain.now) (plain_sort c.args.range.now) c.args.text.now) c.in_err-keys.ensures)

pub returns-in_default : goal.returns-in_default
returns-in_default c =
    let keys = c.in_ok-keys.keys in
    no_line_value (plain_sorts c.args.domain.now) (plain_sort c.args.range.now) c.args.text.now (drop keys.end c.args.text.now) (plain_values keys.keys) keys.wide c.in_ok-keys.ensures.1
    (subst (NoFront (plain_sort c.args.range.now)) (to_end keys.end c.args.text.now) c.in_default.ensures)

pub returns : goal.returns
returns c =
    let keys = c.in_ok-keys.keys in
    let front = c.in-Some.front in
    let middle = drop keys.end c.args.text.now in
    let found =
    subst (λ x. (front.end ≤ length x) × IsFront (plain_sort c.args.range.now) x (plain_value front.value) front.wide (drop front.end x)) (to_end keys.end c.args.text.now) c.in-Some.ensures in (
      omega (arith, found.0, length-drop keys.end c.args.text.now, c.in_ok-keys.ensures.0),
      subst (λ x. IsLine (plain_sorts c.args.domain.now) (plain_sort c.args.range.now) c.args.text.now x (plain_values keys.keys) (plain_value front.value) keys.wide (keys.wide || front.wide)) (drop-drop front.end keys.end c.args.text.now)
          (line_is (plain_sorts c.args.domain.now) (plain_sort c.args.range.now) c.args.text.now middle (drop front.end middle) (plain_values keys.keys) keys.wide (plain_value front.value) front.wide c.in_ok-keys.ensures.1 found.1),
    )
