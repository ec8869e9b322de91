use Rattle.std.proofs.Common.{rules}
use Rattle.yices_cli.proofs.Usages.{first_word, first_faulty, second_faulty}
use Rattle.yices_cli.proofs.words.mode_of.Goals as goal

pub returns-in_default-mode_of_word-clause-usage : goal.returns-in_default-mode_of_word-clause-usage
returns-in_default-mode_of_word-clause-usage c =
    rw (first_word c.args.words.now.items c.first-item.result c.as_str-word.result.now (search rules) (search rules) c.as_str-word.ensures.value)
    (first_faulty c.as_str-word.result.now _ (search rules) c.in_default-mode_of_word.ensures)

pub returns-then-not-is_empty-clause-usage : goal.returns-then-not-is_empty-clause-usage
returns-then-not-is_empty-clause-usage c =
    rw (first_word c.args.words.now.items c.first-item.result c.as_str-word.result.now (search rules) (search rules) c.as_str-word.ensures.value)
    (second_faulty c.as_str-word.result.now _ c.in-Some.mode (search rules) c.in-Some.ensures (search rules))
