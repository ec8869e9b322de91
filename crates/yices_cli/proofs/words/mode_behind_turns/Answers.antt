use Rattle.std.proofs.Common.{rules}
use Rattle.yices_cli.proofs.Usages.{limit_missing, no_limit, third_faulty, first_word}
use Rattle.yices_cli.proofs.words.mode_behind_turns.Goals as goal

pub returns-in_default-clause-usage : goal.returns-in_default-clause-usage
returns-in_default-clause-usage c = limit_missing _ (search rules)

pub returns-in_default-limit_of-clause-usage : goal.returns-in_default-limit_of-clause-usage
returns-in_default-limit_of-clause-usage c =
    rw (first_word c.args.others.now c.digits-item.result c.as_str.result.now (search rules) c.digits-item.is c.as_str.ensures.value)
    (no_limit c.as_str.result.now _ c.in_default-limit_of.ensures)

pub returns-then-not-is_empty-clause-usage : goal.returns-then-not-is_empty-clause-usage
returns-then-not-is_empty-clause-usage c =
    rw (first_word c.args.others.now c.digits-item.result c.as_str.result.now (search rules) c.digits-item.is c.as_str.ensures.value)
    (third_faulty c.as_str.result.now _ c.in-Some.limit c.in-Some.ensures (search rules))
