use Rattle.y_tree.specs.Plain.{plain_sort, plain_value}
use Rattle.value_texts.proofs.FunctionTexts.{no_simple, simple_within}
use Rattle.value_texts.proofs.read.read_simple.Goals as goal

pub returns-in_default-clause-value : goal.returns-in_default-clause-value
returns-in_default-clause-value c = no_simple (plain_sort c.args.of.now) c.args.text.now c.requires c.in_default.ensures

pub returns-clause-within : goal.returns-clause-within
returns-clause-within c = simple_within (plain_sort c.args.of.now) c.args.text.now (plain_value c.in-Some.word.value) c.in-Some.word.wide c.requires c.in-Some.ensures c.if-word.false
