use Rattle.std.proofs.Common.{◌∙◌, sym, ap}
use Rattle.expression_terms.specs.Trees.{op_in, operator_words}
use Rattle.expression_terms.proofs.Outcomes.{adds_none}
use Rattle.expression_terms.proofs.Calling.{not_begun, word_unbuilt, ok_then, err_then, on_err_then}
use Rattle.expression_terms.proofs.calls.operate.Goals as goal

pub returns-in_default-clause-refused : goal.returns-in_default-clause-refused
returns-in_default-clause-refused c s es start truths all =
    word_unbuilt s c.args.place c.args.word.now es start c.args.env.now.table c.args.arguments.now c.args.env.now (ap (op_in operator_words) (sym c.as_str.ensures.bytes) ∙ c.in_default.ensures.none) all

pub returns-in_default-clause-past : goal.returns-in_default-clause-past
returns-in_default-clause-past c s es start truths all = not_begun s c.args.place c.args.word.now es start c.args.env.now.table c.args.arguments.now all

pub returns-in_default-clause-grown : goal.returns-in_default-clause-grown
returns-in_default-clause-grown c = adds_none c.args.env.now.table

pub returns-clause-built : goal.returns-clause-built
returns-clause-built c = ok_then c.construct.result c.construct.ensures.built (λ x h s es start truths all. h s c.args.word.now es start (ap (op_in operator_words) (sym c.as_str.ensures.bytes) ∙ c.in-Some.ensures.some) truths all)

pub returns-clause-refused : goal.returns-clause-refused
returns-clause-refused c = err_then c.construct.result c.construct.ensures.refused (λ x h s es start truths all. h s c.args.word.now es start (ap (op_in operator_words) (sym c.as_str.ensures.bytes) ∙ c.in-Some.ensures.some) truths all)

pub returns-clause-past : goal.returns-clause-past
returns-clause-past c = on_err_then c.construct.result c.construct.ensures.past (λ h s es start truths all. h s c.args.word.now es start (ap (op_in operator_words) (sym c.as_str.ensures.bytes) ∙ c.in-Some.ensures.some) truths all)
