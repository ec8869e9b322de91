use Rattle.std.proofs.Common.{sym, subst}
use Rattle.yices_parser.specs.Steps.{Takes}
use Rattle.yices_parser.proofs.Beginning.{type_or_end_word}
use Rattle.yices_parser.proofs.parser.type_or_end_word.Goals as goal

pub returns : goal.returns
returns c = λ p. subst (λ o. Takes p o c.type_word.result) (sym (type_or_end_word p c.args.at c.args.word.now c.args.name c.new-arrows.result c.new-arrows.ensures)) (c.type_word.ensures p)
