use Rattle.yices_lexer.proofs.Bytewise.{word_utf8}
use Rattle.yices_lexer.proofs.lexing.word_text.Goals as goal

pub unreachable-requires : goal.unreachable-requires
unreachable-requires c = c.in-Err.ensures.cases.0 (word_utf8 c.args.bytes.now c.requires)
