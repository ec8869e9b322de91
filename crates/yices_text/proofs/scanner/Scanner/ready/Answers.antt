use Rattle.std.proofs.Common.{◌∙◌, sym, subst}
use Rattle.yices_grammar.specs.Tokens.{word}
use Rattle.yices_lexer.specs.declared.lexing.Lexing.{Lexing}
use Rattle.yices_text.specs.Progress.{TakesToken}
use Rattle.yices_text.proofs.Scanning.{ready_word}
use Rattle.yices_text.proofs.scanner.Scanner.ready.Goals as goal

pub returns-clause-readies : goal.returns-clause-readies
returns-clause-readies c = λ fed answered r.
    ready_word fed c.args.byte answered c.args.self.now c.take.new.self c.in-Word.word c.word_text.result.now c.take.result (sym c.replace-lexing.ensures.value ∙ c.in-Word.is) (c.word_text.ensures ∙ c.as_slice.ensures)
    (sym c.is_ended.ensures ∙ c.if-not-is_ended.false)
    (subst (λ (l : Lexing). TakesToken (record c.args.self.now { lexing = l }) c.take.new.self (word c.word_text.result.now) c.args.self.now.at.place c.take.result) c.replace-lexing.ensures.after c.take.ensures) r
