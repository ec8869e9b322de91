use Rattle.std.proofs.Common.{◌∙◌, sym, subst}
use Rattle.yices_grammar.specs.Tokens.{word}
use Rattle.yices_lexer.specs.declared.lexing.Lexing.{Lexing}
use Rattle.yices_text.specs.Progress.{TakesToken}
use Rattle.yices_text.proofs.Scanning.{closes_colon, closes_string, closes_word}
use Rattle.yices_text.proofs.scanner.Scanner.end_token.Goals as goal

pub returns-in-Colon-clause-ends : goal.returns-in-Colon-clause-ends
returns-in-Colon-clause-ends c = λ fed answered r.
    rw c.replace-lexing.ensures.after (closes_colon fed answered c.args.self.now r c.fault.result (sym c.replace-lexing.ensures.value ∙ c.in-Colon.is) c.fault.ensures)

pub returns-in-Word-clause-ends : goal.returns-in-Word-clause-ends
returns-in-Word-clause-ends c = λ fed answered r.
    closes_word fed answered c.args.self.now r c.take.new.self c.in-Word.word c.word_text.result.now c.take.result (sym c.replace-lexing.ensures.value ∙ c.in-Word.is) (c.word_text.ensures ∙ c.as_slice.ensures)
    (subst (λ (l : Lexing). TakesToken (record c.args.self.now { lexing = l }) c.take.new.self (word c.word_text.result.now) c.args.self.now.at.place c.take.result) c.replace-lexing.ensures.after c.take.ensures)

pub returns-clause-ends : goal.returns-clause-ends
returns-clause-ends c = λ fed answered r.
    rw c.replace-lexing.ensures.after
    (closes_string fed answered c.args.self.now r c.in-Quoted.field-0 c.in-Quoted.field-1 c.fault-in-Quoted.result (sym c.replace-lexing.ensures.value ∙ c.in-Quoted.is) c.fault-in-Quoted.ensures)
