use Rattle.std.proofs.Common.{Ok, Err, subst}
use Rattle.std.proofs.lemmas.Result.{err_from_is_err_and}
use Rattle.yices_lexer.specs.Found.{plain_lexeme}
use Rattle.yices_parser.specs.declared.parser.Parser.{Parser}
use Rattle.yices_parser.specs.Taking.{state_of, depth_of, IsTaken}
use Rattle.yices_text.proofs.Scanning.{takes_token, refuses_token, forgets_token}
use Rattle.yices_text.proofs.scanner.Scanner.take.Goals as goal

pub returns-in_err-wait-in-Ok : goal.returns-in_err-wait-in-Ok
returns-in_err-wait-in-Ok c =
    let p = err_from_is_err_and c.from_residual.result c.from_residual.ensures.1 in
    rw p.1 (forgets_token c.args.self.now (plain_lexeme c.args.lexeme) c.args.next c.replace-parser.new.dest c.wait.new.waiting p.0 c.in_err-wait-in-Ok.ensures.err p.2)

pub returns-in_ok-wait-in-Ok : goal.returns-in_ok-wait-in-Ok
returns-in_ok-wait-in-Ok c =
    takes_token c.args.self.now (plain_lexeme c.args.lexeme) c.args.next c.in-Ok.field-0 c.wait.new.waiting
    (subst (λ (q : Parser). IsTaken (depth_of q) (state_of q) c.args.self.now.first (plain_lexeme c.args.lexeme) (Ok c.in-Ok.field-0)) c.replace-parser.ensures.value c.in-Ok.ensures) c.in_ok-wait-in-Ok.ensures.ok

pub returns-in-Err : goal.returns-in-Err
returns-in-Err c =
    refuses_token c.args.self.now (plain_lexeme c.args.lexeme) c.args.next c.replace-parser.new.dest c.in-Err.error c.refusal.result
    (subst (λ (q : Parser). IsTaken (depth_of q) (state_of q) c.args.self.now.first (plain_lexeme c.args.lexeme) (Err c.in-Err.error)) c.replace-parser.ensures.value c.in-Err.ensures) c.refusal.ensures
