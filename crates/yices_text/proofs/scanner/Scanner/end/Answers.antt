use Rattle.std.proofs.Common.{refl, sym}
use Rattle.std.proofs.lemmas.Bool.{true≢false}
use Rattle.std.proofs.lemmas.Result.{err_from_is_err_and}
use Rattle.yices_text.proofs.Scanning.{ends_between, ends_inside}
use Rattle.yices_text.proofs.scanner.Scanner.end.Goals as goal

pub returns-in_err-end_token-clause-ends : goal.returns-in_err-end_token-clause-ends
returns-in_err-end_token-clause-ends c = λ fed answered r.
    let p = err_from_is_err_and c.from_residual.result c.from_residual.ensures.1 in
    rw (p.1, p.2) (c.in_err-end_token.ensures.ends fed answered r)

pub returns-then-is_between-clause-ends : goal.returns-then-is_between-clause-ends
returns-then-is_between-clause-ends c = λ fed answered r. ends_between fed answered c.end_token.new.self (c.if-is_between.ensures.0 refl) (c.in_ok-end_token.ensures.ends fed answered r)

pub returns-clause-ends : goal.returns-clause-ends
returns-clause-ends c = λ fed answered r. ends_inside fed answered c.end_token.new.self c.fault.result (λ b. true≢false (sym (c.if-is_between.ensures.1 b))) c.fault.ensures (c.in_ok-end_token.ensures.ends fed answered r)
