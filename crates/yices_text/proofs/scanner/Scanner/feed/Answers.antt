use Rattle.std.proofs.Common.{ℕ, List, refl, sym, subst}
use Rattle.std.proofs.lemmas.Result.{err_from_is_err_and}
use Rattle.yices_lexer.specs.declared.lexing.Lexing.{Lexing}
use Rattle.yices_lexer.specs.Bytes.{IsLexing, IsLexed}
use Rattle.yices_text.specs.Progress.{Makes}
use Rattle.yices_text.proofs.Scanning.{before_makes, stops_before}
use Rattle.yices_text.proofs.scanner.Scanner.feed.Goals as goal

pub returns-in_err-ready-clause-feeds : goal.returns-in_err-ready-clause-feeds
returns-in_err-ready-clause-feeds c = λ fed answered r.
    let p = err_from_is_err_and c.from_residual.result c.from_residual.ensures.1 in
    rw (p.1, p.2) (c.in_err-ready.ensures.readies fed answered r)

pub returns-in_err-lexed-clause-feeds : goal.returns-in_err-lexed-clause-feeds
returns-in_err-lexed-clause-feeds c = λ fed answered r.
    let p = err_from_is_err_and c.from_residual-in_err-lexed.result c.from_residual-in_err-lexed.ensures.1 in
    rw p.1 (stops_before fed c.args.byte answered c.ready.new.self _ p.0 p.2 refl (c.in_ok-ready.ensures.readies fed answered r))

pub returns-clause-feeds : goal.returns-clause-feeds
returns-clause-feeds c = λ fed answered r.
    c.make.ensures.makes fed c.args.byte answered
    (subst (λ (l : Lexing). Makes fed c.args.byte answered (record c.ready.new.self { lexing = l; at = c.behind-self.result }) c.in_ok-lexed.lexed c.ready.new.self.at.place) (sym c.replace-lexing.ensures.after)
    (before_makes fed c.args.byte answered c.ready.new.self c.behind-self.result c.in_ok-lexed.lexed c.behind-self.ensures.index c.behind-self.ensures.place
    (subst (λ (l : Lexing). (rest : List ℕ) → IsLexing l rest → IsLexed rest c.args.byte c.in_ok-lexed.lexed) c.replace-lexing.ensures.value c.in_ok-lexed.ensures.makes)
    (c.in_ok-ready.ensures.readies fed answered r)))
