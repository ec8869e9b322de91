use Rattle.std.proofs.Common.{subst}
use Rattle.yices_lexer.specs.declared.lexing.Lexed.{Lexed}
use Rattle.yices_lexer.specs.Bytes.{IsHeldLexed}
use Rattle.yices_text.specs.Progress.{Makes}
use Rattle.yices_text.proofs.Scanning.{makes_white, makes_token, makes_bad, makes_alone}
use Rattle.yices_text.proofs.scanner.Scanner.make.Goals as goal

pub returns-in-White-clause-makes : goal.returns-in-White-clause-makes
returns-in-White-clause-makes c = λ fed byte answered m.
    makes_white fed byte answered c.args.self.now c.args.here c.requires.blank (subst (λ (l : Lexed). Makes fed byte answered c.args.self.now l c.args.here) c.in-White.is m)

pub returns-in-Token-clause-makes : goal.returns-in-Token-clause-makes
returns-in-Token-clause-makes c = λ fed byte answered m.
    makes_token fed byte answered c.args.self.now c.args.here c.take_ended.new.self c.in-Token.ended c.take_ended.result c.requires.blank
    (subst (λ (l : Lexed). IsHeldLexed l) c.in-Token.is c.requires.held) c.take_ended.ensures (subst (λ (l : Lexed). Makes fed byte answered c.args.self.now l c.args.here) c.in-Token.is m)

pub returns-in-BadByte-clause-makes : goal.returns-in-BadByte-clause-makes
returns-in-BadByte-clause-makes c = λ fed byte answered m.
    makes_bad fed byte answered c.args.self.now c.args.here c.fault.result c.fault.ensures (subst (λ (l : Lexed). Makes fed byte answered c.args.self.now l c.args.here) c.in-BadByte.is m)

pub returns-in-LoneColon-clause-makes : goal.returns-in-LoneColon-clause-makes
returns-in-LoneColon-clause-makes c = λ fed byte answered m.
    makes_alone fed byte answered c.args.self.now c.args.here c.fault-in-LoneColon.result c.fault-in-LoneColon.ensures (subst (λ (l : Lexed). Makes fed byte answered c.args.self.now l c.args.here) c.in-LoneColon.is m)
