use Rattle.std.proofs.Common.{◌≡◌, false, ℕ, ◌+◌, List, ◌++◌, take}
use Rattle.yices_grammar.specs.Commands as grammar
use Rattle.yices_lexer.specs.Bytes.{IsHeld}
use Rattle.yices_text.specs.Progress.{IsAt}
use Rattle.yices_text.proofs.scanner.Scanner.feed_all.Given as goal

abbrev pub invariant-loop-byte : goal.invariant-loop-byte
invariant-loop-byte l = record {
  held : IsHeld l.self.lexing;
  index : l.self.at.index ≡ l.fn.self.at.index + l.byte-index;
  feeds : (fed : List ℕ) (answered : List grammar.Command) → IsAt false fed answered l.fn.self → IsAt false (fed ++ take l.byte-index l.piece) answered l.self;
}
