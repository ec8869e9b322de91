use Rattle.std.proofs.Common.{◌≤◌, length, string_bytes}
use Rattle.term_texts.specs.TermTexts.{text_limit}
use Rattle.term_texts.specs.Gaps.{stack_turns}
use Rattle.term_texts.proofs.Stacks.{Writing}
use Rattle.term_texts.proofs.terms.spell.Given as goal

abbrev pub invariant-loop-frame : goal.invariant-loop-frame
invariant-loop-frame l = record {
  written : Writing l.table l.fn.t (string_bytes l.out) l.stack.items;
  fits : length (string_bytes l.out) ≤ text_limit;
}

abbrev pub decreases-loop-frame : goal.decreases-loop-frame
decreases-loop-frame l = stack_turns l.table l.stack.items
