use Rattle.std.proofs.Common.{◌-◌, ◌≡◌, ◌≤◌, ℕ, length, false}
use Rattle.y_io.specs.declared.file_name.FileName.TheVariants.{Input}
use Rattle.yices_cli.specs.Seen.{IsFront}
use Rattle.yices_cli.proofs.reading.read_text.Given as goal

-- what was read is what the input begins with, and the input is as it was
abbrev pub invariant-pieces : goal.invariant-pieces
invariant-pieces g l = record {
  room : length l.text.items ≤ 67108864;
  front : IsFront (g.S.Source.holds l.fn.source Input) false l.text.items;
  held : g.S.Source.holds l.source Input ≡ g.S.Source.holds l.fn.source Input;
  unbroken : (p : ℕ) → g.S.Source.breaks l.source Input p ≡ g.S.Source.breaks l.fn.source Input p;
  later : g.S.Source.faults l.fn.source ≤ g.S.Source.faults l.source;
}

abbrev pub decreases-pieces : goal.decreases-pieces
decreases-pieces g l = 67108864 - length l.text.items
