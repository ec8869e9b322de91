use Rattle.std.proofs.Common.{rules, get_or, refl, ap, sym, ◌∙◌, ◌≡◌}
use Rattle.rationals.specs.Rational.{zero_ℚ}
use Rattle.simplex_logic.specs.Vectors.{at}
use Rattle.simplex_logic.proofs.Operands.{replaced_same}
use Rattle.simplex_table.proofs.Entries.{replaced_all, at_read}
use Rattle.simplex_table.proofs.row.Row.replaced.Goals as goal

pub returns-then-is_zero-clause-ok : goal.returns-then-is_zero-clause-ok
returns-then-is_zero-clause-ok c =
    let z : at c.args.self.now c.args.column ≡ zero_ℚ =
    sym (at_read c.args.self.now c.args.column c.index-by.result.now c.requires.in_row (c.index-by.ensures ∙ ap (λ xs. get_or xs c.args.column c.index-by.result.now) c.self.view_is)) ∙ c.if-is_zero.ensures.0 refl in
    c.in_ok-copy.ensures ∙ sym (replaced_same c.args.column c.args.pivot.now c.args.self.now z c.requires.same_length)

pub returns-clause-ok : goal.returns-clause-ok
returns-clause-ok c = replaced_all c.args.column c.args.pivot.now c.args.self.now c.loop-k.entries.items c.loop-k.k c.requires.same_length (search rules) c.loop-k.invariant
