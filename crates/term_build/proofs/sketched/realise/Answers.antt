use Rattle.std.proofs.Common.{◌+◌, length, ap, arith}
use Rattle.term_sketches.specs.declared.items.Sketch.{Sketch}
use Rattle.term_sketches.specs.Valuing.{parts_of}
use Rattle.term_build.proofs.Growing.{at_most_more}
use Rattle.term_build.proofs.sketched.realise.Goals as goal

pub returns-in-OneLiteral-clause-grown : goal.returns-in-OneLiteral-clause-grown
returns-in-OneLiteral-clause-grown c = at_most_more 1 (length (parts_of c.args.sketch) + 2) c.args.table.now c.literal_term.new.table (omega arith) c.literal_term.ensures.grown

pub returns-in-OddOf-clause-grown : goal.returns-in-OddOf-clause-grown
returns-in-OddOf-clause-grown c = at_most_more 2 (length (parts_of c.args.sketch) + 2) c.args.table.now c.odd_of.new.table (omega arith) c.odd_of.ensures.grown

pub returns-in-OneOf-clause-grown : goal.returns-in-OneOf-clause-grown
returns-in-OneOf-clause-grown c =
    at_most_more 3 (length (parts_of c.args.sketch) + 2) c.args.table.now c.one_of.new.table (omega (arith, ap (λ (s : Sketch). length (parts_of s)) c.in-OneOf.is)) c.one_of.ensures.grown

pub returns-in-Equal-clause-grown : goal.returns-in-Equal-clause-grown
returns-in-Equal-clause-grown c = at_most_more 2 (length (parts_of c.args.sketch) + 2) c.args.table.now c.equal.new.table (omega arith) c.equal.ensures.grown

pub returns-in-Apart-clause-grown : goal.returns-in-Apart-clause-grown
returns-in-Apart-clause-grown c = at_most_more 1 (length (parts_of c.args.sketch) + 2) c.args.table.now c.apart.new.table (omega arith) c.apart.ensures.grown
