use Rattle.std.proofs.Common.{subst, sym}
use Rattle.std.proofs.lemmas.Option.{slice_get_within}
use Rattle.clause_trail.specs.declared.Advance.TheVariants as advance
use Rattle.clause_trail.specs.View.{lists_of, Lists}
use Rattle.clause_trail.specs.Steps.{Keeps, Goes}
use Rattle.clause_trail.proofs.Turning.{turn_known, imply_keeps, imply_goes, move_keeps, move_goes, moves_apart}
use Rattle.clause_trail.proofs.State.advance.Goals as goal

pub row_at-c-requires-clause-known : goal.row_at-c-requires-clause-known
row_at-c-requires-clause-known c = turn_known (lists_of c.args.self.now) c.args.falsified c.args.at c.requires.turn

pub shift-requires-clause-pair : goal.shift-requires-clause-pair
shift-requires-clause-pair c = slice_get_within c.args.self.now.pairs.items c.row_at-c.result c.in-Move.ensures.pair c.in-Move.ensures.paired

pub shift-requires-clause-known : goal.shift-requires-clause-known
shift-requires-clause-known c = c.requires.turn.base.known c.row_at-c.result c.in-Move.ensures.lits c.in-Move.to c.in-Move.ensures.is c.in-Move.ensures.has

pub shift-requires-clause-known_too : goal.shift-requires-clause-known_too
shift-requires-clause-known_too c = turn_known (lists_of c.args.self.now) c.args.falsified c.args.at c.requires.turn

pub shift-requires-clause-apart : goal.shift-requires-clause-apart
shift-requires-clause-apart c = moves_apart (lists_of c.args.self.now) c.args.falsified c.row_at-c.result c.args.at c.requires.turn c.row_at-c.ensures c.in-Move.other c.in-Move.to c.in-Move.ensures

pub returns-in_ok-enqueue-in-Imply-clause-keeps : goal.returns-in_ok-enqueue-in-Imply-clause-keeps
returns-in_ok-enqueue-in-Imply-clause-keeps c =
    subst (λ (u : Lists). Keeps (lists_of c.args.self.now) u) (sym c.in_ok-enqueue-in-Imply.ensures.ok)
    (imply_keeps (lists_of c.args.self.now) c.args.falsified c.row_at-c.result c.args.at c.requires.turn c.row_at-c.ensures c.in-Imply.other c.in-Imply.ensures)

pub returns-in_ok-enqueue-in-Imply-clause-goes : goal.returns-in_ok-enqueue-in-Imply-clause-goes
returns-in_ok-enqueue-in-Imply-clause-goes c =
    subst (λ (u : Lists). Goes (lists_of c.args.self.now) u c.args.falsified c.args.at advance.Next) (sym c.in_ok-enqueue-in-Imply.ensures.ok)
    (imply_goes (lists_of c.args.self.now) c.args.falsified c.row_at-c.result c.args.at c.requires.turn c.row_at-c.ensures c.in-Imply.other c.in-Imply.ensures)

pub returns-in_ok-shift-in-Move-clause-keeps : goal.returns-in_ok-shift-in-Move-clause-keeps
returns-in_ok-shift-in-Move-clause-keeps c =
    subst (λ (u : Lists). Keeps (lists_of c.args.self.now) u) (sym c.in_ok-shift-in-Move.ensures.ok)
    (move_keeps (lists_of c.args.self.now) c.args.falsified c.row_at-c.result c.args.at c.requires.turn c.row_at-c.ensures c.in-Move.other c.in-Move.to c.in-Move.ensures)

pub returns-in_ok-shift-in-Move-clause-goes : goal.returns-in_ok-shift-in-Move-clause-goes
returns-in_ok-shift-in-Move-clause-goes c =
    subst (λ (u : Lists). Goes (lists_of c.args.self.now) u c.args.falsified c.args.at advance.Same) (sym c.in_ok-shift-in-Move.ensures.ok)
    (move_goes (lists_of c.args.self.now) c.args.falsified c.row_at-c.result c.args.at c.requires.turn c.row_at-c.ensures c.in-Move.other c.in-Move.to c.in-Move.ensures)
