use Rattle.std.proofs.Common.{sym}
use Rattle.model_eval.specs.Models.{assignment_of}
use Rattle.model_eval.proofs.Made.{ready}
use Rattle.model_eval.proofs.Passes.{argument_by, no_shape}
use Rattle.model_eval.proofs.Shaping.{term_ok, term_err}
use Rattle.model_eval.proofs.shapes.value_of_term.Goals as goal

pub value_of_shape-requires-clause-ready : goal.value_of_shape-requires-clause-ready
value_of_shape-requires-clause-ready c =
    let w = c.args.table.now in let s = c.in-Some.shape.now in
    ready w c.is_table.ensures (assignment_of w c.args.model.now) c.args.known.now.entries c.args.t s (sym c.in-Some.ensures) (λ u h. c.requires.arguments u (argument_by w c.args.t u s (sym c.in-Some.ensures) h))

pub unreachable-requires : goal.unreachable-requires
unreachable-requires c = no_shape c.args.table.now c.args.t c.in-None.ensures c.requires.live

pub returns-clause-value : goal.returns-clause-value
returns-clause-value c =
    let w = c.args.table.now in let s = c.in-Some.shape.now in
    term_ok w c.is_table.ensures (assignment_of w c.args.model.now) c.args.known.now.entries c.args.t s (sym c.in-Some.ensures) (λ u h. c.requires.arguments u (argument_by w c.args.t u s (sym c.in-Some.ensures) h)) c.value_of_shape.result c.value_of_shape.ensures.value

pub returns-clause-refused : goal.returns-clause-refused
returns-clause-refused c =
    let w = c.args.table.now in let s = c.in-Some.shape.now in
    term_err w c.is_table.ensures (assignment_of w c.args.model.now) c.args.known.now.entries c.args.t s (sym c.in-Some.ensures) (λ u h. c.requires.arguments u (argument_by w c.args.t u s (sym c.in-Some.ensures) h))
    (ready w c.is_table.ensures (assignment_of w c.args.model.now) c.args.known.now.entries c.args.t s (sym c.in-Some.ensures) (λ u h. c.requires.arguments u (argument_by w c.args.t u s (sym c.in-Some.ensures) h))) c.value_of_shape.result c.value_of_shape.ensures.refused
