use Rattle.std.proofs.Common.{arith, string_bytes}
use Rattle.model_eval.specs.Models.{assignment_of}
use Rattle.yices_session.proofs.Showing.{item_there, name_truths, line_skipped, line_written, lines_end}
use Rattle.yices_session.proofs.session.models.show_names.Goals as goal
use Rattle.yices_session.proofs.session.models.show_names.Goals.{then-not-name+in_ok-value+in_ok-write_line, else-not-name}

pub value_of-requires-clause-truths : goal.value_of-requires-clause-truths
value_of-requires-clause-truths c =
    name_truths c.args.table.now c.args.declared.now c.loop-name.name-index c.name-item.result c.requires.truths (item_there c.args.declared.now c.loop-name.name-index c.name-item.result c.loop-name-test.true c.name-item.is)

pub loop-name-preserved : goal.loop-name-preserved
loop-name-preserved c =
    let w = c.args.table.now in
    let a = assignment_of w c.args.model.now in
    let ds = c.args.declared.now in
    let i = c.loop-name.name-index in
    let text = string_bytes c.loop-name.text in
    let d = c.name-item.result in
    let here = item_there ds i d c.loop-name-test.true c.name-item.is in
    elim c.if-not-name.branch [
      | then-not-name+in_ok-value+in_ok-write_line v ↦
          rw v.text-is (line_written w a ds i text d here c.loop-name.invariant v.in_ok-value.value (string_bytes v.write_line.new.text) v.if-not-name.true v.in_ok-value.ensures.text v.in_ok-write_line.ensures.ok)
      | else-not-name v ↦ rw v.text-is (line_skipped w a ds i text d here c.loop-name.invariant v.if-not-name.false)
    ]

pub returns-clause-lines : goal.returns-clause-lines
returns-clause-lines c =
    lines_end c.args.table.now (assignment_of c.args.table.now c.args.model.now) c.args.declared.now c.loop-name.name-index (string_bytes c.loop-name.text) (omega (arith, c.loop-name-test.false)) c.loop-name.invariant
