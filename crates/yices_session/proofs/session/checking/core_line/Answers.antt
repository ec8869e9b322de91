use Rattle.std.proofs.Common.{◌++◌, ◌∙◌, ◌<◌, [], true, length, map, string_bytes, sym, ap, arith}
use Rattle.term_shapes.specs.declared.handles.Term.{Term}
use Rattle.yices_commands.specs.Plain.{plain_literal}
use Rattle.yices_session.specs.State.{Literal}
use Rattle.yices_session.specs.Parts.{literal_of, spaced}
use Rattle.yices_session.specs.Replies.{literal_text}
use Rattle.yices_session.proofs.Cores.{core_start, core_more, core_passes, core_all, literal_at, literals_count}
use Rattle.yices_session.proofs.session.checking.core_line.Goals as goal
use Rattle.yices_session.proofs.session.checking.core_line.Goals.{then-swap_remove+in_ok-write_literal, else-swap_remove}

pub loop-i-init : goal.loop-i-init
loop-i-init c =
    core_start c.args.blamed.now c.args.assumed.now (map literal_of (map plain_literal c.args.literals.now)) c.loop-t.left.keys c.loop-t.t-index (string_bytes c.in_ok-line.line)
    (omega (arith, c.loop-t.auto.t-index-end, c.loop-t-test.false)) c.loop-t.invariant c.in_ok-line.ensures.ok

pub loop-i-preserved : goal.loop-i-preserved
loop-i-preserved c =
    let us = c.args.assumed.now in
    let ls = map literal_of (map plain_literal c.args.literals.now) in
    let i = c.loop-i.i in
    let d : Term = record { slot = 0; stamp = 0 } in
    let here : i < length us = omega (arith, c.loop-i-test.true, c.requires) in
    let there : i < length ls = omega (arith, c.loop-i-test.true, literals_count c.args.literals.now) in
    elim c.if-swap_remove.branch [
      | then-swap_remove+in_ok-write_literal w ↦
          let e : Literal = literal_of (plain_literal w.index-literals-i.result) in
          rw (w.line-is, w.is_first-is)
          (core_more c.args.blamed.now us ls i c.loop-i.left.keys c.swap_remove.new.self.keys (string_bytes c.loop-i.line) c.loop-i.is_first d e c.loop-i.invariant here there
          (sym c.swap_remove.ensures.found ∙ w.if-swap_remove.true) c.swap_remove.ensures.updates.0 (string_bytes w.write_literal.new.line)
          (w.in_ok-write_literal.ensures.ok ∙ ap (λ l. string_bytes c.loop-i.line ++ spaced c.loop-i.is_first (literal_text l)) (sym (literal_at c.args.literals.now i w.index-literals-i.result e c.loop-i-test.true w.index-literals-i.is))))
      | else-swap_remove w ↦
          rw (w.line-is, w.is_first-is)
          (core_passes c.args.blamed.now us ls i c.loop-i.left.keys c.swap_remove.new.self.keys (string_bytes c.loop-i.line) c.loop-i.is_first d (record { name = []; positive = true }) c.loop-i.invariant here there
          (sym c.swap_remove.ensures.found ∙ w.if-swap_remove.false) w.if-swap_remove.ensures.unchanged)
    ]

pub returns-clause-line : goal.returns-clause-line
returns-clause-line c =
    core_all c.args.blamed.now c.args.assumed.now (map literal_of (map plain_literal c.args.literals.now)) c.loop-i.i c.loop-i.left.keys (string_bytes c.loop-i.line) (string_bytes c.push_str.new.self) c.loop-i.is_first c.loop-i.invariant
    (omega (arith, c.loop-i-test.false, c.requires)) c.in_ok-push_str.ensures.bytes
