use Rattle.std.proofs.Common.{arith}
use Rattle.term_shapes.specs.declared.handles.Term.{Term}
use Rattle.term_collect.proofs.Sets.{root_live, next_root, all_terms}
use Rattle.term_collect.proofs.roots.mark_terms.Goals as goal

pub mark-requires : goal.mark-requires
mark-requires c =
    let d : Term = record { slot = 0; stamp = 0 } in
    root_live c.args.table.now c.loop-root.table c.args.roots.now c.loop-root.root-index d c.requires c.loop-root.invariant.same c.loop-root-test.true

pub loop-root-preserved : goal.loop-root-preserved
loop-root-preserved c =
    let d : Term = record { slot = 0; stamp = 0 } in
    next_root c.args.table.now c.loop-root.table c.mark.new.self c.args.roots.now c.loop-root.root-index d c.requires c.loop-root-test.true c.loop-root.invariant c.mark.ensures

pub returns : goal.returns
returns c =
    all_terms c.args.table.now c.loop-root.table c.args.roots.now c.loop-root.root-index (omega arith) c.loop-root.invariant
