use Rattle.std.proofs.Common.{arith}
use Rattle.term_shapes.specs.declared.handles.TypeId.{TypeId}
use Rattle.term_collect.proofs.Sets.{root_type_live, next_root_type, all_types}
use Rattle.term_collect.proofs.roots.mark_types.Goals as goal

pub mark_type-requires : goal.mark_type-requires
mark_type-requires c =
    let d : TypeId = record { slot = 0; stamp = 0 } in
    root_type_live c.args.table.now c.loop-root.table c.args.roots.now c.loop-root.root-index d c.requires c.loop-root.invariant.same c.loop-root-test.true

pub loop-root-preserved : goal.loop-root-preserved
loop-root-preserved c =
    let d : TypeId = record { slot = 0; stamp = 0 } in
    next_root_type c.args.table.now c.loop-root.table c.mark_type.new.self c.args.roots.now c.loop-root.root-index d c.requires c.loop-root-test.true c.loop-root.invariant c.mark_type.ensures

pub returns : goal.returns
returns c =
    all_types c.args.table.now c.loop-root.table c.args.roots.now c.loop-root.root-index (omega arith) c.loop-root.invariant
