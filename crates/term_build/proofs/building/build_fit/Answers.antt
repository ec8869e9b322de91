use Rattle.std.proofs.Common.{◌+◌, length, sym, subst}
use Rattle.term_sketches.specs.Valuing.{parts_of}
use Rattle.term_build.specs.Building.{AddsAtMost, IsMade, IsReady, no_more}
use Rattle.term_build.proofs.Built.{call_ready, call_grown, call_built}
use Rattle.term_build.proofs.building.build_fit.Goals as goal

pub returns-in_default-clause-grown : goal.returns-in_default-clause-grown
returns-in_default-clause-grown c = no_more (4 + length c.args.arguments.now) c.args.table.now

pub realise-requires : goal.realise-requires
realise-requires c =
    subst (IsReady c.args.table.now) (sym (c.in-Ok.ensures c.requires.sorts c.requires.have)) (call_ready c.known.ensures c.args.table.now c.is_table.ensures c.args.operator c.args.arguments.now c.requires)

pub returns-in_err-t-clause-grown : goal.returns-in_err-t-clause-grown
returns-in_err-t-clause-grown c =
    call_grown c.known.ensures c.args.table.now c.is_table.ensures c.args.operator c.args.arguments.now c.requires c.realise.new.table
    (subst (λ s. AddsAtMost (length (parts_of s) + 2) c.args.table.now c.realise.new.table) (c.in-Ok.ensures c.requires.sorts c.requires.have) c.realise.ensures.grown)

pub returns-clause-built : goal.returns-clause-built
returns-clause-built c =
    call_built c.known.ensures c.args.table.now c.is_table.ensures c.args.operator c.args.arguments.now c.requires c.realise.new.table c.stands.ensures (length (parts_of c.in-Ok.sketch) + 2) c.realise.ensures.grown c.in_ok-t.t
    (subst (IsMade c.realise.new.table c.in_ok-t.t) (c.in-Ok.ensures c.requires.sorts c.requires.have) c.in_ok-t.ensures.made)

pub returns-clause-grown : goal.returns-clause-grown
returns-clause-grown c =
    call_grown c.known.ensures c.args.table.now c.is_table.ensures c.args.operator c.args.arguments.now c.requires c.realise.new.table
    (subst (λ s. AddsAtMost (length (parts_of s) + 2) c.args.table.now c.realise.new.table) (c.in-Ok.ensures c.requires.sorts c.requires.have) c.realise.ensures.grown)
