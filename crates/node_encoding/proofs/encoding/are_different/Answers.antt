use Rattle.std.proofs.Common.{◌∙◌, get_or, sym, subst, arith}
use Rattle.std.proofs.lemmas.List.{take_all}
use Rattle.std.proofs.lemmas.Option.{slice_get-get_or}
use Rattle.node_encoding.specs.Gates.{Differ}
use Rattle.node_encoding.proofs.Placing.{seen_more, seen_none}
use Rattle.node_encoding.proofs.encoding.are_different.Goals as goal

pub loop-arg-init : goal.loop-arg-init
loop-arg-init c = (c.new-seen.ensures.empty, seen_none c.args.args.now)

pub loop-arg-preserved : goal.loop-arg-preserved
loop-arg-preserved c =
    let args = c.args.args.now in
    let i = c.loop-arg.arg-index in
    let x = get_or args i 0 in
    let one = seen_more args c.loop-arg.seen.keys i x c.loop-arg.invariant.0 c.loop-arg.invariant.1 (slice_get-get_or args i 0 c.loop-arg-test.true) (sym c.in_ok-is_new.ensures.added ∙ c.if-not-is_new.false) in
    (c.in_ok-is_new.ensures.keys ∙ one.0, one.1)

pub returns : goal.returns
returns c = λ t. subst Differ (take_all c.loop-arg.arg-index c.args.args.now (omega (arith, c.loop-arg-test.false))) c.loop-arg.invariant.1
