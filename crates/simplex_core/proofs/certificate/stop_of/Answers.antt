use Rattle.std.proofs.Common.{◌≡◌, Some, subst}
use Rattle.std.specs.Prelude.{IfSome}
use Rattle.simplex_bounds.specs.declared.Bound.{Bound}
use Rattle.simplex_core.proofs.ConflictLemmas.{stop_up_is, stop_low_is}
use Rattle.simplex_core.proofs.certificate.stop_of.Goals as goal

pub returns-in-Greater : goal.returns-in-Greater
returns-in-Greater c = stop_up_is c.args.range.now c.args.by c.tagged.result c.in-Greater.ensures c.tagged.ensures.some

pub returns-in-Less : goal.returns-in-Less
returns-in-Less c =
    stop_low_is c.args.range.now c.args.by c.tagged-in-Less.result c.in-Less.ensures
    (subst (λ q. IfSome c.args.range.now.low (λ (b : Bound). c.tagged-in-Less.result ≡ Some (b.tag, q))) c.neg.ensures c.tagged-in-Less.ensures.some)
