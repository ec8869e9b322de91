use Rattle.std.proofs.Common.{List, map, reverse, ap, refl}
use Rattle.yices_session.specs.declared.session.Declared.{Declared}
use Rattle.yices_session.specs.Held.{Declared as HeldName}
use Rattle.yices_session.proofs.Answering.{starts}
use Rattle.yices_session.proofs.session.Session.new.Goals as goal

pub returns-clause-start : goal.returns-clause-start
returns-clause-start c =
    starts _ c.in_ok-env.ensures (ap (λ (ds : List Declared). map {B = HeldName} (λ (d : Declared). record { name = d.name; term = d.term; has_value = d.has_value }) ds) c.new-2.ensures.items) c.new-3.ensures.items c.new-4.ensures.items
    (ap (λ ms. reverse ms) c.new-5.ensures.items) refl refl

pub invariant_of-result : goal.invariant_of-result
invariant_of-result c =
    let r =
    starts _ c.in_ok-env.ensures (ap (λ (ds : List Declared). map {B = HeldName} (λ (d : Declared). record { name = d.name; term = d.term; has_value = d.has_value }) ds) c.new-2.ensures.items) c.new-3.ensures.items c.new-4.ensures.items
    (ap (λ ms. reverse ms) c.new-5.ensures.items) refl refl
    in (r.0, r.2)
