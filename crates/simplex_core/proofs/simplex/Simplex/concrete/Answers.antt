use Rattle.std.proofs.Common.{length, sym, subst}
use Rattle.std.specs.Prelude.{IsSome}
use Rattle.simplex_table.specs.View.{deltas}
use Rattle.simplex_table.specs.Causes.{OnWide}
use Rattle.simplex_core.specs.Content.{Content}
use Rattle.simplex_core.specs.Wides.{OnStop, IsWide, Known}
use Rattle.simplex_core.specs.Solving.{IsFound}
use Rattle.simplex_core.specs.Concrete.{IsCommonStep, IsBoundWide, AreConcrete, IsConcrete, IsSomeValueWide}
use Rattle.simplex_core.proofs.WideLemmas.{step_stops, values_stop}
use Rattle.simplex_core.proofs.ConcreteWide.{concrete_is}
use Rattle.simplex_core.proofs.ContentLemmas.{current_of}
use Rattle.simplex_core.proofs.simplex.Simplex.concrete.Goals as goal

pub returns-in-Err-clause-wide : goal.returns-in-Err-clause-wide
returns-in-Err-clause-wide c =
    let s = c.self.inside.tableau in
    let bounds = c.self.inside.bounds.items in
    let values = c.self.inside.values.items in
    let f : IsFound s bounds values = c.self.invariant.found (current_of c.self.inside.current (deltas values) (subst (λ (o : Content). IsSome o.found) (sym c.self.view_is) c.requires)) in
    let h : IsBoundWide bounds values c.in-Err.wide = subst (λ vs. IsBoundWide bounds vs c.in-Err.wide) c.deref-2.ensures.value (subst (λ bs. IsBoundWide bs c.deref-2.result.now c.in-Err.wide) c.deref.ensures.value c.in-Err.ensures.wide) in
    subst (λ (o : Content). OnStop (IsWide o.rows (Known o.rows) o.bounds) c.wide_at.result) c.self.view_is
    (step_stops s bounds values c.in-Err.wide c.wide_at.result f c.self.invariant.known c.wide_at.ensures h)

pub returns-in-Ok-concrete_values-clause-ok : goal.returns-in-Ok-concrete_values-clause-ok
returns-in-Ok-concrete_values-clause-ok c =
    let s = c.self.inside.tableau in
    let bounds = c.self.inside.bounds.items in
    let values = c.self.inside.values.items in
    let f : IsFound s bounds values = c.self.invariant.found (current_of c.self.inside.current (deltas values) (subst (λ (o : Content). IsSome o.found) (sym c.self.view_is) c.requires)) in
    let p : IsCommonStep bounds values c.in-Ok.step = subst (λ vs. IsCommonStep bounds vs c.in-Ok.step) c.deref-2.ensures.value (subst (λ bs. IsCommonStep bs c.deref-2.result.now c.in-Ok.step) c.deref.ensures.value c.in-Ok.ensures.ok) in
    let a : AreConcrete c.in-Ok.step values (length s.rows) c.in-Ok-concrete_values.numbers.items =
    subst (λ n. AreConcrete c.in-Ok.step values n c.in-Ok-concrete_values.numbers.items) c.len-count.ensures (subst (λ vs. AreConcrete c.in-Ok.step vs c.len-count.result c.in-Ok-concrete_values.numbers.items) c.deref-3.ensures.value c.in-Ok-concrete_values.ensures.ok) in
    subst (λ (o : Content). IsConcrete o.rows o.bounds c.from_vec.result) c.self.view_is
    (subst (λ qs. IsConcrete s.rows bounds qs) (sym c.from_vec.ensures) (concrete_is s bounds values f c.self.invariant.known c.in-Ok.step p c.in-Ok-concrete_values.numbers.items a))

pub returns-in-Err-concrete_values-clause-wide : goal.returns-in-Err-concrete_values-clause-wide
returns-in-Err-concrete_values-clause-wide c =
    let s = c.self.inside.tableau in
    let bounds = c.self.inside.bounds.items in
    let values = c.self.inside.values.items in
    let f : IsFound s bounds values = c.self.invariant.found (current_of c.self.inside.current (deltas values) (subst (λ (o : Content). IsSome o.found) (sym c.self.view_is) c.requires)) in
    let p : IsCommonStep bounds values c.in-Ok.step = subst (λ vs. IsCommonStep bounds vs c.in-Ok.step) c.deref-2.ensures.value (subst (λ bs. IsCommonStep bs c.deref-2.result.now c.in-Ok.step) c.deref.ensures.value c.in-Ok.ensures.ok) in
    let h : OnWide (IsSomeValueWide c.in-Ok.step values (length s.rows)) c.in-Err-concrete_values.error =
    subst (λ n. OnWide (IsSomeValueWide c.in-Ok.step values n) c.in-Err-concrete_values.error) c.len-count.ensures
    (subst (λ vs. OnWide (IsSomeValueWide c.in-Ok.step vs c.len-count.result) c.in-Err-concrete_values.error) c.deref-3.ensures.value c.in-Err-concrete_values.ensures.wide) in
    subst (λ (o : Content). OnStop (IsWide o.rows (Known o.rows) o.bounds) c.stop_at.result) c.self.view_is
    (values_stop s bounds values c.in-Ok.step c.in-Err-concrete_values.error c.stop_at.result f c.self.invariant.known p.of_bound c.stop_at.ensures h)
