use Rattle.std.proofs.Common.{length, arith, ◌++◌, ◌∷◌, [], ◌∙◌, ◌+◌, ◌<◌, sym, ap, subst, get_or}
use Rattle.clause_search.specs.Content.{Stacked}
use Rattle.node_encoding.proofs.Gets.{length_pushed}
use Rattle.clause_logic.specs.declared.Lit.{Lit}
use Rattle.clause_logic.specs.Clauses.{In}
use Rattle.node_encoding.specs.Gates.{adding}
use Rattle.node_encoding.proofs.Adding.{in_get, below_push, popped, forbids_odd, forbids_even, forbids_at}
use Rattle.node_encoding.proofs.gates.+forbid.Goals as goal

pub add_clause-requires : goal.add_clause-requires
add_clause-requires t c = subst (λ w. (l : Lit) → In l w → l.var < c.args.search.now.content.vars) (sym c.as_slice.ensures.value) c.requires.begun

pub returns-in_ok-add_clause-clause-added : goal.returns-in_ok-add_clause-clause-added
returns-in_ok-add_clause-clause-added t c =
    c.in_ok-add_clause.ensures.ok ∙ ap (λ w. adding c.args.search.now (w ∷ [])) c.as_slice.ensures.value
    ∙ forbids_odd c.args.search.now c.args.clause.now.items c.args.lits.now c.args.odd c.if-odd.true (omega (arith, c.if-done-lits.true, c.len-done.ensures))

pub returns-else-odd-clause-added : goal.returns-else-odd-clause-added
returns-else-odd-clause-added t c =
    forbids_even c.args.search.now c.args.clause.now.items c.args.lits.now c.args.odd c.if-odd.false (omega (arith, c.if-done-lits.true, c.len-done.ensures))

pub forbid-requires : goal.forbid-requires
forbid-requires t c =
    let front = c.args.clause.now.items in
    let done : length front < length c.args.lits.now = omega (arith, c.if-done-lits.false, c.len-done.ensures, c.requires.short) in
    let more = c.in_ok-push.ensures.items in (
      omega (arith, c.decreases, done, ap length more, length_pushed front c.opposite.result),
      (
        omega (arith, done, ap length more, length_pushed front c.opposite.result),
        (
          c.requires.known,
          subst (λ w. (l : Lit) → In l w → l.var < c.args.search.now.content.vars) (sym more)
              (below_push c.args.search.now.content.vars front c.opposite.result c.requires.begun
              (subst (λ x. x.var < c.args.search.now.content.vars) (sym c.opposite.ensures) (c.requires.known (get_or c.args.lits.now c.len-done.result _) (in_get c.args.lits.now c.len-done.result _ (omega (arith, done, c.len-done.ensures)))))),
        ),
      ),
    )

pub forbid-requires-2 : goal.forbid-requires-2
forbid-requires-2 t c =
    let front = c.args.clause.now.items in
    let done : length front < length c.args.lits.now = omega (arith, c.if-done-lits.false, c.len-done.ensures, c.requires.short) in
    let back = popped front c.opposite.result c.forbid.new.clause.items c.pop.new.self.items _ (omega (arith, c.forbid.new.clause.ok.0)) (c.in_ok-forbid.ensures.clause ∙ c.in_ok-push.ensures.items) c.pop.ensures.rest in
    let more = c.in_ok-push-2.ensures.items in
    let count = ap length more ∙ length_pushed c.pop.new.self.items _ ∙ ap (λ w. length w + 1) back in
    let vars = ap (λ (s : Stacked). s.content.vars) c.in_ok-forbid.ensures.added in (
      omega (arith, c.decreases, done, count),
      (
        omega (arith, done, count),
        (
          (λ l i. rw vars (c.requires.known l i)),
          subst (λ w. (l : Lit) → In l w → l.var < c.forbid.new.search.content.vars) (sym more)
              (below_push c.forbid.new.search.content.vars c.pop.new.self.items _
              (λ l i. rw vars (c.requires.begun l (subst (λ w. In l w) back i)))
              (rw vars (c.requires.known _ (in_get c.args.lits.now c.len-done.result _ (omega (arith, done, c.len-done.ensures)))))),
        ),
      ),
    )

pub returns-clause-added : goal.returns-clause-added
returns-clause-added t c =
    let front = c.args.clause.now.items in
    let done : length front < length c.args.lits.now = omega (arith, c.if-done-lits.false, c.len-done.ensures, c.requires.short) in
    let back = popped front c.opposite.result c.forbid.new.clause.items c.pop.new.self.items _ (omega (arith, c.forbid.new.clause.ok.0)) (c.in_ok-forbid.ensures.clause ∙ c.in_ok-push.ensures.items) c.pop.ensures.rest in
    forbids_at c.args.search.now c.forbid.new.search c.forbid-2.new.search front c.args.lits.now c.args.odd c.len-done.result _ c.push.new.self.items c.pop.new.self.items c.push-2.new.self.items done
    (omega (arith, c.len-done.ensures, c.args.clause.now.ok.0))
    (c.in_ok-push.ensures.items ∙ ap (λ x. front ++ x ∷ []) c.opposite.ensures)
    back c.in_ok-push-2.ensures.items c.in_ok-forbid.ensures.added c.in_ok-forbid-2.ensures.added
