use Rattle.std.proofs.Common.{◌≡◌, ◌∙◌, ◌^◌, ◌<◌, ◌++◌, ℕ, Some, length, sym, ap, subst, arith, All, List}
use Rattle.std.specs.Prelude.{slice_get}
use Rattle.clause_logic.specs.Clauses.{In}
use Rattle.clause_logic.specs.declared.Lit.{Lit}
use Rattle.clause_search.specs.Answers.{IsUnsatCore}
use Rattle.clause_search.specs.Content.{Stacked}
use Rattle.node_encoding.specs.declared.NodeLit.{NodeLit}
use Rattle.node_encoding.specs.Nodes.{IsFormed}
use Rattle.theory_combine.specs.Answers.{IsSolution, IsConflictUnder}
use Rattle.node_encoding.specs.Encoding.{encoded_of, Encodes}
use Rattle.node_encoding.specs.Gates.{unit_clauses}
use Rattle.theory_combine.specs.Naming.{IsNamed, HaveParities}
use Rattle.theory_combine.proofs.Readings.{assumed_known}
use Rattle.theory_combine.proofs.Verdicts.{conflict, solution}
use Rattle.theory_combine.proofs.Records.{past_limit, have_parities}
use Rattle.theory_combine.proofs.deciding.decide_assuming.Goals as goal

pub assert_all-requires : goal.assert_all-requires
assert_all-requires c =
    let e = encoded_of c.in_ok-encoding.encoding in
    let nodes = c.as_slice-nodes.result.now in
    let below : All (λ (l : NodeLit). l.node < length e.lits) c.args.asserted.now = λ i d small. let one = c.requires.asserted i d small in omega (arith, one, c.in_ok-encoding.ensures.all, ap length (c.as_slice-nodes.ensures.value)) in
    record {
      known = λ l i. let one = assumed_known e nodes c.args.asserted.now c.in_ok-encoding.ensures.encodes.encodes below l (subst (In l) (c.as_slice.ensures.value ∙ c.in_ok-given.ensures) i) in
          omega (arith, one, c.in_ok-encoding.ensures.encodes.vars);
    }

pub solve-requires-clause-known : goal.solve-requires-clause-known
solve-requires-clause-known c =
    let e = encoded_of c.in_ok-encoding.encoding in
    let nodes = c.as_slice-nodes.result.now in
    let below : All (λ (l : NodeLit). l.node < length e.lits) c.args.assumed.now = λ i d small. let one = c.requires.assumed i d small in omega (arith, one, c.in_ok-encoding.ensures.all, ap length (c.as_slice-nodes.ensures.value)) in
    λ l i. let one = assumed_known e nodes c.args.assumed.now c.in_ok-encoding.ensures.encodes.encodes below l (subst (In l) (c.as_slice-2.ensures.value ∙ c.in_ok-assumptions.ensures) i) in
    omega (arith, one, c.in_ok-encoding.ensures.encodes.vars, ap (λ (s : Stacked). s.content.vars) c.in_ok-assert_all.ensures)

pub returns-in-Sat-clause-sat : goal.returns-in-Sat-clause-sat
returns-in-Sat-clause-sat c =
    let nodes = c.as_slice-nodes.result.now in
    let e = encoded_of c.in_ok-encoding.encoding in
    let same : nodes ≡ c.args.problem.now = c.as_slice-nodes.ensures.value in
    let formed = c.as_slice-nodes.ensures.formed in
    let below : All (λ (l : NodeLit). l.node < length nodes) c.args.asserted.now = λ i d small. let one = c.requires.asserted i d small in omega (arith, one, ap length same) in
    let under : All (λ (l : NodeLit). l.node < length nodes) c.args.assumed.now = λ i d small. let one = c.requires.assumed i d small in omega (arith, one, ap length same) in
    let whole : c.assert_all.new.search.content.clauses ≡ e.clauses ++ unit_clauses c.as_slice.result.now = ap (λ (s : Stacked). s.content.clauses) c.in_ok-assert_all.ensures in
    let found = c.in_ok-found-in-Sat.found in
    let assigns = rw (c.as_slice-in-Sat.ensures.value, c.as_slice-in-Sat-2.ensures) at c.in_ok-found-in-Sat.ensures in
    subst (λ w. IsSolution w (c.args.asserted.now ++ c.args.assumed.now) found) same
    (solution nodes e c.in_ok-encoding.ensures.encodes.encodes c.in_ok-encoding.ensures.all formed c.in-Sat.values c.assert_all.new.search.content.vars c.as_slice.result.now c.as_slice-2.result.now
    c.assert_all.new.search.content.clauses whole c.in-Sat.ensures.justified.0 found assigns c.args.asserted.now c.args.assumed.now below under (c.as_slice.ensures.value ∙ c.in_ok-given.ensures) (c.as_slice-2.ensures.value ∙ c.in_ok-assumptions.ensures))

pub returns-in-Unsat-clause-unsat : goal.returns-in-Unsat-clause-unsat
returns-in-Unsat-clause-unsat c =
    let nodes = c.as_slice-nodes.result.now in
    let e = encoded_of c.in_ok-encoding.encoding in
    let same : nodes ≡ c.args.problem.now = c.as_slice-nodes.ensures.value in
    let formed = c.as_slice-nodes.ensures.formed in
    let below : All (λ (l : NodeLit). l.node < length nodes) c.args.asserted.now = λ i d small. let one = c.requires.asserted i d small in omega (arith, one, ap length same) in
    let under : All (λ (l : NodeLit). l.node < length nodes) c.args.assumed.now = λ i d small. let one = c.requires.assumed i d small in omega (arith, one, ap length same) in
    let whole : c.assert_all.new.search.content.clauses ≡ e.clauses ++ unit_clauses c.as_slice.result.now = ap (λ (s : Stacked). s.content.clauses) c.in_ok-assert_all.ensures in
    let places = c.in_ok-places-in-Unsat.places in
    let names = rw (c.as_slice-in-Unsat-2.ensures) at c.in_ok-places-in-Unsat.ensures in
    let clauses = c.assert_all.new.search.content.clauses in
    subst (λ w. IsConflictUnder w c.args.asserted.now c.args.assumed.now places) same
    (conflict nodes e c.in_ok-encoding.ensures.encodes.encodes c.in_ok-encoding.ensures.all formed c.args.asserted.now c.args.assumed.now below under c.as_slice.result.now c.as_slice-in-Unsat.result.now
    (c.as_slice.ensures.value ∙ c.in_ok-given.ensures) (c.as_slice-in-Unsat.ensures.value ∙ c.in_ok-assumptions.ensures) clauses whole c.in-Unsat.core (λ d. ⊥) (λ d h. h)
    (subst (λ w. IsUnsatCore clauses (λ d. ⊥) w c.in-Unsat.core) (c.as_slice-2.ensures.value ∙ sym c.as_slice-in-Unsat.ensures.value) c.in-Unsat.ensures.justified) places names)

pub record_of-requires-clause-parities : goal.record_of-requires-clause-parities
record_of-requires-clause-parities c =
    let e = encoded_of c.in_ok-encoding.encoding in
    let same = c.as_slice-nodes.ensures.value in
    subst (HaveParities c.args.problem.now) (sym c.as_slice-origins.ensures.value) (have_parities c.args.problem.now e (subst (λ w. Encodes w e) same c.in_ok-encoding.ensures.encodes.encodes))

pub returns-in-Unknown-clause-unknown : goal.returns-in-Unknown-clause-unknown
returns-in-Unknown-clause-unknown c =
    let nodes = c.as_slice-nodes.result.now in
    let e = encoded_of c.in_ok-encoding.encoding in
    let same : nodes ≡ c.args.problem.now = c.as_slice-nodes.ensures.value in
    let formed = subst IsFormed c.as_slice-nodes.ensures.value c.as_slice-nodes.ensures.formed in
    let encodes = subst (λ w. Encodes w e) same c.in_ok-encoding.ensures.encodes.encodes in
    let all : length e.lits ≡ length c.args.problem.now = c.in_ok-encoding.ensures.all ∙ ap length same in
    let learned = c.in_ok-learned-in-Unknown.learned in
    let over = c.in-Unknown.ensures.justified in
    let clauses = c.assert_all.new.search.content.clauses in
    let whole : clauses ≡ e.clauses ++ unit_clauses c.as_slice.result.now = ap (λ (s : Stacked). s.content.clauses) c.in_ok-assert_all.ensures in
    let count : c.assert_all.new.search.content.vars ≡ length e.origins = ap (λ (s : Stacked). s.content.vars) c.in_ok-assert_all.ensures ∙ c.in_ok-encoding.ensures.encodes.vars in
    let known : (i : ℕ) (d : List Lit) (l : Lit) → slice_get c.in-Unknown.clauses i ≡ Some d → In l d → l.var < length e.origins = λ i d l h k. let small = over.known i d l h k in omega (arith, small, count) in
    past_limit c.args.problem.now formed e encodes all c.args.asserted.now c.args.assumed.now c.requires.asserted c.requires.assumed (λ d. ⊥) (λ d h. h) c.as_slice.result.now c.as_slice-2.result.now
    (c.as_slice.ensures.value ∙ c.in_ok-given.ensures) (c.as_slice-2.ensures.value ∙ c.in_ok-assumptions.ensures) clauses whole c.in-Unknown.clauses over.recorded known
    c.args.turns over.number over.counted over.count (subst (λ m. over.number < 3 ^ m) count over.small) learned.nodes learned.clauses
    (subst (λ w. IsNamed c.args.problem.now e.origins w learned.nodes learned.clauses) c.as_slice-in-Unknown.ensures
    (subst (λ w. IsNamed c.args.problem.now w c.as_slice-in-Unknown.result.now learned.nodes learned.clauses) c.as_slice-origins.ensures.value c.in_ok-learned-in-Unknown.ensures))
