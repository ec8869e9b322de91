use Rattle.std.proofs.Common.{◌≡◌, ◌∙◌, ◌<◌, ◌++◌, All, length, map, sym, ap, subst, arith}
use Rattle.std.specs.Prelude.{slice_get}
use Rattle.std.proofs.lemmas.Option.{slice_get_within}
use Rattle.term_orders.specs.Orders.{IsIn}
use Rattle.node_encoding.specs.declared.Node.TheVariants as node_of
use Rattle.node_encoding.specs.declared.NodeLit.{NodeLit}
use Rattle.theory_combine.specs.Answers.{IfSat, IfUnsat, IfUnknown, IsSolution, IsConflictUnder}
use Rattle.theory_combine.specs.Learned.{IsPastLimit}
use Rattle.term_checks.specs.Listing.{term_in, AreOnce}
use Rattle.term_checks.specs.Answers.{IsModel, IsCore}
use Rattle.term_checks.specs.Building.{AreLiteralsOf, valued}
use Rattle.term_checks.proofs.Shown.{literals_within}
use Rattle.term_checks.proofs.Starts.{once_there}
use Rattle.term_checks.proofs.Answering.{model_is, core_is, learned_is}
use Rattle.term_checks.proofs.checking.decided.Goals as goal

pub literals_of-requires-2 : goal.literals_of-requires-2
literals_of-requires-2 c =
    λ t h. once_there c.args.table.now c.args.formulas.now c.args.assumed.now c.in_ok-once.once.keys c.args.order.now.keys c.requires.order c.in_ok-once.ensures t (subst (λ z. IsIn z t) c.as_slice.ensures.keys h)

pub decide_assuming-requires-clause-asserted : goal.decide_assuming-requires-clause-asserted
decide_assuming-requires-clause-asserted c =
    let order = c.args.order.now.keys in
    let count = length c.in_ok-problem.problem in
    subst (λ z. All (λ (l : NodeLit). l.node < count) z) (sym c.as_slice-2.ensures.value) (literals_within order c.args.formulas.now c.in_ok-asserted.asserted.items c.in_ok-asserted.ensures count c.in_ok-problem.ensures.count)

pub decide_assuming-requires-clause-assumed : goal.decide_assuming-requires-clause-assumed
decide_assuming-requires-clause-assumed c =
    let order = c.args.order.now.keys in
    let count = length c.in_ok-problem.problem in
    subst (λ z. All (λ (l : NodeLit). l.node < count) z) (sym c.as_slice-3.ensures.value) (literals_within order c.as_slice.result.now c.in_ok-tried.tried.items c.in_ok-tried.ensures count c.in_ok-problem.ensures.count)

pub values_of-requires : goal.values_of-requires
values_of-requires c =
    let ns = c.in_ok-problem.problem in
    let asserted = c.as_slice-2.result.now in
    let tried = c.as_slice-3.result.now in
    let solution : IsSolution ns (asserted ++ tried) c.in-Sat.values = subst (λ v. IfSat v (IsSolution ns (asserted ++ tried))) c.in-Sat.is c.in_ok-values.ensures.sat in
    λ i e at.
    let r = solution.only i e (ap (λ z. slice_get z i) (sym c.as_slice-in-Sat-2.ensures) ∙ at) in
    let far = slice_get_within ns e.0 (node_of.Const r.0) r.1 in
    omega (arith, far, c.in_ok-problem.ensures.count, ap length c.as_slice-in-Sat.ensures.keys)

pub returns-in-Sat-clause-sat : goal.returns-in-Sat-clause-sat
returns-in-Sat-clause-sat c =
    let w = c.args.table.now in
    let order = c.args.order.now.keys in
    let formulas = c.args.formulas.now in
    let assumed = c.args.assumed.now in
    let ns = c.in_ok-problem.problem in
    let once = c.as_slice.result.now in
    let asserted = c.as_slice-2.result.now in
    let tried = c.as_slice-3.result.now in
    let o : AreOnce assumed (length assumed) once = subst (AreOnce assumed (length assumed)) (sym c.as_slice.ensures.keys) c.in_ok-once.ensures in
    let lits : AreLiteralsOf order formulas (length formulas) asserted = subst (AreLiteralsOf order formulas (length formulas)) (sym c.as_slice-2.ensures.value) c.in_ok-asserted.ensures in
    let tried_lits : AreLiteralsOf order once (length once) tried = subst (AreLiteralsOf order once (length once)) (sym c.as_slice-3.ensures.value) c.in_ok-tried.ensures in
    let solution : IsSolution ns (asserted ++ tried) c.in-Sat.values = subst (λ v. IfSat v (IsSolution ns (asserted ++ tried))) c.in-Sat.is c.in_ok-values.ensures.sat in
    let found : c.in_ok-found-in-Sat.found ≡ valued order c.in-Sat.values = c.in_ok-found-in-Sat.ensures ∙ ap (λ z. valued z c.as_slice-in-Sat-2.result.now) c.as_slice-in-Sat.ensures.keys ∙ ap (valued order) c.as_slice-in-Sat-2.ensures in
    subst (IsModel w formulas assumed) (sym found) (model_is w order ns c.in_ok-problem.ensures formulas assumed once c.requires.order o asserted tried lits tried_lits c.in-Sat.values solution)

pub returns-in-Unsat-clause-unsat : goal.returns-in-Unsat-clause-unsat
returns-in-Unsat-clause-unsat c =
    let w = c.args.table.now in
    let order = c.args.order.now.keys in
    let formulas = c.args.formulas.now in
    let assumed = c.args.assumed.now in
    let ns = c.in_ok-problem.problem in
    let once = c.as_slice.result.now in
    let asserted = c.as_slice-2.result.now in
    let tried = c.as_slice-3.result.now in
    let o : AreOnce assumed (length assumed) once = subst (AreOnce assumed (length assumed)) (sym c.as_slice.ensures.keys) c.in_ok-once.ensures in
    let lits : AreLiteralsOf order formulas (length formulas) asserted = subst (AreLiteralsOf order formulas (length formulas)) (sym c.as_slice-2.ensures.value) c.in_ok-asserted.ensures in
    let tried_lits : AreLiteralsOf order once (length once) tried = subst (AreLiteralsOf order once (length once)) (sym c.as_slice-3.ensures.value) c.in_ok-tried.ensures in
    let conflict : IsConflictUnder ns asserted tried c.in-Unsat.places = subst (λ v. IfUnsat v (IsConflictUnder ns asserted tried)) c.in-Unsat.is c.in_ok-values.ensures.unsat in
    let same = c.as_slice-in-Unsat.ensures.keys ∙ sym c.as_slice.ensures.keys in
    let found : c.in_ok-core-in-Unsat.core ≡ map (term_in once) c.in-Unsat.places = c.in_ok-core-in-Unsat.ensures ∙ ap (λ z. map (term_in z) c.as_slice-in-Unsat-2.result.now) same ∙ ap (map (term_in once)) c.as_slice-in-Unsat-2.ensures in
    subst (IsCore w formulas assumed) (sym found) (core_is w order ns c.in_ok-problem.ensures formulas assumed once c.requires.order o asserted tried lits tried_lits c.in-Unsat.places conflict)

pub returns-clause-unknown : goal.returns-clause-unknown
returns-clause-unknown c =
    let w = c.args.table.now in
    let order = c.args.order.now.keys in
    let formulas = c.args.formulas.now in
    let assumed = c.args.assumed.now in
    let ns = c.in_ok-problem.problem in
    let once = c.as_slice.result.now in
    let asserted = c.as_slice-2.result.now in
    let tried = c.as_slice-3.result.now in
    let o : AreOnce assumed (length assumed) once = subst (AreOnce assumed (length assumed)) (sym c.as_slice.ensures.keys) c.in_ok-once.ensures in
    let lits : AreLiteralsOf order formulas (length formulas) asserted = subst (AreLiteralsOf order formulas (length formulas)) (sym c.as_slice-2.ensures.value) c.in_ok-asserted.ensures in
    let tried_lits : AreLiteralsOf order once (length once) tried = subst (AreLiteralsOf order once (length once)) (sym c.as_slice-3.ensures.value) c.in_ok-tried.ensures in
    let past : IsPastLimit ns (asserted ++ tried) c.args.turns c.in-Unknown.learned.nodes c.in-Unknown.learned.clauses = subst (λ v. IfUnknown v (λ l. IsPastLimit ns (asserted ++ tried) c.args.turns l.nodes l.clauses)) c.in-Unknown.is c.in_ok-values.ensures.unknown in
    learned_is w order ns c.in_ok-problem.ensures formulas assumed once c.requires.order o asserted tried lits tried_lits c.args.turns c.in-Unknown.learned past
