use Rattle.std.proofs.Common.{arith, ◌≡◌, ℕ, Option, Some, subst}
use Rattle.std.specs.Prelude.{slice_index_or}
use Rattle.std.proofs.lemmas.Option.{slice_get_within}
use Rattle.clause_trail.specs.View.{lists_of}
use Rattle.clause_trail.proofs.Shorter.{false_known, false_reason, false_others, looked, known_others}
use Rattle.clause_trail.proofs.shortening.look_at.Goals as goal

pub index-requires : goal.index-requires
index-requires c = omega (arith, false_known (lists_of c.args.state.now) c.args.lit c.requires.sound c.requires.is_false, c.args.state.now.reasons.ok)

pub lits_at-requires : goal.lits_at-requires
lits_at-requires c =
    let read : Some c.in-Some.reason ≡ slice_index_or c.args.state.now.reasons.items c.args.lit.var (Some c.in-Some.reason) =
    subst (λ (o : Option ℕ). o ≡ slice_index_or c.args.state.now.reasons.items c.args.lit.var o) c.in-Some.is c.index.ensures in
    let i = false_reason (lists_of c.args.state.now) c.args.lit c.requires.sound c.requires.is_false c.in-Some.reason read in
    slice_get_within c.args.state.now.clauses.items c.in-Some.reason i.lits i.is

pub look_along-requires-clause-false_there : goal.look_along-requires-clause-false_there
look_along-requires-clause-false_there c =
    let read : Some c.in-Some.reason ≡ slice_index_or c.args.state.now.reasons.items c.args.lit.var (Some c.in-Some.reason) =
    subst (λ (o : Option ℕ). o ≡ slice_index_or c.args.state.now.reasons.items c.args.lit.var o) c.in-Some.is c.index.ensures in
    false_others (lists_of c.args.state.now) c.args.lit c.requires.sound c.requires.is_false c.in-Some.reason read c.lits_at.result.now c.lits_at.ensures

pub look_along-requires-clause-reasons : goal.look_along-requires-clause-reasons
look_along-requires-clause-reasons c =
    let read : Some c.in-Some.reason ≡ slice_index_or c.args.state.now.reasons.items c.args.lit.var (Some c.in-Some.reason) =
    subst (λ (o : Option ℕ). o ≡ slice_index_or c.args.state.now.reasons.items c.args.lit.var o) c.in-Some.is c.index.ensures in
    known_others (lists_of c.args.state.now) c.args.lit c.requires.sound c.requires.is_false c.in-Some.reason read c.lits_at.result.now c.lits_at.ensures

pub returns-in-Some : goal.returns-in-Some
returns-in-Some c =
    let read : Some c.in-Some.reason ≡ slice_index_or c.args.state.now.reasons.items c.args.lit.var (Some c.in-Some.reason) =
    subst (λ (o : Option ℕ). o ≡ slice_index_or c.args.state.now.reasons.items c.args.lit.var o) c.in-Some.is c.index.ensures in
    looked (lists_of c.args.state.now) c.args.lit c.requires.sound c.requires.is_false c.in-Some.reason read c.lits_at.result.now c.lits_at.ensures c.args.lits.now c.args.found.now c.requires.found c.look_along.result c.look_along.ensures
