use Rattle.std.proofs.Common.{◌<◌, length, refl, sym, subst}
use Rattle.term_shapes.specs.declared.shapes.Shape.TheVariants as shape
use Rattle.node_encoding.specs.declared.Node.TheVariants as node_of
use Rattle.term_checks.specs.Formulas.{IsTruthShape}
use Rattle.term_checks.specs.Building.{AreAt, IsNodeOf}
use Rattle.term_checks.proofs.Trees.{arg_there, at_some}
use Rattle.term_checks.proofs.building.node_of.Goals as goal

pub place_of-requires-in-Ite-2 : goal.place_of-requires-in-Ite-2
place_of-requires-in-Ite-2 c =
    arg_there c.args.order.now.keys c.args.shape.now (shape.Ite c.in-Ite.test c.in-Ite.yes c.in-Ite.no) c.in-Ite.is c.requires.placed 1 c.in-Ite.yes refl

pub place_of-requires-in-Ite-3 : goal.place_of-requires-in-Ite-3
place_of-requires-in-Ite-3 c =
    arg_there c.args.order.now.keys c.args.shape.now (shape.Ite c.in-Ite.test c.in-Ite.yes c.in-Ite.no) c.in-Ite.is c.requires.placed 2 c.in-Ite.no refl

pub place_of-requires-in-Eq-2 : goal.place_of-requires-in-Eq-2
place_of-requires-in-Eq-2 c =
    arg_there c.args.order.now.keys c.args.shape.now (shape.Eq c.in-Eq.left c.in-Eq.right) c.in-Eq.is c.requires.placed 1 c.in-Eq.right refl

pub returns-in_ok-places_of-in-And : goal.returns-in_ok-places_of-in-And
returns-in_ok-places_of-in-And c =
    let order = c.args.order.now.keys in
    let all = c.in-And.all in
    let places = c.in_ok-places_of-in-And.field-0 in
    let at = subst (λ z. AreAt order z places) c.as_slice.ensures c.in_ok-places_of-in-And.ensures in
    let some : 0 < length all = subst IsTruthShape c.in-And.is c.requires.truths in
    subst (λ z. IsNodeOf order z (node_of.And places)) (sym c.in-And.is) (record { op = refl; arguments = at; arity = at_some order all places at some })

pub returns-in_ok-places_of-in-Or : goal.returns-in_ok-places_of-in-Or
returns-in_ok-places_of-in-Or c =
    let order = c.args.order.now.keys in
    let all = c.in-Or.all in
    let places = c.in_ok-places_of-in-Or.field-0 in
    let at = subst (λ z. AreAt order z places) c.as_slice-in-Or.ensures c.in_ok-places_of-in-Or.ensures in
    let some : 0 < length all = subst IsTruthShape c.in-Or.is c.requires.truths in
    subst (λ z. IsNodeOf order z (node_of.Or places)) (sym c.in-Or.is) (record { op = refl; arguments = at; arity = at_some order all places at some })

pub returns-in_ok-places_of-in-Xor : goal.returns-in_ok-places_of-in-Xor
returns-in_ok-places_of-in-Xor c =
    let order = c.args.order.now.keys in
    let all = c.in-Xor.all in
    let places = c.in_ok-places_of-in-Xor.field-0 in
    let at = subst (λ z. AreAt order z places) c.as_slice-in-Xor.ensures c.in_ok-places_of-in-Xor.ensures in
    let some : 0 < length all = subst IsTruthShape c.in-Xor.is c.requires.truths in
    subst (λ z. IsNodeOf order z (node_of.Xor places)) (sym c.in-Xor.is) (record { op = refl; arguments = at; arity = at_some order all places at some })

pub returns-in_ok-places_of-in-Distinct : goal.returns-in_ok-places_of-in-Distinct
returns-in_ok-places_of-in-Distinct c =
    let order = c.args.order.now.keys in
    let all = c.in-Distinct.all in
    let places = c.in_ok-places_of-in-Distinct.field-0 in
    let at = subst (λ z. AreAt order z places) c.as_slice-in-Distinct.ensures c.in_ok-places_of-in-Distinct.ensures in
    let some : 0 < length all = subst IsTruthShape c.in-Distinct.is c.requires.truths in
    subst (λ z. IsNodeOf order z (node_of.Distinct places)) (sym c.in-Distinct.is) (record { op = refl; arguments = at; arity = at_some order all places at some })
