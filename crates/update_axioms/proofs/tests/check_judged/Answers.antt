use Rattle.std.proofs.Common.{◌∙◌, sym}
use Rattle.y_tree.specs.Sorts.{boolean}
use Rattle.update_axioms.proofs.Judgeable.{can_be_judged}
use Rattle.update_axioms.proofs.tests.check_judged.Goals as goal

pub first_broken-requires : goal.first_broken-requires
first_broken-requires g c =
    let d = c.in_ok-candidate.ensures in
    let w = c.in_ok-view.ensures in
    (boolean, can_be_judged _ _ w.updates w.unequal w.tuples d.functions d.applications (sym c.len.ensures ∙ c.if-len-ne8.false) d.values d.arguments d.elsewhere)
