use Rattle.std.proofs.Common.{◌∙◌, ◌<◌, sym, subst}
use Rattle.update_axioms.proofs.NoneFalse.{none_false}
use Rattle.update_axioms.proofs.shown.first_false.Goals as goal

pub returns-clause-enough : goal.returns-clause-enough
returns-clause-enough c = λ e. none_false c.args.view.now c.args.shown.now (λ k u h. subst (λ n. u.2 < n) c.requires.tuples (c.requires.within k u h)) (sym c.false_axiom.ensures ∙ e)
