use Rattle.std.proofs.Common.{◌≡◌, true, sym, subst}
use Rattle.y_tree.specs.Sorts.{is_sort}
use Rattle.y_tree.specs.Values.{same_value}
use Rattle.model_eval.specs.Known.{found, IsKnown}
use Rattle.model_eval.proofs.truths.equality.Goals as goal

pub are_same-requires-clause-limits : goal.are_same-requires-clause-limits
are_same-requires-clause-limits c = subst (λ k. is_sort k ≡ true) (sym (c.in_ok-sort.ensures c.requires.sort c.requires.has)) c.requires.limits

pub are_same-requires-clause-left : goal.are_same-requires-clause-left
are_same-requires-clause-left c = subst (IsKnown c.args.known.now.entries c.args.left) (sym (c.in_ok-sort.ensures c.requires.sort c.requires.has)) c.requires.left

pub are_same-requires-clause-right : goal.are_same-requires-clause-right
are_same-requires-clause-right c = subst (IsKnown c.args.known.now.entries c.args.right) (sym (c.in_ok-sort.ensures c.requires.sort c.requires.has)) c.requires.right

pub returns : goal.returns
returns c = λ k has. subst (λ z. c.are_same.result ≡ same_value z (found c.args.known.now.entries c.args.left) (found c.args.known.now.entries c.args.right)) (c.in_ok-sort.ensures k has) c.are_same.ensures
