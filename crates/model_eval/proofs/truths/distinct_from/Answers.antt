use Rattle.std.proofs.Common.{◌≡◌, true, sym, subst, map}
use Rattle.y_tree.specs.Sorts.{is_sort}
use Rattle.y_tree.specs.Meaning.{are_distinct}
use Rattle.model_eval.specs.Known.{found, AllKnown}
use Rattle.model_eval.proofs.truths.distinct_from.Goals as goal

pub sort_at-requires : goal.sort_at-requires
sort_at-requires c = (c.requires.alike.sort, c.requires.alike.has c.args.first c.requires.first)

pub all_differ-requires-clause-limits : goal.all_differ-requires-clause-limits
all_differ-requires-clause-limits c = subst (λ k. is_sort k ≡ true) (sym (c.in_ok-sort.ensures c.requires.alike.sort (c.requires.alike.has c.args.first c.requires.first))) c.requires.alike.limits

pub all_differ-requires-clause-known : goal.all_differ-requires-clause-known
all_differ-requires-clause-known c = subst (AllKnown c.args.known.now.entries c.args.terms.now) (sym (c.in_ok-sort.ensures c.requires.alike.sort (c.requires.alike.has c.args.first c.requires.first))) c.requires.alike.known

pub returns : goal.returns
returns c = λ k has. subst (λ z. c.all_differ.result ≡ are_distinct z (map (found c.args.known.now.entries) c.args.terms.now)) (c.in_ok-sort.ensures k (has c.args.first c.requires.first)) c.all_differ.ensures
