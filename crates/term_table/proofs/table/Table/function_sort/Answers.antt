use Rattle.std.proofs.Common.{◌∙◌, ap, arith}
use Rattle.y_tree.specs.Sorts.{function}
use Rattle.y_tree.specs.Plain.{plain_sort}
use Rattle.y_tree.proofs.Shapes.{plain_sort_fun}
use Rattle.term_table.proofs.PlainSorts.{copies_all}
use Rattle.term_table.proofs.table.Table.function_sort.Goals as goal

pub returns : goal.returns
returns c d k keeps_domain keeps_value simple_domain simple_value =
    plain_sort_fun c.loop-of.sorts c.in_ok-value.value ∙ ap (λ z. function z (plain_sort c.in_ok-value.value)) (copies_all c.args.self.now c.loop-of.sorts c.args.domain.now d (omega (arith, c.loop-of.invariant.0, c.loop-of-test.false, c.loop-of.auto.of-index-end)) c.loop-of.invariant.1 keeps_domain simple_domain)
    ∙ ap (function d) (ap plain_sort c.in_ok-value.ensures ∙ c.part_sort-2.ensures k keeps_value simple_value)
