use Rattle.std.proofs.Common.{◌∙◌, Some, sym, ap, subst}
use Rattle.term_table.specs.World.{KeepsTypes}
use Rattle.term_table.proofs.PlainSorts.{sort_function, sort_simple}
use Rattle.term_table.proofs.table.Table.sort_of.Goals as goal

pub returns-in_ok-function_sort-in-Fun : goal.returns-in_ok-function_sort-in-Fun
returns-in_ok-function_sort-in-Fun c =
    sort_function c.args.self.now c.is_table.ensures c.args.t c.in-Fun.domain c.in-Fun.value c.in_ok-function_sort-in-Fun.field-0 (sym c.in-Some.ensures ∙ ap Some c.in-Fun.is)
    (λ d k domain value. c.in_ok-function_sort-in-Fun.ensures d k (subst (λ ts. KeepsTypes c.args.self.now ts d) (sym c.as_slice.ensures) domain) value)

pub returns-in_default-shape : goal.returns-in_default-shape
returns-in_default-shape c =
    sort_simple c.args.self.now c.is_table.ensures c.args.t c.in-Some.shape.now c.simple_sort.result (sym c.in-Some.ensures) c.in_default-shape.not-Fun c.simple_sort.ensures
