use Rattle.std.proofs.Common.{◌∙◌, ◌+◌, refl, sym, arith}
use Rattle.y_tree.specs.Misfits.{row_of, widths_differ}
use Rattle.shape_rules.specs.Rules.{operator}
use Rattle.term_table.proofs.Misfitting.{all_vectors}
use Rattle.term_table.proofs.table.Table.uneven_width.Goals as goal

pub overflow_add-result : goal.overflow_add-result
overflow_add-result c = omega (arith, c.in_ok-place.ensures.place)

pub returns-clause-some : goal.returns-clause-some
returns-clause-some c ks have wanted =
    let first = c.in_ok-place.ensures.some ks have (all_vectors (row_of (operator c.args.shape.now) ks) ks (λ v i. c.is_even.ensures.vectors c.if-not-is_even.false ks v i) wanted) in
    record {
      misfit = widths_differ (c.in_ok-place.place + 1) c.in_ok-place.left c.in_ok-place.right;
      is = (c.in_ok-place.place, refl, wanted, sym (c.is_even.ensures.even ks) ∙ c.if-not-is_even.false, first.0, first.1);
      tells = refl;
    }
