use Rattle.std.proofs.Common.{◌<◌, ◌++◌, ◌∷◌, [], length, refl, sym, ap, ◌∙◌, rules}
use Rattle.simplex_table.specs.Columns.{with_zero}
use Rattle.simplex_table.proofs.Firsts.{first_more, first_all, on_ok}
use Rattle.simplex_table.proofs.columns.grow.Goals as goal

pub loop-v-preserved : goal.loop-v-preserved
loop-v-preserved c =
    let h : c.loop-v.v < length c.args.table.now.items = search rules in
    let p = on_ok c.push.result (sym c.is_err.ensures.value ∙ c.if-is_err.false) c.push.ensures.ok in
    record {
      rows = first_more with_zero c.loop-v.v c.args.table.now.items c.loop-v.table.items _ c.index_mut.result.now c.push.new.self h c.loop-v.invariant.rows c.index_mut.ensures.value
          (p ∙ ap (λ x. c.index_mut.result.now ++ x ∷ []) c.zero.ensures) refl;
      len = search rules;
      room = search rules;
    }

pub returns-clause-ok : goal.returns-clause-ok
returns-clause-ok c = c.loop-v.invariant.rows ∙ first_all with_zero c.loop-v.v c.args.table.now.items (search rules)
