use Rattle.std.proofs.Common.{◌≡◌, ◌<◌, length, get_or, refl, ap, ◌∙◌, arith, rules}
use Rattle.simplex_logic.specs.Vectors.{flip}
use Rattle.simplex_table.proofs.Firsts.{first_more, first_all, length_of, get-map_first}
use Rattle.simplex_table.proofs.columns.flip_all.Goals as goal

pub flip-requires : goal.flip-requires
flip-requires c =
    let b = c.index_mut.result.now in
    let h : c.loop-v.v < length c.args.table.now.items = search rules in
    let e : b ≡ get_or c.args.table.now.items c.loop-v.v b = c.index_mut.ensures.value ∙ ap (λ l. get_or l c.loop-v.v b) c.loop-v.invariant ∙ get-map_first (flip c.args.column) c.loop-v.v c.args.table.now.items b in
    let l = length_of c.args.width c.args.table.now.items c.loop-v.v b c.requires.same_length h e in omega (arith, l)

pub loop-v-preserved : goal.loop-v-preserved
loop-v-preserved c =
    let h : c.loop-v.v < length c.args.table.now.items = search rules in
    first_more (flip c.args.column) c.loop-v.v c.args.table.now.items c.loop-v.table.items _ c.index_mut.result.now c.flip.new.self h c.loop-v.invariant c.index_mut.ensures.value c.flip.ensures refl

pub returns : goal.returns
returns c = c.loop-v.invariant ∙ first_all (flip c.args.column) c.loop-v.v c.args.table.now.items (search rules)
