use Rattle.std.proofs.Common.{◌∙◌, ◌++◌, ap, get_or}
use Rattle.std.proofs.lemmas.List.{take_more, take_all}
use Rattle.term_table.specs.declared.table.Marked.{Marked}
use Rattle.term_table.specs.declared.table.Marked.TheVariants as marked
use Rattle.yices_api.specs.Calls.{listed_terms, listed_types}
use Rattle.yices_api.proofs.Rooting.{got, keeping_as, one_more_root, root_kept}
use Rattle.yices_api.proofs.collection.keep_roots.Goals as goal

pub keep_root-requires : goal.keep_root-requires
keep_root-requires c =
    let d : Marked = marked.Term (record { slot = 0; stamp = 0 }) in
    root_kept c.requires.0 c.loop-root.collection.table.now _ _ (c.loop-root.invariant.1 c.requires.0 c.requires.1 c.requires.2 c.requires.3) (get_or c.args.roots.now c.loop-root.root-index d) (c.requires.4 c.loop-root.root-index (get_or c.args.roots.now c.loop-root.root-index d) (got c.args.roots.now c.loop-root.root-index d c.loop-root-test.true))

pub loop-root-preserved : goal.loop-root-preserved
loop-root-preserved c =
    let d : Marked = marked.Term (record { slot = 0; stamp = 0 }) in (
      c.keep_root.ensures.same_table ∙ c.loop-root.invariant.0,
      λ old ts us kept. one_more_root old c.keep_root.new.collection.table.now ts us c.args.roots.now c.loop-root.root-index (get_or c.args.roots.now c.loop-root.root-index d) (take_more c.args.roots.now c.loop-root.root-index d c.loop-root-test.true) (c.keep_root.ensures.keeps old _ _ (c.loop-root.invariant.1 old ts us kept)),
    )

pub returns : goal.returns
returns c = record {
  same_table = c.loop-root.invariant.0;
  keeps = λ old ts us kept. keeping_as old c.loop-root.collection.table.now _ _ _ _ (c.loop-root.invariant.1 old ts us kept) (ap (λ z. ts ++ listed_terms z) (take_all c.loop-root.root-index c.args.roots.now c.loop-root-test.false)) (ap (λ z. us ++ listed_types z) (take_all c.loop-root.root-index c.args.roots.now c.loop-root-test.false));
}
