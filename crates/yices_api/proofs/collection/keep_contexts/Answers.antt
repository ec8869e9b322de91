use Rattle.std.proofs.Common.{◌∙◌, ◌++◌, [], ap, refl, sym, append-nil}
use Rattle.yices_api.specs.State.{terms_of_contexts, terms_of}
use Rattle.yices_api.proofs.Rooting.{keeping_as, some_all, some_live, some_more}
use Rattle.yices_api.proofs.collection.keep_contexts.Goals as goal

pub loop-held-init : goal.loop-held-init
loop-held-init c = (
  tt,
  tt,
  refl,
  record {
    done = [];
    split = ap terms_of (c.into_iter-held-iterator.ensures.into_iter_gives ∙ c.iter-held-items.ensures.rest);
    keeps = λ old ts us kept. keeping_as old c.args.collection.now.table.now ts (ts ++ []) us us kept (sym (append-nil ts)) refl;
  },
)

pub keep_context-requires : goal.keep_context-requires
keep_context-requires c = (
  c.requires.0,
  c.requires.1 ++ c.loop-held.invariant.3.done,
  c.requires.2,
  c.loop-held.invariant.3.keeps c.requires.0 c.requires.1 c.requires.2 c.requires.3,
  some_live c.requires.0 c.loop-held.invariant.3.done (terms_of_contexts c.args.contexts.now.slots) c.loop-held.held-iterator c.next.new.self (c.in-Some.field-0-0, c.in-Some.held.now) c.requires.4 c.loop-held.invariant.3.split c.in-Some.ensures.steps,
)

pub loop-held-preserved : goal.loop-held-preserved
loop-held-preserved c = (
  tt,
  tt,
  c.keep_context.ensures.same_table ∙ c.loop-held.invariant.2,
  some_more c.args.collection.now.table.now c.loop-held.collection.table.now c.keep_context.new.collection.table.now c.loop-held.held-iterator c.next.new.self (terms_of_contexts c.args.contexts.now.slots) (c.in-Some.field-0-0, c.in-Some.held.now) c.loop-held.invariant.3 c.in-Some.ensures.steps c.keep_context.ensures.keeps,
)

pub returns : goal.returns
returns c = record {
  same_table = c.loop-held.invariant.2;
  keeps = some_all c.args.collection.now.table.now c.loop-held.collection.table.now c.loop-held.held-iterator (terms_of_contexts c.args.contexts.now.slots) c.loop-held.invariant.3 c.in-None.ensures.steps.0;
}
