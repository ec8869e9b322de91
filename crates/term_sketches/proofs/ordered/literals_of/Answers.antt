use Rattle.std.proofs.Common.{◌∙◌, ◌++◌, map, ap, sym, append-nil}
use Rattle.term_sketches.specs.Keys.{literal_of}
use Rattle.term_sketches.proofs.Mapping.{moved}
use Rattle.term_sketches.proofs.ordered.literals_of.Goals as goal

pub loop-key-init : goal.loop-key-init
loop-key-init c = ap (λ i. i ++ map literal_of c.into_iter-key-iterator.result) c.new-list.ensures.items ∙ ap (map literal_of) c.into_iter-key-iterator.ensures.into_iter_gives.0

pub loop-key-preserved : goal.loop-key-preserved
loop-key-preserved c =
    moved literal_of c.loop-key.list.items c.push.new.self.items _ c.loop-key.key-iterator c.next.new.self c.in-Some.key.now c.literal_of.result
    c.in-Some.ensures.steps c.literal_of.ensures c.in_ok-push.ensures.items c.loop-key.invariant

pub returns : goal.returns
returns c = sym (append-nil c.loop-key.list.items) ∙ ap (λ i. c.loop-key.list.items ++ map literal_of i) (sym c.in-None.ensures.steps.0) ∙ c.loop-key.invariant
