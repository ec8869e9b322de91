use Rattle.std.proofs.Common.{◌≡◌, ◌∙◌, ◌+◌, ◌||◌, true, [], ◌∷◌, ◌++◌, sym, ap, subst, drop, arith}
use Rattle.y_tree.specs.Sorts.{is_simple}
use Rattle.y_tree.specs.Plain.{plain_sort, plain_value}
use Rattle.value_texts.specs.Pieces.{NoFront, IsFront, IsNext}
use Rattle.value_texts.proofs.Splitting.{to_end}
use Rattle.value_texts.proofs.KeyTexts.{KeysSoFar, simple_at, keys_start, keys_no_start, keys_more, keys_stop, keys_short, keys_done, keys_unclosed}
use Rattle.value_texts.proofs.read.read_keys.Goals as goal

pub read_front-requires : goal.read_front-requires
read_front-requires c = subst (λ x. is_simple (plain_sort x) ≡ true) (sym c.index-domain-0.is) (simple_at c.args.domain.now 0 c.index-domain-0.result c.requires.some c.requires.simple)

pub read_next-requires : goal.read_next-requires
read_next-requires c = subst (λ x. is_simple (plain_sort x) ≡ true) (sym c.index-domain-i.is) (simple_at c.args.domain.now c.loop-i.i c.index-domain-i.result c.loop-i-test.true c.requires.simple)

pub returns-in_default : goal.returns-in_default
returns-in_default c =
    keys_no_start c.args.domain.now c.index-domain-0.result c.args.text.now c.requires.some (subst (λ x. NoFront (plain_sort x) c.args.text.now) c.index-domain-0.is c.in_default.ensures)

pub loop-i-init : goal.loop-i-init
loop-i-init c =
    subst (λ x. KeysSoFar c.args.domain.now 1 c.args.text.now x c.push.new.self c.in-Some.first.wide) (sym (to_end c.in-Some.first.end c.args.text.now))
    (subst (λ ks. KeysSoFar c.args.domain.now 1 c.args.text.now (drop c.in-Some.first.end c.args.text.now) ks c.in-Some.first.wide) (sym (c.in_ok-push.ensures.ok ∙ ap (λ x. x ++ c.in-Some.first.value ∷ []) c.new-keys.ensures))
    (keys_start c.args.domain.now c.index-domain-0.result c.args.text.now (drop c.in-Some.first.end c.args.text.now) c.in-Some.first.value c.in-Some.first.wide c.requires.some
    (subst (λ x. IsFront (plain_sort x) c.args.text.now (plain_value c.in-Some.first.value) c.in-Some.first.wide (drop c.in-Some.first.end c.args.text.now)) c.index-domain-0.is c.in-Some.ensures.1)))

pub returns-in_default-read_next : goal.returns-in_default-read_next
returns-in_default-read_next c =
    keys_stop c.args.domain.now c.loop-i.i c.index-domain-i.result c.args.text.now c.loop-i.rest.now c.loop-i.keys c.loop-i.wide c.loop-i-test.true c.loop-i.invariant
    (λ inner e. subst (λ x. NoFront (plain_sort x) inner) c.index-domain-i.is (c.in_default-read_next.ensures inner e))

pub overflow_sub-result : goal.overflow_sub-result
overflow_sub-result c = keys_short c.args.domain.now c.loop-i.i c.args.text.now c.loop-i.rest.now c.in-Some-after.rest.now c.loop-i.keys c.loop-i.wide c.loop-i-test.false c.loop-i.invariant c.in-Some-after.ensures

pub returns-in-None : goal.returns-in-None
returns-in-None c = keys_unclosed c.args.domain.now c.loop-i.i c.args.text.now c.loop-i.rest.now c.loop-i.keys c.loop-i.wide c.loop-i-test.false c.loop-i.invariant c.in-None.ensures

pub returns-in-Some-after : goal.returns-in-Some-after
returns-in-Some-after c = (omega arith, keys_done c.args.domain.now c.loop-i.i c.args.text.now c.loop-i.rest.now c.in-Some-after.rest.now c.loop-i.keys c.loop-i.wide c.loop-i-test.false c.loop-i.invariant c.in-Some-after.ensures)

pub loop-i-preserved : goal.loop-i-preserved
loop-i-preserved c =
    subst (λ x. KeysSoFar c.args.domain.now (c.loop-i.i + 1) c.args.text.now x c.push-in-loop-i.new.self (c.loop-i.wide || c.in-Some-read_next.front.wide)) (sym (to_end c.in-Some-read_next.front.end c.loop-i.rest.now))
    (subst (λ ks. KeysSoFar c.args.domain.now (c.loop-i.i + 1) c.args.text.now (drop c.in-Some-read_next.front.end c.loop-i.rest.now) ks (c.loop-i.wide || c.in-Some-read_next.front.wide)) (sym c.in_ok-push-2.ensures.ok)
    (keys_more c.args.domain.now c.loop-i.i c.index-domain-i.result c.args.text.now c.loop-i.rest.now (drop c.in-Some-read_next.front.end c.loop-i.rest.now) c.loop-i.keys c.loop-i.wide c.in-Some-read_next.front.value c.in-Some-read_next.front.wide
    c.loop-i-test.true c.loop-i.invariant
    (subst (λ x. IsNext (plain_sort x) c.loop-i.rest.now (plain_value c.in-Some-read_next.front.value) c.in-Some-read_next.front.wide (drop c.in-Some-read_next.front.end c.loop-i.rest.now)) c.index-domain-i.is c.in-Some-read_next.ensures.1)))
