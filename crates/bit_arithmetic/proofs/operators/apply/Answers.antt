use Rattle.std.proofs.Common.{◌≡◌, ◌∙◌, Bool, true, map, sym, ap, arith}
use Rattle.y_tree.specs.declared.BvOp.{BvOp}
use Rattle.y_tree.specs.Typing.{form_of}
use Rattle.y_tree.specs.Meaning.{on_bits}
use Rattle.bit_arithmetic.specs.declared.folds.Fold.TheVariants as fold
use Rattle.bit_arithmetic.specs.Plain.{pair, takes_two}
use Rattle.bit_arithmetic.proofs.Rows.{takes_some, has_two, same_widths, rest_even, rest_narrow, others_take_two, means_two, means_negation, means_complement, means_join, means_fold}
use Rattle.bit_arithmetic.proofs.operators.apply.Goals as goal

pub bounds-words-0 : goal.bounds-words-0
bounds-words-0 c = takes_some c.args.op c.args.words.now c.requires

pub slice_bounds-rest-count : goal.slice_bounds-rest-count
slice_bounds-rest-count c = omega (arith, takes_some c.args.op c.args.words.now c.requires)

pub slice_bounds-rest-start : goal.slice_bounds-rest-start
slice_bounds-rest-start c = omega (arith, takes_some c.args.op c.args.words.now c.requires)

pub fold_words-requires : goal.fold_words-requires
fold_words-requires c = rest_even c.args.op c.args.words.now c.index-words-0.result c.index-words-0.is (ap form_of c.in-Add.is) c.requires

pub fold_words-requires-in-Mul : goal.fold_words-requires-in-Mul
fold_words-requires-in-Mul c = rest_even c.args.op c.args.words.now c.index-words-0.result c.index-words-0.is (ap form_of c.in-Mul.is) c.requires

pub fold_words-requires-in-And : goal.fold_words-requires-in-And
fold_words-requires-in-And c = rest_even c.args.op c.args.words.now c.index-words-0.result c.index-words-0.is (ap form_of c.in-And.is) c.requires

pub fold_words-requires-in-Or : goal.fold_words-requires-in-Or
fold_words-requires-in-Or c = rest_even c.args.op c.args.words.now c.index-words-0.result c.index-words-0.is (ap form_of c.in-Or.is) c.requires

pub fold_words-requires-in-Xor : goal.fold_words-requires-in-Xor
fold_words-requires-in-Xor c = rest_even c.args.op c.args.words.now c.index-words-0.result c.index-words-0.is (ap form_of c.in-Xor.is) c.requires

pub join-requires : goal.join-requires
join-requires c = rest_narrow c.args.op c.args.words.now c.index-words-0.result c.index-words-0.is (ap form_of c.in-Concat.is) c.requires

pub bounds-words-1 : goal.bounds-words-1
bounds-words-1 c =
    let n = c.in_default in
    has_two c.args.op c.args.words.now (others_take_two c.args.op n.not-Add n.not-Mul n.not-And n.not-Or n.not-Xor n.not-Concat n.not-Neg n.not-Not) c.requires

pub on_two-requires : goal.on_two-requires
on_two-requires c =
    let n = c.in_default in
    let two : takes_two (form_of c.args.op) ≡ true = others_take_two c.args.op n.not-Add n.not-Mul n.not-And n.not-Or n.not-Xor n.not-Concat n.not-Neg n.not-Not in
    record { two = two; same = same_widths c.args.op c.args.words.now c.index-words-0.result c.index-words-1.result c.index-words-0.is c.index-words-1.is two c.requires }

pub returns-in-Add : goal.returns-in-Add
returns-in-Add c =
    let r = c.fold_words in
    means_fold fold.Sum c.args.words.now c.index-words-0.result r.result c.index-words-0.is (takes_some c.args.op c.args.words.now c.requires) r.ensures.width r.ensures.bits
    ∙ sym (ap (λ (o : BvOp). on_bits o (map pair c.args.words.now)) c.in-Add.is)

pub returns-in-Mul : goal.returns-in-Mul
returns-in-Mul c =
    let r = c.fold_words-in-Mul in
    means_fold fold.Product c.args.words.now c.index-words-0.result r.result c.index-words-0.is (takes_some c.args.op c.args.words.now c.requires) r.ensures.width r.ensures.bits
    ∙ sym (ap (λ (o : BvOp). on_bits o (map pair c.args.words.now)) c.in-Mul.is)

pub returns-in-And : goal.returns-in-And
returns-in-And c =
    let r = c.fold_words-in-And in
    means_fold fold.Conjunction c.args.words.now c.index-words-0.result r.result c.index-words-0.is (takes_some c.args.op c.args.words.now c.requires) r.ensures.width r.ensures.bits
    ∙ sym (ap (λ (o : BvOp). on_bits o (map pair c.args.words.now)) c.in-And.is)

pub returns-in-Or : goal.returns-in-Or
returns-in-Or c =
    let r = c.fold_words-in-Or in
    means_fold fold.Disjunction c.args.words.now c.index-words-0.result r.result c.index-words-0.is (takes_some c.args.op c.args.words.now c.requires) r.ensures.width r.ensures.bits
    ∙ sym (ap (λ (o : BvOp). on_bits o (map pair c.args.words.now)) c.in-Or.is)

pub returns-in-Xor : goal.returns-in-Xor
returns-in-Xor c =
    let r = c.fold_words-in-Xor in
    means_fold fold.Parity c.args.words.now c.index-words-0.result r.result c.index-words-0.is (takes_some c.args.op c.args.words.now c.requires) r.ensures.width r.ensures.bits
    ∙ sym (ap (λ (o : BvOp). on_bits o (map pair c.args.words.now)) c.in-Xor.is)

pub returns-in-Concat : goal.returns-in-Concat
returns-in-Concat c =
    let r = c.join in
    means_join c.args.words.now c.index-words-0.result r.result c.index-words-0.is (takes_some c.args.op c.args.words.now c.requires) r.ensures
    ∙ sym (ap (λ (o : BvOp). on_bits o (map pair c.args.words.now)) c.in-Concat.is)

pub returns-in-Neg : goal.returns-in-Neg
returns-in-Neg c =
    let r = c.negate in
    means_negation c.args.words.now c.index-words-0.result r.result c.index-words-0.is (takes_some c.args.op c.args.words.now c.requires) r.ensures.width r.ensures.bits
    ∙ sym (ap (λ (o : BvOp). on_bits o (map pair c.args.words.now)) c.in-Neg.is)

pub returns-in-Not : goal.returns-in-Not
returns-in-Not c =
    let r = c.invert in
    means_complement c.args.words.now c.index-words-0.result r.result c.index-words-0.is (takes_some c.args.op c.args.words.now c.requires) r.ensures.width r.ensures.bits
    ∙ sym (ap (λ (o : BvOp). on_bits o (map pair c.args.words.now)) c.in-Not.is)

pub returns-in_default : goal.returns-in_default
returns-in_default c =
    let n = c.in_default in
    let two : takes_two (form_of c.args.op) ≡ true = others_take_two c.args.op n.not-Add n.not-Mul n.not-And n.not-Or n.not-Xor n.not-Concat n.not-Neg n.not-Not in
    c.on_two.ensures ∙ means_two c.args.op c.args.words.now c.index-words-0.result c.index-words-1.result c.index-words-0.is c.index-words-1.is two (has_two c.args.op c.args.words.now two c.requires)
