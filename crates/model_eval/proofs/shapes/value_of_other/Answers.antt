use Rattle.std.proofs.Common.{◌≡◌, ◌∙◌, true, sym, ap, subst, map}
use Rattle.std.specs.Prelude.{IfOk}
use Rattle.std.specs.List.{list_all, list_any}
use Rattle.y_tree.specs.Sorts.{Sort}
use Rattle.y_tree.specs.Values.{values, call, are_flat}
use Rattle.y_tree.specs.Order.{put_in}
use Rattle.y_tree.specs.Plain.{plain_value}
use Rattle.y_tree.specs.Tree as tree
use Rattle.y_tree.specs.Meaning.{truth_of, is_odd, are_distinct, bits_of, on_bits}
use Rattle.term_shapes.specs.declared.handles.Term.{Term}
use Rattle.term_table.specs.Checking.{HasSort}
use Rattle.term_orders.specs.Orders.{IsIn}
use Rattle.model_eval.specs.Known.{found}
use Rattle.model_eval.specs.Words.{TakesWords}
use Rattle.model_eval.specs.Models.{assignment_of}
use Rattle.model_eval.specs.Evaluating.{AreAlike, IsNoSum}
use Rattle.model_eval.proofs.Arms.{true_made, false_made, number_made, bits_made, not_made, all_made, some_made, odd_made, sign_made, equal_made, distinct_made, pair_ready, alike_ready, words_ready, word_ready, word_made}
use Rattle.model_eval.proofs.Calls.{call_flat, call_formed, update_formed}
use Rattle.model_eval.proofs.Shaping.{bool_is, real_is, bits_is, choice_ok, call_ok, update_ok, words_ok, variable_ok, constant_ok}
use Rattle.model_eval.proofs.shapes.value_of_other.Goals as goal

pub returns-in-True : goal.returns-in-True
returns-in-True c =
    let w = c.args.table.now in let a = assignment_of w c.args.model.now in let es = c.args.known.now.entries in let s = c.args.shape.now in
    bool_is w a es s _ (true_made w a es s c.in-True.is)

pub returns-in-False : goal.returns-in-False
returns-in-False c =
    let w = c.args.table.now in let a = assignment_of w c.args.model.now in let es = c.args.known.now.entries in let s = c.args.shape.now in
    bool_is w a es s _ (false_made w a es s c.in-False.is)

pub returns-in-Const : goal.returns-in-Const
returns-in-Const c =
    let w = c.args.table.now in
    constant_ok w c.is_table.ensures c.args.model.now c.requires.model c.is_formed.ensures c.args.known.now.entries c.args.t c.args.shape.now c.requires.shape _ c.in-Const.of c.constant.result c.in-Const.is c.constant.ensures

pub returns-in-Var : goal.returns-in-Var
returns-in-Var c =
    let w = c.args.table.now in
    variable_ok w c.is_table.ensures c.args.model.now c.requires.model c.is_formed.ensures c.args.known.now.entries c.args.t c.args.shape.now c.requires.shape _ c.in-Var.of c.zero_at.result c.in-Var.is c.zero_at.ensures

pub returns-in-Number : goal.returns-in-Number
returns-in-Number c =
    let w = c.args.table.now in let a = assignment_of w c.args.model.now in let es = c.args.known.now.entries in let s = c.args.shape.now in
    real_is w a es s _ (number_made w a es s _ c.in-Number.is)

pub returns-in-Bits : goal.returns-in-Bits
returns-in-Bits c =
    let w = c.args.table.now in let a = assignment_of w c.args.model.now in let es = c.args.known.now.entries in let s = c.args.shape.now in
    bits_is w a es s _ _ (bits_made w a es s _ _ c.in-Bits.is)

pub returns-in-Not : goal.returns-in-Not
returns-in-Not c =
    let w = c.args.table.now in let a = assignment_of w c.args.model.now in let es = c.args.known.now.entries in let s = c.args.shape.now in
    bool_is w a es s _ (not_made w a es s c.in-Not.only c.truth_at.result c.in-Not.is c.truth_at.ensures)

pub returns-in-And : goal.returns-in-And
returns-in-And c =
    let w = c.args.table.now in let a = assignment_of w c.args.model.now in let es = c.args.known.now.entries in let s = c.args.shape.now in
    bool_is w a es s _ (all_made w a es s c.in-And.all c.all_true.result c.in-And.is (c.all_true.ensures ∙ ap (λ ts. list_all truth_of (map (found es) ts)) c.as_slice.ensures))

pub returns-in-Or : goal.returns-in-Or
returns-in-Or c =
    let w = c.args.table.now in let a = assignment_of w c.args.model.now in let es = c.args.known.now.entries in let s = c.args.shape.now in
    bool_is w a es s _ (some_made w a es s c.in-Or.all c.some_true.result c.in-Or.is (c.some_true.ensures ∙ ap (λ ts. list_any truth_of (map (found es) ts)) c.as_slice-in-Or.ensures))

pub returns-in-Xor : goal.returns-in-Xor
returns-in-Xor c =
    let w = c.args.table.now in let a = assignment_of w c.args.model.now in let es = c.args.known.now.entries in let s = c.args.shape.now in
    bool_is w a es s _ (odd_made w a es s c.in-Xor.all c.odd_true.result c.in-Xor.is (c.odd_true.ensures ∙ ap (λ ts. is_odd (map truth_of (map (found es) ts))) c.as_slice-in-Xor.ensures))

pub returns-in-Ite : goal.returns-in-Ite
returns-in-Ite c =
    let w = c.args.table.now in let a = assignment_of w c.args.model.now in let es = c.args.known.now.entries in let s = c.args.shape.now in
    choice_ok w a es s c.in-Ite.test c.in-Ite.yes c.in-Ite.no c.chosen.result c.in-Ite.is c.chosen.ensures

pub equality-requires : goal.equality-requires
equality-requires c =
    let w = c.args.table.now in let a = assignment_of w c.args.model.now in let es = c.args.known.now.entries in let s = c.args.shape.now in
    pair_ready w a es s c.in-Eq.left c.in-Eq.right c.in-Eq.is c.requires.ready

pub returns-in_ok-same-in-Eq : goal.returns-in_ok-same-in-Eq
returns-in_ok-same-in-Eq c =
    let w = c.args.table.now in let a = assignment_of w c.args.model.now in let es = c.args.known.now.entries in let s = c.args.shape.now in
    bool_is w a es s _ (equal_made w a es s c.in-Eq.left c.in-Eq.right c.in_ok-same-in-Eq.same c.in-Eq.is c.in_ok-same-in-Eq.ensures)

pub unreachable-requires : goal.unreachable-requires
unreachable-requires c = subst IsNoSum c.in-Sum.is c.requires.other

pub returns-in-NonNeg : goal.returns-in-NonNeg
returns-in-NonNeg c =
    let w = c.args.table.now in let a = assignment_of w c.args.model.now in let es = c.args.known.now.entries in let s = c.args.shape.now in
    bool_is w a es s _ (sign_made w a es s c.in-NonNeg.only c.is_negative.result c.in-NonNeg.is c.is_negative.ensures)

pub distinctness-requires : goal.distinctness-requires
distinctness-requires c =
    let w = c.args.table.now in let a = assignment_of w c.args.model.now in let es = c.args.known.now.entries in let s = c.args.shape.now in
    subst (AreAlike w es) (sym c.as_slice-in-Distinct.ensures) (alike_ready w a es s c.in-Distinct.all c.in-Distinct.is c.requires.ready)

pub returns-in_ok-differ-in-Distinct : goal.returns-in_ok-differ-in-Distinct
returns-in_ok-differ-in-Distinct c =
    let w = c.args.table.now in let a = assignment_of w c.args.model.now in let es = c.args.known.now.entries in let s = c.args.shape.now in
    let b = c.in_ok-differ-in-Distinct.differ in
    let h = subst (λ ts. (l : Sort) → ((t : Term) → IsIn ts t → HasSort w t l) → b ≡ are_distinct l (map (found es) ts)) c.as_slice-in-Distinct.ensures c.in_ok-differ-in-Distinct.ensures in
    bool_is w a es s _ (distinct_made w a es s c.in-Distinct.all b c.in-Distinct.is h)

pub application-requires-clause-formed : goal.application-requires-clause-formed
application-requires-clause-formed c =
    let w = c.args.table.now in let a = assignment_of w c.args.model.now in let es = c.args.known.now.entries in let s = c.args.shape.now in
    call_formed w a es s c.in-App.function c.in-App.all c.in-App.is c.requires.ready

pub application-requires-clause-flat : goal.application-requires-clause-flat
application-requires-clause-flat c =
    let w = c.args.table.now in let a = assignment_of w c.args.model.now in let es = c.args.known.now.entries in let s = c.args.shape.now in
    subst (λ ts. are_flat (values (map (found es) ts)) ≡ true) (sym c.as_slice-in-App.ensures) (call_flat w a es s c.in-App.function c.in-App.all c.in-App.is c.requires.ready)

pub returns-in-App : goal.returns-in-App
returns-in-App c =
    let w = c.args.table.now in let a = assignment_of w c.args.model.now in let es = c.args.known.now.entries in let s = c.args.shape.now in
    let h = subst (λ ts. IfOk c.application.result (λ v. plain_value v ≡ call (found es c.in-App.function) (values (map (found es) ts)))) c.as_slice-in-App.ensures c.application.ensures in
    call_ok w a es s c.in-App.function c.in-App.all c.application.result c.in-App.is h

pub update-requires : goal.update-requires
update-requires c =
    let w = c.args.table.now in let a = assignment_of w c.args.model.now in let es = c.args.known.now.entries in let s = c.args.shape.now in
    update_formed w a es s c.in-Update.function c.in-Update.all c.in-Update.value c.in-Update.is c.requires.ready

pub returns-in-Update : goal.returns-in-Update
returns-in-Update c =
    let w = c.args.table.now in let a = assignment_of w c.args.model.now in let es = c.args.known.now.entries in let s = c.args.shape.now in
    let h = subst (λ ts. IfOk c.update.result (λ v. plain_value v ≡ put_in (values (map (found es) ts)) (found es c.in-Update.value) (found es c.in-Update.function))) c.as_slice-in-Update.ensures c.update.ensures.value in
    update_ok w a es s c.in-Update.function c.in-Update.all c.in-Update.value c.update.result c.in-Update.is h c.update.ensures.formed

pub operation-requires : goal.operation-requires
operation-requires c =
    let w = c.args.table.now in let a = assignment_of w c.args.model.now in let es = c.args.known.now.entries in let s = c.args.shape.now in
    subst (TakesWords es (tree.bit_vector c.in-Bv.op)) (sym c.as_slice-in-Bv.ensures) (words_ready w a es s c.in-Bv.op c.in-Bv.all c.in-Bv.is c.requires.ready)

pub returns-in-Bv : goal.returns-in-Bv
returns-in-Bv c =
    let w = c.args.table.now in let a = assignment_of w c.args.model.now in let es = c.args.known.now.entries in let s = c.args.shape.now in
    let h = subst (λ ts. IfOk c.operation.result (λ v. plain_value v ≡ on_bits c.in-Bv.op (map bits_of (map (found es) ts)))) c.as_slice-in-Bv.ensures c.operation.ensures.value in
    words_ok w a es s c.in-Bv.op c.in-Bv.all c.operation.result c.in-Bv.is h c.operation.ensures.formed

pub operation_at-requires : goal.operation_at-requires
operation_at-requires c =
    let w = c.args.table.now in let a = assignment_of w c.args.model.now in let es = c.args.known.now.entries in let s = c.args.shape.now in
    word_ready w a es s c.in-BvAt.op c.in-BvAt.i c.in-BvAt.j c.in-BvAt.only c.in-BvAt.is c.requires.ready

pub returns-in-BvAt : goal.returns-in-BvAt
returns-in-BvAt c =
    let w = c.args.table.now in let a = assignment_of w c.args.model.now in let es = c.args.known.now.entries in let s = c.args.shape.now in
    word_made w a es s c.in-BvAt.op c.in-BvAt.i c.in-BvAt.j c.in-BvAt.only _ c.in-BvAt.is c.operation_at.ensures.value c.operation_at.ensures.formed
