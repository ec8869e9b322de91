use Rattle.std.proofs.Common.{◌∙◌, length, sym, ap, ⊎_elim}
use Rattle.y_tree.specs.Typing.{one, two, test, some, joined}
use Rattle.y_tree.specs.Misfits.{row_of, count_fits}
use Rattle.term_shapes.specs.Shapes.{args_of}
use Rattle.shape_rules.specs.Rules.{operator, bv_form}
use Rattle.term_table.proofs.Arities.{count_bits, count_call, count_update, count_some, count_fixed}
use Rattle.term_table.proofs.table.Table.count_fits.Goals as goal

pub returns-in-App : goal.returns-in-App
returns-in-App c ks have =
    count_call c.args.self.now c.args.shape.now ks have c.in-App.function c.in-App.all c.len.result c.takes.result c.in-App.is c.len.ensures c.takes.ensures

pub returns-in-Update : goal.returns-in-Update
returns-in-Update c ks have =
    count_update c.args.self.now c.args.shape.now ks have c.in-Update.function c.in-Update.all c.in-Update.field-2 c.len-in-Update.result c.takes-in-Update.result c.in-Update.is c.len-in-Update.ensures c.takes-in-Update.ensures

pub returns-in-One : goal.returns-in-One
returns-in-One c ks have =
    count_bits c.args.self.now c.args.shape.now ks have c.in-Bv.op c.in-Bv.all one c.len-in-One.result c.in-Bv.is c.in-One.ensures c.len-in-One.ensures

pub returns-in-Two : goal.returns-in-Two
returns-in-Two c ks have = ⊎_elim
    (λ e. count_bits c.args.self.now c.args.shape.now ks have c.in-Bv.op c.in-Bv.all two c.len-in-Two.result c.in-Bv.is (sym (ap bv_form e) ∙ c.form_of.ensures) c.len-in-Two.ensures)
    (λ e. count_bits c.args.self.now c.args.shape.now ks have c.in-Bv.op c.in-Bv.all test c.len-in-Two.result c.in-Bv.is (sym (ap bv_form e) ∙ c.form_of.ensures) c.len-in-Two.ensures)
    c.in-Two.is

pub returns-in-Some : goal.returns-in-Some
returns-in-Some c ks have = ⊎_elim
    (λ e. count_bits c.args.self.now c.args.shape.now ks have c.in-Bv.op c.in-Bv.all some c.len-in-Some.result c.in-Bv.is (sym (ap bv_form e) ∙ c.form_of.ensures) c.len-in-Some.ensures)
    (λ e. count_bits c.args.self.now c.args.shape.now ks have c.in-Bv.op c.in-Bv.all joined c.len-in-Some.result c.in-Bv.is (sym (ap bv_form e) ∙ c.form_of.ensures) c.len-in-Some.ensures)
    c.in-Some.is

pub returns-in_default : goal.returns-in_default
returns-in_default c ks have =
    count_fixed c.args.self.now c.args.shape.now ks c.in_default.not-And c.in_default.not-Or c.in_default.not-Xor c.in_default.not-Distinct c.in_default.not-App c.in_default.not-Update c.in_default.not-Bv have

pub returns-in-And : goal.returns-in-And
returns-in-And c ks have = ⊎_elim
    (λ e. count_some c.args.self.now c.args.shape.now ks have c.in-And.all c.len-in-And.result (ap args_of e) c.len-in-And.ensures ∙ ap (λ z. count_fits (row_of (operator z) ks) (length ks)) (sym e))
    (λ f. ⊎_elim
    (λ e. count_some c.args.self.now c.args.shape.now ks have c.in-And.all c.len-in-And.result (ap args_of e) c.len-in-And.ensures ∙ ap (λ z. count_fits (row_of (operator z) ks) (length ks)) (sym e))
    (λ g. ⊎_elim
    (λ e. count_some c.args.self.now c.args.shape.now ks have c.in-And.all c.len-in-And.result (ap args_of e) c.len-in-And.ensures ∙ ap (λ z. count_fits (row_of (operator z) ks) (length ks)) (sym e))
    (λ e. count_some c.args.self.now c.args.shape.now ks have c.in-And.all c.len-in-And.result (ap args_of e) c.len-in-And.ensures ∙ ap (λ z. count_fits (row_of (operator z) ks) (length ks)) (sym e))
    g)
    f)
    c.in-And.is
