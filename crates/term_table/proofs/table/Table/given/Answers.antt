use Rattle.std.proofs.Common.{◌&&◌, ◌==◌, [], length, map, ap, ⊎_elim}
use Rattle.std.specs.List.{list_all}
use Rattle.y_tree.specs.Sorts.{real, same_sort}
use Rattle.y_tree.specs.Typing.{typed, are}
use Rattle.term_shapes.specs.declared.lists.Monomial.{Monomial}
use Rattle.shape_rules.specs.Rules.{operator}
use Rattle.term_table.proofs.Giving.{call_given, bool_given, real_given}
use Rattle.term_table.proofs.table.Table.given.Goals as goal

pub returns-in-App : goal.returns-in-App
returns-in-App c ks k operates have h =
    call_given c.args.self.now c.args.shape.now c.in-App.function c.in-App.field-1 ks k c.result_type.result c.in-App.is c.result_type.ensures have h

pub returns-in_default : goal.returns-in_default
returns-in_default c ks k operates have h =
    bool_given c.args.self.now c.args.shape.now ks k c.bool_type.result c.in_default.not-Number c.in_default.not-Bits c.in_default.not-Ite c.in_default.not-App c.in_default.not-Update c.in_default.not-Sum c.in_default.not-Bv c.in_default.not-BvAt operates c.bool_type.ensures h

pub returns-in-Number : goal.returns-in-Number
returns-in-Number c ks k operates have h = ⊎_elim
    (λ p. real_given c.args.self.now c.args.shape.now ks k c.real_type.result c.real_type.ensures (are ks []) (ap (λ z. typed (operator z) ks) p.1) h)
    (λ p. real_given c.args.self.now c.args.shape.now ks k c.real_type.result c.real_type.ensures ((length (map (λ (m : Monomial). m.factor) p.0) == length ks) && list_all (same_sort real) ks) (ap (λ z. typed (operator z) ks) p.2) h)
    c.in-Number.is
