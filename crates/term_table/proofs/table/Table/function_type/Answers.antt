use Rattle.std.proofs.Common.{◌∙◌, sym, subst}
use Rattle.term_shapes.specs.declared.shapes.TypeShape.TheVariants as type
use Rattle.term_shapes.specs.declared.handles.TypeId.{TypeId}
use Rattle.shape_rules.specs.declared.errors.TableError.{TableError}
use Rattle.term_table.specs.Functions.{ArePartTypes, AddsFunction, RefusesType, RefusesFunction}
use Rattle.term_table.proofs.Standing.{if_ok, if_err}
use Rattle.term_table.proofs.Domains.{function_shape_of, refuses_function}
use Rattle.term_table.proofs.table.Table.function_type.Goals as goal

pub add_type-requires : goal.add_type-requires
add_type-requires c =
    function_shape_of c.args.self.now c.is_table.ensures c.args.arguments.now c.args.value c.in_ok-shape.shape c.in_ok-shape.ensures.ok (record {
      number = sym c.is_arity.ensures ∙ c.if-not-is_arity.false;
      live = c.in_default.ensures.none;
      simple = c.in_default-first_function.ensures.none;
    })

pub returns-clause-refused : goal.returns-clause-refused
returns-clause-refused c =
    let parts : ArePartTypes c.args.self.now c.args.arguments.now c.args.value = record {
      number = sym c.is_arity.ensures ∙ c.if-not-is_arity.false;
      live = c.in_default.ensures.none;
      simple = c.in_default-first_function.ensures.none;
    } in
    if_err c.add_type.result (λ (e : TableError). RefusesType c.args.self.now c.in_ok-shape.shape e) (λ e. RefusesFunction c.args.self.now c.args.arguments.now c.args.value e)
    (λ e h. refuses_function c.args.self.now c.args.arguments.now c.args.value e parts (subst (λ s. RefusesType c.args.self.now s e) c.in_ok-shape.ensures.ok h)) c.add_type.ensures.refused

pub returns-clause-added : goal.returns-clause-added
returns-clause-added c =
    if_ok c.add_type.result (λ (t : TypeId). AddsFunction c.args.self.now c.add_type.new.self t c.in_ok-shape.shape) (λ t. AddsFunction c.args.self.now c.add_type.new.self t (type.Fun c.args.arguments.now c.args.value))
    (λ t h. subst (λ s. AddsFunction c.args.self.now c.add_type.new.self t s) c.in_ok-shape.ensures.ok h) c.add_type.ensures.added
