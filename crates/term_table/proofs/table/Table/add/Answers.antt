use Rattle.term_shapes.specs.declared.handles.Term.{Term}
use Rattle.term_table.specs.Changes.{AddsTerm}
use Rattle.term_table.specs.Checking.{AddsShape}
use Rattle.term_table.proofs.Standing.{shape_typed, given_shape, if_ok}
use Rattle.term_table.proofs.table.Table.add.Goals as goal

pub add_typed-requires : goal.add_typed-requires
add_typed-requires c = record {
  typed = shape_typed c.args.self.now c.is_table.ensures c.args.shape c.given-of.result (given_shape c.args.self.now c.args.shape c.requires.0 c.given-of.result c.requires.1 c.given-of.ensures);
  operator = c.requires.1.operates;
}

pub returns-clause-added : goal.returns-clause-added
returns-clause-added c =
    let is = given_shape c.args.self.now c.args.shape c.requires.0 c.given-of.result c.requires.1 c.given-of.ensures in
    if_ok c.add_typed.result (λ (t : Term). AddsTerm c.args.self.now c.add_typed.new.self t (record { shape = c.args.shape; of = c.given-of.result })) (λ t. AddsShape c.args.self.now c.add_typed.new.self c.args.shape t) (λ t h. (c.given-of.result, is, h)) c.add_typed.ensures.added
