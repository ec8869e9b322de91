use Rattle.std.proofs.Common.{◌≡◌, Some, None, subst}
use Rattle.y_tree.specs.Sorts.{boolean}
use Rattle.y_tree.specs.Values.{truth}
use Rattle.y_tree.specs.Meaning.{value_in}
use Rattle.node_encoding.specs.Nodes.{booleans}
use Rattle.theory_combine.proofs.Tables.{value_found}
use Rattle.theory_combine.proofs.values.ConstValues.value.Goals as goal

pub returns-in-Some : goal.returns-in-Some
returns-in-Some c =
    subst (λ given. truth c.in-Some.value.now ≡ value_in (booleans given).constants c.args.number boolean) c.self.view_is
    (value_found c.self.inside.table.entries c.self.inside.given.value c.args.number c.self.invariant (Some c.in-Some.value.now) c.in-Some.ensures.value)

pub returns-in-None : goal.returns-in-None
returns-in-None c =
    subst (λ given. truth Rattle.std.proofs.Common.false ≡ value_in (booleans given).constants c.args.number boolean) c.self.view_is
    (value_found c.self.inside.table.entries c.self.inside.given.value c.args.number c.self.invariant None c.in-None.ensures.value)
