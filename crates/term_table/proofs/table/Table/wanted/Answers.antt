use Rattle.std.proofs.Common.{◌≡◌, map, Some, subst, ⊎_elim}
use Rattle.y_tree.specs.Misfits.{row_of, a_real}
use Rattle.y_tree.specs.Laws.{wanted_behind}
use Rattle.term_shapes.specs.Shapes.{args_of}
use Rattle.term_shapes.specs.declared.lists.Monomial.{Monomial}
use Rattle.shape_rules.specs.Rules.{operator}
use Rattle.term_table.specs.Checking.{HaveSorts}
use Rattle.shape_rules.proofs.Vectors.{only_one}
use Rattle.term_table.proofs.Rows.{choice_wants, equality_wants, one_of_many}
use Rattle.term_table.proofs.table.Table.wanted.Goals as goal

pub returns-in-Ite : goal.returns-in-Ite
returns-in-Ite c ks v have h =
    choice_wants c.args.self.now c.in-Ite.field-0 c.in-Ite.yes c.in-Ite.field-2 c.wanted_in_choice.result c.args.place c.wanted_in_choice.ensures ks v (subst (λ s. HaveSorts c.args.self.now (args_of s) ks) c.in-Ite.is have) (subst (λ s. wanted_behind (row_of (operator s) ks) c.args.place ≡ Some v) c.in-Ite.is h)

pub returns-in-Eq : goal.returns-in-Eq
returns-in-Eq c ks v have h =
    equality_wants c.args.self.now c.in-Eq.left c.in-Eq.field-1 c.wanted_in_equality.result c.args.place c.wanted_in_equality.ensures ks v (subst (λ s. HaveSorts c.args.self.now (args_of s) ks) c.in-Eq.is have) (subst (λ s. wanted_behind (row_of (operator s) ks) c.args.place ≡ Some v) c.in-Eq.is h)

pub returns-in-Sum : goal.returns-in-Sum
returns-in-Sum c ks v have h = ⊎_elim
    (λ p. one_of_many a_real v (map (λ (m : Monomial). m.factor) p.0) c.args.place (subst (λ s. wanted_behind (row_of (operator s) ks) c.args.place ≡ Some v) p.2 h))
    (λ p. only_one a_real v c.args.place (subst (λ s. wanted_behind (row_of (operator s) ks) c.args.place ≡ Some v) p.1 h))
    c.in-Sum.is
