use Rattle.std.proofs.Common.{◌≡◌, Some, subst, ⊎_elim}
use Rattle.y_tree.specs.Typing.{one, two, test, some, joined, typed_bits, widths}
use Rattle.shape_rules.specs.Rules.{bv_form}
use Rattle.term_table.proofs.Giving.{test_given, joined_given, first_given, keeps_bool}
use Rattle.term_table.proofs.table.Table.given_by_form.Goals as goal

pub returns-in-Test : goal.returns-in-Test
returns-in-Test c ks k have h =
    test_given c.args.self.now ks c.bool_type.result k (keeps_bool c.args.self.now c.bool_type.result c.bool_type.ensures) (subst (λ f. typed_bits (bv_form f) (widths ks) ≡ Some k) c.in-Test.is h)

pub returns-in-Joined : goal.returns-in-Joined
returns-in-Joined c ks k have h =
    joined_given c.args.self.now ks c.vector.result k c.all_widths.result (c.all_widths.ensures ks have) c.vector.ensures (subst (λ f. typed_bits (bv_form f) (widths ks) ≡ Some k) c.in-Joined.is h)

pub returns-in-One : goal.returns-in-One
returns-in-One c ks k have h = ⊎_elim
    (λ e. first_given c.args.self.now ks c.first_type.result k one (λ l at. c.first_type.ensures ks l have at) (λ (f : one ≡ test). cc f) (λ (f : one ≡ joined). cc f) (subst (λ f. typed_bits (bv_form f) (widths ks) ≡ Some k) e h))
    (λ g. ⊎_elim
    (λ e. first_given c.args.self.now ks c.first_type.result k two (λ l at. c.first_type.ensures ks l have at) (λ (f : two ≡ test). cc f) (λ (f : two ≡ joined). cc f) (subst (λ f. typed_bits (bv_form f) (widths ks) ≡ Some k) e h))
    (λ e. first_given c.args.self.now ks c.first_type.result k some (λ l at. c.first_type.ensures ks l have at) (λ (f : some ≡ test). cc f) (λ (f : some ≡ joined). cc f) (subst (λ f. typed_bits (bv_form f) (widths ks) ≡ Some k) e h))
    g)
    c.in-One.is
