use Rattle.std.proofs.Common.{◌≡◌, ◌++◌, ◌∷◌, [], map, ap, ◌∙◌, rules}
use Rattle.rationals.specs.Rational.{one_ℚ}
use Rattle.simplex_logic.specs.Vectors.{zeros}
use Rattle.simplex_table.specs.Columns.{with_zero}
use Rattle.simplex_table.specs.Inside.{state_of}
use Rattle.simplex_table.proofs.Soundness.{variable_added}
use Rattle.simplex_table.proofs.Tableau.new_var.Goals as goal

pub invariant_of-self-2 : goal.invariant_of-self-2
invariant_of-self-2 c =
    let row : c.push.new.self ≡ zeros c.len.result ++ one_ℚ ∷ [] = c.in_ok-push.ensures.ok ∙ ap (λ l. l ++ c.one.result ∷ []) c.in_ok-row.ensures ∙ ap (λ x. zeros c.len.result ++ x ∷ []) c.one.ensures in
    variable_added (state_of c.self.inside) c.made.result.value c.push-2.new.self.items c.push-3.new.self.items c.push.new.self c.len-variable.result c.len.result c.self.invariant
    c.made.ensures
    (c.in_ok-push-2.ensures.items ∙ ap (λ l. l ++ c.len-variable.result ∷ []) c.in_ok-reserve.ensures.items)
    (search rules)
    (c.in_ok-push-3.ensures.items ∙ ap (λ l. l ++ c.push.new.self ∷ []) (c.in_ok-grow.ensures.ok ∙ ap (map with_zero) c.in_ok-reserve-2.ensures.items))
    row
    (search rules)
