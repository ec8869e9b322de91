-- Examples of the texts of values.
use Rattle.std.specs.Prelude.{◌≡◌, true, false, [], ◌∷◌, refl, codes}
use Rattle.y_tree.specs.Values.{truth, empty, entry, values}
use Rattle.y_tree.specs.Values as value
use Rattle.value_texts.specs.Texts.{value_text}

-- the negation of truth values as a function
negation : value_text (value.function (entry (values (truth true ∷ [])) (truth false) empty) (truth true)) ≡ codes "(function (true) false default true)"
unfolding value_text
negation = refl
