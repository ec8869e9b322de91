-- Texts that grow piece by piece.
use Rattle.std.proofs.Common.{◌≡◌, ◌∙◌, ℕ, List, [], ◌∷◌, ◌++◌, codes, map, Some, refl, sym, ap, append_assoc, append-nil}
use Rattle.term_shapes.specs.declared.handles.TypeId.{TypeId}
use Rattle.term_shapes.specs.declared.shapes.TypeShape.{TypeShape}
use Rattle.term_shapes.specs.declared.shapes.TypeShape.TheVariants as type
use Rattle.term_table.specs.World.{World, type_shape_at}
use Rattle.term_texts.specs.TypeTexts.{spaced, part_text, type_text, type_text_of}

pub three : (o a b c k m n : List ℕ) → k ≡ o ++ a → m ≡ k ++ b → n ≡ m ++ c → n ≡ o ++ ((a ++ b) ++ c)
three o a b c k m n e f g = g ∙ ap (λ x. x ++ c) (f ∙ ap (λ x. x ++ b) e ∙ append_assoc o a b) ∙ append_assoc o (a ++ b) c

-- one text more behind the others
spaced_last : (xs : List (List ℕ)) (x : List ℕ) → spaced (xs ++ x ∷ []) ≡ spaced xs ++ (codes " " ++ x)
spaced_last [] x = append-nil (codes " " ++ x)
spaced_last (y ∷ ys) x = ap (λ z. codes " " ++ y ++ z) (spaced_last ys x) ∙ sym (append_assoc (codes " " ++ y) (spaced ys) (codes " " ++ x))

map_last : {X Y : Type 0} (f : X → Y) (xs : List X) (x : X) → map f (xs ++ x ∷ []) ≡ map f xs ++ f x ∷ []
map_last f [] x = refl
map_last f (y ∷ ys) x = ap (λ z. f y ∷ z) (map_last f ys x)

regroup : (o a s b r c : List ℕ) → ((((o ++ a) ++ s) ++ b) ++ r) ++ c ≡ o ++ ((a ++ (s ++ (b ++ r))) ++ c)
regroup o a s b r c = simp append_assoc

-- a type of functions
pub function_pieces : (w : World) (t : TypeId) (s : TypeShape) (ts : List TypeId) (r : TypeId) (o a b c d e : List ℕ) → type_shape_at w t ≡ Some s → s ≡ type.Fun ts r → a ≡ o ++ codes "(->" → b ≡ a ++ spaced (map (part_text w) ts)
    → c ≡ b ++ codes " " → d ≡ c ++ part_text w r → e ≡ d ++ codes ")" → e ≡ o ++ type_text w t
function_pieces w t s ts r o a b c d e has is ea eb ec ed ee =
    ee ∙ ap (λ x. x ++ codes ")") (ed ∙ ap (λ x. x ++ part_text w r) (ec ∙ ap (λ x. x ++ codes " ") (eb ∙ ap (λ x. x ++ spaced (map (part_text w) ts)) ea)))
    ∙ regroup o (codes "(->") (spaced (map (part_text w) ts)) (codes " ") (part_text w r) (codes ")")
    ∙ ap (λ x. o ++ (codes "(->" ++ x ++ codes ")")) (sym (ap spaced (map_last (part_text w) ts r) ∙ spaced_last (map (part_text w) ts) (part_text w r)))
    ∙ ap (λ x. o ++ type_text_of w t x) (sym (has ∙ ap Some is))
