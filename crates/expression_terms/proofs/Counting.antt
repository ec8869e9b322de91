-- Different trees that stand among others need no more than those.
use Rattle.std.proofs.Common.{◌≡◌, ◌∙◌, ◌+◌, ◌*◌, ◌≤◌, ◌⊎◌, inl, inr, List, [], ◌∷◌, ◌++◌, refl, sym, ap, subst, arith}
use Rattle.y_tree.specs.Tree.{Tree, node}
use Rattle.term_build.specs.Building.{IsAmong}
use Rattle.expression_terms.specs.Growth.{allowed, AreDifferent}
use Rattle.expression_terms.specs.Fresh.{need, needs, AreAmong}

-- the list without a tree that stands in it
without : (d : Tree) (es : List Tree) → IsAmong d es → List Tree
without d [] h = []
without d (e ∷ es) (inl same) = es
without d (e ∷ es) (inr h) = e ∷ without d es h

needs_without : (d : Tree) (es : List Tree) (h : IsAmong d es) → needs es ≡ need d + needs (without d es h)
unfolding without
needs_without d [] h = absurd h
needs_without d (e ∷ es) (inl same) = ap (λ z. need z + needs es) (sym same)
needs_without d (e ∷ es) (inr h) = omega (arith, needs_without d es h)

among_without : (d x : Tree) (es : List Tree) (h : IsAmong d es) → (x ≡ d → ⊥) → IsAmong x es → IsAmong x (without d es h)
unfolding without
among_without d x [] h other is = absurd h
among_without d x (e ∷ es) (inl same) other (inl here) = absurd (other (here ∙ sym same))
among_without d x (e ∷ es) (inl same) other (inr is) = is
among_without d x (e ∷ es) (inr h) other (inl here) = inl here
among_without d x (e ∷ es) (inr h) other (inr is) = inr (among_without d x es h other is)

pub needs_within : (ds es : List Tree) → AreDifferent ds → AreAmong ds es → needs ds ≤ needs es
needs_within [] es once all = omega arith
needs_within (d ∷ ds) es once all =
    let h : IsAmong d es = all d (inl refl) in
    let rest = needs_within ds (without d es h) once.1 (λ x is. among_without d x es h (λ e. once.0 (subst (λ z. IsAmong z ds) e is)) (all x (inr is))) in
    omega (arith, rest, needs_without d es h)

pub needs_append : (ds es : List Tree) → needs (ds ++ es) ≡ needs ds + needs es
needs_append [] es = omega arith
needs_append (d ∷ ds) es = omega (arith, needs_append ds es)

-- what is allowed is enough for the trees many times
pub needs_allowed : (ds : List Tree) → 16 * needs ds ≡ allowed ds
needs_allowed [] = refl
needs_allowed (node op ts ∷ ds) = omega (arith, needs_allowed ds)

pub among_append : (d : Tree) (ds es : List Tree) → IsAmong d (ds ++ es) → IsAmong d ds ⊎ IsAmong d es
among_append d [] es h = inr h
among_append d (x ∷ ds) es (inl here) = inl (inl here)
among_append d (x ∷ ds) es (inr h) = by (among_append d ds es h)
  where
    by : IsAmong d ds ⊎ IsAmong d es → IsAmong d (x ∷ ds) ⊎ IsAmong d es
    by (inl h) = inl (inr h)
    by (inr h) = inr h

pub among_left : (d : Tree) (ds es : List Tree) → IsAmong d ds → IsAmong d (ds ++ es)
among_left d [] es h = absurd h
among_left d (x ∷ ds) es (inl here) = inl here
among_left d (x ∷ ds) es (inr h) = inr (among_left d ds es h)

pub among_right : (d : Tree) (ds es : List Tree) → IsAmong d es → IsAmong d (ds ++ es)
among_right d [] es h = h
among_right d (x ∷ ds) es h = inr (among_right d ds es h)

pub different_append : (ds es : List Tree) → AreDifferent ds → AreDifferent es → ((d : Tree) → IsAmong d ds → IsAmong d es → ⊥) → AreDifferent (ds ++ es)
different_append [] es one two apart = two
different_append (d ∷ ds) es one two apart = (
  λ h. by (among_append d ds es h),
  different_append ds es one.1 two (λ x is. apart x (inr is)),
)
  where
    by : IsAmong d ds ⊎ IsAmong d es → ⊥
    by (inl h) = one.0 h
    by (inr h) = apart d (inl refl) h
