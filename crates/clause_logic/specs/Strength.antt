-- When unit propagation over some clauses finds all that it finds over others, and when clauses define a variable.
use Rattle.std.specs.Prelude.{◌≡◌, ℕ, List}
use Rattle.clause_logic.specs.declared.Lit.{Lit}
use Rattle.clause_logic.specs.Clauses.{opposite, In, Reached, Clash}

-- literals that can be true together, and closed under unit propagation
pub record IsClosed (clauses : List Lit → Type 0) (truths : Lit → Type 0) : Type 0 where
  pub consistent : (l : Lit) → truths l → truths (opposite l) → ⊥
  pub unit_of : (c : List Lit) (l : Lit) → clauses c → In l c → ((m : Lit) → In m c → (m ≡ l → ⊥) → truths (opposite m)) → truths l

-- the images of the opposites of the other literals
abbrev pub OtherImages : (Lit → Lit) → List Lit → Lit → Lit → Type 0
OtherImages image c l m = (x : Lit) × In x c × (x ≡ l → ⊥) × (m ≡ image (opposite x))

-- with all literals of a weak clause but one false, by their images, propagation over the strong clauses makes that one true, or meets a contradiction
abbrev pub Imitates : (List Lit → Type 0) → (List Lit → Type 0) → (Lit → Lit) → Type 0
Imitates weak strong image =
    (c : List Lit) (l : Lit) → weak c → In l c → (Clash strong (OtherImages image c l) → ⊥) → Reached strong (OtherImages image c l) (image l)

-- clauses that define a variable: each has one literal of it, and two with opposite ones have opposite literals of another variable
pub record AreDefining (v : ℕ) (clauses : List Lit → Type 0) : Type 0 where
  pub some : (c : List Lit) → clauses c → (l : Lit) × In l c × (l.var ≡ v)
  pub once : (c : List Lit) (l m : Lit) → clauses c → In l c → In m c → l.var ≡ v → m.var ≡ v → l ≡ m
  pub blocked : (c d : List Lit) (l : Lit) → clauses c → clauses d → l.var ≡ v → In l c → In (opposite l) d → (y : Lit) × In y c × In (opposite y) d × (y.var ≡ v → ⊥)
