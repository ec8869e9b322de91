-- The laws of learning, as contracts name them.
use Rattle.std.specs.Prelude.{◌≡◌, ℕ, ◌^◌, ◌≤◌, List, [], length, map}
use Rattle.clause_logic.specs.declared.Lit.{Lit}
use Rattle.clause_logic.specs.Clauses.{opposite, In, New, Both, Listed, Complete}
use Rattle.clause_logic.specs.Trails.{IsPlaced, Learned, Prefix}
use Rattle.clause_logic.specs.Bound.{Apart}
use Rattle.clause_logic.specs.Strength.{Imitates, AreDefining}

-- what analysis derives is new, where propagation was complete before the conflict's level began
abbrev pub NewLaw : Type 0
NewLaw =
    (order : List Lit) (places : List ℕ) (from clauses : List (List Lit)) (start : ℕ) (c : List Lit) → IsPlaced order places → Learned (Listed from) order start c → Complete (Prefix order start) (Listed clauses) → New (Listed clauses) c

-- there are at most 3 ^ n different clauses over n variables
abbrev pub FewLaw : Type 0
FewLaw = (n : ℕ) (cs : List (List Lit)) → Apart n cs → length cs ≤ 3 ^ n

-- a new clause holds all literals of no clause that is there
abbrev pub NewHoldsNoneLaw : Type 0
NewHoldsNoneLaw = (clauses : List (List Lit)) (c d : List Lit) → New (Listed clauses) c → Listed clauses d → ((l : Lit) → In l d → In l c) → ⊥

-- nor a literal together with its opposite
abbrev pub NewPlainLaw : Type 0
NewPlainLaw = (clauses : List (List Lit)) (c : List Lit) (l : Lit) → New (Listed clauses) c → In l c → In (opposite l) c → ⊥

-- what is new over more clauses is new over fewer
abbrev pub NewFewerLaw : Type 0
NewFewerLaw = (fewer more : List (List Lit)) (c : List Lit) → ((d : List Lit) → Listed fewer d → Listed more d) → New (Listed more) c → New (Listed fewer) c

-- what is new over stronger propagation is new, by its literals' names, over weaker
abbrev pub NewWeakerLaw : Type 0
NewWeakerLaw =
    (weak strong : List (List Lit)) (image name : Lit → Lit) (c : List Lit) → ((l : Lit) → image (opposite l) ≡ opposite (image l)) → (Listed weak [] → ⊥) → Imitates (Listed weak) (Listed strong) image
    → ((l : Lit) → In l c → image (name l) ≡ l) → New (Listed strong) c → New (Listed weak) (map name c)

-- what is new stays new where clauses define one variable more
abbrev pub NewStaysLaw : Type 0
NewStaysLaw =
    (old added : List (List Lit)) (v : ℕ) (c : List Lit) → ((d : List Lit) (l : Lit) → Listed old d → In l d → l.var ≡ v → ⊥) → AreDefining v (Listed added) → ((l : Lit) → In l c → l.var ≡ v → ⊥)
    → New (Listed old) c → New (Both (Listed old) (Listed added)) c
