-- The law of words, as a contract names it.
use Rattle.std.specs.Prelude.{ℕ, Bool, List}
use Rattle.clause_logic.specs.declared.Lit.{Lit}
use Rattle.clause_search.specs.Content.{Content}
use Rattle.clause_gates.specs.Laws.{Later}
use Rattle.bit_blast.specs.Circuits.{IsWord}

-- what a word stands for stays
abbrev pub WordsStay : Type 0
WordsStay = (a b : Content) (w : ℕ) (ls : List Lit) (f : (ℕ → Bool) → ℕ) → Later a b → IsWord a w ls f → IsWord b w ls f
