-- What words of literals stand for.
use Rattle.std.specs.Prelude.{ℕ, ◌+◌, ◌<◌, Bool, List, ◌≡◌, ◌*◌, ◌^◌, length}
use Rattle.clause_logic.specs.declared.Lit.{Lit}
use Rattle.clause_search.specs.Content.{Content}
use Rattle.clause_gates.specs.Bits.{value_under}
use Rattle.clause_gates.specs.Circuits.{Satisfies, AllBelow}
use Rattle.bit_blast.specs.Bits.{values_under, number_under, bit}

-- literals, n of them, that stand for the number which the function gives
pub record IsWord (c : Content) (n : ℕ) (ls : List Lit) (f : (ℕ → Bool) → ℕ) : Type 0 where
  pub count : length ls ≡ n
  pub known : AllBelow c.vars ls
  pub is : (s : ℕ → Bool) → Satisfies s c → number_under s ls ≡ f s

-- the sum of two words and a carry, as bits and a last carry
pub record IsSum (c : Content) (a b : List Lit) (first : Lit) (bits : List Lit) (last : Lit) : Type 0 where
  pub count : length bits ≡ length a
  pub bits_known : AllBelow c.vars bits
  pub carry_known : last.var < c.vars
  pub is : (s : ℕ → Bool) → Satisfies s c → number_under s bits + 2 ^ length a * bit (value_under s last) ≡ number_under s a + number_under s b + bit (value_under s first)

-- literals, n of them, with the values of the list which the function gives
pub record IsBits (c : Content) (n : ℕ) (ls : List Lit) (f : (ℕ → Bool) → List Bool) : Type 0 where
  pub count : length ls ≡ n
  pub known : AllBelow c.vars ls
  pub is : (s : ℕ → Bool) → Satisfies s c → values_under s ls ≡ f s
