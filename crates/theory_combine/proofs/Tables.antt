-- Truth values of constants, as a list, an assignment and a map.
use Rattle.std.proofs.Common.{◌≡◌, ◌∙◌, ◌-◌, ◌<◌, ◌≤◌, ◌++◌, ◌&&◌, ◌==◌, ℕ, Bool, true, false, List, [], ◌∷◌, Option, Some, None, cond, length, drop, get_or, refl, sym, ap, arith}
use Rattle.std.specs.Prelude.{nat_eq, unwrap_or}
use Rattle.std.specs.Map.{lookup}
use Rattle.std.proofs.lemmas.List.{at_drop_more}
use Rattle.y_tree.specs.Sorts.{boolean}
use Rattle.y_tree.specs.Values.{Value, truth, has_sort, zero_of}
use Rattle.y_tree.specs.Meaning.{value_in}
use Rattle.node_encoding.specs.declared.Node.{Node}
use Rattle.node_encoding.specs.Nodes.{number_at, entry_of, constants_in, booleans}
use Rattle.theory_combine.specs.Values.{truth_in, IsTable}

truth_step : (t b : Bool) (v : Value) (c : Bool) → v ≡ truth c → cond {A = Value} (t && true) (truth b) v ≡ truth (cond t b c)
truth_step true b v c e = refl
truth_step false b v c e = e

-- the value of a Boolean constant is that of its first entry
pub value_in_booleans : (es : List (ℕ × Bool)) (number : ℕ) → value_in (booleans es).constants number boolean ≡ truth (truth_in es number)
unfolding zero_of has_sort
value_in_booleans [] number = refl
value_in_booleans (e ∷ es) number = truth_step (e.0 == number) e.1 _ (truth_in es number) (value_in_booleans es number)

found_step : (t b : Bool) (o : Option Bool) (c : Bool) → unwrap_or o false ≡ c → unwrap_or (cond t (Some b) o) false ≡ cond t b c
found_step true b o c e = refl
found_step false b o c e = e

module _ (nodes : List Node) (entries : List (ℕ × Bool)) (i : ℕ) (positive : 0 < i) (within : i ≤ length entries) (old : List (ℕ × Bool)) (known : IsTable old (constants_in nodes (drop i entries))) where
  abbrev last : ℕ × Bool
  last = get_or entries (i - 1) (0, false)

  -- one entry more in front
  one_more : constants_in nodes (drop (i - 1) entries) ≡ entry_of (number_at nodes last.0) last.1 ++ constants_in nodes (drop i entries)
  one_more =
      at_drop_more (constants_in nodes) entries (i - 1) (0, false) (omega (arith, positive, within))
      ∙ ap (λ j. entry_of (number_at nodes last.0) last.1 ++ constants_in nodes (drop j entries)) (omega (arith, positive))

  -- a constant takes the place of its later entries
  pub table_more : (new : List (ℕ × Bool)) (number : ℕ) → Some number ≡ number_at nodes last.0
      → ((q : ℕ) → lookup (nat_eq q) new ≡ cond (nat_eq number q) (Some last.1) (lookup (nat_eq q) old)) → IsTable new (constants_in nodes (drop (i - 1) entries))
  table_more new number is updates = λ q.
      ap (λ o. unwrap_or o false) (updates q)
      ∙ found_step (nat_eq number q) last.1 (lookup (nat_eq q) old) (truth_in (constants_in nodes (drop i entries)) q) (known q)
      ∙ ap (λ o. truth_in (entry_of o last.1 ++ constants_in nodes (drop i entries)) q) is
      ∙ ap (λ es. truth_in es q) (sym one_more)

  -- another node changes nothing
  pub table_same : None ≡ number_at nodes last.0 → IsTable old (constants_in nodes (drop (i - 1) entries))
  table_same is = λ q.
      known q
      ∙ ap (λ o. truth_in (entry_of o last.1 ++ constants_in nodes (drop i entries)) q) is
      ∙ ap (λ es. truth_in es q) (sym one_more)

-- what is looked up is the value of the constant
pub value_found : (table given : List (ℕ × Bool)) (number : ℕ) → IsTable table given → (o : Option Bool) → o ≡ lookup (nat_eq number) table → truth (unwrap_or o false) ≡ value_in (booleans given).constants number boolean
value_found table given number known o is =
    ap (λ x. truth (unwrap_or x false)) is ∙ ap truth (known number) ∙ sym (value_in_booleans given number)
