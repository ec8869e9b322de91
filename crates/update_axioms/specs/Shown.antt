-- Values of a view's nodes as the code holds them, and the axioms that are false under them.
use Rattle.std.specs.Prelude.{◌≡◌, ℕ, ◌<◌, Bool, true, not, List, [], ◌∷◌, Option, Some, None, IsSome, ◌==◌, if◌then◌else◌, map, length, slice_get}
use Rattle.y_tree.specs.declared.values.Value as code
use Rattle.y_tree.specs.declared.values.FunValue.{FunValue}
use Rattle.y_tree.specs.Sorts.{Sort, Sorts}
use Rattle.y_tree.specs.Values.{Value, truth, same_function, are_flat, is_flat_function}
use Rattle.y_tree.specs.Order.{is_formed}
use Rattle.y_tree.specs.Plain.{plain_value, plain_values, plain_function, plain_sorts}
use Rattle.update_axioms.specs.declared.FunctionView.{FunctionView}
use Rattle.update_axioms.specs.declared.shown.FunctionValues.{FunctionValues}
use Rattle.update_axioms.specs.declared.Instance.{Instance}
use Rattle.update_axioms.specs.declared.Instance.TheVariants.{AtPoint, Elsewhere, Differ}
use Rattle.update_axioms.specs.Views.{Update, Pair}
use Rattle.update_axioms.specs.Says.{is_so}
use Rattle.update_axioms.specs.Enough.{Nodes, shown, AreTyped, AreOver, UpdatesAre, PairsAreTwo}

-- what the first item with the number has
abbrev pub found : {A : Type 0} → List (ℕ × A) → ℕ → Option A
found [] k = None
found (a ∷ as_) k = if a.0 == k then Some a.1 else found as_ k

-- the function that was found
abbrev pub function_or_none : Option FunValue → Value
function_or_none None = truth true
function_or_none (Some f) = plain_function f

-- the value that was found
abbrev pub value_or_none : Option code.Value → Value
value_or_none None = truth true
value_or_none (Some v) = plain_value v

-- the key that was found
abbrev pub key_or_none : Option (List code.Value) → List Value
key_or_none None = []
key_or_none (Some vs) = map plain_value vs

-- the values of nodes that are shown
abbrev pub nodes_of : FunctionValues → Nodes
nodes_of s = record {
  function = λ f. function_or_none (found s.functions f);
  value = λ n. value_or_none (found s.values n);
  key = λ t. key_or_none (slice_get s.tuples t);
}

-- what the axiom says is so, where a pair says that its functions are two
abbrev pub is_so_under : FunctionView → Sorts → Nodes → Instance → Bool
is_so_under v domain s (AtPoint k) = is_so v (shown s) (AtPoint k)
is_so_under v domain s (Elsewhere k t) = is_so v (shown s) (Elsewhere k t)
is_so_under v domain s (Differ left right) = not (same_function domain (s.function left) (s.function right))

-- the same of what is shown
abbrev pub is_so_of : FunctionView → FunctionValues → Instance → Bool
is_so_of v s = is_so_under v (plain_sorts s.arguments) (nodes_of s)

-- the first that doesn't pass
abbrev pub first_failing : (Instance → Bool) → List Instance → Option Instance
first_failing test [] = None
first_failing test (a ∷ as_) = if test a then first_failing test as_ else Some a

-- the functions that are shown are well-formed, and no functions stand in them or in the keys
pub record AreShown (s : FunctionValues) : Type 0 where
  pub formed : (f : ℕ) (g : FunValue) → found s.functions f ≡ Some g → is_formed (plain_function g) ≡ true
  pub flat : (f : ℕ) (g : FunValue) → found s.functions f ≡ Some g → is_flat_function (plain_function g) ≡ true
  pub keys : (t : ℕ) (key : List code.Value) → slice_get s.tuples t ≡ Some key → are_flat (plain_values key) ≡ true

-- each node that the view names is shown, and each tuple
pub record Shows (v : FunctionView) (s : FunctionValues) : Type 0 where
  pub shown : AreShown s
  pub updates : (k : ℕ) (u : Update) → slice_get v.updates k ≡ Some u → IsSome (found s.functions u.0)
  pub functions : (k : ℕ) (u : Update) → slice_get v.updates k ≡ Some u → IsSome (found s.functions u.1)
  pub within : (k : ℕ) (u : Update) → slice_get v.updates k ≡ Some u → u.2 < length s.tuples
  pub updated_to : (k : ℕ) (u : Update) → slice_get v.updates k ≡ Some u → IsSome (found s.values u.3)
  pub lefts : (k : ℕ) (p : Pair) → slice_get v.unequal k ≡ Some p → IsSome (found s.functions p.0)
  pub rights : (k : ℕ) (p : Pair) → slice_get v.unequal k ≡ Some p → IsSome (found s.functions p.1)
  pub tuples : length s.tuples ≡ length v.tuples

-- functions that have one value outside the tuples are as the view says
abbrev pub AreAsSaid : FunctionView → FunctionValues → Type 0
AreAsSaid v s = (result : Sort) (other : Value) → AreTyped v (plain_sorts s.arguments) result (nodes_of s) → AreOver v other (nodes_of s)
    → UpdatesAre v (plain_sorts s.arguments) (nodes_of s) × PairsAreTwo v (plain_sorts s.arguments) (nodes_of s)
