-- The tree of an expression, its names replaced by what they stand for, or what is wrong first.
use Rattle.std.specs.Prelude.{ℕ, List, [], ◌∷◌, ◌++◌, Option, Some, None, Result, Ok, Err, codes, if◌then◌else◌}
use Rattle.std.specs.List.{list_any}
use Rattle.std.specs.Str.{bytes_eq}
use Rattle.y_tree.specs.Sorts.{Sort, boolean}
use Rattle.y_tree.specs.Tree.{Op, truth, falsity, negation, conjunction, disjunction, parity, implication, equivalence, choice, equality, disequality, distinctness, application, update, Tree, Trees, node}
use Rattle.y_tree.specs.Tree as tree
use Rattle.y_tree.specs.Typing.{sort_of}
use Rattle.y_tree.specs.Meaning.{or_boolean}
use Rattle.y_tree.specs.Misfits.{Misfit, bad_arity, wrong_type, widths_differ, bad_width, bad_range, misfit_of, Wanted, a_boolean, a_real, a_bit_vector, a_function, of_sort, anything}
use Rattle.yices_grammar.specs.declared.Place.{Place}
use Rattle.yices_grammar.specs.Commands.{Expr, expr_at, Exprs, no_exprs, more_exprs, Binds, no_binds, more_binds, true_word, false_word, name, operation, let_in, apply}
use Rattle.yices_grammar.specs.Commands as form
use Rattle.expression_terms.specs.declared.refusal.Refusal.{Refusal}
use Rattle.expression_terms.specs.declared.refusal.Refusal.TheVariants as refusal

-- names with their trees; the first with a name counts
abbrev pub Scope : Type 0
Scope = List (List ℕ × Tree)

-- why a command is refused, with the place of the cause
pub record Cause : Type 0 where
  pub place : Place
  pub refusal : Refusal

-- the tree that a name stands for
abbrev pub tree_named : Scope → List ℕ → Option Tree
tree_named [] w = None
tree_named (n ∷ ns) w = if bytes_eq w n.0 then Some n.1 else tree_named ns w

-- the words of operators, each with its operator
abbrev pub operator_words : List (List ℕ × Op)
operator_words =
    (codes "not", negation) ∷ (codes "and", conjunction) ∷ (codes "or", disjunction) ∷ (codes "xor", parity)
    ∷ (codes "=>", implication) ∷ (codes "<=>", equivalence) ∷ (codes "if", choice) ∷ (codes "ite", choice)
    ∷ (codes "=", equality) ∷ (codes "/=", disequality) ∷ (codes "distinct", distinctness) ∷ []

-- the operator that a word names
abbrev pub op_in : List (List ℕ × Op) → List ℕ → Option Op
op_in [] w = None
op_in (o ∷ os) w = if bytes_eq w o.0 then Some o.1 else op_in os w

-- the types of trees
abbrev pub sorts_of : Trees → List Sort
sorts_of tree.none = []
sorts_of (tree.more t ts) = or_boolean (sort_of t) ∷ sorts_of ts

-- the text of a type
abbrev pub sort_text : Sort → List ℕ
sort_text boolean = codes "bool"
sort_text _ = []

-- the text of what an argument has to be
abbrev pub wanted_text : Wanted → List ℕ
wanted_text a_boolean = codes "bool"
wanted_text a_real = codes "real"
wanted_text a_bit_vector = codes "bitvector"
wanted_text a_function = codes "function"
wanted_text (of_sort s) = sort_text s
wanted_text anything = []

-- the refusal of arguments that don't fit; there are no bit-vectors yet
abbrev pub told : Misfit → Refusal
told (bad_arity n) = refusal.BadArity n
told (wrong_type place want found) = refusal.WrongType place (wanted_text want) (sort_text found)
told (widths_differ place n m) = refusal.NotBuilt
told (bad_width n) = refusal.NotBuilt
told bad_range = refusal.NotBuilt

-- it is refused there for that
abbrev pub wrong : {A : Type 0} → Place → Refusal → Result A Cause
wrong at why = Err (record { place = at; refusal = why })

-- the tree, or that the name is unknown
abbrev pub known : Place → List ℕ → Option Tree → Result Tree Cause
known at w None = wrong at (refusal.UnknownName w)
known at w (Some t) = Ok t

-- a first tree and the trees behind it, where there are both
abbrev pub join : Result Tree Cause → Result Trees Cause → Result Trees Cause
join (Err e) ts = Err e
join (Ok t) (Err e) = Err e
join (Ok t) (Ok ts) = Ok (tree.more t ts)

-- the tree, or how it doesn't fit
abbrev pub unless_misfit : Place → Tree → Option Misfit → Result Tree Cause
unless_misfit at t None = Ok t
unless_misfit at t (Some m) = wrong at (told m)

-- the operator over the trees, where they are there and fit; a word that isn't built has none
abbrev pub over : Place → Option Op → Result Trees Cause → Result Tree Cause
over at op (Err e) = Err e
over at None (Ok ts) = wrong at refusal.NotBuilt
over at (Some op) (Ok ts) = unless_misfit at (node op ts) (misfit_of op (sorts_of ts))

-- the names that are bound
abbrev pub names_of : Binds → List (List ℕ)
names_of no_binds = []
names_of (more_binds w e bs) = w ∷ names_of bs

-- the first name that repeats an earlier one, where those are earlier
abbrev pub repeated_behind : List (List ℕ) → List (List ℕ) → Option (List ℕ)
repeated_behind earlier [] = None
repeated_behind earlier (w ∷ ws) = if list_any (bytes_eq w) earlier then Some w else repeated_behind (w ∷ earlier) ws

-- the first name that repeats an earlier one
abbrev pub repeated : List (List ℕ) → Option (List ℕ)
repeated ws = repeated_behind [] ws

-- a name with its tree, and those behind it, where there are both
abbrev pub bind : List ℕ → Result Tree Cause → Result Scope Cause → Result Scope Cause
bind w (Err e) ns = Err e
bind w (Ok t) (Err e) = Err e
bind w (Ok t) (Ok ns) = Ok ((w, t) ∷ ns)

-- the names that are bound, where none is bound twice
abbrev pub unless_twice : Place → Option (List ℕ) → Result Scope Cause → Result Scope Cause
unless_twice at None ns = ns
unless_twice at (Some w) ns = wrong at (refusal.BoundTwice w)

-- what is read where those names are bound
abbrev pub within : Result Scope Cause → (Scope → Result Tree Cause) → Result Tree Cause
within (Err e) read = Err e
within (Ok ns) read = read ns

-- the tree of an expression, its names replaced by their trees, or what is wrong first: arguments come before the whole; `let` reads what it binds outside its own bindings; a form that isn't built has none
unfoldable mutual
  pub tree_of : Scope → Expr → Result Tree Cause
  tree_of s (expr_at at true_word) = Ok (node truth tree.none)
  tree_of s (expr_at at false_word) = Ok (node falsity tree.none)
  tree_of s (expr_at at (name w)) = known at w (tree_named s w)
  tree_of s (expr_at at (operation w es)) = over at (op_in operator_words w) (trees_of s es)
  tree_of s (expr_at at (let_in bs e)) = within (unless_twice at (repeated (names_of bs)) (bindings_of s bs)) (λ ns. tree_of (ns ++ s) e)
  tree_of s (expr_at at (apply f es)) = over at (Some application) (join (tree_of s f) (trees_of s es))
  tree_of s (expr_at at (form.update f es v)) = over at (Some update) (join (tree_of s f) (trees_before s es (tree_of s v)))
  tree_of s (expr_at at _) = wrong at refusal.NotBuilt

  pub trees_of : Scope → Exprs → Result Trees Cause
  trees_of s no_exprs = Ok tree.none
  trees_of s (more_exprs e es) = join (tree_of s e) (trees_of s es)

  pub trees_before : Scope → Exprs → Result Tree Cause → Result Trees Cause
  trees_before s no_exprs last = join last (Ok tree.none)
  trees_before s (more_exprs e es) last = join (tree_of s e) (trees_before s es last)

  pub bindings_of : Scope → Binds → Result Scope Cause
  bindings_of s no_binds = Ok []
  bindings_of s (more_binds w e bs) = bind w (tree_of s e) (bindings_of s bs)
