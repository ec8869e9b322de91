-- What a constructor makes of its arguments: a function of the operator and of the arguments as literals, so that the same live arguments always give the same term.
use Rattle.std.specs.Prelude.{Bool, true, false, ◌||◌, not, nat_lt, List, [], ◌∷◌, length, if◌then◌else◌}
use Rattle.std.specs.declared.cmp.Ordering.{Ordering}
use Rattle.std.specs.List.{list_any}
use Rattle.std.specs.Ordering.{nat_cmp, bool_cmp, ordering_then, is_eq}
use Rattle.std.specs.BTreeSet.{insert_key}
use Rattle.std.specs.Set.{remove_key}
use Rattle.y_tree.specs.Tree.{Op, negation, conjunction, disjunction, parity, implication, equivalence, choice, equality, disequality, distinctness}
use Rattle.term_shapes.specs.declared.handles.Term.{Term}
use Rattle.term_sketches.specs.declared.items.Literal.{Literal}
use Rattle.term_sketches.specs.declared.items.Sketch.{Sketch}
use Rattle.term_sketches.specs.declared.items.Sketch.TheVariants as sketch
use Rattle.term_sketches.specs.declared.items.Operator.{Operator}
use Rattle.term_sketches.specs.declared.items.Operator.TheVariants as operator

-- the operator of trees that a constructor has
abbrev pub operator_of : Operator → Op
operator_of operator.Not = negation
operator_of operator.And = conjunction
operator_of operator.Or = disjunction
operator_of operator.Xor = parity
operator_of operator.Implies = implication
operator_of operator.Iff = equivalence
operator_of operator.Ite = choice
operator_of operator.Eq = equality
operator_of operator.Neq = disequality
operator_of operator.Distinct = distinctness

-- the permanent term of truth; falsity is its negation
abbrev pub the_truth : Term
the_truth = record { slot = 0; stamp = 0 }

-- the term, not negated
abbrev pub plain : Term → Literal
plain t = record { atom = t; negated = false }

-- the opposite literal
abbrev pub opposite : Literal → Literal
opposite l = record { atom = l.atom; negated = not l.negated }

-- the literal of a truth value
abbrev pub constant : Bool → Literal
constant b = record { atom = the_truth; negated = not b }

-- terms in the order of their slots and then stamps
abbrev pub term_order : Term → Term → Ordering
term_order t u = ordering_then (nat_cmp t.slot u.slot) (nat_cmp t.stamp u.stamp)

-- literals in the order of their atoms, a term before its negation
abbrev pub literal_order : Literal → Literal → Ordering
literal_order l m = ordering_then (term_order l.atom m.atom) (bool_cmp l.negated m.negated)

-- one term, one literal
abbrev pub same_term : Term → Term → Bool
same_term t u = is_eq (term_order t u)

abbrev pub same_literal : Literal → Literal → Bool
same_literal l m = is_eq (literal_order l m)

-- a literal stands in the list
abbrev pub has : Literal → List Literal → Bool
has l ls = list_any (same_literal l) ls

-- the literals other than that one, ascending, each once
abbrev pub gathered : Literal → List Literal → List Literal
gathered u [] = []
gathered u (l ∷ ls) = if same_literal l u then gathered u ls else insert_key literal_order (gathered u ls) l

-- some literal stands there with its opposite
abbrev pub clash : List Literal → Bool
clash ls = list_any (λ l. has (opposite l) ls) ls

-- ascending literals under a conjunction (true) or a disjunction (false)
abbrev pub joined_as : Bool → List Literal → Sketch
joined_as true ls = sketch.AllOf ls
joined_as false ls = sketch.AnyOf ls

-- a literal makes all others useless, or two literals do together
abbrev pub decides : Bool → List Literal → Bool
decides b ls = has (constant (not b)) ls || clash ls

-- two or more literals, none of which is without effect
abbrev pub settled_many : Bool → List Literal → Sketch
settled_many b ls = if decides b ls then sketch.OneLiteral (constant (not b)) else joined_as b ls

-- what is left where the literals with no effect are gone
abbrev pub settled : Bool → List Literal → Sketch
settled b [] = sketch.OneLiteral (constant b)
settled b (l ∷ []) = sketch.OneLiteral l
settled b (l ∷ m ∷ ls) = settled_many b (l ∷ m ∷ ls)

-- a conjunction (true) or a disjunction (false) of literals
abbrev pub joined : Bool → List Literal → Sketch
joined b ls = settled b (gathered (constant b) ls)

-- the atom put in its place of an ascending list, or taken out where it stands there
abbrev pub toggled : Term → List Term → List Term
toggled t ts = if list_any (same_term t) ts then remove_key (same_term t) ts else insert_key term_order ts t

-- the atoms that stand there an odd number of times, ascending
abbrev pub odd_atoms : List Literal → List Term
odd_atoms [] = []
odd_atoms (l ∷ ls) = toggled l.atom (odd_atoms ls)

-- the parity of ascending atoms, negated where the flag says so; that of two is a negated equality
abbrev pub odd_rest : Bool → List Term → Sketch
odd_rest b [] = sketch.OneLiteral (constant b)
odd_rest b (t ∷ []) = sketch.OneLiteral (record { atom = t; negated = b })
odd_rest b (t ∷ u ∷ []) = sketch.Equal (not b) t u
odd_rest b (t ∷ u ∷ v ∷ ts) = sketch.OddOf b (t ∷ u ∷ v ∷ ts)

-- and without truth, which is the first of all terms
abbrev pub without_truth : Bool → List Term → Sketch
without_truth b [] = odd_rest b []
without_truth b (t ∷ ts) = if same_term t the_truth then odd_rest (not b) ts else odd_rest b (t ∷ ts)

-- the negations among the literals are odd in number
abbrev pub is_odd_negated : List Literal → Bool
is_odd_negated [] = false
is_odd_negated (l ∷ ls) = if l.negated then not (is_odd_negated ls) else is_odd_negated ls

-- the parity of literals, negated where the flag says so; of two terms of any one type it is that they differ
abbrev pub parity_of : Bool → List Literal → Sketch
parity_of b ls = without_truth (if b then not (is_odd_negated ls) else is_odd_negated ls) (odd_atoms ls)

-- the literal is that of a truth value
abbrev pub is_constant : Literal → Bool
is_constant l = same_term l.atom the_truth

-- a choice by a term between two literals that differ
abbrev pub branched : Term → Literal → Literal → Sketch
branched x a b =
    if same_literal a b then sketch.OneLiteral a
    else (if is_constant a then joined a.negated (record { atom = x; negated = a.negated } ∷ b ∷ [])
    else (if is_constant b then joined b.negated (record { atom = x; negated = not b.negated } ∷ a ∷ [])
    else (if same_term a.atom b.atom then parity_of true (plain x ∷ a ∷ [])
    else sketch.OneOf x a b)))

-- a choice by a literal
abbrev pub chosen : Literal → Literal → Literal → Sketch
chosen c a b = if is_constant c then sketch.OneLiteral (if c.negated then b else a) else (if c.negated then branched c.atom b a else branched c.atom a b)

-- the atoms, ascending, each once
abbrev pub all_placed : List Literal → List Term
all_placed [] = []
all_placed (l ∷ ls) = insert_key term_order (all_placed ls) l.atom

-- that terms are pairwise different: three truth values never are, nor is a term from itself
abbrev pub distinct_of : Bool → List Literal → Sketch
distinct_of truths [] = sketch.OneLiteral (constant true)
distinct_of truths (l ∷ []) = sketch.OneLiteral (constant true)
distinct_of truths (l ∷ m ∷ []) = parity_of false (l ∷ m ∷ [])
distinct_of truths (l ∷ m ∷ n ∷ ls) = if truths || nat_lt (length (all_placed (l ∷ m ∷ n ∷ ls))) (length (l ∷ m ∷ n ∷ ls)) then sketch.OneLiteral (constant false) else sketch.Apart (all_placed (l ∷ m ∷ n ∷ ls))

-- the opposite of the first
abbrev pub negated_first : List Literal → Sketch
negated_first [] = sketch.OneLiteral (constant true)
negated_first (l ∷ ls) = sketch.OneLiteral (opposite l)

-- the second follows from the first
abbrev pub implied : List Literal → Sketch
implied (l ∷ m ∷ []) = joined false (opposite l ∷ m ∷ [])
implied _ = sketch.OneLiteral (constant true)

-- a choice by the first between the others
abbrev pub chosen_first : List Literal → Sketch
chosen_first (c ∷ a ∷ b ∷ []) = chosen c a b
chosen_first _ = sketch.OneLiteral (constant true)

-- what a constructor makes of literals, the first of which is a truth value or not
abbrev pub sketch_of : Operator → Bool → List Literal → Sketch
sketch_of operator.Not truths ls = negated_first ls
sketch_of operator.And truths ls = joined true ls
sketch_of operator.Or truths ls = joined false ls
sketch_of operator.Xor truths ls = parity_of false ls
sketch_of operator.Implies truths ls = implied ls
sketch_of operator.Iff truths ls = parity_of true ls
sketch_of operator.Ite truths ls = chosen_first ls
sketch_of operator.Eq truths ls = parity_of true ls
sketch_of operator.Neq truths ls = parity_of false ls
sketch_of operator.Distinct truths ls = distinct_of truths ls
