-- Expressions that are built one after another: each adds its term and what it needs.
use Rattle.std.proofs.Common.{◌≡◌, ◌∙◌, ℕ, List, [], ◌∷◌, ◌++◌, Result, Ok, Err, refl, sym, ap, subst, append_assoc}
use Rattle.y_tree.specs.Tree.{Tree, Trees, trees}
use Rattle.y_tree.specs.Tree as tree
use Rattle.term_shapes.specs.declared.handles.Term.{Term}
use Rattle.term_table.specs.World.{World}
use Rattle.yices_grammar.specs.Commands.{Expr, Exprs, no_exprs, more_exprs, Binds, no_binds, more_binds}
use Rattle.term_build.proofs.Growing.{IsWider, wider}
use Rattle.expression_terms.specs.Trees.{Scope, Cause, join, bind, tree_of, trees_of, bindings_of}
use Rattle.expression_terms.specs.Standing.{IsBuiltFor, AreBuiltFor}
use Rattle.expression_terms.specs.Growth.{written_trees, all_trees, bound_trees}
use Rattle.expression_terms.specs.Fresh.{needs, GrowsBy, GrowsPast}
use Rattle.expression_terms.specs.Parts.{BuildsOne, BuildsAll, in_front, BuildsSome, names_in_front, BindsSome, BindsAll}
use Rattle.expression_terms.proofs.Stays.{all_stay}
use Rattle.expression_terms.proofs.Grown.{grows_none, grows_then}
use Rattle.expression_terms.proofs.Enough.{past_then, past_among, among_front}
use Rattle.expression_terms.proofs.Scopes.{bound_stays, bound_push}

-- what grew is wider
pub growing_wider : (ts : List Tree) (old new : World) → GrowsBy ts old new → IsWider old new
growing_wider ts old new g = wider (needs g.trees) old new g.adds

in_front_more : (ds : List Tree) (d : Tree) (rest : Result Trees Cause) → in_front (ds ++ d ∷ []) rest ≡ in_front ds (join (Ok d) rest)
in_front_more [] d rest = refl
in_front_more (x ∷ ds) d rest = ap (join (Ok x)) (in_front_more ds d rest)

in_front_all : (ds : List Tree) → in_front ds (Ok tree.none) ≡ Ok (trees ds)
in_front_all [] = refl
in_front_all (d ∷ ds) = ap (join (Ok d)) (in_front_all ds)

in_front_wrong : (ds : List Tree) (c : Cause) → in_front ds (Err c) ≡ Err c
in_front_wrong [] c = refl
in_front_wrong (d ∷ ds) c = ap (join (Ok d)) (in_front_wrong ds c)

-- one more term for one more tree
pub built_push : (w : World) (ds : List Tree) (ts : List Term) (d : Tree) (t : Term) → AreBuiltFor w (trees ds) ts → IsBuiltFor w d t → AreBuiltFor w (trees (ds ++ d ∷ [])) (ts ++ t ∷ [])
unfolding AreBuiltFor
built_push w [] [] d t h one = (one, tt)
built_push w [] (u ∷ ts) d t h one = absurd h
built_push w (x ∷ ds) [] d t h one = absurd h
built_push w (x ∷ ds) (u ∷ ts) d t h one = (h.0, built_push w ds ts d t h.1 one)

written_front : (written one rest all : List Tree) → all ≡ written ++ (one ++ rest) → all ≡ (written ++ one) ++ rest
written_front written one rest all e = e ∙ sym (append_assoc written one rest)

nothing_behind : (xs : List Tree) → xs ++ [] ≡ xs
nothing_behind [] = refl
nothing_behind (x ∷ xs) = ap (λ z. x ∷ z) (nothing_behind xs)

-- nothing is built yet
pub some_start : (s : Scope) (w : World) (es : Exprs) → BuildsSome s w w es es []
unfolding AreBuiltFor
some_start s w es = record { done = []; is = refl; built = tt; written = []; all = refl; grows = grows_none [] w }

-- the next expression was built
pub some_more : (s : Scope) (old mid new : World) (es rest : Exprs) (e : Expr) (ts : List Term) (t : Term) → BuildsSome s old mid es (more_exprs e rest) ts → BuildsOne s mid new e t → BuildsSome s old new es rest (ts ++ t ∷ [])
unfolding tree_of written_trees
some_more s old mid new es rest e ts t some one = record {
  done = some.done ++ one.tree ∷ [];
  is = some.is ∙ ap (λ r. in_front some.done (join r (trees_of s rest))) one.is ∙ sym (in_front_more some.done one.tree (trees_of s rest));
  built = built_push new some.done ts one.tree t (all_stay mid new (growing_wider (written_trees s e) mid new one.grows) (trees some.done) ts some.built) one.built;
  written = some.written ++ written_trees s e;
  all = written_front some.written (written_trees s e) (all_trees s rest) (all_trees s es) some.all;
  grows = grows_then some.written (written_trees s e) old mid new some.grows one.grows;
}

-- all are built
pub some_all : (s : Scope) (old new : World) (es : Exprs) (ts : List Term) → BuildsSome s old new es no_exprs ts → BuildsAll s old new es ts
unfolding tree_of written_trees
some_all s old new es ts some = record {
  trees = trees some.done;
  is = some.is ∙ in_front_all some.done;
  built = some.built;
  grows = subst (λ z. GrowsBy z old new) (sym (some.all ∙ nothing_behind some.written)) some.grows;
}

-- what is wrong with the next expression is wrong first
pub some_wrong : (s : Scope) (old mid : World) (es rest : Exprs) (e : Expr) (ts : List Term) (c : Cause) → BuildsSome s old mid es (more_exprs e rest) ts → tree_of s e ≡ Err c → trees_of s es ≡ Err c
unfolding tree_of
some_wrong s old mid es rest e ts c some wrong = some.is ∙ ap (λ r. in_front some.done (join r (trees_of s rest))) wrong ∙ in_front_wrong some.done c

-- the next expression was begun
pub some_past : (s : Scope) (old mid new : World) (es rest : Exprs) (e : Expr) (ts : List Term) → BuildsSome s old mid es (more_exprs e rest) ts → GrowsPast (written_trees s e) mid new → GrowsPast (all_trees s es) old new
unfolding written_trees
some_past s old mid new es rest e ts some past =
    subst (λ z. GrowsPast z old new) (sym (written_front some.written (written_trees s e) (all_trees s rest) (all_trees s es) some.all))
    (past_among (some.written ++ written_trees s e) ((some.written ++ written_trees s e) ++ all_trees s rest) old new (among_front (some.written ++ written_trees s e) (all_trees s rest))
    (past_then some.written (written_trees s e) old mid new some.grows past))

names_front_more : (ns : Scope) (name : List ℕ) (d : Tree) (rest : Result Scope Cause) → names_in_front (ns ++ (name, d) ∷ []) rest ≡ names_in_front ns (bind name (Ok d) rest)
names_front_more [] name d rest = refl
names_front_more (n ∷ ns) name d rest = ap (bind n.0 (Ok n.1)) (names_front_more ns name d rest)

names_front_all : (ns : Scope) → names_in_front ns (Ok []) ≡ Ok ns
names_front_all [] = refl
names_front_all (n ∷ ns) = ap (bind n.0 (Ok n.1)) (names_front_all ns)

names_front_wrong : (ns : Scope) (c : Cause) → names_in_front ns (Err c) ≡ Err c
names_front_wrong [] c = refl
names_front_wrong (n ∷ ns) c = ap (bind n.0 (Ok n.1)) (names_front_wrong ns c)

-- the same for what `let` binds
pub binds_start : (s : Scope) (w : World) (bs : Binds) → BindsSome s w w bs bs []
binds_start s w bs = record { done = []; is = refl; bound = tt; written = []; all = refl; grows = grows_none [] w }

pub binds_more : (s : Scope) (old mid new : World) (bs rest : Binds) (name : List ℕ) (e : Expr) (ps : List (List ℕ × Term)) (t : Term)
    → BindsSome s old mid bs (more_binds name e rest) ps → BuildsOne s mid new e t → BindsSome s old new bs rest (ps ++ (name, t) ∷ [])
unfolding tree_of written_trees
binds_more s old mid new bs rest name e ps t some one = record {
  done = some.done ++ (name, one.tree) ∷ [];
  is = some.is ∙ ap (λ r. names_in_front some.done (bind name r (bindings_of s rest))) one.is ∙ sym (names_front_more some.done name one.tree (bindings_of s rest));
  bound = bound_push new some.done ps name one.tree t (bound_stays mid new (growing_wider (written_trees s e) mid new one.grows) some.done ps some.bound) one.built;
  written = some.written ++ written_trees s e;
  all = written_front some.written (written_trees s e) (bound_trees s rest) (bound_trees s bs) some.all;
  grows = grows_then some.written (written_trees s e) old mid new some.grows one.grows;
}

pub binds_all : (s : Scope) (old new : World) (bs : Binds) (ps : List (List ℕ × Term)) → BindsSome s old new bs no_binds ps → BindsAll s old new bs ps
unfolding tree_of written_trees
binds_all s old new bs ps some = record {
  names = some.done;
  is = some.is ∙ names_front_all some.done;
  bound = some.bound;
  grows = subst (λ z. GrowsBy z old new) (sym (some.all ∙ nothing_behind some.written)) some.grows;
}

pub binds_wrong : (s : Scope) (old mid : World) (bs rest : Binds) (name : List ℕ) (e : Expr) (ps : List (List ℕ × Term)) (c : Cause)
    → BindsSome s old mid bs (more_binds name e rest) ps → tree_of s e ≡ Err c → bindings_of s bs ≡ Err c
unfolding tree_of
binds_wrong s old mid bs rest name e ps c some wrong = some.is ∙ ap (λ r. names_in_front some.done (bind name r (bindings_of s rest))) wrong ∙ names_front_wrong some.done c

pub binds_past : (s : Scope) (old mid new : World) (bs rest : Binds) (name : List ℕ) (e : Expr) (ps : List (List ℕ × Term))
    → BindsSome s old mid bs (more_binds name e rest) ps → GrowsPast (written_trees s e) mid new → GrowsPast (bound_trees s bs) old new
unfolding written_trees
binds_past s old mid new bs rest name e ps some past =
    subst (λ z. GrowsPast z old new) (sym (written_front some.written (written_trees s e) (bound_trees s rest) (bound_trees s bs) some.all))
    (past_among (some.written ++ written_trees s e) ((some.written ++ written_trees s e) ++ bound_trees s rest) old new (among_front (some.written ++ written_trees s e) (bound_trees s rest))
    (past_then some.written (written_trees s e) old mid new some.grows past))
