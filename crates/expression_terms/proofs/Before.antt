-- The arguments of an update, and its value behind them.
use Rattle.std.proofs.Common.{◌≡◌, ◌∙◌, Result, Ok, Err, refl, ap}
use Rattle.y_tree.specs.Tree.{Tree, Trees}
use Rattle.y_tree.specs.Tree as tree
use Rattle.yices_grammar.specs.Commands.{Exprs, no_exprs, more_exprs}
use Rattle.expression_terms.specs.Trees.{Scope, Cause, join, tree_of, trees_of, trees_before}

join_wrong : (t : Result Tree Cause) (r q : Result Trees Cause) → ((c : Cause) → r ≡ Err c → q ≡ Err c) → (c : Cause) → join t r ≡ Err c → join t q ≡ Err c
join_wrong (Err x) r q up c h = h
join_wrong (Ok d) (Err y) q up c h = ap (join (Ok d)) (up y refl) ∙ h
join_wrong (Ok d) (Ok ds) q up c h = absurd (cc h)

join_last : (t : Result Tree Cause) (r q : Result Trees Cause) (c : Cause) → ((ds : Trees) → r ≡ Ok ds → q ≡ Err c) → (ds : Trees) → join t r ≡ Ok ds → join t q ≡ Err c
join_last (Err x) r q c up ds h = absurd (cc h)
join_last (Ok d) (Err y) q c up ds h = absurd (cc h)
join_last (Ok d) (Ok es) q c up ds h = ap (join (Ok d)) (up es refl)

join_there : (t : Result Tree Cause) (r q : Result Trees Cause) → ((ds : Trees) → r ≡ Ok ds → (rs : Trees) × (q ≡ Ok rs)) → (ds : Trees) → join t r ≡ Ok ds → (rs : Trees) × (join t q ≡ Ok rs)
join_there (Err x) r q up ds h = absurd (cc h)
join_there (Ok d) (Err y) q up ds h = absurd (cc h)
join_there (Ok d) (Ok es) q up ds h = let p = up es refl in (tree.more d p.0, ap (join (Ok d)) p.1)

-- what is wrong with the arguments is wrong before the value
pub before_wrong : (s : Scope) (es : Exprs) (last : Result Tree Cause) (c : Cause) → trees_of s es ≡ Err c → trees_before s es last ≡ Err c
unfolding tree_of
before_wrong s no_exprs last c h = absurd (cc h)
before_wrong s (more_exprs e es) last c h = join_wrong (tree_of s e) (trees_of s es) (trees_before s es last) (λ x g. before_wrong s es last x g) c h

-- then what is wrong with the value
pub last_wrong : (s : Scope) (es : Exprs) (ds : Trees) (last : Result Tree Cause) (c : Cause) → trees_of s es ≡ Ok ds → last ≡ Err c → trees_before s es last ≡ Err c
unfolding tree_of
last_wrong s no_exprs ds last c h g = ap (λ r. join r (Ok tree.none)) g
last_wrong s (more_exprs e es) ds last c h g = join_last (tree_of s e) (trees_of s es) (trees_before s es last) c (λ x f. last_wrong s es x last c f g) ds h

-- and where nothing is, all trees are there
pub before_there : (s : Scope) (es : Exprs) (ds : Trees) (last : Result Tree Cause) (d : Tree) → trees_of s es ≡ Ok ds → last ≡ Ok d → (rs : Trees) × (trees_before s es last ≡ Ok rs)
unfolding tree_of
before_there s no_exprs ds last d h g = (tree.more d tree.none, ap (λ r. join r (Ok tree.none)) g)
before_there s (more_exprs e es) ds last d h g = join_there (tree_of s e) (trees_of s es) (trees_before s es last) (λ x f. before_there s es x last d f g) ds h
