-- What a table grows by for fresh trees is allowed for the distinct subtrees of what is written.
use Rattle.std.proofs.Common.{◌≤◌, ◌⊎◌, inl, inr, List, [], ◌∷◌, ◌++◌, sym, subst, arith}
use Rattle.y_tree.specs.Tree.{Tree}
use Rattle.term_table.specs.World.{World}
use Rattle.term_build.specs.Building.{AddsAtMost, no_more, itself, IsAmong}
use Rattle.term_build.proofs.Growing.{at_most_more, then_more}
use Rattle.expression_terms.specs.Growth.{allowed, AreDifferent, AreSubtrees, GrowsFor}
use Rattle.expression_terms.specs.Fresh.{need, needs, AreAmong, GrowsBy, GrowsPast}
use Rattle.expression_terms.proofs.Counting.{needs_within, needs_allowed, among_append, among_left, among_right}
use Rattle.expression_terms.proofs.Grown.{grows_among, grows_then}

-- different trees of a list need no more than its distinct subtrees
listed_needs : (ts ds es : List Tree) → AreSubtrees es ts → AreDifferent ds → AreAmong ds ts → needs ds ≤ needs es
listed_needs ts ds es subtrees once listed = needs_within ds es once (λ d h. subtrees.every d d (listed d h) (itself d))

pub grows_enough : (ts : List Tree) (old new : World) → GrowsBy ts old new → GrowsFor ts old new
grows_enough ts old new g es subtrees =
    at_most_more (needs g.trees) (allowed es) old new (omega (arith, listed_needs ts g.trees es subtrees g.fresh.once g.listed, needs_allowed es)) g.adds

pub past_enough : (ts : List Tree) (old new : World) → GrowsPast ts old new → GrowsFor ts old new
past_enough ts old new g es subtrees =
    let a = listed_needs ts g.grows.trees es subtrees g.grows.fresh.once g.grows.listed in
    let b = listed_needs ts g.begun es subtrees g.once g.listed in
    then_more (needs g.grows.trees) (needs g.begun) (allowed es) old g.reached new g.grows.adds g.adds (omega (arith, a, b, needs_allowed es))

-- nothing was begun
pub grows_past : (ts : List Tree) (old new : World) → GrowsBy ts old new → GrowsPast ts old new
grows_past ts old new g = record { reached = new; grows = g; begun = []; once = tt; listed = λ d h. absurd h; adds = no_more 0 new }

-- a call for one of the trees was refused
pub refused_past : (ts : List Tree) (d : Tree) (old mid new : World) → GrowsBy ts old mid → IsAmong d ts → AddsAtMost (need d) mid new → GrowsPast ts old new
refused_past ts d old mid new g here adds = record {
  reached = mid;
  grows = g;
  begun = d ∷ [];
  once = (λ h. h, tt);
  listed = λ x h. only x h;
  adds = at_most_more (need d) (needs (d ∷ [])) mid new (omega arith) adds;
}
  where
    only : (x : Tree) → IsAmong x (d ∷ []) → IsAmong x ts
    only x (inl e) = subst (λ z. IsAmong z ts) (sym e) here
    only x (inr h) = absurd h

pub past_among : (ts us : List Tree) (old new : World) → AreAmong ts us → GrowsPast ts old new → GrowsPast us old new
past_among ts us old new more g = record {
  reached = g.reached;
  grows = grows_among ts us old g.reached more g.grows;
  begun = g.begun;
  once = g.once;
  listed = λ d h. more d (g.listed d h);
  adds = g.adds;
}

-- some trees, and then more, of which one was refused
pub past_then : (ts us : List Tree) (old mid new : World) → GrowsBy ts old mid → GrowsPast us mid new → GrowsPast (ts ++ us) old new
past_then ts us old mid new one two = record {
  reached = two.reached;
  grows = grows_then ts us old mid two.reached one two.grows;
  begun = two.begun;
  once = two.once;
  listed = λ d h. among_right d ts us (two.listed d h);
  adds = two.adds;
}

pub among_front : (ts us : List Tree) → AreAmong ts (ts ++ us)
among_front ts us d h = among_left d ts us h

pub among_back : (ts us : List Tree) → AreAmong us (ts ++ us)
among_back ts us d h = among_right d ts us h

pub among_swapped : (ts us : List Tree) → AreAmong (ts ++ us) (us ++ ts)
among_swapped ts us d h = by (among_append d ts us h)
  where
    by : IsAmong d ts ⊎ IsAmong d us → IsAmong d (us ++ ts)
    by (inl h) = among_right d us ts h
    by (inr h) = among_left d us ts h
