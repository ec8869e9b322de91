-- The table grows by what is new.
use Rattle.std.proofs.Common.{◌≡◌, ◌∙◌, ℕ, suc, ◌+◌, ◌⊎◌, inl, inr, List, [], ◌∷◌, ◌++◌, length, Option, Some, None, refl, sym, ap, subst, arith}
use Rattle.std.specs.Prelude.{IsSome, is_some, slice_get}
use Rattle.std.specs.Option.{option_map}
use Rattle.std.proofs.lemmas.Option.{same_Some}
use Rattle.y_tree.specs.Sorts.{Sort}
use Rattle.y_tree.specs.Tree.{Op, Tree, Trees, node, count}
use Rattle.y_tree.specs.Tree as tree
use Rattle.term_shapes.specs.declared.handles.Term.{Term}
use Rattle.term_shapes.specs.declared.shapes.Node.{Node}
use Rattle.term_shapes.specs.Shapes.{args_of}
use Rattle.term_table.specs.World.{World, node_at, HasShape, IsTable}
use Rattle.term_table.proofs.Adding.{adds_here}
use Rattle.term_orders.specs.Orders.{IsArgument, IsBelow}
use Rattle.term_orders.specs.Orders.IsBelow.{itself, argument}
use Rattle.term_orders.proofs.Arguments.{below_live}
use Rattle.term_sketches.specs.declared.items.Operator.{Operator}
use Rattle.term_sketches.specs.declared.items.Operator.TheVariants as operator
use Rattle.term_sketches.specs.Sketches.{sketch_of, operator_of}
use Rattle.term_sketches.specs.Valuing.{are_truths}
use Rattle.term_build.specs.Building.{AddsAtMost, no_more, one_more, IsMade, IsBuilt, IsAmong}
use Rattle.term_build.proofs.Growing.{IsWider, wider, live_stays, shape_stays, at_most_more, then_more}
use Rattle.expression_terms.specs.Standing.{IsMadeOf, IsBuiltFor, AreBuiltFor}
use Rattle.expression_terms.specs.Fresh.{IsThere, needs, AreAmong, GrowsBy}
use Rattle.expression_terms.proofs.One.{one_built}
use Rattle.expression_terms.proofs.Stays.{literals_same, all_sorts_stay, all_stay, built_grows}
use Rattle.expression_terms.proofs.Live.{built_live}
use Rattle.expression_terms.proofs.Counting.{needs_append, among_append, among_left, among_right, different_append}

-- what a term has below it in a later table it had before
module _ (old new : World) (table : IsTable old) (m : IsWider old new) where
  argument_before : (u t : Term) → IsArgument new u t → (o : Option Node) → node_at old t ≡ o → IsSome o → IsArgument old u t
  argument_before u t a None e live = absurd (cc live)
  argument_before u t a (Some x) e live =
      let has : HasShape old t x.shape = ap (option_map (λ (n : Node). n.shape)) e in
      let same : x.shape ≡ a.form = same_Some x.shape a.form (sym (shape_stays old new m t x.shape has) ∙ a.has) in
      record { form = x.shape; has = has; place = a.place; at = ap (λ z. slice_get (args_of z) a.place) same ∙ a.at }

  below_before : (u t : Term) → IsBelow new u t → IsSome (node_at old t) → IsBelow old u t
  below_before u t itself live = itself
  below_before u t (argument v r b a) live =
      let before : IsArgument old v r = argument_before v r a (node_at old r) refl live in
      argument v r (below_before u v b (below_live old table v r (argument v r itself before) live)) before

-- a table with nothing new is the old one
nothing_new : (n : ℕ) (old new : World) → AddsAtMost n old new → ((u : Term) → IsSome (node_at new u) → node_at old u ≡ None → ⊥) → new ≡ old
nothing_new n old new (no_more m w) none_new = refl
nothing_new n old new (one_more m a b c t x adds rest) none_new =
    absurd (none_new t (live_stays b c (wider m b c rest) t (ap is_some (adds_here a.terms b.terms t.slot t.stamp x adds.added))) (adds.added.empty t.stamp))

-- nothing is new where the answer is not, and all that is new is below it
pub same_table : (n : ℕ) (old new : World) → IsTable old → AddsAtMost n old new → (t : Term) → ((u : Term) → IsSome (node_at new u) → node_at old u ≡ None → IsBelow new u t) → IsSome (node_at old t) → new ≡ old
same_table n old new table adds t below live = nothing_new n old new adds (λ u there dead. by u (below u there dead) dead)
  where
    by : (u : Term) → IsBelow new u t → node_at old u ≡ None → ⊥
    by u b dead = absurd (cc (sym (ap is_some dead) ∙ below_live old table u t (below_before old new table (wider n old new adds) u t b live) live))

-- what the constructor of an operator makes of terms that were built for trees is built for the operator over the trees
pub built_over : (w : World) (o : Operator) (ds : Trees) (ts : List Term) (t : Term) → AreBuiltFor w ds ts → IsMadeOf w (operator_of o) ts t → IsBuiltFor w (node (operator_of o) ds) t
unfolding IsBuiltFor
built_over w operator.Not ds ts t are made = (ts, are, made)
built_over w operator.And ds ts t are made = (ts, are, made)
built_over w operator.Or ds ts t are made = (ts, are, made)
built_over w operator.Xor ds ts t are made = (ts, are, made)
built_over w operator.Implies ds ts t are made = (ts, are, made)
built_over w operator.Iff ds ts t are made = (ts, are, made)
built_over w operator.Ite ds ts t are made = (ts, are, made)
built_over w operator.Eq ds ts t are made = (ts, are, made)
built_over w operator.Neq ds ts t are made = (ts, are, made)
built_over w operator.Distinct ds ts t are made = (ts, are, made)

-- a constructor's answer over such terms is built for the tree
pub call_builds : (n : ℕ) (old new : World) → AddsAtMost n old new → (o : Operator) (ds : Trees) (ts : List Term) (t : Term) → IsBuilt old new o ts t → AreBuiltFor old ds ts → IsBuiltFor new (node (operator_of o) ds) t
call_builds n old new adds o ds ts t built are =
    let m : IsWider old new = wider n old new adds in
    let ks : List Sort = built.fit.sorts in
    let made : IsMadeOf new (operator_of o) ts t = record {
      constructor = o;
      is = refl;
      sorts = ks;
      have = all_sorts_stay old new m ts ks built.fit.have;
      made = subst (λ ls. IsMade new t (sketch_of o (are_truths ks) ls)) (literals_same old new m ts ks built.fit.have) (built.made ks built.fit.have);
    } in
    built_over new o ds ts t (all_stay old new m ds ts are) made

-- nothing was added
pub grows_none : (ts : List Tree) (w : World) → GrowsBy ts w w
grows_none ts w = record {
  trees = [];
  adds = no_more 0 w;
  fresh = record { once = tt; built = λ d h. absurd h; unbuilt = λ d h g. h };
  listed = λ d h. absurd h;
}

-- among more trees
pub grows_among : (ts us : List Tree) (old new : World) → AreAmong ts us → GrowsBy ts old new → GrowsBy us old new
grows_among ts us old new more g = record { trees = g.trees; adds = g.adds; fresh = g.fresh; listed = λ d h. more d (g.listed d h) }

-- some trees, and then more
pub grows_then : (ts us : List Tree) (old mid new : World) → GrowsBy ts old mid → GrowsBy us mid new → GrowsBy (ts ++ us) old new
grows_then ts us old mid new one two = record {
  trees = one.trees ++ two.trees;
  adds = then_more (needs one.trees) (needs two.trees) (needs (one.trees ++ two.trees)) old mid new one.adds two.adds (omega (arith, needs_append one.trees two.trees));
  fresh = record {
    once = different_append one.trees two.trees one.fresh.once two.fresh.once (λ d h g. two.fresh.unbuilt d g (one.fresh.built d h));
    built = λ d h. there d (among_append d one.trees two.trees h);
    unbuilt = λ d h was. gone d was (among_append d one.trees two.trees h);
  };
  listed = λ d h. placed d (among_append d one.trees two.trees h);
}
  where
    there : (d : Tree) → IsAmong d one.trees ⊎ IsAmong d two.trees → IsThere new d
    there d (inl h) = let b = one.fresh.built d h in (b.0, built_grows (needs two.trees) mid new two.adds d b.0 b.1)
    there d (inr h) = two.fresh.built d h

    gone : (d : Tree) → IsThere old d → IsAmong d one.trees ⊎ IsAmong d two.trees → ⊥
    gone d was (inl h) = one.fresh.unbuilt d h was
    gone d was (inr h) = two.fresh.unbuilt d h (was.0, built_grows (needs one.trees) old mid one.adds d was.0 was.1)

    placed : (d : Tree) → IsAmong d one.trees ⊎ IsAmong d two.trees → IsAmong d (ts ++ us)
    placed d (inl h) = among_left d ts us (one.listed d h)
    placed d (inr h) = among_right d ts us (two.listed d h)

pub built_count : (w : World) (ds : Trees) (ts : List Term) → AreBuiltFor w ds ts → count ds ≡ length ts
unfolding IsBuiltFor
built_count w tree.none [] h = refl
built_count w tree.none (t ∷ ts) h = absurd h
built_count w (tree.more d ds) [] h = absurd h
built_count w (tree.more d ds) (t ∷ ts) h = ap suc (built_count w ds ts h.1)

-- one call of a constructor over terms that were built for trees
module _ (old new : World) (table : IsTable old) (after : IsTable new) (o : Operator) (ds : Trees) (ts : List Term) (t : Term) (built : IsBuilt old new o ts t) (adds : AddsAtMost (4 + length ts) old new)
    (below : (u : Term) → IsSome (node_at new u) → node_at old u ≡ None → IsBelow new u t) (are : AreBuiltFor old ds ts) where
  abbrev whole : Tree
  whole = node (operator_of o) ds

  here : IsBuiltFor new whole t
  here = call_builds (4 + length ts) old new adds o ds ts t built are

  was_live : (u : Term) → IsBuiltFor old whole u → u ≡ t
  was_live u h = one_built new after whole u t (built_grows (4 + length ts) old new adds whole u h) here

  -- the tree was not built for before where the answer is new
  new_call : node_at old t ≡ None → GrowsBy (whole ∷ []) old new
  new_call dead = record {
    trees = whole ∷ [];
    adds = at_most_more (4 + length ts) (needs (whole ∷ [])) old new (omega (arith, built_count old ds ts are)) adds;
    fresh = record {
      once = (λ h. h, tt);
      built = λ d h. this d h;
      unbuilt = λ d h was. gone d h was;
    };
    listed = λ d h. h;
  }
    where
      this : (d : Tree) → IsAmong d (whole ∷ []) → IsThere new d
      this d (inl e) = (t, subst (λ z. IsBuiltFor new z t) (sym e) here)
      this d (inr h) = absurd h

      lived : (u : Term) → IsBuiltFor old whole u → ⊥
      lived u h = absurd (cc (sym (ap is_some dead) ∙ subst (λ z. IsSome (node_at old z)) (was_live u h) (built_live old whole u h)))

      gone : (d : Tree) → IsAmong d (whole ∷ []) → IsThere old d → ⊥
      gone d (inl e) was = lived was.0 (subst (λ z. IsBuiltFor old z was.0) e was.1)
      gone d (inr h) was = absurd h

  -- the call adds for the tree where it is fresh, and nothing where it was built for before
  pub call_grows : GrowsBy (whole ∷ []) old new
  call_grows = by (node_at old t) refl
    where
      by : (x : Option Node) → node_at old t ≡ x → GrowsBy (whole ∷ []) old new
      by None e = new_call e
      by (Some x) e = subst (GrowsBy (whole ∷ []) old) (sym (same_table (4 + length ts) old new table adds t below (ap is_some e))) (grows_none (whole ∷ []) old)

  -- so a tree that was built for before costs nothing
  pub call_again : IsThere old whole → new ≡ old
  call_again was = same_table (4 + length ts) old new table adds t below (subst (λ z. IsSome (node_at old z)) (was_live was.0 was.1) (built_live old whole was.0 was.1))
