-- A constructor with the same live arguments replies the same handle, while that handle is live.
use Rattle.std.proofs.Common.{◌≡◌, ◌∙◌, ◌+◌, ◌∷◌, [], ◌⊎◌, ℕ, zero, suc, length, List, Option, Some, None, is_some, refl, sym, ap, subst, inl, inr, ⊎_elim}
use Rattle.std.specs.Prelude.{slice_get, IsSome}
use Rattle.std.specs.Option.{option_map}
use Rattle.std.proofs.lemmas.Option.{same_Some}
use Rattle.y_tree.specs.Sorts.{Sort}
use Rattle.y_tree.specs.Tree.{Tree, Trees, none, more}
use Rattle.term_shapes.specs.declared.handles.Term.{Term}
use Rattle.term_shapes.specs.declared.shapes.Node.{Node}
use Rattle.term_table.specs.World.{World, node_at, shape_at, HasNode, Keeps, KeepsAll, IsTable, IsFreedTerm}
use Rattle.term_table.specs.Checking.{AreLive, HaveSorts}
use Rattle.term_table.proofs.Lasting.{freed_dead}
use Rattle.term_sketches.specs.declared.items.Operator.{Operator}
use Rattle.term_build.specs.Building.{AddsAtMost, IsBuilt}
use Rattle.term_build.specs.Lasting.{AnswersAgain, AreUnchanged, IsBuiltOn, IsUnchanged}
use Rattle.yices_api.specs.declared.calls.Call.{Call}
use Rattle.yices_api.specs.declared.replies.Reply.{Reply}
use Rattle.yices_api.specs.declared.replies.Reply.TheVariants as reply
use Rattle.yices_api.specs.State.{State}
use Rattle.yices_api.specs.Calls.{made_by}
use Rattle.yices_api.specs.Steps.{Does, DoesBy, Api}
use Rattle.yices_api.specs.Runs.{IsWorld, Lasts, Reaches, Runs}
use Rattle.yices_api.proofs.Lasting.{NodesLast, step_moves, runs_move, nodes_on, lasts_on}
use Rattle.yices_api.proofs.Staying.{sort_live}
use Rattle.yices_api.proofs.Tables.{node_live, most_extend}

-- a live term was not freed
not_freed : (w : World) (t : Term) → IsSome (node_at w t) → IsFreedTerm w t → ⊥
not_freed w t live freed = cc (sym live ∙ ap is_some (freed_dead w.terms t.slot t.stamp freed))

-- terms with sorts are live
sorted_live : (w : World) (ts : List Term) (ks : List Sort) → HaveSorts w ts ks → AreLive w ts
sorted_live w [] ks h i t at = absurd (cc at)
sorted_live w (u ∷ ts) [] h i t at = absurd h
sorted_live w (u ∷ ts) (k ∷ ks) h zero t at = subst (λ (z : Term). IsSome (node_at w z)) (same_Some u t at) (sort_live w u k h.0)
sorted_live w (u ∷ ts) (k ∷ ks) h (suc i) t at = sorted_live w ts ks h.1 i t at

-- what a live term stands for
tree_of : (w : World) → IsTable w → (t : Term) → IsSome (node_at w t) → (n : Node) × (a : Tree) × HasNode w t n × Keeps w t a
tree_of w table t = by (node_at w t) refl
  where
    by : (o : Option Node) → node_at w t ≡ o → IsSome o → (n : Node) × (a : Tree) × HasNode w t n × Keeps w t a
    by None e h = absurd (cc h)
    by (Some n) e h = let g = table.grounded t n e in (n, g.0, e, g.2)

trees_of : (w : World) → IsTable w → (ts : List Term) → AreLive w ts → (trees : Trees) × KeepsAll w ts trees
unfolding KeepsAll
trees_of w table [] live = (none, tt)
trees_of w table (t ∷ ts) live =
    let r = tree_of w table t (live 0 t refl) in
    let rest = trees_of w table ts (λ i. live (suc i)) in
    (more r.1 rest.0, (r.3, rest.1))

-- what is live at both ends is unchanged
tree_stays : (old new : World) → Lasts old new → (t : Term) (a : Tree) → IsSome (node_at new t) → Keeps old t a → Keeps new t a
tree_stays old new lasts t a live h = ⊎_elim (λ kept. kept) (λ freed. absurd (not_freed new t live freed)) (lasts.terms t a h)

module _ (old new : World) (table : IsTable old) (nodes : NodesLast old new) (lasts : Lasts old new) where
  unchanged : (t : Term) → IsSome (node_at old t) → IsSome (node_at new t) → IsUnchanged old new t
  unchanged t was live =
      let r = tree_of old table t was in
      let now : HasNode new t r.0 = ⊎_elim (λ kept. kept) (λ freed. absurd (not_freed new t live freed)) (nodes t r.0 r.2) in
      record {
        shape = ap (option_map (λ (n : Node). n.shape)) (r.2 ∙ sym now);
        tree = r.1;
        before = r.3;
        after = tree_stays old new lasts t r.1 live r.3;
      }

  all_unchanged : (ts : List Term) → AreLive old ts → AreLive new ts → AreUnchanged old new ts
  all_unchanged [] was live = tt
  all_unchanged (t ∷ ts) was live = (unchanged t (was 0 t refl) (live 0 t refl), all_unchanged ts (λ i. was (suc i)) (λ i. live (suc i)))

-- a call that replies a term wasn't refused
does_reply : (old new : State) (c : Call) (t : Term) → Api old c (reply.Term t) new → Does c old (reply.Term t) new
does_reply old new c t (inl refuses) = absurd (cc refuses.told)
does_reply old new c t (inr (live, does)) = does

-- what always holds, at the end of a list of calls
runs_world : (cs : List Call) (rs : List Reply) (first last : State) → IsWorld first → Runs first cs rs last → IsWorld last
runs_world [] [] first last world e = subst IsWorld (sym e) world
runs_world [] (r ∷ rs) first last world h = absurd h
runs_world (c ∷ cs) [] first last world h = absurd h
runs_world (c ∷ cs) (r ∷ rs) first last world (mid, reaches, runs) = runs_world cs rs mid last reaches.world runs

pub same_handle : AnswersAgain → (first mid last end : State) (c : Call) (cs : List Call) (rs : List Reply) (t u : Term) → IsWorld first → IsSome (made_by c) → Reaches first c (reply.Term t) mid → Runs mid cs rs last → IsSome (node_at last.table t) → Reaches last c (reply.Term u) end → u ≡ t
same_handle law first mid last end c cs rs t u world is one runs live two =
    by (made_by c) is (does_reply first mid c t one.step) (does_reply last end c u two.step)
  where
    by : (o : Option (Operator × List Term)) → IsSome o → DoesBy o c first (reply.Term t) mid → DoesBy o c last (reply.Term u) end → u ≡ t
    by None h d e = absurd (cc h)
    by (Some p) h d e =
        let begins = step_moves first mid c (reply.Term t) one.step in
        let goes_on = runs_move cs rs mid last runs in
        let ends = step_moves last end c (reply.Term u) two.step in
        let bound : ℕ = 4 + length p.1 in
        let later = runs_world cs rs mid last one.world runs in
        let there = node_live last.table end.table (most_extend bound last.table end.table e.1.terms) t live in
        let were = sorted_live first.table p.1 d.0.fit.sorts d.0.fit.have in
        let are = sorted_live last.table p.1 e.0.fit.sorts e.0.fit.have in
        let trees = trees_of first.table world.table p.1 were in
        let made = d.0.means trees.0 trees.1 in
        sym (law first.table mid.table last.table end.table p.0 p.1 t u
        (record { bound = bound; adds = d.1.terms; before = world.table; after = one.world.table })
        (record { bound = bound; adds = e.1.terms; before = later.table; after = two.world.table })
        d.0 e.0
        (all_unchanged first.table last.table world.table
        (nodes_on first.table mid.table last.table begins.nodes goes_on.nodes goes_on.lasts.after)
        (lasts_on first.table mid.table last.table begins.lasts goes_on.lasts)
        p.1 were are)
        made.tree made.kept
        (tree_stays mid.table end.table (lasts_on mid.table last.table end.table goes_on.lasts ends.lasts) t made.tree there made.kept))
