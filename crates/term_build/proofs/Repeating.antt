-- A call that was answered before changes nothing.
use Rattle.std.proofs.Common.{◌≡◌, ◌∙◌, ℕ, map, Some, None, refl, sym, ap, subst}
use Rattle.std.specs.Prelude.{IsSome, is_some}
use Rattle.std.specs.Option.{option_map}
use Rattle.std.proofs.lemmas.Option.{same_Some}
use Rattle.y_tree.specs.Tree.{Tree}
use Rattle.y_tree.specs.Laws.{SameSortIsEqual}
use Rattle.term_shapes.specs.declared.handles.Term.{Term}
use Rattle.term_shapes.specs.declared.shapes.Node.{Node}
use Rattle.term_table.specs.World.{World, node_at, HasShape, Keeps, IsTable}
use Rattle.term_table.proofs.Adding.{adds_here}
use Rattle.term_orders.specs.Orders.{IsArgument, IsBelow}
use Rattle.term_orders.specs.Orders.IsBelow.{itself, argument}
use Rattle.term_orders.proofs.Arguments.{some_is, argument_live}
use Rattle.term_sketches.specs.Sketches.{sketch_of}
use Rattle.term_sketches.specs.Valuing.{SketchesAreMadeOf, are_truths}
use Rattle.term_build.specs.Building.{AddsAtMost, no_more, one_more, literal_at}
use Rattle.term_build.specs.Lasting.{AddsNothingAgain, AddsNothingWhereLive, AddsNothingInBuilding}
use Rattle.term_build.proofs.Growing.{IsWider, wider, shape_stays, live_stays, tree_stays, shape_lives}
use Rattle.term_build.proofs.Standing.{sketch_tree}
use Rattle.term_build.proofs.Called.{tree_at}
use Rattle.term_build.proofs.Below.{live_and_dead}
use Rattle.term_build.proofs.Once.{shape_there, wider_unchanged, answer_keeps, answers_again}

-- a table in which no term is new is the old one
unadded : (n : ℕ) (old new : World) → AddsAtMost n old new → ((u : Term) → IsSome (node_at new u) → node_at old u ≡ None → ⊥) → new ≡ old
unadded n old new (no_more m w) h = refl
unadded n old new (one_more m a b c t x adds rest) h =
    absurd (h t (live_stays b c (wider m b c rest) t (ap is_some (adds_here a.terms b.terms t.slot t.stamp x adds.added))) (adds.added.empty t.stamp))

-- what is below a term that was live was live
module _ (old new : World) (table : IsTable old) (m : IsWider old new) where
  argument_before : (v t : Term) → IsSome (node_at old t) → IsArgument new v t → IsArgument old v t
  argument_before v t live a =
      let x = some_is (node_at old t) live in
      let had : HasShape old t x.0.shape = ap (option_map (λ (n : Node). n.shape)) x.1 in
      let e : x.0.shape ≡ a.form = same_Some x.0.shape a.form (sym (shape_stays old new m t x.0.shape had) ∙ a.has) in
      record { form = a.form; has = had ∙ ap Some e; place = a.place; at = a.at }

  below_before : (u t : Term) → IsSome (node_at old t) → IsBelow new u t → IsSome (node_at old u)
  below_before u t live itself = live
  below_before u t live (argument v r b a) = below_before u v (argument_live old table t v (argument_before v t live a)) b

tree_lives : (w : World) (t : Term) (a : Tree) → Keeps w t a → IsSome (node_at w t)
tree_lives w t a h = let s = shape_there w t a h in shape_lives w t s.0 s.1

pub adds_nothing : SameSortIsEqual → SketchesAreMadeOf → AddsNothingAgain
adds_nothing law made a b c d o ts t u on onto p q new same tree before there =
    let m = wider onto.bound c d onto.adds in
    let e : t ≡ u = answers_again law made a b c d o ts t u on onto p q same tree before (tree_stays c d m tree t there) in
    let no_new : (v : Term) → IsSome (node_at d v) → node_at c v ≡ None → ⊥ = λ v live dead.
    live_and_dead c v (below_before c d onto.before m v t (tree_lives c t tree there) (subst (IsBelow d v) (sym e) (new.each v live dead))) dead in
    (e, unadded onto.bound c d onto.adds no_new)

pub nothing_where_live : SameSortIsEqual → SketchesAreMadeOf → AddsNothingWhereLive
nothing_where_live law made a b c d o ts t u on stays onto p q new =
    let m = wider on.bound a b on.adds in
    let n : IsWider b c = record { nodes = stays.terms; types = stays.types } in
    let ac : IsWider a c = record { nodes = λ v x h. n.nodes v x (m.nodes v x h); types = λ v s h. n.types v s (m.types v s h) } in
    let tree : Tree = sketch_tree (tree_at a on.before) (sketch_of o (are_truths p.fit.sorts) (map (literal_at a) ts)) in
    let earlier : Keeps b t tree = answer_keeps law made a b on o ts t p.fit.sorts p.fit.have (p.made p.fit.sorts p.fit.have) in
    adds_nothing law made a b c d o ts t u on onto p q new (wider_unchanged a c on.before ac law ts p.fit.sorts p.fit.have) tree earlier (tree_stays b c n tree t earlier)

pub nothing_in_building : SameSortIsEqual → SketchesAreMadeOf → AddsNothingInBuilding
nothing_in_building law made a b c d o ts t u on between onto p q new =
    let n = wider between.bound b c between.adds in
    nothing_where_live law made a b c d o ts t u on (record { terms = n.nodes; types = n.types }) onto p q new
