-- What was said of live terms stays while terms are built.
use Rattle.std.proofs.Common.{◌≡◌, ◌∙◌, ℕ, ◌+◌, ◌≤◌, ◌⊎◌, inl, inr, Option, Some, None, refl, sym, ap, arith}
use Rattle.std.specs.Prelude.{IsSome, slice_get, is_some}
use Rattle.std.proofs.lemmas.Bool.{cases_eq}
use Rattle.stamped_slots.specs.Slots.{held_at, held_under, live}
use Rattle.term_shapes.specs.declared.handles.Term.{Term}
use Rattle.term_shapes.specs.declared.shapes.Node.{Node}
use Rattle.term_table.specs.World.{World, node_at, IsAfter}
use Rattle.term_table.specs.Changes.{AddsNode, count_at, count_under}
use Rattle.term_table.proofs.Lasting.{adding_after}
use Rattle.term_build.specs.Building.{AddsAtMost, no_more, one_more}
use Rattle.term_build.specs.Lasting.{LastsWith}
use Rattle.term_build.proofs.Growing.{wider, node_wider, live_stays, shape_stays, sort_stays, tree_stays}

module _ (old new : World) (t : Term) (x : Node) (adds : AddsNode old new t x) where
  same_count : (u : Term) → (u.slot ≡ t.slot → ⊥) → count_at new u ≡ count_at old u
  same_count u d = ap count_under (adds.added.other u.slot d)

  not_there : (u : Term) → u.slot ≡ t.slot → node_at old u ≡ None
  not_there u e = ap (λ i. held_at old.terms i u.stamp) e ∙ adds.added.empty u.stamp

  kept_by : (u : Term) → IsSome (node_at old u) → (u.slot ≡ t.slot) ⊎ (u.slot ≡ t.slot → ⊥) → count_at new u ≡ count_at old u
  kept_by u h (inl e) = absurd (cc (sym (ap is_some (not_there u e)) ∙ h))
  kept_by u h (inr d) = same_count u d

  count_kept : (u : Term) → IsSome (node_at old u) → count_at new u ≡ count_at old u
  count_kept u h = kept_by u h (cases_eq u.slot t.slot)

  none_by : (u : Term) → node_at old u ≡ None → IsSome (node_at new u) → (u.slot ≡ t.slot) ⊎ (u.slot ≡ t.slot → ⊥) → count_at new u ≡ 0
  none_by u h s (inl e) = ap (λ i. count_under (slice_get new.terms i)) e ∙ ap count_under adds.added.here
  none_by u h s (inr d) = absurd (cc (sym (ap is_some (unchanged u d ∙ h)) ∙ s))
    where
      unchanged : (v : Term) → (v.slot ≡ t.slot → ⊥) → node_at new v ≡ node_at old v
      unchanged v f = ap (held_under v.stamp) (adds.added.other v.slot f)

  none_counted : (u : Term) → node_at old u ≡ None → IsSome (node_at new u) → count_at new u ≡ 0
  none_counted u h s = none_by u h s (cases_eq u.slot t.slot)

counts_kept : (n : ℕ) (old new : World) → AddsAtMost n old new → (u : Term) → IsSome (node_at old u) → count_at new u ≡ count_at old u
counts_kept n old new (no_more m w) u h = refl
counts_kept n old new (one_more m a b c t x adds rest) u h = counts_kept m b c rest u (live_stays a b (node_wider a b t x adds) u h) ∙ count_kept a b t x adds u h

counts_none : (n : ℕ) (old new : World) → AddsAtMost n old new → (u : Term) → node_at old u ≡ None → IsSome (node_at new u) → count_at new u ≡ 0
counts_none n old new (no_more m w) u h s = absurd (cc (sym (ap is_some h) ∙ s))
counts_none n old new (one_more m a b c t x adds rest) u h s = by (node_at b u) refl (λ e. counts_none m b c rest u e s)
  where
    by : (o : Option Node) → node_at b u ≡ o → (node_at b u ≡ None → count_at c u ≡ 0) → count_at c u ≡ 0
    by None e f = f e
    by (Some y) e f = counts_kept m b c rest u (ap is_some e) ∙ none_counted a b t x adds u h (ap is_some e)

rest_kept : (n : ℕ) (old new : World) → AddsAtMost n old new → new ≡ record old { terms = new.terms }
rest_kept n old new (no_more m w) = refl
rest_kept n old new (one_more m a b c t x adds rest) = rest_kept m b c rest ∙ ap (λ (w : World). record w { terms = c.terms }) adds.rest

none_freed : (n : ℕ) (old new : World) → AddsAtMost n old new → IsAfter old new
none_freed n old new (no_more m w) = record { terms = λ i. omega arith; types = λ i. omega arith }
none_freed n old new (one_more m a b c t x adds rest) =
    let p : IsAfter a b = adding_after a b t x (inr adds) in
    let q : IsAfter b c = none_freed m b c rest in
    record { terms = λ i. omega (arith, p.terms i, q.terms i); types = λ i. omega (arith, p.types i, q.types i) }

few_added : (n : ℕ) (old new : World) → AddsAtMost n old new → live new.terms ≤ live old.terms + n
few_added n old new (no_more m w) = omega arith
few_added n old new (one_more m a b c t x adds rest) = omega (arith, few_added m b c rest, adds.added.live)

pub building_lasts : (n : ℕ) (old new : World) → AddsAtMost n old new → LastsWith n old new
building_lasts n old new adds =
    let m = wider n old new adds in
    record {
      nodes = m.nodes;
      shapes = shape_stays old new m;
      sorts = sort_stays old new m;
      trees = λ t a h. tree_stays old new m a t h;
      counts = counts_kept n old new adds;
      uncounted = counts_none n old new adds;
      rest = rest_kept n old new adds;
      after = none_freed n old new adds;
      few = few_added n old new adds;
    }
