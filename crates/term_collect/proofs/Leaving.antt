-- A sweep after the marks have spread leaves exactly what is reached.
use Rattle.std.proofs.Common.{◌≡◌, ◌∙◌, ◌+◌, ◌<◌, ◌&&◌, ℕ, zero, suc, Bool, true, false, not, if◌then◌else◌, List, [], ◌∷◌, Option, Some, None, is_some, map, refl, sym, ap, subst, inl, inr, ⊎_elim, arith}
use Rattle.std.specs.Prelude.{slice_get, IsSome}
use Rattle.std.specs.Option.{option_map}
use Rattle.std.proofs.lemmas.Option.{same_Some}
use Rattle.stamped_slots.specs.Slots.{Slot, held_at, stamp_at, stamp_under, is_live, swept, freed, unmarked, IsLater}
use Rattle.stamped_slots.proofs.Lists.{map_get}
use Rattle.term_shapes.specs.declared.handles.Term.{Term}
use Rattle.term_shapes.specs.declared.handles.TypeId.{TypeId}
use Rattle.term_shapes.specs.declared.shapes.Shape.{Shape}
use Rattle.term_shapes.specs.declared.shapes.Shape.TheVariants as shape
use Rattle.term_shapes.specs.declared.shapes.TypeShape.{TypeShape}
use Rattle.term_shapes.specs.declared.shapes.Node.{Node}
use Rattle.term_shapes.specs.Shapes.{args_of, types_of, parts_of}
use Rattle.term_table.specs.declared.table.Marked.TheVariants as handle
use Rattle.term_table.specs.World.{World, node_at, type_shape_at, HasNode, HasShape, HasTypeShape, IsTable}
use Rattle.term_table.specs.Changes.{IsMarkedAt, IsMarked, IsMarkedType, AllHave, IsClosed, Sweeps, FreedCounts, count_under}
use Rattle.term_table.specs.Naming.{live_names, live_type_names}
use Rattle.term_table.proofs.Adding.{some_node}
use Rattle.term_table.proofs.Keeping.{AllIn, type_on, keeps_on}
use Rattle.term_table.proofs.Sweeping.{held_kept, held_only}
use Rattle.term_table.proofs.Lasting.{later_swept}
use Rattle.term_collect.specs.Reach.{Handle, IsLive, IsHeld, Needs, Reaches, IsReached, Leaves}
use Rattle.term_collect.specs.Reach.Reaches.{itself, needed}
use Rattle.term_collect.specs.Marking.{HasMark, SameButMarks, IsLiveHeld, Marks, Spreads}
use Rattle.term_collect.proofs.Slots.{same_count, same_stamp, same_live}
use Rattle.term_collect.proofs.Handles.{some_is, is_some_of, same_on, same_back, same_node, same_shape, same_lives, same_holds, same_needs, same_reaches, slot_lives, lives_slot, has_mark_lives}

module _ {S : Type 0} (w : List (Slot S)) (i n : ℕ) where
  swept_here : (s : Slot S) → slice_get w i ≡ Some s → slice_get (map swept w) i ≡ Some (swept s)
  swept_here s at = map_get swept w i ∙ ap (option_map swept) at

  kept_count : (c : Bool) (s : Slot S) → s.marked ≡ true → c ≡ s.marked → (if is_live s && not c then freed s else unmarked s).count ≡ s.count
  kept_count true s m e = both (is_live s)
    where
      both : (b : Bool) → (if b && not true then freed s else unmarked s).count ≡ s.count
      both true = refl
      both false = refl
  kept_count false s m e = absurd (cc (e ∙ m))

  -- a marked slot keeps its count
  pub swept_count : IsMarkedAt w i n → count_under (slice_get (map swept w) i) ≡ count_under (slice_get w i)
  swept_count (s, at, stamp, marked) =
      ap count_under (swept_here s at) ∙ kept_count s.marked s marked refl ∙ sym (ap count_under at)

  lost_stamp : (b c : Bool) (s : Slot S) → b ≡ true → c ≡ false → (if b && not c then freed s else unmarked s).stamp ≡ s.stamp + 1
  lost_stamp true false s e k = refl
  lost_stamp true true s e k = absurd (cc k)
  lost_stamp false c s e k = absurd (cc e)

  -- the handle of a live slot without a mark is freed
  pub swept_freed : IsSome (held_at w i n) → (IsMarkedAt w i n → ⊥) → n < stamp_at (map swept w) i
  swept_freed lives free = by s.0.marked refl
    where
      s : (r : Slot S) × (slice_get w i ≡ Some r) × (r.stamp ≡ n) × (is_live r ≡ true)
      s = slot_lives w i n lives

      by : (b : Bool) → s.0.marked ≡ b → n < stamp_at (map swept w) i
      by true e = absurd (free (s.0, s.1, s.2, e))
      by false e =
          omega (arith, ap stamp_under (swept_here s.0 s.1), lost_stamp (is_live s.0) s.0.marked s.0 s.3 e, s.2)

all_have : {X : Type 0} (P : X → Type 0) (xs : List X) → ((i : ℕ) (x : X) → slice_get xs i ≡ Some x → P x) → AllHave P xs
all_have P [] h = tt
all_have P (x ∷ xs) h = (h 0 x refl, all_have P xs (λ i. h (suc i)))

every_in : {X : Type 0} (P : X → Type 0) (xs : List X) → ((i : ℕ) (x : X) → slice_get xs i ≡ Some x → P x) → AllIn P xs
every_in P [] h = tt
every_in P (x ∷ xs) h = (h 0 x refl, every_in P xs (λ i. h (suc i)))

-- what a handle needs, by its place
term_needs : (w : World) (t u : Term) (n : Node) (i : ℕ) → HasNode w t n → slice_get (args_of n.shape) i ≡ Some u → Needs w (handle.Term t) (handle.Term u)
term_needs w t u n i has at = (n, has, inl (i, (u, at, refl)))

name_needs : (w : World) (t : Term) (u : TypeId) (n : Node) (i : ℕ) → HasNode w t n → slice_get (types_of n.shape) i ≡ Some u → Needs w (handle.Term t) (handle.TypeId u)
name_needs w t u n i has at = (n, has, inr (suc i, (u, at, refl)))

own_needs : (w : World) (t : Term) (n : Node) → HasNode w t n → Needs w (handle.Term t) (handle.TypeId n.of)
own_needs w t n has = (n, has, inr (0, (n.of, refl, refl)))

part_needs : (w : World) (t u : TypeId) (s : TypeShape) (i : ℕ) → HasTypeShape w t s → slice_get (parts_of s) i ≡ Some u → Needs w (handle.TypeId t) (handle.TypeId u)
part_needs w t u s i has at = (s, has, (i, (u, at, refl)))

-- the permanent handles are live
module _ (w : World) (table : IsTable w) where
  permanent_term : (i : ℕ) → i < 2 → IsSome (node_at w (record { slot = i; stamp = 0 }))
  permanent_term zero low =
      let n = some_node (node_at w (record { slot = 0; stamp = 0 })) shape.True table.permanents.truth in
      is_some_of (node_at w _) n.0 n.1
  permanent_term (suc zero) low =
      let n = some_node (node_at w (record { slot = 1; stamp = 0 })) shape.False table.permanents.falsity in
      is_some_of (node_at w _) n.0 n.1
  permanent_term (suc (suc i)) low = absurd (omega arith)

  permanent_type : (i : ℕ) → i < 130 → IsSome (type_shape_at w (record { slot = i; stamp = 0 }))
  permanent_type zero low = is_some_of _ _ table.permanents.bool
  permanent_type (suc zero) low = is_some_of _ _ table.permanents.real
  permanent_type (suc (suc i)) low =
      let live : IsSome (type_shape_at w (record { slot = (i + 1) + 1; stamp = 0 })) = is_some_of _ _ (table.permanents.vectors (i + 1) (omega arith) (omega arith)) in
      subst (λ k. IsSome (type_shape_at w (record { slot = k; stamp = 0 }))) (omega arith) live

-- the first table, the one with the roots marked, and the one where the marks have spread
module _ (first rooted marked : World) (marks : Marks first rooted (IsLiveHeld first)) (spreads : Spreads rooted marked) (table : IsTable marked) where
  far : SameButMarks first marked
  far = same_on first rooted marked marks.same spreads.same

  held_marked : (h : Handle) → IsLive marked h → IsHeld marked h → HasMark marked h
  held_marked h lives holds =
      let back = same_back first marked far in
      spreads.grows h (marks.each h (same_lives marked first back h lives, same_holds marked first back h holds))

  closed_at : (h k : Handle) → Needs marked h k → HasMark marked h → HasMark marked k
  closed_at h k n m = spreads.closed h k m (same_needs marked rooted (same_back rooted marked spreads.same) h k n)

  counted_term : (i : ℕ) (s : Slot Node) → slice_get marked.terms i ≡ Some s → 0 < s.count → s.marked ≡ true
  counted_term i s at pos = by s.held refl
    where
      by : (o : Option Node) → s.held ≡ o → s.marked ≡ true
      by None e = absurd (omega (arith, pos, (table.terms.clear i s at e).0))
      by (Some n) e =
          let t : Term = record { slot = i; stamp = s.stamp } in
          let m = held_marked (handle.Term t) (lives_slot marked.terms i s.stamp s at refl (ap is_some e)) (inr (omega (arith, pos, ap count_under at))) in
          ap (λ (z : Slot Node). z.marked) (same_Some s m.0 (sym at ∙ m.1)) ∙ m.3

  counted_type : (i : ℕ) (s : Slot TypeShape) → slice_get marked.types i ≡ Some s → 0 < s.count → s.marked ≡ true
  counted_type i s at pos = by s.held refl
    where
      by : (o : Option TypeShape) → s.held ≡ o → s.marked ≡ true
      by None e = absurd (omega (arith, pos, (table.types.clear i s at e).0))
      by (Some n) e =
          let t : TypeId = record { slot = i; stamp = s.stamp } in
          let m = held_marked (handle.TypeId t) (lives_slot marked.types i s.stamp s at refl (ap is_some e)) (inr (omega (arith, pos, ap count_under at))) in
          ap (λ (z : Slot TypeShape). z.marked) (same_Some s m.0 (sym at ∙ m.1)) ∙ m.3

  pub is_closed : IsClosed marked
  is_closed = record {
    arguments = λ t n has m. all_have (IsMarked marked) (args_of n.shape) (λ i u at. closed_at (handle.Term t) (handle.Term u) (term_needs marked t u n i has at) m);
    named = λ t n has m. all_have (IsMarkedType marked) (types_of n.shape) (λ i u at. closed_at (handle.Term t) (handle.TypeId u) (name_needs marked t u n i has at) m);
    typed = λ t n has m. closed_at (handle.Term t) (handle.TypeId n.of) (own_needs marked t n has) m;
    parts = λ t s has m. all_have (IsMarkedType marked) (parts_of s) (λ i u at. closed_at (handle.TypeId t) (handle.TypeId u) (part_needs marked t u s i has at) m);
    permanent_terms = λ i low. held_marked (handle.Term (record { slot = i; stamp = 0 })) (permanent_term marked table i low) (inl low);
    permanent_types = λ i low. held_marked (handle.TypeId (record { slot = i; stamp = 0 })) (permanent_type marked table i low) (inl low);
    counted_terms = counted_term;
    counted_types = counted_type;
    no_term_waits = spreads.no_term_waits;
    no_type_waits = spreads.no_type_waits;
  }

  -- as many were live before the marks
  pub counts_first : (new : World) (x y : ℕ) → FreedCounts marked new x y → FreedCounts first new x y
  counts_first new x y counts =
      (counts.0 ∙ same_live first.terms marked.terms far.terms, counts.1 ∙ same_live first.types marked.types far.types)

  -- what is reached is marked
  path_marked : (g h : Handle) → Reaches first g h → HasMark marked g → HasMark marked h
  path_marked g z itself m = m
  path_marked g z (needed h k r n) m =
      spreads.closed h k (path_marked g h r m) (same_needs first rooted marks.same h k n)

  reached_marked : (h : Handle) → IsReached first (HasMark first) h → HasMark marked h
  reached_marked h (g, lives, why, path) =
      path_marked g h path (⊎_elim (λ holds. spreads.grows g (marks.each g (lives, holds))) (λ m. spreads.grows g (marks.grows g m)) why)

  -- and what is marked is reached
  marked_reached : (h : Handle) → HasMark marked h → IsReached first (HasMark first) h
  marked_reached h m = root (spreads.reached h m)
    where
      root : ((g : Handle) × HasMark rooted g × Reaches rooted g h) → IsReached first (HasMark first) h
      root (g, n, path) =
          let lives : IsLive first g = same_lives marked first (same_back first marked far) g (has_mark_lives marked table g (spreads.grows g n)) in
          (g, lives, ⊎_elim inr (λ p. inl p.0.1) (marks.only g n), same_reaches rooted first (same_back first rooted marks.same) g h path)

  module _ (new : World) (sweeps : Sweeps marked new) where
    abbrev R : Handle → Type 0
    R h = IsReached first (HasMark first) h

    on : (h k : Handle) → R h → Needs first h k → R k
    on h k (g, lives, why, path) n = (g, lives, why, needed h k path n)

    term_stays : (t : Term) (n : Node) → HasNode first t n → R (handle.Term t) → HasNode new t n
    term_stays t n has r =
        ap (λ z. held_at z t.slot t.stamp) sweeps.terms ∙ held_kept marked.terms t.slot t.stamp n (same_node first marked far t ∙ has) (reached_marked (handle.Term t) r)

    type_stays : (t : TypeId) (s : TypeShape) → HasTypeShape first t s → R (handle.TypeId t) → HasTypeShape new t s
    type_stays t s has r =
        ap (λ z. held_at z t.slot t.stamp) sweeps.types ∙ held_kept marked.types t.slot t.stamp s (same_shape first marked far t ∙ has) (reached_marked (handle.TypeId t) r)

    abbrev P : Term → Type 0
    P t = R (handle.Term t)

    abbrev Q : TypeId → Type 0
    Q t = R (handle.TypeId t)

    types_on : (t : TypeId) (s : TypeShape) → Q t → HasTypeShape first t s → HasTypeShape new t s × AllIn Q (parts_of s)
    types_on t s q has =
        (type_stays t s has q, every_in Q (parts_of s) (λ i u at. on (handle.TypeId t) (handle.TypeId u) q (part_needs first t u s i has at)))

    terms_on : (t : Term) (s : Shape) → P t → HasShape first t s → HasShape new t s × AllIn P (args_of s) × AllIn Q (types_of s)
    terms_on t s p has =
        let n = some_node (node_at first t) s has in (
          ap (option_map (λ (z : Node). z.shape)) (term_stays t n.0 n.1 p) ∙ ap Some n.2,
          subst (λ z. AllIn P (args_of z)) n.2 (every_in P (args_of n.0.shape) (λ i u at. on (handle.Term t) (handle.Term u) p (term_needs first t u n.0 i n.1 at))),
          subst (λ z. AllIn Q (types_of z)) n.2 (every_in Q (types_of n.0.shape) (λ i u at. on (handle.Term t) (handle.TypeId u) p (name_needs first t u n.0 i n.1 at))),
        )

    only_lives : (h : Handle) → IsLive new h → IsLive first h × R h
    only_lives (handle.Term t) lives =
        let n = some_is (node_at new t) lives in
        let o = held_only marked.terms t.slot t.stamp n.0 (ap (λ z. held_at z t.slot t.stamp) (sym sweeps.terms) ∙ n.1) in
        (is_some_of (node_at first t) n.0 (sym (same_node first marked far t) ∙ o.0), marked_reached (handle.Term t) o.1)
    only_lives (handle.TypeId t) lives =
        let n = some_is (type_shape_at new t) lives in
        let o = held_only marked.types t.slot t.stamp n.0 (ap (λ z. held_at z t.slot t.stamp) (sym sweeps.types) ∙ n.1) in
        (is_some_of (type_shape_at first t) n.0 (sym (same_shape first marked far t) ∙ o.0), marked_reached (handle.TypeId t) o.1)

    later_terms : IsLater first.terms new.terms
    later_terms i =
        omega (arith, same_stamp first.terms marked.terms far.terms i, later_swept marked.terms i, ap (λ z. stamp_at z i) sweeps.terms)

    later_types : IsLater first.types new.types
    later_types i =
        omega (arith, same_stamp first.types marked.types far.types i, later_swept marked.types i, ap (λ z. stamp_at z i) sweeps.types)

    pub leaves_reached : Leaves first new (IsReached first (HasMark first))
    leaves_reached = record {
      term = term_stays;
      count = λ t r. ap (λ z. count_under (slice_get z t.slot)) sweeps.terms ∙ swept_count marked.terms t.slot t.stamp (reached_marked (handle.Term t) r) ∙ same_count first.terms marked.terms far.terms t.slot;
      tree = λ t a keeps r. keeps_on first new P Q types_on terms_on a t r keeps;
      type_shape = type_stays;
      type_count = λ t r. ap (λ z. count_under (slice_get z t.slot)) sweeps.types ∙ swept_count marked.types t.slot t.stamp (reached_marked (handle.TypeId t) r) ∙ same_count first.types marked.types far.types t.slot;
      sort = λ t k keeps r. type_on first new P Q types_on terms_on k t r keeps;
      only = only_lives;
      freed_term = λ t lives free. subst (λ z. t.stamp < stamp_at z t.slot) (sym sweeps.terms) (swept_freed marked.terms t.slot t.stamp (same_lives first marked far (handle.Term t) lives) (λ m. free (marked_reached (handle.Term t) m)));
      freed_type = λ t lives free. subst (λ z. t.stamp < stamp_at z t.slot) (sym sweeps.types) (swept_freed marked.types t.slot t.stamp (same_lives first marked far (handle.TypeId t) lives) (λ m. free (marked_reached (handle.TypeId t) m)));
      after = record { terms = later_terms; types = later_types };
      term_names = sweeps.term_names ∙ ap (live_names new) far.term_names;
      type_names = sweeps.type_names ∙ ap (live_type_names new) far.type_names;
      constants = sweeps.constants ∙ far.constants;
      variables = sweeps.variables ∙ far.variables;
      kinds = sweeps.kinds ∙ far.kinds;
    }
