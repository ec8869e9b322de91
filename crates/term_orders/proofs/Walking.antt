-- The walk below one root. Each frame's arguments up to its next one have their places, or have a frame further up; so
-- when a frame's arguments are all looked at and it is on top, they all have their places, and its term gets the next one.
use Rattle.std.proofs.Common.{◌≡◌, ◌∙◌, ◌+◌, ◌<◌, ◌≤◌, ◌++◌, ℕ, List, [], ◌∷◌, Option, Some, None, zero, suc, refl, sym, ap, subst, inl, inr, ◌⊎◌, ⊎_elim, length, arith, reverse}
use Rattle.std.specs.Prelude.{slice_get, IsSome}
use Rattle.std.proofs.lemmas.Option.{same_Some, slice_get_within}
use Rattle.std.proofs.lemmas.List.{reverse-append}
use Rattle.std.proofs.lemmas.Bool.{cases_eq}
use Rattle.stamped_slots.proofs.Lists.{get_in, push_cases, push_old, push_here}
use Rattle.term_shapes.specs.declared.handles.Term.{Term}
use Rattle.term_table.specs.World.{World, node_at, IsTable}
use Rattle.term_orders.specs.declared.walk.Frame.{Frame}
use Rattle.term_orders.specs.Orders.IsBelow.{itself, argument}
use Rattle.term_orders.specs.Orders.{IsIn, IsArgument, IsBelow, IsUnder, IsOrder, StandsBefore}
use Rattle.term_orders.specs.Walk.{args_at, behind, fresh, IsDone, IsNext, Inserts, Places, Skips, Enters, Advances}
use Rattle.term_orders.proofs.Arguments.{argument_at, place_of, argument_live, below_on}
use Rattle.term_orders.proofs.Standing.{grows, put_there, place_cases, place_stays}

-- what a frame's term is, and that each argument before the next one is among those of P
pub record Ready (w : World) (root : Term) (P : Term → Type 0) (f : Frame) : Type 0 where
  pub live : IsSome (node_at w f.term)
  pub below : IsBelow w f.term root
  pub seen : (j : ℕ) (u : Term) → j < f.next → slice_get (args_at w f.term) j ≡ Some u → P u

-- of the frames from the top down, each is ready where those above it are added to P, and the root is among P or them
abbrev pub AreReady : World → Term → (Term → Type 0) → List Frame → Type 0
AreReady w root P [] = P root
AreReady w root P (f ∷ fs) = Ready w root P f × AreReady w root (λ u. P u ⊎ (u ≡ f.term)) fs

-- an order that isn't yet known to hold all roots
pub record IsPartial (w : World) (roots ts : List Term) : Type 0 where
  pub once : (i j : ℕ) (t : Term) → slice_get ts i ≡ Some t → slice_get ts j ≡ Some t → i ≡ j
  pub arguments : (i : ℕ) (t u : Term) → slice_get ts i ≡ Some t → IsArgument w u t → StandsBefore ts i u
  pub reached : (t : Term) → IsIn ts t → IsUnder w roots t
  pub live : (t : Term) → IsIn ts t → IsSome (node_at w t)

-- the walk below the next root
pub record Walking (w : World) (roots : List Term) (root : Term) (stack : List Frame) (ts : List Term) : Type 0 where
  pub partial : IsPartial w (roots ++ root ∷ []) ts
  pub kept : (r : Term) → IsIn roots r → IsIn ts r
  pub frames : AreReady w root (IsIn ts) (reverse stack)

pub empty_is : {X : Type 0} (xs : List X) → length xs ≡ 0 → xs ≡ []
empty_is [] e = refl
empty_is (x ∷ xs) e = absurd (omega (arith, e))

-- an item stands before the end of its list
before_end : (xs : List Term) (i j : ℕ) (v : Term) → slice_get xs i ≡ None → slice_get xs j ≡ Some v → j < i
before_end [] i j v past at = absurd (cc at)
before_end (x ∷ xs) zero j v past at = absurd (cc past)
before_end (x ∷ xs) (suc i) zero v past at = omega arith
before_end (x ∷ xs) (suc i) (suc j) v past at = omega (arith, before_end xs i j v past at)

module _ (w : World) (root : Term) where
  ready_more : (P Q : Term → Type 0) → ((u : Term) → P u → Q u) → (f : Frame) → Ready w root P f → Ready w root Q f
  ready_more P Q h f r =
      record { live = r.live; below = r.below; seen = λ j u l at. h u (r.seen j u l at) }

  are_more : (fs : List Frame) (P Q : Term → Type 0) → ((u : Term) → P u → Q u) → AreReady w root P fs → AreReady w root Q fs
  are_more [] P Q h p = h root p
  are_more (f ∷ fs) P Q h p = (
    ready_more P Q h f p.0,
    are_more fs (λ u. P u ⊎ (u ≡ f.term)) (λ u. Q u ⊎ (u ≡ f.term)) (λ u. ⊎_elim (λ x. inl (h u x)) (λ e. inr e)) p.1,
  )

  -- the argument that comes next is among P
  ready_behind : (P : Term → Type 0) (f : Frame) (of : Term) → IsNext w f of → P of → Ready w root P f → Ready w root P (behind f)
  ready_behind P f of next there r = record { live = r.live; below = r.below; seen = seen }
    where
      seen : (j : ℕ) (u : Term) → j < f.next + 1 → slice_get (args_at w f.term) j ≡ Some u → P u
      seen j u l at = ⊎_elim
          (λ (e : j ≡ f.next). subst P (same_Some of u (sym next ∙ ap (slice_get (args_at w f.term)) (sym e) ∙ at)) there)
          (λ (d : j ≡ f.next → ⊥). r.seen j u (omega (arith, l, d)) at)
          (cases_eq j f.next)

  ready_fresh : (P : Term → Type 0) (of : Term) → IsSome (node_at w of) → IsBelow w of root → Ready w root P (fresh of)
  ready_fresh P of live below =
      record { live = live; below = below; seen = λ j u l at. absurd (omega (arith, l)) }

  -- all arguments of a frame that is done are among P
  all_seen : (P : Term → Type 0) (f : Frame) → IsDone w f → Ready w root P f → (u : Term) → IsArgument w u f.term → P u
  all_seen P f done r u a =
      r.seen a.place u (before_end (args_at w f.term) f.next a.place u done (place_of w f.term u a)) (place_of w f.term u a)

-- a term with all arguments in their places is put into an order
module _ (w : World) (roots ts us : List Term) (t : Term) (put : Inserts ts t us) where
  put_partial : IsPartial w roots ts → IsSome (node_at w t) → IsUnder w roots t → ((u : Term) → IsArgument w u t → IsIn ts u) → IsPartial w roots us
  put_partial o live under args = record { once = once; arguments = arguments; reached = reached; live = lives }
    where
      once : (i j : ℕ) (u : Term) → slice_get us i ≡ Some u → slice_get us j ≡ Some u → i ≡ j
      once i j u at at2 = by (place_cases ts us t put i u at) (place_cases ts us t put j u at2)
        where
          by : (slice_get ts i ≡ Some u) ⊎ ((i ≡ length ts) × (t ≡ u) × (IsIn ts t → ⊥)) → (slice_get ts j ≡ Some u) ⊎ ((j ≡ length ts) × (t ≡ u) × (IsIn ts t → ⊥)) → i ≡ j
          by (inl a) (inl b) = o.once i j u a b
          by (inl a) (inr b) = absurd (b.2 (record { place = i; at = a ∙ ap Some (sym b.1) }))
          by (inr a) (inl b) = absurd (a.2 (record { place = j; at = b ∙ ap Some (sym a.1) }))
          by (inr a) (inr b) = a.0 ∙ sym b.0

      arguments : (i : ℕ) (s u : Term) → slice_get us i ≡ Some s → IsArgument w u s → StandsBefore us i u
      arguments i s u at a = ⊎_elim
          (λ (old : slice_get ts i ≡ Some s). let b = o.arguments i s u old a in record { place = b.place; earlier = b.earlier; at = place_stays ts us t put b.place u b.at })
          (λ (e : (i ≡ length ts) × (t ≡ s) × (IsIn ts t → ⊥)). let h = args u (subst (λ z. IsArgument w u z) (sym e.1) a) in record { place = h.place; earlier = subst (λ n. h.place < n) (sym e.0) (slice_get_within ts h.place u h.at); at = place_stays ts us t put h.place u h.at })
          (place_cases ts us t put i s at)

      each : (P : Term → Type 0) → ((u : Term) → IsIn ts u → P u) → P t → (u : Term) → IsIn us u → P u
      each P old new u h = ⊎_elim
          (λ (at : slice_get ts h.place ≡ Some u). old u (record { place = h.place; at = at }))
          (λ (e : (h.place ≡ length ts) × (t ≡ u) × (IsIn ts t → ⊥)). subst P e.1 new)
          (place_cases ts us t put h.place u h.at)

      reached : (u : Term) → IsIn us u → IsUnder w roots u
      reached = each (IsUnder w roots) o.reached under

      lives : (u : Term) → IsIn us u → IsSome (node_at w u)
      lives = each (λ u. IsSome (node_at w u)) o.live live

module _ (w : World) (roots : List Term) (root : Term) where
  root_listed : IsIn (roots ++ root ∷ []) root
  root_listed = record { place = length roots; at = push_here roots root }

  partial_on : (ts : List Term) → IsOrder w roots ts → IsPartial w (roots ++ root ∷ []) ts
  partial_on ts o = record {
    once = o.once;
    arguments = o.arguments;
    reached = λ t h. let r = o.reached t h in record { root = r.root; listed = record { place = r.listed.place; at = push_old roots root r.root r.listed.place r.listed.at }; below = r.below };
    live = o.live;
  }

  -- the walk ends with an empty stack
  pub walking_ends : (stack : List Frame) (ts : List Term) → stack ≡ [] → Walking w roots root stack ts → IsOrder w (roots ++ root ∷ []) ts
  walking_ends stack ts e so = record {
    once = so.partial.once;
    holds = holds;
    arguments = so.partial.arguments;
    reached = so.partial.reached;
    live = so.partial.live;
  }
    where
      there : IsIn ts root
      there = subst (λ s. AreReady w root (IsIn ts) (reverse s)) e so.frames

      holds : (r : Term) → IsIn (roots ++ root ∷ []) r → IsIn ts r
      holds r h = ⊎_elim
          (λ (x : (h.place ≡ length roots) × (root ≡ r)). subst (IsIn ts) x.1 there)
          (λ (at : slice_get roots h.place ≡ Some r). so.kept r (record { place = h.place; at = at }))
          (push_cases roots root r h.place h.at)

  -- a root that has its place needs no walk
  pub walking_none : (ts : List Term) → IsIn ts root → IsOrder w roots ts → IsOrder w (roots ++ root ∷ []) ts
  walking_none ts there o =
      walking_ends [] ts refl (record { partial = partial_on ts o; kept = o.holds; frames = there })

  -- the walk starts with the root's frame
  pub walking_starts : (stack : List Frame) (ts : List Term) → stack ≡ fresh root ∷ [] → IsSome (node_at w root) → IsOrder w roots ts → Walking w roots root stack ts
  walking_starts stack ts e live o = record {
    partial = partial_on ts o;
    kept = o.holds;
    frames = subst (λ s. AreReady w root (IsIn ts) (reverse s)) (sym e) (ready_fresh w root (IsIn ts) root live itself, inr refl);
  }

  module _ (table : IsTable w) (f : Frame) (stack new : List Frame) (ts us : List Term) where
    -- the frames with the top one first
    top : Walking w roots root (stack ++ f ∷ []) ts → AreReady w root (IsIn ts) (f ∷ reverse stack)
    top so = subst (AreReady w root (IsIn ts)) (reverse-append stack (f ∷ [])) so.frames

    placed_on : Walking w roots root (stack ++ f ∷ []) ts → Places w f stack new ts us → Walking w roots root new us
    placed_on so p = record {
      partial = put_partial w (roots ++ root ∷ []) ts us f.term p.order so.partial fs.0.live (record { root = root; listed = root_listed; below = fs.0.below }) (all_seen w root (IsIn ts) f p.done fs.0);
      kept = λ r h. grows ts us f.term p.order r (so.kept r h);
      frames = subst (λ s. AreReady w root (IsIn us) (reverse s)) (sym p.stack_stays) (are_more w root (reverse stack) (λ u. IsIn ts u ⊎ (u ≡ f.term)) (IsIn us) more fs.1);
    }
      where
        fs : AreReady w root (IsIn ts) (f ∷ reverse stack)
        fs = top so

        more : (u : Term) → IsIn ts u ⊎ (u ≡ f.term) → IsIn us u
        more u (inl h) = grows ts us f.term p.order u h
        more u (inr e) = subst (IsIn us) (sym e) (put_there ts us f.term p.order)

    skipped_on : Walking w roots root (stack ++ f ∷ []) ts → Skips w f stack new ts us → Walking w roots root new us
    skipped_on so p =
        let fs = top so in
        let g : AreReady w root (IsIn ts) (behind f ∷ reverse stack) = (ready_behind w root (IsIn ts) f p.of p.next p.there fs.0, fs.1) in
        subst (Walking w roots root new) (sym p.order_stays)
        (record {
          partial = so.partial;
          kept = so.kept;
          frames = subst (λ s. AreReady w root (IsIn ts) (reverse s)) (sym p.stack_behind) (subst (AreReady w root (IsIn ts)) (sym (reverse-append stack (behind f ∷ []))) g);
        })

    entered_on : Walking w roots root (stack ++ f ∷ []) ts → Enters w f stack new ts us → Walking w roots root new us
    entered_on so p =
        subst (Walking w roots root new) (sym p.order_stays)
        (record {
          partial = so.partial;
          kept = so.kept;
          frames = subst (λ s. AreReady w root (IsIn ts) (reverse s)) (sym p.stack_above) (subst (AreReady w root (IsIn ts)) (sym turned) all);
        })
      where
        fs : AreReady w root (IsIn ts) (f ∷ reverse stack)
        fs = top so

        turned : reverse ((stack ++ behind f ∷ []) ++ fresh p.of ∷ []) ≡ fresh p.of ∷ behind f ∷ reverse stack
        turned =
            reverse-append (stack ++ behind f ∷ []) (fresh p.of ∷ []) ∙ ap (λ s. fresh p.of ∷ s) (reverse-append stack (behind f ∷ []))

        is : IsArgument w p.of f.term
        is = argument_at w f.term p.of f.next p.next

        all : AreReady w root (IsIn ts) (fresh p.of ∷ behind f ∷ reverse stack)
        all = (
          ready_fresh w root (IsIn ts) p.of (argument_live w table f.term p.of is) (below_on w p.of f.term root (argument p.of f.term itself is) fs.0.below),
          (
            ready_behind w root (λ u. IsIn ts u ⊎ (u ≡ p.of)) f p.of p.next (inr refl) (ready_more w root (IsIn ts) (λ u. IsIn ts u ⊎ (u ≡ p.of)) (λ u h. inl h) f fs.0),
            are_more w root (reverse stack) (λ u. IsIn ts u ⊎ (u ≡ f.term)) (λ u. (IsIn ts u ⊎ (u ≡ p.of)) ⊎ (u ≡ f.term)) (λ u. ⊎_elim (λ h. inl (inl h)) (λ e. inr e)) fs.1,
          ),
        )

    step : Walking w roots root (stack ++ f ∷ []) ts → Advances w f stack new ts us → Walking w roots root new us
    step so (inl p) = placed_on so p
    step so (inr (inl p)) = skipped_on so p
    step so (inr (inr p)) = entered_on so p

    -- the same, where the frame was taken off
    pub walking_on : (old : List Frame) → old ≡ stack ++ f ∷ [] → Walking w roots root old ts → Advances w f stack new ts us → Walking w roots root new us
    walking_on old e so a = step (subst (λ s. Walking w roots root s ts) e so) a
