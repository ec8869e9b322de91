-- Handles with their places: which is the first dead one, and where all are live.
use Rattle.std.proofs.Common.{◌≡◌, ◌∙◌, ◌+◌, ◌<◌, ℕ, zero, suc, List, [], ◌∷◌, Option, Some, None, map, refl, sym, ap, subst, add-zero, arith}
use Rattle.std.specs.Prelude.{slice_get, IsSome, IsNone}
use Rattle.std.proofs.lemmas.Option.{same_Some}
use Rattle.stamped_slots.proofs.Lists.{map_get, map_some}
use Rattle.std.specs.Option.{option_map}
use Rattle.term_shapes.specs.declared.handles.Term.{Term}
use Rattle.term_table.specs.World.{node_at}
use Rattle.term_table.specs.Checking.{AreLive, IsFirstDead as IsFirstDeadTerm}
use Rattle.term_table.specs.declared.table.Marked.{Marked}
use Rattle.term_table.specs.declared.table.Marked.TheVariants as marked
use Rattle.term_collect.specs.Reach.{IsLive as IsLiveRoot}
use Rattle.yices_api.specs.declared.replies.CallError.TheVariants as error
use Rattle.yices_api.specs.declared.replies.Reply.TheVariants as reply
use Rattle.yices_api.specs.declared.handles.ContextId.{ContextId}
use Rattle.yices_api.specs.State.{State, context_in}
use Rattle.yices_api.specs.Calls.{Handle, of_context, of_term, IsLive, IsDead, AllLive, IsFirstDead, placed, listed, IsFirstDeadRoot, AllLiveRoots}
use Rattle.yices_api.specs.Told.{dead_at}
use Rattle.yices_api.specs.Steps.{RefusesDead}

-- none is there
pub none_live : (s : State) → AllLive s []
none_live s i p at = absurd (cc at)

-- one handle
pub live_one : (s : State) (n : ℕ) (h : Handle) → IsLive s h → AllLive s (placed n (h ∷ []))
live_one s n h lives zero p at = subst (λ (q : ℕ × Handle). IsLive s q.1) (same_Some {A = ℕ × Handle} (n, h) p at) lives
live_one s n h lives (suc i) p at = absurd (cc at)

pub live_two : (s : State) (n : ℕ) (g h : Handle) → IsLive s g → IsLive s h → AllLive s (placed n (g ∷ h ∷ []))
live_two s n g h first second zero p at = subst (λ (q : ℕ × Handle). IsLive s q.1) (same_Some {A = ℕ × Handle} (n, g) p at) first
live_two s n g h first second (suc i) p at = live_one s (n + 1) h second i p at

-- the first of the handles is dead
pub refuses_head : (s : State) (n : ℕ) (h : Handle) (hs : List Handle) → IsDead s h → RefusesDead (placed n (h ∷ hs)) s (reply.Refused (dead_at n h)) s
refuses_head s n h hs dead = record {
  place = n;
  handle = h;
  first = record { index = 0; there = refl; dead = dead; earlier = λ i p low at. absurd (omega (arith, low)) };
  told = refl;
  same = refl;
}

-- the first is live, and the second is dead
pub refuses_second : (s : State) (n : ℕ) (g h : Handle) → IsLive s g → IsDead s h → RefusesDead (placed n (g ∷ h ∷ [])) s (reply.Refused (dead_at (n + 1) h)) s
refuses_second s n g h lives dead = record {
  place = n + 1;
  handle = h;
  first = record { index = 1; there = refl; dead = dead; earlier = earlier };
  told = refl;
  same = refl;
}
  where
    earlier : (i : ℕ) (p : ℕ × Handle) → i < 1 → slice_get (placed n (g ∷ h ∷ [])) i ≡ Some p → IsLive s p.1
    earlier zero p low at = subst (λ (q : ℕ × Handle). IsLive s q.1) (same_Some {A = ℕ × Handle} (n, g) p at) lives
    earlier (suc i) p low at = absurd (omega (arith, low))

-- a handle in its place, and back
pub placed_at : (n : ℕ) (hs : List Handle) (i : ℕ) (h : Handle) → slice_get hs i ≡ Some h → slice_get (placed n hs) i ≡ Some (n + i, h)
placed_at n [] i h at = absurd (cc at)
placed_at n (g ∷ hs) zero h at =
    ap (λ (k : Handle). Some (n, k)) (same_Some g h at) ∙ ap (λ (k : ℕ). Some (k, h)) (sym (add-zero n))
placed_at n (g ∷ hs) (suc i) h at =
    let shift : n + 1 + i ≡ n + suc i = omega arith in
    placed_at (n + 1) hs i h at ∙ ap (λ (k : ℕ). Some (k, h)) shift

pub placed_back : (n : ℕ) (hs : List Handle) (i : ℕ) (p : ℕ × Handle) → slice_get (placed n hs) i ≡ Some p → slice_get hs i ≡ Some p.1
placed_back n [] i p at = absurd (cc at)
placed_back n (g ∷ hs) zero p at = ap (λ (q : ℕ × Handle). Some q.1) (same_Some {A = ℕ × Handle} (n, g) p at)
placed_back n (g ∷ hs) (suc i) p at = placed_back (n + 1) hs i p at

-- handles made of a list
module _ {X : Type 0} (s : State) (f : X → Handle) (n : ℕ) (xs : List X) where
  pub all_live : ((i : ℕ) (x : X) → slice_get xs i ≡ Some x → IsLive s (f x)) → AllLive s (placed n (map f xs))
  all_live h i p at =
      let r = map_some f xs i p.1 (placed_back n (map f xs) i p at) in
      subst (IsLive s) r.2 (h i r.0 r.1)

  pub first_dead : (i : ℕ) (x : X) → slice_get xs i ≡ Some x → IsDead s (f x) → ((j : ℕ) (y : X) → j < i → slice_get xs j ≡ Some y → IsLive s (f y)) → IsFirstDead s (placed n (map f xs)) (n + i) (f x)
  first_dead i x at dead earlier = record {
    index = i;
    there = placed_at n (map f xs) i (f x) (map_get f xs i ∙ ap (option_map f) at);
    dead = dead;
    earlier = λ j p low there. let r = map_some f xs j p.1 (placed_back n (map f xs) j p there) in subst (IsLive s) r.2 (earlier j r.0 low r.1);
  }

-- the arguments of a constructor
pub terms_live : (s : State) (ts : List Term) → AreLive s.table ts → AllLive s (placed 1 (map of_term ts))
terms_live s ts live = all_live s of_term 1 ts live

none_is : {X : Type 0} (o : Option X) → o ≡ None → IsNone o
none_is o e = subst IsNone (sym e) refl

pub terms_refused : (s : State) (ts : List Term) (place : ℕ) → IsFirstDeadTerm s.table ts place → RefusesDead (placed 1 (map of_term ts)) s (reply.Refused (error.DeadTerm place)) s
terms_refused s ts place found = record {
  place = 1 + found.others;
  handle = of_term found.term;
  first = first_dead s of_term 1 ts found.others found.term found.there (none_is (node_at s.table found.term) found.dead) found.earlier;
  told = let e : place ≡ 1 + found.others = omega (arith, found.behind) in ap (λ (k : ℕ). reply.Refused (error.DeadTerm k)) e;
  same = refl;
}

-- a live context, a limit, and assumptions
module _ (s : State) (c : ContextId) (lives : IsSome (context_in s.contexts c)) (ts : List Term) where
  pub live_assumed : AreLive s.table ts → AllLive s ((1, of_context c) ∷ placed 3 (map of_term ts))
  live_assumed live zero p at = subst (λ (q : ℕ × Handle). IsLive s q.1) (same_Some {A = ℕ × Handle} (1, of_context c) p at) lives
  live_assumed live (suc i) p at = all_live s of_term 3 ts live i p at

  pub refuses_assumed : (place : ℕ) → IsFirstDeadTerm s.table ts place → RefusesDead ((1, of_context c) ∷ placed 3 (map of_term ts)) s (reply.Refused (error.DeadTerm (place + 2))) s
  refuses_assumed place found =
      let first = first_dead s of_term 3 ts found.others found.term found.there (none_is (node_at s.table found.term) found.dead) found.earlier in
      record {
        place = 3 + found.others;
        handle = of_term found.term;
        first = record { index = suc first.index; there = first.there; dead = first.dead; earlier = earlier first };
        told = let e : place + 2 ≡ 3 + found.others = omega (arith, found.behind) in ap (λ (k : ℕ). reply.Refused (error.DeadTerm k)) e;
        same = refl;
      }
    where
      earlier : (first : IsFirstDead s (placed 3 (map of_term ts)) (3 + found.others) (of_term found.term)) → (i : ℕ) (p : ℕ × Handle) → i < suc first.index → slice_get ((1, of_context c) ∷ placed 3 (map of_term ts)) i ≡ Some p → IsLive s p.1
      earlier first zero p low at = subst (λ (q : ℕ × Handle). IsLive s q.1) (same_Some {A = ℕ × Handle} (1, of_context c) p at) lives
      earlier first (suc i) p low at = first.earlier i p (omega (arith, low)) at

-- the first is dead
pub refuses_assuming_head : (s : State) (c : ContextId) (hs : List (ℕ × Handle)) → IsDead s (of_context c) → RefusesDead ((1, of_context c) ∷ hs) s (reply.Refused (error.DeadContext 1)) s
refuses_assuming_head s c hs dead = record {
  place = 1;
  handle = of_context c;
  first = record { index = 0; there = refl; dead = dead; earlier = λ i p low at. absurd (omega (arith, low)) };
  told = refl;
  same = refl;
}

-- listed handles
pub root_live : (s : State) (m : Marked) → IsLiveRoot s.table m → IsLive s (listed m)
root_live s (marked.Term t) h = h
root_live s (marked.TypeId t) h = h

not_some : {X : Type 0} (o : Option X) → (IsSome o → ⊥) → IsNone o
not_some None d = refl
not_some (Some x) d = absurd (d refl)

pub root_dead : (s : State) (m : Marked) → (IsLiveRoot s.table m → ⊥) → IsDead s (listed m)
root_dead s (marked.Term t) d = not_some _ d
root_dead s (marked.TypeId t) d = not_some _ d

pub roots_live : (s : State) (ms : List Marked) → AllLiveRoots s.table ms → AllLive s (placed 2 (map listed ms))
roots_live s ms live = all_live s listed 2 ms (λ i m at. root_live s m (live i m at))

pub roots_refused : (s : State) (ms : List Marked) (index : ℕ) (m : Marked) → IsFirstDeadRoot s.table ms index → slice_get ms index ≡ Some m → RefusesDead (placed 2 (map listed ms)) s (reply.Refused (dead_at (index + 2) (listed m))) s
roots_refused s ms index m first at = record {
  place = 2 + index;
  handle = listed m;
  first = first_dead s listed 2 ms index m at (root_dead s m (λ lives. first.2 (subst (IsLiveRoot s.table) (same_Some m first.0 (sym at ∙ first.1)) lives))) (λ j y low there. root_live s y (first.3 j y low there));
  told = let e : index + 2 ≡ 2 + index = omega arith in ap (λ (k : ℕ). reply.Refused (dead_at k (listed m))) e;
  same = refl;
}
