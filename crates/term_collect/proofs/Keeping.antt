-- Handles that are kept one list after another.
use Rattle.std.proofs.Common.{◌≡◌, ℕ, zero, suc, List, [], ◌∷◌, ◌++◌, Some, inl, inr, ◌⊎◌, ⊎_elim, sym, subst}
use Rattle.std.specs.Prelude.{slice_get}
use Rattle.term_shapes.specs.declared.handles.Term.{Term}
use Rattle.term_shapes.specs.declared.handles.TypeId.{TypeId}
use Rattle.term_table.specs.declared.table.Marked.TheVariants as handle
use Rattle.term_table.specs.World.{World}
use Rattle.term_table.specs.Changes.{cleared}
use Rattle.term_collect.specs.Reach.{Handle, IsTermOf, IsTypeOf, IsListed, Leaves, Frees}
use Rattle.term_collect.specs.Marking.{Marks, Keeping}
use Rattle.term_collect.proofs.Handles.{marks_none, marks_both, marks_as}

-- the items of two lists, one behind the other
module _ {X : Type 0} (to_handle : X → Handle) where
  abbrev Of : List X → Handle → Type 0
  Of xs h = (i : ℕ) × ((t : X) × (slice_get xs i ≡ Some t) × (h ≡ to_handle t))

  split : (ts xs : List X) (h : Handle) → Of (ts ++ xs) h → Of ts h ⊎ Of xs h
  split [] xs h p = inr p
  split (t ∷ ts) xs h (zero, p) = inl (0, p)
  split (t ∷ ts) xs h (suc i, p) = ⊎_elim (λ q. inl (suc q.0, q.1)) inr (split ts xs h (i, p))

  front : (ts xs : List X) (h : Handle) → Of ts h → Of (ts ++ xs) h
  front [] xs h (i, (t, at, is)) = absurd (cc at)
  front (t ∷ ts) xs h (zero, p) = (0, p)
  front (t ∷ ts) xs h (suc i, p) = let r = front ts xs h (i, p) in (suc r.0, r.1)

  back : (ts xs : List X) (h : Handle) → Of xs h → Of (ts ++ xs) h
  back [] xs h p = p
  back (t ∷ ts) xs h p = let r = back ts xs h p in (suc r.0, r.1)

none_listed : (h : Handle) → IsListed [] [] h → ⊥
none_listed h (inl (i, (t, at, is))) = cc at
none_listed h (inr (i, (t, at, is))) = cc at

-- nothing is kept yet
pub keeping_starts : (old now : World) → now ≡ cleared old → Keeping old now [] []
keeping_starts old now e = record { marks = subst (λ z. Marks (cleared old) z (IsListed [] [])) (sym e) (marks_none (cleared old) (IsListed [] []) none_listed) }

-- more terms, or more types
pub keeping_terms : (old now new : World) (ts xs : List Term) (us : List TypeId) → Keeping old now ts us → Marks now new (IsTermOf xs) → Keeping old new (ts ++ xs) us
keeping_terms old now new ts xs us keeping marks = record { marks = marks_as (cleared old) new (λ h. IsListed ts us h ⊎ IsTermOf xs h) (IsListed (ts ++ xs) us) (marks_both (cleared old) now new (IsListed ts us) (IsTermOf xs) keeping.marks marks) to from }
  where
    to : (h : Handle) → IsListed ts us h ⊎ IsTermOf xs h → IsListed (ts ++ xs) us h
    to h (inl (inl p)) = inl (front handle.Term ts xs h p)
    to h (inl (inr p)) = inr p
    to h (inr p) = inl (back handle.Term ts xs h p)

    from : (h : Handle) → IsListed (ts ++ xs) us h → IsListed ts us h ⊎ IsTermOf xs h
    from h (inl p) = ⊎_elim (λ q. inl (inl q)) inr (split handle.Term ts xs h p)
    from h (inr p) = inl (inr p)

pub keeping_types : (old now new : World) (ts : List Term) (us xs : List TypeId) → Keeping old now ts us → Marks now new (IsTypeOf xs) → Keeping old new ts (us ++ xs)
keeping_types old now new ts us xs keeping marks = record { marks = marks_as (cleared old) new (λ h. IsListed ts us h ⊎ IsTypeOf xs h) (IsListed ts (us ++ xs)) (marks_both (cleared old) now new (IsListed ts us) (IsTypeOf xs) keeping.marks marks) to from }
  where
    to : (h : Handle) → IsListed ts us h ⊎ IsTypeOf xs h → IsListed ts (us ++ xs) h
    to h (inl (inl p)) = inl p
    to h (inl (inr p)) = inr (front handle.TypeId us xs h p)
    to h (inr p) = inr (back handle.TypeId us xs h p)

    from : (h : Handle) → IsListed ts (us ++ xs) h → IsListed ts us h ⊎ IsTypeOf xs h
    from h (inl p) = inl (inl p)
    from h (inr p) = ⊎_elim (λ q. inl (inr q)) inr (split handle.TypeId us xs h p)

-- the table at the end of a collection, under another name
pub leaves_there : (old a b : World) (R : Handle → Type 0) → Leaves old a R → a ≡ b → Leaves old b R
leaves_there old a b R leaves e = subst (λ z. Leaves old z R) e leaves

pub counts_there : (old a b : World) (x y : ℕ) → Frees old a x y → a ≡ b → Frees old b x y
counts_there old a b x y counts e = subst (λ z. Frees old z x y) e counts
