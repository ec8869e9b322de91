-- Marks spread from handle to handle until the worklist is empty.
use Rattle.std.proofs.Common.{◌≡◌, ◌∙◌, sym, subst, inl, inr, ◌⊎◌, ⊎_elim}
use Rattle.stamped_slots.specs.Regular.{NoneWaits}
use Rattle.term_table.specs.declared.table.Marked.TheVariants as handle
use Rattle.term_table.specs.World.{World}
use Rattle.term_collect.specs.Reach.{Handle, Needs, Reaches}
use Rattle.term_collect.specs.Reach.Reaches.{itself, needed}
use Rattle.term_collect.specs.Marking.{HasMark, Waits, AllWait, SameButMarks, Marks, Takes, Spreads}
use Rattle.term_collect.proofs.Handles.{same_self, same_on, same_back, same_needs}

-- each mark is reached, and whatever a marked handle needs is marked, or else the handle waits
pub record Spreading (first now : World) : Type 0 where
  pub same : SameButMarks first now
  pub grows : (h : Handle) → HasMark first h → HasMark now h
  pub reached : (h : Handle) → HasMark now h → (g : Handle) × HasMark first g × Reaches first g h
  pub needs : (h k : Handle) → HasMark now h → Needs first h k → Waits now h ⊎ HasMark now k

pub spreading_starts : (w : World) → AllWait w → Spreading w w
spreading_starts w wait = record {
  same = same_self w;
  grows = λ h m. m;
  reached = λ h m. (h, m, itself);
  needs = λ h k m n. inl (wait h m);
}

pub spreading_goes_on : (first now taken new : World) (g : Handle) → Spreading first now → Takes now taken g → Marks taken new (Needs taken g) → Spreading first new
spreading_goes_on first now taken new g so takes marks = record { same = same_on first taken new back marks.same; grows = λ h m. marks.grows h (takes.grows h (so.grows h m)); reached = reached; needs = needs }
  where
    back : SameButMarks first taken
    back = same_on first now taken so.same takes.same

    reached : (h : Handle) → HasMark new h → (r : Handle) × HasMark first r × Reaches first r h
    reached h m = ⊎_elim
        (λ n. so.reached h (takes.only h n))
        (λ p. let r = so.reached g takes.marked in (r.0, r.1, needed g h r.2 (same_needs taken first (same_back first taken back) g h p.0)))
        (marks.only h m)

    turn : (h k : Handle) → Needs first h k → Waits now h ⊎ HasMark now k → Waits new h ⊎ HasMark new k
    turn h k n (inr m) = inr (marks.grows k (takes.grows k m))
    turn h k n (inl wait) = ⊎_elim
        (λ (e : h ≡ g). inr (marks.each k (subst (λ z. Needs taken z k) e (same_needs first taken back h k n))))
        (λ still. inl (marks.waits h still))
        (takes.waits h wait)

    needs : (h k : Handle) → HasMark new h → Needs first h k → Waits new h ⊎ HasMark new k
    needs h k m n = ⊎_elim
        (λ was. turn h k n (so.needs h k (takes.only h was) n))
        (λ p. inl p.1)
        (marks.only h m)

-- nothing waits on an empty worklist
none_wait : (w : World) → NoneWaits w.terms → NoneWaits w.types → (h : Handle) → Waits w h → ⊥
none_wait w terms types (handle.Term t) (s, at, stamp, waiting) = cc (sym waiting ∙ terms t.slot s at)
none_wait w terms types (handle.TypeId t) (s, at, stamp, waiting) = cc (sym waiting ∙ types t.slot s at)

pub spreading_ends : (first now : World) → Spreading first now → NoneWaits now.terms × NoneWaits now.types → Spreads first now
spreading_ends first now so done = record {
  same = so.same;
  grows = so.grows;
  reached = so.reached;
  closed = λ h k m n. ⊎_elim (λ wait. absurd (none_wait now done.0 done.1 h wait)) (λ r. r) (so.needs h k m n);
  no_term_waits = done.0;
  no_type_waits = done.1;
}
