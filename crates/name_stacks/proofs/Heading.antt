-- The newest meanings as a map, after each kind of change of the pairs.
--
-- A pair at the end is the newest of its name. Where the newest pair of a name goes, each other name keeps its newest one. Pairs that fail go in two turns: first each name is given the newest of its handles that pass, then each name whose handle fails is taken away, for none of its handles passes.
use Rattle.std.proofs.Common.{◌≡◌, ◌∙◌, ◌+◌, ◌<◌, ℕ, zero, suc, Bool, true, false, cond, if◌then◌else◌, List, [], ◌∷◌, ◌++◌, Option, Some, None, is_some, length, get_or, take, refl, sym, ap, subst, append-nil}
use Rattle.std.specs.Prelude.{slice_get, string_bytes, IsSome, String}
use Rattle.std.specs.Option.{option_map, option_map_or}
use Rattle.std.specs.HashMap.{HashMap, get_by_text}
use Rattle.std.specs.Str.{bytes_eq}
use Rattle.std.proofs.lemmas.List.{map-append, take_more}
use Rattle.std.proofs.lemmas.List.Elements.{filter-append}
use Rattle.std.proofs.lemmas.Option.{same_Some, slice_get_read, slice_get-map}
use Rattle.std.proofs.lemmas.Slice.Eq.{bytes_eq-Decides}
use Rattle.name_stacks.specs.Names.{newest, without_newest, or_else}
use Rattle.name_stacks.specs.Heads.{shown, passing, AreHeads, PutsHead, AreRaised, AreLeft}
use Rattle.name_stacks.specs.declared.names.Pair.{Pair}

same_name : (xs ys : List ℕ) → bytes_eq xs ys ≡ true → xs ≡ ys
same_name xs ys e = (bytes_eq-Decides xs ys).0 e

itself : (xs : List ℕ) → bytes_eq xs xs ≡ true
itself xs = (bytes_eq-Decides xs xs).1 refl

or_else_assoc : {X : Type 0} (a b c : Option X) → or_else (or_else a b) c ≡ or_else a (or_else b c)
or_else_assoc None b c = refl
or_else_assoc (Some x) b c = refl

or_else_none : {X : Type 0} (a : Option X) → or_else a None ≡ a
or_else_none None = refl
or_else_none (Some x) = refl

pub is_none : {X : Type 0} (a : Option X) → is_some a ≡ false → a ≡ None
is_none None h = refl
is_none (Some x) h = absurd (cc h)

-- the newest meaning with one pair more at the end
pub newest_pushed : {H : Type 0} (name : List ℕ) (ps : List (List ℕ × H)) (p : List ℕ × H) → newest name (ps ++ p ∷ []) ≡ or_else (if bytes_eq p.0 name then Some p.1 else None) (newest name ps)
newest_pushed name [] p = sym (or_else_none (if bytes_eq p.0 name then Some p.1 else None))
newest_pushed name (q ∷ ps) p =
    ap (λ o. or_else o (if bytes_eq q.0 name then Some q.1 else None)) (newest_pushed name ps p) ∙ or_else_assoc (if bytes_eq p.0 name then Some p.1 else None) (newest name ps) (if bytes_eq q.0 name then Some q.1 else None)

some_second : {X : Type 0} (a b : Option X) → IsSome b → IsSome (or_else a b)
some_second None b h = h
some_second (Some x) b h = refl

some_first : {X : Type 0} (a b : Option X) → IsSome a → IsSome (or_else a b)
some_first None b h = absurd (cc h)
some_first (Some x) b h = refl

-- a name that stands in the list has a newest meaning
pub has_newest : {H : Type 0} (ps : List (List ℕ × H)) (i : ℕ) (p : List ℕ × H) → slice_get ps i ≡ Some p → IsSome (newest p.0 ps)
has_newest [] i p at = absurd (cc at)
has_newest {H} (q ∷ ps) zero p at =
    let e : bytes_eq q.0 p.0 ≡ true = ap (λ (z : List ℕ × H). bytes_eq z.0 p.0) (same_Some q p at) ∙ itself p.0 in
    some_second (newest p.0 ps) (if bytes_eq q.0 p.0 then Some q.1 else None) (ap (λ b. is_some (cond b (Some q.1) None)) e)
has_newest (q ∷ ps) (suc i) p at =
    some_first (newest p.0 ps) (if bytes_eq q.0 p.0 then Some q.1 else None) (has_newest ps i p at)

-- another name keeps its newest meaning
pub newest_kept : {H : Type 0} (name other : List ℕ) (ps : List (List ℕ × H)) → bytes_eq name other ≡ false → newest other (without_newest name ps) ≡ newest other ps
newest_kept name other [] e = refl
newest_kept {H} name other (p ∷ ps) e = by (is_some (newest name ps)) refl (bytes_eq p.0 name) refl (newest_kept name other ps e)
  where
    by : (b : Bool) → is_some (newest name ps) ≡ b → (d : Bool) → bytes_eq p.0 name ≡ d → newest other (without_newest name ps) ≡ newest other ps → newest other (without_newest name (p ∷ ps)) ≡ newest other (p ∷ ps)
    by true h d k rest = rw h (ap (λ o. or_else o (if bytes_eq p.0 other then Some p.1 else None)) rest)
    by false h true k rest =
        rw (h, k) (sym (or_else_none (newest other ps)) ∙ ap (λ b. or_else (newest other ps) (cond b (Some p.1) None)) (sym (ap (λ z. bytes_eq z other) (same_name p.0 name k) ∙ e)))
    by false h false k rest = rw (h, k) refl

-- what fails has no newest meaning, and what passes stays the newest
module _ {H : Type 0} (passes : H → Bool) (name : List ℕ) where
  step : (q : List ℕ × H) (ps : List (List ℕ × H)) (b : Bool) → passes q.1 ≡ b → newest name (passing passes (q ∷ ps)) ≡ (if b then or_else (newest name (passing passes ps)) (if bytes_eq q.0 name then Some q.1 else None) else newest name (passing passes ps))
  step q ps true e = rw e refl
  step q ps false e = rw e refl

  newest_none : (ps : List (List ℕ × H)) → newest name ps ≡ None → newest name (passing passes ps) ≡ None
  newest_none [] h = refl
  newest_none (q ∷ ps) h = by (newest name ps) refl (bytes_eq q.0 name) refl (passes q.1) refl (newest_none ps)
    where
      by : (o : Option H) → newest name ps ≡ o → (d : Bool) → bytes_eq q.0 name ≡ d → (b : Bool) → passes q.1 ≡ b → (newest name ps ≡ None → newest name (passing passes ps) ≡ None) → newest name (passing passes (q ∷ ps)) ≡ None
      by (Some x) e d k b m rest = absurd (cc (sym h ∙ ap (λ z. or_else z (if bytes_eq q.0 name then Some q.1 else None)) e))
      by None e true k b m rest = absurd (cc (sym h ∙ ap (λ z. or_else z (if bytes_eq q.0 name then Some q.1 else None)) e ∙ ap (λ d. cond d (Some q.1) None) k))
      by None e false k true m rest = step q ps true m ∙ ap (λ z. or_else z (if bytes_eq q.0 name then Some q.1 else None)) (rest e) ∙ ap (λ d. cond d (Some q.1) None) k
      by None e false k false m rest = step q ps false m ∙ rest e

  newest_passes : (ps : List (List ℕ × H)) (x : H) → newest name (passing passes ps) ≡ Some x → passes x ≡ true
  newest_passes [] x h = absurd (cc h)
  newest_passes (q ∷ ps) x h = by (passes q.1) refl (newest name (passing passes ps)) refl (bytes_eq q.0 name) refl (newest_passes ps)
    where
      by : (b : Bool) → passes q.1 ≡ b → (o : Option H) → newest name (passing passes ps) ≡ o → (d : Bool) → bytes_eq q.0 name ≡ d → ((y : H) → newest name (passing passes ps) ≡ Some y → passes y ≡ true) → passes x ≡ true
      by false m o e d k rest = rest x (sym (step q ps false m) ∙ h)
      by true m (Some y) e d k rest = rest x (e ∙ sym (ap (λ z. or_else z (if bytes_eq q.0 name then Some q.1 else None)) e) ∙ sym (step q ps true m) ∙ h)
      by true m None e true k rest =
          ap passes (sym (same_Some q.1 x (sym (ap (λ d. cond d (Some q.1) None) k) ∙ sym (ap (λ z. or_else z (if bytes_eq q.0 name then Some q.1 else None)) e) ∙ sym (step q ps true m) ∙ h))) ∙ m
      by true m None e false k rest = absurd (cc (sym (ap (λ d. cond d (Some q.1) None) k) ∙ sym (ap (λ z. or_else z (if bytes_eq q.0 name then Some q.1 else None)) e) ∙ sym (step q ps true m) ∙ h))

  newest_still : (ps : List (List ℕ × H)) (x : H) → newest name ps ≡ Some x → passes x ≡ true → newest name (passing passes ps) ≡ Some x
  newest_still [] x h p = absurd (cc h)
  newest_still (q ∷ ps) x h p = by (newest name ps) refl (bytes_eq q.0 name) refl (passes q.1) refl (newest_still ps)
    where
      by : (o : Option H) → newest name ps ≡ o → (d : Bool) → bytes_eq q.0 name ≡ d → (b : Bool) → passes q.1 ≡ b → ((y : H) → newest name ps ≡ Some y → passes y ≡ true → newest name (passing passes ps) ≡ Some y) → newest name (passing passes (q ∷ ps)) ≡ Some x
      by (Some y) e d k true m rest =
          let s : newest name ps ≡ Some x = e ∙ sym (ap (λ z. or_else z (if bytes_eq q.0 name then Some q.1 else None)) e) ∙ h in
          step q ps true m ∙ ap (λ z. or_else z (if bytes_eq q.0 name then Some q.1 else None)) (rest x s p)
      by (Some y) e d k false m rest =
          let s : newest name ps ≡ Some x = e ∙ sym (ap (λ z. or_else z (if bytes_eq q.0 name then Some q.1 else None)) e) ∙ h in
          step q ps false m ∙ rest x s p
      by None e true k true m rest =
          step q ps true m ∙ ap (λ z. or_else z (if bytes_eq q.0 name then Some q.1 else None)) (newest_none ps e ∙ sym e) ∙ h
      by None e true k false m rest =
          let s : q.1 ≡ x = same_Some q.1 x (sym (ap (λ d. cond d (Some q.1) None) k) ∙ sym (ap (λ z. or_else z (if bytes_eq q.0 name then Some q.1 else None)) e) ∙ h) in
          absurd (cc (sym p ∙ ap passes (sym s) ∙ m))
      by None e false k b m rest = absurd (cc (sym (ap (λ d. cond d (Some q.1) None) k) ∙ sym (ap (λ z. or_else z (if bytes_eq q.0 name then Some q.1 else None)) e) ∙ h))

cond_or : {X : Type 0} (b : Bool) (x : X) (a : Option X) → cond b (Some x) a ≡ or_else (cond b (Some x) None) a
cond_or true x a = refl
cond_or false x a = refl

shown_pushed : {H : Type 0} (items : List (Pair H)) (p : Pair H) → shown (items ++ p ∷ []) ≡ shown items ++ (string_bytes p.name, p.of) ∷ []
shown_pushed {H} items p = map-append (λ (q : Pair H). (string_bytes q.name, q.of)) items (p ∷ [])

module _ {H Y S : Type 0} (old new : HashMap (String Y) H S) where
  pub pushed : (items after : List (Pair H)) (p : Pair H) (name : List ℕ) → AreHeads old (shown items) → PutsHead old new name (Some p.of) → name ≡ string_bytes p.name → after ≡ items ++ p ∷ [] → AreHeads new (shown after)
  pushed items after p name heads puts e is = record {
    each = λ other. puts.each other ∙ ap (cond (bytes_eq name other) (Some p.of)) (heads.each other) ∙ cond_or (bytes_eq name other) p.of (newest other (shown items)) ∙ ap (λ z. or_else (cond (bytes_eq z other) (Some p.of) None) (newest other (shown items))) e ∙ sym (newest_pushed other (shown items) (string_bytes p.name, p.of)) ∙ ap (newest other) (sym (ap shown is ∙ shown_pushed items p));
  }

  pub removed : (ps qs : List (List ℕ × H)) (name : List ℕ) → AreHeads old ps → PutsHead old new name (newest name qs) → qs ≡ without_newest name ps → AreHeads new qs
  removed ps qs name heads puts is = record {
    each = λ other. by other (bytes_eq name other) refl;
  }
    where
      by : (other : List ℕ) (b : Bool) → bytes_eq name other ≡ b → get_by_text new other ≡ newest other qs
      by other true e = puts.each other ∙ ap (λ b. cond b (newest name qs) (get_by_text old other)) e ∙ ap (λ z. newest z qs) (same_name name other e)
      by other false e = puts.each other ∙ ap (λ b. cond b (newest name qs) (get_by_text old other)) e ∙ heads.each other ∙ sym (newest_kept name other ps e) ∙ ap (newest other) (sym is)

module _ {H Y S : Type 0} (heads : HashMap (String Y) H S) (ps : List (List ℕ × H)) where
  -- what has the same pairs has the same newest meanings
  pub unchanged : (qs : List (List ℕ × H)) → AreHeads heads ps → qs ≡ ps → AreHeads heads qs
  unchanged qs h e = subst (λ z. AreHeads heads z) (sym e) h

-- what each name has while failing handles are taken away, name after name of the front pairs
module _ {H : Type 0} (passes : H → Bool) (ps front : List (List ℕ × H)) (pair : List ℕ × H) where
  abbrev left : List (List ℕ × H) → List ℕ → Option H
  left pairs other = or_else (newest other (passing passes ps)) (if is_some (newest other pairs) then None else newest other ps)

  other_left : (other : List ℕ) → bytes_eq pair.0 other ≡ false → left (front ++ pair ∷ []) other ≡ left front other
  other_left other e = ap (λ o. or_else (newest other (passing passes ps)) (if is_some o then None else newest other ps)) (newest_pushed other front pair ∙ ap (λ b. or_else (cond b (Some pair.1) None) (newest other front)) e)

  same_left : (other : List ℕ) → bytes_eq pair.0 other ≡ true → left (front ++ pair ∷ []) other ≡ newest other (passing passes ps)
  same_left other e =
      ap (λ o. or_else (newest other (passing passes ps)) (if is_some o then None else newest other ps)) (newest_pushed other front pair ∙ ap (λ b. or_else (cond b (Some pair.1) None) (newest other front)) e) ∙ or_else_none (newest other (passing passes ps))

  dropped : (name : List ℕ) → option_map_or passes (left front name) true ≡ false → newest name (passing passes ps) ≡ None
  dropped name fails = by (newest name (passing passes ps)) refl
    where
      by : (o : Option H) → newest name (passing passes ps) ≡ o → newest name (passing passes ps) ≡ None
      by None e = e
      by (Some x) e = absurd (cc (sym fails ∙ ap (λ z. option_map_or passes (or_else z (if is_some (newest name front) then None else newest name ps)) true) e ∙ newest_passes passes name ps x e))

  kept_left : (name : List ℕ) → option_map_or passes (left front name) true ≡ true → left front name ≡ newest name (passing passes ps)
  kept_left name fine = by (newest name (passing passes ps)) refl (newest name front) refl (newest name ps) refl
    where
      shape : (o f n : Option H) → newest name (passing passes ps) ≡ o → newest name front ≡ f → newest name ps ≡ n → left front name ≡ or_else o (if is_some f then None else n)
      shape o f n e k m = ap (λ z. or_else z (if is_some (newest name front) then None else newest name ps)) e ∙ ap (λ z. or_else o (if is_some z then None else newest name ps)) k ∙ ap (λ z. or_else o (if is_some f then None else z)) m

      by : (o : Option H) → newest name (passing passes ps) ≡ o → (f : Option H) → newest name front ≡ f → (n : Option H) → newest name ps ≡ n → left front name ≡ newest name (passing passes ps)
      by (Some x) e f k n m = shape (Some x) f n e k m ∙ sym e
      by None e (Some x) k n m = shape None (Some x) n e k m ∙ sym e
      by None e None k None m = shape None None None e k m ∙ sym e
      by None e None k (Some y) m =
          absurd (cc (sym e ∙ newest_still passes name ps y m (sym (ap (λ z. option_map_or passes z true) (shape None None (Some y) e k m)) ∙ fine)))

module _ {H Y S : Type 0} (passes : H → Bool) (old : HashMap (String Y) H S) (ps front longer : List (List ℕ × H)) (pair : List ℕ × H) (is : longer ≡ front ++ pair ∷ []) (h : AreLeft passes old front ps) where
  left_put : (new : HashMap (String Y) H S) → option_map_or passes (get_by_text old pair.0) true ≡ false → PutsHead old new pair.0 None → AreLeft passes new longer ps
  left_put new fails puts = record { each = λ other. by other (bytes_eq pair.0 other) refl }
    where
      by : (other : List ℕ) (b : Bool) → bytes_eq pair.0 other ≡ b → get_by_text new other ≡ left passes ps front pair longer other
      by other true e = puts.each other ∙ ap (λ b. cond b None (get_by_text old other)) e ∙ sym (ap (λ z. left passes ps front pair z other) is ∙ same_left passes ps front pair other e ∙ ap (λ z. newest z (passing passes ps)) (sym (same_name pair.0 other e)) ∙ dropped passes ps front pair pair.0 (ap (λ z. option_map_or passes z true) (sym (h.each pair.0)) ∙ fails))
      by other false e = puts.each other ∙ ap (λ b. cond b None (get_by_text old other)) e ∙ h.each other ∙ sym (ap (λ z. left passes ps front pair z other) is ∙ other_left passes ps front pair other e)

  left_same : option_map_or passes (get_by_text old pair.0) true ≡ true → AreLeft passes old longer ps
  left_same fine = record { each = λ other. by other (bytes_eq pair.0 other) refl }
    where
      by : (other : List ℕ) (b : Bool) → bytes_eq pair.0 other ≡ b → get_by_text old other ≡ left passes ps front pair longer other
      by other true e = subst (λ z. get_by_text old z ≡ newest z (passing passes ps)) (same_name pair.0 other e) (h.each pair.0 ∙ kept_left passes ps front pair pair.0 (ap (λ z. option_map_or passes z true) (sym (h.each pair.0)) ∙ fine)) ∙ sym (ap (λ z. left passes ps front pair z other) is ∙ same_left passes ps front pair other e)
      by other false e = h.each other ∙ sym (ap (λ z. left passes ps front pair z other) is ∙ other_left passes ps front pair other e)

-- one pair further
module _ {H : Type 0} (items : List (Pair H)) (i : ℕ) (within : i < length items) (p : Pair H) (reads : p ≡ get_or items i p) where
  front_more : shown (take (i + 1) items) ≡ shown (take i items) ++ (string_bytes p.name, p.of) ∷ []
  front_more =
      ap shown (take_more items i p within ∙ ap (λ q. take i items ++ q ∷ []) (sym reads)) ∙ shown_pushed (take i items) p

  stands : slice_get (shown items) i ≡ Some (string_bytes p.name, p.of)
  stands =
      slice_get-map (λ (q : Pair H). (string_bytes q.name, q.of)) items i ∙ ap (option_map (λ (q : Pair H). (string_bytes q.name, q.of))) (slice_get_read items (length items) i p refl within reads)

  passing_more : (passes : H → Bool) (b : Bool) → passes p.of ≡ b → passing passes (shown (take (i + 1) items)) ≡ passing passes (shown (take i items)) ++ (if b then (string_bytes p.name, p.of) ∷ [] else [])
  passing_more passes b e = ap (passing passes) front_more ∙ filter-append (λ (z : List ℕ × H). passes z.1) (shown (take i items)) ((string_bytes p.name, p.of) ∷ []) ∙ ap (λ z. passing passes (shown (take i items)) ++ cond z ((string_bytes p.name, p.of) ∷ []) []) e

module _ {H Y S : Type 0} (passes : H → Bool) (items : List (Pair H)) (i : ℕ) (within : i < length items) (p : Pair H) (reads : p ≡ get_or items i p) (old new : HashMap (String Y) H S) where
  -- a pair that passes is the newest of its name so far
  pub raised_has : AreRaised passes old (shown (take i items)) (shown items) → IsSome (get_by_text old (string_bytes p.name))
  raised_has h =
      subst (λ z. IsSome z) (sym (h.each (string_bytes p.name))) (some_second (newest (string_bytes p.name) (passing passes (shown (take i items)))) (newest (string_bytes p.name) (shown items)) (has_newest (shown items) i (string_bytes p.name, p.of) (stands items i within p reads)))

  pub raised_pass : passes p.of ≡ true → AreRaised passes old (shown (take i items)) (shown items) → PutsHead old new (string_bytes p.name) (Some p.of) → AreRaised passes new (shown (take (i + 1) items)) (shown items)
  raised_pass e h puts = record {
    each = λ other. puts.each other ∙ ap (cond (bytes_eq (string_bytes p.name) other) (Some p.of)) (h.each other) ∙ cond_or (bytes_eq (string_bytes p.name) other) p.of (or_else (newest other (passing passes (shown (take i items)))) (newest other (shown items))) ∙ sym (or_else_assoc (cond (bytes_eq (string_bytes p.name) other) (Some p.of) None) (newest other (passing passes (shown (take i items)))) (newest other (shown items))) ∙ ap (λ z. or_else z (newest other (shown items))) (sym (newest_pushed other (passing passes (shown (take i items))) (string_bytes p.name, p.of)) ∙ ap (newest other) (sym (passing_more items i within p reads passes true e)));
  }

  pub raised_fail : passes p.of ≡ false → AreRaised passes old (shown (take i items)) (shown items) → new ≡ old → AreRaised passes new (shown (take (i + 1) items)) (shown items)
  raised_fail e h same = subst (λ z. AreRaised passes z (shown (take (i + 1) items)) (shown items)) (sym same) (record {
    each = λ other. h.each other ∙ ap (λ z. or_else (newest other z) (newest other (shown items))) (sym (passing_more items i within p reads passes false e ∙ append-nil (passing passes (shown (take i items)))));
  })

  -- the name of a pair is taken away where its handle fails
  pub left_drop : option_map_or passes (get_by_text old (string_bytes p.name)) true ≡ false → AreLeft passes old (shown (take i items)) (shown items) → PutsHead old new (string_bytes p.name) None → AreLeft passes new (shown (take (i + 1) items)) (shown items)
  left_drop fails h puts =
      left_put passes old (shown items) (shown (take i items)) (shown (take (i + 1) items)) (string_bytes p.name, p.of) (front_more items i within p reads) h new fails puts

  pub left_keep : option_map_or passes (get_by_text old (string_bytes p.name)) true ≡ true → AreLeft passes old (shown (take i items)) (shown items) → new ≡ old → AreLeft passes new (shown (take (i + 1) items)) (shown items)
  left_keep fine h same = subst (λ z. AreLeft passes z (shown (take (i + 1) items)) (shown items)) (sym same) (left_same passes old (shown items) (shown (take i items)) (shown (take (i + 1) items)) (string_bytes p.name, p.of) (front_more items i within p reads) h fine)
