-- The newest meaning of a name.
use Rattle.std.proofs.Common.{◌≡◌, ◌∙◌, ◌-◌, ◌<◌, ◌≤◌, get_or, ℕ, zero, suc, Bool, true, false, cond, if◌then◌else◌, List, [], ◌∷◌, Option, Some, None, is_some, length, map, drop, refl, sym, ap, arith}
use Rattle.std.specs.Prelude.{slice_get, remove, string_bytes}
use Rattle.std.specs.Option.{option_map}
use Rattle.std.specs.List.{filter}
use Rattle.std.specs.Str.{bytes_eq}
use Rattle.std.proofs.lemmas.Option.{same_Some, slice_get_read, slice_get-map}
use Rattle.name_stacks.specs.Names.{newest, without_newest, oldest_name, or_else, IsNewest}
use Rattle.name_stacks.specs.Heads.{shown}
use Rattle.name_stacks.specs.declared.names.Pair.{Pair}

module _ {H : Type 0} (name : List ℕ) where
  -- one pair further to the front
  pub newest_step : (ps : List (List ℕ × H)) (i : ℕ) (p : List ℕ × H) → slice_get ps i ≡ Some p → bytes_eq p.0 name ≡ false → newest name (drop (suc i) ps) ≡ None → newest name (drop i ps) ≡ None
  newest_step [] i p at differs rest = absurd (cc at)
  newest_step (q ∷ ps) zero p at differs rest =
      ap (λ o. or_else o (if bytes_eq q.0 name then Some q.1 else None)) rest ∙ ap (λ b. cond b (Some q.1) None) (ap (λ (z : List ℕ × H). bytes_eq z.0 name) (same_Some q p at) ∙ differs)
  newest_step (q ∷ ps) (suc i) p at differs rest = newest_step ps i p at differs rest

  -- the pair that was found
  pub newest_found : (ps : List (List ℕ × H)) (i : ℕ) (p : List ℕ × H) → slice_get ps i ≡ Some p → bytes_eq p.0 name ≡ true → newest name (drop (suc i) ps) ≡ None → (newest name ps ≡ Some p.1) × (without_newest name ps ≡ remove ps i)
  newest_found [] i p at same rest = absurd (cc at)
  newest_found (q ∷ ps) zero p at same rest =
      let is = same_Some q p at in
      let test = ap (λ (z : List ℕ × H). bytes_eq z.0 name) is ∙ same in (
        ap (λ o. or_else o (if bytes_eq q.0 name then Some q.1 else None)) rest ∙ ap (λ b. cond b (Some q.1) None) test ∙ ap (λ (z : List ℕ × H). Some z.1) is,
        ap (λ o. if is_some o then q ∷ without_newest name ps else (if bytes_eq q.0 name then ps else q ∷ ps)) rest ∙ ap (λ b. if b then ps else q ∷ ps) test,
      )
  newest_found (q ∷ ps) (suc i) p at same rest =
      let deeper = newest_found ps i p at same rest in (
        ap (λ o. or_else o (if bytes_eq q.0 name then Some q.1 else None)) deeper.0,
        ap (λ o. if is_some o then q ∷ without_newest name ps else (if bytes_eq q.0 name then ps else q ∷ ps)) deeper.0 ∙ ap (λ zs. q ∷ zs) deeper.1,
      )

  pub drop_end : (ps : List (List ℕ × H)) (n : ℕ) → length ps ≤ n → newest name (drop n ps) ≡ None
  drop_end [] zero h = refl
  drop_end [] (suc n) h = refl
  drop_end (q ∷ ps) zero h = absurd (omega (arith, h))
  drop_end (q ∷ ps) (suc n) h = drop_end ps n (omega (arith, h))

-- the same over the pairs as they are kept
module _ {H : Type 0} (name : List ℕ) (items : List (Pair H)) where
  module _ (at : ℕ) (positive : 0 < at) (within : at ≤ length items) (p : Pair H) (reads : p ≡ get_or items (at - 1) p) (rest : newest name (drop at (shown items)) ≡ None) where
    stands : slice_get (shown items) (at - 1) ≡ Some (string_bytes p.name, p.of)
    stands =
        slice_get-map (λ (q : Pair H). (string_bytes q.name, q.of)) items (at - 1) ∙ ap (option_map (λ (q : Pair H). (string_bytes q.name, q.of))) (slice_get_read items (length items) (at - 1) p refl (omega (arith, positive, within)) reads)

    behind : newest name (drop (suc (at - 1)) (shown items)) ≡ None
    behind =
        let e : suc (at - 1) ≡ at = omega (arith, positive) in ap (λ n. newest name (drop n (shown items))) e ∙ rest

    pub last_found : bytes_eq (string_bytes p.name) name ≡ true → IsNewest name (shown items) (at - 1)
    last_found same =
        let found = newest_found name (shown items) (at - 1) (string_bytes p.name, p.of) stands same behind in record {
          pair = (string_bytes p.name, p.of);
          at = stands;
          newest = found.0;
          without = found.1;
        }

    pub last_step : bytes_eq (string_bytes p.name) name ≡ false → newest name (drop (at - 1) (shown items)) ≡ None
    last_step differs =
        newest_step name (shown items) (at - 1) (string_bytes p.name, p.of) stands differs behind

-- without a meaning nothing is taken away
pub unnamed : {H : Type 0} (name : List ℕ) (ps : List (List ℕ × H)) → newest name ps ≡ None → ps ≡ without_newest name ps
unnamed name [] h = refl
unnamed {H} name (p ∷ ps) h = by (newest name ps) refl (bytes_eq p.0 name) refl
  where
    by : (o : Option H) → newest name ps ≡ o → (b : Bool) → bytes_eq p.0 name ≡ b → p ∷ ps ≡ without_newest name (p ∷ ps)
    by (Some x) e b k = absurd (cc (sym h ∙ ap (λ z. or_else z (if bytes_eq p.0 name then Some p.1 else None)) e))
    by None e true k = absurd (cc (sym h ∙ ap (λ z. or_else z (if bytes_eq p.0 name then Some p.1 else None)) e ∙ ap (λ b. cond b (Some p.1) None) k))
    by None e false k =
        sym (ap (λ o. if is_some o then p ∷ without_newest name ps else (if bytes_eq p.0 name then ps else p ∷ ps)) e ∙ ap (λ b. if b then ps else p ∷ ps) k)

pub map_remove : {X Y : Type 0} (f : X → Y) (xs : List X) (i : ℕ) → map f (remove xs i) ≡ remove (map f xs) i
map_remove f [] zero = refl
map_remove f [] (suc i) = refl
map_remove f (x ∷ xs) zero = refl
map_remove f (x ∷ xs) (suc i) = ap (λ zs. f x ∷ zs) (map_remove f xs i)

pub filter_map : {X Y : Type 0} (f : X → Y) (test : Y → Bool) (xs : List X) → map f (filter (λ x. test (f x)) xs) ≡ filter test (map f xs)
filter_map f test [] = refl
filter_map {X} f test (x ∷ xs) = by (filter_map f test xs) (test (f x)) refl
  where
    by : map f (filter (λ z. test (f z)) xs) ≡ filter test (map f xs) → (b : Bool) → test (f x) ≡ b → map f (filter (λ z. test (f z)) (x ∷ xs)) ≡ filter test (map f (x ∷ xs))
    by rest true e = rw e (ap (λ zs. f x ∷ zs) rest)
    by rest false e = rw e rest

-- the name of the oldest pair with a handle
module _ {H : Type 0} (same : H → H → Bool) (of : H) where
  pub oldest_here : (ps : List (List ℕ × H)) (i : ℕ) (p : List ℕ × H) → slice_get ps i ≡ Some p → same of p.1 ≡ true → oldest_name same of (drop i ps) ≡ Some p.0
  oldest_here [] i p at is = absurd (cc at)
  oldest_here (q ∷ ps) zero p at is =
      ap (λ b. if b then Some q.0 else oldest_name same of ps) (ap (λ (z : List ℕ × H). same of z.1) (same_Some q p at) ∙ is) ∙ ap (λ (z : List ℕ × H). Some z.0) (same_Some q p at)
  oldest_here (q ∷ ps) (suc i) p at is = oldest_here ps i p at is

  pub oldest_step : (ps : List (List ℕ × H)) (i : ℕ) (p : List ℕ × H) → slice_get ps i ≡ Some p → same of p.1 ≡ false → oldest_name same of (drop i ps) ≡ oldest_name same of (drop (suc i) ps)
  oldest_step [] i p at is = absurd (cc at)
  oldest_step (q ∷ ps) zero p at is =
      ap (λ b. if b then Some q.0 else oldest_name same of ps) (ap (λ (z : List ℕ × H). same of z.1) (same_Some q p at) ∙ is)
  oldest_step (q ∷ ps) (suc i) p at is = oldest_step ps i p at is

  pub oldest_end : (ps : List (List ℕ × H)) (n : ℕ) → length ps ≤ n → oldest_name same of (drop n ps) ≡ None
  oldest_end [] zero h = refl
  oldest_end [] (suc n) h = refl
  oldest_end (q ∷ ps) zero h = absurd (omega (arith, h))
  oldest_end (q ∷ ps) (suc n) h = oldest_end ps n (omega (arith, h))

-- the same over the pairs as they are kept
module _ {H : Type 0} (same : H → H → Bool) (of : H) (items : List (Pair H)) (at : ℕ) (within : at < length items) (p : Pair H) (reads : p ≡ get_or items at p) where
  abbrev pairs : List (List ℕ × H)
  pairs = map (λ (q : Pair H). (string_bytes q.name, q.of)) items

  read : slice_get pairs at ≡ Some (string_bytes p.name, p.of)
  read =
      slice_get-map (λ (q : Pair H). (string_bytes q.name, q.of)) items at ∙ ap (option_map (λ (q : Pair H). (string_bytes q.name, q.of))) (slice_get_read items (length items) at p refl within reads)

  pub name_here : same of p.of ≡ true → oldest_name same of (drop at pairs) ≡ Some (string_bytes p.name)
  name_here is = oldest_here same of pairs at (string_bytes p.name, p.of) read is

  pub name_step : same of p.of ≡ false → oldest_name same of (drop at pairs) ≡ oldest_name same of (drop (suc at) pairs)
  name_step differs = oldest_step same of pairs at (string_bytes p.name, p.of) read differs

pub name_end : {H : Type 0} (same : H → H → Bool) (of : H) (items : List (Pair H)) (n : ℕ) → length items ≤ n → oldest_name same of (drop n (map (λ (q : Pair H). (string_bytes q.name, q.of)) items)) ≡ None
name_end same of [] n h = oldest_end same of [] n h
name_end same of (q ∷ items) zero h = absurd (omega (arith, h))
name_end same of (q ∷ items) (suc n) h = name_end same of items n (omega (arith, h))
