-- Functions at arguments, and their updates.
use Rattle.std.proofs.Common.{◌≡◌, ◌∙◌, ◌++◌, true, List, [], ◌∷◌, Some, map, refl, sym, ap, subst}
use Rattle.std.specs.List.{list_all}
use Rattle.std.proofs.lemmas.List.{map-append}
use Rattle.std.proofs.lemmas.Bool.{and_parts, and_from}
use Rattle.y_tree.specs.Sorts.{Sort, Sorts, boolean, real, bit_vector, uninterpreted, is_sort, is_simple, are_simple, same_sorts, sorts}
use Rattle.y_tree.specs.Sorts as sort
use Rattle.y_tree.specs.Values.{Value, Values, truth, number, bits, element, function, none, more, values, call, value_at, has_sort, have_sorts, same_value, is_flat, are_flat}
use Rattle.y_tree.specs.Order.{is_formed, put_in}
use Rattle.y_tree.specs.Tree as tree
use Rattle.y_tree.specs.Typing.{typed, with_last}
use Rattle.y_tree.specs.Meaning.{Assignment, apply, updated, front, last}
use Rattle.y_tree.specs.Laws.{first_of}
use Rattle.y_tree.specs.declared.values.Value as code
use Rattle.y_tree.proofs.Sorted.{only_if_parts, sorts_same, apply_sorted, split_last}
use Rattle.y_tree.proofs.Put.{put_there, keeps_sorts}
use Rattle.y_tree.proofs.Equivalence.{alike, domain_simple, result_simple}
use Rattle.term_shapes.specs.declared.handles.Term.{Term}
use Rattle.term_shapes.specs.declared.shapes.Shape.{Shape}
use Rattle.term_shapes.specs.declared.shapes.Shape.TheVariants as shape
use Rattle.term_table.specs.World.{World}
use Rattle.model_eval.specs.Known.{found, AreKnown}
use Rattle.model_eval.specs.Evaluating.{IsReady, IsResult, IsApplied, applied}
use Rattle.model_eval.proofs.Made.{exact, known_sorted}
use Rattle.model_eval.proofs.Arms.{for}

-- values of sorts that are none of functions
flat_value : (v : Value) (k : Sort) → is_simple k ≡ true → has_sort v k ≡ true → is_flat v ≡ true
unfolding has_sort
flat_value (truth b) k e h = refl
flat_value (number q) k e h = refl
flat_value (bits n a) k e h = refl
flat_value (element n a) k e h = refl
flat_value (function es v) boolean e h = absurd (cc h)
flat_value (function es v) real e h = absurd (cc h)
flat_value (function es v) (bit_vector n) e h = absurd (cc h)
flat_value (function es v) (uninterpreted n) e h = absurd (cc h)
flat_value (function es v) (sort.function d p) e h = absurd (cc e)

flat_values : (vs : Values) (ss : Sorts) → are_simple ss ≡ true → have_sorts vs ss ≡ true → are_flat vs ≡ true
unfolding has_sort are_simple are_flat
flat_values none sort.none e h = refl
flat_values none (sort.more s ss) e h = absurd (cc h)
flat_values (more v vs) sort.none e h = absurd (cc h)
flat_values (more v vs) (sort.more s ss) e h =
    let ep = and_parts (is_simple s) (are_simple ss) e in
    let hp = and_parts (has_sort v s) (have_sorts vs ss) h in
    and_from (is_flat v) (are_flat vs) (flat_value v s ep.0 hp.0) (flat_values vs ss ep.1 hp.1)

flat_formed : (v : Value) → is_flat v ≡ true → is_formed v ≡ true
flat_formed (truth b) h = refl
flat_formed (number q) h = refl
flat_formed (bits n a) h = refl
flat_formed (element n a) h = refl
flat_formed (function es v) h = absurd (cc h)

-- the sorts at an application
record IsCall (f : Sort) (ss : List Sort) (k : Sort) : Type 0 where
  domain : Sorts
  result : Sort
  is : f ≡ sort.function domain result
  takes : domain ≡ sorts ss
  gives : result ≡ k

call_parts : (f : Sort) (ss : List Sort) (k : Sort) → typed tree.application (f ∷ ss) ≡ Some k → IsCall f ss k
call_parts (sort.function d p) ss k e =
    let q = only_if_parts (same_sorts d (sorts ss)) p k e in
    record { domain = d; result = p; is = refl; takes = sorts_same d (sorts ss) q.0; gives = q.1 }
call_parts boolean ss k e = absurd (cc e)
call_parts real ss k e = absurd (cc e)
call_parts (bit_vector n) ss k e = absurd (cc e)
call_parts (uninterpreted n) ss k e = absurd (cc e)

module _ (w : World) (a : Assignment) (es : List (Term × code.Value)) (s : Shape) where
  key_flat : (f : Term) (ts : List Term) (ss : List Sort) (k : Sort) → AreKnown es (f ∷ ts) ss → list_all is_sort ss ≡ true → typed tree.application ss ≡ Some k → are_flat (values (map (found es) ts)) ≡ true
  key_flat f ts [] k known lim e = absurd known
  key_flat f ts (l ∷ ss) k known lim e =
      let p = call_parts l ss k e in
      let fun : is_sort (sort.function p.domain p.result) ≡ true = subst (λ z. is_sort z ≡ true) p.is (and_parts (is_sort l) (list_all is_sort ss) lim).0 in
      let simple : are_simple (sorts ss) ≡ true = subst (λ z. are_simple z ≡ true) p.takes (domain_simple p.domain p.result fun) in
      flat_values (values (map (found es) ts)) (sorts ss) simple (known_sorted es ts ss known.1)

  pub call_flat : (f : Term) (ts : List Term) → s ≡ shape.App f ts → IsReady w es s → are_flat (values (map (found es) ts)) ≡ true
  call_flat f ts e r = let q = subst (IsReady w es) e r in key_flat f ts q.sorts q.result q.known q.limits q.takes

  first_formed : (f : Term) (ts : List Term) (ss : List Sort) → AreKnown es (f ∷ ts) ss → is_formed (found es f) ≡ true
  first_formed f ts [] known = absurd known
  first_formed f ts (l ∷ ss) known = known.0.formed

  pub call_formed : (f : Term) (ts : List Term) → s ≡ shape.App f ts → IsReady w es s → is_formed (found es f) ≡ true
  call_formed f ts e r = let q = subst (IsReady w es) e r in first_formed f ts q.sorts q.known

  simple_call : (ss : List Sort) (k : Sort) → list_all is_sort ss ≡ true → typed tree.application ss ≡ Some k → is_simple k ≡ true
  simple_call [] k lim e = absurd (cc e)
  simple_call (l ∷ ss) k lim e =
      let p = call_parts l ss k e in
      let fun : is_sort (sort.function p.domain p.result) ≡ true = subst (λ z. is_sort z ≡ true) p.is (and_parts (is_sort l) (list_all is_sort ss) lim).0 in
      subst (λ z. is_simple z ≡ true) p.gives (result_simple p.domain p.result fun)

  pub call_made : (f : Term) (ts : List Term) (v : Value) → s ≡ shape.App f ts → v ≡ call (found es f) (values (map (found es) ts)) → IsApplied w a es s v
  call_made f ts v e h = for w a es s (shape.App f ts) v e (exact w a es (shape.App f ts) v
      (λ r.
      let x = applied w a es (shape.App f ts) r in
      let has : has_sort x r.result ≡ true = apply_sorted tree.application (first_of r.sorts) r.sorts (map (found es) (f ∷ ts)) a r.result r.takes (known_sorted es (f ∷ ts) r.sorts r.known) in
      subst (λ z. is_formed z ≡ true) (sym h) (flat_formed x (flat_value x r.result (simple_call r.sorts r.result r.limits r.takes) has)))
      (λ r. h))

-- an update's arguments but the last, and the last
front_is : (x : Value) (xs : List Value) (y : Value) → front (x ∷ (xs ++ y ∷ [])) ≡ x ∷ xs
front_is x [] y = refl
front_is x (z ∷ zs) y = ap (λ r. x ∷ r) (front_is z zs y)

last_is : (x : Value) (xs : List Value) (y : Value) → last x (xs ++ y ∷ []) ≡ y
last_is x [] y = refl
last_is x (z ∷ zs) y = last_is z zs y

update_is : (k : Sort) (f : Value) (xs : List Value) (y : Value) (a : Assignment) → apply tree.update k (f ∷ (xs ++ y ∷ [])) a ≡ updated f xs y
update_is k f [] y a = refl
update_is k f (x ∷ xs) y a = ap (λ z. updated f z (last x (xs ++ y ∷ []))) (front_is x xs y) ∙ ap (updated f (x ∷ xs)) (last_is x xs y)

split_behind : (domain : Sorts) (result : Sort) (xs : List Value) (y : Value) → have_sorts (values (xs ++ y ∷ [])) (with_last domain result) ≡ true
    → (have_sorts (values xs) domain ≡ true) × (has_sort y result ≡ true)
split_behind domain result [] y h = split_last domain result y [] h
split_behind domain result (x ∷ xs) y h =
    let p = split_last domain result x (xs ++ y ∷ []) h in
    (subst (λ z. have_sorts (values z) domain ≡ true) (front_is x xs y) p.0, subst (λ z. has_sort z result ≡ true) (last_is x xs y) p.1)

-- both ways to write an update give one function
put_call : (f : Value) (domain : Sorts) (result : Sort) → has_sort f (sort.function domain result) ≡ true → (key : List Value) (v : Value) (k : Values) → call (put_in (values key) v f) k ≡ call (updated f key v) k
unfolding has_sort value_at
put_call (function es other) domain result h key v k = put_there (values key) v es other k
put_call (truth b) domain result h key v k = absurd (cc h)
put_call (number q) domain result h key v k = absurd (cc h)
put_call (bits n a) domain result h key v k = absurd (cc h)
put_call (element n a) domain result h key v k = absurd (cc h)

-- the sorts at an update
record IsChange (f : Sort) (ss : List Sort) (k : Sort) : Type 0 where
  domain : Sorts
  result : Sort
  is : f ≡ sort.function domain result
  takes : with_last domain result ≡ sorts ss
  gives : sort.function domain result ≡ k

change_parts : (f : Sort) (ss : List Sort) (k : Sort) → typed tree.update (f ∷ ss) ≡ Some k → IsChange f ss k
change_parts (sort.function d p) ss k e =
    let q = only_if_parts (same_sorts (with_last d p) (sorts ss)) (sort.function d p) k e in
    record { domain = d; result = p; is = refl; takes = sorts_same (with_last d p) (sorts ss) q.0; gives = q.1 }
change_parts boolean ss k e = absurd (cc e)
change_parts real ss k e = absurd (cc e)
change_parts (bit_vector n) ss k e = absurd (cc e)
change_parts (uninterpreted n) ss k e = absurd (cc e)

module _ (w : World) (a : Assignment) (es : List (Term × code.Value)) (s : Shape) where
  changed_by : (f : Term) (ts : List Term) (y : Term) (v : Value) (ss : List Sort) (k : Sort) → AreKnown es (f ∷ (ts ++ y ∷ [])) ss → list_all is_sort ss ≡ true → typed tree.update ss ≡ Some k
      → v ≡ put_in (values (map (found es) ts)) (found es y) (found es f) → is_formed v ≡ true → IsResult k (apply tree.update (first_of ss) (map (found es) (f ∷ (ts ++ y ∷ []))) a) v
  changed_by f ts y v [] k known lim e h formed = absurd known
  changed_by f ts y v (l ∷ ss) k known lim e h formed =
      let p = change_parts l ss k e in
      let fun = sort.function p.domain p.result in
      let xs = map (found es) ts in
      let x = found es y in
      let g = found es f in
      let limit : is_sort fun ≡ true = subst (λ z. is_sort z ≡ true) p.is (and_parts (is_sort l) (list_all is_sort ss) lim).0 in
      let has_f : has_sort g fun ≡ true = subst (λ z. has_sort g z ≡ true) p.is known.0.has in
      let all : have_sorts (values (map (found es) (ts ++ y ∷ []))) (sorts ss) ≡ true = known_sorted es (ts ++ y ∷ []) ss known.1 in
      let joined : map (found es) (ts ++ y ∷ []) ≡ xs ++ x ∷ [] = map-append (found es) ts (y ∷ []) in
      let parts = split_behind p.domain p.result xs x (subst (λ z. have_sorts (values (xs ++ x ∷ [])) z ≡ true) (sym p.takes) (subst (λ z. have_sorts (values z) (sorts ss) ≡ true) joined all)) in
      let meant : apply tree.update l (map (found es) (f ∷ (ts ++ y ∷ []))) a ≡ updated g xs x = ap (λ z. apply tree.update l (g ∷ z) a) joined ∙ update_is l g xs x a in
      let has_new : has_sort (put_in (values xs) x g) fun ≡ true = keeps_sorts (values xs) x g (put_in (values xs) x g) refl p.domain p.result has_f parts.0 parts.1 in
      let has_meant : has_sort (apply tree.update l (map (found es) (f ∷ (ts ++ y ∷ []))) a) k ≡ true = apply_sorted tree.update l (l ∷ ss) (map (found es) (f ∷ (ts ++ y ∷ []))) a k e (known_sorted es (f ∷ (ts ++ y ∷ [])) (l ∷ ss) known) in
      let has_up : has_sort (updated g xs x) fun ≡ true = subst (λ z. has_sort z fun ≡ true) meant (subst (λ z. has_sort (apply tree.update l (map (found es) (f ∷ (ts ++ y ∷ []))) a) z ≡ true) (sym p.gives) has_meant) in
      let same : same_value fun (put_in (values xs) x g) (updated g xs x) ≡ true = alike p.domain p.result (put_in (values xs) x g) (updated g xs x) (record { limits = limit; left = has_new; right = has_up }) (λ key q. put_call g p.domain p.result has_f xs x key) in
      let made : IsResult fun (updated g xs x) v = record {
        has = subst (λ z. has_sort z fun ≡ true) (sym h) has_new;
        formed = formed;
        same = subst (λ z. same_value fun z (updated g xs x) ≡ true) (sym h) same;
      } in
      subst (λ z. IsResult z (apply tree.update l (map (found es) (f ∷ (ts ++ y ∷ []))) a) v) p.gives (subst (λ z. IsResult fun z v) (sym meant) made)

  pub update_made : (f : Term) (ts : List Term) (y : Term) (v : Value) → s ≡ shape.Update f ts y → v ≡ put_in (values (map (found es) ts)) (found es y) (found es f) → is_formed v ≡ true → IsApplied w a es s v
  update_made f ts y v e h formed = for w a es s (shape.Update f ts y) v e (λ r. changed_by f ts y v r.sorts r.result r.known r.limits r.takes h formed)

  first_of_update : (f : Term) (ts : List Term) (ss : List Sort) → AreKnown es (f ∷ ts) ss → is_formed (found es f) ≡ true
  first_of_update f ts [] known = absurd known
  first_of_update f ts (l ∷ ss) known = known.0.formed

  pub update_formed : (f : Term) (ts : List Term) (y : Term) → s ≡ shape.Update f ts y → IsReady w es s → is_formed (found es f) ≡ true
  update_formed f ts y e r = let q = subst (IsReady w es) e r in first_of_update f (ts ++ y ∷ []) q.sorts q.known
