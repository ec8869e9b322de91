-- Which entries make no model.
use Rattle.std.proofs.Common.{◌≡◌, ◌∙◌, ◌&&◌, ◌+◌, ◌<◌, ◌≤◌, ◌++◌, inl, inr, ⊎_elim, ℕ, zero, suc, Bool, true, false, not, List, [], ◌∷◌, Option, Some, None, length, take, get_or, refl, sym, ap, subst, arith, add-one}
use Rattle.std.specs.Prelude.{slice_get, IfNone}
use Rattle.std.specs.Option.{option_map}
use Rattle.std.proofs.lemmas.Option.{same_Some, slice_get_within}
use Rattle.std.proofs.lemmas.List.{take_all}
use Rattle.std.proofs.lemmas.Bool.{false≢true, cases_lt}
use Rattle.y_tree.specs.Sorts.{Sort, is_sort}
use Rattle.y_tree.specs.Tree.{Tree, Trees, node, none, more, constant}
use Rattle.y_tree.specs.Typing.{typed_over, are, sort_of, sorts_of}
use Rattle.y_tree.proofs.Sorted.{only_if_parts}
use Rattle.y_tree.specs.Values.{Value, has_sort}
use Rattle.y_tree.specs.declared.values.Value as code
use Rattle.term_shapes.specs.declared.handles.Term.{Term}
use Rattle.term_shapes.specs.declared.handles.TypeId.{TypeId}
use Rattle.term_shapes.specs.declared.shapes.Shape.{Shape}
use Rattle.term_shapes.specs.declared.shapes.Shape.TheVariants as shape
use Rattle.term_shapes.specs.declared.shapes.Node.{Node}
use Rattle.term_table.specs.World.{World, node_at, shape_at, type_at, type_shape_at, HasShape, KeepsType, AllKeep, Keeps, KeepsAll, IsTable}
use Rattle.term_shapes.specs.Shapes.{op_of, args_of, types_of}
use Rattle.term_table.specs.Checking.{HasSort}
use Rattle.term_table.specs.Functions.{IsFirstWith, NoneHas, HasAt}
use Rattle.term_table.proofs.Adding.{some_node}
use Rattle.term_table.proofs.Domains.{first_with, none_step, none_all}
use Rattle.term_table.proofs.PlainSorts.{dead_kept}
use Rattle.term_table.proofs.Sorting.{one_kept}
use Rattle.indexmap.specs.IndexSet.{insert_key}
use Rattle.term_shapes.specs.contracts.handles.TermPartialEq.TheImpl as term
use Rattle.term_orders.specs.Walk.{Inserts}
use Rattle.term_orders.proofs.Members.{put_is}
use Rattle.term_orders.specs.Orders.{IsIn, IsConstant, is_constant_shape}
use Rattle.model_eval.specs.Models.{plain_item, plain_items, terms_of, IsEntry, IsModel}
use Rattle.model_eval.specs.declared.errors.ModelError.{ModelError}
use Rattle.model_eval.specs.declared.errors.ModelError.TheVariants as model_error
use Rattle.model_eval.specs.Refusing.{IsDead, IsOther, IsWrong, IsAgain, IsFirstAgain, NoneAgain, Told, RefusesTwice, RefusesModel}

-- constants, by their shapes
constant_of : (w : World) (t : Term) (o : Option Shape) → shape_at w t ≡ o → is_constant_shape o ≡ true → IsConstant w t
constant_of w t (Some (shape.Const n of)) e h = record { number = n; of = of; has = e }
constant_of w t None e h = absurd (false≢true h)
constant_of w t (Some s) e h = absurd (false≢true h)

pub other_told : (w : World) (e : Term × Value) (b : Bool) → b ≡ is_constant_shape (shape_at w e.0) → Told (IsOther w e) (not b)
other_told w e true h = λ other. other (constant_of w e.0 (shape_at w e.0) refl (sym h))
other_told w e false h = λ k. false≢true (h ∙ ap is_constant_shape k.has)

pub dead_told : (w : World) (e : Term × Value) (o : Option Node) (b : Bool) → o ≡ node_at w e.0 → b ≡ true → Told (IsDead w e) b → node_at w e.0 ≡ None
dead_told w e o true i h d = d
dead_told w e o false i h d = absurd (false≢true h)

pub wrong_told : (w : World) (e : Term × Value) (of : TypeId) (k : Sort) (b : Bool) → type_at w e.0 ≡ Some of → KeepsType w of k → b ≡ has_sort e.1 k → Told (IsWrong w e) (not b)
wrong_told w e of k false has keeps h = (k, (of, has, keeps), sym h)
wrong_told w e of k true has keeps h = λ wrong.
    let same : wrong.1.0 ≡ of = same_Some wrong.1.0 of (sym wrong.1.1 ∙ has) in
    let sort : wrong.0 ≡ k = one_kept w wrong.0 k of (subst (λ z. KeepsType w z wrong.0) same wrong.1.2) keeps in
    false≢true (sym wrong.2 ∙ ap (has_sort e.1) sort ∙ sym h)

pub wrong_untyped : (w : World) (e : Term × Value) → type_at w e.0 ≡ None → IsWrong w e → ⊥
wrong_untyped w e h wrong = cc (sym h ∙ wrong.1.1)

pub wrong_dead : (w : World) (e : Term × Value) (of : TypeId) → type_at w e.0 ≡ Some of → type_shape_at w of ≡ None → IsWrong w e → ⊥
wrong_dead w e of has dead wrong =
    let same : wrong.1.0 ≡ of = same_Some wrong.1.0 of (sym wrong.1.1 ∙ has) in
    dead_kept w of wrong.0 dead (subst (λ z. KeepsType w z wrong.0) same wrong.1.2)

-- entries as contracts see them
pub plain_at : (es : List (Term × code.Value)) (i : ℕ) (d : Term × code.Value) → i < length es → slice_get (plain_items es) i ≡ Some (plain_item (get_or es i d))
plain_at [] i d h = absurd (omega (arith, h))
plain_at (e ∷ es) zero d h = refl
plain_at (e ∷ es) (suc i) d h = plain_at es i d (omega (arith, h))

pub plain_length : (es : List (Term × code.Value)) → length (plain_items es) ≡ length es
plain_length [] = refl
plain_length (e ∷ es) = ap suc (plain_length es)

told_at : (P : Term × Value → Type 0) (m : List (Term × Value)) (i : ℕ) (x : Term × Value) (b : Bool) → slice_get m i ≡ Some x → Told (P x) b → HasAt P m i b
told_at P m i x true at h = (x, at, h)
told_at P m i x false at h = λ y g p. h (subst P (same_Some y x (sym g ∙ at)) p)

module _ (P : Term × Value → Type 0) (es : List (Term × code.Value)) where
  -- none of the first entries has it
  abbrev pub NoneBefore : ℕ → Type 0
  NoneBefore i = (j : ℕ) (x : Term × Value) → j < i → slice_get (plain_items es) j ≡ Some x → P x → ⊥

  pub first_found : (i : ℕ) (d x : Term × code.Value) (b : Bool) → i < length es → x ≡ get_or es i d → Told (P (plain_item x)) b → b ≡ true → NoneBefore i → IsFirstWith P (plain_items es) (i + 1)
  first_found i d x b small at h e before = first_with P (plain_items es) i b e (told_at P (plain_items es) i (plain_item x) b (plain_at es i d small ∙ ap (λ z. Some (plain_item z)) (sym at)) h) before

  pub none_more : (i : ℕ) (d x : Term × code.Value) (b : Bool) → i < length es → x ≡ get_or es i d → Told (P (plain_item x)) b → b ≡ false → NoneBefore i → NoneBefore (i + 1)
  none_more i d x b small at h e before = none_step P (plain_items es) i b e (told_at P (plain_items es) i (plain_item x) b (plain_at es i d small ∙ ap (λ z. Some (plain_item z)) (sym at)) h) before

  pub none_found : (i : ℕ) → length es ≤ i → NoneBefore i → NoneHas P (plain_items es)
  none_found i done before = none_all P (plain_items es) i (omega (arith, plain_length es, done)) before

-- the terms of the first entries
terms_at : (m : List (Term × Value)) (i : ℕ) (e : Term × Value) → slice_get m i ≡ Some e → slice_get (terms_of m) i ≡ Some e.0
terms_at [] i e h = absurd (cc h)
terms_at (x ∷ m) zero e h = ap (λ (z : Term × Value). Some z.0) (same_Some x e h)
terms_at (x ∷ m) (suc i) e h = terms_at m i e h

at_terms : (m : List (Term × Value)) (i : ℕ) (t : Term) → slice_get (terms_of m) i ≡ Some t → (e : Term × Value) × (slice_get m i ≡ Some e) × (e.0 ≡ t)
at_terms [] i t h = absurd (cc h)
at_terms (x ∷ m) zero t h = (x, refl, same_Some x.0 t h)
at_terms (x ∷ m) (suc i) t h = at_terms m i t h

take_at : (ts : List Term) (i j : ℕ) (t : Term) → j < i → slice_get ts j ≡ Some t → slice_get (take i ts) j ≡ Some t
take_at [] i j t h e = absurd (cc e)
take_at (x ∷ ts) zero j t h e = absurd (omega (arith, h))
take_at (x ∷ ts) (suc i) zero t h e = e
take_at (x ∷ ts) (suc i) (suc j) t h e = take_at ts i j t (omega (arith, h)) e

at_take : (ts : List Term) (i j : ℕ) (t : Term) → slice_get (take i ts) j ≡ Some t → (j < i) × (slice_get ts j ≡ Some t)
at_take ts zero j t e = absurd (cc e)
at_take [] (suc i) j t e = absurd (cc e)
at_take (x ∷ ts) (suc i) zero t e = (omega arith, e)
at_take (x ∷ ts) (suc i) (suc j) t e = let r = at_take ts i j t e in (omega (arith, r.0), r.1)

one_more : (ts : List Term) (k : ℕ) (x : Term) → slice_get ts k ≡ Some x → take (suc k) ts ≡ take k ts ++ x ∷ []
one_more [] k x h = absurd (cc h)
one_more (y ∷ ts) zero x h = ap (λ z. z ∷ []) (same_Some y x h)
one_more (y ∷ ts) (suc k) x h = ap (λ z. y ∷ z) (one_more ts k x h)

-- the terms that have places are those of the first entries, and no entry is one again
pub record ArePlaced (es : List (Term × code.Value)) (i : ℕ) (keys : List Term) : Type 0 where
  pub keys_are : keys ≡ take i (terms_of (plain_items es))
  pub once : (j : ℕ) → j < i → IsAgain (plain_items es) j → ⊥

module _ (es : List (Term × code.Value)) (i : ℕ) (d : Term × code.Value) (small : i < length es) (keys : List Term) (p : ArePlaced es i keys) where
  here : slice_get (plain_items es) i ≡ Some (plain_item (get_or es i d))
  here = plain_at es i d small

  pub again_here : IsIn keys (get_or es i d).0 → IsFirstAgain (plain_items es) (i + 1)
  again_here h =
      let at = at_take (terms_of (plain_items es)) i h.place (get_or es i d).0 (subst (λ z. slice_get z h.place ≡ Some (get_or es i d).0) p.keys_are h.at) in
      let e = at_terms (plain_items es) h.place (get_or es i d).0 at.1 in
      record {
        others = i;
        behind = refl;
        again = record { earlier = h.place; below = at.0; first = e.0; second = plain_item (get_or es i d); there = e.1; here = here; same = e.2 };
        before = p.once;
      }

  pub placed_more : (new : List Term) → (IsIn keys (get_or es i d).0 → ⊥) → new ≡ keys ++ (get_or es i d).0 ∷ [] → ArePlaced es (i + 1) new
  placed_more new absent e = record {
    keys_are = e ∙ ap (λ z. z ++ (get_or es i d).0 ∷ []) p.keys_are ∙ sym (grown (terms_of (plain_items es)) i (get_or es i d).0 (terms_at (plain_items es) i (plain_item (get_or es i d)) here));
    once = λ j low again. ⊎_elim (λ h. p.once j h again) (λ h. let same : j ≡ i = omega (arith, h, low) in fresh (subst (IsAgain (plain_items es)) same again)) (cases_lt j i);
  }
    where
      grown : (ts : List Term) (k : ℕ) (x : Term) → slice_get ts k ≡ Some x → take (k + 1) ts ≡ take k ts ++ x ∷ []
      grown ts k x h = ap (λ z. take z ts) (add-one k) ∙ one_more ts k x h

      fresh : IsAgain (plain_items es) i → ⊥
      fresh again =
          let second : again.second ≡ plain_item (get_or es i d) = same_Some again.second (plain_item (get_or es i d)) (sym again.here ∙ here) in
          let term : again.first.0 ≡ (get_or es i d).0 = again.same ∙ ap (λ (z : Term × Value). z.0) second in
          let at = take_at (terms_of (plain_items es)) i again.earlier again.first.0 again.below (terms_at (plain_items es) again.earlier again.first again.there) in
          absent (record { place = again.earlier; at = ap (λ z. slice_get z again.earlier) p.keys_are ∙ at ∙ ap Some term })

pub placed_all : (es : List (Term × code.Value)) (i : ℕ) (keys : List Term) → length es ≤ i → ArePlaced es i keys → keys ≡ terms_of (plain_items es)
placed_all es i keys done p = p.keys_are ∙ take_all i (terms_of (plain_items es)) (omega (arith, done, terms_length (plain_items es), plain_length es))
  where
    terms_length : (m : List (Term × Value)) → length (terms_of m) ≡ length m
    terms_length [] = refl
    terms_length (x ∷ m) = ap suc (terms_length m)

pub none_again : (es : List (Term × code.Value)) (i : ℕ) (keys : List Term) → length es ≤ i → ArePlaced es i keys → NoneAgain (plain_items es)
none_again es i keys done p j again =
    p.once j (omega (arith, done, slice_get_within (plain_items es) j again.second again.here, plain_length es)) again

-- the type that a constant names stands for its term's sort
named_sort : (w : World) (of : TypeId) (n : ℕ) (l k : Sort) (as_ : Trees) → KeepsAll w [] as_ → typed_over (constant n l) (sorts_of as_) ≡ Some k → KeepsType w of l → KeepsType w of k
unfolding Keeps sort_of
named_sort w of n l k none kept e keeps = subst (KeepsType w of) (only_if_parts (are [] [] && is_sort l) l k e).1 keeps
named_sort w of n l k (more x rest) kept e keeps = absurd kept

constant_kept : (w : World) (t : Term) (n : ℕ) (of : TypeId) → HasShape w t (shape.Const n of) → (tree : Tree) (k : Sort) → Keeps w t tree → sort_of tree ≡ Some k → KeepsType w of k
unfolding Keeps sort_of
constant_kept w t n of has (node op as_) k (s, l, shaped, names, is, kept) e =
    let same : s ≡ shape.Const n of = same_Some s (shape.Const n of) (sym shaped ∙ has) in
    let named : AllKeep w (of ∷ []) l = subst (λ z. AllKeep w (types_of z) l) same names in
    let one : constant n l ≡ op = ap (λ z. op_of z l) (sym same) ∙ is in
    named_sort w of n l k as_ (subst (λ z. KeepsAll w (args_of z) as_) same kept) (ap (λ z. typed_over z (sorts_of as_)) one ∙ e) named.0

constant_sort : (w : World) (table : IsTable w) (t : Term) (n : ℕ) (of : TypeId) → HasShape w t (shape.Const n of) → (k : Sort) × KeepsType w of k × HasSort w t k
constant_sort w table t n of has =
    let node_there = some_node (node_at w t) (shape.Const n of) has in
    let g = table.grounded t node_there.0 node_there.1 in
    (g.1, constant_kept w t n of has g.0 g.1 g.2 g.4, (node_there.0.of, ap (option_map (λ (z : Node). z.of)) node_there.1, g.3))

-- values that nothing is wrong with are a model
pub model_by : (w : World) (table : IsTable w) (m : List (Term × Value)) → NoneHas (IsDead w) m → NoneHas (IsOther w) m → NoneHas (IsWrong w) m → NoneAgain m → IsModel w m
model_by w table m live consts right once = record {
  each = λ i e at. entry e (λ other. consts i e at other) (λ wrong. right i e at wrong) (is_constant_shape (shape_at w e.0)) refl;
  once = λ i j e f at there same. ⊎_elim
      (λ h. absurd (once j (record { earlier = i; below = h; first = e; second = f; there = at; here = there; same = same })))
      (λ h. ⊎_elim
      (λ g. absurd (once i (record { earlier = j; below = g; first = f; second = e; there = there; here = at; same = sym same })))
      (λ g. omega (arith, h, g))
      (cases_lt j i))
      (cases_lt i j);
}
  where
    typed_entry : (e : Term × Value) → (IsWrong w e → ⊥) → IsConstant w e.0 → IsEntry w e
    typed_entry e fits c =
        let r = constant_sort w table e.0 c.number c.of c.has in
        record { number = c.number; of = c.of; has = c.has; sort = r.0; keeps = r.1; value = fitting (has_sort e.1 r.0) refl }
      where
        fitting : (b : Bool) → has_sort e.1 (constant_sort w table e.0 c.number c.of c.has).0 ≡ b → has_sort e.1 (constant_sort w table e.0 c.number c.of c.has).0 ≡ true
        fitting true h = h
        fitting false h = absurd (fits ((constant_sort w table e.0 c.number c.of c.has).0, (constant_sort w table e.0 c.number c.of c.has).2, h))

    entry : (e : Term × Value) → (IsOther w e → ⊥) → (IsWrong w e → ⊥) → (o : Bool) → is_constant_shape (shape_at w e.0) ≡ o → IsEntry w e
    entry e const fits true at = typed_entry e fits (constant_of w e.0 (shape_at w e.0) refl at)
    entry e const fits false at = absurd (const (λ k. false≢true (sym at ∙ ap is_constant_shape k.has)))

-- where no place is found, there is none
pub none_there : (P : Type 0) (o : Option ℕ) → ((place : ℕ) → o ≡ Some place → ⊥) → IfNone o P → P
none_there P None h p = p
none_there P (Some place) h p = absurd (h place refl)

-- why values whose terms come twice are no model
pub refuses_twice : (w : World) (m : List (Term × Value)) → NoneHas (IsDead w) m → NoneHas (IsOther w) m → NoneHas (IsWrong w) m → (e : ModelError) → RefusesTwice m e → RefusesModel w m e
refuses_twice w m live consts right (model_error.Twice place) h = (live, consts, right, h)
refuses_twice w m live consts right model_error.NoMemory h = tt
refuses_twice w m live consts right (model_error.DeadTerm place) h = absurd h
refuses_twice w m live consts right (model_error.NotConstant place) h = absurd h
refuses_twice w m live consts right (model_error.WrongType place) h = absurd h

-- a term without a place is put last
pub put_new : (ks us : List Term) (t : Term) → us ≡ insert_key term.eq-value.it ks t → (IsIn ks t → ⊥) → us ≡ ks ++ t ∷ []
put_new ks us t is absent = by (put_is ks us t is)
  where
    by : Inserts ks t us → us ≡ ks ++ t ∷ []
    by (inl h) = absurd (absent h.0)
    by (inr h) = h.1
