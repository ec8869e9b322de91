-- Truth values that a check found, as a model of the table.
use Rattle.std.proofs.Common.{◌≡◌, ◌∙◌, ℕ, ◌+◌, ◌<◌, ◌≤◌, length, take, get_or, ◌++◌, Bool, true, false, ◌&&◌, ◌==◌, List, [], ◌∷◌, map, Option, Some, refl, sym, ap, subst, arith, if◌then◌else◌}
use Rattle.std.specs.Prelude.{slice_get}
use Rattle.std.proofs.lemmas.Bool.{and_parts}
use Rattle.std.proofs.lemmas.List.{map_more, take_all}
use Rattle.std.specs.Option.{option_map}
use Rattle.std.proofs.lemmas.Option.{same_Some, slice_get-map}
use Rattle.y_tree.specs.Sorts.{Sort, boolean, real, bit_vector, uninterpreted, is_sort}
use Rattle.y_tree.specs.Sorts as sort
use Rattle.y_tree.specs.Values.{Value, truth, has_sort, zero_of}
use Rattle.y_tree.specs.Tree.{constant, Tree, Trees, node, none, more}
use Rattle.y_tree.specs.Typing.{only_if, are, sort_of}
use Rattle.y_tree.specs.Meaning.{Assignment, value_in, meaning}
use Rattle.y_tree.specs.Laws.{SameSortIsEqual}
use Rattle.term_shapes.specs.declared.handles.Term.{Term}
use Rattle.term_shapes.specs.declared.handles.TypeId.{TypeId}
use Rattle.term_shapes.specs.declared.shapes.Shape.{Shape}
use Rattle.term_shapes.specs.declared.shapes.Shape.TheVariants as shape
use Rattle.term_shapes.specs.Shapes.{op_of, types_of}
use Rattle.term_table.specs.World.{World, node_at, shape_at, HasShape, KeepsType, AllKeep, Keeps, KeepsAll, IsTable}
use Rattle.term_table.specs.Checking.{HasSort}
use Rattle.term_table.proofs.Adding.{some_node}
use Rattle.term_orders.specs.Orders.{IsIn, IsConstant}
use Rattle.term_build.proofs.Called.{tree_is}
use Rattle.term_build.proofs.Sorted.{tree_sorted}
use Rattle.term_checks.specs.Answers.{IsValueAt, constant_number, assignment_by}
use Rattle.term_checks.specs.Answers as found
use Rattle.node_encoding.specs.Nodes.{entry_of}
use Rattle.stamped_slots.proofs.Lists.{map_some}
use Rattle.model_eval.specs.declared.errors.ModelError.{ModelError}
use Rattle.model_eval.specs.declared.errors.ModelError.TheVariants as model_error
use Rattle.model_eval.specs.Models.{shown, sort_in, number_of, numbered, assignment_of}
use Rattle.model_eval.specs.Refusing.{IsDead, IsOther, IsWrong, IsAgain, RefusesModel}

-- terms with truth values, as terms with values
abbrev pub as_value : Term × Bool → Term × Value
as_value e = (e.0, truth e.1)

abbrev pub as_values : List (Term × Bool) → List (Term × Value)
as_values es = map as_value es

-- they make the assignment that the check speaks of
shown_truth : (k : Sort) (b : Bool) → shown k (truth b) ≡ truth b
shown_truth (sort.function d r) b = refl
shown_truth boolean b = refl
shown_truth real b = refl
shown_truth (bit_vector n) b = refl
shown_truth (uninterpreted k) b = refl

abbrev by_truth : ℕ × Bool → ℕ × Value
by_truth e = (e.0, truth e.1)

number_same : (w : World) (o : Option Shape) (b : Bool) → number_of w o (truth b) ≡ map by_truth (entry_of (constant_number o) b)
number_same w (Some (shape.Const n of)) b = ap (λ v. (n, v) ∷ []) (shown_truth (sort_in w of) b)
number_same w _ b = refl

map_joined : {X Y : Type 0} (f : X → Y) (xs ys : List X) → map f (xs ++ ys) ≡ map f xs ++ map f ys
map_joined f [] ys = refl
map_joined f (x ∷ xs) ys = ap (λ zs. f x ∷ zs) (map_joined f xs ys)

numbers_same : (w : World) (es : List (Term × Bool)) → numbered w (as_values es) ≡ map by_truth (found.numbered w es)
unfolding numbered
numbers_same w [] = refl
numbers_same w (e ∷ es) =
    ap (λ ns. ns ++ numbered w (as_values es)) (number_same w (shape_at w e.0) e.1)
    ∙ ap (λ ns. map by_truth (entry_of (constant_number (shape_at w e.0)) e.1) ++ ns) (numbers_same w es)
    ∙ sym (map_joined by_truth (entry_of (constant_number (shape_at w e.0)) e.1) (found.numbered w es))

pub same_assignment : (w : World) (es : List (Term × Bool)) → assignment_of w (as_values es) ≡ assignment_by w es
unfolding assignment_of
same_assignment w es = ap (λ ns. let a : Assignment = record { constants = ns; variables = [] } in a) (numbers_same w es)

-- a constant that means a truth value has one of its type
zero_has : (k : Sort) (b : Bool) → zero_of k ≡ truth b → has_sort (truth b) k ≡ true
unfolding zero_of has_sort
zero_has boolean b e = refl
zero_has real b e = absurd (cc e)
zero_has (bit_vector n) b e = absurd (cc e)
zero_has (uninterpreted k) b e = absurd (cc e)
zero_has (sort.function d r) b e = absurd (cc e)

value_has : (es : List (ℕ × Value)) (n : ℕ) (k : Sort) (b : Bool) → value_in es n k ≡ truth b → has_sort (truth b) k ≡ true
value_has [] n k b h = zero_has k b h
value_has (e ∷ es) n k b h = by ((e.0 == n) && has_sort e.1 k) refl h (value_has es n k b)
  where
    by : (c : Bool) → ((e.0 == n) && has_sort e.1 k) ≡ c → (if c then e.1 else value_in es n k) ≡ truth b → (value_in es n k ≡ truth b → has_sort (truth b) k ≡ true) → has_sort (truth b) k ≡ true
    by true is h rest = subst (λ v. has_sort v k ≡ true) h (and_parts (e.0 == n) (has_sort e.1 k) is).1
    by false is h rest = rest h

-- a constant with a truth value: its type has it, and its tree is that of the constant
record IsTruth (w : World) (t : Term) (b : Bool) : Type 0 where
  pub number : ℕ
  pub of : TypeId
  pub has : HasShape w t (shape.Const number of)
  pub sort : Sort
  pub keeps : KeepsType w of sort
  pub kept : Keeps w t (node (constant number sort) none)
  pub value : has_sort (truth b) sort ≡ true

no_trees : (w : World) (ds : Trees) → KeepsAll w [] ds → ds ≡ none
unfolding Keeps
no_trees w none h = refl
no_trees w (more d ds) h = absurd h

constant_truth : (w : World) (s : Assignment) (t : Term) (b : Bool) (a : Tree) → IsConstant w t → Keeps w t a → meaning a s ≡ truth b → IsTruth w t b
unfolding Keeps meaning
constant_truth w s t b (node op ds) c (form, k, has, names, is, args) means =
    let e : form ≡ shape.Const c.number c.of = same_Some form (shape.Const c.number c.of) (sym has ∙ c.has) in
    let named : AllKeep w (c.of ∷ []) k = subst (λ z. AllKeep w (types_of z) k) e names in
    let op_is : constant c.number k ≡ op = ap (λ z. op_of z k) (sym e) ∙ is in record {
      number = c.number;
      of = c.of;
      has = c.has;
      sort = k;
      keeps = named.0;
      kept = (shape.Const c.number c.of, k, c.has, named, refl, tt);
      value = value_has s.constants c.number k b (ap (λ o. meaning (node o ds) s) op_is ∙ means);
    }

-- its type is that of its tree
gives_both : (b : Bool) (s k : Sort) → only_if b s ≡ Some k → s ≡ k
gives_both true s k h = same_Some s k h
gives_both false s k h = absurd (cc h)

constant_sort : (n : ℕ) (s k : Sort) → sort_of (node (constant n s) none) ≡ Some k → s ≡ k
unfolding sort_of
constant_sort n s k e = gives_both (are [] [] && is_sort s) s k e

module _ (w : World) (table : IsTable w) (law : SameSortIsEqual) where
  truth_sort : (t : Term) (b : Bool) (k : Sort) (is : IsTruth w t b) → HasSort w t k → is.sort ≡ k
  truth_sort t b k is h =
      let sorted = tree_sorted w table law t k h in constant_sort is.number is.sort k (ap sort_of (sym (tree_is w table t (node (constant is.number is.sort) none) is.kept)) ∙ sorted.0)

  module _ (fs as_ : List Term) (values : List (Term × Bool)) (model : found.IsModel w fs as_ values) where
    -- each entry is a constant with a truth value of its type
    entry_truth : (i : ℕ) (e : Term × Bool) → slice_get values i ≡ Some e → IsTruth w e.0 e.1
    entry_truth i e at =
        let v : IsValueAt w (assignment_by w values) e = model.agree i e at in
        let c : IsIn (map (λ (x : Term × Bool). x.0) values) e.0 = record { place = i; at = slice_get-map (λ (x : Term × Bool). x.0) values i ∙ ap (option_map (λ (x : Term × Bool). x.0)) at } in
        constant_truth w (assignment_by w values) e.0 e.1 v.tree (model.constants.constant e.0 c).0 v.kept v.value

    was_there : (i : ℕ) (e : Term × Value) → slice_get (as_values values) i ≡ Some e → (x : Term × Bool) × (slice_get values i ≡ Some x) × (as_value x ≡ e)
    was_there i e at = map_some as_value values i e at

    none_dead : (i : ℕ) (e : Term × Value) → slice_get (as_values values) i ≡ Some e → IsDead w e → ⊥
    none_dead i e at dead =
        let x = was_there i e at in
        let n = some_node (node_at w x.0.0) (shape.Const (entry_truth i x.0 x.1).number (entry_truth i x.0 x.1).of) (entry_truth i x.0 x.1).has in
        absurd (cc (sym dead ∙ ap (λ (z : Term × Value). node_at w z.0) (sym x.2) ∙ n.1))

    none_other : (i : ℕ) (e : Term × Value) → slice_get (as_values values) i ≡ Some e → IsOther w e → ⊥
    none_other i e at other =
        let x = was_there i e at in
        let c = entry_truth i x.0 x.1 in other (subst (λ (z : Term × Value). IsConstant w z.0) x.2 (record { number = c.number; of = c.of; has = c.has }))

    none_wrong : (i : ℕ) (e : Term × Value) → slice_get (as_values values) i ≡ Some e → IsWrong w e → ⊥
    none_wrong i e at wrong = by (was_there i e at) wrong
      where
        by : (x : Term × Bool) × (slice_get values i ≡ Some x) × (as_value x ≡ e) → IsWrong w e → ⊥
        by (x, there, is) wrong =
            let back : IsWrong w (as_value x) = subst (IsWrong w) (sym is) wrong in
            let c = entry_truth i x there in
            absurd (cc (sym back.2 ∙ ap (λ k. has_sort (truth x.1) k) (sym (truth_sort x.0 x.1 back.0 c back.1)) ∙ c.value))

    none_again : (i : ℕ) → IsAgain (as_values values) i → ⊥
    none_again i again =
        let x = was_there again.earlier again.first again.there in
        let y = was_there i again.second again.here in
        let first_term : (t : Term) × (t ≡ again.first.0) = (x.0.0, ap (λ (z : Term × Value). z.0) x.2) in
        let at_first = slice_get-map (λ (z : Term × Bool). z.0) values again.earlier ∙ ap (option_map (λ (z : Term × Bool). z.0)) x.1 ∙ ap Some (ap (λ (z : Term × Value). z.0) x.2) in
        let at_second = slice_get-map (λ (z : Term × Bool). z.0) values i ∙ ap (option_map (λ (z : Term × Bool). z.0)) y.1 ∙ ap Some (ap (λ (z : Term × Value). z.0) y.2 ∙ sym again.same) in
        absurd (omega (arith, again.below, model.constants.once again.earlier i again.first.0 at_first at_second))

    -- so nothing but memory is refused where they are made a model
    pub only_memory : (e : ModelError) → RefusesModel w (as_values values) e → e ≡ model_error.NoMemory
    only_memory (model_error.DeadTerm place) h = absurd (none_dead h.others h.item h.there h.has)
    only_memory (model_error.NotConstant place) h = absurd (none_other h.1.others h.1.item h.1.there h.1.has)
    only_memory (model_error.WrongType place) h = absurd (none_wrong h.2.others h.2.item h.2.there h.2.has)
    only_memory (model_error.Twice place) h = absurd (none_again h.3.others h.3.again)
    only_memory model_error.NoMemory h = refl

-- one entry more, and all of them
pub one_valued : (entries values : List (Term × Bool)) (i : ℕ) (d : Term × Bool) (items new : List (Term × Value)) → entries ≡ values → i < length entries → items ≡ as_values (take i values) → new ≡ items ++ as_value (get_or entries i d) ∷ []
    → new ≡ as_values (take (i + 1) values)
one_valued entries values i d items new same below so added =
    added ∙ ap (λ xs. xs ++ as_value (get_or entries i d) ∷ []) (so ∙ ap (λ vs. as_values (take i vs)) (sym same)) ∙ sym (map_more as_value entries i d below) ∙ ap (λ vs. as_values (take (i + 1) vs)) same

pub all_valued : (entries values : List (Term × Bool)) (i : ℕ) (items : List (Term × Value)) → entries ≡ values → length entries ≤ i → items ≡ as_values (take i values) → items ≡ as_values values
all_valued entries values i items same past so = so ∙ ap as_values (take_all i values (omega (arith, past, ap length same)))
