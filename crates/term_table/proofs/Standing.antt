-- What a term that is added stands for.
use Rattle.std.proofs.Common.{◌≡◌, ◌∙◌, List, [], ◌∷◌, Option, Some, None, Result, Ok, Err, refl, sym, ap, subst, inl, inr}
use Rattle.std.specs.Prelude.{IfOk, IfErr}
use Rattle.std.specs.Option.{option_map}
use Rattle.std.proofs.lemmas.Option.{same_Some}
use Rattle.y_tree.specs.Sorts.{Sort, boolean}
use Rattle.y_tree.specs.Tree.{Tree, Trees, node, none, more}
use Rattle.y_tree.specs.Typing.{typed, sort_of, sorts_of, both}
use Rattle.term_shapes.specs.declared.handles.Term.{Term}
use Rattle.term_shapes.specs.declared.handles.TypeId.{TypeId}
use Rattle.term_shapes.specs.declared.shapes.Shape.{Shape}
use Rattle.term_shapes.specs.declared.shapes.Shape.TheVariants as shape
use Rattle.term_shapes.specs.declared.shapes.Node.{Node}
use Rattle.term_shapes.specs.Shapes.{args_of, types_of}
use Rattle.term_table.specs.World.{World, node_at, HasShape, KeepsType, AllKeep, Keeps, KeepsAll, IsTable}
use Rattle.shape_rules.specs.Rules.{IsOperator, operator}
use Rattle.term_table.specs.Changes.{IsTyped, AddsTerm}
use Rattle.term_table.specs.Checking.{HasSort, HaveSorts, IsShape}
use Rattle.term_table.proofs.Sorting.{one_kept}
use Rattle.term_table.proofs.Keeping.{one_sort}
use Rattle.term_table.proofs.Lasting.{adding_keeps}
use Rattle.term_table.proofs.Adding.{adds_here}

-- the node of a term with a type
some_of : (o : Option Node) (of : TypeId) → option_map (λ (n : Node). n.of) o ≡ Some of → (n : Node) × (o ≡ Some n) × (n.of ≡ of)
some_of None of h = absurd (cc h)
some_of (Some n) of h = (n, refl, same_Some n.of of h)

-- a shape that is no atom names no type
pub names_no_type : (w : World) (s : Shape) → IsOperator s → AllKeep w (types_of s) boolean
names_no_type w shape.True h = tt
names_no_type w shape.False h = tt
names_no_type w (shape.Const n of) h = absurd h
names_no_type w (shape.Var n of) h = absurd h
names_no_type w (shape.Number q) h = tt
names_no_type w (shape.Bits n a) h = tt
names_no_type w (shape.Not t) h = tt
names_no_type w (shape.And ts) h = tt
names_no_type w (shape.Or ts) h = tt
names_no_type w (shape.Xor ts) h = tt
names_no_type w (shape.Ite c t u) h = tt
names_no_type w (shape.Eq t u) h = tt
names_no_type w (shape.Distinct ts) h = tt
names_no_type w (shape.App f ts) h = tt
names_no_type w (shape.Update f ts v) h = tt
names_no_type w (shape.Sum ms q) h = tt
names_no_type w (shape.NonNeg t) h = tt
names_no_type w (shape.Bv op ts) h = tt
names_no_type w (shape.BvAt op i j t) h = tt

module _ (w : World) (table : IsTable w) where
  -- a term's tree has the sort that its type stands for
  tree_of : (t : Term) (k : Sort) → HasSort w t k → (a : Tree) × Keeps w t a × (sort_of a ≡ Some k)
  tree_of t k (of, has, keeps) =
      let n = some_of (node_at w t) of has in
      let r = table.grounded t n.0 n.1 in
      let same : r.1 ≡ k = one_kept w r.1 k of (subst (λ z. KeepsType w z r.1) n.2 r.3) keeps in
      (r.0, r.2, r.4 ∙ ap Some same)

  trees_of : (ts : List Term) (ks : List Sort) → HaveSorts w ts ks → (a : Trees) × KeepsAll w ts a × (sorts_of a ≡ Some ks)
  unfolding KeepsAll sorts_of
  trees_of [] [] h = (none, tt, refl)
  trees_of [] (k ∷ ks) h = absurd h
  trees_of (t ∷ ts) [] h = absurd h
  trees_of (t ∷ ts) (k ∷ ks) h =
      let a = tree_of t k h.0 in
      let rest = trees_of ts ks h.1 in
      (more a.0 rest.0, (a.1, rest.1), ap (λ o. both o (sorts_of rest.0)) a.2 ∙ ap (both (Some k)) rest.2)

  -- a shape that is checked is typed
  pub shape_typed : (s : Shape) (of : TypeId) → IsShape w s of → IsTyped w s of
  shape_typed s of is =
      let a = trees_of (args_of s) is.sorts is.have in
      record {
        trees = a.0;
        kept = a.1;
        sorts = is.sorts;
        sorted = a.2;
        named = boolean;
        names = names_no_type w s is.operates;
        result = is.result;
        takes = is.takes;
        gives = is.gives;
      }

  have_one : (ts : List Term) (ks ls : List Sort) → HaveSorts w ts ks → HaveSorts w ts ls → ks ≡ ls
  have_one [] [] [] h g = refl
  have_one [] [] (l ∷ ls) h g = absurd g
  have_one [] (k ∷ ks) ls h g = absurd h
  have_one (t ∷ ts) [] ls h g = absurd h
  have_one (t ∷ ts) (k ∷ ks) [] h g = absurd g
  have_one (t ∷ ts) (k ∷ ks) (l ∷ ls) h g =
      let same = one_kept w k l h.0.0 h.0.2 (subst (λ z. KeepsType w z l) (same_Some g.0.0 h.0.0 (sym g.0.1 ∙ h.0.1)) g.0.2) in
      ap (λ z. z ∷ ks) same ∙ ap (λ z. l ∷ z) (have_one ts ks ls h.1 g.1)

  -- and its type is one
  pub shape_one : (s : Shape) (t u : TypeId) → IsShape w s t → IsShape w s u → t ≡ u
  shape_one s t u is it =
      let same = have_one (args_of s) is.sorts it.sorts is.have it.have in
      let sort : is.result ≡ it.result = same_Some is.result it.result (sym is.takes ∙ ap (λ ks. typed (operator s) ks) same ∙ it.takes) in
      one_sort w table.one_type it.result t u (subst (KeepsType w t) sort is.gives) it.gives

-- what an added term stands for
all_kept : (old new : World) (t : Term) (n : Node) → IsTable old → AddsTerm old new t n → (ts : List Term) (trees : Trees) → KeepsAll old ts trees → KeepsAll new ts trees
unfolding KeepsAll
all_kept old new t n table adds [] none h = tt
all_kept old new t n table adds [] (more a rest) h = absurd h
all_kept old new t n table adds (u ∷ ts) none h = absurd h
all_kept old new t n table adds (u ∷ ts) (more a rest) h = (adding_keeps old new t n table adds u a h.0, all_kept old new t n table adds ts rest h.1)

shape_here : (old new : World) (t : Term) (n : Node) → AddsTerm old new t n → HasShape new t n.shape
shape_here old new t n (inl e) = subst (λ w. HasShape w t n.shape) (sym e.0) e.1
shape_here old new t n (inr adds) = ap (option_map (λ (z : Node). z.shape)) (adds_here old.terms new.terms t.slot t.stamp n adds.added)

pub added_stands : (old new : World) (t : Term) (n : Node) (trees : Trees) → IsTable old → AddsTerm old new t n → IsOperator n.shape → KeepsAll old (args_of n.shape) trees → Keeps new t (node (operator n.shape) trees)
unfolding Keeps
added_stands old new t n trees table adds operates kept =
    (n.shape, boolean, shape_here old new t n adds, names_no_type new n.shape operates, refl, all_kept old new t n table adds (args_of n.shape) trees kept)

-- the type that is read off a shape that was checked
pub given_shape : (w : World) (s : Shape) (t r : TypeId) → IsShape w s t → ((ks : List Sort) (k : Sort) → IsOperator s → HaveSorts w (args_of s) ks → typed (operator s) ks ≡ Some k → KeepsType w r k) → IsShape w s r
given_shape w s t r is given =
    record { operates = is.operates; sorts = is.sorts; have = is.have; result = is.result; takes = is.takes; gives = given is.sorts is.result is.operates is.have is.takes }

pub if_ok : {X E : Type 0} (r : Result X E) (P Q : X → Type 0) → ((x : X) → P x → Q x) → IfOk r P → IfOk r Q
if_ok (Ok x) P Q f h = f x h
if_ok (Err e) P Q f h = tt

pub if_err : {X E : Type 0} (r : Result X E) (P Q : E → Type 0) → ((e : E) → P e → Q e) → IfErr r P → IfErr r Q
if_err (Ok x) P Q f h = tt
if_err (Err e) P Q f h = f e h
