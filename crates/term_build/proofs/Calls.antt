-- A call and the shape with its row have one misfit; what is wrong first is told.
use Rattle.std.proofs.Common.{◌≡◌, ◌∙◌, ℕ, ◌+◌, ◌<◌, ◌≤◌, ◌⊎◌, inl, inr, Bool, true, false, ◌==◌, List, [], ◌∷◌, length, Some, None, refl, sym, ap, subst, arith}
use Rattle.std.proofs.lemmas.Bool.{eqb-true, leb-true}
use Rattle.std.specs.Prelude.{slice_get, IsSome}
use Rattle.y_tree.specs.Sorts.{Sort}
use Rattle.y_tree.specs.Tree.{Op, negation, choice, equality, disequality, conjunction, disjunction, parity, implication, equivalence}
use Rattle.y_tree.specs.Misfits.{Misfit, bad_arity, count_fits, row_of, misfit_of, or_else, unless, wrong_in, uneven_in, out_in}
use Rattle.y_tree.specs.Laws.{FitsAreTyped, names_a_sort}
use Rattle.term_shapes.specs.declared.handles.Term.{Term}
use Rattle.term_shapes.specs.declared.shapes.Shape.{Shape}
use Rattle.term_shapes.specs.declared.shapes.Shape.TheVariants as shape
use Rattle.term_shapes.specs.declared.handles.TypeId.{TypeId}
use Rattle.term_table.specs.World.{World, node_at, IsTable}
use Rattle.term_table.specs.Checking.{operator, HaveSorts, AreLive, IsFirstDead, IsDeadAt, IsShape, IsMisfitting, RefusesShape, Tells}
use Rattle.term_table.proofs.Sorting.{have_all, have_length}
use Rattle.term_table.proofs.Misfitting.{first_dead_is, live_step, live_all}
use Rattle.shape_rules.specs.declared.errors.ShapeError.{ShapeError}
use Rattle.shape_rules.specs.declared.errors.ShapeError.TheVariants as shape_refusal
use Rattle.term_sketches.specs.declared.items.Operator.{Operator}
use Rattle.term_sketches.specs.declared.items.Operator.TheVariants as constructor
use Rattle.term_sketches.specs.Sketches.{operator_of}
use Rattle.term_build.specs.declared.errors.BuildError.{BuildError}
use Rattle.term_build.specs.declared.errors.BuildError.TheVariants as refusal
use Rattle.term_build.specs.Building.{IsRowShape, IsEmptyCall, takes_count, call_misfit, AreFit, IsUnfit, TellsCall, RefusesCall}
use Rattle.term_build.specs.Refusing.{told}

-- rows
conjunction_row : (n : ℕ) → 1 ≤ n → (ks : List Sort) → length ks ≡ n → misfit_of conjunction ks ≡ call_misfit conjunction ks
conjunction_row n h [] e = absurd (omega (arith, h, e))
conjunction_row n h (k ∷ ks) e = refl

disjunction_row : (n : ℕ) → 1 ≤ n → (ks : List Sort) → length ks ≡ n → misfit_of disjunction ks ≡ call_misfit disjunction ks
disjunction_row n h [] e = absurd (omega (arith, h, e))
disjunction_row n h (k ∷ ks) e = refl

parity_row : (n : ℕ) → 1 ≤ n → (ks : List Sort) → length ks ≡ n → misfit_of parity ks ≡ call_misfit parity ks
parity_row n h [] e = absurd (omega (arith, h, e))
parity_row n h (k ∷ ks) e = refl

implication_row : (n : ℕ) → (2 == n) ≡ true → (ks : List Sort) → length ks ≡ n → misfit_of conjunction ks ≡ call_misfit implication ks
implication_row n h [] e = absurd (omega (arith, eqb-true 2 n h, e))
implication_row n h (k ∷ []) e = absurd (omega (arith, eqb-true 2 n h, e))
implication_row n h (k ∷ l ∷ []) e = refl
implication_row n h (k ∷ l ∷ m ∷ ks) e = absurd (omega (arith, eqb-true 2 n h, e))

equivalence_row : (n : ℕ) → (2 == n) ≡ true → (ks : List Sort) → length ks ≡ n → misfit_of conjunction ks ≡ call_misfit equivalence ks
equivalence_row n h [] e = absurd (omega (arith, eqb-true 2 n h, e))
equivalence_row n h (k ∷ []) e = absurd (omega (arith, eqb-true 2 n h, e))
equivalence_row n h (k ∷ l ∷ []) e = refl
equivalence_row n h (k ∷ l ∷ m ∷ ks) e = absurd (omega (arith, eqb-true 2 n h, e))

pub not_row : (ts : List Term) (t : Term) → ts ≡ t ∷ [] → IsRowShape negation ts (shape.Not t)
not_row ts t e = record { operates = tt; args = sym e; row = λ ks h. refl }

pub eq_row : (ts : List Term) (t u : Term) → ts ≡ t ∷ u ∷ [] → IsRowShape equality ts (shape.Eq t u)
eq_row ts t u e = record { operates = tt; args = sym e; row = λ ks h. refl }

pub neq_row : (ts : List Term) (t u : Term) → ts ≡ t ∷ u ∷ [] → IsRowShape disequality ts (shape.Eq t u)
neq_row ts t u e = record { operates = tt; args = sym e; row = λ ks h. refl }

pub ite_row : (ts : List Term) (t u v : Term) → ts ≡ t ∷ u ∷ v ∷ [] → IsRowShape choice ts (shape.Ite t u v)
ite_row ts t u v e = record { operates = tt; args = sym e; row = λ ks h. refl }

-- the shapes over a list
pub and_row : (o : Operator) (ts us : List Term) → us ≡ ts → takes_count o (length ts) ≡ true → (o ≡ constructor.And) ⊎ ((o ≡ constructor.Implies) ⊎ (o ≡ constructor.Iff)) → IsRowShape (operator_of o) ts (shape.And us)
and_row o ts us a h (inl e) =
    subst (λ p. IsRowShape (operator_of p) ts (shape.And us)) (sym e)
    (record { operates = tt; args = a; row = conjunction_row (length ts) (leb-true 1 (length ts) (subst (λ p. takes_count p (length ts) ≡ true) e h)) })
and_row o ts us a h (inr (inl e)) =
    subst (λ p. IsRowShape (operator_of p) ts (shape.And us)) (sym e)
    (record { operates = tt; args = a; row = implication_row (length ts) (subst (λ p. takes_count p (length ts) ≡ true) e h) })
and_row o ts us a h (inr (inr e)) =
    subst (λ p. IsRowShape (operator_of p) ts (shape.And us)) (sym e)
    (record { operates = tt; args = a; row = equivalence_row (length ts) (subst (λ p. takes_count p (length ts) ≡ true) e h) })

pub or_row : (o : Operator) (ts us : List Term) → us ≡ ts → takes_count o (length ts) ≡ true → o ≡ constructor.Or → IsRowShape (operator_of o) ts (shape.Or us)
or_row o ts us a h e =
    subst (λ p. IsRowShape (operator_of p) ts (shape.Or us)) (sym e)
    (record { operates = tt; args = a; row = disjunction_row (length ts) (leb-true 1 (length ts) (subst (λ p. takes_count p (length ts) ≡ true) e h)) })

pub xor_row : (o : Operator) (ts us : List Term) → us ≡ ts → takes_count o (length ts) ≡ true → o ≡ constructor.Xor → IsRowShape (operator_of o) ts (shape.Xor us)
xor_row o ts us a h e =
    subst (λ p. IsRowShape (operator_of p) ts (shape.Xor us)) (sym e)
    (record { operates = tt; args = a; row = parity_row (length ts) (leb-true 1 (length ts) (subst (λ p. takes_count p (length ts) ≡ true) e h)) })

pub distinct_row : (o : Operator) (ts us : List Term) → us ≡ ts → o ≡ constructor.Distinct → IsRowShape (operator_of o) ts (shape.Distinct us)
distinct_row o ts us a e = subst (λ p. IsRowShape (operator_of p) ts (shape.Distinct us)) (sym e) (record { operates = tt; args = a; row = λ ks h. refl })

-- the first dead argument
pub first_is_dead : (w : World) (ts : List Term) (i : ℕ) (b : Bool) → b ≡ true → IsDeadAt w ts i b → ((j : ℕ) (t : Term) → j < i → slice_get ts j ≡ Some t → IsSome (node_at w t)) → IsFirstDead w ts (i + 1)
first_is_dead w ts = first_dead_is w ts

pub one_more_live : (w : World) (ts : List Term) (i : ℕ) (b : Bool) → b ≡ false → IsDeadAt w ts i b → ((j : ℕ) (t : Term) → j < i → slice_get ts j ≡ Some t → IsSome (node_at w t)) → (j : ℕ) (t : Term) → j < i + 1 → slice_get ts j ≡ Some t → IsSome (node_at w t)
one_more_live w ts = live_step w ts

pub all_live : (w : World) (ts : List Term) (n : ℕ) → n ≡ length ts → ((j : ℕ) (t : Term) → j < n → slice_get ts j ≡ Some t → IsSome (node_at w t)) → AreLive w ts
all_live w ts = live_all w ts

-- the misfit of a call is that of its operator, but where there is nothing
call_is_misfit : (o : Operator) (ts : List Term) (ks : List Sort) → length ks ≡ length ts → (IsEmptyCall (operator_of o) ts → ⊥) → call_misfit (operator_of o) ks ≡ misfit_of (operator_of o) ks
call_is_misfit constructor.Not ts ks e f = refl
call_is_misfit constructor.And [] ks e f = absurd (f tt)
call_is_misfit constructor.And (t ∷ ts) [] e f = absurd (omega (arith, e))
call_is_misfit constructor.And (t ∷ ts) (k ∷ ks) e f = refl
call_is_misfit constructor.Or [] ks e f = absurd (f tt)
call_is_misfit constructor.Or (t ∷ ts) [] e f = absurd (omega (arith, e))
call_is_misfit constructor.Or (t ∷ ts) (k ∷ ks) e f = refl
call_is_misfit constructor.Xor [] ks e f = absurd (f tt)
call_is_misfit constructor.Xor (t ∷ ts) [] e f = absurd (omega (arith, e))
call_is_misfit constructor.Xor (t ∷ ts) (k ∷ ks) e f = refl
call_is_misfit constructor.Implies ts ks e f = refl
call_is_misfit constructor.Iff ts ks e f = refl
call_is_misfit constructor.Ite ts ks e f = refl
call_is_misfit constructor.Eq ts ks e f = refl
call_is_misfit constructor.Neq ts ks e f = refl
call_is_misfit constructor.Distinct ts ks e f = refl

count_is : (o : Operator) (ks : List Sort) (n : ℕ) → count_fits (row_of (operator_of o) ks) n ≡ takes_count o n
count_is constructor.Not ks n = refl
count_is constructor.And ks n = refl
count_is constructor.Or ks n = refl
count_is constructor.Xor ks n = refl
count_is constructor.Implies ks n = refl
count_is constructor.Iff ks n = refl
count_is constructor.Ite ks n = refl
count_is constructor.Eq ks n = refl
count_is constructor.Neq ks n = refl
count_is constructor.Distinct ks n = refl

-- the ways out
pub bad_count : (w new : World) → IsTable w → (o : Operator) (ts : List Term) → AreLive w ts → (IsEmptyCall (operator_of o) ts → ⊥) → takes_count o (length ts) ≡ false
    → RefusesCall w new (operator_of o) ts (refusal.BadArity (length ts))
bad_count w new table o ts live full h =
    let s = have_all w table ts live in
    let ks : List Sort = s.0 in
    let e : length ks ≡ length ts = have_length w ts ks s.1 in
    record {
      sorts = ks;
      have = s.1;
      misfit = bad_arity (length ks);
      is = call_is_misfit o ts ks e full
          ∙ ap (λ b. or_else (unless b (bad_arity (length ks))) (or_else (wrong_in (row_of (operator_of o) ks) ks) (or_else (uneven_in (row_of (operator_of o) ks) ks) (out_in (operator_of o) ks))))
          (count_is o ks (length ks) ∙ ap (takes_count o) e ∙ h);
      tells = ap bad_arity e;
    }

empty_fit : (o : Operator) (ts : List Term) → IsEmptyCall (operator_of o) ts → (ts ≡ []) × (call_misfit (operator_of o) [] ≡ None)
empty_fit constructor.And [] h = (refl, refl)
empty_fit constructor.Or [] h = (refl, refl)
empty_fit constructor.Xor [] h = (refl, refl)
empty_fit constructor.And (t ∷ ts) h = absurd h
empty_fit constructor.Or (t ∷ ts) h = absurd h
empty_fit constructor.Xor (t ∷ ts) h = absurd h
empty_fit constructor.Not ts h = absurd h
empty_fit constructor.Implies ts h = absurd h
empty_fit constructor.Iff ts h = absurd h
empty_fit constructor.Ite ts h = absurd h
empty_fit constructor.Eq ts h = absurd h
empty_fit constructor.Neq ts h = absurd h
empty_fit constructor.Distinct ts h = absurd h

pub nothing_fits : (w : World) (o : Operator) (ts : List Term) → IsEmptyCall (operator_of o) ts → AreFit w (operator_of o) ts
nothing_fits w o ts h =
    let e = empty_fit o ts h in
    subst (AreFit w (operator_of o)) (sym e.0) (record { sorts = []; have = tt; fit = e.1 })

names : (s : Shape) → names_a_sort (operator s) ≡ true
names shape.True = refl
names shape.False = refl
names (shape.Const n of) = refl
names (shape.Var n of) = refl
names (shape.Number q) = refl
names (shape.Bits n a) = refl
names (shape.Not t) = refl
names (shape.And ts) = refl
names (shape.Or ts) = refl
names (shape.Xor ts) = refl
names (shape.Ite c t u) = refl
names (shape.Eq t u) = refl
names (shape.Distinct ts) = refl
names (shape.App f ts) = refl
names (shape.Update f ts v) = refl
names (shape.Sum ms q) = refl
names (shape.NonNeg t) = refl
names (shape.Bv op ts) = refl
names (shape.BvAt op i j t) = refl

pub shape_fits : (law : FitsAreTyped) (w : World) (op : Op) (ts : List Term) (s : Shape) (of : TypeId) → IsRowShape op ts s → IsShape w s of → AreFit w op ts
shape_fits law w op ts s of row is =
    let have : HaveSorts w ts is.sorts = subst (λ us. HaveSorts w us is.sorts) row.args is.have in
    record {
      sorts = is.sorts;
      have = have;
      fit = sym (row.row is.sorts (have_length w ts is.sorts have)) ∙ (law (operator s) is.sorts (names s)).1 (is.result, is.takes);
    }

unfit : (w : World) (op : Op) (ts : List Term) (s : Shape) (e : ShapeError) (f : BuildError) → IsRowShape op ts s → (is : IsMisfitting w s e) → ((m : Misfit) → Tells w m e → TellsCall w m f) → IsUnfit w op ts f
unfit w op ts s e f row is tells =
    let have : HaveSorts w ts is.sorts = subst (λ us. HaveSorts w us is.sorts) row.args is.have in
    record {
      sorts = is.sorts;
      have = have;
      misfit = is.misfit;
      is = sym (row.row is.sorts (have_length w ts is.sorts have)) ∙ is.is;
      tells = tells is.misfit is.tells;
    }

pub shape_refused : (w new : World) (op : Op) (ts : List Term) (s : Shape) (e : ShapeError) → IsRowShape op ts s → RefusesShape w s e → RefusesCall w new op ts (told e)
shape_refused w new op ts s shape_refusal.Atom row h = tt
shape_refused w new op ts s (shape_refusal.DeadTerm place) row h = subst (λ us. IsFirstDead w us place) row.args h.1
shape_refused w new op ts s (shape_refusal.BadArity n) row h = unfit w op ts s (shape_refusal.BadArity n) (refusal.BadArity n) row h (λ m t. t)
shape_refused w new op ts s (shape_refusal.WrongType place want found) row h =
    unfit w op ts s (shape_refusal.WrongType place want found) (refusal.WrongType place want found) row h (λ m t. t)
shape_refused w new op ts s (shape_refusal.WidthsDiffer place left right) row h =
    unfit w op ts s (shape_refusal.WidthsDiffer place left right) (refusal.WidthsDiffer place left right) row h (λ m t. t)
shape_refused w new op ts s (shape_refusal.BadWidth n) row h = unfit w op ts s (shape_refusal.BadWidth n) (refusal.BadWidth n) row h (λ m t. t)
shape_refused w new op ts s shape_refusal.BadRange row h = unfit w op ts s shape_refusal.BadRange refusal.BadRange row h (λ m t. t)
