-- A session stands for what it stood for where its table grows: by terms that were built, or by a new constant.
use Rattle.std.proofs.Common.{◌≡◌, ◌∙◌, ℕ, suc, List, [], ◌∷◌, ◌++◌, map, Option, Some, None, refl, sym, ap, subst}
use Rattle.std.specs.Prelude.{IsSome, slice_get}
use Rattle.std.specs.Option.{option_map}
use Rattle.y_tree.specs.Sorts.{Sort, Sorts, boolean, real, bit_vector, uninterpreted, function, sorts}
use Rattle.y_tree.specs.Sorts as sort
use Rattle.y_tree.specs.Values.{Value}
use Rattle.y_tree.specs.Tree.{Tree}
use Rattle.term_shapes.specs.declared.handles.Term.{Term}
use Rattle.term_shapes.specs.declared.handles.TypeId.{TypeId}
use Rattle.term_shapes.specs.declared.shapes.Node.{Node}
use Rattle.term_shapes.specs.declared.shapes.Shape.{Shape}
use Rattle.term_shapes.specs.declared.shapes.Shape.TheVariants as shape
use Rattle.term_table.specs.World.{World, node_at, shape_at, type_shape_at, HasNode, HasShape, KeepsType, KeepsTypes, IsTable}
use Rattle.term_table.specs.Changes.{MakesConstant}
use Rattle.term_orders.specs.Orders.{IsIn, IsArgument, IsBelow, IsUnder, IsVariable}
use Rattle.term_orders.specs.Orders.IsBelow.{itself, argument}
use Rattle.term_orders.proofs.Arguments.{argument_live}
use Rattle.term_build.specs.Building.{AddsAtMost}
use Rattle.term_build.specs.Building.AddsAtMost.{no_more, one_more}
use Rattle.term_build.proofs.Growing.{IsWider, shape_stays, sort_stays, tree_stays, type_stays, sorted_lives, live_stays}
use Rattle.model_eval.specs.Models.{IsEntry, IsModel, assignment_of, numbered, number_of, shown, sort_in, sort_under, part_in, simple_under}
use Rattle.yices_api.specs.State.{State as Environment, ContextsStay}
use Rattle.yices_api.specs.Runs.{Lasts}
use Rattle.yices_api.proofs.Lasting.{sort_shape, extends_last}
use Rattle.yices_api.proofs.Tables.{Extends, extends_self, constant_extends, most_extend}
use Rattle.expression_terms.specs.Standing.{StandsFor}
use Rattle.expression_terms.specs.Growth.{GrowsFor, written_trees}
use Rattle.expression_terms.specs.Building.{AreNamed, Adds}
use Rattle.expression_terms.proofs.Scopes.{named_stays}
use Rattle.expression_terms.proofs.Keeping.{within_stays}
pub use Rattle.yices_session.proofs.Subtrees.{grows_some}
use Rattle.yices_grammar.specs.Commands.{Expr}
use Rattle.yices_session.specs.State.{Kept, State, scope_of, stacked_terms, core_terms}
use Rattle.yices_session.specs.Refusals.{Stays}
use Rattle.yices_session.specs.Held.{Held, Stands, IsKeptModel, AreTruths, name_terms}

-- terms are added to a table: whatever was live stays, no freed handle comes back, and the names mean what they meant
pub record Grows (old new : World) : Type 0 where
  pub extends : Extends old new
  pub names : new.term_names ≡ old.term_names

-- terms that are built are such, and so is a new constant
pub adds_names : (n : ℕ) (old new : World) → AddsAtMost n old new → new.term_names ≡ old.term_names
adds_names n old new (no_more m w) = refl
adds_names n old new (one_more m first mid last t x adds rest) = adds_names m mid last rest ∙ ap (λ (w : World). w.term_names) adds.rest

pub adds_grow : (n : ℕ) (old new : World) → AddsAtMost n old new → Grows old new
adds_grow n old new adds = record { extends = most_extend n old new adds; names = adds_names n old new adds }

pub constant_grows : (old new : World) (of : TypeId) (t : Term) → MakesConstant old new of t → Grows old new
constant_grows old new of t makes = record { extends = constant_extends old new of t makes; names = ap (λ (w : World). w.term_names) makes.rest }

pub same_grows : (w : World) → Grows w w
same_grows w = record { extends = extends_self w; names = refl }

pub grows_last : (old new : World) → Grows old new → Lasts old new
grows_last old new grows = extends_last old new grows.extends

-- live terms and types stay
pub extends_wider : (old new : World) → Extends old new → IsWider old new
extends_wider old new ext = record { nodes = ext.nodes; types = ext.types }

-- a node that is still there is the one of before
shape_before : (old new : World) (t : Term) (n : Node) (s : Shape) → HasNode old t n → HasNode new t n → HasShape new t s → HasShape old t s
shape_before old new t n s was is has = ap (option_map (λ (z : Node). z.shape)) (was ∙ sym is) ∙ has

some_is : (o : Option Node) → IsSome o → (n : Node) × (o ≡ Some n)
some_is None h = absurd (cc h)
some_is (Some n) h = (n, refl)

module _ (old new : World) (m : IsWider old new) where
  -- what is below a live term was below it, where that is a table
  module _ (table : IsTable old) where
    shape_back : (t : Term) (s : Shape) → IsSome (node_at old t) → HasShape new t s → HasShape old t s
    shape_back t s live has = let n = some_is (node_at old t) live in shape_before old new t n.0 s n.1 (m.nodes t n.0 n.1) has

    argument_back : (u t : Term) → IsSome (node_at old t) → IsArgument new u t → IsArgument old u t
    argument_back u t live a = record { form = a.form; has = shape_back t a.form live a.has; place = a.place; at = a.at }

    pub below_back : (u t : Term) → IsSome (node_at old t) → IsBelow new u t → IsBelow old u t
    below_back u t live itself = itself
    below_back u t live (argument z r b a) =
        let q = argument_back z t live a in argument z t (below_back u z (argument_live old table t z q) b) q

    -- so what is below truth values is truth values still, and no variable
    pub truths_stay : (ts : List Term) → AreTruths old ts → AreTruths new ts
    truths_stay ts h = record { sorts = λ t u. sort_stays old new m t boolean (h.sorts t (back t u)); closed = λ t u v. h.closed t (back t u) (variable_back t (back t u) v) }
      where
        root_live : (r : Term) → IsIn ts r → IsSome (node_at old r)
        root_live r is = sorted_lives old r boolean (h.sorts r (record { root = r; listed = is; below = itself }))

        back : (t : Term) → IsUnder new ts t → IsUnder old ts t
        back t u = record { root = u.root; listed = u.listed; below = below_back t u.root (root_live u.root u.listed) u.below }

        variable_back : (t : Term) → IsUnder old ts t → IsVariable new t → IsVariable old t
        variable_back t u v = record { number = v.number; of = v.of; has = shape_back t (shape.Var v.number v.of) (sorted_lives old t boolean (h.sorts t u)) v.has }

  -- a live type stands for one sort
  type_same : (t : TypeId) (k : Sort) → KeepsType old t k → type_shape_at old t ≡ type_shape_at new t
  type_same t k h = let s = sort_shape old k t h in s.1 ∙ sym (m.types t s.0 s.1)

  part_same : (t : TypeId) (k : Sort) → KeepsType old t k → part_in old t ≡ part_in new t
  part_same t k h = ap simple_under (type_same t k h)

  parts_same : (ts : List TypeId) (ks : Sorts) → KeepsTypes old ts ks → map (part_in old) ts ≡ map (part_in new) ts
  unfolding KeepsTypes
  parts_same [] sort.none h = refl
  parts_same [] (sort.more k ks) h = absurd h
  parts_same (t ∷ ts) sort.none h = absurd h
  parts_same (t ∷ ts) (sort.more k ks) h = ap (λ z. z ∷ map (part_in old) ts) (part_same t k h.0) ∙ ap (λ zs. part_in new t ∷ zs) (parts_same ts ks h.1)

  under_same : (t : TypeId) (k : Sort) → KeepsType old t k → sort_under old (type_shape_at old t) ≡ sort_under new (type_shape_at old t)
  unfolding KeepsType
  under_same t boolean h = ap (sort_under old) h ∙ ap (sort_under new) (sym h)
  under_same t real h = ap (sort_under old) h ∙ ap (sort_under new) (sym h)
  under_same t (bit_vector n) h = ap (sort_under old) h ∙ ap (sort_under new) (sym h)
  under_same t (uninterpreted n) h = ap (sort_under old) h ∙ ap (sort_under new) (sym h)
  under_same t (function domain result) (ts, r, has, ks, kr) =
      ap (sort_under old) has ∙ ap (λ zs. function (sorts zs) (part_in old r)) (parts_same ts domain ks) ∙ ap (λ z. function (sorts (map (part_in new) ts)) z) (part_same r result kr) ∙ ap (sort_under new) (sym has)

  sort_same : (t : TypeId) (k : Sort) → KeepsType old t k → sort_in old t ≡ sort_in new t
  unfolding sort_in
  sort_same t k h = under_same t k h ∙ ap (sort_under new) (type_same t k h)

  -- so the values of live constants make one assignment
  entry_stays : (e : Term × Value) → IsEntry old e → IsEntry new e
  entry_stays e h = record { number = h.number; of = h.of; has = shape_stays old new m e.0 (shape.Const h.number h.of) h.has; sort = h.sort; keeps = type_stays old new m h.sort h.of h.keeps; value = h.value }

  number_same : (e : Term × Value) → IsEntry old e → number_of old (shape_at old e.0) e.1 ≡ number_of new (shape_at new e.0) e.1
  number_same e h =
      ap (λ o. number_of old o e.1) h.has ∙ ap (λ k. (h.number, shown k e.1) ∷ []) (sort_same h.of h.sort h.keeps)
      ∙ ap (λ o. number_of new o e.1) (sym (shape_stays old new m e.0 (shape.Const h.number h.of) h.has))

  numbers_same : (es : List (Term × Value)) → ((i : ℕ) (e : Term × Value) → slice_get es i ≡ Some e → IsEntry old e) → numbered old es ≡ numbered new es
  unfolding numbered
  numbers_same [] h = refl
  numbers_same (e ∷ es) h = ap (λ z. z ++ numbered old es) (number_same e (h 0 e refl)) ∙ ap (λ z. number_of new (shape_at new e.0) e.1 ++ z) (numbers_same es (λ i. h (suc i)))

  pub assignment_stays : (es : List (Term × Value)) → IsModel old es → assignment_of old es ≡ assignment_of new es
  unfolding assignment_of
  assignment_stays es h = ap (λ z. record { constants = z; variables = [] }) (numbers_same es h.each)

  pub model_stays : (es : List (Term × Value)) → IsModel old es → IsModel new es
  model_stays es h = record { each = λ i e at. entry_stays e (h.each i e at); once = h.once }

  pub kept_model_stays : (o : Option (List (Term × Value))) (k : Option Kept) → IsKeptModel old o k → IsKeptModel new o k
  kept_model_stays None None h = tt
  kept_model_stays None (Some k) h = absurd h
  kept_model_stays (Some es) None h = absurd h
  kept_model_stays (Some es) (Some k) h = (model_stays es h.0, h.1 ∙ assignment_stays es h.0, h.2)

  -- a term stands for what it stood for
  pub stands_stays : (d : Tree) (t : Term) → StandsFor old d t → StandsFor new d t
  stands_stays d t h = record { kept = h.kept; keeps = tree_stays old new m h.kept t h.keeps; same = h.same }

-- the session stands for what it stood for
module _ (h : Held) (s : State) (new : Environment) (table : IsTable h.env.table) (grows : Grows h.env.table new.table) (contexts : new.contexts ≡ h.env.contexts) (stands : Stands h s) where
  wider_of : IsWider s.table new.table
  wider_of = subst (λ z. IsWider z new.table) (sym stands.table) (extends_wider h.env.table new.table grows.extends)

  names_of : new.table.term_names ≡ s.table.term_names
  names_of = grows.names ∙ ap (λ (w : World). w.term_names) (sym stands.table)

  pub grown_stands : Stands (record h { env = new }) (record s { table = new.table })
  grown_stands = record {
    table = refl;
    contexts = contexts ∙ stands.contexts;
    declared = stands.declared;
    parts = stands.parts;
    lists = stands.lists;
    marks = stands.marks;
    model = kept_model_stays s.table new.table wider_of h.model s.model stands.model;
    core = stands.core;
    named = subst (λ z. AreNamed new.table (scope_of s.names) (record { bound = []; defined = z })) (sym names_of)
        (named_stays s.table new.table wider_of (scope_of s.names) (record { bound = []; defined = s.table.term_names }) stands.named);
    trees = stands.trees;
    names = λ i n at. within_stays s.table new.table wider_of (name_terms s.names ++ s.parts) n.tree n.term (stands.names i n at);
    formulas = λ i j fs f at in_it. stands_stays s.table new.table wider_of f.tree f.term (stands.formulas i j fs f at in_it);
    meant = λ i n at. let z = stands.meant i n at in (z.0, z.1, ap (λ (ps : List (List ℕ × Term)). slice_get ps z.0) names_of ∙ z.2, z.3);
    live = λ i t at. live_stays s.table new.table wider_of t (stands.live i t at);
    truths = truths_stay s.table new.table wider_of (subst IsTable (sym stands.table) table) (name_terms s.names ++ (stacked_terms s.lists ++ core_terms s.core)) stands.truths;
  }

  -- whatever was declared and asserted stays
  pub grown_stays : Stays s (record s { table = new.table })
  grown_stays = record { names = refl; lists = refl; lasts = subst (λ z. Lasts z new.table) (sym stands.table) (grows_last h.env.table new.table grows) }

-- where terms are built
pub grows_stands : (n : ℕ) (h : Held) (s : State) (new : Environment) → IsTable h.env.table → AddsAtMost n h.env.table new.table → ContextsStay h.env new → Stands h s → Stands (record h { env = new }) (record s { table = new.table })
grows_stands n h s new table adds stay stands = grown_stands h s new table (adds_grow n h.env.table new.table adds) stay.contexts stands

pub grows_stays : (n : ℕ) (h : Held) (s : State) (new : Environment) → IsTable h.env.table → AddsAtMost n h.env.table new.table → ContextsStay h.env new → Stands h s → Stays s (record s { table = new.table })
grows_stays n h s new table adds stay stands = grown_stays h s new table (adds_grow n h.env.table new.table adds) stay.contexts stands

-- where a new constant is made
pub constant_stands : (h : Held) (s : State) (new : Environment) (of : TypeId) (t : Term) → IsTable h.env.table → MakesConstant h.env.table new.table of t → ContextsStay h.env new → Stands h s → Stands (record h { env = new }) (record s { table = new.table })
constant_stands h s new of t table makes stay stands = grown_stands h s new table (constant_grows h.env.table new.table of t makes) stay.contexts stands

pub constant_stays : (h : Held) (s : State) (new : Environment) (of : TypeId) (t : Term) → IsTable h.env.table → MakesConstant h.env.table new.table of t → ContextsStay h.env new → Stands h s → Stays s (record s { table = new.table })
constant_stays h s new of t table makes stay stands = grown_stays h s new table (constant_grows h.env.table new.table of t makes) stay.contexts stands

-- where nothing changed
pub same_stays : (s : State) → Stays s s
same_stays s = record { names = refl; lists = refl; lasts = grows_last s.table s.table (same_grows s.table) }

-- the table's names are those of the state
pub known_names : (h : Held) (s : State) → Stands h s → AreNamed h.env.table (scope_of s.names) (record { bound = []; defined = h.env.table.term_names })
known_names h s stands = subst (λ (w : World). AreNamed w (scope_of s.names) (record { bound = []; defined = w.term_names })) stands.table stands.named

-- where terms are built for trees
module _ (h : Held) (s : State) (new : Environment) (table : IsTable h.env.table) (ts : List Tree) (grows : GrowsFor ts h.env.table new.table) (stay : ContextsStay h.env new) (stands : Stands h s) where
  pub trees_stand : Stands (record h { env = new }) (record s { table = new.table })
  trees_stand = let p = grows_some ts h.env.table new.table grows in grows_stands p.0 h s new table p.1 stay stands

  pub trees_stay : Stays s (record s { table = new.table })
  trees_stay = let p = grows_some ts h.env.table new.table grows in grows_stays p.0 h s new table p.1 stay stands

-- where an expression is built
module _ (h : Held) (s : State) (new : Environment) (table : IsTable h.env.table) (e : Expr) (adds : Adds (record { bound = []; defined = h.env.table.term_names }) h.env e new) (stands : Stands h s) where
  pub building_stands : Stands (record h { env = new }) (record s { table = new.table })
  building_stands = trees_stand h s new table (written_trees (scope_of s.names) e) (adds.grows (scope_of s.names) (known_names h s stands)) adds.contexts stands

  pub building_stays : Stays s (record s { table = new.table })
  building_stays = trees_stay h s new table (written_trees (scope_of s.names) e) (adds.grows (scope_of s.names) (known_names h s stands)) adds.contexts stands
