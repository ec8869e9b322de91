-- A name is declared as a new constant.
use Rattle.std.proofs.Common.{◌≡◌, ◌∙◌, ℕ, false, List, [], ◌∷◌, ◌++◌, Option, None, refl, sym, ap, subst}
use Rattle.std.specs.Prelude.{slice_get}
use Rattle.std.specs.Option.{option_map}
use Rattle.std.proofs.lemmas.Option.{same_Some}
use Rattle.name_stacks.specs.Names.{newest}
use Rattle.stamped_slots.specs.Slots.{held_at}
use Rattle.y_tree.specs.Sorts.{boolean}
use Rattle.y_tree.specs.Tree.{constant, Tree, node}
use Rattle.y_tree.specs.Tree as tree
use Rattle.term_shapes.specs.declared.handles.Term.{Term}
use Rattle.term_shapes.specs.declared.handles.TypeId.{TypeId}
use Rattle.term_shapes.specs.declared.shapes.Node.{Node}
use Rattle.term_shapes.specs.declared.shapes.Shape.{Shape}
use Rattle.term_shapes.specs.declared.shapes.Shape.TheVariants as shape
use Rattle.term_shapes.specs.declared.shapes.TypeShape.TheVariants as type
use Rattle.term_shapes.specs.Shapes.{args_of}
use Rattle.term_table.specs.World.{World, HasNode, HasShape, HasTypeShape, Keeps, KeepsType, IsTable}
use Rattle.term_table.specs.Changes.{MakesConstant}
use Rattle.term_table.specs.Checking.{HasSort}
use Rattle.term_table.specs.Naming.{term_named}
use Rattle.term_table.proofs.Adding.{adds_here}
use Rattle.term_orders.specs.Orders.{IsIn, IsVariable}
use Rattle.term_orders.specs.Orders.IsBelow.{itself, argument}
use Rattle.yices_api.specs.State.{State as Environment, ContextsStay}
use Rattle.expression_terms.specs.Trees.{Cause, tree_named}
use Rattle.expression_terms.specs.Keeping.{IsBuiltWithin}
use Rattle.expression_terms.specs.declared.refusal.Stop.{Stop}
use Rattle.expression_terms.specs.declared.refusal.Stop.TheVariants as stop
use Rattle.expression_terms.proofs.Truths.{IsPropositional, constant_all}
use Rattle.yices_session.specs.State.{Named, State, scope_of}
use Rattle.yices_session.specs.Steps.{Declares}
use Rattle.yices_session.specs.Refusals.{IsRefused}
use Rattle.yices_session.specs.Held.{Held, Stands, name_terms}
use Rattle.yices_session.specs.Answers.{Halts, Moves}
use Rattle.yices_session.proofs.Growing.{constant_stands, constant_stays, known_names}
use Rattle.yices_session.proofs.Scoping.{name_unused}
use Rattle.yices_session.proofs.NewNames.{this_kept, name_stands}
use Rattle.yices_session.proofs.Stopping.{out_of_memory}

-- a new Boolean constant: its term stands for its tree, and nothing but itself stands below it
module _ (old new : World) (of : TypeId) (t : Term) (is_bool : HasTypeShape old of type.Bool) (makes : MakesConstant old new of t) where
  abbrev its_tree : Tree
  its_tree = node (constant old.constants boolean) tree.none

  abbrev its_node : Node
  its_node = record { shape = shape.Const old.constants of; of = of }

  here : HasNode new t its_node
  here = adds_here old.terms new.terms t.slot t.stamp its_node makes.added

  shaped : HasShape new t (shape.Const old.constants of)
  shaped = ap (option_map (λ (z : Node). z.shape)) here

  bool_stays : HasTypeShape new of type.Bool
  bool_stays = ap (λ (w : World). held_at w.types of.slot of.stamp) makes.rest ∙ is_bool

  constant_sort : HasSort new t boolean
  unfolding KeepsType
  constant_sort = (of, ap (option_map (λ (z : Node). z.of)) here, bool_stays)

  constant_keeps : Keeps new t its_tree
  unfolding Keeps KeepsType
  constant_keeps = (shape.Const old.constants of, boolean, shaped, (bool_stays, tt), refl, tt)

  pub constant_within : (ks : List Term) → IsIn ks t → IsBuiltWithin new ks its_tree t
  unfolding IsBuiltWithin
  constant_within ks is = (is, constant_keeps)

  no_variable : IsVariable new t → ⊥
  no_variable v = cc (same_Some (shape.Const old.constants of) (shape.Var v.number v.of) (sym shaped ∙ v.has))

  pub constant_propositional : IsPropositional new t
  constant_propositional u itself = (constant_sort, no_variable)
  constant_propositional u (argument v r b a) = absurd (cc (ap (λ (z : Shape). slice_get (args_of z) a.place) (same_Some (shape.Const old.constants of) a.form (sym shaped ∙ a.has)) ∙ a.at))

-- the new constant is left where its name finds no room
pub constant_halts : (cause : State → Option Cause) (h : Held) (env : Environment) (of : TypeId) (t : Term) (new : Held) (why : Stop) → IsTable h.env.table → MakesConstant h.env.table env.table of t → ContextsStay h.env env → new ≡ record h { env = env } → why ≡ stop.NoMemory
    → Halts (λ s next. IsRefused (cause s) next why) h new
constant_halts cause h env of t new why table makes stay is memory =
    subst (Halts (λ s next. IsRefused (cause s) next why) h) (sym is)
    (out_of_memory cause h (record h { env = env }) why memory refl (λ s st. (record s { table = env.table }, constant_stays h s env of t table makes stay st, constant_stands h s env of t table makes stay st)))

-- or it is named
module _ (h : Held) (env : Environment) (w : List ℕ) (of : TypeId) (t : Term) (unused : newest w h.env.table.term_names ≡ None) (table : IsTable h.env.table) (after : IsTable env.table) (is_bool : HasTypeShape h.env.table of type.Bool)
    (makes : MakesConstant h.env.table env.table of t) (stay : ContextsStay h.env env) where
  abbrev pub declared : Held
  declared = record h { env = record env { table = term_named env.table w t }; declared = h.declared ++ record { name = w; term = t; has_value = false } ∷ [] }

  module _ (s : State) (st : Stands h s) where
    abbrev named : Named
    named = record { name = w; tree = node (constant s.table.constants boolean) tree.none; term = t; has_value = false; is_constant = false }

    abbrev mid : State
    mid = record s { table = env.table }

    abbrev next : State
    next = record s { table = term_named env.table w t; names = s.names ++ named ∷ [] }

    free : tree_named (scope_of s.names) w ≡ None
    free = name_unused h.env.table (scope_of s.names) w (known_names h s st) unused

    bool_here : HasTypeShape s.table of type.Bool
    bool_here = subst (λ z. HasTypeShape z of type.Bool) (sym st.table) is_bool

    makes_here : MakesConstant s.table env.table of t
    makes_here = subst (λ z. MakesConstant z env.table of t) (sym st.table) makes

    declares : Declares s w [] next
    declares = record { unused = free; made = env.table; of = of; is_bool = bool_here; term = t; makes = makes_here; silent = refl; after = refl }

    stands : Stands declared next
    stands =
        name_stands (record h { env = env }) mid named (constant_stands h s env of t table makes stay st) after refl free
        (constant_within s.table env.table of t bool_here makes_here (name_terms (s.names ++ named ∷ []) ++ s.parts) (this_kept s.names named s.parts)) (constant_all s.table.constants)
        (constant_propositional s.table env.table of t bool_here makes_here)

  pub declared_moves : (new : Held) → new ≡ declared → Moves (λ s says next. Declares s w says next) h [] new
  declared_moves new is = subst (Moves (λ s says next. Declares s w says next) h []) (sym is) (record { turns = refl; each = λ s st. (next s st, declares s st, stands s st) })
