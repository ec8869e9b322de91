-- A name is defined by an expression, or building that stops.
use Rattle.std.proofs.Common.{◌≡◌, ℕ, false, true, List, [], ◌∷◌, ◌++◌, Option, Some, None, Ok, Err, refl, sym, subst}
use Rattle.std.specs.Prelude.{slice_get}
use Rattle.name_stacks.specs.Names.{newest}
use Rattle.term_shapes.specs.declared.handles.Term.{Term}
use Rattle.term_table.specs.World.{World, IsTable}
use Rattle.term_table.specs.Checking.{AreLive}
use Rattle.term_table.specs.Naming.{term_named}
use Rattle.term_build.specs.Building.{AreKnown}
use Rattle.yices_grammar.specs.declared.Place.{Place}
use Rattle.yices_grammar.specs.Commands.{Expr}
use Rattle.yices_api.specs.State.{State as Environment}
use Rattle.expression_terms.specs.Trees.{Cause, tree_named, tree_of}
use Rattle.expression_terms.specs.Growth.{GrowsFor, written_trees}
use Rattle.expression_terms.specs.Building.{Named as TableNames, Builds, BuildsOr, Adds, cause_in}
use Rattle.expression_terms.specs.Keeping.{IsBuiltWithin, AllKept, AddsParts, StaysWithin}
use Rattle.expression_terms.specs.declared.refusal.Stop.{Stop}
use Rattle.expression_terms.specs.declared.refusal.Stop.TheVariants as stop
use Rattle.expression_terms.proofs.Booleans.{boolean_stands}
use Rattle.expression_terms.proofs.Keeping.{within_more}
use Rattle.expression_terms.proofs.Truths.{IsAllBoolean, IsPropositional, expression_all, built_propositional, truths_boolean}
use Rattle.yices_session.specs.State.{Named, State, scope_of}
use Rattle.yices_session.specs.Steps.{BuildsFor, Defines}
use Rattle.yices_session.specs.Refusals.{IsRefused, unless_used}
use Rattle.yices_session.specs.Held.{Held, Stands, IsNameBuilt, name_terms}
use Rattle.yices_session.specs.Answers.{Halts, Moves}
use Rattle.yices_session.proofs.Growing.{building_stands, building_stays, known_names}
use Rattle.yices_session.proofs.Scoping.{in_back, name_unused, scope_truths, scope_within}
use Rattle.yices_session.proofs.NewNames.{more_kept, name_kept, name_stands, parts_stand}
use Rattle.yices_session.proofs.Stopping.{out_of_memory, unbuilt_as, unused_as}
use Rattle.yices_session.proofs.Written.{are_parts, parts_live}

-- the names that a table has
abbrev pub names_in : World → TableNames
names_in w = record { bound = []; defined = w.term_names }

-- an expression was built, or not
module _ (h : Held) (env : Environment) (e : Expr) (table : IsTable h.env.table) (adds : Adds (names_in h.env.table) h.env e env) where
  -- building it stopped
  pub unbuilt_halts : (why : Stop) → BuildsOr (names_in h.env.table) h.env e (Err why) env → (cause : State → Option Cause) → ((s : State) → Stands h s → cause s ≡ cause_in (tree_of (scope_of s.names) e)) → (new : Held) → new ≡ record h { env = env }
      → Halts (λ s next. IsRefused (cause s) next why) h new
  unbuilt_halts why unbuilt cause same new is = subst (Halts (λ s next. IsRefused (cause s) next why) h) (sym is) (record {
    turns = refl;
    each = λ s st. (
      record s { table = env.table },
      unbuilt_as (cause s) (cause_in (tree_of (scope_of s.names) e)) (record s { table = env.table }) env why refl (same s st) (unbuilt (scope_of s.names) (known_names h s st)),
      building_stays h s env table e adds st,
      building_stands h s env table e adds st,
    );
  })

  -- it was built, and then memory was refused
  pub built_halts : (cause : State → Option Cause) (new : Held) (why : Stop) → new ≡ record h { env = env } → why ≡ stop.NoMemory → Halts (λ s next. IsRefused (cause s) next why) h new
  built_halts cause new why is memory =
      subst (Halts (λ s next. IsRefused (cause s) next why) h) (sym is)
      (out_of_memory cause h (record h { env = env }) why memory refl (λ s st. (record s { table = env.table }, building_stays h s env table e adds st, building_stands h s env table e adds st)))

  -- it was built, and its term has truth values alone below it
  module _ (laws : AreKnown) (after : IsTable env.table) (t : Term) (built : BuildsOr (names_in h.env.table) h.env e (Ok t) env) (s : State) (st : Stands h s) where
    abbrev pub built_here : Builds (scope_of s.names) e env t
    built_here = built (scope_of s.names) (known_names h s st)

    pub built_truths : IsAllBoolean built_here.tree
    built_truths = expression_all laws.typed (scope_of s.names) (scope_truths s.names st.trees) e built_here.tree built_here.is

    pub built_closed : IsPropositional env.table t
    built_closed = built_propositional env.table after laws built_here.tree t built_truths built_here.built

    pub built_for : BuildsFor s e env.table built_here.tree t
    built_for = record {
      known = built_here.is;
      stands = (boolean_stands laws env.table after (scope_of s.names) (truths_boolean (scope_of s.names) (scope_truths s.names st.trees)) e built_here.tree built_here.is t built_here.built).0;
      grows = subst (λ z. GrowsFor (written_trees (scope_of s.names) e) z env.table) (sym st.table) (adds.grows (scope_of s.names) (known_names h s st));
    }

-- it was built with parts
module _ (h : Held) (env : Environment) (w : List ℕ) (e : Expr) (t : Term) (ps : List Term) (table : IsTable h.env.table) (adds : Adds (names_in h.env.table) h.env e env) (laws : AreKnown) (after : IsTable env.table)
    (parts : AddsParts (names_in h.env.table) h.env.table env.table e [] ps) where
  -- these are there
  abbrev pub with_parts : Held
  with_parts = record h { env = env; parts = h.parts ++ ps }

  abbrev mid : State → State
  mid s = record s { table = env.table; parts = s.parts ++ ps }

  live : (s : State) → Stands h s → AreLive env.table ps
  live s st = parts_live laws (names_in h.env.table) h.env.table env.table after e ps parts (scope_of s.names) (known_names h s st)

  mid_stands : (s : State) → Stands h s → Stands with_parts (mid s)
  mid_stands s st = parts_stand (record h { env = env }) (record s { table = env.table }) ps (live s st) (building_stands h s env table e adds st)

  -- and then memory was refused
  pub parts_halts : (cause : State → Option Cause) (new : Held) (why : Stop) → new ≡ with_parts → why ≡ stop.NoMemory → Halts (λ s next. IsRefused (cause s) next why) h new
  parts_halts cause new why is memory =
      subst (Halts (λ s next. IsRefused (cause s) next why) h) (sym is)
      (out_of_memory cause h with_parts why memory refl (λ s st. (mid s, let y = building_stays h s env table e adds st in record { names = y.names; lists = y.lists; lasts = y.lasts }, mid_stands s st)))

  module _ (unused : newest w h.env.table.term_names ≡ None) (built : BuildsOr (names_in h.env.table) h.env e (Ok t) env) (within : StaysWithin (names_in h.env.table) h.env.table env.table ps e t) where
    -- the name is there too
    abbrev pub defined : Held
    defined = record h { env = record env { table = term_named env.table w t }; declared = h.declared ++ record { name = w; term = t; has_value = true } ∷ []; parts = h.parts ++ ps }

    module _ (s : State) (st : Stands h s) where
      abbrev its : Builds (scope_of s.names) e env t
      its = built_here h env e table adds laws after t built s st

      abbrev named : Named
      named = record { name = w; tree = its.tree; term = t; has_value = true; is_constant = false }

      abbrev next : State
      next = record s { table = term_named env.table w t; names = s.names ++ named ∷ []; parts = s.parts ++ ps }

      free : tree_named (scope_of s.names) w ≡ None
      free = name_unused h.env.table (scope_of s.names) w (known_names h s st) unused

      abbrev kept : List Term
      kept = name_terms (s.names ++ named ∷ []) ++ (s.parts ++ ps)

      names_kept : AllKept (name_terms s.names ++ s.parts) kept
      names_kept u is = name_kept s.names named (s.parts ++ ps) u (more_kept (name_terms s.names) s.parts ps u is)

      parts_kept : AllKept ps kept
      parts_kept u is = in_back (name_terms (s.names ++ named ∷ [])) (s.parts ++ ps) u (in_back s.parts ps u is)

      each_name : (i : ℕ) (n : Named) → slice_get s.names i ≡ Some n → IsNameBuilt h.env.table kept n
      each_name i n at = subst (λ z. IsBuiltWithin z kept n.tree n.term) st.table (within_more s.table (name_terms s.names ++ s.parts) kept names_kept n.tree n.term (st.names i n at))

      this_within : IsBuiltWithin env.table kept its.tree t
      this_within = within (scope_of s.names) kept (known_names h s st) (scope_within h.env.table table kept s.names each_name (known_names h s st)) parts_kept its.tree its.is

      defines : Defines s w e [] next
      defines = record {
        unused = free;
        built = env.table;
        value = its.tree;
        term = t;
        builds = built_for h env e table adds laws after t built s st;
        parts = ps;
        are_parts = are_parts laws (names_in h.env.table) h.env.table env.table after e ps parts (scope_of s.names) (known_names h s st);
        silent = refl;
        after = refl;
      }

      stands : Stands defined next
      stands = name_stands with_parts (mid s) named (mid_stands s st) after refl free this_within (built_truths h env e table adds laws after t built s st) (built_closed h env e table adds laws after t built s st)

    pub defined_moves : (new : Held) → new ≡ defined → Moves (λ s says next. Defines s w e says next) h [] new
    defined_moves new is = subst (Moves (λ s says next. Defines s w e says next) h []) (sym is) (record { turns = refl; each = λ s st. (next s st, defines s st, stands s st) })

-- a name that isn't in use: what is wrong is what is wrong with the expression
pub otherwise_used : (h : Held) (place : Place) (w : List ℕ) (e : Expr) → newest w h.env.table.term_names ≡ None → (s : State) → Stands h s → unless_used s place w (cause_in (tree_of (scope_of s.names) e)) ≡ cause_in (tree_of (scope_of s.names) e)
otherwise_used h place w e unused s st = unused_as s place w (cause_in (tree_of (scope_of s.names) e)) (name_unused h.env.table (scope_of s.names) w (known_names h s st) unused)
