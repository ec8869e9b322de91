-- A session with one more name, and with more that was built on the way.
use Rattle.std.proofs.Common.{◌≡◌, ℕ, false, ◌⊎◌, inl, inr, ⊎_elim, List, [], ◌∷◌, ◌++◌, Some, None, refl, sym, ap, subst}
use Rattle.std.specs.Prelude.{slice_get}
use Rattle.y_tree.specs.Sorts.{boolean}
use Rattle.term_shapes.specs.declared.handles.Term.{Term}
use Rattle.term_table.specs.World.{World, IsTable}
use Rattle.term_table.specs.Checking.{AreLive, HasSort}
use Rattle.term_table.specs.Naming.{term_named}
use Rattle.term_table.specs.declared.table.Marked.TheVariants as handle
use Rattle.term_orders.specs.Orders.{IsIn, IsBelow, IsUnder, IsVariable}
use Rattle.term_collect.specs.Reach.{IsMeant}
use Rattle.term_build.specs.Building as build
use Rattle.term_build.proofs.Growing.{IsWider}
use Rattle.yices_api.proofs.Lists.{live_append}
use Rattle.expression_terms.specs.Trees.{tree_named}
use Rattle.expression_terms.specs.Keeping.{IsBuiltWithin, AllKept}
use Rattle.expression_terms.proofs.Keeping.{within_built, within_more, within_stays}
use Rattle.expression_terms.proofs.Truths.{IsAllBoolean, IsPropositional}
use Rattle.yices_session.specs.State.{Named, State, scope_of, stacked_terms, core_terms}
use Rattle.yices_session.specs.Held.{Held, Stands, AreTruths, IsNameBuilt, name_terms}
use Rattle.yices_session.proofs.Growing.{kept_model_stays, stands_stays, truths_stay}
use Rattle.yices_session.proofs.Scoping.{each_pushed, front_place, last_place, in_front, in_back, in_either, in_one, terms_pushed, declared_pushed, named_pushed, naming_wider}

-- one more term with truth values alone below it
pub truths_with : (w : World) (roots ls : List Term) (t : Term) → AreTruths w roots → IsPropositional w t → ((r : Term) → IsIn ls r → IsIn roots r ⊎ (r ≡ t)) → AreTruths w ls
truths_with w roots ls t h p cases = record {
  sorts = λ u v. sort u v (cases v.root v.listed);
  closed = λ u v. variable u v (cases v.root v.listed);
}
  where
    sort : (u : Term) (v : IsUnder w ls u) → IsIn roots v.root ⊎ (v.root ≡ t) → HasSort w u boolean
    sort u v (inl is) = h.sorts u (record { root = v.root; listed = is; below = v.below })
    sort u v (inr e) = (p u (subst (IsBelow w u) e v.below)).0

    variable : (u : Term) (v : IsUnder w ls u) → IsIn roots v.root ⊎ (v.root ≡ t) → IsVariable w u → ⊥
    variable u v (inl is) = h.closed u (record { root = v.root; listed = is; below = v.below })
    variable u v (inr e) = (p u (subst (IsBelow w u) e v.below)).1

-- more was built on the way
pub more_kept : (ts us more : List Term) → AllKept (ts ++ us) (ts ++ (us ++ more))
more_kept ts us more t is = ⊎_elim (λ (h : IsIn ts t). in_front ts (us ++ more) t h) (λ h. in_back ts (us ++ more) t (in_front us more t h)) (in_either ts us t is)

pub parts_stand : (h : Held) (s : State) (more : List Term) → AreLive s.table more → Stands h s → Stands (record h { parts = h.parts ++ more }) (record s { parts = s.parts ++ more })
parts_stand h s more live st = record {
  table = st.table;
  contexts = st.contexts;
  declared = st.declared;
  parts = ap (λ z. z ++ more) st.parts;
  lists = st.lists;
  marks = st.marks;
  model = st.model;
  core = st.core;
  named = st.named;
  trees = st.trees;
  names = λ i n at. within_more s.table (name_terms s.names ++ s.parts) (name_terms s.names ++ (s.parts ++ more)) (more_kept (name_terms s.names) s.parts more) n.tree n.term (st.names i n at);
  meant = st.meant;
  live = live_append s.table s.parts more st.live live;
  formulas = st.formulas;
  truths = st.truths;
}

-- the terms of names, with one more among them
pub name_kept : (ns : List Named) (n : Named) (ps : List Term) → AllKept (name_terms ns ++ ps) (name_terms (ns ++ n ∷ []) ++ ps)
name_kept ns n ps t is =
    subst (λ z. IsIn (z ++ ps) t) (sym (terms_pushed ns n))
    (⊎_elim (λ (h : IsIn (name_terms ns) t). in_front (name_terms ns ++ n.term ∷ []) ps t (in_front (name_terms ns) (n.term ∷ []) t h)) (λ h. in_back (name_terms ns ++ n.term ∷ []) ps t h) (in_either (name_terms ns) ps t is))

pub this_kept : (ns : List Named) (n : Named) (ps : List Term) → IsIn (name_terms (ns ++ n ∷ []) ++ ps) n.term
this_kept ns n ps =
    subst (λ z. IsIn (z ++ ps) n.term) (sym (terms_pushed ns n))
    (in_front (name_terms ns ++ n.term ∷ []) ps n.term (in_back (name_terms ns) (n.term ∷ []) n.term (record { place = 0; at = refl })))

-- a term of the names, where one of these is new, is one of before or that one
name_cases : (ns : List Named) (n : Named) (rest : List Term) (r : Term) → IsIn (name_terms (ns ++ n ∷ []) ++ rest) r → IsIn (name_terms ns ++ rest) r ⊎ (r ≡ n.term)
name_cases ns n rest r is = by (in_either (name_terms ns ++ n.term ∷ []) rest r (subst (λ z. IsIn (z ++ rest) r) (terms_pushed ns n) is))
  where
    by : IsIn (name_terms ns ++ n.term ∷ []) r ⊎ IsIn rest r → IsIn (name_terms ns ++ rest) r ⊎ (r ≡ n.term)
    by (inl h) = ⊎_elim (λ (g : IsIn (name_terms ns) r). inl (in_front (name_terms ns) rest r g)) (λ g. inr (in_one n.term r g)) (in_either (name_terms ns) (n.term ∷ []) r h)
    by (inr h) = inl (in_back (name_terms ns) rest r h)

-- a name more, whose term was built within what is kept then
module _ (h : Held) (s : State) (n : Named) (st : Stands h s) (table : IsTable s.table) (plain : n.is_constant ≡ false) (unused : tree_named (scope_of s.names) n.name ≡ None)
    (within : IsBuiltWithin s.table (name_terms (s.names ++ n ∷ []) ++ s.parts) n.tree n.term) (truths : IsAllBoolean n.tree) (propositional : IsPropositional s.table n.term) where
  abbrev after : World
  after = term_named s.table n.name n.term

  abbrev kept : List Term
  kept = name_terms (s.names ++ n ∷ []) ++ s.parts

  abbrev rest : List Term
  rest = stacked_terms s.lists ++ core_terms s.core

  wider : IsWider s.table after
  wider = naming_wider s.table n.name n.term

  each_within : (i : ℕ) (m : Named) → slice_get s.names i ≡ Some m → IsNameBuilt after kept m
  each_within i m at = within_stays s.table after wider kept m.tree m.term (within_more s.table (name_terms s.names ++ s.parts) kept (name_kept s.names n s.parts) m.tree m.term (st.names i m at))

  each_meant : (i : ℕ) (m : Named) → slice_get s.names i ≡ Some m → IsMeant after (handle.Term m.term)
  each_meant i m at = let z = st.meant i m at in (z.0, z.1, front_place s.table.term_names ((n.name, n.term) ∷ []) z.0 z.1 z.2, z.3)

  this_meant : IsMeant after (handle.Term n.term)
  this_meant = let z = last_place s.table.term_names (n.name, n.term) in (z.0, (n.name, n.term), z.1, refl)

  pub name_stands : Stands (record h { env = record h.env { table = term_named h.env.table n.name n.term }; declared = h.declared ++ record { name = n.name; term = n.term; has_value = n.has_value } ∷ [] })
      (record s { table = after; names = s.names ++ n ∷ [] })
  name_stands = record {
    table = ap (λ w. term_named w n.name n.term) st.table;
    contexts = st.contexts;
    declared = declared_pushed h.declared s.names n plain st.declared;
    parts = st.parts;
    lists = st.lists;
    marks = st.marks;
    model = kept_model_stays s.table after wider h.model s.model st.model;
    core = st.core;
    named = named_pushed s.table s.names n st.named unused (within_built s.table kept n.tree n.term within) (truths n.tree (build.itself n.tree));
    trees = each_pushed (λ (m : Named). IsAllBoolean m.tree) s.names n st.trees truths;
    names = each_pushed (IsNameBuilt after kept) s.names n each_within (within_stays s.table after wider kept n.tree n.term within);
    meant = each_pushed (λ (m : Named). IsMeant after (handle.Term m.term)) s.names n each_meant this_meant;
    live = λ i t at. st.live i t at;
    formulas = λ i j fs f at in_it. stands_stays s.table after wider f.tree f.term (st.formulas i j fs f at in_it);
    truths = truths_stay s.table after wider table (name_terms (s.names ++ n ∷ []) ++ rest)
        (truths_with s.table (name_terms s.names ++ rest) (name_terms (s.names ++ n ∷ []) ++ rest) n.term st.truths propositional (λ r is. name_cases s.names n rest r is));
  }
