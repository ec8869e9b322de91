-- The names of a state beside those of its table, where one more name comes last.
use Rattle.std.proofs.Common.{◌≡◌, ◌∙◌, ℕ, zero, suc, Bool, true, false, ◌⊎◌, inl, inr, ⊎_elim, List, [], ◌∷◌, ◌++◌, Option, Some, None, is_some, refl, sym, ap, subst, if◌then◌else◌}
use Rattle.std.specs.Prelude.{slice_get}
use Rattle.std.specs.Str.{bytes_eq}
use Rattle.std.proofs.lemmas.List.{map-append}
use Rattle.std.proofs.lemmas.Option.{same_Some}
use Rattle.std.proofs.lemmas.Slice.Eq.{bytes_eq-Decides}
use Rattle.name_stacks.specs.Names.{newest, or_else}
use Rattle.name_stacks.proofs.Heading.{newest_pushed}
use Rattle.y_tree.specs.Tree.{Tree}
use Rattle.term_shapes.specs.declared.handles.Term.{Term}
use Rattle.term_table.specs.World.{World, IsTable}
use Rattle.term_table.specs.Naming.{term_named}
use Rattle.term_orders.specs.Orders.{IsIn}
use Rattle.term_build.proofs.Growing.{IsWider}
use Rattle.expression_terms.specs.Trees.{Scope, tree_named}
use Rattle.expression_terms.specs.Standing.{IsBuiltFor, IsBoolean}
use Rattle.expression_terms.specs.Building.{AreNamed}
use Rattle.expression_terms.specs.Keeping.{IsBuiltWithin, AreNamedWithin}
use Rattle.expression_terms.proofs.One.{one_built}
use Rattle.expression_terms.proofs.Stays.{built_stays}
use Rattle.expression_terms.proofs.Keeping.{within_built}
use Rattle.expression_terms.proofs.Truths.{IsAllBoolean, AreAllTruths}
use Rattle.yices_session.specs.State.{Named, scope_of}
use Rattle.yices_session.specs.Held.{Declared, AreDeclared, IsNameBuilt, name_terms}

-- a list with one item more
pub each_pushed : {X : Type 0} (P : X → Type 0) (xs : List X) (x : X) → ((i : ℕ) (y : X) → slice_get xs i ≡ Some y → P y) → P x → (i : ℕ) (y : X) → slice_get (xs ++ x ∷ []) i ≡ Some y → P y
each_pushed P [] x all one zero y at = subst P (same_Some x y at) one
each_pushed P [] x all one (suc i) y at = absurd (cc at)
each_pushed P (z ∷ xs) x all one zero y at = all 0 y at
each_pushed P (z ∷ xs) x all one (suc i) y at = each_pushed P xs x (λ j. all (suc j)) one i y at

-- terms of two lists, one behind the other
pub front_place : {X : Type 0} (xs ys : List X) (i : ℕ) (x : X) → slice_get xs i ≡ Some x → slice_get (xs ++ ys) i ≡ Some x
front_place [] ys i x at = absurd (cc at)
front_place (z ∷ xs) ys zero x at = at
front_place (z ∷ xs) ys (suc i) x at = front_place xs ys i x at

pub last_place : {X : Type 0} (xs : List X) (x : X) → (i : ℕ) × (slice_get (xs ++ x ∷ []) i ≡ Some x)
last_place [] x = (0, refl)
last_place (z ∷ xs) x = let r = last_place xs x in (suc r.0, r.1)

pub in_front : (ts us : List Term) (t : Term) → IsIn ts t → IsIn (ts ++ us) t
in_front ts us t is = record { place = is.place; at = front_place ts us is.place t is.at }

pub in_back : (ts us : List Term) (t : Term) → IsIn us t → IsIn (ts ++ us) t
in_back [] us t is = is
in_back (u ∷ ts) us t is = let r = in_back ts us t is in record { place = suc r.place; at = r.at }

split_place : (ts us : List Term) (i : ℕ) (t : Term) → slice_get (ts ++ us) i ≡ Some t → IsIn ts t ⊎ IsIn us t
split_place [] us i t at = inr (record { place = i; at = at })
split_place (u ∷ ts) us zero t at = inl (record { place = zero; at = at })
split_place (u ∷ ts) us (suc i) t at = ⊎_elim (λ (q : IsIn ts t). inl (record { place = suc q.place; at = q.at })) inr (split_place ts us i t at)

pub in_either : (ts us : List Term) (t : Term) → IsIn (ts ++ us) t → IsIn ts t ⊎ IsIn us t
in_either ts us t is = split_place ts us is.place t is.at

only_place : (t u : Term) (i : ℕ) → slice_get (t ∷ []) i ≡ Some u → u ≡ t
only_place t u zero at = sym (same_Some t u at)
only_place t u (suc i) at = absurd (cc at)

pub in_one : (t u : Term) → IsIn (t ∷ []) u → u ≡ t
in_one t u is = only_place t u is.place is.at

-- the terms of names, and names as the code has them, with one more
pub terms_pushed : (ns : List Named) (n : Named) → name_terms (ns ++ n ∷ []) ≡ name_terms ns ++ n.term ∷ []
terms_pushed ns n = map-append (λ (m : Named). m.term) ns (n ∷ [])

pub declared_pushed : (ds : List Declared) (ns : List Named) (n : Named) → n.is_constant ≡ false → AreDeclared ds ns → AreDeclared (ds ++ record { name = n.name; term = n.term; has_value = n.has_value } ∷ []) (ns ++ n ∷ [])
declared_pushed [] [] n plain h = (refl, plain, tt)
declared_pushed [] (m ∷ ns) n plain h = absurd h
declared_pushed (d ∷ ds) [] n plain h = absurd h
declared_pushed (d ∷ ds) (m ∷ ns) n plain h = (h.0, h.1, declared_pushed ds ns n plain h.2)

-- a name is looked up before the last one, and then there
first_by : (b : Bool) (x : Tree) (o p rest : Option Tree) → o ≡ or_else p rest → (if b then Some x else o) ≡ or_else (if b then Some x else p) rest
first_by true x o p rest e = refl
first_by false x o p rest e = e

tree_pushed : (ns : List Named) (n : Named) (name : List ℕ) → tree_named (scope_of (ns ++ n ∷ [])) name ≡ or_else (tree_named (scope_of ns) name) (if bytes_eq name n.name then Some n.tree else None)
tree_pushed [] n name = refl
tree_pushed (m ∷ ns) n name =
    first_by (bytes_eq name m.name) m.tree (tree_named (scope_of (ns ++ n ∷ [])) name) (tree_named (scope_of ns) name) (if bytes_eq name n.name then Some n.tree else None) (tree_pushed ns n name)

-- what stands for a name stands at some place
named_by : (b : Bool) (x d : Tree) (rest : Option Tree) (P : Type 0) → (x ≡ d → P) → (rest ≡ Some d → P) → (if b then Some x else rest) ≡ Some d → P
named_by true x d rest P here later e = here (same_Some x d e)
named_by false x d rest P here later e = later e

-- the tree is that of a name of the list
pub record IsNameOf (ns : List Named) (d : Tree) : Type 0 where
  pub place : ℕ
  pub named : Named
  pub at : slice_get ns place ≡ Some named
  pub tree : named.tree ≡ d

pub named_place : (ns : List Named) (name : List ℕ) (d : Tree) → tree_named (scope_of ns) name ≡ Some d → IsNameOf ns d
named_place [] name d e = absurd (cc e)
named_place (n ∷ ns) name d e =
    named_by (bytes_eq name n.name) n.tree d (tree_named (scope_of ns) name) (IsNameOf (n ∷ ns) d) (λ same. record { place = 0; named = n; at = refl; tree = same })
    (λ f. let r = named_place ns name d f in record { place = suc r.place; named = r.named; at = r.at; tree = r.tree }) e

-- what is in the tree of each name is a truth value
pub scope_truths : (ns : List Named) → ((i : ℕ) (n : Named) → slice_get ns i ≡ Some n → IsAllBoolean n.tree) → AreAllTruths (scope_of ns)
scope_truths ns all name d e = let r = named_place ns name d e in subst IsAllBoolean r.tree (all r.place r.named r.at)

-- each name's term was built within what is kept
pub scope_within : (w : World) → IsTable w → (ks : List Term) (ns : List Named) → ((i : ℕ) (n : Named) → slice_get ns i ≡ Some n → IsNameBuilt w ks n) → AreNamed w (scope_of ns) (record { bound = []; defined = w.term_names })
    → AreNamedWithin w ks (scope_of ns) (record { bound = []; defined = w.term_names })
scope_within w table ks ns all named name d e =
    let r = named_place ns name d e in
    let k = named.known name d e in
    let built : IsBuiltWithin w ks d r.named.term = subst (λ z. IsBuiltWithin w ks z r.named.term) r.tree (all r.place r.named r.at) in
    (k.0, k.1, subst (IsBuiltWithin w ks d) (one_built w table d r.named.term k.0 (within_built w ks d r.named.term built) k.2) built)

-- a name of the state is one of the table
pub name_unused : (w : World) (s : Scope) (name : List ℕ) → AreNamed w s (record { bound = []; defined = w.term_names }) → newest name w.term_names ≡ None → tree_named s name ≡ None
name_unused w s name named none = by (tree_named s name) refl
  where
    by : (o : Option Tree) → tree_named s name ≡ o → tree_named s name ≡ None
    by None e = e
    by (Some d) e = let k = named.known name d e in absurd (cc (sym none ∙ k.1))

-- a name of the table that a look-up didn't find
none_found : {X : Type 0} (found o : Option X) (b : Bool) → b ≡ is_some found → b ≡ false → found ≡ o → o ≡ None
none_found None o b e f is = sym is
none_found (Some x) o b e f is = absurd (cc (sym f ∙ e))

pub free_name : (name text : List ℕ) (seen w : World) (found : Option Term) (b : Bool) → found ≡ newest text seen.term_names → seen ≡ w → text ≡ name → b ≡ is_some found → b ≡ false → newest name w.term_names ≡ None
free_name name text seen w found b is same said e f =
    none_found found (newest name w.term_names) b e f (is ∙ ap (λ (z : World). newest text z.term_names) same ∙ ap (λ z. newest z w.term_names) said)

-- slots stay where a name is given
pub naming_wider : (w : World) (name : List ℕ) (t : Term) → IsWider w (term_named w name t)
naming_wider w name t = record { nodes = λ u n h. h; types = λ u k h. h }

-- names are compared either way
other_way : (xs ys : List ℕ) (a b : Bool) → bytes_eq xs ys ≡ a → bytes_eq ys xs ≡ b → a ≡ b
other_way xs ys true true e f = refl
other_way xs ys true false e f = absurd (cc (sym f ∙ (bytes_eq-Decides ys xs).1 (sym ((bytes_eq-Decides xs ys).0 e))))
other_way xs ys false true e f = absurd (cc (sym e ∙ (bytes_eq-Decides xs ys).1 (sym ((bytes_eq-Decides ys xs).0 f))))
other_way xs ys false false e f = refl

-- one more name, which none had
module _ (w : World) (ns : List Named) (n : Named) (named : AreNamed w (scope_of ns) (record { bound = []; defined = w.term_names })) (unused : tree_named (scope_of ns) n.name ≡ None) (built : IsBuiltFor w n.tree n.term) (truth : IsBoolean n.tree) where
  abbrev after : World
  after = term_named w n.name n.term

  -- what the table says of a name now
  newest_now : (name : List ℕ) (b : Bool) → bytes_eq name n.name ≡ b → newest name after.term_names ≡ or_else (if b then Some n.term else None) (newest name w.term_names)
  newest_now name b e =
      newest_pushed name w.term_names (n.name, n.term)
      ∙ ap (λ (c : Bool). or_else (if c then Some n.term else None) (newest name w.term_names)) (other_way n.name name (bytes_eq n.name name) (bytes_eq name n.name) refl refl ∙ e)

  -- a name that is there is another one
  is_other : (name : List ℕ) (d : Tree) → tree_named (scope_of ns) name ≡ Some d → (b : Bool) → bytes_eq name n.name ≡ b → b ≡ false
  is_other name d e true f = absurd (cc (sym e ∙ ap (tree_named (scope_of ns)) ((bytes_eq-Decides name n.name).0 f) ∙ unused))
  is_other name d e false f = refl

  -- the term that a name of the table means, for its tree
  abbrev IsKnown : List ℕ → Tree → Type 0
  IsKnown name d = (t : Term) × (newest name after.term_names ≡ Some t) × IsBuiltFor after d t

  stays : (d : Tree) (t : Term) → IsBuiltFor w d t → IsBuiltFor after d t
  stays = built_stays w after (naming_wider w n.name n.term)

  here_known : (name : List ℕ) (d : Tree) (b : Bool) → bytes_eq name n.name ≡ b → (if b then Some n.tree else None) ≡ Some d → IsKnown name d
  here_known name d true e is = (n.term, newest_now name true e, subst (λ z. IsBuiltFor after z n.term) (same_Some n.tree d is) (stays n.tree n.term built))
  here_known name d false e is = absurd (cc is)

  known_by : (name : List ℕ) (d : Tree) (o : Option Tree) → tree_named (scope_of ns) name ≡ o → or_else o (if bytes_eq name n.name then Some n.tree else None) ≡ Some d → IsKnown name d
  known_by name d None e is = here_known name d (bytes_eq name n.name) refl is
  known_by name d (Some x) e is =
      let k = named.known name x e in
      let other : bytes_eq name n.name ≡ false = is_other name x e (bytes_eq name n.name) refl in
      (k.0, newest_now name false other ∙ k.1, subst (λ z. IsBuiltFor after z k.0) (same_Some x d is) (stays x k.0 k.2))

  boolean_by : (name : List ℕ) (d : Tree) (o : Option Tree) (b : Bool) → tree_named (scope_of ns) name ≡ o → or_else o (if b then Some n.tree else None) ≡ Some d → IsBoolean d
  boolean_by name d None true e is = subst IsBoolean (same_Some n.tree d is) truth
  boolean_by name d None false e is = absurd (cc is)
  boolean_by name d (Some x) b e is = subst IsBoolean (same_Some x d is) (named.truths name x e)

  unknown_by : (name : List ℕ) (o : Option Tree) (b : Bool) → tree_named (scope_of ns) name ≡ o → bytes_eq name n.name ≡ b → or_else o (if b then Some n.tree else None) ≡ None → newest name after.term_names ≡ None
  unknown_by name None true e f is = absurd (cc is)
  unknown_by name None false e f is = newest_now name false f ∙ named.unknown name e
  unknown_by name (Some x) b e f is = absurd (cc is)

  -- the table's names are those of the state still
  pub named_pushed : AreNamed after (scope_of (ns ++ n ∷ [])) (record { bound = []; defined = after.term_names })
  named_pushed = record {
    known = λ name d e. known_by name d (tree_named (scope_of ns) name) refl (sym (tree_pushed ns n name) ∙ e);
    truths = λ name d e. boolean_by name d (tree_named (scope_of ns) name) (bytes_eq name n.name) refl (sym (tree_pushed ns n name) ∙ e);
    unknown = λ name e. unknown_by name (tree_named (scope_of ns) name) (bytes_eq name n.name) refl refl (sym (tree_pushed ns n name) ∙ e);
  }
