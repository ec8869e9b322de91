-- What names stand for while the table grows, and where `let` binds more of them.
use Rattle.std.proofs.Common.{◌≡◌, ◌∙◌, ℕ, Bool, true, false, ◌||◌, ◌⊎◌, inl, inr, List, [], ◌∷◌, ◌++◌, Option, Some, None, Result, Ok, Err, refl, sym, ap, subst, if◌then◌else◌}
use Rattle.std.specs.List.{list_any}
use Rattle.std.specs.Str.{bytes_eq}
use Rattle.std.proofs.lemmas.Option.{same_Some}
use Rattle.std.proofs.lemmas.Slice.Eq.{bytes_eq-Decides}
use Rattle.name_stacks.specs.Names.{newest, or_else}
use Rattle.y_tree.specs.Tree.{Tree}
use Rattle.y_tree.specs.Laws.{FitsAreTyped}
use Rattle.term_shapes.specs.declared.handles.Term.{Term}
use Rattle.term_table.specs.World.{World}
use Rattle.term_build.specs.Building.{AddsAtMost}
use Rattle.term_build.specs.Lasting.{LastsWith}
use Rattle.term_build.proofs.Growing.{IsWider, wider}
use Rattle.yices_grammar.specs.Commands.{Binds, no_binds, more_binds}
use Rattle.expression_terms.specs.Trees.{Scope, Cause, tree_named, tree_of, bind, bindings_of, names_of, repeated_behind, repeated}
use Rattle.expression_terms.specs.Standing.{IsBuiltFor}
use Rattle.expression_terms.specs.Building.{AreBoolean, Named, term_named, with_bound, AreNamed}
use Rattle.expression_terms.specs.Bound.{AreBound, scope_names, IsAbsent, AreOnce}
use Rattle.expression_terms.proofs.Stays.{built_stays, lasting_wider}
use Rattle.expression_terms.proofs.Booleans.{let_boolean}

-- names stand for what they stood for where live terms stay
pub named_stays : (old new : World) → IsWider old new → (s : Scope) (ns : Named) → AreNamed old s ns → AreNamed new s ns
named_stays old new m s ns h = record {
  known = λ name d e. let k = h.known name d e in (k.0, k.1, built_stays old new m d k.0 k.2);
  truths = h.truths;
  unknown = h.unknown;
}

pub named_lasts : (n : ℕ) (old new : World) → LastsWith n old new → (s : Scope) (ns : Named) → AreNamed old s ns → AreNamed new s ns
named_lasts n old new m = named_stays old new (lasting_wider n old new m)

pub named_grows : (n : ℕ) (old new : World) → AddsAtMost n old new → (s : Scope) (ns : Named) → AreNamed old s ns → AreNamed new s ns
named_grows n old new adds = named_stays old new (wider n old new adds)

-- so do those that are bound
pub bound_stays : (old new : World) → IsWider old new → (ns : Scope) (ps : List (List ℕ × Term)) → AreBound old ns ps → AreBound new ns ps
bound_stays old new m [] [] h = tt
bound_stays old new m [] (p ∷ ps) h = absurd h
bound_stays old new m (n ∷ ns) [] h = absurd h
bound_stays old new m (n ∷ ns) (p ∷ ps) h = (h.0, built_stays old new m n.1 p.1 h.1, bound_stays old new m ns ps h.2)

-- one more is bound
pub bound_push : (w : World) (ns : Scope) (ps : List (List ℕ × Term)) (name : List ℕ) (d : Tree) (t : Term) → AreBound w ns ps → IsBuiltFor w d t → AreBound w (ns ++ (name, d) ∷ []) (ps ++ (name, t) ∷ [])
bound_push w [] [] name d t h built = (refl, built, tt)
bound_push w [] (p ∷ ps) name d t h built = absurd h
bound_push w (n ∷ ns) [] name d t h built = absurd h
bound_push w (n ∷ ns) (p ∷ ps) name d t h built = (h.0, h.1, bound_push w ns ps name d t h.2 built)

flipped : (a b : List ℕ) (x y : Bool) → bytes_eq a b ≡ x → bytes_eq b a ≡ y → x ≡ y
flipped a b true true e f = refl
flipped a b true false e f = absurd (cc (sym f ∙ (bytes_eq-Decides b a).1 (sym ((bytes_eq-Decides a b).0 e))))
flipped a b false true e f = absurd (cc (sym e ∙ (bytes_eq-Decides a b).1 (sym ((bytes_eq-Decides b a).0 f))))
flipped a b false false e f = refl

flip : (a b : List ℕ) → bytes_eq a b ≡ bytes_eq b a
flip a b = flipped a b (bytes_eq a b) (bytes_eq b a) refl refl

or_false : (a b : Bool) → (a || b) ≡ false → (a ≡ false) × (b ≡ false)
or_false false b h = (refl, h)
or_false true b h = absurd (cc h)

-- the name stands in the list
abbrev IsListed : List ℕ → List (List ℕ) → Type 0
IsListed name [] = ⊥
IsListed name (w ∷ ws) = (name ≡ w) ⊎ IsListed name ws

none_of : (w name : List ℕ) (ws : List (List ℕ)) → IsListed name ws → list_any (bytes_eq w) ws ≡ false → bytes_eq w name ≡ false
none_of w name [] is h = absurd is
none_of w name (v ∷ ws) (inl e) h = ap (bytes_eq w) e ∙ (or_false (bytes_eq w v) (list_any (bytes_eq w) ws) h).0
none_of w name (v ∷ ws) (inr is) h = none_of w name ws is (or_false (bytes_eq w v) (list_any (bytes_eq w) ws) h).1

step_by : (b : Bool) (w : List ℕ) (rest : Option (List ℕ)) → (if b then Some w else rest) ≡ None → (b ≡ false) × (rest ≡ None)
step_by true w rest h = absurd (cc h)
step_by false w rest h = (refl, h)

absent_behind : (name : List ℕ) (earlier ws : List (List ℕ)) → IsListed name earlier → repeated_behind earlier ws ≡ None → IsAbsent name ws
absent_behind name earlier [] is h = tt
absent_behind name earlier (w ∷ ws) is h =
    let p = step_by (list_any (bytes_eq w) earlier) w (repeated_behind (w ∷ earlier) ws) h in (none_of w name earlier is p.0, absent_behind name (w ∷ earlier) ws (inr is) p.1)

once_behind : (earlier ws : List (List ℕ)) → repeated_behind earlier ws ≡ None → AreOnce ws
once_behind earlier [] h = tt
once_behind earlier (w ∷ ws) h =
    let p = step_by (list_any (bytes_eq w) earlier) w (repeated_behind (w ∷ earlier) ws) h in (absent_behind w (w ∷ earlier) ws (inl refl) p.1, once_behind (w ∷ earlier) ws p.1)

-- where no name repeats an earlier one, none stands twice
pub names_once : (ws : List (List ℕ)) → repeated ws ≡ None → AreOnce ws
names_once ws h = once_behind [] ws h

-- bindings have the names that are bound
abbrev HasNames : Result Scope Cause → List (List ℕ) → Type 0
HasNames (Ok ns) ws = scope_names ns ≡ ws
HasNames (Err e) ws = Unit {0}

bind_names : (w : List ℕ) (t : Result Tree Cause) (ns : Result Scope Cause) (ws : List (List ℕ)) → HasNames ns ws → HasNames (bind w t ns) (w ∷ ws)
bind_names w (Err e) ns ws h = tt
bind_names w (Ok t) (Err e) ws h = tt
bind_names w (Ok t) (Ok ns) ws h = ap (λ z. w ∷ z) h

all_names : (s : Scope) (bs : Binds) → HasNames (bindings_of s bs) (names_of bs)
unfolding tree_of
all_names s no_binds = refl
all_names s (more_binds w e bs) = bind_names w (tree_of s e) (bindings_of s bs) (names_of bs) (all_names s bs)

pub let_once : (s : Scope) (bs : Binds) (ns : Scope) → bindings_of s bs ≡ Ok ns → repeated (names_of bs) ≡ None → AreOnce (scope_names ns)
let_once s bs ns is h = subst AreOnce (sym (subst (λ r. HasNames r (names_of bs)) is (all_names s bs))) (names_once (names_of bs) h)

or_else_none : {X : Type 0} (a : Option X) → or_else a None ≡ a
or_else_none None = refl
or_else_none (Some x) = refl

or_else_assoc : {X : Type 0} (a b c : Option X) → or_else (or_else a b) c ≡ or_else a (or_else b c)
or_else_assoc None b c = refl
or_else_assoc (Some x) b c = refl

newest_append : (name : List ℕ) (ps qs : List (List ℕ × Term)) → newest name (ps ++ qs) ≡ or_else (newest name qs) (newest name ps)
newest_append name [] qs = sym (or_else_none (newest name qs))
newest_append name (p ∷ ps) qs =
    ap (λ o. or_else o (if bytes_eq p.0 name then Some p.1 else None)) (newest_append name ps qs) ∙ or_else_assoc (newest name qs) (newest name ps) (if bytes_eq p.0 name then Some p.1 else None)

first_by : (b : Bool) (x : Tree) (o p rest : Option Tree) → o ≡ or_else p rest → (if b then Some x else o) ≡ or_else (if b then Some x else p) rest
first_by true x o p rest e = refl
first_by false x o p rest e = e

tree_append : (name : List ℕ) (ns s : Scope) → tree_named (ns ++ s) name ≡ or_else (tree_named ns name) (tree_named s name)
tree_append name [] s = refl
tree_append name (n ∷ ns) s = first_by (bytes_eq name n.0) n.1 (tree_named (ns ++ s) name) (tree_named ns name) (tree_named s name) (tree_append name ns s)

module _ (w : World) where
  -- what a name that is bound stands for
  abbrev Meant : List ℕ → List (List ℕ × Term) → Tree → Type 0
  Meant name ps d = (t : Term) × (newest name ps ≡ Some t) × IsBuiltFor w d t

  absent_newest : (name : List ℕ) (ns : Scope) (ps : List (List ℕ × Term)) → AreBound w ns ps → IsAbsent name (scope_names ns) → newest name ps ≡ None
  absent_newest name [] [] h a = refl
  absent_newest name [] (p ∷ ps) h a = absurd h
  absent_newest name (n ∷ ns) [] h a = absurd h
  absent_newest name (n ∷ ns) (p ∷ ps) h a =
      ap (λ o. or_else o (if bytes_eq p.0 name then Some p.1 else None)) (absent_newest name ns ps h.2 a.1) ∙ ap (λ (b : Bool). if b then Some p.1 else None) (ap (λ z. bytes_eq z name) h.0 ∙ a.0)

  known_here : (name : List ℕ) (n : List ℕ × Tree) (ns : Scope) (p : List ℕ × Term) (ps : List (List ℕ × Term)) → AreBound w (n ∷ ns) (p ∷ ps) → AreOnce (scope_names (n ∷ ns)) → bytes_eq name n.0 ≡ true → Meant name (p ∷ ps) n.1
  known_here name n ns p ps h once e =
      let same : name ≡ n.0 = (bytes_eq-Decides name n.0).0 e in
      let gone : newest name ps ≡ None = absent_newest name ns ps h.2 (subst (λ z. IsAbsent z (scope_names ns)) (sym same) once.0) in
      let this : bytes_eq p.0 name ≡ true = (bytes_eq-Decides p.0 name).1 (h.0 ∙ sym same) in
      (p.1, ap (λ o. or_else o (if bytes_eq p.0 name then Some p.1 else None)) gone ∙ ap (λ (b : Bool). if b then Some p.1 else None) this, h.1)

  known_later : (name : List ℕ) (p : List ℕ × Term) (ps : List (List ℕ × Term)) (d : Tree) → Meant name ps d → Meant name (p ∷ ps) d
  known_later name p ps d (t, is, built) = (t, ap (λ o. or_else o (if bytes_eq p.0 name then Some p.1 else None)) is, built)

  known_by : (b : Bool) (x : Tree) (rest : Option Tree) (P : Tree → Type 0) → (b ≡ true → P x) → ((d : Tree) → rest ≡ Some d → P d) → (d : Tree) → (if b then Some x else rest) ≡ Some d → P d
  known_by true x rest P here later d e = subst P (same_Some x d e) (here refl)
  known_by false x rest P here later d e = later d e

  bound_known : (ns : Scope) (ps : List (List ℕ × Term)) → AreBound w ns ps → AreOnce (scope_names ns) → (name : List ℕ) (d : Tree) → tree_named ns name ≡ Some d → Meant name ps d
  bound_known [] ps h once name d e = absurd (cc e)
  bound_known (n ∷ ns) [] h once name d e = absurd h
  bound_known (n ∷ ns) (p ∷ ps) h once name d e =
      known_by (bytes_eq name n.0) n.1 (tree_named ns name) (Meant name (p ∷ ps)) (λ f. known_here name n ns p ps h once f)
      (λ x f. known_later name p ps x (bound_known ns ps h.2 once.1 name x f)) d e

  tree_step : (b : Bool) (x : Tree) (rest : Option Tree) → (if b then Some x else rest) ≡ None → (b ≡ false) × (rest ≡ None)
  tree_step true x rest h = absurd (cc h)
  tree_step false x rest h = (refl, h)

  bound_unknown : (ns : Scope) (ps : List (List ℕ × Term)) → AreBound w ns ps → (name : List ℕ) → tree_named ns name ≡ None → newest name ps ≡ None
  bound_unknown [] [] h name e = refl
  bound_unknown [] (p ∷ ps) h name e = absurd h
  bound_unknown (n ∷ ns) [] h name e = absurd h
  bound_unknown (n ∷ ns) (p ∷ ps) h name e =
      let q = tree_step (bytes_eq name n.0) n.1 (tree_named ns name) e in
      let other : bytes_eq p.0 name ≡ false = ap (λ z. bytes_eq z name) h.0 ∙ flip n.0 name ∙ q.0 in
      ap (λ o. or_else o (if bytes_eq p.0 name then Some p.1 else None)) (bound_unknown ns ps h.2 name q.1) ∙ ap (λ (b : Bool). if b then Some p.1 else None) other

  term_pushed : (names : Named) (ps : List (List ℕ × Term)) (name : List ℕ) → term_named (with_bound names ps) name ≡ or_else (newest name ps) (term_named names name)
  term_pushed names ps name =
      ap (λ o. or_else o (newest name names.defined)) (newest_append name names.bound ps) ∙ or_else_assoc (newest name ps) (newest name names.bound) (newest name names.defined)

  module _ (s : Scope) (names : Named) (named : AreNamed w s names) (ns : Scope) (ps : List (List ℕ × Term)) (bound : AreBound w ns ps) (once : AreOnce (scope_names ns)) where
    pushed_known : (name : List ℕ) (d : Tree) (o : Option Tree) → tree_named ns name ≡ o → or_else o (tree_named s name) ≡ Some d → (t : Term) × (term_named (with_bound names ps) name ≡ Some t) × IsBuiltFor w d t
    pushed_known name d None e is =
        let k = named.known name d is in (k.0, term_pushed names ps name ∙ ap (λ o. or_else o (term_named names name)) (bound_unknown ns ps bound name e) ∙ k.1, k.2)
    pushed_known name d (Some x) e is =
        let k = bound_known ns ps bound once name d (e ∙ is) in (k.0, term_pushed names ps name ∙ ap (λ o. or_else o (term_named names name)) k.1, k.2)

    pushed_unknown : (name : List ℕ) (o : Option Tree) → tree_named ns name ≡ o → or_else o (tree_named s name) ≡ None → term_named (with_bound names ps) name ≡ None
    pushed_unknown name None e is = term_pushed names ps name ∙ ap (λ o. or_else o (term_named names name)) (bound_unknown ns ps bound name e) ∙ named.unknown name is
    pushed_unknown name (Some x) e is = absurd (cc is)

    -- where `let` binds names that differ, these come before the others
    pub let_named : AreBoolean (ns ++ s) → AreNamed w (ns ++ s) (with_bound names ps)
    let_named truths = record {
      known = λ name d e. pushed_known name d (tree_named ns name) refl (sym (tree_append name ns s) ∙ e);
      truths = truths;
      unknown = λ name e. pushed_unknown name (tree_named ns name) refl (sym (tree_append name ns s) ∙ e);
    }

-- the names that stand inside a `let`
pub let_scope : FitsAreTyped → (w : World) (s : Scope) (names : Named) → AreNamed w s names → (bs : Binds) (ns : Scope) (ps : List (List ℕ × Term)) → bindings_of s bs ≡ Ok ns → repeated (names_of bs) ≡ None → AreBound w ns ps
    → AreNamed w (ns ++ s) (with_bound names ps)
let_scope law w s names named bs ns ps is once bound = let_named w s names named ns ps bound (let_once s bs ns is once) (let_boolean law s named.truths bs ns is)
