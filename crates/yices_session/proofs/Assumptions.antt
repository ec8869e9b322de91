-- Terms that are built for the literals of a check, one after another.
use Rattle.std.proofs.Common.{◌≡◌, ◌∙◌, ℕ, zero, suc, ◌+◌, ◌<◌, ◌≤◌, List, [], ◌∷◌, ◌++◌, Option, Some, Result, Ok, length, map, take, get_or, refl, sym, ap, subst, arith}
use Rattle.std.proofs.lemmas.List.{take_more, take_all, map-append, get_or-map}
use Rattle.stamped_slots.proofs.Lists.{map_length}
use Rattle.yices_commands.specs.declared.command.LitExpr.{LitExpr as CodeLiteral}
use Rattle.yices_commands.specs.Plain.{plain_literal}
use Rattle.name_stacks.specs.Names.{or_else}
use Rattle.y_tree.specs.Tree.{Tree}
use Rattle.term_shapes.specs.declared.handles.Term.{Term}
use Rattle.term_table.specs.World.{World}
use Rattle.term_build.specs.Building.{AddsAtMost}
use Rattle.term_build.proofs.Growing.{then_more}
use Rattle.term_build.proofs.Lasts.{building_lasts}
use Rattle.yices_grammar.specs.Commands.{LitExpr}
use Rattle.yices_api.specs.State.{State as Environment}
use Rattle.expression_terms.specs.declared.refusal.Refusal.TheVariants as refusal
use Rattle.expression_terms.specs.declared.refusal.Stop.{Stop}
use Rattle.expression_terms.specs.declared.refusal.Stop.TheVariants as stop
use Rattle.expression_terms.specs.Trees.{Scope, Cause}
use Rattle.expression_terms.specs.Standing.{IsBuiltFor}
use Rattle.expression_terms.specs.Fresh.{needs, GrowsBy}
use Rattle.expression_terms.specs.Growth.{GrowsFor}
use Rattle.expression_terms.specs.Building.{AreNamed, BuildsLiteral, IsUnbuilt, cause_in, literal_tree}
use Rattle.expression_terms.proofs.Stays.{built_grows}
use Rattle.expression_terms.proofs.Grown.{grows_none, grows_then}
use Rattle.expression_terms.proofs.Scopes.{named_grows}
use Rattle.yices_session.proofs.Subtrees.{grows_some}
use Rattle.yices_session.specs.Steps.{Assumed, assumed_trees, unknown_in}
use Rattle.yices_session.specs.Parts.{literal_of, IsBuiltAssumption, AreBuiltAssumptions, Assumes, AssumesAll, AddsSome, MayAddSome, StopsAssuming}

-- the names of the table stand for the trees of the scope
abbrev pub TableNamed : World → Scope → Type 0
TableNamed w s = AreNamed w s (record { bound = []; defined = w.term_names })

names_stay : (n : ℕ) (old new : World) → AddsAtMost n old new → new.term_names ≡ old.term_names
names_stay n old new adds = ap (λ (w : World). w.term_names) (building_lasts n old new adds).rest

pub named_on : (n : ℕ) (old new : World) → AddsAtMost n old new → (s : Scope) → TableNamed old s → TableNamed new s
named_on n old new adds s named =
    subst (λ names. AreNamed new s (record { bound = []; defined = names })) (sym (names_stay n old new adds)) (named_grows n old new adds s (record { bound = []; defined = old.term_names }) named)

-- assumptions that were built stay so, and one more
built_stay : (s : Scope) (n : ℕ) (old new : World) → AddsAtMost n old new → (ls : List LitExpr) (as_ : List Assumed) → AreBuiltAssumptions s old ls as_ → AreBuiltAssumptions s new ls as_
built_stay s n old new adds [] [] h = tt
built_stay s n old new adds [] (a ∷ as_) h = absurd h
built_stay s n old new adds (l ∷ ls) [] h = absurd h
built_stay s n old new adds (l ∷ ls) (a ∷ as_) h =
    (record { literal = h.0.literal; tree = h.0.tree; built = built_grows n old new adds a.tree a.term h.0.built }, built_stay s n old new adds ls as_ h.1)

built_push : (s : Scope) (w : World) (ls : List LitExpr) (as_ : List Assumed) (l : LitExpr) (a : Assumed) → AreBuiltAssumptions s w ls as_ → IsBuiltAssumption s w l a → AreBuiltAssumptions s w (ls ++ l ∷ []) (as_ ++ a ∷ [])
built_push s w [] [] l a h p = (p, tt)
built_push s w [] (b ∷ as_) l a h p = absurd h
built_push s w (m ∷ ls) [] l a h p = absurd h
built_push s w (m ∷ ls) (b ∷ as_) l a h p = (h.0, built_push s w ls as_ l a h.1 p)

-- the terms so far, of the literals before the i-th one
abbrev pub SomeAssumed : World → World → List LitExpr → ℕ → List Term → Type 0
SomeAssumed old new ls i ts = (s : Scope) → TableNamed old s → Assumes s old new (take i ls) ts

pub some_start : (w : World) (ls : List LitExpr) → SomeAssumed w w ls 0 []
some_start w ls s named = record { assumed = []; are = tt; terms = refl; grows = grows_none [] w }

pub some_more : (old mid new : World) (ls : List LitExpr) (i : ℕ) (d : LitExpr) (ts : List Term) (t : Term) → i < length ls → SomeAssumed old mid ls i ts
    → ((s : Scope) → TableNamed mid s → (tree : Tree) × (literal_tree s (get_or ls i d) ≡ Ok tree) × IsBuiltFor new tree t × GrowsBy (tree ∷ []) mid new) → SomeAssumed old new ls (i + 1) (ts ++ t ∷ [])
some_more old mid new ls i d ts t below so next s named =
    let p : Assumes s old mid (take i ls) ts = so s named in
    let (tree, known, built, grows) = next s (named_on (needs p.grows.trees) old mid p.grows.adds s named) in
    let l : LitExpr = get_or ls i d in
    let a : Assumed = record { literal = literal_of l; tree = tree; term = t } in record {
      assumed = p.assumed ++ a ∷ [];
      are = subst (λ xs. AreBuiltAssumptions s new xs (p.assumed ++ a ∷ [])) (sym (take_more ls i d below))
          (built_push s new (take i ls) p.assumed l a (built_stay s (needs grows.trees) mid new grows.adds (take i ls) p.assumed p.are) (record { literal = refl; tree = known; built = built }));
      terms = map-append (λ (x : Assumed). x.term) p.assumed (a ∷ []) ∙ ap (λ us. us ++ t ∷ []) p.terms;
      grows = subst (λ ds. GrowsBy ds old new) (sym (map-append (λ (x : Assumed). x.tree) p.assumed (a ∷ []))) (grows_then (assumed_trees p.assumed) (tree ∷ []) old mid new p.grows grows);
    }

pub some_all : (old new : World) (ls : List LitExpr) (i : ℕ) (ts : List Term) → length ls ≤ i → SomeAssumed old new ls i ts → AssumesAll old new ls ts
some_all old new ls i ts past so = record { each = λ s named. subst (λ xs. Assumes s old new xs ts) (take_all i ls past) (so s named) }

-- what was added so far, and what more where it stops
pub some_added : (old new : World) (ls : List LitExpr) (i : ℕ) (ts : List Term) → SomeAssumed old new ls i ts → MayAddSome old new
some_added old new ls i ts so = record { each = λ s named. let p = so s named in record { count = needs p.grows.trees; adds = p.grows.adds } }

pub past_added : (old mid new : World) (ls : List LitExpr) (i : ℕ) (ts : List Term) → SomeAssumed old mid ls i ts → ((s : Scope) → TableNamed mid s → (ds : List Tree) × GrowsFor ds mid new) → MayAddSome old new
past_added old mid new ls i ts so past = record { each = added }
  where
    added : (s : Scope) → TableNamed old s → AddsSome old new
    added s named =
        let p = so s named in
        let g = past s (named_on (needs p.grows.trees) old mid p.grows.adds s named) in
        let more = grows_some g.0 mid new g.1 in record { count = needs p.grows.trees + more.0; adds = then_more (needs p.grows.trees) more.0 (needs p.grows.trees + more.0) old mid new p.grows.adds more.1 (omega arith) }

-- the first unknown name of the literals is that of the first literal that wasn't built
unknown_there : (s : Scope) (w : World) (ls : List LitExpr) (i : ℕ) (d : LitExpr) (as_ : List Assumed) (x : Cause) → i < length ls → AreBuiltAssumptions s w (take i ls) as_ → cause_in (literal_tree s (get_or ls i d)) ≡ Some x → unknown_in s ls ≡ Some x
unknown_there s w [] i d as_ x below built e = absurd (omega (arith, below))
unknown_there s w (l ∷ ls) zero d as_ x below built e = ap (λ c. or_else c (unknown_in s ls)) e
unknown_there s w (l ∷ ls) (suc i) d [] x below built e = absurd built
unknown_there s w (l ∷ ls) (suc i) d (a ∷ as_) x below built e =
    ap (λ (r : Result Tree Cause). or_else (cause_in r) (unknown_in s ls)) built.0.tree ∙ unknown_there s w ls i d as_ x (omega (arith, below)) built.1 e

-- a cause that another one is told for
unbuilt_for : (c e : Option Cause) → ((x : Cause) → c ≡ Some x → e ≡ Some x) → (new : Environment) (why : Stop) → IsUnbuilt c new why → IsUnbuilt e new why
unbuilt_for c e same new stop.NoMemory h = tt
unbuilt_for c e same new (stop.Refused at refusal.TableFull) h = h
unbuilt_for c e same new (stop.Refused at (refusal.UnknownName v)) h = same _ h
unbuilt_for c e same new (stop.Refused at (refusal.NameInUse v)) h = same _ h
unbuilt_for c e same new (stop.Refused at (refusal.BoundTwice v)) h = same _ h
unbuilt_for c e same new (stop.Refused at (refusal.BadArity n)) h = same _ h
unbuilt_for c e same new (stop.Refused at (refusal.WrongType place want found)) h = same _ h
unbuilt_for c e same new (stop.Refused at refusal.BottomLevel) h = same _ h
unbuilt_for c e same new (stop.Refused at refusal.TooDeep) h = same _ h
unbuilt_for c e same new (stop.Refused at refusal.NotBuilt) h = same _ h

pub some_stop : (old : Environment) (mid : World) (new : Environment) (ls : List LitExpr) (i : ℕ) (d : LitExpr) (ts : List Term) (why : Stop) → i < length ls → SomeAssumed old.table mid ls i ts
    → ((s : Scope) → TableNamed mid s → IsUnbuilt (cause_in (literal_tree s (get_or ls i d))) new why) → StopsAssuming old new ls why
some_stop old mid new ls i d ts why below so stops s named =
    let p = so s named in
    unbuilt_for (cause_in (literal_tree s (get_or ls i d))) (unknown_in s ls) (λ x e. unknown_there s mid ls i d p.assumed x below p.are e) new why (stops s (named_on (needs p.grows.trees) old.table mid p.grows.adds s named))

-- the literal at a place of the code's list
pub plain_at : (ls : List CodeLiteral) (i : ℕ) (x : CodeLiteral) → i < length ls → x ≡ get_or ls i x → get_or (map plain_literal ls) i (plain_literal x) ≡ plain_literal x
plain_at ls i x below is = get_or-map plain_literal ls i x (plain_literal x) below ∙ ap plain_literal (sym is)

pub plain_below : (ls : List CodeLiteral) (i : ℕ) → i < length ls → i < length (map plain_literal ls)
plain_below ls i below = omega (arith, below, map_length plain_literal ls)

-- one more literal of the code's list, whose term was built
pub some_next : (old : World) (mid new : Environment) (ls : List CodeLiteral) (i : ℕ) (x : CodeLiteral) (ts : List Term) (t : Term) → i < length ls → x ≡ get_or ls i x → SomeAssumed old mid.table (map plain_literal ls) i ts
    → ((s : Scope) → TableNamed mid.table s → BuildsLiteral s (plain_literal x) mid new t) → SomeAssumed old new.table (map plain_literal ls) (i + 1) (ts ++ t ∷ [])
some_next old mid new ls i x ts t below is so next =
    some_more old mid.table new.table (map plain_literal ls) i (plain_literal x) ts t (plain_below ls i below) so
    (λ s named. let b = next s named in (b.tree, ap (literal_tree s) (plain_at ls i x below is) ∙ b.is, b.built, b.grows))
