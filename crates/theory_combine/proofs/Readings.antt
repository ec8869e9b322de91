-- What is read off an answer, one place after another.
use Rattle.std.proofs.Common.{◌≡◌, ◌∙◌, ◌+◌, ◌<◌, ◌++◌, ℕ, suc, Bool, true, false, List, [], ◌∷◌, Option, Some, None, inl, inr, ⊎_elim, length, map, take, get_or, refl, sym, ap, subst, arith, All}
use Rattle.std.specs.Prelude.{slice_get, unwrap_or}
use Rattle.std.proofs.lemmas.List.{map-append}
use Rattle.std.proofs.lemmas.Bool.{cases_eq}
use Rattle.std.proofs.lemmas.Option.{same_Some, slice_get_within}
use Rattle.clause_logic.specs.declared.Lit.{Lit}
use Rattle.clause_logic.specs.Clauses.{In}
use Rattle.node_encoding.specs.declared.Node.{Node}
use Rattle.node_encoding.specs.declared.Node.TheVariants as node_of
use Rattle.node_encoding.specs.declared.NodeLit.{NodeLit}
use Rattle.node_encoding.specs.Nodes.{number_of, IsFormed, Fits}
use Rattle.theory_combine.specs.Learned.{lit_of, clauses_of}
use Rattle.theory_combine.specs.Naming.{rename}
use Rattle.theory_combine.specs.Reading.{value_at, Assigns, Names}
use Rattle.node_encoding.proofs.Gets.{push_cases, push_old, push_here, map_more}
use Rattle.node_encoding.specs.Shapes.{true_at}
use Rattle.node_encoding.specs.Encoding.{Encoded, Encodes, lit_at, turned, assumed_at}
use Rattle.node_encoding.proofs.Placing.{slice_get_here}
use Rattle.node_encoding.proofs.Steps.{some_at}

module _ (assumed core : List Lit) (i : ℕ) (l : Lit) (here : slice_get assumed i ≡ Some l) (places : List ℕ) (names : Names assumed core i places) where
  same_here : (p : ℕ) (m : Lit) → p ≡ i → slice_get assumed p ≡ Some m → l ≡ m
  same_here p m e h = same_Some l m (sym here ∙ ap (slice_get assumed) (sym e) ∙ h)

  -- a literal that stands in the core
  pub names_more : In l core → Names assumed core (i + 1) (places ++ i ∷ [])
  names_more stands = record {
    every = λ p m below h k. ⊎_elim
        (λ e. (length places, push_here places i ∙ ap Some (sym e)))
        (λ d. let old = names.every p m (omega (arith, below, d)) h k in (old.0, push_old places i p old.0 old.1))
        (cases_eq p i);
    only = λ j p h. ⊎_elim (λ q. omega (arith, q.1)) (λ old. let one = names.only j p old in omega (arith, one)) (push_cases places i p j h);
    rising = λ j k p q below h g. ⊎_elim
        (λ t. ⊎_elim (λ s. absurd (omega (arith, s.0, t.0, below))) (λ old. let one = names.only j p old in omega (arith, one, t.1)) (push_cases places i p j h))
        (λ late. ⊎_elim (λ s. absurd (omega (arith, s.0, below, slice_get_within places k q late))) (λ old. names.rising j k p q below old late) (push_cases places i p j h))
        (push_cases places i q k g);
  }

  -- and one that doesn't
  pub names_same : (In l core → ⊥) → Names assumed core (i + 1) places
  names_same absent = record {
    every = λ p m below h k. ⊎_elim
        (λ e. absurd (absent (subst (λ x. In x core) (sym (same_here p m e h)) k)))
        (λ d. names.every p m (omega (arith, below, d)) h k)
        (cases_eq p i);
    only = λ j p h. let one = names.only j p h in omega (arith, one);
    rising = names.rising;
  }

pub names_none : (assumed core : List Lit) → Names assumed core 0 []
names_none assumed core = record {
  every = λ p l below h k. absurd (omega (arith, below));
  only = λ i p h. absurd (cc h);
  rising = λ i j p q below h g. absurd (cc h);
}

number_none : (n : Node) → ((number : ℕ) → n ≡ node_of.Const number → ⊥) → number_of (Some n) ≡ None
number_none node_of.True h = refl
number_none node_of.False h = refl
number_none (node_of.Const number) h = absurd (h number refl)
number_none (node_of.Not a) h = refl
number_none (node_of.And args) h = refl
number_none (node_of.Or args) h = refl
number_none (node_of.Xor args) h = refl
number_none (node_of.Ite c a b) h = refl
number_none (node_of.Eq a b) h = refl
number_none (node_of.Distinct args) h = refl

module _ (nodes : List Node) (lits : List Lit) (shown : List (Option Bool)) (i : ℕ) (values : List (ℕ × Bool)) (a : Assigns nodes lits shown i values) where
  abbrev entry : ℕ × Bool
  entry = (i, value_at lits shown i)

  abbrev OnlyAt : ℕ → ℕ × Bool → Type 0
  OnlyAt done e = (number : ℕ) × (slice_get nodes e.0 ≡ Some (node_of.Const number)) × (e.1 ≡ value_at lits shown e.0) × (e.0 < done)

  rising_push : (j k : ℕ) (e d : ℕ × Bool) → j < k → slice_get (values ++ entry ∷ []) j ≡ Some e → slice_get (values ++ entry ∷ []) k ≡ Some d → e.0 < d.0
  rising_push j k e d below g h =
      ⊎_elim
      (λ q. ⊎_elim
      (λ p. absurd (omega (arith, q.0, p.0, below)))
      (λ old. let o = a.only j e old in omega (arith, o.3, ap (λ (w : ℕ × Bool). w.0) q.1))
      (push_cases values entry e j g))
      (λ late. ⊎_elim
      (λ p. absurd (omega (arith, p.0, below, slice_get_within values k d late)))
      (λ old. a.rising j k e d below old late)
      (push_cases values entry e j g))
      (push_cases values entry d k h)

  -- a constant gets its value
  pub assigns_const : (number : ℕ) → slice_get nodes i ≡ Some (node_of.Const number) → Assigns nodes lits shown (i + 1) (values ++ entry ∷ [])
  assigns_const number h = record {
    every = λ k m below g. ⊎_elim
        (λ q. (length values, push_here values entry ∙ ap (λ (w : ℕ). let e : ℕ × Bool = (w, value_at lits shown w) in Some e) (sym q)))
        (λ d. let old = a.every k m (omega (arith, below, d)) g in (old.0, push_old values entry (k, value_at lits shown k) old.0 old.1))
        (cases_eq k i);
    only = λ j e g. ⊎_elim
        (λ q. subst (OnlyAt (i + 1)) q.1 (number, h, refl, omega arith))
        (λ old. let o = a.only j e old in (o.0, o.1, o.2, omega (arith, o.3)))
        (push_cases values entry e j g);
    rising = rising_push;
  }

  -- another node gets none
  pub assigns_other : (n : Node) → slice_get nodes i ≡ Some n → ((number : ℕ) → n ≡ node_of.Const number → ⊥) → Assigns nodes lits shown (i + 1) values
  assigns_other n h other = record {
    every = λ k m below g. ⊎_elim
        (λ q. absurd (cc (sym (number_none n other) ∙ ap number_of (sym h ∙ ap (slice_get nodes) (sym q) ∙ g))))
        (λ d. a.every k m (omega (arith, below, d)) g)
        (cases_eq k i);
    only = λ j e g. let o = a.only j e g in (o.0, o.1, o.2, omega (arith, o.3));
    rising = a.rising;
  }

-- a literal more is renamed, and a clause more
pub renamed_more : (names : List ℕ) (lits : List Lit) (i : ℕ) (x : Lit) (old new : List NodeLit) (n : ℕ) → slice_get lits i ≡ Some x → map lit_of old ≡ map (rename names) (take i lits) → n ≡ unwrap_or (slice_get names x.var) 0
    → new ≡ old ++ record { node = n; positive = x.positive } ∷ [] → map lit_of new ≡ map (rename names) (take (i + 1) lits)
renamed_more names lits i x old new n h known e is =
    map_more (rename names) lits i x (map lit_of old) (map lit_of new) h known
    (ap (map lit_of) is ∙ map-append lit_of old (record { node = n; positive = x.positive } ∷ []) ∙ ap (λ v. let l : Lit = record { var = v; positive = x.positive } in map lit_of old ++ l ∷ []) e)

pub clauses_more : (names : List ℕ) (learned : List (List Lit)) (i : ℕ) (x : List Lit) (old new : List (List NodeLit)) (c : List NodeLit) → slice_get learned i ≡ Some x → clauses_of old ≡ map (map (rename names)) (take i learned)
    → map lit_of c ≡ map (rename names) x → new ≡ old ++ c ∷ [] → clauses_of new ≡ map (map (rename names)) (take (i + 1) learned)
clauses_more names learned i x old new c h known e is =
    map_more (map (rename names)) learned i x (clauses_of old) (clauses_of new) h known
    (ap clauses_of is ∙ map-append (map lit_of) old (c ∷ []) ∙ ap (λ d. clauses_of old ++ d ∷ []) e)

-- a node of the problem fits the nodes before it
pub fits_next : (nodes before : List Node) (i : ℕ) (n copy : Node) → IsFormed nodes → before ≡ take i nodes → slice_get nodes i ≡ Some n → copy ≡ n → Fits before copy
fits_next nodes before i n copy formed e h same = subst (λ w. Fits w copy) (sym e) (subst (Fits (take i nodes)) (sym same) (formed.fits i n h))

-- what stands at a place of a list that is another's
pub place_is : {X : Type 0} (xs ys : List X) (i : ℕ) (d x : X) → i < length xs → xs ≡ ys → get_or xs i d ≡ x → slice_get ys i ≡ Some x
place_is xs ys i d x h e f = ap (λ w. slice_get w i) (sym e) ∙ slice_get_here xs i d h ∙ ap Some f

-- assumptions name known variables
pub assumed_known : (e : Encoded) (nodes : List Node) (lits : List NodeLit) → Encodes nodes e → All (λ (l : NodeLit). l.node < length e.lits) lits → (l : Lit) → In l (map (assumed_at e.lits) lits) → l.var < length e.origins
assumed_known e nodes [] encodes below l i = absurd i
assumed_known e nodes (x ∷ lits) encodes below l (inl same) =
    let one = some_at e.lits x.node (below 0 x (omega arith)) in
    subst (λ m. m.var < length e.origins) same (turned_known x.positive (lit_at e.lits x.node) (subst (λ m. m.var < length e.origins) (sym (ap (λ o. unwrap_or o (true_at x.node)) one.1)) (encodes.known x.node one.0 one.1)))
  where
    turned_known : (b : Bool) (m : Lit) → m.var < length e.origins → (turned b m).var < length e.origins
    turned_known true m h = h
    turned_known false m h = h
assumed_known e nodes (x ∷ lits) encodes below l (inr i) = assumed_known e nodes lits encodes (λ j d s. below (suc j) d (omega (arith, s))) l i
