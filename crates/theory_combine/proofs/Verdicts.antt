-- What the search's answers say of the nodes.
use Rattle.std.proofs.Common.{◌≡◌, ◌∙◌, ◌<◌, ◌++◌, cond, ℕ, zero, suc, Bool, true, false, not, List, [], ◌∷◌, Option, Some, None, inl, inr, ⊎_elim, length, map, get_or, refl, sym, ap, subst, arith, All}
use Rattle.std.specs.Prelude.{slice_get, unwrap_or}
use Rattle.std.proofs.lemmas.List.{take_all}
use Rattle.std.proofs.lemmas.Bool.{cases_eq, eq-eqb, ne_eqb}
use Rattle.std.proofs.lemmas.Option.{same_Some, slice_get_within, slice_get-get_or}
use Rattle.y_tree.specs.Sorts.{boolean}
use Rattle.y_tree.specs.Values as value
use Rattle.y_tree.specs.Meaning.{Assignment, truth_of, value_in}
use Rattle.clause_logic.specs.declared.Lit.{Lit}
use Rattle.clause_logic.specs.Clauses.{In, Models, Listed}
use Rattle.clause_search.specs.Answers.{IsUnsatCore}
use Rattle.clause_search.specs.Answers as search
use Rattle.node_encoding.specs.declared.Node.{Node}
use Rattle.node_encoding.specs.declared.Node.TheVariants as node_of
use Rattle.node_encoding.specs.declared.NodeLit.{NodeLit}
use Rattle.node_encoding.specs.declared.encoding.Origin.{Origin}
use Rattle.node_encoding.specs.Nodes.{IsFormed, number_at, number_of, entry_of, constants_in, assignment_of, Makes, MakesAll, truths_of}
use Rattle.theory_combine.specs.Answers.{IsSolution, IsConflict, IsConflictUnder}
use Rattle.theory_combine.specs.Reading.{shown_at, value_at, Assigns, Names}
use Rattle.node_encoding.specs.Shapes.{Obeys, true_at}
use Rattle.node_encoding.specs.Gates.{truth, unit_clauses}
use Rattle.node_encoding.specs.Encoding.{Encoded, Encodes, Agrees, origin_value, lit_at, turned, assumed_at}
use Rattle.theory_combine.specs.Values.{truth_in}
use Rattle.node_encoding.proofs.Gets.{get_mapped, all_get, get_cases}
use Rattle.node_encoding.proofs.Listing.{makes_truth, truth_opposite, true_signed, models_append, holds_first, listed_front, listed_back}
use Rattle.node_encoding.proofs.Gating.{map_models, in_listed}
use Rattle.node_encoding.proofs.Completing.{earlier, told, shaped}
use Rattle.node_encoding.proofs.Meanings.{obeys, const_meaning}
use Rattle.theory_combine.proofs.Tables.{value_in_booleans}

-- the truth values of what the variables stand for
abbrev of_origin : List Node → (ℕ → Bool) → Option Origin → Bool
of_origin nodes t None = false
of_origin nodes t (Some o) = origin_value nodes t o

abbrev pub valuation : List Node → List Origin → (ℕ → Bool) → ℕ → Bool
valuation nodes origins t v = of_origin nodes t (slice_get origins v)

pub valuation_agrees : (nodes : List Node) (origins : List Origin) (t : ℕ → Bool) → Agrees nodes origins t (valuation nodes origins t)
valuation_agrees nodes origins t v o h = ap (of_origin nodes t) h

-- a literal turned as a problem's literal is
pub truth_turned : (a : ℕ → Bool) (b : Bool) (l : Lit) → truth a l ≡ b → truth a (turned b l) ≡ true
truth_turned a true l e = e
truth_turned a false l e = truth_opposite a l ∙ ap not e

turned_truth : (a : ℕ → Bool) (b : Bool) (l : Lit) → truth a (turned b l) ≡ true → truth a l ≡ b
turned_truth a true l e = e
turned_truth a false l e = negated (truth a l) (sym (truth_opposite a l) ∙ e)
  where
    negated : (b : Bool) → not b ≡ true → b ≡ false
    negated true e = absurd (cc e)
    negated false e = refl

get_within : {X : Type 0} (xs : List X) (k : ℕ) → k < length xs → (x : X) × (slice_get xs k ≡ Some x)
get_within [] k h = absurd (omega (arith, h))
get_within (x ∷ xs) zero h = (x, refl)
get_within (x ∷ xs) (suc k) h = get_within xs k (omega (arith, h))

pub get_of_in : (xs : List Lit) (l : Lit) → In l xs → (i : ℕ) × (slice_get xs i ≡ Some l)
get_of_in [] l h = absurd h
get_of_in (x ∷ xs) l (inl e) = (zero, ap Some e)
get_of_in (x ∷ xs) l (inr k) = let r = get_of_in xs l k in (suc r.0, r.1)

lit_here : (lits : List Lit) (k : ℕ) (l : Lit) → slice_get lits k ≡ Some l → lit_at lits k ≡ l
lit_here lits k l h = ap (λ o. unwrap_or o (true_at k)) h

module _ (nodes : List Node) (e : Encoded) (encodes : Encodes nodes e) (all : length e.lits ≡ length nodes) (formed : IsFormed nodes) where
  -- the literals of the nodes have the truth values of their trees
  pub meant : (s : Assignment) (a : ℕ → Bool) → Agrees nodes e.origins (truths_of nodes s) a → (k : ℕ) → k < length nodes → truth a (lit_at e.lits k) ≡ truths_of nodes s k
  meant s a agrees k small =
      let one = get_within e.lits k (omega arith) in
      ap (truth a) (lit_here e.lits k one.0 one.1) ∙ encodes.means (truths_of nodes s) a (obeys nodes formed s) agrees k one.0 one.1

  module _ (s : Assignment) where
    abbrev a : ℕ → Bool
    a = valuation nodes e.origins (truths_of nodes s)

    agrees : Agrees nodes e.origins (truths_of nodes s) a
    agrees = valuation_agrees nodes e.origins (truths_of nodes s)

    -- where a problem's literal is true, the search's literal is
    made_true : (xs : List NodeLit) → All (λ (l : NodeLit). l.node < length nodes) xs → (ls : List Lit) → ls ≡ map (assumed_at e.lits) xs → (l : Lit) (i : ℕ) → slice_get ls i ≡ Some l
        → ((x : NodeLit) → slice_get xs i ≡ Some x → Makes nodes s x) → truth a l ≡ true
    made_true xs below ls are l i at makes =
        let from = get_mapped (assumed_at e.lits) xs i l (ap (λ w. slice_get w i) (sym are) ∙ at) in
        ap (truth a) (sym from.2)
        ∙ truth_turned a from.0.positive (lit_at e.lits from.0.node)
        (meant s a agrees from.0.node (all_get (λ (x : NodeLit). x.node < length nodes) xs i from.0 below from.1) ∙ makes from.0 from.1)

    module _ (asserted : List NodeLit) (below : All (λ (l : NodeLit). l.node < length nodes) asserted) (given : List Lit) (are : given ≡ map (assumed_at e.lits) asserted) (makes : MakesAll nodes s asserted) where
      -- where the asserted literals are true, all clauses are
      pub all_modelled : (clauses : List (List Lit)) → clauses ≡ e.clauses ++ unit_clauses given → Models a (Listed clauses)
      all_modelled clauses whole =
          subst (λ w. Models a (Listed w)) (sym whole)
          (models_append a e.clauses (unit_clauses given) (encodes.sound (truths_of nodes s) a (obeys nodes formed s) agrees)
          (map_models a (λ l. l ∷ []) given (λ l k. let at = get_of_in given l k in holds_first a l [] (made_true asserted below given are l at.0 at.1 (λ x h. makes at.0 x h)))))

  module _ (asserted assumed : List NodeLit) (below : All (λ (l : NodeLit). l.node < length nodes) asserted) (under : All (λ (l : NodeLit). l.node < length nodes) assumed)
      (given open_lits : List Lit) (given_are : given ≡ map (assumed_at e.lits) asserted) (open_are : open_lits ≡ map (assumed_at e.lits) assumed) (clauses : List (List Lit)) (whole : clauses ≡ e.clauses ++ unit_clauses given) where
    -- a core of assumptions names literals that are never true together with the asserted ones
    pub conflict : (core : List Lit) (stands : List Lit → Type 0) → ((c : List Lit) → stands c → ⊥) → IsUnsatCore clauses stands open_lits core → (places : List ℕ) → Names open_lits core (length open_lits) places → IsConflictUnder nodes asserted assumed places
    conflict core stands none unsat places names = record {
      within = λ k d h. let small : get_or places k d < length open_lits = names.only k (get_or places k d) (slice_get-get_or places k d h) in
          omega (arith, small, ap length open_are, length_mapped (assumed_at e.lits) assumed);
      rising = names.rising;
      never = λ s makes at.
          unsat.refuted (a s)
          (λ c h. ⊎_elim (all_modelled s asserted below given given_are makes clauses whole c) (λ k. absurd (none c k)) h)
          (λ l i.
          let place = get_of_in open_lits l (unsat.assumptions l i) in
          let there = names.every place.0 l (slice_get_within open_lits place.0 l place.1) place.1 i in
          makes_truth (a s) l (made_true s assumed under open_lits open_are l place.0 place.1
          (λ x h. at place.0 x (there.0, slice_get_within places there.0 place.0 there.1, placed places there.0 place.0 there.1) h)));
    }
      where
        length_mapped : {X Y : Type 0} (f : X → Y) (xs : List X) → length (map f xs) ≡ length xs
        length_mapped f [] = refl
        length_mapped f (x ∷ xs) = ap suc (length_mapped f xs)

        placed : (xs : List ℕ) (i p : ℕ) → slice_get xs i ≡ Some p → get_or xs i p ≡ p
        placed [] i p h = absurd (cc h)
        placed (x ∷ xs) zero p h = same_Some x p h
        placed (x ∷ xs) (suc i) p h = placed xs i p h

-- truth values of nodes, read as those of constants, give a constant its value
value_read : (nodes : List Node) (values : List (ℕ × Bool)) (number : ℕ) (b : Bool) → ((i : ℕ) (e : ℕ × Bool) → slice_get values i ≡ Some e → (m : ℕ) × (number_at nodes e.0 ≡ Some m) × (m ≡ number → e.1 ≡ b))
    → (i : ℕ) (e : ℕ × Bool) → slice_get values i ≡ Some e → number_at nodes e.0 ≡ Some number → truth_in (constants_in nodes values) number ≡ b
value_read nodes [] number b ok i e h k = absurd (cc h)
value_read nodes (d ∷ ds) number b ok zero e h k =
    let first = ok zero d refl in
    let same : first.0 ≡ number = same_Some first.0 number (sym first.1 ∙ ap (λ (w : ℕ × Bool). number_at nodes w.0) (same_Some d e h) ∙ k) in
    ap (λ o. truth_in (entry_of o d.1 ++ constants_in nodes ds) number) first.1
    ∙ ap (λ t. cond {A = Bool} t d.1 (truth_in (constants_in nodes ds) number)) (eq-eqb first.0 number same)
    ∙ first.2 same
value_read nodes (d ∷ ds) number b ok (suc i) e h k =
    let first = ok zero d refl in
    ap (λ o. truth_in (entry_of o d.1 ++ constants_in nodes ds) number) first.1
    ∙ ⊎_elim
    (λ same. ap (λ t. cond {A = Bool} t d.1 (truth_in (constants_in nodes ds) number)) (eq-eqb first.0 number same) ∙ first.2 same)
    (λ other. ap (λ t. cond {A = Bool} t d.1 (truth_in (constants_in nodes ds) number)) (ne_eqb first.0 number other) ∙ value_read nodes ds number b (λ j. ok (suc j)) i e h k)
    (cases_eq first.0 number)

module _ (nodes : List Node) (e : Encoded) (encodes : Encodes nodes e) (all : length e.lits ≡ length nodes) (formed : IsFormed nodes) (shown : List (Option Bool)) (vars : ℕ) (given open_lits : List Lit)
    (clauses : List (List Lit)) (whole : clauses ≡ e.clauses ++ unit_clauses given) (solved : search.IsSolution vars clauses open_lits shown) where
  abbrev t : ℕ → Bool
  t = value_at e.lits shown

  true_in : (l : Lit) → search.IsTrueIn shown l → truth (shown_at shown) l ≡ true
  true_in l h = true_signed l.positive (shown_at shown l.var) (ap (λ o. unwrap_or (unwrap_or o None) false) h)

  models : Models (shown_at shown) (Listed e.clauses)
  models c there = let one = solved.clauses c (subst (λ w. Listed w c) (sym whole) (listed_front e.clauses (unit_clauses given) c there)) in (one.0, one.1, makes_truth (shown_at shown) one.0 (true_in one.0 one.2))

  t_obeys : Obeys nodes t
  t_obeys = subst (λ ns. Obeys ns t) (take_all (length e.lits) nodes (omega (arith, all))) (shaped nodes e (shown_at shown) formed encodes models)

  -- each asserted and each assumed literal is true
  given_true : (l : Lit) → In l given → truth (shown_at shown) l ≡ true
  given_true l i =
      let one = solved.clauses (l ∷ []) (subst (λ w. Listed w (l ∷ [])) (sym whole) (listed_back e.clauses (unit_clauses given) (l ∷ []) (in_listed (shown_at shown) (λ x. x ∷ []) given l i))) in
      ⊎_elim (λ same. ap (truth (shown_at shown)) same ∙ true_in one.0 one.2) (λ z. absurd z) one.1

  open_true : (l : Lit) → In l open_lits → truth (shown_at shown) l ≡ true
  open_true l i = true_in l (solved.assumptions l i)

  module _ (entries : List (ℕ × Bool)) (assigns : Assigns nodes e.lits shown (length nodes) entries)
      (asserted assumed : List NodeLit) (below : All (λ (l : NodeLit). l.node < length nodes) asserted) (under : All (λ (l : NodeLit). l.node < length nodes) assumed)
      (given_are : given ≡ map (assumed_at e.lits) asserted) (open_are : open_lits ≡ map (assumed_at e.lits) assumed) where
    abbrev found : Assignment
    found = assignment_of nodes entries

    entry_value : (i : ℕ) (d : ℕ × Bool) → slice_get entries i ≡ Some d → (number : ℕ) → slice_get nodes d.0 ≡ Some (node_of.Const number) → value_in found.constants number boolean ≡ value.truth (t d.0)
    entry_value i d h number k =
        value_in_booleans (constants_in nodes entries) number
        ∙ ap value.truth (value_read nodes entries number (t d.0)
        (λ j x g. let o = assigns.only j x g in
        (o.0, ap number_of o.1, (λ same. o.2 ∙ t_obeys.constants x.0 d.0 number (o.1 ∙ ap (λ m. Some (node_of.Const m)) same) k)))
        i d h (ap number_of k))

    same_constants : (k number : ℕ) → slice_get nodes k ≡ Some (node_of.Const number) → truths_of nodes found k ≡ t k
    same_constants k number h =
        let one = assigns.every k number (slice_get_within nodes k _ h) h in
        ap truth_of (const_meaning nodes formed found k number h ∙ entry_value one.0 (k, t k) one.1 number h)

    meaning_told : (k : ℕ) → k < length nodes → truths_of nodes found k ≡ t k
    meaning_told = told nodes (earlier nodes formed) (truths_of nodes found) t (obeys nodes formed found) t_obeys same_constants

    -- a problem's literal is true where the search's literal is
    makes_lit : (xs : List NodeLit) → All (λ (l : NodeLit). l.node < length nodes) xs → (ls : List Lit) → ls ≡ map (assumed_at e.lits) xs → ((l : Lit) → In l ls → truth (shown_at shown) l ≡ true)
        → (i : ℕ) (x : NodeLit) → slice_get xs i ≡ Some x → Makes nodes found x
    makes_lit xs small ls are all_true i x h =
        meaning_told x.node (all_get (λ (y : NodeLit). y.node < length nodes) xs i x small h)
        ∙ turned_truth (shown_at shown) x.positive (lit_at e.lits x.node)
        (all_true (assumed_at e.lits x) (standing ls i (assumed_at e.lits x) (ap (λ w. slice_get w i) are ∙ mapped xs i x h)))
      where
        mapped : (xs : List NodeLit) (i : ℕ) (x : NodeLit) → slice_get xs i ≡ Some x → slice_get (map (assumed_at e.lits) xs) i ≡ Some (assumed_at e.lits x)
        mapped [] i x h = absurd (cc h)
        mapped (y ∷ xs) zero x h = ap (λ z. Some (assumed_at e.lits z)) (same_Some y x h)
        mapped (y ∷ xs) (suc i) x h = mapped xs i x h

        standing : (xs : List Lit) (i : ℕ) (l : Lit) → slice_get xs i ≡ Some l → In l xs
        standing [] i l h = absurd (cc h)
        standing (y ∷ xs) zero l h = inl (same_Some y l h)
        standing (y ∷ xs) (suc i) l h = inr (standing xs i l h)

    -- values read off make all literals true
    pub solution : IsSolution nodes (asserted ++ assumed) entries
    solution = record {
      every = λ k number h. let one = assigns.every k number (slice_get_within nodes k _ h) h in (one.0, t k, one.1);
      only = λ i d h. let o = assigns.only i d h in (o.0, o.1);
      rising = assigns.rising;
      agree = λ i d h. let o = assigns.only i d h in const_meaning nodes formed found d.0 o.0 o.1 ∙ entry_value i d h o.0 o.1 ∙ ap value.truth (sym o.2);
      makes = λ i lit h. ⊎_elim
          (λ front. makes_lit asserted below given given_are given_true i lit front)
          (λ back. makes_lit assumed under open_lits open_are open_true back.0 lit back.1)
          (get_cases asserted assumed i lit h);
    }

-- all places are a conflict, where nothing that is asserted is assumed
pub all_conflict : (nodes : List Node) (lits : List NodeLit) (places none : List ℕ) → IsConflictUnder nodes lits [] none → length places ≡ length lits → ((i p : ℕ) → slice_get places i ≡ Some p → p ≡ i) → IsConflict nodes lits places
all_conflict nodes lits places none under len each = record {
  within = λ k d h. omega (arith, h, len, each k (get_or places k d) (slice_get-get_or places k d h));
  rising = λ i j p q below g h. omega (arith, below, each i p g, each j q h);
  never = λ s at.
      under.never s
      (λ i lit h.
      let within : i < length places = omega (arith, len, slice_get_within lits i lit h) in
      at i lit (i, within, each i (get_or places i i) (slice_get-get_or places i i within)) h)
      (λ i lit h g. absurd (cc g));
}
