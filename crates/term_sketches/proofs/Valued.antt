-- What literals mean where atoms have values of their types: joined literals, and parities.
use Rattle.std.proofs.Common.{◌≡◌, ◌∙◌, Bool, true, false, not, ◌||◌, List, [], ◌∷◌, map, refl, sym, ap, if◌then◌else◌, cond}
use Rattle.std.specs.declared.cmp.Ordering.{Ordering}
use Rattle.std.specs.declared.cmp.Ordering.TheVariants.{Less, Equal, Greater}
use Rattle.std.specs.Ordering.{match_ordering, is_eq}
use Rattle.std.specs.List.{list_any}
use Rattle.std.specs.BTreeSet.{insert_key}
use Rattle.std.specs.Set.{remove_key}
use Rattle.y_tree.specs.Sorts.{Sort, boolean}
use Rattle.y_tree.specs.Values as value
use Rattle.y_tree.specs.Values.{Value, truth, has_sort, same_value}
use Rattle.y_tree.specs.Meaning.{is_odd, truth_of}
use Rattle.term_shapes.specs.declared.handles.Term.{Term}
use Rattle.term_sketches.specs.declared.items.Literal.{Literal}
use Rattle.term_sketches.specs.declared.items.Sketch.TheVariants as sketch
use Rattle.term_sketches.specs.Sketches.{the_truth, opposite, constant, term_order, literal_order, same_term, same_literal, has, gathered, clash, decides, joined_as, settled, settled_many, joined, toggled, odd_atoms, odd_rest, without_truth, is_odd_negated, parity_of}
use Rattle.term_sketches.specs.Valuing.{IsValuation, signed, literal_value, literal_truth, flagged, sketch_value}
use Rattle.term_sketches.proofs.Gates.{gate, gate_all, gate_swap, gate_neutral, gate_neutral_right, gate_absorbs, gate_absorbs_right, gate_opposite, gate_again, all_is_gate, any_is_gate, flagged_not, not_not, odd_more, flagged_swap, flagged_twice, flagged_false}
use Rattle.term_sketches.proofs.Joins.{Each, term_same, literal_same, gate_inserted, each_gathered, each_odd}

pub boolean_value : (x : Value) → has_sort x boolean ≡ true → x ≡ truth (truth_of x)
unfolding has_sort
boolean_value (truth b) h = refl
boolean_value (value.number q) h = absurd (cc h)
boolean_value (value.bits n a) h = absurd (cc h)
boolean_value (value.element n a) h = absurd (cc h)
boolean_value (value.function es w) h = absurd (cc h)

pub signed_boolean : (b : Bool) (x : Value) → has_sort x boolean ≡ true → signed b x ≡ truth (truth_of (signed b x))
signed_boolean true x h = refl
signed_boolean false x h = boolean_value x h

pub truth_signed : (b : Bool) (x : Value) → truth_of (signed b x) ≡ flagged b (truth_of x)
truth_signed true x = refl
truth_signed false x = refl

constant_signed : (b : Bool) → signed (not b) (truth true) ≡ truth b
constant_signed true = refl
constant_signed false = refl

gate_assoc : (b x y z : Bool) → gate b (gate b x y) z ≡ gate b x (gate b y z)
gate_assoc true true y z = refl
gate_assoc true false y z = refl
gate_assoc false true y z = refl
gate_assoc false false y z = refl

flagged_assoc : (a b c : Bool) → flagged (flagged a b) c ≡ flagged a (flagged b c)
flagged_assoc true true c = sym (not_not c)
flagged_assoc true false c = refl
flagged_assoc false b c = refl

pub if_flagged : (b x : Bool) → (if b then not x else x) ≡ flagged b x
if_flagged true x = refl
if_flagged false x = refl

pub same_of_two : (b x y : Bool) → flagged (not b) (value.same_truth x y) ≡ flagged b (is_odd (x ∷ y ∷ []))
same_of_two true true true = refl
same_of_two true true false = refl
same_of_two true false true = refl
same_of_two true false false = refl
same_of_two false true true = refl
same_of_two false true false = refl
same_of_two false false true = refl
same_of_two false false false = refl

module _ (v : Term → Value) (k : Term → Sort) (val : IsValuation v k) where
  -- the literal's atom is a truth value
  abbrev pub IsTruth : Literal → Type 0
  IsTruth l = k l.atom ≡ boolean

  -- the term is a truth value
  abbrev pub IsTruthAtom : Term → Type 0
  IsTruthAtom t = k t ≡ boolean

  -- the truth value of a term
  abbrev pub atom_truth : Term → Bool
  atom_truth t = truth_of (v t)

  pub atom_sorted : (t : Term) → k t ≡ boolean → has_sort (v t) boolean ≡ true
  atom_sorted t e = sym (ap (has_sort (v t)) e) ∙ val.typed t

  pub atom_value : (t : Term) → k t ≡ boolean → v t ≡ truth (atom_truth t)
  atom_value t e = boolean_value (v t) (atom_sorted t e)

  pub value_as : (l : Literal) → IsTruth l → literal_value v l ≡ truth (literal_truth v l)
  value_as l e = signed_boolean l.negated (v l.atom) (atom_sorted l.atom e)

  pub value_constant : (b : Bool) → literal_value v (constant b) ≡ truth b
  value_constant b = ap (signed (not b)) val.true_value ∙ constant_signed b

  pub truth_constant : (b : Bool) → literal_truth v (constant b) ≡ b
  truth_constant b = ap truth_of (value_constant b)

  pub truth_opposite : (l : Literal) → literal_truth v (opposite l) ≡ not (literal_truth v l)
  truth_opposite l = truth_signed (not l.negated) (v l.atom) ∙ flagged_not l.negated (truth_of (v l.atom)) ∙ ap not (sym (truth_signed l.negated (v l.atom)))

  pub alike : (l m : Literal) → same_literal l m ≡ true → literal_truth v l ≡ literal_truth v m
  alike l m h = ap (literal_truth v) (literal_same l m h)

  -- what is gathered has the value of all
  pub gate_gathered : (b : Bool) (u : Literal) (ls : List Literal) → literal_truth v u ≡ b → gate_all b (literal_truth v) (gathered u ls) ≡ gate_all b (literal_truth v) ls
  gate_gathered b u [] e = refl
  gate_gathered b u (l ∷ ls) e =
      let go : (t : Bool) → same_literal l u ≡ t → gate_all b (literal_truth v) (if t then gathered u ls else insert_key literal_order (gathered u ls) l) ≡ gate b (literal_truth v l) (gate_all b (literal_truth v) ls) =
      λ t. elim t as (λ t. same_literal l u ≡ t → gate_all b (literal_truth v) (if t then gathered u ls else insert_key literal_order (gathered u ls) l) ≡ gate b (literal_truth v l) (gate_all b (literal_truth v) ls)) [
        | true ↦ λ h. gate_gathered b u ls e ∙ sym (ap (λ x. gate b x (gate_all b (literal_truth v) ls)) (alike l u h ∙ e) ∙ gate_neutral b (gate_all b (literal_truth v) ls))
        | false ↦ λ h. gate_inserted literal_order literal_same b (literal_truth v) l (gathered u ls) ∙ ap (gate b (literal_truth v l)) (gate_gathered b u ls e)
      ]
      in go (same_literal l u) refl

  -- two opposite literals decide it
  gate_clash : (b : Bool) (all ls : List Literal) → list_any (λ l. has (opposite l) all) ls ≡ true → gate b (gate_all b (literal_truth v) ls) (gate_all b (literal_truth v) all) ≡ not b
  gate_clash b all [] h = absurd (cc h)
  gate_clash b all (l ∷ ls) h =
      let g : Bool = gate_all b (literal_truth v) all in
      let r : Bool = gate_all b (literal_truth v) ls in
      let go : (t : Bool) → has (opposite l) all ≡ t → (t || list_any (λ l. has (opposite l) all) ls) ≡ true → gate b (gate b (literal_truth v l) r) g ≡ not b =
      λ t. elim t as (λ t. has (opposite l) all ≡ t → (t || list_any (λ l. has (opposite l) all) ls) ≡ true → gate b (gate b (literal_truth v l) r) g ≡ not b) [
        | true ↦ λ e i.
            gate_assoc b (literal_truth v l) r g ∙ gate_swap b (literal_truth v l) r g
            ∙ ap (gate b r) (gate_opposite b (literal_truth v l) g (sym (ap (λ x. gate b x g) (sym (truth_opposite l)) ∙ gate_again b (literal_truth v) same_literal alike (opposite l) all e)))
            ∙ gate_absorbs_right b r
        | false ↦ λ e i. gate_assoc b (literal_truth v l) r g ∙ ap (gate b (literal_truth v l)) (gate_clash b all ls i) ∙ gate_absorbs_right b (literal_truth v l)
      ]
      in go (has (opposite l) all) refl h

  gate_itself : (b x : Bool) → gate b x x ≡ x
  gate_itself true true = refl
  gate_itself true false = refl
  gate_itself false true = refl
  gate_itself false false = refl

  gate_decided : (b : Bool) (ls : List Literal) → decides b ls ≡ true → gate_all b (literal_truth v) ls ≡ not b
  gate_decided b ls h =
      let go : (t : Bool) → has (constant (not b)) ls ≡ t → (t || clash ls) ≡ true → gate_all b (literal_truth v) ls ≡ not b =
      λ t. elim t as (λ t. has (constant (not b)) ls ≡ t → (t || clash ls) ≡ true → gate_all b (literal_truth v) ls ≡ not b) [
        | true ↦ λ e i.
            sym (gate_again b (literal_truth v) same_literal alike (constant (not b)) ls e) ∙ ap (λ x. gate b x (gate_all b (literal_truth v) ls)) (truth_constant (not b))
            ∙ gate_absorbs b (gate_all b (literal_truth v) ls)
        | false ↦ λ e i. sym (gate_itself b (gate_all b (literal_truth v) ls)) ∙ gate_clash b ls ls i
      ]
      in go (has (constant (not b)) ls) refl h

  joined_means : (b : Bool) (ls : List Literal) → sketch_value v k (joined_as b ls) ≡ truth (gate_all b (literal_truth v) ls)
  joined_means true ls = ap truth (all_is_gate (literal_truth v) ls)
  joined_means false ls = ap truth (any_is_gate (literal_truth v) ls)

  many_means : (b : Bool) (ls : List Literal) → sketch_value v k (settled_many b ls) ≡ truth (gate_all b (literal_truth v) ls)
  many_means b ls =
      let go : (t : Bool) → decides b ls ≡ t → sketch_value v k (if t then sketch.OneLiteral (constant (not b)) else joined_as b ls) ≡ truth (gate_all b (literal_truth v) ls) =
      λ t. elim t as (λ t. decides b ls ≡ t → sketch_value v k (if t then sketch.OneLiteral (constant (not b)) else joined_as b ls) ≡ truth (gate_all b (literal_truth v) ls))
      [ true ↦ λ e. value_constant (not b) ∙ ap truth (sym (gate_decided b ls e)) | false ↦ λ e. joined_means b ls ]
      in go (decides b ls) refl

  settled_means : (b : Bool) (ls : List Literal) → Each IsTruth ls → sketch_value v k (settled b ls) ≡ truth (gate_all b (literal_truth v) ls)
  settled_means b [] p = value_constant b
  settled_means b (l ∷ []) p = value_as l p.0 ∙ ap truth (sym (gate_neutral_right b (literal_truth v l)))
  settled_means b (l ∷ m ∷ ls) p = many_means b (l ∷ m ∷ ls)

  pub join_means : (b : Bool) (ls : List Literal) → Each IsTruth ls → sketch_value v k (joined b ls) ≡ truth (gate_all b (literal_truth v) ls)
  join_means b ls p = settled_means b (gathered (constant b) ls) (each_gathered IsTruth (constant b) ls p) ∙ ap truth (gate_gathered b (constant b) ls (truth_constant b))

  -- an odd number of the terms is true
  abbrev pub odd : List Term → Bool
  odd ts = is_odd (map atom_truth ts)

  odd_cons : (t : Term) (ts : List Term) → odd (t ∷ ts) ≡ flagged (atom_truth t) (odd ts)
  odd_cons t ts = odd_more (atom_truth t) (map atom_truth ts)

  odd_inserted : (t : Term) (ts : List Term) → list_any (same_term t) ts ≡ false → odd (insert_key term_order ts t) ≡ flagged (atom_truth t) (odd ts)
  odd_inserted t [] h = odd_cons t []
  odd_inserted t (u ∷ us) h =
      let go : (o : Ordering) → term_order t u ≡ o → (is_eq o || list_any (same_term t) us) ≡ false → odd (match_ordering o (t ∷ u ∷ us) (u ∷ us) (u ∷ insert_key term_order us t)) ≡ flagged (atom_truth t) (odd (u ∷ us)) =
      λ o. elim o as (λ o. term_order t u ≡ o → (is_eq o || list_any (same_term t) us) ≡ false → odd (match_ordering o (t ∷ u ∷ us) (u ∷ us) (u ∷ insert_key term_order us t)) ≡ flagged (atom_truth t) (odd (u ∷ us))) [
        | Less ↦ λ e i. odd_cons t (u ∷ us)
        | Equal ↦ λ e i. absurd (cc i)
        | Greater ↦ λ e i.
            odd_cons u (insert_key term_order us t) ∙ ap (flagged (atom_truth u)) (odd_inserted t us i) ∙ flagged_swap (atom_truth u) (atom_truth t) (odd us)
            ∙ ap (flagged (atom_truth t)) (sym (odd_cons u us))
      ]
      in go (term_order t u) refl h

  odd_removed : (t : Term) (ts : List Term) → list_any (same_term t) ts ≡ true → odd (remove_key (same_term t) ts) ≡ flagged (atom_truth t) (odd ts)
  odd_removed t [] h = absurd (cc h)
  odd_removed t (u ∷ us) h =
      let go : (b : Bool) → same_term t u ≡ b → (b || list_any (same_term t) us) ≡ true → odd (cond b us (u ∷ remove_key (same_term t) us)) ≡ flagged (atom_truth t) (odd (u ∷ us)) =
      λ b. elim b as (λ b. same_term t u ≡ b → (b || list_any (same_term t) us) ≡ true → odd (cond b us (u ∷ remove_key (same_term t) us)) ≡ flagged (atom_truth t) (odd (u ∷ us))) [
        | true ↦ λ e i. sym (ap (flagged (atom_truth t)) (odd_cons u us ∙ ap (λ x. flagged (atom_truth x) (odd us)) (sym (term_same t u e))) ∙ flagged_twice (atom_truth t) (odd us))
        | false ↦ λ e i.
            odd_cons u (remove_key (same_term t) us) ∙ ap (flagged (atom_truth u)) (odd_removed t us i) ∙ flagged_swap (atom_truth u) (atom_truth t) (odd us)
            ∙ ap (flagged (atom_truth t)) (sym (odd_cons u us))
      ]
      in go (same_term t u) refl h

  odd_toggled : (t : Term) (ts : List Term) → odd (toggled t ts) ≡ flagged (atom_truth t) (odd ts)
  odd_toggled t ts =
      let go : (b : Bool) → list_any (same_term t) ts ≡ b → odd (if b then remove_key (same_term t) ts else insert_key term_order ts t) ≡ flagged (atom_truth t) (odd ts) =
      λ b. elim b as (λ b. list_any (same_term t) ts ≡ b → odd (if b then remove_key (same_term t) ts else insert_key term_order ts t) ≡ flagged (atom_truth t) (odd ts))
      [ true ↦ λ e. odd_removed t ts e | false ↦ λ e. odd_inserted t ts e ]
      in go (list_any (same_term t) ts) refl

  odd_literals : (ls : List Literal) → flagged (is_odd_negated ls) (odd (odd_atoms ls)) ≡ is_odd (map (literal_truth v) ls)
  odd_literals [] = refl
  odd_literals (l ∷ ls) =
      let n : Bool = is_odd_negated ls in
      let o : Bool = odd (odd_atoms ls) in
      let x : Bool = atom_truth l.atom in
      ap (λ b. flagged b (odd (odd_atoms (l ∷ ls)))) (if_flagged l.negated n) ∙ ap (flagged (flagged l.negated n)) (odd_toggled l.atom (odd_atoms ls))
      ∙ flagged_assoc l.negated n (flagged x o) ∙ ap (flagged l.negated) (flagged_swap n x o) ∙ sym (flagged_assoc l.negated x (flagged n o))
      ∙ ap (λ b. flagged b (flagged n o)) (sym (truth_signed l.negated (v l.atom))) ∙ ap (flagged (literal_truth v l)) (odd_literals ls)
      ∙ sym (odd_more (literal_truth v l) (map (literal_truth v) ls))

  rest_means : (b : Bool) (ts : List Term) → Each IsTruthAtom ts → sketch_value v k (odd_rest b ts) ≡ truth (flagged b (odd ts))
  rest_means b [] p = value_constant b ∙ ap truth (sym (flagged_false b))
  rest_means b (t ∷ []) p =
      signed_boolean b (v t) (atom_sorted t p.0) ∙ ap truth (truth_signed b (v t) ∙ ap (flagged b) (sym (odd_cons t [] ∙ flagged_false (atom_truth t))))
  rest_means b (t ∷ u ∷ []) p =
      ap (λ s. truth (flagged (not b) (same_value s (v t) (v u)))) p.0
      ∙ ap (λ x. truth (flagged (not b) (same_value boolean x (v u)))) (atom_value t p.0)
      ∙ ap (λ y. truth (flagged (not b) (same_value boolean (truth (atom_truth t)) y))) (atom_value u p.1.0)
      ∙ ap truth (same_of_two b (atom_truth t) (atom_truth u))
  rest_means b (t ∷ u ∷ w ∷ ts) p = refl

  without_means : (b : Bool) (ts : List Term) → Each IsTruthAtom ts → sketch_value v k (without_truth b ts) ≡ truth (flagged b (odd ts))
  without_means b [] p = rest_means b [] tt
  without_means b (t ∷ ts) p =
      let go : (h : Bool) → same_term t the_truth ≡ h → sketch_value v k (if h then odd_rest (not b) ts else odd_rest b (t ∷ ts)) ≡ truth (flagged b (odd (t ∷ ts))) =
      λ h. elim h as (λ h. same_term t the_truth ≡ h → sketch_value v k (if h then odd_rest (not b) ts else odd_rest b (t ∷ ts)) ≡ truth (flagged b (odd (t ∷ ts)))) [
        | true ↦ λ e.
            rest_means (not b) ts p.1
            ∙ ap truth (flagged_not b (odd ts) ∙ flagged_swap true b (odd ts) ∙ ap (flagged b) (sym (odd_cons t ts ∙ ap (λ x. flagged (truth_of x) (odd ts)) (ap v (term_same t the_truth e) ∙ val.true_value))))
        | false ↦ λ e. rest_means b (t ∷ ts) p
      ]
      in go (same_term t the_truth) refl

  pub parity_means : (b : Bool) (ls : List Literal) → Each IsTruth ls → sketch_value v k (parity_of b ls) ≡ truth (flagged b (is_odd (map (literal_truth v) ls)))
  parity_means b ls p =
      without_means (if b then not (is_odd_negated ls) else is_odd_negated ls) (odd_atoms ls) (each_odd IsTruthAtom ls p)
      ∙ ap truth (ap (λ c. flagged c (odd (odd_atoms ls))) (if_flagged b (is_odd_negated ls)) ∙ flagged_assoc b (is_odd_negated ls) (odd (odd_atoms ls)) ∙ ap (flagged b) (odd_literals ls))
