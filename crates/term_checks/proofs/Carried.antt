-- Models, cores and records, carried to another table whose terms stand for the same trees.
use Rattle.std.proofs.Common.{◌≡◌, ◌∙◌, ◌<◌, ◌++◌, ℕ, Bool, List, [], ◌∷◌, Some, map, refl, sym, ap, subst}
use Rattle.std.specs.Prelude.{slice_get}
use Rattle.std.specs.Option.{option_map}
use Rattle.std.proofs.lemmas.Option.{same_Some}
use Rattle.stamped_slots.proofs.Lists.{map_some, map_get}
use Rattle.y_tree.specs.Sorts.{Sort}
use Rattle.y_tree.specs.Values.{truth}
use Rattle.y_tree.specs.Meaning.{Assignment, meaning, IsTrueUnder}
use Rattle.term_shapes.specs.declared.handles.Term.{Term}
use Rattle.term_shapes.specs.declared.shapes.Shape.{Shape}
use Rattle.term_shapes.specs.declared.shapes.Shape.TheVariants as shape
use Rattle.term_shapes.specs.Shapes.{op_of}
use Rattle.term_table.specs.World.{World, shape_at, Keeps, IsTable}
use Rattle.term_orders.specs.Orders.{IsIn}
use Rattle.node_encoding.specs.declared.Node.{Node}
use Rattle.node_encoding.specs.declared.NodeLit.{NodeLit}
use Rattle.node_encoding.specs.Nodes.{entry_of, booleans, tree_at}
use Rattle.term_checks.specs.Listing.{IsFirstAt}
use Rattle.term_checks.specs.Answers.{IsTrueAt, AreTrueAt, numbered, constant_number, assignment_by, IsValueAt}
use Rattle.term_checks.specs.Problems.{IsLiteral, AreLiterals, IsProblem}
use Rattle.term_checks.specs.Lasting.{AreAlike, OneTreeEach, FormulasLast, ModelsLast, CoresLast, LearnedLasts, OtherSortsLast}
use Rattle.term_checks.proofs.Kept.{same_kept}
use Rattle.term_checks.proofs.Twins.{constant_in, Twin, Twins, turned, twins_of, twins_length, twin_at, twin_back, same_twin, same_op, formula_twin, other_twin}
use Rattle.term_checks.proofs.TwinOrders.{order_twins, order_is, constants_twin}

alike_twins : (v w : World) (ts us : List Term) → AreAlike v w ts us → Twins v w ts us
alike_twins v w ts us h = twins_of v w ts us h.trees h.left h.right

twins_append : (v w : World) (ts us xs ys : List Term) → Twins v w ts us → Twins v w xs ys → Twins v w (ts ++ xs) (us ++ ys)
twins_append v w [] [] xs ys h g = g
twins_append v w [] (u ∷ us) xs ys h g = absurd h
twins_append v w (t ∷ ts) [] xs ys h g = absurd h
twins_append v w (t ∷ ts) (u ∷ us) xs ys h g = (h.0, twins_append v w ts us xs ys h.1 g)

pub one_tree_each : OneTreeEach
one_tree_each w t a b h g = same_kept w a b t h g

pub formulas_last : FormulasLast
formulas_last v w ts us table other alike are u h =
    let r = twin_back v w ts us h.place u (alike_twins v w ts us alike) h.at in
    formula_twin v w table other r.0 u r.2 (are r.0 (record { place = h.place; at = r.1 }))

pub other_sorts_last : OtherSortsLast
other_sorts_last v w ts us table other alike = other_twin v w table other ts us (alike_twins v w ts us alike)

-- a shape's operator tells the number of a constant
number_by : (s : Shape) (k : Sort) → constant_number (Some s) ≡ constant_in (op_of s k)
number_by shape.True k = refl
number_by shape.False k = refl
number_by (shape.Const n of) k = refl
number_by (shape.Var n of) k = refl
number_by (shape.Number q) k = refl
number_by (shape.Bits n a) k = refl
number_by (shape.Not t) k = refl
number_by (shape.And ts) k = refl
number_by (shape.Or ts) k = refl
number_by (shape.Xor ts) k = refl
number_by (shape.Ite c t u) k = refl
number_by (shape.Eq t u) k = refl
number_by (shape.Distinct ts) k = refl
number_by (shape.App f ts) k = refl
number_by (shape.Update f ts v) k = refl
number_by (shape.Sum ms q) k = refl
number_by (shape.NonNeg t) k = refl
number_by (shape.Bv op ts) k = refl
number_by (shape.BvAt op i j t) k = refl

module _ (v w : World) where
  -- a twin of a true term is true
  true_twin : (s : Assignment) (t u : Term) → Twin v w t u → IsTrueAt v s t → IsTrueAt w s u
  true_twin s t u h is = record {
    tree = h.tree;
    kept = h.right;
    true_there = subst (IsTrueUnder s) (same_kept v is.tree h.tree t is.kept h.left) is.true_there;
  }

  true_twins : (s : Assignment) (ts us : List Term) → Twins v w ts us → AreTrueAt v s ts → AreTrueAt w s us
  true_twins s ts us h are u i =
      let r = twin_back v w ts us i.place u h i.at in true_twin s r.0 u r.2 (are r.0 (record { place = i.place; at = r.1 }))

  number_twin : (t u : Term) → Twin v w t u → constant_number (shape_at v t) ≡ constant_number (shape_at w u)
  number_twin t u h =
      let o = same_op v w h.tree t u h.left h.right in
      ap constant_number o.4 ∙ number_by o.0 o.2 ∙ ap constant_in o.6 ∙ sym (number_by o.1 o.3) ∙ ap constant_number (sym o.5)

  -- the constants' numbers are those of their twins
  numbered_twins : (values found : List (Term × Bool)) → Twins v w (map (λ (e : Term × Bool). e.0) values) (map (λ (e : Term × Bool). e.0) found)
      → map (λ (e : Term × Bool). e.1) values ≡ map (λ (e : Term × Bool). e.1) found → numbered v values ≡ numbered w found
  numbered_twins [] [] h e = refl
  numbered_twins [] (d ∷ found) h e = absurd h
  numbered_twins (c ∷ values) [] h e = absurd h
  numbered_twins (c ∷ values) (d ∷ found) h e =
      let value : c.1 ≡ d.1 = cc e in
      let rest : map (λ (e : Term × Bool). e.1) values ≡ map (λ (e : Term × Bool). e.1) found = cc e in
      ap (λ z. entry_of z c.1 ++ numbered v values) (number_twin c.0 d.0 h.0) ∙ ap (λ z. entry_of (constant_number (shape_at w d.0)) z ++ numbered v values) value ∙ ap (λ z. entry_of (constant_number (shape_at w d.0)) d.1 ++ z) (numbered_twins values found h.1 rest)

-- a literal of a term's place is that of its twin's
literal_twin : (v w : World) → IsTable w → (order us : List Term) → Twins v w order us → (t u : Term) (lit : NodeLit) → Twin v w t u → IsLiteral order t lit → IsLiteral us u lit
literal_twin v w other order us twins t u lit h is =
    let r = twin_at v w order us lit.node t twins is.node in
    record { node = r.1 ∙ ap Some (same_twin v w other t r.0 u r.2 h); positive = is.positive }

literals_twin : (v w : World) → IsTable w → (order us : List Term) → Twins v w order us → (ts xs : List Term) → Twins v w ts xs → (lits : List NodeLit) → AreLiterals order ts lits → AreLiterals us xs lits
literals_twin v w other order us twins ts xs h lits are = record {
  every = λ x i.
      let r = twin_back v w ts xs i.place x h i.at in
      let l = are.every r.0 (record { place = i.place; at = r.1 }) in
      (l.0, l.1, l.2, literal_twin v w other order us twins r.0 x l.1 r.2 l.3);
  only = λ i lit at.
      let l = are.only i lit at in
      let r = twin_at v w ts xs l.1.place l.0 h l.1.at in
      (r.0, record { place = l.1.place; at = r.1 }, literal_twin v w other order us twins l.0 r.0 lit r.2 l.2);
}

pub models_last : ModelsLast
models_last v w formulas others assumed supposed values found table other alike meant named valued is =
    let firsts : Twins v w (map (λ (e : Term × Bool). e.0) values) (map (λ (e : Term × Bool). e.0) found) = alike_twins v w _ _ named in
    let roots : Twins v w (formulas ++ assumed) (others ++ supposed) = twins_append v w formulas others assumed supposed (alike_twins v w formulas others alike) (alike_twins v w assumed supposed meant) in
    let same : assignment_by v values ≡ assignment_by w found = ap booleans (numbered_twins v w values found firsts valued) in
    record {
      constants = constants_twin v w table other (formulas ++ assumed) (others ++ supposed) roots _ _ firsts is.constants;
      agree = λ i e at. agree_twin same firsts i e at;
      makes = subst (λ s. AreTrueAt w s (others ++ supposed)) same (true_twins v w (assignment_by v values) (formulas ++ assumed) (others ++ supposed) roots is.makes);
    }
  where
    agree_twin : assignment_by v values ≡ assignment_by w found → Twins v w (map (λ (e : Term × Bool). e.0) values) (map (λ (e : Term × Bool). e.0) found) → (i : ℕ) (e : Term × Bool) → slice_get found i ≡ Some e → IsValueAt w (assignment_by w found) e
    agree_twin same firsts i e at =
        let name : slice_get (map (λ (d : Term × Bool). d.0) found) i ≡ Some e.0 = map_get (λ (d : Term × Bool). d.0) found i ∙ ap (option_map (λ (d : Term × Bool). d.0)) at in
        let r = twin_back v w (map (λ (d : Term × Bool). d.0) values) (map (λ (d : Term × Bool). d.0) found) i e.0 firsts name in
        let d = map_some (λ (d : Term × Bool). d.0) values i r.0 r.1 in
        let seconds : Some d.0.1 ≡ Some e.1 = sym (map_get (λ (d : Term × Bool). d.1) values i ∙ ap (option_map (λ (d : Term × Bool). d.1)) d.1) ∙ ap (λ z. slice_get z i) valued ∙ map_get (λ (d : Term × Bool). d.1) found i ∙ ap (option_map (λ (d : Term × Bool). d.1)) at in
        let value = is.agree i d.0 d.1 in
        let kept : Keeps v r.0 value.tree = subst (λ z. Keeps v z value.tree) d.2 value.kept in
        let tree : value.tree ≡ r.2.tree = same_kept v value.tree r.2.tree r.0 kept r.2.left in
        record {
          tree = r.2.tree;
          kept = r.2.right;
          value = ap (λ z. meaning z (assignment_by w found)) (sym tree) ∙ ap (meaning value.tree) (sym same) ∙ value.value ∙ ap truth (same_Some d.0.1 e.1 seconds);
        }

pub cores_last : CoresLast
cores_last v w formulas others assumed supposed core blamed table other alike meant named is = record {
  within = within;
  once = once;
  rising = rising;
  never = λ s holds faults. is.never s (true_twins w v s others formulas (back formulas others (alike_twins v w formulas others alike)) holds) (true_twins w v s blamed core (back core blamed (alike_twins v w core blamed named)) faults);
}
  where
    back : (ts us : List Term) → Twins v w ts us → Twins w v us ts
    back [] [] h = tt
    back [] (u ∷ us) h = absurd h
    back (t ∷ ts) [] h = absurd h
    back (t ∷ ts) (u ∷ us) h = (turned v w t u h.0, back ts us h.1)

    -- the term of the core in that place
    of_core : (i : ℕ) (u : Term) → slice_get blamed i ≡ Some u → (t : Term) × (slice_get core i ≡ Some t) × Twin v w t u
    of_core i u at = twin_back v w core blamed i u (alike_twins v w core blamed named) at

    first_back : (p : ℕ) (t u : Term) → Twin v w t u → IsFirstAt supposed p u → IsFirstAt assumed p t
    first_back p t u h f =
        let r = twin_back v w assumed supposed p u (alike_twins v w assumed supposed meant) f.at in
        let same : r.0 ≡ t = same_twin w v table u r.0 t (turned v w r.0 u r.2) (turned v w t u h) in
        record {
          at = r.1 ∙ ap Some same;
          first = λ i less at. let l = twin_at v w assumed supposed i t (alike_twins v w assumed supposed meant) at in f.first i less (l.1 ∙ ap Some (same_twin v w other t l.0 u l.2 h));
        }

    within : (u : Term) → IsIn blamed u → IsIn supposed u
    within u h =
        let r = of_core h.place u h.at in
        let i = is.within r.0 (record { place = h.place; at = r.1 }) in
        let l = twin_at v w assumed supposed i.place r.0 (alike_twins v w assumed supposed meant) i.at in
        record { place = i.place; at = l.1 ∙ ap Some (same_twin v w other r.0 l.0 u l.2 r.2) }

    once : (i j : ℕ) (u : Term) → slice_get blamed i ≡ Some u → slice_get blamed j ≡ Some u → i ≡ j
    once i j u at there =
        let r = of_core i u at in
        let l = of_core j u there in
        is.once i j r.0 r.1 (l.1 ∙ ap Some (same_twin w v table u l.0 r.0 (turned v w l.0 u l.2) (turned v w r.0 u r.2)))

    rising : (i j p q : ℕ) (t u : Term) → i < j → slice_get blamed i ≡ Some t → slice_get blamed j ≡ Some u → IsFirstAt supposed p t → IsFirstAt supposed q u → p < q
    rising i j p q t u less at there f g =
        let r = of_core i t at in
        let l = of_core j u there in
        is.rising i j p q r.0 l.0 less r.1 l.1 (first_back p r.0 t r.2 f) (first_back q l.0 u l.2 g)

problem_twin : (v w : World) (formulas others assumed supposed : List Term) (nodes : List Node) (asserted tried : List NodeLit) → IsTable v → IsTable w → AreAlike v w formulas others → AreAlike v w assumed supposed
    → IsProblem v formulas assumed nodes asserted tried → IsProblem w others supposed nodes asserted tried
problem_twin v w formulas others assumed supposed nodes asserted tried table other alike meant is =
    let fs = alike_twins v w formulas others alike in
    let as_ = alike_twins v w assumed supposed meant in
    let roots : Twins v w (formulas ++ assumed) (others ++ supposed) = twins_append v w formulas others assumed supposed fs as_ in
    let us = order_twins v w table other (formulas ++ assumed) (others ++ supposed) roots is.order is.is_order in
    record {
      order = us.0;
      is_order = order_is v w table other (formulas ++ assumed) (others ++ supposed) roots is.order is.is_order us.0 us.1;
      formed = is.formed;
      count = is.count ∙ sym (twins_length v w is.order us.0 us.1);
      kept = λ k u at. let r = twin_back v w is.order us.0 k u us.1 at in subst (Keeps w u) (same_kept v r.2.tree (tree_at nodes k) r.0 r.2.left (is.kept k r.0 r.1)) r.2.right;
      lits = literals_twin v w other is.order us.0 us.1 formulas others fs asserted is.lits;
      tried_lits = literals_twin v w other is.order us.0 us.1 assumed supposed as_ tried is.tried_lits;
    }

pub learned_lasts : LearnedLasts
learned_lasts v w formulas others assumed supposed turns learned table other alike meant is = record {
  nodes = is.nodes;
  asserted = is.asserted;
  tried = is.tried;
  problem = problem_twin v w formulas others assumed supposed is.nodes is.asserted is.tried table other alike meant is.problem;
  past = is.past;
}
