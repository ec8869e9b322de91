-- Places of assumptions that can't be true together, as a core.
use Rattle.std.proofs.Common.{◌≡◌, ◌∙◌, ◌<◌, ℕ, List, Some, length, map, get_or, All, sym, ap, subst, arith, ⊎_elim}
use Rattle.std.specs.Prelude.{slice_get, unwrap_or}
use Rattle.std.specs.Option.{option_map}
use Rattle.std.proofs.lemmas.Option.{slice_get_within, slice_get-get_or, get_or_from_slice_get, slice_get-map}
use Rattle.std.proofs.lemmas.Bool.{cases_order}
use Rattle.stamped_slots.proofs.Lists.{map_some, get_in}
use Rattle.y_tree.specs.Meaning.{Assignment, meaning, truth_of}
use Rattle.term_shapes.specs.declared.handles.Term.{Term}
use Rattle.term_table.specs.World.{World}
use Rattle.term_orders.specs.Orders.{IsIn}
use Rattle.node_encoding.specs.declared.Node.{Node}
use Rattle.node_encoding.specs.declared.NodeLit.{NodeLit}
use Rattle.node_encoding.specs.Nodes.{tree_at, Makes}
use Rattle.theory_combine.specs.Answers.{IsConflictUnder}
use Rattle.term_checks.specs.Listing.{no_term, term_in, IsFirstAt, AreOnce}
use Rattle.term_checks.specs.Answers.{IsTrueAt, AreTrueAt, IsCore}
use Rattle.term_checks.specs.Problems.{IsLiteral}
use Rattle.term_checks.specs.Building.{AreNodes, AreLiteralsOf}
use Rattle.term_checks.proofs.Kept.{same_kept}
use Rattle.term_checks.proofs.Trees.{kept_at}
use Rattle.term_checks.proofs.Shown.{literal_at}

module _ (w : World) (order : List Term) (ns : List Node) (are : AreNodes w order (length order) ns) where
  -- a literal is made true where its term is true
  makes : (s : Assignment) (t : Term) (lit : NodeLit) → IsLiteral order t lit → IsTrueAt w s t → Makes ns s lit
  makes s t lit is h =
      let same : h.tree ≡ tree_at ns lit.node = same_kept w h.tree (tree_at ns lit.node) t h.kept (kept_at w order ns are lit.node t is.node) in
      ap (λ z. truth_of (meaning z s)) (sym same) ∙ h.true_there ∙ sym is.positive

  module _ (formulas assumed once : List Term) (asserted tried : List NodeLit) (lits : AreLiteralsOf order formulas (length formulas) asserted) (tried_lits : AreLiteralsOf order once (length once) tried)
      (o : AreOnce assumed (length assumed) once) (places : List ℕ) (conflict : IsConflictUnder ns asserted tried places) where
    -- each place is that of an assumption
    pub places_within : All (λ p. p < length once) places
    places_within i d small = let below = conflict.within i d small in omega (arith, below, tried_lits.count)

    abbrev blamed : List Term
    blamed = map (term_in once) places

    -- the term at each place of the core
    placed : (i : ℕ) (t : Term) → slice_get blamed i ≡ Some t → (p : ℕ) × (slice_get places i ≡ Some p) × (slice_get once p ≡ Some t)
    placed i t at =
        let r = map_some (term_in once) places i t at in
        let small = places_within i 0 (slice_get_within places i r.0 r.1) in
        let read : get_or places i 0 ≡ r.0 = get_or_from_slice_get places i r.0 0 r.1 in
        let u = get_in once r.0 (omega (arith, small, read)) in
        (r.0, r.1, u.1 ∙ ap Some (sym (ap (λ z. unwrap_or z no_term) u.1) ∙ r.2))

    within : (t : Term) → IsIn blamed t → IsIn assumed t
    within t h = let r = placed h.place t h.at in let f = o.only r.0 t r.2 in record { place = f.0; at = f.2.at }

    rising : (i j p q : ℕ) (t u : Term) → i < j → slice_get blamed i ≡ Some t → slice_get blamed j ≡ Some u → IsFirstAt assumed p t → IsFirstAt assumed q u → p < q
    rising i j p q t u less at there =
        let r = placed i t at in
        let l = placed j u there in
        o.rising r.0 l.0 p q t u (conflict.rising i j r.0 l.0 less r.1 l.1) r.2 l.2

    single : (i j : ℕ) (t : Term) → slice_get blamed i ≡ Some t → slice_get blamed j ≡ Some t → i ≡ j
    single i j t at there =
        let r = placed i t at in
        let l = placed j t there in
        let same : r.0 ≡ l.0 = o.single r.0 l.0 t r.2 l.2 in
        ⊎_elim
        (λ h. h)
        (⊎_elim
        (λ h. absurd (let less = conflict.rising i j r.0 l.0 h r.1 l.1 in omega (arith, less, same)))
        (λ h. absurd (let less = conflict.rising j i l.0 r.0 h l.1 r.1 in omega (arith, less, same))))
        (cases_order i j)

    -- a place of the core stands in it
    core_there : (p i : ℕ) (t : Term) → slice_get places i ≡ Some p → slice_get once p ≡ Some t → IsIn blamed t
    core_there p i t at there = record {
      place = i;
      at = slice_get-map (term_in once) places i ∙ ap (λ z. option_map (term_in once) z) at ∙ ap (λ z. Some (unwrap_or z no_term)) there;
    }

    never : (s : Assignment) → AreTrueAt w s formulas → AreTrueAt w s blamed → ⊥
    never s holds faults = conflict.never s
        (λ i lit at. let r = literal_at order formulas asserted lits i lit at in makes s r.0 lit r.2 (holds r.0 (record { place = i; at = r.1 })))
        (λ i lit c at.
        let r = literal_at order once tried tried_lits i lit at in
        let here : slice_get places c.0 ≡ Some i = slice_get-get_or places c.0 i c.1 ∙ ap Some c.2 in
        makes s r.0 lit r.2 (faults r.0 (core_there i c.0 r.0 here r.1)))

    pub core_of : (ts : List Term) → ts ≡ map (term_in once) places → IsCore w formulas assumed ts
    core_of ts e = subst (IsCore w formulas assumed) (sym e) (record { within = within; once = single; rising = rising; never = never })
