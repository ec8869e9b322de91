-- Literals of terms, and each assumption's literal once.
use Rattle.std.proofs.Common.{◌≡◌, ◌∙◌, ◌<◌, ◌+◌, ◌++◌, ℕ, List, [], ◌∷◌, Some, length, get_or, All, sym, ap, subst, arith, ⊎_elim}
use Rattle.std.specs.Prelude.{slice_get}
use Rattle.std.proofs.lemmas.Option.{same_Some, slice_get_within, slice_get-get_or}
use Rattle.std.proofs.lemmas.Bool.{cases_lt}
use Rattle.stamped_slots.proofs.Lists.{push_here, push_old, get_in}
use Rattle.term_shapes.specs.declared.handles.Term.{Term}
use Rattle.node_encoding.specs.declared.NodeLit.{NodeLit}
use Rattle.node_encoding.proofs.Gets.{length_pushed}
use Rattle.term_checks.specs.Listing.{AreOnce}
use Rattle.term_checks.specs.Problems.{IsLiteral, AreLiterals}
use Rattle.term_checks.specs.Building.{AreLiteralsOf}

module _ (order ts : List Term) (i : ℕ) (t : Term) (at : slice_get ts i ≡ Some t) (lits : List NodeLit) (are : AreLiteralsOf order ts i lits) (lit : NodeLit) (here : IsLiteral order t lit) where
  each_more : (j : ℕ) (u : Term) → j < i + 1 → slice_get ts j ≡ Some u → (l : NodeLit) × (slice_get (lits ++ lit ∷ []) j ≡ Some l) × IsLiteral order u l
  each_more j u small e = ⊎_elim
      (λ h. let r = are.each j u h e in (r.0, push_old lits lit r.0 j r.1, r.2))
      (λ h. let same : j ≡ length lits = omega (arith, h, small, are.count) in
      let term : t ≡ u = same_Some t u (sym at ∙ ap (λ z. slice_get ts z) (sym are.count ∙ sym same) ∙ e) in
      (lit, ap (λ z. slice_get (lits ++ lit ∷ []) z) same ∙ push_here lits lit, subst (λ z. IsLiteral order z lit) term here))
      (cases_lt j i)

  pub literals_more : (vs : List NodeLit) → vs ≡ lits ++ lit ∷ [] → AreLiteralsOf order ts (i + 1) vs
  literals_more vs e = subst (AreLiteralsOf order ts (i + 1)) (sym e) (record { count = length_pushed lits lit ∙ ap (λ z. z + 1) are.count; each = each_more })

module _ (order ts : List Term) (lits : List NodeLit) (are : AreLiteralsOf order ts (length ts) lits) where
  -- a literal is that of the term in its place
  pub literal_at : (i : ℕ) (lit : NodeLit) → slice_get lits i ≡ Some lit → (t : Term) × (slice_get ts i ≡ Some t) × IsLiteral order t lit
  literal_at i lit e =
      let far = slice_get_within lits i lit e in
      let t = get_in ts i (omega (arith, far, are.count)) in
      let r = are.each i t.0 (slice_get_within ts i t.0 t.1) t.1 in
      (t.0, t.1, subst (IsLiteral order t.0) (same_Some r.0 lit (sym r.1 ∙ e)) r.2)

  pub literals_are : AreLiterals order ts lits
  literals_are = record {
    every = λ t h. let r = are.each h.place t (slice_get_within ts h.place t h.at) h.at in (h.place, r.0, r.1, r.2);
    only = λ i lit e. let r = literal_at i lit e in (r.0, record { place = i; at = r.1 }, r.2);
  }

  -- each names a node
  pub literals_within : (count : ℕ) → count ≡ length order → All (λ (l : NodeLit). l.node < count) lits
  literals_within count e i d small =
      let lit = get_or lits i d in
      let r = literal_at i lit (slice_get-get_or lits i d small) in
      let far = slice_get_within order lit.node r.0 r.2.node in
      omega (arith, far, e)

-- of each assumption once they are those of all
pub literals_once : (order ts once : List Term) (lits : List NodeLit) → AreOnce ts (length ts) once → AreLiterals order once lits → AreLiterals order ts lits
literals_once order ts once lits o are = record {
  every = λ t h. are.every t (o.every h.place t (slice_get_within ts h.place t h.at) h.at);
  only = λ i lit e. let r = are.only i lit e in let first = o.only r.1.place r.0 r.1.at in (r.0, record { place = first.0; at = first.2.at }, r.2);
}
