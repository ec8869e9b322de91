-- A term's value is made of the values of its arguments.
use Rattle.std.proofs.Common.{◌≡◌, ◌∙◌, zero, suc, true, List, [], ◌∷◌, Option, Some, None, map, refl, sym, ap, subst}
use Rattle.std.proofs.lemmas.Option.{same_Some}
use Rattle.std.proofs.lemmas.Bool.{and_from}
use Rattle.y_tree.specs.Sorts.{Sort, is_sort, sorts}
use Rattle.y_tree.specs.Values.{Value, values, has_sort, have_sorts, same_value}
use Rattle.y_tree.specs.Order.{is_formed}
use Rattle.y_tree.specs.Tree.{Op, Tree, Trees, node, none, more}
use Rattle.y_tree.specs.Typing.{typed, typed_over, sort_of, sorts_of}
use Rattle.y_tree.specs.Meaning.{Assignment, value_in, apply, first_sort, or_boolean, meaning, meanings}
use Rattle.y_tree.specs.Laws.{AreSame, AreAllSame, AreSameAssignments, first_of}
use Rattle.y_tree.specs.declared.values.Value as code
use Rattle.y_tree.proofs.Sorted.{apply_sorted, all_typed, meaning_sorted, value_in_sorted}
use Rattle.y_tree.proofs.Limits.{op_limited, sort_limited, sorts_limited}
use Rattle.y_tree.proofs.Equivalence.{equivalence}
use Rattle.y_tree.proofs.Congruence.{congruent}
use Rattle.term_shapes.specs.declared.handles.Term.{Term}
use Rattle.term_shapes.specs.declared.shapes.Shape.{Shape}
use Rattle.term_shapes.specs.Shapes.{op_of, args_of, types_of}
use Rattle.term_table.specs.World.{World, node_at, HasShape, AllKeep, Keeps, KeepsAll, IsTable}
use Rattle.term_table.specs.Checking.{HasSort, HaveSorts}
use Rattle.term_table.proofs.Adding.{some_node}
use Rattle.term_orders.specs.Orders.{IsIn}
use Rattle.model_eval.specs.Known.{found, IsKnown, AreKnown}
use Rattle.model_eval.specs.Evaluating.{IsValueOf, IsEvaluated, IsReady, IsResult, IsApplied, applied}
use Rattle.model_eval.proofs.Kept.{same_kept, sort_of_kept}

-- known values have the sorts of their terms
pub known_sorted : (es : List (Term × code.Value)) (ts : List Term) (ks : List Sort) → AreKnown es ts ks → have_sorts (values (map (found es) ts)) (sorts ks) ≡ true
unfolding has_sort
known_sorted es [] [] h = refl
known_sorted es [] (k ∷ ks) h = absurd h
known_sorted es (t ∷ ts) [] h = absurd h
known_sorted es (t ∷ ts) (k ∷ ks) h = and_from (has_sort (found es t) k) (have_sorts (values (map (found es) ts)) (sorts ks)) h.0.has (known_sorted es ts ks h.1)

-- the value is the operator's own
pub exact : (w : World) (a : Assignment) (es : List (Term × code.Value)) (s : Shape) (v : Value) → ((r : IsReady w es s) → is_formed v ≡ true) → ((r : IsReady w es s) → v ≡ applied w a es s r) → IsApplied w a es s v
exact w a es s v formed is r =
    let x = applied w a es s r in
    let has : has_sort x r.result ≡ true = apply_sorted (op_of s r.named) (first_of r.sorts) r.sorts (map (found es) (args_of s)) a r.result r.takes (known_sorted es (args_of s) r.sorts r.known) in
    let lim : is_sort r.result ≡ true = op_limited (op_of s r.named) r.sorts r.result r.limits r.takes in
    record {
      has = subst (λ z. has_sort z r.result ≡ true) (sym (is r)) has;
      formed = formed r;
      same = subst (λ z. same_value r.result z x ≡ true) (sym (is r)) ((equivalence r.result lim).itself x has);
    }

first_same : (as_ : Trees) (ss : List Sort) → sorts_of as_ ≡ Some ss → first_sort as_ ≡ first_of ss
unfolding sort_of
first_same none ss e = ap first_of (same_Some [] ss e)
first_same (more x rest) ss e =
    let p = all_typed ss (sort_of x) (sorts_of rest) e in
    ap or_boolean p.2 ∙ ap first_of p.4

same_itself : (a : Assignment) → AreSameAssignments a a
same_itself a = record {
  constants = λ k s lim. (equivalence s lim).itself (value_in a.constants k s) (value_in_sorted a.constants k s);
  variables = λ k s lim. (equivalence s lim).itself (value_in a.variables k s) (value_in_sorted a.variables k s);
}

module _ (w : World) (table : IsTable w) (a : Assignment) (es : List (Term × code.Value)) where
  -- what is known of arguments and their trees
  record Arguments (ts : List Term) (as_ : Trees) (ss : List Sort) : Type 0 where
    have : HaveSorts w ts ss
    known : AreKnown es ts ss
    same : AreAllSame ss (map (found es) ts) (meanings as_ a)

  next : (t : Term) (ts : List Term) (x : Tree) (rest : Trees) (s : Sort) (rs ss : List Sort) → HasSort w t s → IsKnown es t s → AreSame s (found es t) (meaning x a) → Arguments ts rest rs → s ∷ rs ≡ ss → Arguments (t ∷ ts) (more x rest) ss
  unfolding meaning
  next t ts x rest s rs ss has known same behind e =
      subst (λ z. Arguments (t ∷ ts) (more x rest) z) e (record { have = (has, behind.have); known = (known, behind.known); same = (same, behind.same) })

  arguments : (ts : List Term) (as_ : Trees) (ss : List Sort) → KeepsAll w ts as_ → sorts_of as_ ≡ Some ss → ((u : Term) → IsIn ts u → IsEvaluated w a es u) → Arguments ts as_ ss
  unfolding Keeps sort_of meaning
  arguments [] none ss kept e each = subst (λ z. Arguments [] none z) (same_Some [] ss e) (record { have = tt; known = tt; same = tt })
  arguments [] (more x rest) ss kept e each = absurd kept
  arguments (t ∷ ts) none ss kept e each = absurd kept
  arguments (t ∷ ts) (more x rest) ss kept e each =
      let p = all_typed ss (sort_of x) (sorts_of rest) e in
      let v = each t (record { place = zero; at = refl }) in
      let tree : v.of.tree ≡ x = same_kept w v.of.tree x t v.of.kept kept.0 in
      let sort : v.of.sort ≡ p.0 = same_Some v.of.sort p.0 (sym v.of.typed ∙ ap sort_of tree ∙ p.2) in
      let has : has_sort (found es t) p.0 ≡ true = subst (λ z. has_sort (found es t) z ≡ true) sort v.of.has in
      let same : same_value p.0 (found es t) (meaning x a) ≡ true = subst (λ z. same_value z (found es t) (meaning x a) ≡ true) sort (subst (λ z. same_value v.of.sort (found es t) (meaning z a) ≡ true) tree v.of.same) in
      next t ts x rest p.0 p.1 ss (sort_of_kept w table t x p.0 kept.0 p.2)
      (record { there = v.there; has = has; formed = v.of.formed })
      (record { left = has; right = meaning_sorted x a p.0 p.2; same = same })
      (arguments ts rest p.1 kept.1 p.3 (λ u h. each u (record { place = suc h.place; at = h.at }))) p.4

  module _ (t : Term) (s : Shape) (has : HasShape w t s) where
    -- the tree of the term, with what is known of it
    pub record Opened : Type 0 where
      pub op : Op
      pub trees : Trees
      pub named : Sort
      pub names : AllKeep w (types_of s) named
      pub is : op_of s named ≡ op
      pub kept : KeepsAll w (args_of s) trees
      pub sorts : List Sort
      pub sorted : sorts_of trees ≡ Some sorts
      pub result : Sort
      pub takes : typed op sorts ≡ Some result
      pub stands : Keeps w t (node op trees)
      pub typed_tree : sort_of (node op trees) ≡ Some result

    over : (op : Op) (o : Option (List Sort)) (k : Sort) → typed_over op o ≡ Some k → (ss : List Sort) × (o ≡ Some ss) × (typed op ss ≡ Some k)
    over op None k e = absurd (cc e)
    over op (Some ss) k e = (ss, refl, e)

    opened_by : (tree : Tree) (k : Sort) → Keeps w t tree → sort_of tree ≡ Some k → Opened
    unfolding Keeps sort_of
    opened_by (node op as_) k (r, l, found_shape, names, is, kept) e =
        let same : r ≡ s = same_Some r s (sym found_shape ∙ has) in
        let p = over op (sorts_of as_) k e in
        record {
          op = op;
          trees = as_;
          named = l;
          names = subst (λ z. AllKeep w (types_of z) l) same names;
          is = ap (λ z. op_of z l) (sym same) ∙ is;
          kept = subst (λ z. KeepsAll w (args_of z) as_) same kept;
          sorts = p.0;
          sorted = p.1;
          result = k;
          takes = p.2;
          stands = (r, l, found_shape, names, is, kept);
          typed_tree = e;
        }

    opened : Opened
    opened =
        let n = some_node (node_at w t) s has in
        let g = table.grounded t n.0 n.1 in
        opened_by g.0 g.1 g.2 g.4

    module _ (each : (u : Term) → IsIn (args_of s) u → IsEvaluated w a es u) where
      made_arguments : (o : Opened) → Arguments (args_of s) o.trees o.sorts
      made_arguments o = arguments (args_of s) o.trees o.sorts o.kept o.sorted each

      abbrev ready_by : Opened → IsReady w es s
      ready_by o =
          let p = made_arguments o in
          record {
            sorts = o.sorts;
            have = p.have;
            known = p.known;
            limits = sorts_limited o.trees o.sorts o.sorted;
            named = o.named;
            names = o.names;
            result = o.result;
            takes = ap (λ z. typed z o.sorts) o.is ∙ o.takes;
          }

      -- the arguments have values
      pub ready : IsReady w es s
      ready = ready_by opened

      meant : (o : Opened) → apply o.op (first_of o.sorts) (meanings o.trees a) a ≡ meaning (node o.op o.trees) a
      unfolding meaning
      meant o = ap (λ z. apply o.op z (meanings o.trees a) a) (sym (first_same o.trees o.sorts o.sorted))

      made_by : (o : Opened) (v : Value) → IsResult o.result (apply (op_of s o.named) (first_of o.sorts) (map (found es) (args_of s)) a) v → IsValueOf w a t v
      made_by o v r =
          let p = made_arguments o in
          let vs = map (found es) (args_of s) in
          let x = apply o.op (first_of o.sorts) vs a in
          let m = meaning (node o.op o.trees) a in
          let lim : is_sort o.result ≡ true = sort_limited (node o.op o.trees) o.result o.typed_tree in
          let vx : same_value o.result v x ≡ true = subst (λ z. same_value o.result v (apply z (first_of o.sorts) vs a) ≡ true) o.is r.same in
          let has_x : has_sort x o.result ≡ true = apply_sorted o.op (first_of o.sorts) o.sorts vs a o.result o.takes (known_sorted es (args_of s) o.sorts p.known) in
          let has_m : has_sort m o.result ≡ true = meaning_sorted (node o.op o.trees) a o.result o.typed_tree in
          let xm : same_value o.result x m ≡ true = subst (λ z. same_value o.result x z ≡ true) (meant o) (congruent o.op o.sorts vs (meanings o.trees a) a a o.result o.takes (sorts_limited o.trees o.sorts o.sorted) p.same (same_itself a)) in
          record {
            tree = node o.op o.trees;
            kept = o.stands;
            sort = o.result;
            typed = o.typed_tree;
            has = r.has;
            formed = r.formed;
            same = (equivalence o.result lim).chain v x m r.has has_x has_m vx xm;
          }

      -- and then the term has one
      pub value_made : (v : Value) → IsApplied w a es s v → IsValueOf w a t v
      value_made v made = made_by opened v (made (ready_by opened))
