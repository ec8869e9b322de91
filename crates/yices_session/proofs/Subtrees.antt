-- The distinct subtrees of trees can be listed, so a table that grew for trees grew by some number of terms.
use Rattle.std.proofs.Common.{◌≡◌, ◌∙◌, ℕ, ◌⊎◌, inl, inr, ⊎_elim, List, [], ◌∷◌, ◌++◌, get_or, refl, sym, ap, subst}
use Rattle.std.specs.Coded.{Coded, coded_ℕ, coded_list, coded×, coded⊎, code_by}
use Rattle.std.proofs.lemmas.Bool.{cases_eq}
use base.Stored.{Gv, gnil, gnum, gcons}
use Rattle.rationals.specs.Rational.{ℚ}
use Rattle.rationals.proofs.FieldQ.{coded_ℚ}
use Rattle.y_tree.specs.Codes.{coded_sort}
use Rattle.y_tree.specs.Sorts.{Sort}
use Rattle.y_tree.specs.Tree.{Op, Tree, Trees, node, none, more, truth, falsity, number, bits, constant, variable, negation, conjunction, disjunction, parity, implication, equivalence, choice, equality, disequality, distinctness, application, update, sum, difference, product, quotient, less, at_most, greater, at_least, linear, non_negative, bit_vector, bit_vector_at}
use Rattle.y_tree.specs.declared.BvOp.{BvOp}
use Rattle.y_tree.specs.declared.BvOp.TheVariants as bv
use Rattle.y_tree.specs.declared.BvAtOp.{BvAtOp}
use Rattle.y_tree.specs.declared.BvAtOp.TheVariants as at_op
use Rattle.term_table.specs.World.{World}
use Rattle.term_build.specs.Building.{AddsAtMost, IsInSome, IsAmong}
use Rattle.term_build.specs.Building as build
use Rattle.expression_terms.specs.Growth.{allowed, AreDifferent, AreSubtrees, GrowsFor}

-- an operator on bit-vectors by its place in a list of all
abbrev bv_ops : List BvOp
bv_ops = bv.Add ∷ bv.Sub ∷ bv.Mul ∷ bv.Neg ∷ bv.Div ∷ bv.Rem ∷ bv.Sdiv ∷ bv.Srem ∷ bv.Smod ∷ bv.Not ∷ bv.And ∷ bv.Or ∷ bv.Xor ∷ bv.Shl ∷ bv.Lshr ∷ bv.Ashr ∷ bv.Concat ∷ bv.Ge ∷ bv.Gt ∷ bv.Le ∷ bv.Lt ∷ bv.Sge ∷ bv.Sgt ∷ bv.Sle ∷ bv.Slt ∷ []

abbrev bv_number : BvOp → ℕ
bv_number bv.Add = 0
bv_number bv.Sub = 1
bv_number bv.Mul = 2
bv_number bv.Neg = 3
bv_number bv.Div = 4
bv_number bv.Rem = 5
bv_number bv.Sdiv = 6
bv_number bv.Srem = 7
bv_number bv.Smod = 8
bv_number bv.Not = 9
bv_number bv.And = 10
bv_number bv.Or = 11
bv_number bv.Xor = 12
bv_number bv.Shl = 13
bv_number bv.Lshr = 14
bv_number bv.Ashr = 15
bv_number bv.Concat = 16
bv_number bv.Ge = 17
bv_number bv.Gt = 18
bv_number bv.Le = 19
bv_number bv.Lt = 20
bv_number bv.Sge = 21
bv_number bv.Sgt = 22
bv_number bv.Sle = 23
bv_number bv.Slt = 24

bv_back : (o : BvOp) → get_or bv_ops (bv_number o) bv.Add ≡ o
bv_back bv.Add = refl
bv_back bv.Sub = refl
bv_back bv.Mul = refl
bv_back bv.Neg = refl
bv_back bv.Div = refl
bv_back bv.Rem = refl
bv_back bv.Sdiv = refl
bv_back bv.Srem = refl
bv_back bv.Smod = refl
bv_back bv.Not = refl
bv_back bv.And = refl
bv_back bv.Or = refl
bv_back bv.Xor = refl
bv_back bv.Shl = refl
bv_back bv.Lshr = refl
bv_back bv.Ashr = refl
bv_back bv.Concat = refl
bv_back bv.Ge = refl
bv_back bv.Gt = refl
bv_back bv.Le = refl
bv_back bv.Lt = refl
bv_back bv.Sge = refl
bv_back bv.Sgt = refl
bv_back bv.Sle = refl
bv_back bv.Slt = refl

abbrev at_ops : List BvAtOp
at_ops = at_op.ShiftLeft0 ∷ at_op.ShiftRight0 ∷ at_op.Extract ∷ at_op.SignExtend ∷ at_op.ZeroExtend ∷ []

abbrev at_number : BvAtOp → ℕ
at_number at_op.ShiftLeft0 = 0
at_number at_op.ShiftRight0 = 1
at_number at_op.Extract = 2
at_number at_op.SignExtend = 3
at_number at_op.ZeroExtend = 4

at_back : (o : BvAtOp) → get_or at_ops (at_number o) at_op.Extract ≡ o
at_back at_op.ShiftLeft0 = refl
at_back at_op.ShiftRight0 = refl
at_back at_op.Extract = refl
at_back at_op.SignExtend = refl
at_back at_op.ZeroExtend = refl

abbrev coded_bv : Coded BvOp
coded_bv = code_by ℕ coded_ℕ bv_number (λ n. get_or bv_ops n bv.Add) bv_back

abbrev coded_at : Coded BvAtOp
coded_at = code_by ℕ coded_ℕ at_number (λ n. get_or at_ops n at_op.Extract) at_back

-- the operators without parts, and the parts of the others
abbrev plain_ops : List Op
plain_ops =
    truth ∷ falsity ∷ negation ∷ conjunction ∷ disjunction ∷ parity ∷ implication ∷ equivalence ∷ choice ∷ equality ∷ disequality ∷ distinctness ∷ application ∷ update ∷ sum ∷ difference ∷ product ∷ quotient ∷ less
    ∷ at_most ∷ greater ∷ at_least ∷ non_negative ∷ []

abbrev Parts : Type 0
Parts = ℕ ⊎ (ℚ ⊎ ((ℕ × ℕ) ⊎ ((ℕ × Sort) ⊎ ((ℕ × Sort) ⊎ ((List ℚ × ℚ) ⊎ (BvOp ⊎ (BvAtOp × (ℕ × ℕ))))))))

abbrev coded_parts : Coded Parts
coded_parts =
    coded⊎ coded_ℕ (coded⊎ coded_ℚ (coded⊎ (coded× coded_ℕ coded_ℕ) (coded⊎ (coded× coded_ℕ coded_sort) (coded⊎ (coded× coded_ℕ coded_sort) (coded⊎ (coded× (coded_list coded_ℚ) coded_ℚ) (coded⊎ coded_bv (coded× coded_at (coded× coded_ℕ coded_ℕ))))))))

abbrev parts_of : Op → Parts
parts_of truth = inl 0
parts_of falsity = inl 1
parts_of negation = inl 2
parts_of conjunction = inl 3
parts_of disjunction = inl 4
parts_of parity = inl 5
parts_of implication = inl 6
parts_of equivalence = inl 7
parts_of choice = inl 8
parts_of equality = inl 9
parts_of disequality = inl 10
parts_of distinctness = inl 11
parts_of application = inl 12
parts_of update = inl 13
parts_of sum = inl 14
parts_of difference = inl 15
parts_of product = inl 16
parts_of quotient = inl 17
parts_of less = inl 18
parts_of at_most = inl 19
parts_of greater = inl 20
parts_of at_least = inl 21
parts_of non_negative = inl 22
parts_of (number q) = inr (inl q)
parts_of (bits n a) = inr (inr (inl (n, a)))
parts_of (constant n k) = inr (inr (inr (inl (n, k))))
parts_of (variable n k) = inr (inr (inr (inr (inl (n, k)))))
parts_of (linear qs q) = inr (inr (inr (inr (inr (inl (qs, q))))))
parts_of (bit_vector o) = inr (inr (inr (inr (inr (inr (inl o))))))
parts_of (bit_vector_at o n m) = inr (inr (inr (inr (inr (inr (inr (o, (n, m))))))))

abbrev op_from : Parts → Op
op_from (inl n) = get_or plain_ops n truth
op_from (inr (inl q)) = number q
op_from (inr (inr (inl p))) = bits p.0 p.1
op_from (inr (inr (inr (inl p)))) = constant p.0 p.1
op_from (inr (inr (inr (inr (inl p))))) = variable p.0 p.1
op_from (inr (inr (inr (inr (inr (inl p)))))) = linear p.0 p.1
op_from (inr (inr (inr (inr (inr (inr (inl o))))))) = bit_vector o
op_from (inr (inr (inr (inr (inr (inr (inr p))))))) = bit_vector_at p.0 p.1.0 p.1.1

op_back : (o : Op) → op_from (parts_of o) ≡ o
op_back truth = refl
op_back falsity = refl
op_back negation = refl
op_back conjunction = refl
op_back disjunction = refl
op_back parity = refl
op_back implication = refl
op_back equivalence = refl
op_back choice = refl
op_back equality = refl
op_back disequality = refl
op_back distinctness = refl
op_back application = refl
op_back update = refl
op_back sum = refl
op_back difference = refl
op_back product = refl
op_back quotient = refl
op_back less = refl
op_back at_most = refl
op_back greater = refl
op_back at_least = refl
op_back non_negative = refl
op_back (number q) = refl
op_back (bits n a) = refl
op_back (constant n k) = refl
op_back (variable n k) = refl
op_back (linear qs q) = refl
op_back (bit_vector o) = refl
op_back (bit_vector_at o n m) = refl

abbrev coded_op : Coded Op
coded_op = code_by Parts coded_parts parts_of op_from op_back

-- a tree as a tree of numbers
unfoldable mutual
  tree_code : Tree → Gv
  tree_code (node op ts) = gcons (coded_op.code op) (trees_code ts)

  trees_code : Trees → Gv
  trees_code none = gnil
  trees_code (more t ts) = gcons (tree_code t) (trees_code ts)

abbrev first : Gv → Gv
first gnil = gnil
first (gnum n) = gnil
first (gcons a b) = a

abbrev second : Gv → Gv
second gnil = gnil
second (gnum n) = gnil
second (gcons a b) = b

abbrev is_pair : Gv → ℕ
is_pair gnil = 0
is_pair (gnum n) = 1
is_pair (gcons a b) = 2

abbrev value : Gv → ℕ
value gnil = 0
value (gnum n) = n
value (gcons a b) = 0

mutual
  unfolding tree_code

  tree_told : (t u : Tree) → tree_code t ≡ tree_code u → t ≡ u
  tree_told (node o ts) (node p us) h = ap (λ x. node x ts) (coded_op.inj o p (ap first h)) ∙ ap (node p) (trees_told ts us (ap second h))

  trees_told : (ts us : Trees) → trees_code ts ≡ trees_code us → ts ≡ us
  trees_told none none h = refl
  trees_told none (more u us) h = absurd (cc h)
  trees_told (more t ts) none h = absurd (cc h)
  trees_told (more t ts) (more u us) h = ap (λ x. more x ts) (tree_told t u (ap first h)) ∙ ap (more u) (trees_told ts us (ap second h))

-- it is decided whether two are one
abbrev Decided : Type 0 → Type 0
Decided P = P ⊎ (P → ⊥)

decided_code : (a b : Gv) → Decided (a ≡ b)
decided_code gnil gnil = inl refl
decided_code gnil (gnum n) = inr (λ e. cc e)
decided_code gnil (gcons a b) = inr (λ e. cc e)
decided_code (gnum m) gnil = inr (λ e. cc e)
decided_code (gnum m) (gnum n) = ⊎_elim (λ (e : m ≡ n). inl (ap gnum e)) (λ d. inr (λ e. d (ap value e))) (cases_eq m n)
decided_code (gnum m) (gcons a b) = inr (λ e. cc e)
decided_code (gcons a b) gnil = inr (λ e. cc e)
decided_code (gcons a b) (gnum n) = inr (λ e. cc e)
decided_code (gcons a b) (gcons c d) = both (decided_code a c) (decided_code b d)
  where
    both : Decided (a ≡ c) → Decided (b ≡ d) → Decided (gcons a b ≡ gcons c d)
    both (inl e) (inl f) = inl (ap (λ x. gcons x b) e ∙ ap (gcons c) f)
    both (inl e) (inr f) = inr (λ g. f (ap second g))
    both (inr e) f = inr (λ g. e (ap first g))

decided_tree : (t u : Tree) → Decided (t ≡ u)
decided_tree t u = ⊎_elim (λ (e : tree_code t ≡ tree_code u). inl (tree_told t u e)) (λ d. inr (λ e. d (ap tree_code e))) (decided_code (tree_code t) (tree_code u))

decided_among : (a : Tree) (ds : List Tree) → Decided (IsAmong a ds)
decided_among a [] = inr (λ h. h)
decided_among a (d ∷ ds) = both (decided_tree a d) (decided_among a ds)
  where
    both : Decided (a ≡ d) → Decided (IsAmong a ds) → Decided (IsAmong a (d ∷ ds))
    both (inl e) rest = inl (inl e)
    both (inr e) (inl h) = inl (inr h)
    both (inr e) (inr h) = inr (λ k. ⊎_elim (λ (f : a ≡ d). e f) (λ g. h g) k)

-- the same trees, each once
record AreOnce (ds es : List Tree) : Type 0 where
  once : AreDifferent es
  all : (a : Tree) → IsAmong a ds → IsAmong a es
  only : (a : Tree) → IsAmong a es → IsAmong a ds

each_once : (ds : List Tree) → (es : List Tree) × AreOnce ds es
each_once [] = ([], record { once = tt; all = λ a h. h; only = λ a h. h })
each_once (d ∷ ds) = by (each_once ds)
  where
    by : (es : List Tree) × AreOnce ds es → (es : List Tree) × AreOnce (d ∷ ds) es
    by (es, o) = there (decided_among d es)
      where
        there : Decided (IsAmong d es) → (es : List Tree) × AreOnce (d ∷ ds) es
        there (inl h) = (es, record { once = o.once; all = λ a k. ⊎_elim (λ (e : a ≡ d). subst (λ z. IsAmong z es) (sym e) h) (λ g. o.all a g) k; only = λ a k. inr (o.only a k) })
        there (inr h) = (d ∷ es, record { once = (h, o.once); all = λ a k. ⊎_elim (λ (e : a ≡ d). inl e) (λ g. inr (o.all a g)) k; only = λ a k. ⊎_elim (λ (e : a ≡ d). inl e) (λ g. inr (o.only a g)) k })

-- the trees in a tree
mutual
  trees_in : Tree → List Tree
  trees_in (node op ts) = node op ts ∷ trees_in_some ts

  trees_in_some : Trees → List Tree
  trees_in_some none = []
  trees_in_some (more t ts) = trees_in t ++ trees_in_some ts

among_front : (a : Tree) (ds es : List Tree) → IsAmong a ds → IsAmong a (ds ++ es)
among_front a [] es h = absurd h
among_front a (d ∷ ds) es (inl e) = inl e
among_front a (d ∷ ds) es (inr h) = inr (among_front a ds es h)

among_back : (a : Tree) (ds es : List Tree) → IsAmong a es → IsAmong a (ds ++ es)
among_back a [] es h = h
among_back a (d ∷ ds) es h = inr (among_back a ds es h)

among_cases : (a : Tree) (ds es : List Tree) → IsAmong a (ds ++ es) → IsAmong a ds ⊎ IsAmong a es
among_cases a [] es h = inr h
among_cases a (d ∷ ds) es (inl e) = inl (inl e)
among_cases a (d ∷ ds) es (inr h) = ⊎_elim (λ (g : IsAmong a ds). inl (inr g)) inr (among_cases a ds es h)

abbrev children : Tree → Trees
children (node op ts) = ts

in_cases : (a d : Tree) → build.IsIn a d → (a ≡ d) ⊎ IsInSome a (children d)
in_cases a d (build.itself b) = inl refl
in_cases a d (build.below b op ds h) = inr h

abbrev InFirst : Tree → Trees → Type 0
InFirst a none = ⊥
InFirst a (more d ds) = build.IsIn a d ⊎ IsInSome a ds

some_cases : (a : Tree) (ds : Trees) → IsInSome a ds → InFirst a ds
some_cases a ds (build.first x d es h) = inl h
some_cases a ds (build.later x d es h) = inr h

mutual
  unfolding trees_in

  every_in : (a d : Tree) → build.IsIn a d → IsAmong a (trees_in d)
  every_in a (node op ts) h = ⊎_elim (λ (e : a ≡ node op ts). inl e) (λ g. inr (every_in_some a ts g)) (in_cases a (node op ts) h)

  every_in_some : (a : Tree) (ds : Trees) → IsInSome a ds → IsAmong a (trees_in_some ds)
  every_in_some a none h = absurd (some_cases a none h)
  every_in_some a (more d ds) h = ⊎_elim (λ (g : build.IsIn a d). among_front a (trees_in d) (trees_in_some ds) (every_in a d g)) (λ g. among_back a (trees_in d) (trees_in_some ds) (every_in_some a ds g)) (some_cases a (more d ds) h)

mutual
  unfolding trees_in

  only_in : (a d : Tree) → IsAmong a (trees_in d) → build.IsIn a d
  only_in a (node op ts) (inl e) = subst (λ z. build.IsIn z (node op ts)) (sym e) (build.itself (node op ts))
  only_in a (node op ts) (inr h) = build.below a op ts (only_in_some a ts h)

  only_in_some : (a : Tree) (ds : Trees) → IsAmong a (trees_in_some ds) → IsInSome a ds
  only_in_some a none h = absurd h
  only_in_some a (more d ds) h = ⊎_elim (λ (g : IsAmong a (trees_in d)). build.first a d ds (only_in a d g)) (λ g. build.later a d ds (only_in_some a ds g)) (among_cases a (trees_in d) (trees_in_some ds) h)

-- the trees in trees of a list
abbrev subtrees : List Tree → List Tree
subtrees [] = []
subtrees (t ∷ ts) = trees_in t ++ subtrees ts

every_subtree : (ts : List Tree) (a t : Tree) → IsAmong t ts → build.IsIn a t → IsAmong a (subtrees ts)
every_subtree [] a t h is = absurd h
every_subtree (u ∷ ts) a t (inl e) is = among_front a (trees_in u) (subtrees ts) (every_in a u (subst (build.IsIn a) e is))
every_subtree (u ∷ ts) a t (inr h) is = among_back a (trees_in u) (subtrees ts) (every_subtree ts a t h is)

only_subtree : (ts : List Tree) (a : Tree) → IsAmong a (subtrees ts) → (t : Tree) × IsAmong t ts × build.IsIn a t
only_subtree [] a h = absurd h
only_subtree (u ∷ ts) a h = by (λ g. only_subtree ts a g) (among_cases a (trees_in u) (subtrees ts) h)
  where
    by : (IsAmong a (subtrees ts) → (t : Tree) × IsAmong t ts × build.IsIn a t) → IsAmong a (trees_in u) ⊎ IsAmong a (subtrees ts) → (t : Tree) × IsAmong t (u ∷ ts) × build.IsIn a t
    by rest (inl g) = (u, inl refl, only_in a u g)
    by rest (inr g) = let r = rest g in (r.0, inr r.1, r.2)

-- there is a list of the distinct subtrees
pub listed_subtrees : (ts : List Tree) → (ds : List Tree) × AreSubtrees ds ts
listed_subtrees ts =
    let r = each_once (subtrees ts) in
    (r.0, record { once = r.1.once; every = λ a t h is. r.1.all a (every_subtree ts a t h is); only = λ a h. only_subtree ts a (r.1.only a h) })

-- so what grew for trees grew by some number
pub grows_some : (ts : List Tree) (old new : World) → GrowsFor ts old new → (n : ℕ) × AddsAtMost n old new
grows_some ts old new grows = let r = listed_subtrees ts in (allowed r.0, grows r.0 r.1)
