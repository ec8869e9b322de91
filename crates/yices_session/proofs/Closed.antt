-- Terms with truth values alone below them, and no variable.
use Rattle.std.proofs.Common.{◌≡◌, ⊎_elim, List, ◌++◌, subst}
use Rattle.y_tree.specs.Sorts.{boolean}
use Rattle.term_shapes.specs.declared.handles.Term.{Term}
use Rattle.term_table.specs.World.{World}
use Rattle.term_orders.specs.Orders.{IsIn}
use Rattle.term_orders.specs.Orders.IsBelow.{itself}
use Rattle.term_checks.specs.Formulas.{AreFormulas, AreBoolean, HasOtherSort}
use Rattle.term_checks.specs.declared.answers.CheckError.{CheckError}
use Rattle.term_checks.specs.declared.answers.CheckError.TheVariants as error
use Rattle.term_checks.specs.Verdicts.{RefusesCheck}
use Rattle.expression_terms.proofs.One.{one_sort}
use Rattle.expression_terms.proofs.Truths.{IsPropositional}
use Rattle.yices_session.specs.Held.{AreTruths}
use Rattle.yices_session.proofs.Levels.{in_front, in_back, in_either}

-- each of the list is one
abbrev pub AreClosed : World → List Term → Type 0
AreClosed w ts = (t : Term) → IsIn ts t → IsPropositional w t

pub closed_truths : (w : World) (ts : List Term) → AreClosed w ts → AreTruths w ts
closed_truths w ts h = record { sorts = λ t u. (h u.root u.listed t u.below).0; closed = λ t u. (h u.root u.listed t u.below).1 }

pub truths_closed : (w : World) (ts : List Term) → AreTruths w ts → AreClosed w ts
truths_closed w ts h t is u below = (h.sorts u (record { root = t; listed = is; below = below }), h.closed u (record { root = t; listed = is; below = below }))

pub closed_both : (w : World) (ts us : List Term) → AreClosed w ts → AreClosed w us → AreClosed w (ts ++ us)
closed_both w ts us h k t is = ⊎_elim (λ (g : IsIn ts t). h t g) (λ g. k t g) (in_either ts us t is)

pub closed_front : (w : World) (ts us : List Term) → AreClosed w (ts ++ us) → AreClosed w ts
closed_front w ts us h t is = h t (in_front ts us t is)

pub closed_back : (w : World) (ts us : List Term) → AreClosed w (ts ++ us) → AreClosed w us
closed_back w ts us h t is = h t (in_back ts us t is)

-- other terms behind the first two lists
pub other_truths : (w : World) (ns fs cs ks : List Term) → AreTruths w (ns ++ (fs ++ cs)) → AreClosed w ks → AreTruths w (ns ++ (fs ++ ks))
other_truths w ns fs cs ks h k =
    let all = truths_closed w (ns ++ (fs ++ cs)) h in
    closed_truths w (ns ++ (fs ++ ks)) (closed_both w ns (fs ++ ks) (closed_front w ns (fs ++ cs) all) (closed_both w fs ks (closed_front w fs cs (closed_back w ns (fs ++ cs) all)) k))

-- formulas that can be checked
pub truth_formulas : (w : World) (ts : List Term) → AreTruths w ts → AreFormulas w ts
truth_formulas w ts h t is = record { sort = h.sorts t (record { root = t; listed = is; below = itself }); closed = λ v below. h.closed v (record { root = t; listed = is; below = below }) }

pub truth_boolean : (w : World) (ts us : List Term) → AreTruths w ts → AreTruths w us → AreBoolean w (ts ++ us)
truth_boolean w ts us h k = (closed_truths w (ts ++ us) (closed_both w ts us (truths_closed w ts h) (truths_closed w us k))).sorts

-- so a check of them is refused for want of memory alone: no term below them has two sorts
pub checked_boolean : (w : World) (ts us : List Term) → AreTruths w ts → AreTruths w us → (e : CheckError) → e ≡ error.NotBuilt → RefusesCheck w (ts ++ us) e → ⊥
checked_boolean w ts us h k e is refused = by (subst (RefusesCheck w (ts ++ us)) is refused)
  where
    by : HasOtherSort w (ts ++ us) → ⊥
    by x = x.other (one_sort w x.term x.sort boolean x.has (truth_boolean w ts us h k x.term x.under))
