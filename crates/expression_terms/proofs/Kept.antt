-- Parts and what is kept, at each end of each form.
use Rattle.std.proofs.Common.{◌≡◌, ℕ, ◌<◌, ◌≤◌, List, [], ◌∷◌, ◌++◌, None, Some, Result, Ok, Err, map, length, drop, get_or, sym, subst}
use Rattle.std.specs.Prelude.{IfOk}
use Rattle.y_tree.specs.Laws.{FitsAreTyped}
use Rattle.term_shapes.specs.declared.handles.Term.{Term}
use Rattle.term_table.specs.World.{World, IsTable}
use Rattle.term_build.proofs.Growing.{IsWider, wider}
use Rattle.yices_grammar.specs.declared.Place.{Place}
use Rattle.yices_grammar.specs.Commands.{Expr, expr_at, Exprs, Binds, no_exprs, more_exprs, more_binds, name, let_in, binds}
use Rattle.yices_commands.specs.declared.command.Bind.{Bind, out-Bind}
use Rattle.yices_commands.specs.Plain.{plain, plain_bind}
use Rattle.yices_api.specs.State.{State}
use Rattle.expression_terms.specs.declared.refusal.Stop.{Stop}
use Rattle.expression_terms.specs.Trees.{Scope, names_of, repeated, bindings_of}
use Rattle.expression_terms.specs.Growth.{written_trees, all_trees, bound_trees}
use Rattle.expression_terms.specs.Building.{Named, term_named, with_bound, AreNamed}
use Rattle.expression_terms.specs.Parts.{BuildsSome, BindsSome, BindsAll}
use Rattle.expression_terms.specs.Outcomes.{Builds, OnlyAdds, IsMore, paired}
use Rattle.expression_terms.specs.Keeping.{StaysWithin, AllStayWithin, BoundStayWithin, AddsParts, AddsAmong}
use Rattle.expression_terms.proofs.Scopes.{named_stays, let_scope}
use Rattle.expression_terms.proofs.PlainLaws.{none_bound}
use Rattle.expression_terms.proofs.Outcomes.{BuildsFirst, BindsFirst, paired_next}
use Rattle.expression_terms.proofs.Keeping.{next_written, next_bound_written, parts_among, among_parts, parts_none, parts_append, parts_let, stays_name, stays_let, FirstStayWithin, first_stay_more, first_stay_all, BoundFirstStayWithin, bound_stay_more, bound_stay_all}

-- what was live stays where terms were only added
pub only_wider : (old new : World) → OnlyAdds old new → IsWider old new
only_wider old new a = wider a.bound old new a.adds

-- parts of an expression are more terms
pub parts_more : (ns : Named) (old new : World) (e : Expr) (before after : List Term) → AddsParts ns old new e before after → IsMore before after
parts_more ns old new e before after p = record { added = p.added; is = p.is }

-- an expression without parts
pub no_parts : (ns : Named) (w : World) (e : Expr) (before : List Term) → AddsParts ns w w e before before
no_parts ns w e before = among_parts ns w w e before before (parts_none ns w (λ s. written_trees s e) before)

pub parts_of_any : (ns : Named) (w : World) (e : Expr) (before : List Term) (r : Result Term Stop) → IfOk r (λ t. AddsParts ns w w e before before)
parts_of_any ns w e before (Ok t) = no_parts ns w e before
parts_of_any ns w e before (Err why) = tt

-- a name
pub name_stays : (ns : Named) (w : World) (parts : List Term) (e : Expr) (at : Place) (v : List ℕ) (r : Result Term Stop) → e ≡ expr_at at (name v) → IfOk r (λ t. term_named ns v ≡ Some t) → IfOk r (StaysWithin ns w w parts e)
name_stays ns w parts e at v (Ok t) is h = stays_name ns w parts e at v t is h
name_stays ns w parts e at v (Err why) is h = tt

-- what is said of an expression is said of what it is
pub same_parts : (ns : Named) (old new : World) (e f : Expr) (before after : List Term) (r : Result Term Stop) → e ≡ f → IfOk r (λ t. AddsParts ns old new f before after) → IfOk r (λ t. AddsParts ns old new e before after)
same_parts ns old new e f before after r is h = subst (λ x. IfOk r (λ t. AddsParts ns old new x before after)) (sym is) h

pub same_stays : (ns : Named) (old new : World) (parts : List Term) (e f : Expr) (r : Result Term Stop) → e ≡ f → IfOk r (StaysWithin ns old new parts f) → IfOk r (StaysWithin ns old new parts e)
same_stays ns old new parts e f r is h = subst (λ x. IfOk r (StaysWithin ns old new parts x)) (sym is) h

-- the next of the expressions, and all of them
module _ (ns now : Named) (old mid new : State) (es rest more : Exprs) (e : Expr) (ts : List Term) (same : now ≡ ns) (is : rest ≡ more_exprs e more) (first : BuildsFirst ns old mid es rest ts)
    (a : OnlyAdds old.table mid.table) (b : OnlyAdds mid.table new.table) (between after : List Term) (parts : AddsParts now mid.table new.table e between after) where
  next_parts : AddsParts ns mid.table new.table e between after
  next_parts = subst (λ z. AddsParts z mid.table new.table e between after) same parts

  pub first_parts : (before : List Term) → AddsAmong ns old.table mid.table (λ s. all_trees s es) before between → AddsAmong ns old.table new.table (λ s. all_trees s es) before after
  first_parts before so_far =
      parts_append ns old.table mid.table new.table (only_wider mid.table new.table b) (λ s. all_trees s es) (λ s. all_trees s es) (λ s named d h. h) before between after so_far (only_wider old.table mid.table a) (λ s. written_trees s e)
      (λ s named. next_written s old.table mid.table es more e ts (subst (λ r. BuildsSome s old.table mid.table es r ts) is (first s named))) (parts_among ns mid.table new.table e between after next_parts)

  pub first_within : (t : Term) → FirstStayWithin ns old.table mid.table between es rest ts → StaysWithin now mid.table new.table after e t → Builds now mid new e t → FirstStayWithin ns old.table new.table after es more (ts ++ t ∷ [])
  first_within t so_far one built =
      first_stay_more ns old.table mid.table new.table (only_wider old.table mid.table a) (only_wider mid.table new.table b) between after (parts_more ns mid.table new.table e between after next_parts) es more e ts t
      (subst (λ r. FirstStayWithin ns old.table mid.table between es r ts) is so_far) (subst (λ z. StaysWithin z mid.table new.table after e t) same one) (subst (λ z. Builds z mid new e t) same built)

pub first_all_within : (ns : Named) (old new : World) (parts : List Term) (es rest : Exprs) (ts : List Term) → rest ≡ no_exprs → FirstStayWithin ns old new parts es rest ts → AllStayWithin ns old new parts es ts
first_all_within ns old new parts es rest ts is h = first_stay_all ns old new parts es ts (subst (λ r. FirstStayWithin ns old new parts es r ts) is h)

-- what the next name is bound to, and what all are
module _ (ns now : Named) (old mid new : State) (xs : List Bind) (d : Bind) (rest more : Binds) (ts : List Term) (i : ℕ) (same : now ≡ ns)
    (is : rest ≡ more_binds (out-Bind (get_or xs i d)).name (plain (out-Bind (get_or xs i d)).expr) more) (first : BindsFirst ns old mid (binds (map plain_bind xs)) rest ts)
    (a : OnlyAdds old.table mid.table) (b : OnlyAdds mid.table new.table) (between after : List Term) (parts : AddsParts now mid.table new.table (plain (out-Bind (get_or xs i d)).expr) between after) where
  abbrev whole : Binds
  whole = binds (map plain_bind xs)

  abbrev word : List ℕ
  word = (out-Bind (get_or xs i d)).name

  abbrev bound_to : Expr
  bound_to = plain (out-Bind (get_or xs i d)).expr

  next_bound : AddsParts ns mid.table new.table bound_to between after
  next_bound = subst (λ z. AddsParts z mid.table new.table bound_to between after) same parts

  pub bound_parts : (before : List Term) → AddsAmong ns old.table mid.table (λ s. bound_trees s whole) before between → AddsAmong ns old.table new.table (λ s. bound_trees s whole) before after
  bound_parts before so_far =
      parts_append ns old.table mid.table new.table (only_wider mid.table new.table b) (λ s. bound_trees s whole) (λ s. bound_trees s whole) (λ s named d h. h) before between after so_far (only_wider old.table mid.table a) (λ s. written_trees s bound_to)
      (λ s named. next_bound_written s old.table mid.table whole more word bound_to (paired ts (names_of whole)) (subst (λ r. BindsSome s old.table mid.table whole r (paired ts (names_of whole))) is (first s named)))
      (parts_among ns mid.table new.table bound_to between after next_bound)

  pub bound_within : (t : Term) → length ts ≡ i → i < length xs → BoundFirstStayWithin ns old.table mid.table between whole rest (paired ts (names_of whole)) → StaysWithin now mid.table new.table after bound_to t → Builds now mid new bound_to t
      → BoundFirstStayWithin ns old.table new.table after whole more (paired (ts ++ t ∷ []) (names_of whole))
  bound_within t counted h so_far one built =
      subst (BoundFirstStayWithin ns old.table new.table after whole more) (sym (paired_next xs d ts t i counted h))
      (bound_stay_more ns old.table mid.table new.table (only_wider old.table mid.table a) (only_wider mid.table new.table b) between after (parts_more ns mid.table new.table bound_to between after next_bound) whole more word bound_to (paired ts (names_of whole)) t
      (subst (λ r. BoundFirstStayWithin ns old.table mid.table between whole r (paired ts (names_of whole))) is so_far) (subst (λ z. StaysWithin z mid.table new.table after bound_to t) same one) (subst (λ z. Builds z mid new bound_to t) same built))

pub bound_all_within : (ns : Named) (old new : World) (parts : List Term) (xs : List Bind) (i : ℕ) (ps : List (List ℕ × Term)) → length xs ≤ i
    → BoundFirstStayWithin ns old new parts (binds (map plain_bind xs)) (binds (map plain_bind (drop i xs))) ps → BoundStayWithin ns old new parts (binds (map plain_bind xs)) ps
bound_all_within ns old new parts xs i ps past h =
    bound_stay_all ns old new parts (binds (map plain_bind xs)) ps (subst (λ r. BoundFirstStayWithin ns old new parts (binds (map plain_bind xs)) r ps) (none_bound xs i past) h)

-- what is read where names are bound
module _ (ns : Named) (old mid new : State) (at : Place) (bs : Binds) (body : Expr) (once : repeated (names_of bs) ≡ None) (law : FitsAreTyped) (ps : List (List ℕ × Term)) (all : (s : Scope) → AreNamed old.table s ns → BindsAll s old.table mid.table bs ps)
    (a : OnlyAdds old.table mid.table) (between after : List Term) where
  scoped : (s : Scope) → AreNamed old.table s ns → (xs : Scope) × (bindings_of s bs ≡ Ok xs) × AreNamed mid.table (xs ++ s) (with_bound ns ps)
  scoped s named =
      let b = all s named in (b.names, b.is, let_scope law mid.table s ns (named_stays old.table mid.table (only_wider old.table mid.table a) s ns named) bs b.names ps b.is once b.bound)

  pub let_parts : OnlyAdds mid.table new.table → (before : List Term) (r : Result Term Stop) → AddsAmong ns old.table mid.table (λ s. bound_trees s bs) before between → IfOk r (λ t. AddsParts (with_bound ns ps) mid.table new.table body between after)
      → IfOk r (λ t. AddsParts ns old.table new.table (expr_at at (let_in bs body)) before after)
  let_parts b before (Ok t) bound h = parts_let ns old.table mid.table new.table (only_wider mid.table new.table b) at bs body ps before between after scoped bound h
  let_parts b before (Err why) bound h = tt

  pub let_stays : IsTable mid.table → (r : Result Term Stop) → BoundStayWithin ns old.table mid.table between bs ps → IfOk r (λ t. AddsParts (with_bound ns ps) mid.table new.table body between after)
      → IfOk r (StaysWithin (with_bound ns ps) mid.table new.table after body) → IfOk r (StaysWithin ns old.table new.table after (expr_at at (let_in bs body)))
  let_stays table (Ok t) bound p h =
      stays_let ns old.table mid.table new.table (only_wider old.table mid.table a) table law at bs body ps once between after (parts_more (with_bound ns ps) mid.table new.table body between after p) all bound t h
  let_stays table (Err why) bound p h = tt
