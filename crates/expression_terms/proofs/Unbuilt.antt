-- Forms of expressions that aren't built.
use Rattle.std.proofs.Common.{◌≡◌, ◌⊎◌, inl, inr, ℕ, List, ap}
use Rattle.yices_commands.specs.declared.command.Expr.{Expr, out-Expr}
use Rattle.yices_commands.specs.declared.command.Decl.{Decl}
use Rattle.yices_commands.specs.declared.command.ExprForm.TheVariants as form
use Rattle.yices_commands.specs.Plain.{plain}
use Rattle.yices_api.specs.State.{State}
use Rattle.expression_terms.specs.declared.refusal.Refusal.TheVariants as refusal
use Rattle.expression_terms.specs.declared.refusal.Stop.TheVariants as stop
use Rattle.expression_terms.specs.Trees.{tree_of}
use Rattle.expression_terms.specs.Building.{Named}
use Rattle.expression_terms.specs.Outcomes.{Stops}
use Rattle.expression_terms.proofs.PlainLaws.{plain_number, plain_binary, plain_hex, plain_mk_bv, plain_extract, plain_counted, plain_forall}
use Rattle.expression_terms.proofs.Outcomes.{stops_unbuilt}

-- the forms
abbrev pub IsUnbuiltForm : Expr → Type 0
IsUnbuiltForm e =
    ((w : List ℕ) × ((out-Expr e).form ≡ form.Number w))
    ⊎ ((w : List ℕ) × ((out-Expr e).form ≡ form.Binary w))
    ⊎ ((w : List ℕ) × ((out-Expr e).form ≡ form.Hex w))
    ⊎ ((n : List ℕ) × (k : List ℕ) × ((out-Expr e).form ≡ form.MkBv n k))
    ⊎ ((i : List ℕ) × (j : List ℕ) × (of : Expr) × ((out-Expr e).form ≡ form.Extract i j of))
    ⊎ ((w : List ℕ) × (of : Expr) × (k : List ℕ) × ((out-Expr e).form ≡ form.Counted w of k))
    ⊎ ((ds : List Decl) × (body : Expr) × ((out-Expr e).form ≡ form.Forall ds body))

-- each has no tree
pub unbuilt_refused : (ns : Named) (old : State) (e : Expr) → IsUnbuiltForm e → Stops ns old old (plain e) (stop.Refused (out-Expr e).place refusal.NotBuilt)
unfolding tree_of
unbuilt_refused ns old e (inl (w, is)) = stops_unbuilt ns old (plain e) (out-Expr e).place (λ s. ap (tree_of s) (plain_number e w is))
unbuilt_refused ns old e (inr (inl (w, is))) = stops_unbuilt ns old (plain e) (out-Expr e).place (λ s. ap (tree_of s) (plain_binary e w is))
unbuilt_refused ns old e (inr (inr (inl (w, is)))) = stops_unbuilt ns old (plain e) (out-Expr e).place (λ s. ap (tree_of s) (plain_hex e w is))
unbuilt_refused ns old e (inr (inr (inr (inl (n, k, is))))) = stops_unbuilt ns old (plain e) (out-Expr e).place (λ s. ap (tree_of s) (plain_mk_bv e n k is))
unbuilt_refused ns old e (inr (inr (inr (inr (inl (i, j, of, is)))))) = stops_unbuilt ns old (plain e) (out-Expr e).place (λ s. ap (tree_of s) (plain_extract e i j of is))
unbuilt_refused ns old e (inr (inr (inr (inr (inr (inl (w, of, k, is))))))) = stops_unbuilt ns old (plain e) (out-Expr e).place (λ s. ap (tree_of s) (plain_counted e w of k is))
unbuilt_refused ns old e (inr (inr (inr (inr (inr (inr (ds, body, is))))))) = stops_unbuilt ns old (plain e) (out-Expr e).place (λ s. ap (tree_of s) (plain_forall e ds body is))
