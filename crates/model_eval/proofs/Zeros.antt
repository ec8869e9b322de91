-- Zeros of types, and constants' own values.
use Rattle.std.proofs.Common.{◌≡◌, ◌∙◌, Option, Some, None, Result, Ok, Err, ap}
use Rattle.std.specs.Prelude.{IfOk}
use Rattle.y_tree.specs.Sorts.{Sort}
use Rattle.y_tree.specs.Values.{Value, zero_of}
use Rattle.y_tree.specs.Plain.{plain_value}
use Rattle.y_tree.specs.declared.values.Value as code
use Rattle.term_shapes.specs.declared.handles.TypeId.{TypeId}
use Rattle.term_table.specs.World.{World, type_shape_at, KeepsType}
use Rattle.term_table.proofs.PlainSorts.{dead_kept}
use Rattle.term_table.proofs.Sorting.{one_kept}
use Rattle.model_eval.specs.Evaluating.{or_zero}

-- the zero of the sort that the type stands for
pub zero_ok : {E : Type 0} (w : World) (of : TypeId) (s : Sort) (r : Result code.Value E) → KeepsType w of s → IfOk r (λ v. plain_value v ≡ zero_of s) → IfOk r (λ v. (k : Sort) → KeepsType w of k → plain_value v ≡ zero_of k)
zero_ok w of s (Ok v) keeps h = λ k other. h ∙ ap zero_of (one_kept w s k of keeps other)
zero_ok w of s (Err e) keeps h = tt

-- a dead type stands for none
pub zero_dead : (w : World) (of : TypeId) (v : Value) → type_shape_at w of ≡ None → (k : Sort) → KeepsType w of k → v ≡ zero_of k
zero_dead w of v dead k keeps = absurd (dead_kept w of k dead keeps)

-- a constant's own value, or its type's zero
pub own_ok : {E : Type 0} (w : World) (of : TypeId) (o : Option Value) (x : Value) (r : Result code.Value E) → Some x ≡ o → IfOk r (λ v. plain_value v ≡ x) → IfOk r (λ v. (k : Sort) → KeepsType w of k → plain_value v ≡ or_zero k o)
own_ok w of o x (Ok v) is h = λ k keeps. h ∙ ap (or_zero k) is
own_ok w of o x (Err e) is h = tt

pub no_own : {E : Type 0} (w : World) (of : TypeId) (o : Option Value) (r : Result code.Value E) → None ≡ o → IfOk r (λ v. (k : Sort) → KeepsType w of k → plain_value v ≡ zero_of k) → IfOk r (λ v. (k : Sort) → KeepsType w of k → plain_value v ≡ or_zero k o)
no_own w of o (Ok v) is h = λ k keeps. h k keeps ∙ ap (or_zero k) is
no_own w of o (Err e) is h = tt
