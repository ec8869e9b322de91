use Rattle.std.proofs.Common.{sym, arith, refl, inr, subst}
use Rattle.std.proofs.lemmas.Result.{err_from_is_err_and}
use Rattle.term_table.specs.Functions.{IsFunctionShape, RefusesType}
use Rattle.term_table.proofs.Atoms.{no_type}
use Rattle.term_table.proofs.Domains.{function_sound}
use Rattle.term_table.proofs.table.Table.add_type.Goals as goal

pub returns-in_err-slot-clause-refused : goal.returns-in_err-slot-clause-refused
returns-in_err-slot-clause-refused c =
    let p = err_from_is_err_and c.from_residual.result c.from_residual.ensures.1 in
    rw (p.1, p.2) (subst (λ w. RefusesType w c.args.shape c.in_err-slot.field-0.0) c.self.view_is (
      c.in_err-slot.ensures.full,
      (λ u h. no_type _ c.self.invariant _ c.type_equality.ensures c.args.shape c.in_default.ensures.absent u h),
    ))

pub invariant_of-self-2 : goal.invariant_of-self-2
invariant_of-self-2 c =
    function_sound _ _ (record { slot = c.in_ok-slot.slot; stamp = c.in_ok-slot.stamp }) c.args.shape c.self.invariant c.in_ok-slot.ensures.added refl refl refl (omega arith)
    (subst (λ w. IsFunctionShape w c.args.shape) (sym c.self.view_is) c.requires)
    (λ u h. no_type _ c.self.invariant _ c.type_equality.ensures c.args.shape c.in_default.ensures.absent u h)
    c.regular.ensures.regular (omega arith) refl refl

pub returns-clause-added : goal.returns-clause-added
returns-clause-added c =
    rw (← c.self.view_is) (inr (record {
      absent = λ u h. no_type _ c.self.invariant _ c.type_equality.ensures c.args.shape c.in_default.ensures.absent u h;
      added = c.in_ok-slot.ensures.added;
      rest = refl;
    }))
