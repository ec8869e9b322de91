use Rattle.std.proofs.Common.{◌∙◌, refl, sym, ap}
use Rattle.y_tree.specs.Misfits.{row_of, count_fits, out_in, bad_arity}
use Rattle.term_shapes.specs.Shapes.{args_of}
use Rattle.shape_rules.specs.Rules.{operator}
use Rattle.term_table.proofs.Sorting.{have_all, have_length}
use Rattle.term_table.proofs.Misfitting.{misfitting, refuses, wanted_all, own_misfit, shape_of_term, none_own}
use Rattle.term_table.proofs.table.Table.check_shape.Goals as goal

pub returns-then-not-count_fits-clause-err : goal.returns-then-not-count_fits-clause-err
returns-then-not-count_fits-clause-err c =
    let w = c.args.self.now in
    let s = c.args.shape.now in
    let h = have_all w c.is_table.ensures (args_of s) c.in_default.ensures.live in
    let n = c.count_arguments.ensures ∙ sym (have_length w (args_of s) h.0 h.1) in
    misfitting w s h.0 _ c.misfits.ensures.told (c.is_atom.ensures.operates c.if-is_atom.false) h.1 (record {
      misfit = bad_arity c.count_arguments.result;
      is = (n, ap (count_fits (row_of (operator s) h.0)) n ∙ sym (c.count_fits.ensures h.0 h.1) ∙ c.if-not-count_fits.true);
      tells = refl;
    })

pub returns-in-Some-wrong_type-clause-err : goal.returns-in-Some-wrong_type-clause-err
returns-in-Some-wrong_type-clause-err c =
    let w = c.args.self.now in
    let s = c.args.shape.now in
    let h = have_all w c.is_table.ensures (args_of s) c.in_default.ensures.live in
    let count = sym (c.count_fits.ensures h.0 h.1) ∙ c.if-not-count_fits.false in
    refuses w s c.in-Some-wrong_type.e (misfitting w s h.0 c.in-Some-wrong_type.e c.misfits.ensures.told (c.is_atom.ensures.operates c.if-is_atom.false) h.1 (c.in-Some-wrong_type.ensures.some h.0 h.1 count))

pub returns-in-Some-uneven_width-clause-err : goal.returns-in-Some-uneven_width-clause-err
returns-in-Some-uneven_width-clause-err c =
    let w = c.args.self.now in
    let s = c.args.shape.now in
    let h = have_all w c.is_table.ensures (args_of s) c.in_default.ensures.live in
    let count = sym (c.count_fits.ensures h.0 h.1) ∙ c.if-not-count_fits.false in
    refuses w s c.in-Some-uneven_width.e (misfitting w s h.0 c.in-Some-uneven_width.e c.misfits.ensures.told (c.is_atom.ensures.operates c.if-is_atom.false) h.1 (c.in-Some-uneven_width.ensures.some h.0 h.1 (wanted_all (row_of (operator s) h.0) h.0 count (c.in_default-wrong_type.ensures.none h.0 h.1))))

pub returns-in-Some-own_refusal-clause-err : goal.returns-in-Some-own_refusal-clause-err
returns-in-Some-own_refusal-clause-err c =
    let w = c.args.self.now in
    let s = c.args.shape.now in
    let h = have_all w c.is_table.ensures (args_of s) c.in_default.ensures.live in
    let count = sym (c.count_fits.ensures h.0 h.1) ∙ c.if-not-count_fits.false in
    refuses w s c.in-Some-own_refusal.e (misfitting w s h.0 c.in-Some-own_refusal.e c.misfits.ensures.told (c.is_atom.ensures.operates c.if-is_atom.false) h.1 (own_misfit w s h.0 c.in-Some-own_refusal.e (wanted_all (row_of (operator s) h.0) h.0 count (c.in_default-wrong_type.ensures.none h.0 h.1)) (c.in_default-uneven_width.ensures.none h.0 h.1) (c.in-Some-own_refusal.ensures h.0 h.1)))

pub returns-clause-ok : goal.returns-clause-ok
returns-clause-ok c =
    let w = c.args.self.now in
    let s = c.args.shape.now in
    let h = have_all w c.is_table.ensures (args_of s) c.in_default.ensures.live in
    let count = sym (c.count_fits.ensures h.0 h.1) ∙ c.if-not-count_fits.false in
    let operates = c.is_atom.ensures.operates c.if-is_atom.false in
    shape_of_term w s h.0 c.given.result c.misfits.ensures.typed c.misfits.ensures.told operates h.1 count (c.in_default-wrong_type.ensures.none h.0 h.1) (c.in_default-uneven_width.ensures.none h.0 h.1) (none_own w (out_in (operator s) h.0) (c.in_default-own_refusal.ensures h.0 h.1)) (λ k g. c.given.ensures h.0 k operates h.1 g)
