use Rattle.std.proofs.Common.{◌≡◌, [], Some, subst}
use Rattle.std.proofs.lemmas.Result.{err_from_is_err_and}
use Rattle.yices_commands.specs.Plain.{plain_literal}
use Rattle.expression_terms.specs.Building.{IsMissing, named_in, term_named}
use Rattle.expression_terms.proofs.Signs.{literal_missing, literal_unchanged, literal_plain, negated_or, negated_adds}
use Rattle.expression_terms.proofs.literals.build_literal.Goals as goal

pub returns-in_err-t-clause-built : goal.returns-in_err-t-clause-built
returns-in_err-t-clause-built c =
    let p = err_from_is_err_and c.from_residual.result c.from_residual.ensures.1 in
    rw (p.1, p.2) (literal_missing (plain_literal c.args.literal.now) (named_in c.args.env.now.table []) c.args.env.now _
    (subst (λ w. IsMissing (named_in w []) c.args.literal.now.name_place c.args.literal.now.name c.in_err-t.field-0.0) c.table.ensures c.in_err-t.ensures.missing))

pub returns-in_err-t-clause-adds : goal.returns-in_err-t-clause-adds
returns-in_err-t-clause-adds c = literal_unchanged (plain_literal c.args.literal.now) (named_in c.args.env.now.table []) c.args.env.now

pub returns-then-literal-clause-built : goal.returns-then-literal-clause-built
returns-then-literal-clause-built c =
    literal_plain (plain_literal c.args.literal.now) (named_in c.args.env.now.table []) c.args.env.now c.in_ok-t.t
    (subst (λ w. term_named (named_in w []) c.args.literal.now.name ≡ Some c.in_ok-t.t) c.table.ensures c.in_ok-t.ensures.found) c.if-literal.true

pub returns-then-literal-clause-adds : goal.returns-then-literal-clause-adds
returns-then-literal-clause-adds c = literal_unchanged (plain_literal c.args.literal.now) (named_in c.args.env.now.table []) c.args.env.now

pub returns-clause-built : goal.returns-clause-built
returns-clause-built c =
    negated_or (plain_literal c.args.literal.now) (named_in c.args.env.now.table []) c.args.env.now c.in_ok-t.t
    (subst (λ w. term_named (named_in w []) c.args.literal.now.name ≡ Some c.in_ok-t.t) c.table.ensures c.in_ok-t.ensures.found) c.if-literal.false c.construct.new.env c.construct.result
    c.construct.ensures.built c.construct.ensures.refused

pub returns-clause-adds : goal.returns-clause-adds
returns-clause-adds c =
    negated_adds (plain_literal c.args.literal.now) (named_in c.args.env.now.table []) c.args.env.now c.in_ok-t.t
    (subst (λ w. term_named (named_in w []) c.args.literal.now.name ≡ Some c.in_ok-t.t) c.table.ensures c.in_ok-t.ensures.found) c.if-literal.false c.construct.new.env c.construct.result
    c.construct.ensures.built c.construct.ensures.past c.construct.ensures.contexts
