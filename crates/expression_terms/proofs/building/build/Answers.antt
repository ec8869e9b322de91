use Rattle.std.proofs.Common.{[], ap, subst}
use Rattle.std.specs.Prelude.{IfOk, IfErr}
use Rattle.yices_commands.specs.Plain.{plain}
use Rattle.expression_terms.specs.Building.{named_in}
use Rattle.expression_terms.specs.Outcomes.{Builds, Stops}
use Rattle.expression_terms.specs.Keeping.{AddsParts, StaysWithin}
use Rattle.expression_terms.proofs.Outcomes.{built_or, built_adds}
use Rattle.expression_terms.proofs.building.build.Goals as goal

pub returns-clause-built : goal.returns-clause-built
returns-clause-built c = built_or (named_in c.args.env.now.table []) c.args.env.now c.build_one.new.env (plain c.args.expr.now) c.build_one.result (subst (λ ns. IfOk c.build_one.result (Builds ns c.args.env.now c.build_one.new.env (plain c.args.expr.now))) (ap (named_in c.args.env.now.table) c.new-names.ensures) c.build_one.ensures.built) (subst (λ ns. IfErr c.build_one.result (Stops ns c.args.env.now c.build_one.new.env (plain c.args.expr.now))) (ap (named_in c.args.env.now.table) c.new-names.ensures) c.build_one.ensures.refused)

pub returns-clause-adds : goal.returns-clause-adds
returns-clause-adds c =
    built_adds (named_in c.args.env.now.table []) c.args.env.now c.build_one.new.env (plain c.args.expr.now) c.build_one.result (subst (λ ns. IfOk c.build_one.result (Builds ns c.args.env.now c.build_one.new.env (plain c.args.expr.now))) (ap (named_in c.args.env.now.table) c.new-names.ensures) c.build_one.ensures.built) (subst (λ ns. IfErr c.build_one.result (Stops ns c.args.env.now c.build_one.new.env (plain c.args.expr.now))) (ap (named_in c.args.env.now.table) c.new-names.ensures) c.build_one.ensures.refused) c.build_one.ensures.contexts

pub returns-clause-parts : goal.returns-clause-parts
returns-clause-parts c = subst (λ ns. IfOk c.build_one.result (λ t. AddsParts ns c.args.env.now.table c.build_one.new.env.table (plain c.args.expr.now) c.args.parts.now c.build_one.new.parts)) (ap (named_in c.args.env.now.table) c.new-names.ensures) c.build_one.ensures.parts

pub returns-clause-kept : goal.returns-clause-kept
returns-clause-kept c = subst (λ ns. IfOk c.build_one.result (StaysWithin ns c.args.env.now.table c.build_one.new.env.table c.build_one.new.parts (plain c.args.expr.now))) (ap (named_in c.args.env.now.table) c.new-names.ensures) c.build_one.ensures.kept
