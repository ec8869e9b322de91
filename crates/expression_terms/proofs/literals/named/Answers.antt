use Rattle.std.proofs.Common.{◌≡◌, Some, ap, subst}
use Rattle.std.specs.Prelude.{IfOk, IfErr}
use Rattle.expression_terms.specs.Building.{named_in, term_named, IsMissing}
use Rattle.expression_terms.proofs.literals.named.Goals as goal

pub returns-clause-found : goal.returns-clause-found
returns-clause-found c = subst (λ ns. IfOk c.find.result (λ t. term_named ns c.args.literal.now.name ≡ Some t)) (ap (named_in c.args.table.now) c.new-names.ensures) c.find.ensures.found

pub returns-clause-missing : goal.returns-clause-missing
returns-clause-missing c = subst (λ ns. IfErr c.find.result (IsMissing ns c.args.literal.now.name_place c.args.literal.now.name)) (ap (named_in c.args.table.now) c.new-names.ensures) c.find.ensures.missing
