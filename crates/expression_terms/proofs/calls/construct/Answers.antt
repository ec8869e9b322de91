use Rattle.std.proofs.Common.{◌∙◌, sym, subst}
use Rattle.expression_terms.specs.Building.{TellsCause}
use Rattle.expression_terms.proofs.Outcomes.{adds_none, adds_by}
use Rattle.expression_terms.proofs.Calling.{not_begun, empty_unbuilt, call_built, refused_past, refused_unbuilt}
use Rattle.expression_terms.proofs.calls.construct.Goals as goal

pub returns-then-is_empty_call-clause-refused : goal.returns-then-is_empty_call-clause-refused
returns-then-is_empty_call-clause-refused c s w es start word truths all =
    empty_unbuilt s c.args.place w es c.known.ensures truths start c.args.env.now.table c.is_world.ensures.table c.args.operator
    word c.args.arguments.now all c.args.env.now (c.is_empty_call.ensures.yes c.if-is_empty_call.true)

pub returns-then-is_empty_call-clause-past : goal.returns-then-is_empty_call-clause-past
returns-then-is_empty_call-clause-past c s w es start word truths all = not_begun s c.args.place w es start c.args.env.now.table c.args.arguments.now all

pub returns-in-Ok-clause-built : goal.returns-in-Ok-clause-built
returns-in-Ok-clause-built c s w es start word truths all =
    call_built s c.args.place w es c.known.ensures truths start c.args.env.now.table c.is_world.ensures.table c.args.operator
    word c.args.arguments.now all (λ e. absurd (cc (sym (c.is_empty_call.ensures.no e) ∙ c.if-is_empty_call.false)))
    c.build_term.new.self.table c.is_world-in-Ok.ensures.table c.in-Ok.t c.in-Ok.ensures.built c.in-Ok.ensures.grown c.in-Ok.ensures.below

pub returns-in-Err-clause-refused : goal.returns-in-Err-clause-refused
returns-in-Err-clause-refused c s w es start word truths all =
    refused_unbuilt s c.args.place w es c.known.ensures truths start c.args.env.now.table c.is_world.ensures.table c.args.operator
    word c.args.arguments.now all (λ e. absurd (cc (sym (c.is_empty_call.ensures.no e) ∙ c.if-is_empty_call.false)))
    c.build_term.new.self c.in-Err.error c.refusal_of.result c.in-Err.ensures.refused c.in-Err.ensures.fit
    (subst (λ z. TellsCause z c.args.place c.in-Err.error c.refusal_of.result) c.table.ensures c.refusal_of.ensures)

pub returns-in-Err-clause-past : goal.returns-in-Err-clause-past
returns-in-Err-clause-past c s w es start word truths all =
    refused_past s c.args.place w es c.known.ensures truths start c.args.env.now.table c.is_world.ensures.table c.args.operator
    word c.args.arguments.now all (λ e. absurd (cc (sym (c.is_empty_call.ensures.no e) ∙ c.if-is_empty_call.false)))
    c.build_term.new.self.table c.in-Err.ensures.fit c.build_term.ensures.grown

pub returns-then-is_empty_call-clause-grown : goal.returns-then-is_empty_call-clause-grown
returns-then-is_empty_call-clause-grown c = adds_none c.args.env.now.table

pub returns-in-Ok-clause-grown : goal.returns-in-Ok-clause-grown
returns-in-Ok-clause-grown c = adds_by _ c.args.env.now.table c.build_term.new.self.table c.build_term.ensures.grown

pub returns-in-Err-clause-grown : goal.returns-in-Err-clause-grown
returns-in-Err-clause-grown c = adds_by _ c.args.env.now.table c.build_term.new.self.table c.build_term.ensures.grown
