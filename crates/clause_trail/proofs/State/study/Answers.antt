use Rattle.std.proofs.Common.{subst, refl}
use Rattle.clause_logic.specs.declared.Lit.{Lit}
use Rattle.clause_trail.specs.View.{lists_of}
use Rattle.clause_trail.specs.Steps.{Ways}
use Rattle.clause_trail.proofs.Seeking.{stays_one, stays_true}
use Rattle.clause_trail.proofs.State.study.Goals as goal

pub returns-then-same : goal.returns-then-same
returns-then-same c =
    stays_one (lists_of c.args.self.now) c.args.falsified c.args.c c.requires.base c.requires.now c.pair_at-pair.result c.pair_at-pair.ensures
    (subst (λ (l : Lit). Ways c.pair_at-pair.result c.args.falsified l) (c.if-same.ensures.0 refl) c.in-Some.ensures.some)

pub standing-requires : goal.standing-requires
standing-requires c =
    c.requires.base.known c.args.c c.lits_at-lits.result.now c.in-Some.other c.lits_at-lits.ensures
    (c.requires.base.member c.args.c c.lits_at-lits.result.now c.pair_at-pair.result c.in-Some.other c.lits_at-lits.ensures c.pair_at-pair.ensures c.in-Some.ensures.some.watched)

pub replacement-requires : goal.replacement-requires
replacement-requires c = λ l h. c.requires.base.known c.args.c c.lits_at-lits.result.now l c.lits_at-lits.ensures h

pub replacement-requires-in-False : goal.replacement-requires-in-False
replacement-requires-in-False c = λ l h. c.requires.base.known c.args.c c.lits_at-lits.result.now l c.lits_at-lits.ensures h

pub returns-in-True : goal.returns-in-True
returns-in-True c =
    stays_true (lists_of c.args.self.now) c.args.falsified c.args.c c.requires.base c.requires.now c.pair_at-pair.result c.in-Some.other c.pair_at-pair.ensures c.in-Some.ensures.some.watched c.in-True.ensures
