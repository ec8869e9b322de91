use Rattle.std.proofs.Common.{◌<◌, arith, subst}
use Rattle.clause_logic.specs.Clauses.{Models, Listed}
use Rattle.clause_gates.proofs.Growth.{models_front}
use Rattle.bit_blast.proofs.laws.words_stay.Goals as goal

pub returns : goal.returns
returns c = λ a b w ls f g h. record {
  count = h.count;
  known = λ l i. let below : l.var < a.vars = h.known l i in omega (arith, below, g.vars);
  is = λ s m. h.is s (models_front s a.clauses g.added (subst (λ cs. Models s (Listed cs)) g.clauses m));
}
