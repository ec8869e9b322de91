use Rattle.clause_logic.specs.Clauses.{Listed}
use Rattle.clause_logic.proofs.Newness.{new_fewer}
use Rattle.clause_logic.proofs.Weakening.{new_weaker}
use Rattle.clause_logic.proofs.laws.strength.Goals as goal

pub returns : goal.returns
returns c = record {
  fewer = λ fewer more. new_fewer (Listed fewer) (Listed more);
  weaker = λ weak strong image name d turn some imitates. new_weaker (Listed weak) (Listed strong) image name turn some imitates d;
}
