use Rattle.std.proofs.Common.{subst, List}
use Rattle.clause_logic.specs.declared.Lit.{Lit}
use Rattle.clause_trail.specs.Words.{Has}
use Rattle.clause_trail.proofs.State.add_clause.Goals as goal

pub seek-requires : goal.seek-requires
seek-requires c = λ l h. c.requires.known l (subst (λ (ls : List Lit). Has ls l) c.as_slice.ensures h)

pub replacement-requires : goal.replacement-requires
replacement-requires c = λ l h. c.requires.known l (subst (λ (ls : List Lit). Has ls l) c.as_slice-2.ensures h)
