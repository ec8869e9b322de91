use Rattle.term_texts.proofs.Trees.{live_text, same_text}
use Rattle.term_texts.proofs.laws.one_text.Goals as goal

pub returns-clause-has : goal.returns-clause-has
returns-clause-has c = live_text

pub returns-clause-one : goal.returns-clause-one
returns-clause-one c = same_text
