use Rattle.call_script.proofs.Lawful.{says_judged, says_once, calls_formed}
use Rattle.call_script.proofs.CallWords.{words_differ}
use Rattle.call_script.proofs.laws.a_line_says_one_thing.Goals as goal

pub returns : goal.returns
returns c = record { computed = says_judged; one = says_once; words = words_differ; forms = calls_formed }
