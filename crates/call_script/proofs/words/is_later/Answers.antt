use Rattle.std.proofs.Common.{◌∙◌, ap, ℕ, List, Bor}
use Rattle.std.specs.List.{list_any}
use Rattle.std.specs.Str.{bytes_eq}
use Rattle.call_script.proofs.words.is_later.Goals as goal

pub returns : goal.returns
returns c = c.is_one_of.ensures ∙ ap (λ (ws : List (Bor (List ℕ))). list_any (λ w. bytes_eq c.args.word.now w.now) ws) c.as_slice.ensures
