use Rattle.std.proofs.Common.{sym, ap, ◌∙◌, length, take}
use Rattle.std.proofs.lemmas.List.{length-map}
use Rattle.simplex_core.specs.Content.{Content}
use Rattle.simplex_core.proofs.simplex.Simplex.marks.Goals as goal

pub returns : goal.returns
returns c =
    c.len.ensures ∙ c.self.inside.marks.ok.0 ∙ sym (length-map c.self.inside.marks.items (λ m. take m c.self.inside.bounds.items)) ∙ ap (λ (o : Content). length o.saved) c.self.view_is
