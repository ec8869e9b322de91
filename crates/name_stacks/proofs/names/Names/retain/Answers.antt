use Rattle.std.proofs.Common.{rules, ◌∙◌, ap, sym, map}
use Rattle.std.proofs.lemmas.Fn.{filter_same}
use Rattle.std.specs.Prelude.{string_bytes, ℕ, List}
use Rattle.std.specs.List.{filter}
use Rattle.name_stacks.specs.Heads.{shown, passing}
use Rattle.name_stacks.specs.declared.names.Pair.{Pair}
use Rattle.name_stacks.proofs.Naming.{filter_map}
use Rattle.name_stacks.proofs.Heading.{unchanged}
use Rattle.name_stacks.proofs.names.Names.retain.Goals as goal

pub invariant_of-self-inside : goal.invariant_of-self-inside
invariant_of-self-inside g c = (
  unchanged c.drop_failing.new.heads (passing (g.T.Keeps.passes c.args.test.now) (shown c.deref-2.result.now)) (shown c.retain.new.self.items) c.drop_failing.ensures (ap shown (filter_same _ (λ (p : Pair g.row.H.Denot). g.T.Keeps.passes c.args.test.now p.of) _ (λ x b f' k. search rules) _ _ c.retain.ensures.filtered) ∙ filter_map (λ (p : Pair g.row.H.Denot). (string_bytes p.name, p.of)) (λ (p : List ℕ × g.row.H.Denot). g.T.Keeps.passes c.args.test.now p.1) c.self.inside.pairs.items ∙ ap (λ z. passing (g.T.Keeps.passes c.args.test.now) (shown z)) (sym c.deref-2.ensures.value)),
  tt,
)

pub returns : goal.returns
returns g c =
    ap (map (λ (p : Pair g.row.H.Denot). (string_bytes p.name, p.of))) (filter_same _ (λ (p : Pair g.row.H.Denot). g.T.Keeps.passes c.args.test.now p.of) _ (λ x b f' k. search rules) _ _ c.retain.ensures.filtered) ∙ filter_map (λ (p : Pair g.row.H.Denot). (string_bytes p.name, p.of)) (λ (p : List ℕ × g.row.H.Denot). g.T.Keeps.passes c.args.test.now p.1) c.self.inside.pairs.items ∙ ap (filter (λ (p : List ℕ × g.row.H.Denot). g.T.Keeps.passes c.args.test.now p.1)) c.self.view_is
