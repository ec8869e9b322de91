use Rattle.std.proofs.Common.{◌≡◌, ◌∙◌, ◌++◌, ◌∷◌, [], sym, ap, get_or}
use Rattle.clause_logic.specs.Clauses.{opposite}
use Rattle.node_encoding.specs.Encoding.{assumed_at, lit_at}
use Rattle.node_encoding.proofs.Gets.{map_more}
use Rattle.node_encoding.proofs.Placing.{no_node_lit, read_lit, slice_get_here, turned_is, turned_is_not}
use Rattle.node_encoding.proofs.encoding.Encoding.node_lits.Goals as goal
use Rattle.node_encoding.proofs.encoding.Encoding.node_lits.Goals.{then-lit, else-lit}

pub loop-lit-preserved : goal.loop-lit-preserved
loop-lit-preserved c =
    let lits = c.args.lits.now in
    let i = c.loop-lit.lit-index in
    let lit = get_or lits i no_node_lit in
    let known = c.index-known.ensures ∙ read_lit c.args.self.now.lits.items lit.node _ (c.requires i no_node_lit c.loop-lit-test.true) in
    let pushed : assumed_at c.args.self.now.lits.items lit ≡ c.if-lit.push = elim c.if-lit.branch [
      | then-lit w ↦ turned_is lit.positive (lit_at c.args.self.now.lits.items lit.node) c.if-lit.push w.if-lit.true (w.push-is ∙ known)
      | else-lit w ↦ turned_is_not lit.positive (lit_at c.args.self.now.lits.items lit.node) c.if-lit.push w.if-lit.false (w.push-is ∙ w.opposite.ensures ∙ ap opposite known)
    ] in
    map_more (assumed_at c.args.self.now.lits.items) lits i lit c.loop-lit.turned.items c.push.new.self.items (slice_get_here lits i no_node_lit c.loop-lit-test.true) c.loop-lit.invariant
    (c.in_ok-push.ensures.items ∙ ap (λ l. c.loop-lit.turned.items ++ l ∷ []) (sym pushed))
