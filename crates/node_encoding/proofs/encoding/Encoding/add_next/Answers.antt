use Rattle.std.proofs.Common.{◌≡◌, ◌∙◌, ◌++◌, ◌∷◌, [], refl, sym, subst, length, Some, ap, arith}
use Rattle.std.proofs.lemmas.Option.{slice_get_read}
use Rattle.node_encoding.specs.Encoding.{encoded_of, with_lit, Encodes, AreConstants}
use Rattle.node_encoding.proofs.Steps.{same_encoded, encodes_next}
use Rattle.node_encoding.proofs.Placing.{constants_one, constants_other}
use Rattle.node_encoding.proofs.encoding.Encoding.add_next.Goals as goal
use Rattle.node_encoding.proofs.encoding.Encoding.add_next.Goals.{in-Const+in_ok-insert, in_default}

pub returns-clause-encodes : goal.returns-clause-encodes
returns-clause-encodes c =
    let nodes = c.args.nodes.now in
    let e = encoded_of c.args.self.now in
    let new = encoded_of c.literal_for.new.self in
    let whole = encoded_of (record { search = c.literal_for.new.self.search; origins = c.literal_for.new.self.origins; lits = c.push.new.self; alloc = c.literal_for.new.self.alloc }) in
    let same : whole ≡ with_lit new c.in_ok-lit.lit = same_encoded whole (with_lit new c.in_ok-lit.lit) refl c.in_ok-push.ensures.items refl in
    let at : c.len-k.result ≡ length e.lits = omega (arith, c.len-k.ensures, c.args.self.now.lits.ok.0) in
    record {
      encodes = subst (Encodes nodes) (sym same) (encodes_next nodes c.requires.formed e new c.in_ok-lit.lit c.len-k.result c.requires.encodes.encodes at (omega (arith, at, c.requires.more)) c.in_ok-lit.ensures.next);
      vars = c.in_ok-lit.ensures.vars;
    }

pub returns-clause-constants : goal.returns-clause-constants
returns-clause-constants c =
    let nodes = c.args.nodes.now in
    let k = c.len-k.result in
    let lits = c.args.self.now.lits.items in
    let l = c.in_ok-lit.lit in
    let at : k ≡ length lits = omega (arith, c.len-k.ensures, c.args.self.now.lits.ok.0) in
    let here = slice_get_read nodes (length nodes) k c.index-nodes-k.result refl (omega (arith, at, c.requires.more)) c.index-nodes-k.is in
    let pushed = c.in_ok-push.ensures.items ∙ ap (λ w. w ++ l ∷ []) c.in_ok-lit.ensures.next.lits in
    subst (λ w. AreConstants nodes w c.match-nodes-k.constants.entries) (sym pushed)
    (elim c.match-nodes-k.branch [
      | in-Const+in_ok-insert w ↦ subst (λ m. AreConstants nodes (lits ++ l ∷ []) m.entries) (sym w.constants-is) (constants_one nodes lits l k at c.args.constants.now.entries c.requires.constants w.insert.new.self.entries w.in-Const.number (here ∙ ap Some w.in-Const.is) w.in_ok-insert.ensures.updates.0)
      | in_default w ↦ subst (λ m. AreConstants nodes (lits ++ l ∷ []) m.entries) (sym w.constants-is) (constants_other nodes lits l k at c.args.constants.now.entries c.requires.constants c.index-nodes-k.result here w.in_default.not-Const)
    ])
