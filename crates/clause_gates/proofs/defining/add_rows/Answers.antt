use Rattle.std.proofs.Common.{◌∙◌, ◌<◌, get_or, List, [], ◌∷◌, ◌++◌, sym, ap, subst, append-nil, arith}
use Rattle.clause_logic.specs.declared.Lit.{Lit}
use Rattle.clause_search.specs.Content.{Stacked}
use Rattle.clause_gates.proofs.Growth.{rows_more, rows_all, row_known}
use Rattle.clause_gates.proofs.defining.add_rows.Goals as goal

pub loop-row-init : goal.loop-row-init
loop-row-init c = ap (λ (cs : List (List Lit)). let x : Stacked = record { content = record { vars = c.args.search.now.content.vars; clauses = cs }; saved = c.args.search.now.saved } in x) (sym (append-nil c.args.search.now.content.clauses))

pub add_clause-requires : goal.add_clause-requires
add_clause-requires c = λ l h.
    subst (λ (x : Stacked). l.var < x.content.vars) (sym c.loop-row.invariant) (row_known c.args.search.now.content.vars c.args.rows.now c.loop-row.row-index _ l c.requires (omega arith) h)

pub returns-in_err-add_clause-clause-some : goal.returns-in_err-add_clause-clause-some
returns-in_err-add_clause-clause-some c = (c.loop-row.row-index, c.in_err-add_clause.ensures.err ∙ c.loop-row.invariant)

pub loop-row-preserved : goal.loop-row-preserved
loop-row-preserved c =
    c.in_ok-add_clause.ensures.ok
    ∙ ap (λ (x : Stacked). let y : Stacked = record { content = record { vars = x.content.vars; clauses = x.content.clauses ++ (get_or c.args.rows.now c.loop-row.row-index (record { ref_ptr = (0, 0); now = [] })).now ∷ [] }; saved = x.saved } in y) c.loop-row.invariant
    ∙ sym (rows_more c.args.search.now c.args.rows.now c.loop-row.row-index _ (omega arith))

pub returns-clause-some : goal.returns-clause-some
returns-clause-some c = (c.loop-row.row-index, c.loop-row.invariant)

pub returns-clause-ok : goal.returns-clause-ok
returns-clause-ok c = c.loop-row.invariant ∙ rows_all c.args.search.now c.args.rows.now c.loop-row.row-index (omega arith)
