use Rattle.clause_trail.specs.View.{lists_of}
use Rattle.clause_search.proofs.Loads.{root_var}
use Rattle.clause_search.proofs.loading.empty_state.Goals as goal

pub loop-number-preserved : goal.loop-number-preserved
loop-number-preserved c =
    root_var (lists_of c.loop-number.state) (lists_of c.new_var.new.self) c.loop-number.number c.loop-number.invariant c.new_var.ensures.sound c.new_var.ensures.starts c.in_ok-new_var.ensures.values c.new_var.ensures.clauses
