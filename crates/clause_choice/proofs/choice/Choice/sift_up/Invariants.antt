use Rattle.clause_choice.proofs.choice.Choice.sift_up.Given as goal

abbrev pub decreases-loop-place : goal.decreases-loop-place
decreases-loop-place l = l.place
