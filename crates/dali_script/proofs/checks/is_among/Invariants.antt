use Rattle.dali_script.proofs.Befores.{Searched}
use Rattle.dali_script.proofs.checks.is_among.Given as goal

abbrev pub invariant-loop-at : goal.invariant-loop-at
invariant-loop-at l = Searched l.before l.wanted.1 l.at

abbrev pub decreases-loop-at : goal.decreases-loop-at
decreases-loop-at l = l.at
