use Rattle.std.proofs.Common.{◌<◌, All, take}
use Rattle.dali_events.proofs.used.all_short.Given as goal

abbrev pub invariant-loop-at : goal.invariant-loop-at
invariant-loop-at l = All (λ u. u.short < 64) (take l.at l.used)
