use Rattle.std.proofs.Common.{◌≡◌, true, false}
use Rattle.dali_commission_files.specs.Logs.{EndsBetween, BeginsBehind}
use Rattle.dali_commission_files.proofs.log.begins_behind.Given as goal

abbrev pub invariant-loop-i : goal.invariant-loop-i
invariant-loop-i l =
    (l.is_ended ≡ true → EndsBetween l.fn.head l.fn.size l.fn.frames l.fn.from l.i)
    × (l.is_ended ≡ false → EndsBetween l.fn.head l.fn.size l.fn.frames l.fn.from l.i → ⊥)
    × (BeginsBehind l.fn.head l.fn.size l.fn.frames l.fn.from l.i → ⊥)
