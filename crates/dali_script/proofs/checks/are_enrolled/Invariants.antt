use Rattle.std.proofs.Common.{take}
use Rattle.dali_script.specs.{Pairs.AreBefore, Pairs.AreLast, Records.AreEnrolled, Records.Marks}
use Rattle.dali_script.proofs.checks.are_enrolled.Given as goal

-- those that were looked at
pub record Looked (l : goal.Live-loop-place) : Type 0 where
  pub before : AreEnrolled (take l.place l.pairs)
  pub taken : Marks (take l.place l.pairs) l.taken
  pub befores : AreBefore l.pairs l.place l.befores
  pub lasts : AreLast l.pairs l.place l.lasts

abbrev pub invariant-loop-place : goal.invariant-loop-place
invariant-loop-place l = Looked l
