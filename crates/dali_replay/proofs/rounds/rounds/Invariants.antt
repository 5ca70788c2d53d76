use Rattle.std.proofs.Common.{◌≤◌, ◌-◌, string_bytes}
use Rattle.dali_replay.specs.{Rounds.Rounds, Text.Writes}
use Rattle.dali_replay.proofs.rounds.rounds.Given as goal

abbrev pub invariant-loop-played : goal.invariant-loop-played
invariant-loop-played l = record {
  rounds : Writes (string_bytes l.fn.text) (string_bytes l.text) (λ more. Rounds l.fn.installation l.played l.frames more l.installation);
  few : l.frames ≤ l.played;
  most : l.played ≤ l.limit;
}

abbrev pub decreases-loop-played : goal.decreases-loop-played
decreases-loop-played l = l.limit - l.played
