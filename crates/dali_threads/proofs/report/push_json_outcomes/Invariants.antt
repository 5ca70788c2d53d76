use Rattle.std.proofs.Common.{◌≡◌, ◌++◌, string_bytes, drop}
use Rattle.dali_threads.specs.Json.{json_outcomes}
use Rattle.dali_threads.proofs.report.push_json_outcomes.Given as goal

abbrev pub invariant-loop-outcome : goal.invariant-loop-outcome
invariant-loop-outcome l = record {
  text : string_bytes l.text ++ json_outcomes l.c (drop l.outcome-index l.outcomes) ≡ string_bytes l.fn.text ++ json_outcomes 0 l.outcomes;
  number : l.c ≡ l.outcome-index;
}
