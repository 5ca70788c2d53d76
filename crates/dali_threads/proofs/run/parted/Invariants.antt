use Rattle.std.specs.Prelude.{◌≡◌, ℕ, ◌+◌, ◌≤◌, map, length}
use Rattle.std.specs.Vec.Iter.{into_iter_len}
use Rattle.dali_threads.proofs.run.parted.Given as goal

abbrev pub invariant-loop-outcome : goal.invariant-loop-outcome
invariant-loop-outcome g l = record {
  outcomes : l.outcomes.items ≡ map (λ e. e.0) l.yielded;
  ports : l.ports.items ≡ map (λ e. e.1) l.yielded;
  room : length l.yielded + into_iter_len l.outcome-iterator ≤ 4;
}
