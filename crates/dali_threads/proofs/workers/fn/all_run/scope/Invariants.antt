use Rattle.std.specs.Prelude.{◌≡◌, ℕ, ◌+◌, ◌<◌, ◌≤◌, get_or, vec_items, vec_len, vec_capacity}
use Rattle.std.specs.Vec.Iter.{into_iter_items, into_iter_len}
use Rattle.dali_threads.proofs.workers.fn.all_run.scope.Given as goal

abbrev pub invariant-loop-port : goal.invariant-loop-port
invariant-loop-port g l =
    let done = vec_len l.workers in let rest = l.port-iterator in let first = l.initial.port-iterator in
    (done + into_iter_len rest ≡ into_iter_len first)
    × ((k : ℕ) (d : _) → k < into_iter_len rest → get_or (into_iter_items rest) k d ≡ get_or (into_iter_items first) (done + k) d)
    × ((k : ℕ) (w : _) (d : _) → k < done → let p = (get_or (vec_items l.workers) k w).promise in
    (p.port.value ≡ get_or (into_iter_items first) k d) × (p.bus.value ≡ l.bus) × (p.turns ≡ l.turns) × (p.surveys ≡ l.surveys))
    × (into_iter_len first ≤ vec_capacity l.workers)
