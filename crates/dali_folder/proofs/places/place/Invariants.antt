use Rattle.std.proofs.Common.{ℕ, string_bytes, ◌≤◌}
use Rattle.dali_folder.specs.Lying.{AreLed}
use Rattle.dali_folder.proofs.places.place.Given as goal

abbrev pub invariant-loop : goal.invariant-loop
invariant-loop g l = (links : ℕ) × (links ≤ l.counter) × AreLed links l.fn.name (string_bytes l.at)
