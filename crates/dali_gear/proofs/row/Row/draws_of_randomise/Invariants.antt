use Rattle.std.proofs.Common.{◌≡◌, ◌≤◌, ◌+◌, drop}
use Rattle.dali_special.specs.declared.command.Command.TheVariants.{Randomise}
use Rattle.dali_gear.specs.Row.{draws_needed}
use Rattle.dali_gear.proofs.row.Row.draws_of_randomise.Given as goal

abbrev pub invariant-loop-number : goal.invariant-loop-number
invariant-loop-number l = record {
  so_far : l.needed + draws_needed l.reach Randomise l.number (drop l.number l.self) ≡ draws_needed l.reach Randomise 0 l.self;
  few : l.needed ≤ l.number;
}
