use Rattle.std.specs.Prelude.{ℕ, Bool, true, false, List, map, Option, Some, None}
use Rattle.dali_controller.specs.declared.tally.Tally.{Tally}
use Rattle.dali_c.specs.Codes.{bool_of, rolls_of}
use Rattle.dali_c.specs.Pairs.{random_of}
use Rattle.dali_c.specs.declared.pairs.PlainRandom.{PlainRandom}
use Rattle.dali_c.specs.declared.tallies.PlainTally.{PlainTally}

-- what a survey has counted: the number whose visit failed last is named if one did
abbrev pub numbers_of : List PlainRandom → List ℕ
numbers_of bytes = map random_of bytes

abbrev pub failed_of : Bool → PlainRandom → Option ℕ
failed_of true failed = Some (random_of failed)
failed_of false failed = None

abbrev pub tally_with : PlainTally → Bool × Bool → Bool → Bool → Tally
tally_with p rolls is_missed has_failed = record {
  draws = p.draws;
  is_silent = rolls.0;
  is_heard = rolls.1;
  calls = p.calls;
  askings = p.askings;
  is_missed = is_missed;
  failed = failed_of has_failed p.failed;
  passed = record { numbers = numbers_of p.passed; count = p.passed_count };
}

abbrev pub tally_by : PlainTally → Option (Bool × Bool) → Option Bool → Option Bool → Option Tally
tally_by p (Some rolls) (Some is_missed) (Some has_failed) =
    Some (tally_with p rolls is_missed has_failed)
tally_by p _ _ _ = None

abbrev pub tally_of : PlainTally → Option Tally
tally_of p = tally_by p (rolls_of p.rolls) (bool_of p.is_missed) (bool_of p.has_failed)
