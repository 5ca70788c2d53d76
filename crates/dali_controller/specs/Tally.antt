use Rattle.std.specs.Prelude.{ℕ, ◌+◌, nat_lt, Bool, true, false, [], ◌∷◌, Some, None}
use Rattle.std.specs.Prelude.{if◌then◌else◌, slice_set}
use Rattle.dali_frame.specs.Random.{MASK24}
use Rattle.dali_controller.specs.declared.tally.Passed.{Passed}
use Rattle.dali_controller.specs.declared.tally.Tally.{Tally}

-- WHAT A SURVEY COUNTS.

-- no gear was passed over
abbrev pub none_passed : Passed
none_passed = record {
  numbers =
      MASK24 ∷ MASK24 ∷ MASK24 ∷ MASK24 ∷ MASK24 ∷ MASK24 ∷ MASK24 ∷ MASK24 ∷ [];
  count = 0;
}

-- one more was: the first eight are known by number
abbrev pub with_passed : Passed → ℕ → Passed
with_passed p r = record {
  numbers = if nat_lt p.count 8 then slice_set p.numbers p.count r else p.numbers;
  count = if nat_lt p.count 255 then p.count + 1 else p.count;
}

abbrev pub is_some_passed : Passed → Bool
is_some_passed p = nat_lt 0 p.count

-- as a survey begins
abbrev pub uncounted : Tally
uncounted = record {
  draws = 0;
  is_silent = false;
  is_heard = false;
  calls = 0;
  askings = 0;
  is_missed = false;
  failed = None;
  passed = none_passed;
}

-- a visit succeeded
abbrev pub served : Tally → Tally
served t = record t { calls = 0; failed = None; passed = none_passed }

-- a roll call was silent, or heard gear: the second in a row ends the survey
abbrev pub silent_call : Tally → Tally
silent_call t = record t { is_silent = true }

abbrev pub heard_call : Tally → Tally
heard_call t = record t {
  is_silent = false;
  is_heard = true;
  calls = if nat_lt t.calls 3 then t.calls + 1 else t.calls;
}

-- gear draw new random addresses, or draw them for the last time: then all is counted anew
abbrev pub drew : Tally → Tally
drew t = record t { draws = t.draws + 1; is_heard = false }

abbrev pub drew_at_last : Tally → Tally
drew_at_last t = record t {
  draws = 3;
  is_silent = false;
  is_heard = false;
  calls = 0;
  failed = None;
  passed = none_passed;
}

-- short addresses are asked again, before the block is full
abbrev pub asked_again : Tally → Tally
asked_again t = record t { askings = t.askings + 1 }

-- the visit of a number failed, for the first time, and for the second in a row
abbrev pub missed_by : Tally → ℕ → Tally
missed_by t r = record t { is_missed = true; failed = Some r }

abbrev pub passed_over : Tally → ℕ → Tally
passed_over t r = record t { is_missed = true; failed = None; passed = with_passed t.passed r }
