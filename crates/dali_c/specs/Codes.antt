use Rattle.std.specs.Prelude.{ℕ, Bool, true, false, ◌==◌, Option, Some, None, option_map}
use Rattle.std.specs.Prelude.{if◌then◌else◌}
use Rattle.dali_frame.specs.declared.frames.Answer.{Answer}
use Rattle.dali_frame.specs.declared.frames.Answer.TheVariants.{Silence, Byte, Damaged}
use Rattle.dali_script.specs.declared.orders.Input.{Input}
use Rattle.dali_script.specs.declared.orders.Input.TheVariants as input
use Rattle.dali_script.specs.declared.orders.Due.{Due}
use Rattle.dali_script.specs.declared.orders.Due.TheVariants as due
use Rattle.dali_script.specs.declared.sending.Half.{Half}
use Rattle.dali_script.specs.declared.sending.Half.TheVariants.{Whole, First, Second}

-- THE CODES, as the header has them.

-- what was heard: DALI_HEARD_SILENCE, DALI_HEARD_BYTE with the byte, DALI_HEARD_DAMAGED
abbrev pub answer_of : ℕ → ℕ → Option Answer
answer_of c byte =
    if c == 1 then Some Silence else
    (if c == 2 then Some (Byte byte) else
    (if c == 3 then Some Damaged else None))

-- what else a machine is told: DALI_START, DALI_DESTROYED to DALI_SURVEY
abbrev pub told_of : ℕ → Option Input
told_of c =
    if c == 0 then Some input.Start else
    (if c == 4 then Some input.Destroyed else
    (if c == 5 then Some input.Lapsed else
    (if c == 6 then Some input.Committed else
    (if c == 7 then Some input.CommitFailed else
    (if c == 8 then Some input.Survey else None)))))

abbrev pub or_else : Option Input → Option Input → Option Input
or_else (Some i) _ = Some i
or_else None o = o

abbrev pub input_of : ℕ → ℕ → Option Input
input_of c byte = or_else (told_of c) (option_map (λ h. input.Heard h) (answer_of c byte))

-- enum dali_due
abbrev pub due_code : Due → ℕ
due_code due.Start = 0
due_code due.Bus = 1
due_code due.Store = 2
due_code due.Nothing = 3

-- enum dali_half
abbrev pub half_code : Half → ℕ
half_code Whole = 0
half_code First = 1
half_code Second = 2

abbrev pub bool_of : ℕ → Option Bool
bool_of c =
    if c == 0 then Some false else
    (if c == 1 then Some true else None)

-- of roll calls: whether the last one was silent, and whether one heard gear since the last draw
abbrev pub rolls_of : ℕ → Option (Bool × Bool)
rolls_of c =
    if c == 0 then Some (false, false) else
    (if c == 1 then Some (true, false) else
    (if c == 2 then Some (false, true) else
    (if c == 3 then Some (true, true) else None)))
