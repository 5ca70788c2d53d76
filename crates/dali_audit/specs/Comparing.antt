use Rattle.std.specs.Prelude.{ℕ, ◌+◌, List, [], ◌∷◌, map, drop, length, Bool, true, false, ◌&&◌}
use Rattle.std.specs.Prelude.{not, ◌==◌, nat_lt, Option, Some, None, if◌then◌else◌}
use Rattle.std.specs.Prelude.{slice_index_or, slice_set}
use Rattle.dali_frame.specs.declared.frames.Answer.{Answer}
use Rattle.dali_frame.specs.declared.frames.Answer.TheVariants as answer
use Rattle.dali_special.specs.declared.command.Command.{Command}
use Rattle.dali_special.specs.declared.command.Command.TheVariants.{Terminate, Initialise}
use Rattle.dali_special.specs.declared.command.Command.TheVariants.{Randomise, Compare, Withdraw}
use Rattle.dali_special.specs.declared.command.Command.TheVariants.{SearchHigh, SearchMiddle}
use Rattle.dali_special.specs.declared.command.Command.TheVariants.{SearchLow, Program, Verify}
use Rattle.dali_special.specs.declared.command.Command.TheVariants.{QueryShort, RandomByte}
use Rattle.dali_special.specs.declared.command.Command.TheVariants.{Arc, Other}
use Rattle.dali_special.specs.Command.{command_of}
use Rattle.dali_gear.specs.declared.row.Reach.TheVariants.{Everyone}
use Rattle.dali_gear.specs.Gear.{Gear, fresh, with_power, without_power, gear_expired, gear_quieted}
use Rattle.dali_gear.specs.Row.{row_after, draws_needed, answers_of, heard_of}
use Rattle.dali_audit.specs.Seen.{is_silence}
use Rattle.dali_audit.specs.declared.comparing.Move.{Move}
use Rattle.dali_audit.specs.declared.comparing.Move.TheVariants.{On, Off, Expire, Quiet, Frame}
use Rattle.dali_audit.specs.declared.comparing.Step.{Step}
use Rattle.dali_audit.specs.declared.comparing.Outcome.{Outcome}
use Rattle.dali_audit.specs.declared.comparing.Outcome.TheVariants.{Agrees, Differs, Spent}

-- WHAT IS HEARD AND WHAT GEAR ANSWER. Gear that a capture does not reveal may answer too. So if
-- the known ones are silent, another may have been heard; if they answer, silence is none. A
-- damaged answer may be that of several. A byte is that of a single known gear, or the equal one of
-- several (this project's profile).

-- YES is FF (101, forward frames)
abbrev pub is_possible : Command → ℕ → Bool
is_possible Compare byte = byte == 0xFF
is_possible (Verify a) byte = byte == 0xFF
is_possible QueryShort byte = true
is_possible (RandomByte a part) byte = true
is_possible Terminate byte = true
is_possible (Initialise target) byte = true
is_possible Randomise byte = true
is_possible Withdraw byte = true
is_possible (SearchHigh sent) byte = true
is_possible (SearchMiddle sent) byte = true
is_possible (SearchLow sent) byte = true
is_possible (Program a) byte = true
is_possible (Arc f) byte = true
is_possible (Other f) byte = true

abbrev pub fits : ℕ → Answer → Bool
fits byte (answer.Byte own) = own == byte
fits byte answer.Silence = true
fits byte answer.Damaged = true

abbrev pub agrees : Command → Answer → Answer → Bool
agrees c answer.Silence given = is_silence given
agrees c answer.Damaged given = true
agrees c (answer.Byte byte) given = is_possible c byte && fits byte given

-- THE GEAR AFTER A MOVE, and how many numbers they draw of those that are left

abbrev pub is_frame : Move → Bool
is_frame (Frame f heard) = true
is_frame _ = false

abbrev pub changed : (Gear → Gear) → ℕ → List Gear → List Gear
changed f k gs =
    if nat_lt k (length gs) then slice_set gs k (f (slice_index_or gs k fresh)) else gs

abbrev pub moved : Move → List ℕ → List Gear → List Gear
moved (On k) left gs = changed with_power k gs
moved (Off k) left gs = changed without_power k gs
moved (Expire k) left gs = changed gear_expired k gs
moved Quiet left gs = map gear_quieted gs
moved (Frame f heard) left gs = row_after Everyone (command_of f) 0 gs left

abbrev pub needed : Move → List Gear → ℕ
needed (Frame f heard) gs = draws_needed Everyone (command_of f) 0 gs
needed (On k) gs = 0
needed (Off k) gs = 0
needed (Expire k) gs = 0
needed Quiet gs = 0

abbrev pub lacks : Move → List ℕ → List Gear → Bool
lacks (Frame f heard) left gs = nat_lt (length left) (draws_needed Everyone (command_of f) 0 gs)
lacks (On k) left gs = false
lacks (Off k) left gs = false
lacks (Expire k) left gs = false
lacks Quiet left gs = false

-- whether something was heard after a frame that the gear did not answer
abbrev pub disagrees : Command → Option Answer → List Gear → Bool
disagrees c None gs = false
disagrees c (Some heard) gs = not (agrees c heard (heard_of (answers_of Everyone c 0 gs)))

abbrev pub differs : Move → List Gear → Bool
differs (Frame f heard) gs = disagrees (command_of f) heard gs
differs (On k) gs = false
differs (Off k) gs = false
differs (Expire k) gs = false
differs Quiet gs = false

-- THE FIRST STEP AT WHICH THEY DIFFER, counted from this number on
abbrev pub compared : ℕ → List Step → List ℕ → List Gear → Outcome
compared at [] left gs = Agrees
compared at (s ∷ ss) left gs =
    if lacks s.what left gs then Spent at
    else (if differs s.what gs then Differs at
    else compared (at + 1) ss (drop (needed s.what gs) left) (moved s.what left gs))
