use Rattle.std.specs.Prelude.{ℕ, ◌+◌, ◌*◌, ◌-◌, ◌^◌, ◌%◌, ◌==◌, min, Bool, true, false, List, ◌++◌}
use Rattle.std.specs.Prelude.{codes, decimal}
use Rattle.dali_frame.specs.Hex.{random_text}
use Rattle.dali_special.specs.declared.command.Command.{Command}
use Rattle.dali_special.specs.declared.command.Command.TheVariants as command
use Rattle.dali_script.specs.declared.orders.Order.{Order}
use Rattle.dali_script.specs.declared.orders.Order.TheVariants.{Put, Commit}
use Rattle.dali_script.specs.declared.records.Record.TheVariants.{Reserve, Enrol, Release}
use Rattle.dali_commission_said.specs.declared.progress.Aim.{Aim}
use Rattle.dali_commission_said.specs.declared.progress.Far.{Far}
use Rattle.dali_commission_said.specs.declared.progress.Manner.{Manner}
use Rattle.dali_commission_said.specs.declared.progress.Manner.TheVariants.{Quiet, Plain, Rewritten}
use Rattle.dali_commission_said.specs.declared.progress.Whom.{Whom}
use Rattle.dali_commission_said.specs.declared.progress.Whom.TheVariants as whom

-- WHOM THE FRAMES WERE ABOUT that were put last, with the search address: first all gear
abbrev pub first_aim : Aim
first_aim = record { whom = whom.All; high = 255; middle = 255; low = 255 }

abbrev pub aim_after : Command → Aim → Aim
aim_after (command.SearchHigh byte) aim = record aim { whom = whom.Search; high = byte }
aim_after (command.SearchMiddle byte) aim = record aim { whom = whom.Search; middle = byte }
aim_after (command.SearchLow byte) aim = record aim { whom = whom.Search; low = byte }
aim_after (command.RandomByte a part) aim = record aim { whom = whom.Address a }
aim_after _ aim = aim

-- HOW FAR THE MACHINES ARE: each enrolment is a gear, each frame counts, and a reservation takes a
-- short address that a release gives back
abbrev pub far_after : Order → Far → Far
far_after (Put priority frame) far = record far { frames = min (far.frames + 1) (2 ^ 64 - 1) }
far_after (Commit (Reserve a r)) far = record far { left = far.left - 1 }
far_after (Commit (Release a r)) far = record far { left = min (far.left + 1) (2 ^ 32 - 1) }
far_after (Commit (Enrol a r)) far = record far { found = min (far.found + 1) (2 ^ 32 - 1) }
far_after _ far = far

-- HOW IT IS SAID: not at all, by one line on a terminal, or by lines
abbrev pub manner_of : Bool → Bool → Manner
manner_of true terminal = Quiet
manner_of false true = Rewritten
manner_of false false = Plain

-- it is told at each gear, and on a terminal at every thirty-second frame
abbrev pub is_told : Manner → Order → ℕ → Bool
is_told Plain (Commit (Enrol a r)) frames = true
is_told Rewritten (Commit (Enrol a r)) frames = true
is_told Rewritten (Put priority frame) frames = frames % 32 == 0
is_told _ _ frames = false

-- the texts of both
abbrev pub far_text : Far → List ℕ
far_text far =
    decimal far.found
    ++ (codes " gear found, "
    ++ (decimal far.frames ++ (codes " frames, " ++ (decimal far.left ++ codes " addresses left"))))

abbrev pub whom_text : Whom → ℕ → List ℕ
whom_text whom.All search = codes "of all gear"
whom_text (whom.Address a) search = codes "to short address " ++ decimal a
whom_text whom.Search search = codes "under the search address " ++ random_text search

abbrev pub aim_text : Aim → List ℕ
aim_text aim = whom_text aim.whom (aim.high * 2 ^ 16 + aim.middle * 2 ^ 8 + aim.low)
