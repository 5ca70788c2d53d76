use Rattle.std.specs.Prelude.{List, [], ◌∷◌, ◌++◌, Bool, Option, Some, None}
use Rattle.std.specs.Prelude.{if◌then◌else◌, option_to_list}
use Rattle.dali_frame.specs.declared.frames.Forward.{Forward}
use Rattle.dali_frame.specs.declared.frames.Answer.{Answer}
use Rattle.dali_special.specs.Command.{command_of, is_question}
use Rattle.dali_capture.specs.declared.item.Item.{Item}
use Rattle.dali_audit.specs.declared.seen.Seen.{Seen}
use Rattle.dali_audit.specs.declared.seen.Seen.TheVariants as seen
use Rattle.dali_audit.specs.declared.comparing.Move.TheVariants.{Frame}
use Rattle.dali_audit.specs.declared.comparing.Step.{Step}
use Rattle.dali_audit.specs.Seen.{seen_of}
use Rattle.dali_audit.specs.Findings.{first_of}
use Rattle.dali_audit.specs.Comparing.{is_frame}

-- THE FRAMES OF A BENCH, in order
abbrev pub is_frame_step : Step → Bool
is_frame_step s = is_frame s.what

abbrev pub frames_of : List Step → List Step
frames_of [] = []
frames_of (s ∷ ss) = if is_frame_step s then s ∷ frames_of ss else frames_of ss

-- THE FRAMES OF A CAPTURE, in order: each with its time, and what was heard after it, if it is a
-- question of the command table
abbrev pub asked : Forward → Answer → Option Answer
asked f heard = if is_question (command_of f) then Some heard else None

abbrev pub step_of : Item → Seen → Option Step
step_of x (seen.Sent f heard) = Some (record { at = x.at; what = Frame f (asked f heard) })
step_of x seen.Replied = None
step_of x seen.Stray = None
step_of x seen.Foreign = None
step_of x seen.Broken = None

abbrev pub frames_in : Option Item → List Item → List Step
frames_in before [] = []
frames_in before (x ∷ xs) =
    option_to_list (step_of x (seen_of before x (first_of xs))) ++ frames_in (Some x) xs
