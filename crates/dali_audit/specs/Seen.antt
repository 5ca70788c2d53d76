use Rattle.std.specs.Prelude.{◌-◌, Bool, true, false, ◌&&◌, nat_le, Option, Some, None}
use Rattle.std.specs.Prelude.{if◌then◌else◌}
use Rattle.dali_frame.specs.declared.frames.Forward.{Forward}
use Rattle.dali_frame.specs.declared.frames.Answer.{Answer}
use Rattle.dali_frame.specs.declared.frames.Answer.TheVariants as answer
use Rattle.dali_special.specs.declared.command.Command.{Command}
use Rattle.dali_special.specs.declared.command.Command.TheVariants.{Other}
use Rattle.dali_special.specs.Command.{command_of, is_question}
use Rattle.dali_capture.specs.declared.item.Heard.{Heard}
use Rattle.dali_capture.specs.declared.item.Heard.TheVariants as heard
use Rattle.dali_capture.specs.declared.item.Item.{Item}
use Rattle.dali_audit.specs.declared.seen.Seen.{Seen}
use Rattle.dali_audit.specs.declared.seen.Seen.TheVariants as seen

-- gear may answer a question of the command table, and a frame that is no command of it, which
-- may be another question
abbrev pub awaits_by : Command → Bool
awaits_by (Other f) = true
awaits_by c = is_question c

abbrev pub awaits : Forward → Bool
awaits f = awaits_by (command_of f)

-- WHERE A BACKWARD FRAME MAY COME: after such a frame, after one for other devices, which answer
-- too, and after a damaged one, which may have been any; never after another backward frame
abbrev pub may_be_answered : Heard → Bool
may_be_answered (heard.Forward f) = awaits f
may_be_answered heard.Device = true
may_be_answered heard.Damaged = true
may_be_answered (heard.Backward byte) = false

-- AND WHEN: it begins 2,400 to 12,400 µs after the end of that frame (IEC 62386-101:2014, receiver
-- frame sequence timing)
abbrev pub in_window : Item → Item → Bool
in_window asked x = nat_le 2400 (x.at - asked.until) && nat_le (x.at - asked.until) 12400

-- what may be an answer to the item before it; of what a capture begins with nothing is known
abbrev pub is_reply : Option Item → Item → Bool
is_reply None x = true
is_reply (Some asked) x = may_be_answered asked.what && in_window asked x

abbrev pub as_answer : Heard → Answer
as_answer (heard.Backward byte) = answer.Byte byte
as_answer heard.Damaged = answer.Damaged
as_answer (heard.Forward f) = answer.Silence
as_answer heard.Device = answer.Silence

-- what was heard after an item, by the item after it
abbrev pub answer_after : Item → Option Item → Answer
answer_after asked None = answer.Silence
answer_after asked (Some x) =
    if may_be_answered asked.what && in_window asked x then as_answer x.what else answer.Silence

abbrev pub is_silence : Answer → Bool
is_silence answer.Silence = true
is_silence (answer.Byte byte) = false
is_silence answer.Damaged = false

-- WHAT AN ITEM IS, by the one before it and the one after it
abbrev pub seen_by : Heard → Option Item → Item → Option Item → Seen
seen_by (heard.Forward f) before x after = seen.Sent f (answer_after x after)
seen_by heard.Device before x after = seen.Foreign
seen_by (heard.Backward byte) before x after =
    if is_reply before x then seen.Replied else seen.Stray
seen_by heard.Damaged before x after = if is_reply before x then seen.Replied else seen.Broken

abbrev pub seen_of : Option Item → Item → Option Item → Seen
seen_of before x after = seen_by x.what before x after
