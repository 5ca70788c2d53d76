use Rattle.std.specs.Prelude.{ℕ, ◌+◌, ◌^◌, List, nat_lt, Option, Some, None}
use Rattle.std.specs.Prelude.{Result, Ok, Err, bytes_eq, codes, is_some, option_map, if◌then◌else◌}
use Rattle.std.specs.Result.{result_ok}
use Rattle.dali_frame.specs.Hex.{forward_of}
use Rattle.dali_capture.specs.declared.fault.Reason.{Reason}
use Rattle.dali_capture.specs.declared.fault.Reason.TheVariants.{BadLine, TimeBack, TimeTooLarge}
use Rattle.dali_capture.specs.declared.item.Item.{Item}
use Rattle.dali_capture.specs.declared.item.Heard.{Heard}
use Rattle.dali_capture.specs.declared.item.Heard.TheVariants.{Forward, Backward, Device, Damaged}
use Rattle.dali_capture.specs.declared.log.Log.{Log}
use Rattle.dali_capture.specs.declared.log.LogLine.{LogLine}
use Rattle.dali_capture.specs.declared.log.LogLine.TheVariants as line
use Rattle.dali_capture.specs.Results.{then_ok, map_ok}
use Rattle.dali_capture.specs.Items.{length_of}
use Rattle.dali_capture.specs.Words.{number_of, byte_in, after_mark}

-- A LOG has a line for each item: `T HHHH` and `T device` for a forward frame of 16 and of 24 bits
-- that began at T µs, `T < HH` and `T < damaged` for what answered. A line without words, and one
-- whose first word begins with #, tells nothing. No time is less than the one before.
abbrev pub log_at_first : Log
log_at_first = record { line = line.Fresh; last = 0 }

-- what a word behind the time says, and what one behind the mark of an answer says
abbrev pub frame_in : List ℕ → Option Heard
frame_in word =
    if bytes_eq word (codes "device") then Some Device
    else option_map (λ f. Forward f) (result_ok (forward_of word))

abbrev pub answer_in : List ℕ → Option Heard
answer_in word =
    if bytes_eq word (codes "damaged") then Some Damaged
    else option_map (λ byte. Backward byte) (byte_in word)

-- an item that began then, and is over after the length of its frame
abbrev pub item_at : ℕ → Heard → Result Item Reason
item_at at what =
    if nat_lt (at + length_of what) (2 ^ 64)
    then Ok (record { at = at; until = at + length_of what; what = what })
    else Err TimeTooLarge

abbrev pub logged : ℕ → Option Heard → Result (Log × Option Item) Reason
logged at None = Err BadLine
logged at (Some what) =
    map_ok (λ item. (record { line = line.Told; last = at }, Some item)) (item_at at what)

-- the time of a line
abbrev pub time_of : ℕ → List ℕ → Result ℕ Reason
time_of last word =
    then_ok (number_of BadLine word) (λ at. if nat_lt at last then Err TimeBack else Ok at)

abbrev pub first_word : ℕ → List ℕ → Result Log Reason
first_word last word =
    if is_some (after_mark 35 word) then Ok (record { line = line.Comment; last = last })
    else map_ok (λ at. record { line = line.Time at; last = last }) (time_of last word)

-- WORD BY WORD: what is read of a line after one word more, and the item that it tells
abbrev pub line_word : LogLine → ℕ → List ℕ → Result (Log × Option Item) Reason
line_word line.Fresh last word = map_ok (λ next. (next, None)) (first_word last word)
line_word (line.Time at) last word =
    if bytes_eq word (codes "<") then Ok (record { line = line.Answer at; last = last }, None)
    else logged at (frame_in word)
line_word (line.Answer at) last word = logged at (answer_in word)
line_word line.Told last word = Err BadLine
line_word line.Comment last word = Ok (record { line = line.Comment; last = last }, None)

abbrev pub log_word : Log → List ℕ → Result (Log × Option Item) Reason
log_word log word = line_word log.line log.last word

-- a line ends behind its item, or if it has none
abbrev pub line_end : LogLine → ℕ → Result Log Reason
line_end line.Fresh last = Ok (record { line = line.Fresh; last = last })
line_end (line.Time at) last = Err BadLine
line_end (line.Answer at) last = Err BadLine
line_end line.Told last = Ok (record { line = line.Fresh; last = last })
line_end line.Comment last = Ok (record { line = line.Fresh; last = last })

abbrev pub log_line_end : Log → Result Log Reason
log_line_end log = line_end log.line log.last
