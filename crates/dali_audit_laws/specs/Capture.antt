use Rattle.std.specs.Prelude.{ℕ, ◌+◌, Bool, true, false, List, [], ◌∷◌, ◌++◌}
use Rattle.dali_frame.specs.declared.frames.Answer.{Answer}
use Rattle.dali_frame.specs.declared.frames.Answer.TheVariants.{Silence, Byte, Damaged}
use Rattle.dali_special.specs.declared.command.Command.{Command}
use Rattle.dali_special.specs.declared.command.Command.TheVariants.{Randomise}
use Rattle.dali_special.specs.Command.{command_of}
use Rattle.dali_capture.specs.declared.item.Heard.{Heard}
use Rattle.dali_capture.specs.declared.item.Heard.TheVariants as heard
use Rattle.dali_capture.specs.declared.item.Item.{Item}
use Rattle.dali_capture.specs.Items.{length_of}
use Rattle.dali_script.specs.declared.trace.Entry.{Entry}
use Rattle.dali_events.specs.declared.event.Event.{Event}
use Rattle.dali_events.specs.declared.event.Event.TheVariants as event
use Rattle.dali_events.specs.Happens.{entry}

-- THE FRAMES OF A LOG, each with what was heard after it. A log in which nothing was disturbed has
-- no others on its bus.
abbrev pub sent_in : Event → List Entry
sent_in (event.Sent c f h) = entry f h ∷ []
sent_in _ = []

abbrev pub frames_of : List Event → List Entry
frames_of [] = []
frames_of (e ∷ es) = sent_in e ++ frames_of es

-- TIMES in µs, all nominal. From a frame or an answer to the next frame, as one of priority 1: 34
-- half bits of 417 µs; after RANDOMISE to any other frame, 246, since gear may take 100 ms to draw;
-- from a frame to its answer, 19 (IEC 62386-101:2014, frame sequence timing, from memory).
abbrev pub REST : ℕ
REST = 14178

abbrev pub DRAWING : ℕ
DRAWING = 102582

abbrev pub WAIT : ℕ
WAIT = 7923

abbrev pub is_randomise : Command → Bool
is_randomise Randomise = true
is_randomise _ = false

-- how long the bus is at rest before a frame, by whether the one before was RANDOMISE
abbrev pub rest_before : Bool → Command → ℕ
rest_before false c = REST
rest_before true Randomise = REST
rest_before true c = DRAWING

-- WHAT IS ON THE BUS: a frame that begins at a time, and what is heard after one that ended then
abbrev pub item_at : ℕ → Heard → Item
item_at at what = record { at = at; until = at + length_of what; what = what }

abbrev pub answers_at : ℕ → Answer → List Item
answers_at end Silence = []
answers_at end (Byte byte) = item_at (end + WAIT) (heard.Backward byte) ∷ []
answers_at end Damaged = item_at (end + WAIT) heard.Damaged ∷ []

abbrev pub over_at : ℕ → Answer → ℕ
over_at end Silence = end
over_at end (Byte byte) = (end + WAIT) + length_of (heard.Backward byte)
over_at end Damaged = (end + WAIT) + length_of heard.Damaged

-- when a frame begins and ends, by when the bus was at rest, and when it is at rest again
abbrev pub begins_at : ℕ → Bool → Entry → ℕ
begins_at now drew x = now + rest_before drew (command_of x.frame)

abbrev pub ends_at : ℕ → Bool → Entry → ℕ
ends_at now drew x = begins_at now drew x + length_of (heard.Forward x.frame)

abbrev pub next_at : ℕ → Bool → Entry → ℕ
next_at now drew x = over_at (ends_at now drew x) x.heard

abbrev pub items_from : ℕ → Bool → List Entry → List Item
items_from now drew [] = []
items_from now drew (x ∷ xs) =
    item_at (begins_at now drew x) (heard.Forward x.frame)
    ∷ (answers_at (ends_at now drew x) x.heard
    ++ items_from (next_at now drew x) (is_randomise (command_of x.frame)) xs)

-- THE CAPTURE OF A LOG, with nominal times
abbrev pub capture_of : List Event → List Item
capture_of es = items_from 0 false (frames_of es)
