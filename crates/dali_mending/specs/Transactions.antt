use Rattle.std.specs.Prelude.{◌≡◌, ℕ, List, [], ◌∷◌, ◌++◌, map, length, slice_get, Bool, false, not}
use Rattle.std.specs.Prelude.{Option, Some, None, ◌==◌, ◌&&◌, if◌then◌else◌}
use Rattle.dali_frame.specs.declared.frames.Forward.{Forward}
use Rattle.dali_frame.specs.declared.frames.Answer.{Answer}
use Rattle.dali_frame.specs.declared.frames.Answer.TheVariants.{Silence, Byte, Damaged}
use Rattle.dali_frame.specs.Random.{high_of, middle_of, low_of, MASK24}
use Rattle.dali_frame.specs.Short.{code_of}
use Rattle.dali_special.specs.declared.command.Part.TheVariants.{High, Middle, Low}
use Rattle.dali_special.specs.declared.command.Target.TheVariants.{Addressed}
use Rattle.dali_special.specs.declared.command.Command.{Command}
use Rattle.dali_special.specs.declared.command.Command.TheVariants.{Terminate, Initialise}
use Rattle.dali_special.specs.declared.command.Command.TheVariants.{Randomise, Compare, Withdraw}
use Rattle.dali_special.specs.declared.command.Command.TheVariants.{SearchHigh, SearchMiddle}
use Rattle.dali_special.specs.declared.command.Command.TheVariants.{SearchLow, Program}
use Rattle.dali_special.specs.declared.command.Command.TheVariants.{QueryShort, RandomByte}
use Rattle.dali_special.specs.Command.{frame_of}
use Rattle.dali_script.specs.declared.trace.Entry.{Entry}
use Rattle.dali_mending.specs.declared.stage.Stage.{Stage}
use Rattle.dali_mending.specs.declared.stage.Stage.TheVariants as stage

-- THE TRANSACTIONS by which a short address is mended, of at most eight frames each (IEC
-- 62386-102:2014, TERMINATE, INITIALISE, RANDOMISE, COMPARE, WITHDRAW, SEARCHADDRH, SEARCHADDRM,
-- SEARCHADDRL, PROGRAM SHORT ADDRESS, QUERY SHORT ADDRESS, QUERY RANDOM ADDRESS).

-- who had been initialised is no more, and the gear with the short address are
abbrev pub opening : ℕ → List Command → List Command
opening a more =
    Terminate ∷ Initialise (Addressed a) ∷ Initialise (Addressed a) ∷ more

-- the search address is set
abbrev pub under : ℕ → List Command → List Command
under r more = SearchHigh (high_of r) ∷ SearchMiddle (middle_of r) ∷ SearchLow (low_of r) ∷ more

-- the gear with the short address are asked for their random address
abbrev pub asking : ℕ → List Command
asking a = RandomByte a High ∷ RandomByte a Middle ∷ RandomByte a Low ∷ []

-- they draw new ones
abbrev pub drawing : ℕ → List Command
drawing a = opening a (Randomise ∷ Randomise ∷ [])

-- they are initialised, and searched
abbrev pub beginning : ℕ → List Command
beginning a = opening a []

abbrev pub probing : ℕ → List Command
probing n = under n (Compare ∷ [])

-- the gear with a random address tells its short address, and is withdrawn then
abbrev pub keeping : ℕ → ℕ → List Command
keeping a r = opening a (under r (QueryShort ∷ Withdraw ∷ []))

-- the gear with a random address lose the short address, and tell that they have none
abbrev pub erasing : ℕ → ℕ → List Command
erasing a r = opening a (under r (Program None ∷ QueryShort ∷ []))

abbrev pub closing : List Command
closing = Terminate ∷ []

-- THE TRANSACTION OF A STAGE
abbrev pub commands_of : ℕ → Stage → List Command
commands_of a (stage.Asking reply times) = asking a
commands_of a stage.Drawing = drawing a
commands_of a stage.Beginning = beginning a
commands_of a stage.Left = probing MASK24
commands_of a (stage.Searching n) = probing n
commands_of a (stage.Keeping r times) = keeping a r
commands_of a (stage.Erasing r) = erasing a r
commands_of a stage.Closing = closing
commands_of a (stage.Ending o) = closing
commands_of a (stage.Ended o) = []

abbrev pub as_frames : List Command → List Forward
as_frames cs = map frame_of cs

abbrev pub frame_at : ℕ → Stage → ℕ → Option Forward
frame_at a s k = slice_get (as_frames (commands_of a s)) k

-- what was heard after a frame; silence if it was not sent
abbrev pub heard_in : Option Entry → Answer
heard_in None = Silence
heard_in (Some e) = e.heard

abbrev pub answer_at : List Entry → ℕ → Answer
answer_at t k = heard_in (slice_get t k)

-- exactly the answer of a gear with the short address to QUERY SHORT ADDRESS
abbrev pub is_own : ℕ → Answer → Bool
is_own a (Byte byte) = byte == code_of a
is_own a Silence = false
is_own a Damaged = false

-- WITHDRAW stays away if the short address was not told
abbrev pub is_withheld : ℕ → Stage → List Entry → Bool
is_withheld a (stage.Keeping r times) t = (length t == 7) && not (is_own a (answer_at t 6))
is_withheld a _ t = false

-- THE NEXT FRAME of the transaction of a stage, of which these frames were sent
abbrev pub frame_next : ℕ → Stage → List Entry → Option Forward
frame_next a s t = if is_withheld a s t then None else frame_at a s (length t)
