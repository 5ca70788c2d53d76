use Rattle.std.specs.Prelude.{◌≡◌, ℕ, ◌==◌, if◌then◌else◌, List, [], ◌∷◌, Option, Some, None}
use Rattle.std.specs.Prelude.{option_map}
use Rattle.dali_frame.specs.declared.frames.Answer.{Answer}
use Rattle.dali_frame.specs.declared.frames.Answer.TheVariants.{Byte}
use Rattle.dali_frame.specs.declared.numbers.SearchAddress.{SearchAddress}
use Rattle.dali_frame.specs.Short.{short_of}
use Rattle.dali_frame.specs.Random.{value_of, number_of}
use Rattle.dali_special.specs.declared.command.Part.TheVariants.{High, Middle, Low}
use Rattle.dali_special.specs.declared.command.Command.{Command}
use Rattle.dali_special.specs.declared.command.Command.TheVariants.{SearchHigh, SearchMiddle}
use Rattle.dali_special.specs.declared.command.Command.TheVariants.{SearchLow, QueryShort}
use Rattle.dali_special.specs.declared.command.Command.TheVariants.{RandomByte}
use Rattle.dali_special.specs.Command.{command_of}
use Rattle.dali_script.specs.declared.trace.Entry.{Entry}
use Rattle.dali_script.specs.declared.finding.Finding.{Finding}
use Rattle.dali_script.specs.declared.finding.Finding.TheVariants.{Queried, Resolved}
use Rattle.dali_script.specs.Records.{Assignment, Has}

-- the search address after a command
abbrev pub search_after : Command → SearchAddress → SearchAddress
search_after (SearchHigh byte) r = record r { high = byte }
search_after (SearchMiddle byte) r = record r { middle = byte }
search_after (SearchLow byte) r = record r { low = byte }
search_after _ r = r

-- the search address at power-on: MASK (IEC 62386-102:2014, search address)
abbrev pub at_power_on : SearchAddress
at_power_on = record { high = 0xFF; middle = 0xFF; low = 0xFF }

abbrev pub search_from : SearchAddress → List Entry → SearchAddress
search_from r [] = r
search_from r (e ∷ t) = search_from (search_after (command_of e.frame) r) t

-- the search address that the frames of a trace have set
abbrev pub search_of : List Entry → SearchAddress
search_of t = search_from at_power_on t

-- What the queries of one gear's random address were heard as, high byte first: of which short
-- address, and which bytes. A byte that was not heard leaves nothing.
pub data Asked : Type 0 where
  nothing : Asked
  high_byte : ℕ → ℕ → Asked
  two_bytes : ℕ → ℕ → ℕ → Asked

abbrev pub middle_after : ℕ → ℕ → Asked → Asked
middle_after a middle (high_byte b high) = if b == a then two_bytes a high middle else nothing
middle_after a middle _ = nothing

abbrev pub asked_after : Command → Answer → Asked → Asked
asked_after (RandomByte a High) (Byte v) q = high_byte a v
asked_after (RandomByte a Middle) (Byte v) q = middle_after a v q
asked_after _ _ q = nothing

abbrev pub asked_from : Asked → List Entry → Asked
asked_from q [] = q
asked_from q (e ∷ t) = asked_from (asked_after (command_of e.frame) e.heard q) t

abbrev pub asked_of : List Entry → Asked
asked_of t = asked_from nothing t

-- A FINDING: a QUERY SHORT ADDRESS under a search address that was heard as the code of a short
-- address; or three queries of one gear's random address that were heard as bytes.
abbrev pub spelled_by : ℕ → ℕ → Asked → Option Finding
spelled_by a low (two_bytes b high middle) =
    if b == a then Some (Resolved a (number_of high middle low)) else None
spelled_by a low _ = None

abbrev pub found_by : SearchAddress → Asked → Command → Answer → Option Finding
found_by r q QueryShort (Byte v) = option_map (λ b. Queried b (value_of r)) (short_of v)
found_by r q (RandomByte a Low) (Byte v) = spelled_by a v q
found_by r q _ _ = None

-- the short address and the random address of a finding
abbrev pub assigned : Finding → Assignment
assigned (Queried a r) = (a, r)
assigned (Resolved a r) = (a, r)

-- What may be enrolled by a finding: its pair; by one of the queries of a random address only if
-- the pair is reserved.
abbrev pub MayEnrol : List Assignment → Finding → Assignment → Type 0
MayEnrol reserved (Queried a r) pair = pair ≡ (a, r)
MayEnrol reserved (Resolved a r) pair = (pair ≡ (a, r)) × Has reserved (a, r)

-- the later of two findings, either of which may be none
abbrev pub later : Option Finding → Option Finding → Option Finding
later earlier None = earlier
later earlier (Some found) = Some found

abbrev pub finding_from : SearchAddress → Asked → List Entry → Option Finding
finding_from r q [] = None
finding_from r q (e ∷ t) =
    later (found_by r q (command_of e.frame) e.heard)
    (finding_from (search_after (command_of e.frame) r)
    (asked_after (command_of e.frame) e.heard q) t)

-- the last finding of a trace
abbrev pub finding_of : List Entry → Option Finding
finding_of t = finding_from at_power_on nothing t
